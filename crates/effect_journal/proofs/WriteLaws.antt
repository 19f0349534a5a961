-- What a line gains by each piece that is written.
use Rattle.std.proofs.Common.{◌≡◌, ℕ, ◌+◌, ◌/◌, ◌%◌, ◌^◌, ◌<◌, ◌≤◌, List, [], ◌∷◌, ◌++◌, take, length, get_or, false, decimal, refl, sym, ◌∙◌, ap, arith, append_assoc, append-nil}
use Rattle.std.specs.Fmt.{digit_glyph}
use Rattle.std.specs.List.{join_with_byte}
use Rattle.std.proofs.lemmas.List.{take_more}
use Rattle.std.proofs.lemmas.Fmt.{decimal_digit, decimal_step}
use Rattle.effect_journal.specs.Journal.{hex}
use Rattle.effect_journal.specs.Writing.{spaced}

pub one_digit : (line : List ℕ) (n : ℕ) → n < 10 → line ++ (48 + n % 10) ∷ [] ≡ line ++ decimal n
one_digit line n small = ap (λ ds. line ++ ds) (rw (decimal_digit n small) (ap (λ d. d ∷ []) (omega arith)))

pub last_digit : (line front : List ℕ) (n : ℕ) → 10 ≤ n → n < 2 ^ 64 → front ≡ line ++ decimal (n / 10) → front ++ (48 + n % 10) ∷ [] ≡ line ++ decimal n
last_digit line front n large fits is =
    ap (λ f. f ++ (48 + n % 10) ∷ []) is ∙ append_assoc line (decimal (n / 10)) ((48 + n % 10) ∷ []) ∙ ap (λ ds. line ++ ds) (sym (decimal_step n large fits))

-- a line is its first word, and each further word behind a space
pub join-spaced : (word : List ℕ) (ws : List (List ℕ)) → join_with_byte 32 (word ∷ ws) ≡ word ++ spaced ws
join-spaced word [] = sym (append-nil word)
join-spaced word (v ∷ ws) = ap (λ r. word ++ 32 ∷ r) (join-spaced v ws)

pub spaced-append : (ws vs : List (List ℕ)) → spaced (ws ++ vs) ≡ spaced ws ++ spaced vs
spaced-append [] vs = refl
spaced-append (w ∷ ws) vs = ap (λ r. 32 ∷ (w ++ r)) (spaced-append ws vs) ∙ ap (λ r. 32 ∷ r) (sym (append_assoc w (spaced ws) (spaced vs)))

pub hex_more : (front : List ℕ) (b : ℕ) → hex (front ++ b ∷ []) ≡ hex front ++ digit_glyph false (b / 16) ∷ digit_glyph false (b % 16) ∷ []
hex_more [] b = refl
hex_more (x ∷ xs) b = ap (λ r. digit_glyph false (x / 16) ∷ digit_glyph false (x % 16) ∷ r) (hex_more xs b)

-- a line that gains the digits of the next byte
pub hex_line : (old line mid new bytes : List ℕ) (i high low : ℕ) → i < length bytes → line ≡ old ++ (32 ∷ hex (take i bytes))
    → high ≡ digit_glyph false (get_or bytes i 0 / 16) → low ≡ digit_glyph false (get_or bytes i 0 % 16) → mid ≡ line ++ high ∷ [] → new ≡ mid ++ low ∷ []
    → new ≡ old ++ (32 ∷ hex (take (i + 1) bytes))
hex_line old line mid new bytes i high low within is is_high is_low to_mid to_new =
    to_new ∙ ap (λ m. m ++ low ∷ []) to_mid ∙ rw (is, is_high, is_low, take_more bytes i 0 within, hex_more (take i bytes) (get_or bytes i 0)) (simp append_assoc)
