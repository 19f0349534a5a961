-- What holds of the words of a line.
use Rattle.std.proofs.Common.{◌≡◌, ℕ, ◌+◌, ◌^◌, ◌<◌, ◌≤◌, ◌==◌, zero, suc, Bool, true, false, not, cond, ◌&&◌, nat_lt, List, [], ◌∷◌, ◌++◌, length, get_or, take, drop, Option, Some, None, Result, Ok, Err, refl, sym, ◌∙◌, ap, subst, ⊎_elim, arith, rules, decimal, add-one}
use Rattle.std.specs.List.{position, position_or_len, list_all}
use Rattle.std.specs.Option.{option_map}
use Rattle.std.specs.Result.{result_ok, OkIff}
use Rattle.std.specs.Char.{is_ascii_digit}
use Rattle.std.specs.Str.{IsUtf8}
use Rattle.std.specs.Str.Parse.{digits_value, ParsesUnsigned}
use Rattle.std.proofs.lemmas.Bool.{cases_lt, lt-ltb, le-ltb, eq-eqb, ne_eqb, eqb-true, eqb-false, ltb-true}
use Rattle.std.proofs.lemmas.Bool.Decides.{nat_tests}
use Rattle.std.proofs.lemmas.Fmt.{decimal-digits_value, digits_value-decimal, digits_decimal, decimal_nonempty, first_decimal, IsAscii-from_digits, decimal_digit}
use Rattle.std.proofs.lemmas.Str.{IsUtf8-from_ascii}
use Rattle.std.proofs.lemmas.Str.Parse.{IsNumeralModel, numerals_by_value, parse_digits}
use Rattle.std.proofs.lemmas.Option.{cond_some, none-some}
use Rattle.effect_journal.specs.Journal.{Lacks}
use Rattle.effect_journal.specs.Reading.{cut, is_natural, natural_of}

-- the first place of a list that passes is 0, or one more than in the rest
position-cons : (p : ℕ → Bool) (x : ℕ) (xs : List ℕ) → position p (x ∷ xs) ≡ cond (p x) (Some 0) (option_map (λ i. i + 1) (position p xs))
position-cons p x xs =
    elim (p x) as (λ b. cond (nat_lt (cond (not b) (1 + position_or_len p xs) 0) (length (x ∷ xs))) (Some (cond (not b) (1 + position_or_len p xs) 0)) None
    ≡ cond b (Some 0) (option_map (λ i. i + 1) (position p xs))) [
      | true ↦ grind (arith, nat_tests)
      | false ↦ one_more (position_or_len p xs) (length xs)
    ]
  where
    one_more : (i n : ℕ) → ◌≡◌ {A = Option ℕ} (cond (nat_lt (1 + i) (suc n)) (Some (1 + i)) None) (option_map (λ k. k + 1) (cond (nat_lt i n) (Some i) None))
    one_more i n = ⊎_elim (λ (h : i < n). rw (lt-ltb i n h, lt-ltb (1 + i) (suc n) (omega arith)) (ap Some (omega arith)))
        (λ (h : n ≤ i). rw (le-ltb i n h, le-ltb (1 + i) (suc n) (omega arith)) refl) (cases_lt i n)

-- the first byte goes before what is found in the rest
abbrev before : ℕ → Option (List ℕ × List ℕ) → Option (List ℕ × List ℕ)
before x o = option_map (λ parts. (x ∷ parts.0, parts.1)) o

cut-cons : (byte x : ℕ) (xs : List ℕ) → cut byte (x ∷ xs) ≡ cond (x == byte) (Some ([], xs)) (before x (cut byte xs))
unfolding cut
cut-cons byte x xs = rw (position-cons (λ b. b == byte) x xs) (by_case (x == byte) (position (λ b. b == byte) xs))
  where
    by_case : (t : Bool) (o : Option ℕ) → option_map (λ at. (take at (x ∷ xs), drop (at + 1) (x ∷ xs))) (cond t (Some 0) (option_map (λ i. i + 1) o))
        ≡ cond t (Some ([], xs)) (before x (option_map (λ at. (take at xs, drop (at + 1) xs)) o))
    by_case true o = refl
    by_case false None = refl
    by_case false (Some i) = rw (add-one, add-one) refl

-- a byte that a text lacks is found behind it
pub cut_again : (byte : ℕ) (a b : List ℕ) → Lacks byte a → cut byte (a ++ byte ∷ b) ≡ Some (a, b)
cut_again byte [] b h = cut-cons byte byte b ∙ rw (eq-eqb byte byte refl) refl
cut_again byte (x ∷ a) b h = cut-cons byte x (a ++ byte ∷ b) ∙ rw (ne_eqb x byte h.0, cut_again byte a b h.1) refl

-- what is cut off lacks the byte
abbrev pub IsCut : ℕ → List ℕ → Option (List ℕ × List ℕ) → Type 0
IsCut byte text None = Lacks byte text
IsCut byte text (Some parts) = (text ≡ parts.0 ++ byte ∷ parts.1) × Lacks byte parts.0

cut_step : (byte x : ℕ) (xs : List ℕ) (t : Bool) → (x == byte) ≡ t → (o : Option (List ℕ × List ℕ)) → IsCut byte xs o
    → IsCut byte (x ∷ xs) (cond t (Some ([], xs)) (before x o))
cut_step byte x xs true is o h = (ap (λ b. b ∷ xs) (eqb-true x byte is), tt)
cut_step byte x xs false is None h = (eqb-false x byte is, h)
cut_step byte x xs false is (Some parts) h = (ap (λ bs. x ∷ bs) h.0, (eqb-false x byte is, h.1))

pub cut_is : (byte : ℕ) (text : List ℕ) → IsCut byte text (cut byte text)
unfolding cut
cut_is byte [] = tt
cut_is byte (x ∷ xs) = subst (IsCut byte (x ∷ xs)) (sym (cut-cons byte x xs)) (cut_step byte x xs (x == byte) refl (cut byte xs) (cut_is byte xs))

-- digits are told by a test on each byte
digits : IsNumeralModel (λ ds. list_all is_ascii_digit ds ≡ true) (digits_value 10)
digits = numerals_by_value _ (search rules)

-- digits with no zero before them
record IsPlain (word : List ℕ) : Type 0 where
  all : list_all is_ascii_digit word ≡ true
  some : 0 < length word
  first : get_or word 0 0 ≡ 48 → length word ≡ 1

lone_zero : (d : ℕ) (ds : List ℕ) → d ≡ 48 → length ds ≡ 0 → IsPlain (d ∷ ds)
lone_zero d [] is none = record { all = rw is refl; some = omega arith; first = λ _. refl }
lone_zero d (x ∷ xs) is none = absurd (omega arith)

plain_natural : (word : List ℕ) → is_natural word ≡ true → IsPlain word
unfolding is_natural
plain_natural [] e = absurd (cc)
plain_natural (d ∷ ds) e = by_case (d == 48) refl e
  where
    by_case : (t : Bool) → (d == 48) ≡ t → cond t (length ds == 0) (is_ascii_digit d && list_all is_ascii_digit ds) ≡ true → IsPlain (d ∷ ds)
    by_case true is e = lone_zero d ds (eqb-true d 48 is) (eqb-true (length ds) 0 e)
    by_case false is e = record { all = e; some = omega arith; first = λ same. absurd (eqb-false d 48 is same) }

natural_plain : (word : List ℕ) → IsPlain word → is_natural word ≡ true
unfolding is_natural
natural_plain [] p = absurd (omega (arith, p.some))
natural_plain (d ∷ ds) p = by_case (d == 48) refl
  where
    by_case : (t : Bool) → (d == 48) ≡ t → cond t (length ds == 0) (is_ascii_digit d && list_all is_ascii_digit ds) ≡ true
    by_case true is = eq-eqb (length ds) 0 (omega (arith, p.first (eqb-true d 48 is)))
    by_case false is = p.all

pub natural_not : (word : List ℕ) → is_natural word ≡ false → natural_of word ≡ None
unfolding natural_of
natural_not word e = rw e refl

natural_is : (word : List ℕ) → is_natural word ≡ true → natural_of word ≡ cond (nat_lt (digits_value 10 word) (2 ^ 64)) (Some (digits_value 10 word)) None
unfolding natural_of
natural_is word e = rw e refl

pub natural_utf8 : (word : List ℕ) → is_natural word ≡ true → IsUtf8 word
natural_utf8 word e = IsUtf8-from_ascii word (IsAscii-from_digits word (digits.to word (plain_natural word e).all))

pub natural_parsed : {E : Type 0} (word : List ℕ) (r : Result ℕ E) → is_natural word ≡ true → ParsesUnsigned 64 10 word r → result_ok r ≡ natural_of word
natural_parsed {E} word r e h =
    let p = plain_natural word e in by_case r (parse_digits digits {E = E} 64 word r h p.all) ∙ sym (natural_is word e)
  where
    by_case : (o : Result ℕ E) → OkIff o ((0 < length word) × (digits_value 10 word < 2 ^ 64)) (digits_value 10 word)
        → result_ok o ≡ cond (nat_lt (digits_value 10 word) (2 ^ 64)) (Some (digits_value 10 word)) None
    by_case (Ok n) q = rw (lt-ltb (digits_value 10 word) (2 ^ 64) q.0.1) (ap Some q.1)
    by_case (Err d) q = ⊎_elim (λ (below : digits_value 10 word < 2 ^ 64). absurd (q ((plain_natural word e).some, below)))
        (λ (above : 2 ^ 64 ≤ digits_value 10 word). rw (le-ltb (digits_value 10 word) (2 ^ 64) above) refl) (cases_lt (digits_value 10 word) (2 ^ 64))

decimal_plain : (n : ℕ) → n < 2 ^ 64 → IsPlain (decimal n)
decimal_plain n small = record { all = digits_decimal digits n small; some = decimal_nonempty n small; first = first n small }
  where
    first : (m : ℕ) → m < 2 ^ 64 → get_or (decimal m) 0 0 ≡ 48 → length (decimal m) ≡ 1
    first zero h e = ap length (decimal_digit 0 (omega arith))
    first (suc m) h e = absurd (omega (arith, first_decimal (suc m) (omega arith) h, e))

pub natural_again : (n : ℕ) → n < 2 ^ 64 → natural_of (decimal n) ≡ Some n
natural_again n small =
    natural_is (decimal n) (natural_plain (decimal n) (decimal_plain n small)) ∙ rw (digits_value-decimal digits n small, lt-ltb n (2 ^ 64) small) refl

pub natural_found : (n : ℕ) (word : List ℕ) → natural_of word ≡ Some n → (word ≡ decimal n) × (n < 2 ^ 64)
natural_found n word e = by_case (is_natural word) refl
  where
    by_case : (t : Bool) → is_natural word ≡ t → (word ≡ decimal n) × (n < 2 ^ 64)
    by_case false is = absurd (none-some n (sym (natural_not word is) ∙ e))
    by_case true is =
        let p = plain_natural word is in
        let q = cond_some (nat_lt (digits_value 10 word) (2 ^ 64)) (digits_value 10 word) n (sym (natural_is word is) ∙ e) in
        let below : digits_value 10 word < 2 ^ 64 = ltb-true (digits_value 10 word) (2 ^ 64) q.0 in
        (sym (decimal-digits_value digits word p.all p.some p.first below) ∙ ap decimal q.1, omega arith)

pub cut_none : (byte : ℕ) (text : List ℕ) → Lacks byte text → cut byte text ≡ None
unfolding cut
cut_none byte [] h = refl
cut_none byte (x ∷ xs) h = cut-cons byte x xs ∙ rw (ne_eqb x byte h.0, cut_none byte xs h.1) refl
