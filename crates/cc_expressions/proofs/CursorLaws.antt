-- What the cursor's calls give.
use Rattle.std.proofs.Common.{◌≡◌, ℕ, zero, suc, ◌+◌, ◌||◌, ◌==◌, map, add-one, ◌<◌, ◌≤◌, ◌-◌, take, Bool, true, false, List, [], ◌∷◌, length, get_or, drop, refl, arith}
use Rattle.std.proofs.Math.Seq.{take-length, drop-cons}
use Rattle.std.proofs.lemmas.List.{drop_all}
use Rattle.std.proofs.lemmas.Str.{IsUtf8-from_ascii}
use Rattle.std.specs.Str.{IsAscii, IsUtf8}
use Rattle.cc_lexer.specs.declared.token.Token.{Token}
use Rattle.cc_lexer.specs.declared.token.TokenKind.{TokenKind}
use Rattle.cc_lexer.specs.declared.token.TokenKind.TheVariants as k
use Rattle.cc_grammar.specs.declared.fault.Fault.TheVariants.{Syntax, TooDeep}
use Rattle.cc_grammar.specs.Lexeme.{Lexeme, Lexemes, lexemes, token_text}
use Rattle.cc_grammar.specs.Kinds.{Kinds, code, kinds, has, heads, tail_of}
use Rattle.cc_expressions.specs.Fits.{Fits, AllFit, IsText}
use Rattle.cc_grammar.specs.Reading.{Good, Failed, token, opening, itself}

heads_none : (a : Lexemes) → heads [] a ≡ false
heads_none [] = refl
heads_none (t ∷ a) = refl

heads_cons : (m : ℕ) (ms : Kinds) (a : Lexemes) → heads (m ∷ ms) a ≡ (heads (m ∷ []) a || heads ms a)
heads_cons m ms [] = refl
heads_cons m ms (t ∷ a) = go (code t.kind == m) (has ms (code t.kind))
  where
    go : (x y : Bool) → (x || y) ≡ ((x || false) || y)
    go true y = refl
    go false y = refl

pub heads_step : (ks : List TokenKind) (i : ℕ) (d : TokenKind) (a : Lexemes) → i < length ks → heads (code (get_or ks i d) ∷ []) a ≡ false → heads (kinds (drop i ks)) a ≡ heads (kinds (drop (i + 1) ks)) a
heads_step ks i d a h e = rw (drop-cons ks i d h, add-one, heads_cons, e) refl

pub heads_found : (ks : List TokenKind) (i : ℕ) (d : TokenKind) (a : Lexemes) → i < length ks → heads (code (get_or ks i d) ∷ []) a ≡ true → heads (kinds (drop i ks)) a ≡ true
heads_found ks i d a h e = rw (drop-cons ks i d h, heads_cons, e) refl

pub heads_all : (ks : List TokenKind) (i : ℕ) (a : Lexemes) → length ks ≤ i → heads (kinds (drop i ks)) a ≡ false
heads_all ks i a h = rw (drop_all i ks h) (heads_none a)

pub tail_none : (a : Lexemes) → length a ≡ 0 → tail_of a ≡ []
tail_none [] h = refl
tail_none (t ∷ a) h = absurd (omega arith)

pub tail_some : (a : Lexemes) → (length a ≡ 0 → ⊥) → tail_of a ≡ take (length a - 1) (drop 1 a)
tail_some [] h = absurd (h refl)
tail_some (t ∷ a) h = let e : length (t ∷ a) - 1 ≡ length a = omega arith in rw (e, take-length a) refl

pub token_fails : {A : Type 0} (n : ℕ) (kept : Lexeme → A) (a : Lexemes) → heads (n ∷ []) a ≡ false → token n kept a ≡ Failed Syntax a
unfolding token
token_fails n kept [] h = refl
token_fails n kept (t ∷ a) h = rw h refl

pub token_takes : {A : Type 0} (n : ℕ) (kept : Lexeme → A) (text : List ℕ) (ts : List Token) (d : Token) → heads (n ∷ []) (lexemes text ts) ≡ true
    → token n kept (lexemes text ts) ≡ Good (kept (record { kind = (get_or ts 0 d).kind; text = token_text text (get_or ts 0 d); line = (get_or ts 0 d).line })) (lexemes text (take (length ts - 1) (drop 1 ts)))
unfolding token
token_takes n kept text [] d h = cc
token_takes n kept text (t ∷ ts) d h = let e : length (t ∷ ts) - 1 ≡ length ts = omega arith in rw (h, e, take-length ts) refl

pub opening_fails : (n : ℕ) (kind : TokenKind) (a : Lexemes) → (0 < n → ⊥) → heads (code kind ∷ []) a ≡ false → opening n kind a ≡ Failed Syntax a
unfolding opening
opening_fails zero kind a e h = rw h refl
opening_fails (suc n) kind a e h = absurd (e (omega arith))

pub opening_deep : (n : ℕ) (kind : TokenKind) (a : Lexemes) → (0 < n → ⊥) → heads (code kind ∷ []) a ≡ true → opening n kind a ≡ Failed TooDeep a
unfolding opening
opening_deep zero kind a e h = rw h refl
opening_deep (suc n) kind a e h = absurd (e (omega arith))

pub opening_goes : (n : ℕ) (kind : TokenKind) (a : Lexemes) → 0 < n → opening n kind a ≡ itself kind a
unfolding opening
opening_goes zero kind a h = absurd (omega arith)
opening_goes (suc n) kind a h = refl

-- ---- the bytes of a token

pub first_fits : (n : ℕ) (text : List ℕ) (ts : List Token) (d : Token) → AllFit text ts → heads (n ∷ []) (lexemes text ts) ≡ true → Fits text (get_or ts 0 d)
first_fits n text [] d h i = cc
first_fits n text (t ∷ ts) d h i = h.0

name_ascii : (kind : TokenKind) (bytes : List ℕ) → code kind ≡ 0 → IsText kind bytes → IsAscii bytes
name_ascii k.Name bytes h i = i
name_ascii (k.Int v) bytes h i = absurd cc
name_ascii k.Str bytes h i = absurd cc
name_ascii (k.Word w) bytes h i = absurd (omega arith)
name_ascii (k.Mark m) bytes h i = absurd (omega arith)

pub first_ascii : (text : List ℕ) (ts : List Token) (d : Token) → AllFit text ts → heads (0 ∷ []) (lexemes text ts) ≡ true → IsAscii (token_text text (get_or ts 0 d))
first_ascii text [] d h i = cc
first_ascii text (t ∷ ts) d h i = name_ascii t.kind (token_text text t) (grind (arith)) h.0.is_text

pub ascii_text : (bytes : List ℕ) → IsAscii bytes → IsUtf8 bytes
ascii_text bytes h = IsUtf8-from_ascii bytes h
