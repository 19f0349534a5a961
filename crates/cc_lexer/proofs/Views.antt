-- What the class of a text says of its first bytes.
use Rattle.std.proofs.Common.{◌≡◌, ℕ, Bool, true, false, ◌&&◌, ◌==◌, cond, [], ◌∷◌, refl, subst}
use Rattle.std.proofs.lemmas.Bool.{and_parts, eqb-true}
use Rattle.std.specs.Prelude.{codes}
use Rattle.cc_lexer.specs.declared.class.Class.{Class}
use Rattle.cc_lexer.specs.declared.class.Class.TheVariants as class
use Rattle.cc_lexer.specs.Spelling.{Text, is_letter, is_digit}
use Rattle.cc_lexer.specs.Cut.{Begins, is_blank}
use Rattle.cc_lexer.specs.Next.{byte_class, class_at}

-- the text has a first byte that passes a test
pub record HasFirst (p : ℕ → Bool) (text : Text) : Type 0 where
  pub first : ℕ
  pub rest : Text
  pub parts : text ≡ first ∷ rest
  pub passes : p first ≡ true

abbrev pub View : Class → Text → Type 0
View class.End t = t ≡ []
View class.Blank t = HasFirst is_blank t
View class.LineComment t = Begins t (codes "//")
View class.Comment t = Begins t (codes "/*")
View class.Hash t = HasFirst (λ b. b == 35) t
View class.Quote t = HasFirst (λ b. b == 34) t
View class.Letter t = HasFirst is_letter t
View class.Digit t = HasFirst is_digit t
View class.Other t = HasFirst (λ b. true) t

by_byte : (b : ℕ) (rest : Text) → View (byte_class b) (b ∷ rest)
by_byte b rest = go (is_blank b) refl (b == 35) refl (b == 34) refl (is_letter b) refl (is_digit b) refl
  where
    has : (p : ℕ → Bool) → p b ≡ true → HasFirst p (b ∷ rest)
    has p e = record { first = b; rest = rest; parts = refl; passes = e }

    go : (v : Bool) → is_blank b ≡ v → (w : Bool) → (b == 35) ≡ w → (x : Bool) → (b == 34) ≡ x → (y : Bool) → is_letter b ≡ y → (z : Bool) → is_digit b ≡ z
        → View (cond v class.Blank (cond w class.Hash (cond x class.Quote (cond y class.Letter (cond z class.Digit class.Other))))) (b ∷ rest)
    go true e w f x g y h z i = has is_blank e
    go false e true f x g y h z i = has (λ c. c == 35) f
    go false e false f true g y h z i = has (λ c. c == 34) g
    go false e false f false g true h z i = has is_letter h
    go false e false f false g false h true i = has is_digit i
    go false e false f false g false h false i = has (λ c. true) refl

view : (t : Text) → View (class_at t) t
view [] = refl
view (b ∷ []) = by_byte b []
view (b ∷ c ∷ bs) = go (b == 47 && c == 47) refl (b == 47 && c == 42) refl
  where
    two : (n : ℕ) → (b == 47 && c == n) ≡ true → Begins (b ∷ c ∷ bs) (47 ∷ n ∷ [])
    two n e = let w = and_parts (b == 47) (c == n) e in (bs, let p = eqb-true b 47 w.0 in let q = eqb-true c n w.1 in cc)

    go : (x : Bool) → (b == 47 && c == 47) ≡ x → (y : Bool) → (b == 47 && c == 42) ≡ y → View (cond x class.LineComment (cond y class.Comment (byte_class b))) (b ∷ c ∷ bs)
    go true e y f = two 47 e
    go false e true f = two 42 f
    go false e false f = by_byte b (c ∷ bs)

pub viewed : (t : Text) (c : Class) → class_at t ≡ c → View c t
viewed t c e = subst (λ x. View x t) e (view t)
