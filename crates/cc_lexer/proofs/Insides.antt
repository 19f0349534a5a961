-- How far the inside of a string goes is settled by the bytes.
use Rattle.std.proofs.Common.{◌≡◌, ◌≤◌, ℕ, suc, ◌+◌, take, Bool, true, false, ◌&&◌, not, ◌==◌, cond, [], ◌∷◌, ◌++◌, length, drop, refl, ap, sym, ◌∙◌, arith, length-append, take-append-drop}
use Rattle.std.specs.Prelude.{codes}
use Rattle.std.proofs.lemmas.Bool.{and_parts, not-true}
use Rattle.std.proofs.lemmas.List.{drop_at, append_assoc, length-take-le}
use Rattle.cc_lexer.specs.Spelling.{Text, is_plain, is_escape, is_inside}
use Rattle.cc_lexer.specs.Faults.{goes_on}
use Rattle.std.proofs.Math.Seq.{take-add}

-- how many bytes at the front are plain bytes and escapes
abbrev pub inside_len : Text → ℕ
inside_len [] = 0
inside_len (b ∷ []) = cond (is_plain b) 1 0
inside_len (b ∷ c ∷ bs) = cond (b == 92) (cond (is_escape c) (suc (suc (inside_len bs))) 0) (cond (is_plain b) (suc (inside_len (c ∷ bs))) 0)

plain_no_backslash : (b : ℕ) → is_plain b ≡ true → (b == 92) ≡ false
plain_no_backslash b h = not-true (b == 92) (and_parts _ (not (b == 92)) h).1

halted : (rest : Text) → goes_on rest ≡ false → inside_len rest ≡ 0
halted [] h = refl
halted (b ∷ []) h = rw h refl
halted (b ∷ c ∷ bs) h = go (b == 92) refl h
  where
    go : (x : Bool) → (b == 92) ≡ x → cond x (is_escape c) (is_plain b) ≡ false → inside_len (b ∷ c ∷ bs) ≡ 0
    go true e f = rw (e, f) refl
    go false e f = let g : is_plain b ≡ false = f in rw (g, e) refl

after_plain : (b : ℕ) (rest : Text) → is_plain b ≡ true → inside_len (b ∷ rest) ≡ suc (inside_len rest)
after_plain b [] h = rw h refl
after_plain b (c ∷ bs) h = rw (h, plain_no_backslash b h) refl

pub inside_len-append : (inside rest : Text) → is_inside inside ≡ true → goes_on rest ≡ false → inside_len (inside ++ rest) ≡ length inside
inside_len-append [] rest h i = halted rest i
inside_len-append (b ∷ []) rest h i = after_plain b rest h ∙ ap suc (halted rest i)
inside_len-append (b ∷ c ∷ bs) rest h i = go (b == 92) refl h (λ k. inside_len-append bs rest k i) (λ k. inside_len-append (c ∷ bs) rest k i)
  where
    go : (x : Bool) → (b == 92) ≡ x → cond x (is_escape c && is_inside bs) (is_plain b && is_inside (c ∷ bs)) ≡ true
        → (is_inside bs ≡ true → inside_len (bs ++ rest) ≡ length bs)
        → (is_inside (c ∷ bs) ≡ true → inside_len (c ∷ (bs ++ rest)) ≡ suc (length bs))
        → inside_len (b ∷ c ∷ (bs ++ rest)) ≡ suc (suc (length bs))
    go true e f k l = let w = and_parts (is_escape c) (is_inside bs) f in rw (e, w.0) (ap (λ n. suc (suc n)) (k w.1))
    go false e f k l = let w = and_parts (is_plain b) (is_inside (c ∷ bs)) f in rw (w.0, e) (ap suc (l w.1))

-- the inside of a string and what follows it
pub inside_once : (i j r s : Text) → is_inside i ≡ true → is_inside j ≡ true → goes_on r ≡ false → goes_on s ≡ false → i ++ r ≡ j ++ s → (length i ≡ length j) × (r ≡ s)
inside_once i j r s h k p q e =
    let a = inside_len-append i r h p in
    let b = inside_len-append j s k q in
    let n : length i ≡ length j = sym a ∙ ap inside_len e ∙ b in
    let l = drop_at i r (length i) refl in
    let m = drop_at j s (length i) (sym n) in
    (n, sym l ∙ ap (drop (length i)) e ∙ m)

-- ---- one byte or escape after another

is_inside-append : (a b : Text) → is_inside a ≡ true → is_inside b ≡ true → is_inside (a ++ b) ≡ true
is_inside-append [] b h i = i
is_inside-append (x ∷ []) [] h i = h
is_inside-append (x ∷ []) (y ∷ b) h i = rw (h, plain_no_backslash x h) i
is_inside-append (x ∷ y ∷ a) b h i = go (x == 92) refl h (λ k. is_inside-append a b k i) (λ k. is_inside-append (y ∷ a) b k i)
  where
    go : (z : Bool) → (x == 92) ≡ z → cond z (is_escape y && is_inside a) (is_plain x && is_inside (y ∷ a)) ≡ true
        → (is_inside a ≡ true → is_inside (a ++ b) ≡ true)
        → (is_inside (y ∷ a) ≡ true → is_inside (y ∷ (a ++ b)) ≡ true)
        → is_inside (x ∷ y ∷ (a ++ b)) ≡ true
    go true e f k l = let w = and_parts (is_escape y) (is_inside a) f in rw (e, w.0) (k w.1)
    go false e f k l = let w = and_parts (is_plain x) (is_inside (y ∷ a)) f in rw (w.0, e) (l w.1)

pub inside_more : (here : Text) (n m : ℕ) → is_inside (take n here) ≡ true → is_inside (take m (drop n here)) ≡ true → is_inside (take (n + m) here) ≡ true
inside_more here n m h i = rw (take-add n m here) (is_inside-append (take n here) (take m (drop n here)) h i)

-- ---- a string at the front of a text

string_length : (inside : Text) → length (codes "\"" ++ inside ++ codes "\"") ≡ length inside + 2
string_length inside = omega (arith, length-append (codes "\"" ++ inside) (codes "\""), length-append (codes "\"") inside)

pub string_size : (here inside : Text) (n : ℕ) → n ≤ length here → take n here ≡ codes "\"" ++ inside ++ codes "\"" → n ≡ length inside + 2
string_size here inside n h e = omega (arith, ap length e, string_length inside, length-take-le n here h)

pub string_parts : (here inside : Text) (n : ℕ) → take n here ≡ codes "\"" ++ inside ++ codes "\"" → here ≡ codes "\"" ++ inside ++ (codes "\"" ++ drop n here)
string_parts here inside n e = sym (take-append-drop n here) ∙ ap (λ t. t ++ drop n here) e ∙ append_assoc (codes "\"" ++ inside) (codes "\"") (drop n here)

pub quote_halts : (bs : Text) → goes_on (codes "\"" ++ bs) ≡ false
quote_halts [] = refl
quote_halts (b ∷ bs) = refl
