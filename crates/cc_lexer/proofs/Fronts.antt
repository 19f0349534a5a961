-- The longest front of a list whose elements pass a test.
use Rattle.std.proofs.Common.{◌≡◌, ℕ, zero, suc, ◌+◌, ◌≤◌, Bool, true, false, cond, List, [], ◌∷◌, length, take, refl, arith}
use Rattle.std.proofs.Math.Numerals.{one-add}
use Rattle.std.proofs.lemmas.Bool.{and_parts, and_from}
use Rattle.std.specs.List.{list_all, prefix_len}

pub front_passes : (p : ℕ → Bool) (xs : List ℕ) → list_all p (take (prefix_len p xs) xs) ≡ true
front_passes p [] = refl
front_passes p (x ∷ xs) = go (p x) refl (front_passes p xs)
  where
    go : (b : Bool) → p x ≡ b → list_all p (take (prefix_len p xs) xs) ≡ true → list_all p (take (cond b (1 + prefix_len p xs) 0) (x ∷ xs)) ≡ true
    go true e h = rw one-add (and_from (p x) _ e h)
    go false e h = refl

-- a front that passes is no longer
pub front_most : (p : ℕ → Bool) (xs : List ℕ) (m : ℕ) → m ≤ length xs → list_all p (take m xs) ≡ true → m ≤ prefix_len p xs
front_most p xs zero h i = omega arith
front_most p [] (suc m) h i = absurd (omega arith)
front_most p (x ∷ xs) (suc m) h i =
    let w = and_parts (p x) (list_all p (take m xs)) i in
    let r = front_most p xs m (omega arith) w.1 in
    rw w.0 (omega arith)

-- a test that another one implies
pub all_weaker : (p q : ℕ → Bool) (xs : List ℕ) → ((x : ℕ) → p x ≡ true → q x ≡ true) → list_all p xs ≡ true → list_all q xs ≡ true
all_weaker p q [] h i = refl
all_weaker p q (x ∷ xs) h i = let w = and_parts (p x) (list_all p xs) i in and_from (q x) (list_all q xs) (h x w.0) (all_weaker p q xs h w.1)
