-- An item that is changed in a list.
use Rattle.std.proofs.Common.{◌≡◌, ℕ, zero, suc, ◌<◌, ◌≤◌, List, [], ◌∷◌, length, map, get_or, slice_set, refl, ap, ◌∙◌, arith}
use Rattle.cc_ops.specs.Shelves.{changed}

-- the item that is there is set to what a change makes of it
pub set_changed : {X : Type 0} (f : X → X) (xs : List X) (i : ℕ) (x y : X) → i < length xs → x ≡ get_or xs i x → y ≡ f x → slice_set xs i y ≡ changed xs i f
set_changed f [] i x y h there e = absurd (omega arith)
set_changed f (z ∷ xs) zero x y h there e = ap (λ v. v ∷ xs) (e ∙ ap f there)
set_changed f (z ∷ xs) (suc i) x y h there e = ap (λ ys. z ∷ ys) (set_changed f xs i x y (omega arith) there e)

-- no such item
pub changed_past : {X : Type 0} (f : X → X) (xs : List X) (i : ℕ) → length xs ≤ i → xs ≡ changed xs i f
changed_past f [] i h = refl
changed_past f (x ∷ xs) zero h = absurd (omega arith)
changed_past f (x ∷ xs) (suc i) h = ap (λ ys. x ∷ ys) (changed_past f xs i (omega arith))

-- an item is set, and then each is mapped
pub set_mapped : {X Y : Type 0} (f : X → Y) (xs : List X) (i : ℕ) (x : X) → i < length xs → map f (slice_set xs i x) ≡ changed (map f xs) i (λ y. f x)
set_mapped f [] i x h = absurd (omega arith)
set_mapped f (y ∷ xs) zero x h = refl
set_mapped f (y ∷ xs) (suc i) x h = ap (λ ys. f y ∷ ys) (set_mapped f xs i x (omega arith))
