-- Items of lists by their places.
use Rattle.std.proofs.Common.{◌≡◌, ℕ, zero, suc, ◌<◌, List, [], ◌∷◌, length, map, get_or, Some, None, slice_get, slice_set, refl, sym, ap, ◌∙◌, arith}
use Rattle.std.proofs.lemmas.Option.{slice_get-map, slice_get-get_or}

module _ {X : Type 0} (xs : List X) (k : ℕ) (x : X) (within : k < length xs) (is : x ≡ get_or xs k x) where
  -- what an index finds
  pub found : slice_get xs k ≡ Some x
  found = slice_get-get_or xs k x within ∙ ap Some (sym is)

  pub found_mapped : {Y : Type 0} (f : X → Y) → Some (f x) ≡ slice_get (map f xs) k
  found_mapped f = sym (slice_get-map f xs k ∙ ap (λ o. elim o [ None ↦ None | Some y ↦ Some (f y) ]) found)

-- what is found where an item was set
pub found_set : {X : Type 0} (xs : List X) (k : ℕ) (y : X) → k < length xs → slice_get (slice_set xs k y) k ≡ Some y
found_set [] k y within = absurd (omega arith)
found_set (x ∷ xs) zero y within = refl
found_set (x ∷ xs) (suc k) y within = found_set xs k y (omega arith)

-- an item is set that is told as the one in its place
pub told_alike : {X Y : Type 0} (f : X → Y) (xs : List X) (k : ℕ) (x y : X) → k < length xs → x ≡ get_or xs k x → f y ≡ f x
    → map f (slice_set xs k y) ≡ map f xs
told_alike f [] k x y within is same = absurd (omega arith)
told_alike f (z ∷ xs) zero x y within is same = ap (λ w. w ∷ map f xs) (same ∙ ap f is)
told_alike f (z ∷ xs) (suc k) x y within is same = ap (λ ws. f z ∷ ws) (told_alike f xs k x y (omega arith) is same)
