-- Tests by `or`, and over a list.
use Rattle.std.proofs.Common.{◌≡◌, ℕ, zero, suc, ◌⊎◌, inl, inr, Bool, true, false, ◌||◌, List, [], ◌∷◌, Some, slice_get, refl}
use Rattle.std.specs.List.{list_any}

pub or-cases : (a b : Bool) → (a || b) ≡ true → (a ≡ true) ⊎ (b ≡ true)
or-cases true b h = inl refl
or-cases false b h = inr h

pub or-left : (a b : Bool) → a ≡ true → (a || b) ≡ true
or-left true b h = refl
or-left false b h = cc

pub or-right : (a b : Bool) → b ≡ true → (a || b) ≡ true
or-right true b h = refl
or-right false b h = h

pub any-means : {X : Type 0} (p : X → Bool) (xs : List X) → list_any p xs ≡ true → (x : X) × ((k : ℕ) × (slice_get xs k ≡ Some x)) × (p x ≡ true)
any-means p [] h = cc
any-means p (x ∷ xs) h = elim (or-cases (p x) (list_any p xs) h) [
  | inl yes' ↦ (x, (0, refl), yes')
  | inr more ↦ let found = any-means p xs more in (found.0, (suc found.1.0, found.1.1), found.2)
]

pub any-from : {X : Type 0} (p : X → Bool) (xs : List X) (k : ℕ) (x : X) → slice_get xs k ≡ Some x → p x ≡ true → list_any p xs ≡ true
any-from p [] k x at h = cc
any-from p (y ∷ ys) zero x at h = or-left (p y) (list_any p ys) (let e : y ≡ x = cc in rw e h)
any-from p (y ∷ ys) (suc k) x at h = or-right (p y) (list_any p ys) (any-from p ys k x at h)
