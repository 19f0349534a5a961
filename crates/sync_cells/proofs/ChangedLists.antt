-- A list where one item is changed.
use Rattle.std.proofs.Common.{◌≡◌, ◌≢◌, ℕ, zero, suc, ◌+◌, ◌<◌, ◌≤◌, List, [], ◌∷◌, length, take, drop, Some, None, refl, ap, ◌∙◌, arith}
use Rattle.std.specs.Prelude.{slice_get, option_map}
use Rattle.sync_cells.specs.Cells.{change_item}

module _ {X : Type 0} where
  pub length-change_item : (xs : List X) (i : ℕ) (f : X → X) → length (change_item xs i f) ≡ length xs
  length-change_item [] i f = refl
  length-change_item (x ∷ xs) zero f = refl
  length-change_item (x ∷ xs) (suc i) f = ap suc (length-change_item xs i f)

  pub get_changed : (xs : List X) (i : ℕ) (f : X → X) → slice_get (change_item xs i f) i ≡ option_map f (slice_get xs i)
  get_changed [] i f = refl
  get_changed (x ∷ xs) zero f = refl
  get_changed (x ∷ xs) (suc i) f = get_changed xs i f

  pub get_unchanged : (xs : List X) (i k : ℕ) (f : X → X) → k ≢ i → slice_get (change_item xs i f) k ≡ slice_get xs k
  get_unchanged [] i k f n = refl
  get_unchanged (x ∷ xs) zero zero f n = absurd (n refl)
  get_unchanged (x ∷ xs) zero (suc k) f n = refl
  get_unchanged (x ∷ xs) (suc i) zero f n = refl
  get_unchanged (x ∷ xs) (suc i) (suc k) f n = get_unchanged xs i k f (λ e. n (ap suc e))

  -- where there is no such place
  pub change_past : (xs : List X) (i : ℕ) (f : X → X) → slice_get xs i ≡ None → change_item xs i f ≡ xs
  change_past [] i f e = refl
  change_past (x ∷ xs) zero f e = absurd (cc)
  change_past (x ∷ xs) (suc i) f e = ap (λ ys. x ∷ ys) (change_past xs i f e)

  -- an item that the change leaves as it is
  pub change_fixed : (xs : List X) (i : ℕ) (f : X → X) (x : X) → slice_get xs i ≡ Some x → f x ≡ x → change_item xs i f ≡ xs
  change_fixed [] i f y e s = refl
  change_fixed (x ∷ xs) zero f y e s = cc
  change_fixed (x ∷ xs) (suc i) f y e s = ap (λ ys. x ∷ ys) (change_fixed xs i f y e s)

  pub take-change_item : (n : ℕ) (xs : List X) (i : ℕ) (f : X → X) → take n (change_item xs i f) ≡ change_item (take n xs) i f
  take-change_item zero xs i f = refl
  take-change_item (suc n) [] i f = refl
  take-change_item (suc n) (x ∷ xs) zero f = refl
  take-change_item (suc n) (x ∷ xs) (suc i) f = ap (λ ys. x ∷ ys) (take-change_item n xs i f)

  pub take_before_change : (n : ℕ) (xs : List X) (i : ℕ) (f : X → X) → n ≤ i → take n (change_item xs i f) ≡ take n xs
  take_before_change zero xs i f h = refl
  take_before_change (suc n) [] i f h = refl
  take_before_change (suc n) (x ∷ xs) zero f h = absurd (omega arith)
  take_before_change (suc n) (x ∷ xs) (suc i) f h = ap (λ ys. x ∷ ys) (take_before_change n xs i f (omega arith))

  pub drop_behind_change : (n : ℕ) (xs : List X) (i : ℕ) (f : X → X) → i < n → drop n (change_item xs i f) ≡ drop n xs
  drop_behind_change zero xs i f h = absurd (omega arith)
  drop_behind_change (suc n) [] i f h = refl
  drop_behind_change (suc n) (x ∷ xs) zero f h = refl
  drop_behind_change (suc n) (x ∷ xs) (suc i) f h = drop_behind_change n xs i f (omega arith)

  pub drop-change_item : (n : ℕ) (xs : List X) (i j : ℕ) (f : X → X) → i ≡ n + j → drop n (change_item xs i f) ≡ change_item (drop n xs) j f
  drop-change_item zero xs i j f e = ap (λ k. change_item xs k f) (omega (arith, e))
  drop-change_item (suc n) [] i j f e = refl
  drop-change_item (suc n) (x ∷ xs) zero j f e = absurd (omega arith)
  drop-change_item (suc n) (x ∷ xs) (suc i) j f e = drop-change_item n xs i j f (omega arith)

  pub get-drop : (n : ℕ) (xs : List X) (i : ℕ) → slice_get (drop n xs) i ≡ slice_get xs (n + i)
  get-drop zero xs i = let e : i ≡ 0 + i = omega arith in ap (slice_get xs) e
  get-drop (suc n) [] i = refl
  get-drop (suc n) (x ∷ xs) i = let e : suc (n + i) ≡ suc n + i = omega arith in get-drop n xs i ∙ ap (slice_get (x ∷ xs)) e

  pub get-take : (n : ℕ) (xs : List X) (i : ℕ) → i < n → slice_get (take n xs) i ≡ slice_get xs i
  get-take zero xs i h = absurd (omega arith)
  get-take (suc n) [] i h = refl
  get-take (suc n) (x ∷ xs) zero h = refl
  get-take (suc n) (x ∷ xs) (suc i) h = get-take n xs i (omega arith)

  pub get_behind_take : (n : ℕ) (xs : List X) (i : ℕ) → n ≤ i → slice_get (take n xs) i ≡ None
  get_behind_take zero xs i h = refl
  get_behind_take (suc n) [] i h = refl
  get_behind_take (suc n) (x ∷ xs) zero h = absurd (omega arith)
  get_behind_take (suc n) (x ∷ xs) (suc i) h = get_behind_take n xs i (omega arith)
