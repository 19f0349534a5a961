-- Lists: what stands at a number, what stands one by one, what is changed, and what is put behind.
use Rattle.std.proofs.Common.{◌≡◌, ◌≢◌, ℕ, zero, suc, List, [], ◌∷◌, ◌++◌, length, Option, Some, None, refl, sym, ap, ◌∙◌, subst, arith}
use Rattle.std.proofs.lemmas.Option.{none-some, same_Some, option_and_then_some}
use Rattle.std.specs.Prelude.{slice_get}
use Rattle.std.specs.Option.{option_and_then}
use Rattle.cc_ops.specs.Shelves.{changed}
use Rattle.code_names.specs.Same.{Pairwise}
pub use Rattle.run_numbers.proofs.Lists.{pushed_old as get_in_front, pushed_new as get_last}

-- ---- what stands at a number

module _ {A B : Type 0} where
  -- a look in two steps finds something at both
  pub both_found : (f : A → Option B) (o : Option A) (y : B) → option_and_then f o ≡ Some y → (x : A) × (o ≡ Some x) × (f x ≡ Some y)
  both_found f o y h = option_and_then_some f o y h (λ x a b. (x, a, b))

  pub then_found : (f : A → Option B) (o : Option A) (x : A) (y : B) → o ≡ Some x → f x ≡ Some y → option_and_then f o ≡ Some y
  then_found f o x y a b = ap (option_and_then f) a ∙ b

module _ {A : Type 0} where
  pub get_one : (xs : List A) (k : ℕ) (x y : A) → slice_get xs k ≡ Some x → slice_get xs k ≡ Some y → x ≡ y
  get_one xs k x y a b = same_Some x y (sym a ∙ b)

  -- ---- an item that is changed

  pub length_changed : (xs : List A) (i : ℕ) (f : A → A) → length (changed xs i f) ≡ length xs
  length_changed [] i f = refl
  length_changed (x ∷ xs) zero f = refl
  length_changed (x ∷ xs) (suc i) f = ap suc (length_changed xs i f)

  pub get_changed : (xs : List A) (i : ℕ) (f : A → A) (x : A) → slice_get xs i ≡ Some x → slice_get (changed xs i f) i ≡ Some (f x)
  get_changed [] i f x h = absurd (none-some x h)
  get_changed (z ∷ xs) zero f x h = ap (λ u. Some (f u)) (same_Some z x h)
  get_changed (z ∷ xs) (suc i) f x h = get_changed xs i f x h

  pub get_unchanged : (xs : List A) (i : ℕ) (f : A → A) (k : ℕ) → k ≢ i → slice_get (changed xs i f) k ≡ slice_get xs k
  get_unchanged [] i f k ne = refl
  get_unchanged (z ∷ xs) zero f zero ne = absurd (ne refl)
  get_unchanged (z ∷ xs) zero f (suc k) ne = refl
  get_unchanged (z ∷ xs) (suc i) f zero ne = refl
  get_unchanged (z ∷ xs) (suc i) f (suc k) ne = get_unchanged xs i f k (λ e. ne (ap suc e))

-- ---- one by one

module _ {A B : Type 0} (S : A → B → Type 0) where
  pub pairwise_length : (xs : List A) (ys : List B) → Pairwise S xs ys → length xs ≡ length ys
  pairwise_length [] [] h = refl
  pairwise_length [] (y ∷ ys) h = absurd h
  pairwise_length (x ∷ xs) [] h = absurd h
  pairwise_length (x ∷ xs) (y ∷ ys) h = ap suc (pairwise_length xs ys h.1)

  -- what stands on the right where something stands on the left
  pub pairwise_right : (xs : List A) (ys : List B) → Pairwise S xs ys → (k : ℕ) (x : A) → slice_get xs k ≡ Some x
      → (y : B) × (slice_get ys k ≡ Some y) × S x y
  pairwise_right [] [] h k x at = absurd (none-some x at)
  pairwise_right [] (y ∷ ys) h k x at = absurd h
  pairwise_right (z ∷ xs) [] h k x at = absurd h
  pairwise_right (z ∷ xs) (y ∷ ys) h zero x at = (y, refl, subst (λ u. S u y) (same_Some z x at) h.0)
  pairwise_right (z ∷ xs) (y ∷ ys) h (suc k) x at = pairwise_right xs ys h.1 k x at

  pub pairwise_left : (xs : List A) (ys : List B) → Pairwise S xs ys → (k : ℕ) (y : B) → slice_get ys k ≡ Some y
      → (x : A) × (slice_get xs k ≡ Some x) × S x y
  pairwise_left [] [] h k y at = absurd (none-some y at)
  pairwise_left [] (z ∷ ys) h k y at = absurd h
  pairwise_left (x ∷ xs) [] h k y at = absurd h
  pairwise_left (x ∷ xs) (z ∷ ys) h zero y at = (x, refl, subst (λ u. S x u) (same_Some z y at) h.0)
  pairwise_left (x ∷ xs) (z ∷ ys) h (suc k) y at = pairwise_left xs ys h.1 k y at

  pub pairwise_at : (xs : List A) (ys : List B) → Pairwise S xs ys → (k : ℕ) (x : A) (y : B) → slice_get xs k ≡ Some x
      → slice_get ys k ≡ Some y → S x y
  pairwise_at xs ys h k x y a b =
      let r = pairwise_right xs ys h k x a in subst (λ u. S x u) (get_one ys k r.0 y r.1 b) r.2

  pub pairwise_of : (xs : List A) (ys : List B) → length xs ≡ length ys
      → ((k : ℕ) (x : A) (y : B) → slice_get xs k ≡ Some x → slice_get ys k ≡ Some y → S x y) → Pairwise S xs ys
  pairwise_of [] [] e each = tt
  pairwise_of [] (y ∷ ys) e each = absurd (omega (arith, e))
  pairwise_of (x ∷ xs) [] e each = absurd (omega (arith, e))
  pairwise_of (x ∷ xs) (y ∷ ys) e each =
      (each zero x y refl refl, pairwise_of xs ys (omega (arith, e)) (λ k u v a b. each (suc k) u v a b))

  pub pairwise_append : (xs us : List A) (ys vs : List B) → Pairwise S xs ys → Pairwise S us vs → Pairwise S (xs ++ us) (ys ++ vs)
  pairwise_append [] us [] vs h g = g
  pairwise_append [] us (y ∷ ys) vs h g = absurd h
  pairwise_append (x ∷ xs) us [] vs h g = absurd h
  pairwise_append (x ∷ xs) us (y ∷ ys) vs h g = (h.0, pairwise_append xs us ys vs h.1 g)

  pub pairwise_push : (xs : List A) (ys : List B) (x : A) (y : B) → Pairwise S xs ys → S x y → Pairwise S (xs ++ x ∷ []) (ys ++ y ∷ [])
  pairwise_push xs ys x y h e = pairwise_append xs (x ∷ []) ys (y ∷ []) h (e, tt)

module _ {A B : Type 0} (S T : A → B → Type 0) where
  -- where each keeps its own
  pub pairwise_kept : (xs : List A) (ys : List B)
      → ((k : ℕ) (x : A) (y : B) → slice_get xs k ≡ Some x → slice_get ys k ≡ Some y → S x y → T x y)
      → Pairwise S xs ys → Pairwise T xs ys
  pairwise_kept xs ys each h =
      pairwise_of T xs ys (pairwise_length S xs ys h) (λ k x y a b. each k x y a b (pairwise_at S xs ys h k x y a b))

  -- where all others keep their own, and that of number i is changed
  pub pairwise_changed : (xs : List A) (ys : List B) (i : ℕ) (f : B → B)
      → ((x : A) (y : B) → slice_get xs i ≡ Some x → slice_get ys i ≡ Some y → S x y → T x (f y))
      → ((k : ℕ) (x : A) (y : B) → k ≢ i → slice_get xs k ≡ Some x → slice_get ys k ≡ Some y → S x y → T x y)
      → Pairwise S xs ys → Pairwise T xs (changed ys i f)
  pairwise_changed [] [] i f here there h = tt
  pairwise_changed [] (y ∷ ys) i f here there h = absurd h
  pairwise_changed (x ∷ xs) [] i f here there h = absurd h
  pairwise_changed (x ∷ xs) (y ∷ ys) zero f here there h = (
    here x y refl refl h.0,
    pairwise_kept xs ys (λ k u v a b s. there (suc k) u v (λ e. absurd (omega (arith, e))) a b s) h.1,
  )
  pairwise_changed (x ∷ xs) (y ∷ ys) (suc i) f here there h = (
    there zero x y (λ e. absurd (omega (arith, e))) refl refl h.0,
    pairwise_changed xs ys i f here (λ k u v ne a b s. there (suc k) u v (λ e. ne (omega (arith, e))) a b s) h.1,
  )

-- ---- nothing on both sides, or what is alike

abbrev pub SameOption : {A B : Type 0} → (A → B → Type 0) → Option A → Option B → Type 0
SameOption S None None = Unit {0}
SameOption S (Some x) (Some y) = S x y
SameOption S a b = ⊥

pub same_option : {A B : Type 0} (S : A → B → Type 0) (xs : List A) (ys : List B) → Pairwise S xs ys → (k : ℕ)
    → SameOption S (slice_get xs k) (slice_get ys k)
same_option S [] [] h k = tt
same_option S [] (y ∷ ys) h k = absurd h
same_option S (x ∷ xs) [] h k = absurd h
same_option S (x ∷ xs) (y ∷ ys) h zero = h.0
same_option S (x ∷ xs) (y ∷ ys) h (suc k) = same_option S xs ys h.1 k
