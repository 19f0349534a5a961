-- Stacks as lists with the last item first.
use Rattle.std.proofs.Common.{◌≡◌, ◌⊎◌, inl, inr, ℕ, zero, suc, ◌+◌, ◌-◌, ◌≤◌, List, [], ◌∷◌, ◌++◌, length, take, drop, Option, Some, None, refl, sym, ap, ◌∙◌, arith}
use Rattle.std.specs.Prelude.{reverse, slice_get, MatchOption}
use Rattle.std.proofs.lemmas.Bool.{cases_lt}
use Rattle.std.proofs.lemmas.List.{reverse-reverse, reverse-append, length-reverse, length_push}
use Rattle.code_thread.specs.Stacks.{topmost}

module _ {A : Type 0} where
  pub snoc : (xs : List A) → (xs ≡ []) ⊎ ((ys : List A) × (y : A) × (xs ≡ ys ++ y ∷ []))
  snoc [] = inl refl
  snoc (x ∷ xs) = elim (snoc xs) [
    | inl e ↦ inr ([], x, ap (λ (zs : List A). x ∷ zs) e)
    | inr s ↦ inr (x ∷ s.0, s.1, ap (λ (zs : List A). x ∷ zs) s.2)
  ]

  pub reverse_push : (xs : List A) (y : A) → reverse (xs ++ y ∷ []) ≡ y ∷ reverse xs
  reverse_push xs y = reverse-append xs (y ∷ [])

  last_push : (xs : List A) (y : A) → slice_get (xs ++ y ∷ []) (length xs) ≡ Some y
  last_push [] y = refl
  last_push (x ∷ xs) y = last_push xs y

  -- the last item is on top
  pub top_last : (xs : List A) → slice_get xs (length xs - 1) ≡ slice_get (reverse xs) 0
  top_last xs = elim (snoc xs) [
    | inl e ↦ rw e refl
    | inr s ↦
        let place : length (s.0 ++ s.1 ∷ []) - 1 ≡ length s.0 = omega (arith, length_push s.0 s.1) in
        rw s.2 (ap (slice_get (s.0 ++ s.1 ∷ [])) place ∙ last_push s.0 s.1 ∙ sym (ap (λ (zs : List A). slice_get zs 0) (reverse_push s.0 s.1)))
  ]

  taken_all : (xs ys : List A) → take (length xs) (xs ++ ys) ≡ xs
  taken_all [] ys = refl
  taken_all (x ∷ xs) ys = ap (λ (zs : List A). x ∷ zs) (taken_all xs ys)

  dropped_all : (xs ys : List A) → drop (length xs) (xs ++ ys) ≡ ys
  dropped_all [] ys = refl
  dropped_all (x ∷ xs) ys = dropped_all xs ys

  both : (n : ℕ) (xs : List A) → take n xs ++ drop n xs ≡ xs
  both zero xs = refl
  both (suc n) [] = refl
  both (suc n) (x ∷ xs) = ap (λ (zs : List A). x ∷ zs) (both n xs)

  length_dropped : (n : ℕ) (xs : List A) → length (drop n xs) ≡ length xs - n
  length_dropped zero xs = omega arith
  length_dropped (suc n) [] = omega arith
  length_dropped (suc n) (x ∷ xs) = omega (arith, length_dropped n xs)

  -- what is cut off at the end of a list, seen from its end
  turned : (n : ℕ) (xs : List A) → reverse xs ≡ reverse (drop n xs) ++ reverse (take n xs)
  turned n xs = ap reverse (sym (both n xs)) ∙ reverse-append (take n xs) (drop n xs)

  size : (below count : ℕ) (xs : List A) → below + count ≡ length xs → length (reverse (drop below xs)) ≡ count
  size below count xs e = omega (arith, length-reverse (drop below xs), length_dropped below xs, e)

  topmost_dropped : (below count : ℕ) (xs : List A) → below + count ≡ length xs → drop below xs ≡ topmost count (reverse xs)
  topmost_dropped below count xs e =
      let upper : List A = reverse (drop below xs) in
      let cut : take count (reverse xs) ≡ upper =
      ap (take count) (turned below xs) ∙ ap (λ (n : ℕ). take n (upper ++ reverse (take below xs))) (sym (size below count xs e)) ∙ taken_all upper (reverse (take below xs)) in
      sym (ap reverse cut ∙ reverse-reverse (drop below xs))

  taken_past : (n : ℕ) (xs : List A) → length xs ≤ n → take n xs ≡ xs
  taken_past zero [] h = refl
  taken_past zero (x ∷ xs) h = absurd (omega (arith, h))
  taken_past (suc n) [] h = refl
  taken_past (suc n) (x ∷ xs) h = ap (λ (zs : List A). x ∷ zs) (taken_past n xs (omega (arith, h)))

  pub topmost_cut : (below count : ℕ) (xs : List A) → below + count ≡ length xs
      → take (length xs - below) (drop below xs) ≡ topmost count (reverse xs)
  topmost_cut below count xs e =
      let all : length (drop below xs) ≤ length xs - below = omega (arith, length_dropped below xs) in
      taken_past (length xs - below) (drop below xs) all ∙ topmost_dropped below count xs e

  kept_dropped : (below count : ℕ) (xs : List A) → below + count ≡ length xs → reverse (take below xs) ≡ drop count (reverse xs)
  kept_dropped below count xs e =
      let upper : List A = reverse (drop below xs) in
      sym (ap (drop count) (turned below xs)
      ∙ ap (λ (n : ℕ). drop n (upper ++ reverse (take below xs))) (sym (size below count xs e))
      ∙ dropped_all upper (reverse (take below xs)))

  dropped_past : (n : ℕ) (xs : List A) → length xs ≤ n → drop n xs ≡ []
  dropped_past zero [] h = refl
  dropped_past zero (x ∷ xs) h = absurd (omega (arith, h))
  dropped_past (suc n) [] h = refl
  dropped_past (suc n) (x ∷ xs) h = dropped_past n xs (omega (arith, h))

  -- all, where there are fewer
  pub kept_saturated : (count : ℕ) (xs : List A) → reverse (take (length xs - count) xs) ≡ drop count (reverse xs)
  kept_saturated count xs = elim (cases_lt count (length xs)) [
    | inl le ↦ kept_dropped (length xs - count) count xs (omega (arith, le))
    | inr lt ↦
        let none : length xs - count ≡ 0 = omega (arith, lt) in
        ap (λ (n : ℕ). reverse (take n xs)) none ∙ sym (dropped_past count (reverse xs) (omega (arith, lt, length-reverse xs)))
  ]

  pub twice_turned : (xs : List A) → xs ≡ reverse (reverse xs)
  twice_turned xs = sym (reverse-reverse xs)

  pub pop_turned : (o : Option A) (xs ys : List A) → MatchOption o ((xs ≡ []) × (ys ≡ [])) (λ x. xs ≡ ys ++ x ∷ [])
      → MatchOption o ((reverse xs ≡ []) × (reverse ys ≡ [])) (λ x. reverse xs ≡ x ∷ reverse ys)
  pop_turned None xs ys h = (ap reverse h.0, ap reverse h.1)
  pop_turned (Some x) xs ys h = ap reverse h ∙ reverse_push ys x
