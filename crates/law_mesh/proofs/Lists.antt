-- Two tables, alike item by item: what is looked up, changed and made in both.
use Rattle.std.proofs.Common.{◌≡◌, ◌⊎◌, inl, inr, ⊎_elim, ℕ, zero, suc, List, [], ◌∷◌, ◌++◌, length, map, slice_get, Some, refl, sym, ap, ◌∙◌, subst}
use Rattle.std.specs.Option.{option_and_then}
use Rattle.std.proofs.lemmas.Option.{none-some, same_Some}
use Rattle.cc_ops.specs.declared.number.ThreadNo.{ThreadNo}
use Rattle.cc_ops.specs.Shelves.{changed}
use Rattle.code_names.specs.Same.{Pairwise}
use Rattle.numbered_runs.proofs.Lists.{pairwise_right, pairwise_left, pairwise_length, pairwise_push, both_found, then_found, get_in_front, get_last, get_changed, get_unchanged}
use Rattle.law_mesh.specs.Spots.{item_in, put_item, made_of}
use Rattle.law_mesh.specs.Moves.{push_item, push_items, more_lists}

module _ {A B : Type 0} (S : A → B → Type 0) where
  abbrev pub Tables : List (List A) → List (List B) → Type 0
  Tables = Pairwise (Pairwise S)

  both_changed_one : (xs : List A) (ys : List B) (i : ℕ) (f : A → A) (g : B → B)
      → ((x : A) (y : B) → slice_get xs i ≡ Some x → slice_get ys i ≡ Some y → S x y → S (f x) (g y))
      → Pairwise S xs ys → Pairwise S (changed xs i f) (changed ys i g)
  both_changed_one [] [] i f g here h = tt
  both_changed_one [] (y ∷ ys) i f g here h = absurd h
  both_changed_one (x ∷ xs) [] i f g here h = absurd h
  both_changed_one (x ∷ xs) (y ∷ ys) zero f g here h = (here x y refl refl h.0, h.1)
  both_changed_one (x ∷ xs) (y ∷ ys) (suc i) f g here h = (h.0, both_changed_one xs ys i f g here h.1)

  both_mapped_one : (f : A → A) → ((x : A) (y : B) → S x y → S (f x) y) → (xs : List A) (ys : List B) → Pairwise S xs ys → Pairwise S (map f xs) ys
  both_mapped_one f each [] [] h = tt
  both_mapped_one f each [] (y ∷ ys) h = absurd h
  both_mapped_one f each (x ∷ xs) [] h = absurd h
  both_mapped_one f each (x ∷ xs) (y ∷ ys) h = (each x y h.0, both_mapped_one f each xs ys h.1)

module _ {A B : Type 0} (S : A → B → Type 0) where
  -- what stands on the right where something stands on the left
  pub item_right : (us : List (List A)) (vs : List (List B)) → Tables S us vs → (t : ThreadNo) (x : A) → item_in us t ≡ Some x
      → (y : B) × (item_in vs t ≡ Some y) × S x y
  item_right us vs h t x at =
      let a = both_found (λ (xs : List A). slice_get xs t.thread) (slice_get us t.processor) x at in
      let b = pairwise_right (Pairwise S) us vs h t.processor a.0 a.1 in
      let c = pairwise_right S a.0 b.0 b.2 t.thread x a.2 in
      (c.0, then_found (λ (ys : List B). slice_get ys t.thread) (slice_get vs t.processor) b.0 c.0 b.1 c.1, c.2)

  pub both_put : (us : List (List A)) (vs : List (List B)) (t : ThreadNo) (x : A) (y : B) → S x y → Tables S us vs
      → Tables S (put_item us t x) (put_item vs t y)
  both_put us vs t x y s h = both_changed_one (Pairwise S) us vs t.processor _ _
      (λ xs ys _ _ g. both_changed_one S xs ys t.thread _ _ (λ a b _ _ _. s) g) h

  -- on the left alone
  pub left_put : (us : List (List A)) (vs : List (List B)) (t : ThreadNo) (x : A) → ((y : B) → item_in vs t ≡ Some y → S x y) → Tables S us vs
      → Tables S (put_item us t x) vs
  left_put us vs t x s h = left_changed (Pairwise S) us vs t.processor _
      (λ xs ys at g. left_changed S xs ys t.thread _ (λ a b at' _. s b (then_found (λ (zs : List B). slice_get zs t.thread) (slice_get vs t.processor) ys b at at')) g) h
    where
      left_changed : {C D : Type 0} (R : C → D → Type 0) (xs : List C) (ys : List D) (i : ℕ) (f : C → C)
          → ((x : C) (y : D) → slice_get ys i ≡ Some y → R x y → R (f x) y)
          → Pairwise R xs ys → Pairwise R (changed xs i f) ys
      left_changed R [] [] i f here h = tt
      left_changed R [] (y ∷ ys) i f here h = absurd h
      left_changed R (x ∷ xs) [] i f here h = absurd h
      left_changed R (x ∷ xs) (y ∷ ys) zero f here h = (here x y refl h.0, h.1)
      left_changed R (x ∷ xs) (y ∷ ys) (suc i) f here h = (h.0, left_changed R xs ys i f here h.1)

  pub left_mapped : (f : A → A) → ((x : A) (y : B) → S x y → S (f x) y) → (us : List (List A)) (vs : List (List B)) → Tables S us vs
      → Tables S (map (map f) us) vs
  left_mapped f each us vs h = both_mapped_one (Pairwise S) (map f) (λ xs ys g. both_mapped_one S f each xs ys g) us vs h

  pub same_made : (us : List (List A)) (vs : List (List B)) → Tables S us vs → (q : ℕ) → made_of us q ≡ made_of vs q
  same_made [] [] h q = refl
  same_made [] (v ∷ vs) h q = absurd h
  same_made (u ∷ us) [] h q = absurd h
  same_made (u ∷ us) (v ∷ vs) h zero = pairwise_length S u v h.0
  same_made (u ∷ us) (v ∷ vs) h (suc q) = same_made us vs h.1 q

  -- what is made in both
  pub both_more : (n : ℕ) (us : List (List A)) (vs : List (List B)) → Tables S us vs → Tables S (more_lists n us) (more_lists n vs)
  both_more zero us vs h = h
  both_more (suc n) us vs h = both_more n (us ++ [] ∷ []) (vs ++ [] ∷ []) (pairwise_push (Pairwise S) us vs [] [] h tt)

  pub both_pushed : (q : ℕ) (xs : List A) (ys : List B) → Pairwise S xs ys → (us : List (List A)) (vs : List (List B)) → Tables S us vs
      → Tables S (push_items us q xs) (push_items vs q ys)
  both_pushed q [] [] new us vs h = h
  both_pushed q [] (y ∷ ys) new us vs h = absurd new
  both_pushed q (x ∷ xs) [] new us vs h = absurd new
  both_pushed q (x ∷ xs) (y ∷ ys) new us vs h =
      both_pushed q xs ys new.1 (push_item us q x) (push_item vs q y)
      (both_changed_one (Pairwise S) us vs q _ _ (λ a b _ _ g. pairwise_push S a b x y g new.0) h)

-- Items that stay where others are made, or where one that is another is changed.
module _ {A : Type 0} where
  pub has_changed : (R : A → Type 0) (xs : List A) (i : ℕ) (f : A → A) (k : ℕ) (x : A) → slice_get xs k ≡ Some x → R x
      → (k ≡ i → R (f x)) → (y : A) × (slice_get (changed xs i f) k ≡ Some y) × R y
  has_changed R [] i f k x e r h = absurd (none-some x e)
  has_changed R (z ∷ xs) zero f zero x e r h = (f z, refl, subst (λ u. R (f u)) (sym (same_Some z x e)) (h refl))
  has_changed R (z ∷ xs) zero f (suc k) x e r h = (x, e, r)
  has_changed R (z ∷ xs) (suc i) f zero x e r h = (x, e, r)
  has_changed R (z ∷ xs) (suc i) f (suc k) x e r h = has_changed R xs i f k x e r (λ d. h (ap suc d))

same_no : (t u : ThreadNo) → t.processor ≡ u.processor → t.thread ≡ u.thread → t ≡ u
same_no t u a b =
    let f : ℕ → ℕ → ThreadNo = λ q k. record { processor = q; thread = k } in
    ap (λ q. f q t.thread) a ∙ ap (λ k. f u.processor k) b

module _ {A : Type 0} where
  table_changed : (table : List (List A)) (q : ℕ) (f : List A → List A) (t : ThreadNo) (x : A) → item_in table t ≡ Some x
      → ((xs : List A) → t.processor ≡ q → slice_get xs t.thread ≡ Some x → slice_get (f xs) t.thread ≡ Some x) → item_in (changed table q f) t ≡ Some x
  table_changed table q f t x e keeps =
      let a = both_found (λ (xs : List A). slice_get xs t.thread) (slice_get table t.processor) x e in
      let b = has_changed (λ xs. slice_get xs t.thread ≡ Some x) table q f t.processor a.0 a.1 a.2 (λ d. keeps a.0 d a.2) in
      then_found (λ (xs : List A). slice_get xs t.thread) (slice_get (changed table q f) t.processor) b.0 x b.1 b.2

  pub stays_pushed : (q : ℕ) (ys : List A) (table : List (List A)) (t : ThreadNo) (x : A) → item_in table t ≡ Some x → item_in (push_items table q ys) t ≡ Some x
  stays_pushed q [] table t x e = e
  stays_pushed q (y ∷ ys) table t x e =
      stays_pushed q ys (push_item table q y) t x (table_changed table q _ t x e (λ xs d at. get_in_front xs (y ∷ []) x t.thread at))

  pub stays_more : (n : ℕ) (table : List (List A)) (t : ThreadNo) (x : A) → item_in table t ≡ Some x → item_in (more_lists n table) t ≡ Some x
  stays_more zero table t x e = e
  stays_more (suc n) table t x e =
      let a = both_found (λ (xs : List A). slice_get xs t.thread) (slice_get table t.processor) x e in
      stays_more n (table ++ [] ∷ []) t x
      (then_found (λ (xs : List A). slice_get xs t.thread) (slice_get (table ++ [] ∷ []) t.processor) a.0 x (get_in_front table ([] ∷ []) a.0 t.processor a.1) a.2)

  pub stays_put : (table : List (List A)) (t u : ThreadNo) (x y : A) → item_in table t ≡ Some x → (t ≡ u → x ≡ y) → item_in (put_item table u y) t ≡ Some x
  stays_put table t u x y e same = table_changed table u.processor _ t x e (λ xs d at.
      let b = has_changed (λ z. z ≡ x) xs u.thread (λ z. y) t.thread x at refl (λ c. sym (same (same_no t u d c))) in
      b.1 ∙ ap (λ z. Some z) b.2)

module _ {A B : Type 0} (S : A → B → Type 0) where
  -- what stands on the left where something stands on the right
  pub item_left : (us : List (List A)) (vs : List (List B)) → Tables S us vs → (t : ThreadNo) (y : B) → item_in vs t ≡ Some y
      → (x : A) × (item_in us t ≡ Some x) × S x y
  item_left us vs h t y at =
      let a = both_found (λ (ys : List B). slice_get ys t.thread) (slice_get vs t.processor) y at in
      let b = pairwise_left (Pairwise S) us vs h t.processor a.0 a.1 in
      let c = pairwise_left S b.0 a.0 b.2 t.thread y a.2 in
      (c.0, then_found (λ (xs : List A). slice_get xs t.thread) (slice_get us t.processor) b.0 c.0 b.1 c.1, c.2)

module _ {A : Type 0} where
  -- at the number, and at another
  pub put_found : (table : List (List A)) (t : ThreadNo) (x y : A) → item_in table t ≡ Some x → item_in (put_item table t y) t ≡ Some y
  put_found table t x y e =
      let a = both_found (λ (xs : List A). slice_get xs t.thread) (slice_get table t.processor) x e in
      then_found (λ (xs : List A). slice_get xs t.thread) (slice_get (put_item table t y) t.processor) (changed a.0 t.thread (λ z. y)) y
      (get_changed table t.processor _ a.0 a.1) (get_changed a.0 t.thread (λ z. y) x a.2)

  unchanged_row : (table : List (List A)) (i j : ℕ) (f : List A → List A) (k : ℕ) → ((xs : List A) → i ≡ j → slice_get (f xs) k ≡ slice_get xs k)
      → option_and_then (λ (xs : List A). slice_get xs k) (slice_get (changed table j f) i) ≡ option_and_then (λ (xs : List A). slice_get xs k) (slice_get table i)
  unchanged_row [] i j f k h = refl
  unchanged_row (z ∷ zs) zero zero f k h = h z refl
  unchanged_row (z ∷ zs) zero (suc j) f k h = refl
  unchanged_row (z ∷ zs) (suc i) zero f k h = refl
  unchanged_row (z ∷ zs) (suc i) (suc j) f k h = unchanged_row zs i j f k (λ xs d. h xs (ap suc d))

  pub put_elsewhere : (table : List (List A)) (t u : ThreadNo) (y : A) → (u ≡ t → ⊥) → item_in (put_item table t y) u ≡ item_in table u
  put_elsewhere table t u y apart =
      unchanged_row table u.processor t.processor (λ xs. changed xs t.thread (λ z. y)) u.thread
      (λ xs d. get_unchanged xs t.thread (λ z. y) u.thread (λ c. apart (same_no u t d c)))

module _ {A B : Type 0} (f : A → B) where
  row_mapped : (xs : List A) (k : ℕ) (y : B) → slice_get (map f xs) k ≡ Some y → (x : A) × (slice_get xs k ≡ Some x) × (y ≡ f x)
  row_mapped [] k y e = absurd (none-some y e)
  row_mapped (x ∷ xs) zero y e = (x, refl, sym (same_Some (f x) y e))
  row_mapped (x ∷ xs) (suc k) y e = row_mapped xs k y e

  row_has : (xs : List A) (k : ℕ) (x : A) → slice_get xs k ≡ Some x → slice_get (map f xs) k ≡ Some (f x)
  row_has [] k x e = absurd (none-some x e)
  row_has (z ∷ xs) zero x e = ap (λ u. Some (f u)) (same_Some z x e)
  row_has (z ∷ xs) (suc k) x e = row_has xs k x e

module _ {A B : Type 0} (f : A → B) where
  -- what stands in a table that is mapped, and what stood there
  pub item_mapped : (table : List (List A)) (t : ThreadNo) (y : B) → item_in (map (map f) table) t ≡ Some y
      → (x : A) × (item_in table t ≡ Some x) × (y ≡ f x)
  item_mapped table t y e =
      let a = both_found (λ (ys : List B). slice_get ys t.thread) (slice_get (map (map f) table) t.processor) y e in
      let b = row_mapped (map f) table t.processor a.0 a.1 in
      let c = row_mapped f b.0 t.thread y (sym (ap (λ ys. slice_get ys t.thread) b.2) ∙ a.2) in
      (c.0, then_found (λ (xs : List A). slice_get xs t.thread) (slice_get table t.processor) b.0 c.0 b.1 c.1, c.2)

  pub item_has : (table : List (List A)) (t : ThreadNo) (x : A) → item_in table t ≡ Some x → item_in (map (map f) table) t ≡ Some (f x)
  item_has table t x e =
      let a = both_found (λ (xs : List A). slice_get xs t.thread) (slice_get table t.processor) x e in
      then_found (λ (ys : List B). slice_get ys t.thread) (slice_get (map (map f) table) t.processor) (map f a.0) (f x)
      (row_has (map f) table t.processor a.0 a.1) (row_has f a.0 t.thread x a.2)

module _ {A : Type 0} where
  get_pushed : (xs : List A) (y : A) (k : ℕ) → (k ≡ length xs → ⊥) → slice_get (xs ++ y ∷ []) k ≡ slice_get xs k
  get_pushed [] y zero apart = absurd (apart refl)
  get_pushed [] y (suc k) apart = refl
  get_pushed (x ∷ xs) y zero apart = refl
  get_pushed (x ∷ xs) y (suc k) apart = get_pushed xs y k (λ e. apart (ap suc e))

  row_else : (table : List (List A)) (i j : ℕ) (f : List A → List A) (k : ℕ)
      → ((xs : List A) → slice_get table j ≡ Some xs → i ≡ j → slice_get (f xs) k ≡ slice_get xs k)
      → option_and_then (λ (xs : List A). slice_get xs k) (slice_get (changed table j f) i) ≡ option_and_then (λ (xs : List A). slice_get xs k) (slice_get table i)
  row_else [] i j f k h = refl
  row_else (z ∷ zs) zero zero f k h = h z refl refl
  row_else (z ∷ zs) zero (suc j) f k h = refl
  row_else (z ∷ zs) (suc i) zero f k h = refl
  row_else (z ∷ zs) (suc i) (suc j) f k h = row_else zs i j f k (λ xs at d. h xs at (ap suc d))

module _ {A : Type 0} (table : List (List A)) (q : ℕ) (xs : List A) (row : slice_get table q ≡ Some xs) (y : A) where
  pub push_found : item_in (push_item table q y) (record { processor = q; thread = length xs }) ≡ Some y
  push_found =
      then_found (λ (ys : List A). slice_get ys (length xs)) (slice_get (push_item table q y) q) (xs ++ y ∷ []) y
      (get_changed table q (λ ys. ys ++ y ∷ []) xs row) (get_last xs y)

  pub push_elsewhere : (u : ThreadNo) → (u ≡ record { processor = q; thread = length xs } → ⊥) → item_in (push_item table q y) u ≡ item_in table u
  push_elsewhere u apart =
      row_else table u.processor q (λ ys. ys ++ y ∷ []) u.thread
      (λ ys at d. let same : ys ≡ xs = same_Some ys xs (sym at ∙ row) in
      get_pushed ys y u.thread (λ e. apart (same_no u (record { processor = q; thread = length xs }) d (e ∙ ap (λ zs. length zs) same))))

-- ---- what stands in a table stood there, or is new

module _ {A : Type 0} where
  row_or : (R : A → A → Type 0) (xs : List A) (i : ℕ) (f : A → A) (k : ℕ) (x : A) → slice_get (changed xs i f) k ≡ Some x
      → (y : A) × (slice_get xs k ≡ Some y) × ((x ≡ y) ⊎ (x ≡ f y))
  row_or R [] i f k x e = absurd (none-some x e)
  row_or R (z ∷ zs) zero f zero x e = (z, refl, inr (sym (same_Some (f z) x e)))
  row_or R (z ∷ zs) zero f (suc k) x e = (x, e, inl refl)
  row_or R (z ∷ zs) (suc i) f zero x e = (x, e, inl refl)
  row_or R (z ∷ zs) (suc i) f (suc k) x e = row_or R zs i f k x e

  last_or : (xs : List A) (y x : A) (k : ℕ) → slice_get (xs ++ y ∷ []) k ≡ Some x → (slice_get xs k ≡ Some x) ⊎ (x ≡ y)
  last_or [] y x zero e = inr (sym (same_Some y x e))
  last_or [] y x (suc k) e = absurd (none-some x e)
  last_or (z ∷ zs) y x zero e = inl e
  last_or (z ∷ zs) y x (suc k) e = last_or zs y x k e

module _ {A : Type 0} where
  table_or : (table : List (List A)) (q : ℕ) (f : List A → List A) (t : ThreadNo) (x : A) (B : Type 0) → item_in (changed table q f) t ≡ Some x
      → ((xs : List A) → slice_get (f xs) t.thread ≡ Some x → (slice_get xs t.thread ≡ Some x) ⊎ B) → (item_in table t ≡ Some x) ⊎ B
  table_or table q f t x B e step =
      let a = both_found (λ (xs : List A). slice_get xs t.thread) (slice_get (changed table q f) t.processor) x e in
      let b = row_or (λ y z. Unit {0}) table q f t.processor a.0 a.1 in
      ⊎_elim
      (λ (same : a.0 ≡ b.0). inl (then_found (λ (xs : List A). slice_get xs t.thread) (slice_get table t.processor) b.0 x b.1
      (subst (λ xs. slice_get xs t.thread ≡ Some x) same a.2)))
      (λ (new : a.0 ≡ f b.0). ⊎_elim
      (λ (old : slice_get b.0 t.thread ≡ Some x). inl (then_found (λ (xs : List A). slice_get xs t.thread) (slice_get table t.processor) b.0 x b.1 old))
      (λ (c : B). inr c)
      (step b.0 (subst (λ xs. slice_get xs t.thread ≡ Some x) new a.2)))
      b.2

  pub made_or_old : (q : ℕ) (ys : List A) (table : List (List A)) (u : ThreadNo) (x : A) → item_in (push_items table q ys) u ≡ Some x
      → (item_in table u ≡ Some x) ⊎ ((j : ℕ) × (slice_get ys j ≡ Some x))
  made_or_old q [] table u x e = inl e
  made_or_old q (y ∷ ys) table u x e = ⊎_elim
      (λ (old : item_in (push_item table q y) u ≡ Some x). ⊎_elim
      (λ (older : item_in table u ≡ Some x). inl older)
      (λ (new : x ≡ y). inr (0, ap (λ z. Some z) (sym new)))
      (table_or table q _ u x (x ≡ y) old (λ xs at. last_or xs y x u.thread at)))
      (λ (new : (j : ℕ) × (slice_get ys j ≡ Some x)). inr (suc new.0, new.1))
      (made_or_old q ys (push_item table q y) u x e)
