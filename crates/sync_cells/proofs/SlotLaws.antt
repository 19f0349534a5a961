-- The slots at places, and the objects that they make.
use Rattle.std.proofs.Common.{◌≡◌, ◌≢◌, ℕ, zero, suc, ◌+◌, ◌-◌, ◌<◌, ◌≤◌, List, [], ◌∷◌, ◌++◌, map, length, take, drop, set, get_or, Some, None, refl, ap, sym, ⊎_elim, ◌∙◌, if◌then◌else◌, arith}
use Rattle.std.specs.Prelude.{slice_get, option_map, option_and_then}
use Rattle.std.proofs.lemmas.List.{drop-append-le, take-append-le, drop_at, take_all, length-drop}
use Rattle.std.proofs.lemmas.Bool.{lt-ltb, le-ltb, cases_lt}
use Rattle.global_ptr.specs.declared.values.Waiter.{Waiter}
use Rattle.cc_ops.specs.declared.cell.Cell.{Cell}
use Rattle.sync_cells.specs.declared.layout.Extent.{Extent}
use Rattle.sync_cells.specs.Cells.{Slot, change_item, unawaited}
use Rattle.sync_cells.specs.Layout.{slots, object, Tiles, place_in}
use Rattle.sync_cells.proofs.ChangedLists.{take-change_item, take_before_change, drop_behind_change, drop-change_item, get-drop, get-take, get_behind_take}

abbrev pub slot : List Waiter → Cell → Slot
slot ws c = record { cell = c; waiters = ws }

-- the slots of cells
module _ (q : ℕ → List Waiter) where
  pub length-slots : (p : ℕ) (cs : List Cell) → length (slots q p cs) ≡ length cs
  length-slots p [] = refl
  length-slots p (c ∷ cs) = ap suc (length-slots (suc p) cs)

  pub get-slots : (p : ℕ) (cs : List Cell) (i : ℕ) → slice_get (slots q p cs) i ≡ option_map (slot (q (p + i))) (slice_get cs i)
  get-slots p [] i = refl
  get-slots p (c ∷ cs) zero = let e : p ≡ p + 0 = omega arith in ap (λ k. Some (slot (q k) c)) e
  get-slots p (c ∷ cs) (suc i) = let e : suc p + i ≡ p + suc i = omega arith in get-slots (suc p) cs i ∙ ap (λ k. option_map (slot (q k)) (slice_get cs i)) e

  -- a cell is replaced
  pub slots-set : (p : ℕ) (cs : List Cell) (i : ℕ) (c : Cell) (g : Cell → Cell) → slice_get cs i ≡ Some c
      → slots q p (set cs i (g c)) ≡ change_item (slots q p cs) i (λ s. record s { cell = g s.cell })
  slots-set p [] i c g e = absurd (cc)
  slots-set p (b ∷ cs) zero c g e = let same : b ≡ c = cc in ap (λ x. slot (q p) (g x) ∷ slots q (suc p) cs) (sym same)
  slots-set p (b ∷ cs) (suc i) c g e = ap (λ ss. slot (q p) b ∷ ss) (slots-set (suc p) cs i c g e)

  pub slots-append : (p : ℕ) (cs ds : List Cell) → slots q p (cs ++ ds) ≡ slots q p cs ++ slots q (p + length cs) ds
  slots-append p [] ds = let e : p ≡ p + 0 = omega arith in ap (λ k. slots q k ds) e
  slots-append p (c ∷ cs) ds =
      let e : suc p + length cs ≡ p + suc (length cs) = omega arith in
      ap (λ ss. slot (q p) c ∷ ss) (slots-append (suc p) cs ds ∙ ap (λ k. slots q (suc p) cs ++ slots q k ds) e)

  pub slots_unawaited : (p : ℕ) (ds : List Cell) → ((k : ℕ) → p ≤ k → q k ≡ []) → slots q p ds ≡ map unawaited ds
  slots_unawaited p [] none = refl
  slots_unawaited p (d ∷ ds) none = rw (none p (omega arith)) (ap (λ ss. unawaited d ∷ ss) (slots_unawaited (suc p) ds (λ k h. none k (omega arith))))

-- the slots with other queues
module _ (q r : ℕ → List Waiter) where
  pub slots_same : (p : ℕ) (cs : List Cell) → ((k : ℕ) → p ≤ k → r k ≡ q k) → slots r p cs ≡ slots q p cs
  slots_same p [] same = refl
  slots_same p (c ∷ cs) same = rw (same p (omega arith)) (ap (λ ss. slot (q p) c ∷ ss) (slots_same (suc p) cs (λ k h. same k (omega arith))))

  -- a queue is replaced
  pub slots_requeued : (p : ℕ) (cs : List Cell) (i j : ℕ) (g : List Waiter → List Waiter) → j ≡ p + i → r j ≡ g (q j) → ((k : ℕ) → k ≢ j → r k ≡ q k)
      → slots r p cs ≡ change_item (slots q p cs) i (λ s. record s { waiters = g s.waiters })
  slots_requeued p [] i j g e here there = refl
  slots_requeued p (c ∷ cs) zero j g e here there =
      let at : j ≡ p = omega arith in
      let head : r p ≡ g (q p) = rw at at here in
      rw head (ap (λ ss. slot (g (q p)) c ∷ ss) (slots_same (suc p) cs (λ k h. there k (λ same. absurd (omega arith)))))
  slots_requeued p (c ∷ cs) (suc i) j g e here there =
      rw (there p (λ same. omega arith)) (ap (λ ss. slot (q p) c ∷ ss) (slots_requeued (suc p) cs i j g (omega arith) here there))

-- objects that stand one behind the other
pub tiles_rise : (from : ℕ) (es : List Extent) (to : ℕ) → Tiles from es to → from ≤ to
tiles_rise from [] to t = omega arith
tiles_rise from (e ∷ es) to t = let later = tiles_rise (from + e.count) es to t.1 in omega arith

pub tiles_bound : (from : ℕ) (es : List Extent) (to k : ℕ) (e : Extent) → Tiles from es to → slice_get es k ≡ Some e → (from ≤ e.start) × (e.start + e.count ≤ to)
tiles_bound from [] to k e t g = absurd (cc)
tiles_bound from (d ∷ es) to zero e t g =
    let same : d ≡ e = cc in
    let start : e.start ≡ from = rw (← same) t.0 in
    let later : from + e.count ≤ to = rw (← same) (tiles_rise (from + d.count) es to t.1) in
    (omega arith, omega arith)
tiles_bound from (d ∷ es) to (suc k) e t g = let later = tiles_bound (from + d.count) es to k e t.1 g in (omega arith, omega arith)

pub tiles_push : (from : ℕ) (es : List Extent) (to : ℕ) (e : Extent) → Tiles from es to → e.start ≡ to → Tiles from (es ++ e ∷ []) (to + e.count)
tiles_push from [] to e t s = (omega arith, omega arith)
tiles_push from (d ∷ es) to e t s = (t.0, tiles_push (from + d.count) es to e t.1 s)

module _ (xs : List Slot) where
  pub object_at_change : (e : Extent) (i p : ℕ) (f : Slot → Slot) → p ≡ e.start + i → object (change_item xs p f) e ≡ change_item (object xs e) i f
  object_at_change e i p f at = ap (take e.count) (drop-change_item e.start xs p i f at) ∙ take-change_item e.count (drop e.start xs) i f

  pub object_behind_change : (e : Extent) (p : ℕ) (f : Slot → Slot) → p < e.start → object (change_item xs p f) e ≡ object xs e
  object_behind_change e p f h = ap (take e.count) (drop_behind_change e.start xs p f h)

  pub object_before_change : (e : Extent) (i p : ℕ) (f : Slot → Slot) → p ≡ e.start + i → e.count ≤ i → object (change_item xs p f) e ≡ object xs e
  object_before_change e i p f at h = ap (take e.count) (drop-change_item e.start xs p i f at) ∙ take_before_change e.count (drop e.start xs) i f h

  pub objects_behind_change : (from : ℕ) (es : List Extent) (to p : ℕ) (f : Slot → Slot) → Tiles from es to → p < from
      → map (object (change_item xs p f)) es ≡ map (object xs) es
  objects_behind_change from [] to p f t h = refl
  objects_behind_change from (e ∷ es) to p f t h =
      rw (object_behind_change e p f (omega arith)) (ap (λ os. object xs e ∷ os) (objects_behind_change (from + e.count) es to p f t.1 (omega arith)))

  -- a changed slot changes its own object alone
  pub objects_changed : (from : ℕ) (es : List Extent) (to k i p : ℕ) (e : Extent) (f : Slot → Slot) → Tiles from es to → slice_get es k ≡ Some e → i < e.count → p ≡ e.start + i
      → map (object (change_item xs p f)) es ≡ change_item (map (object xs) es) k (λ o. change_item o i f)
  objects_changed from [] to k i p e f t g h at = refl
  objects_changed from (d ∷ es) to zero i p e f t g h at =
      let same : d ≡ e = cc in
      let here : p ≡ d.start + i = rw same at in
      let within : i < d.count = rw same h in
      rw (object_at_change d i p f here) (ap (λ os. change_item (object xs d) i f ∷ os) (objects_behind_change (from + d.count) es to p f t.1 (omega arith)))
  objects_changed from (d ∷ es) to (suc k) i p e f t g h at =
      let bound = tiles_bound (from + d.count) es to k e t.1 g in
      let there : p ≡ d.start + (p - d.start) = omega arith in
      rw (object_before_change d (p - d.start) p f there (omega arith)) (ap (λ os. object xs d ∷ os) (objects_changed (from + d.count) es to k i p e f t.1 g h at))

  -- slots behind the last
  pub object-append : (e : Extent) (ys : List Slot) → e.start + e.count ≤ length xs → object (xs ++ ys) e ≡ object xs e
  object-append e ys h =
      rw (drop-append-le e.start xs ys (omega arith)) (take-append-le e.count (drop e.start xs) ys (omega (arith, length-drop e.start xs)))

  pub objects-append : (from : ℕ) (es : List Extent) (to : ℕ) (ys : List Slot) → Tiles from es to → to ≤ length xs
      → map (object (xs ++ ys)) es ≡ map (object xs) es
  objects-append from [] to ys t h = refl
  objects-append from (e ∷ es) to ys t h =
      let later = tiles_rise (from + e.count) es to t.1 in
      rw (object-append e ys (omega arith)) (ap (λ os. object xs e ∷ os) (objects-append (from + e.count) es to ys t.1 h))

  pub object_at_end : (e : Extent) (ys : List Slot) → e.start ≡ length xs → e.count ≡ length ys → object (xs ++ ys) e ≡ ys
  object_at_end e ys s n = rw (drop_at xs ys e.start (sym s)) (take_all e.count ys (omega arith))

  -- an object's slot is one of all slots
  get_object_within : (e : Extent) (i : ℕ) → i < e.count → slice_get (object xs e) i ≡ option_and_then (slice_get xs) (place_in i e)
  get_object_within e i h =
      get-take e.count (drop e.start xs) i h ∙ get-drop e.start xs i ∙ ap (λ b. option_and_then (slice_get xs) (if b then Some (e.start + i) else None)) (sym (lt-ltb i e.count h))

  get_object_past : (e : Extent) (i : ℕ) → e.count ≤ i → slice_get (object xs e) i ≡ option_and_then (slice_get xs) (place_in i e)
  get_object_past e i h =
      get_behind_take e.count (drop e.start xs) i h ∙ ap (λ b. option_and_then (slice_get xs) (if b then Some (e.start + i) else None)) (sym (le-ltb i e.count h))

  pub get-object : (e : Extent) (i : ℕ) → slice_get (object xs e) i ≡ option_and_then (slice_get xs) (place_in i e)
  get-object e i = ⊎_elim (get_object_within e i) (get_object_past e i) (cases_lt i e.count)

-- the slot at an offset of an object
pub get-objects : (xs : List Slot) (es : List Extent) (k i : ℕ) → slice_get (get_or (map (object xs) es) k []) i ≡ option_and_then (slice_get xs) (option_and_then (place_in i) (slice_get es k))
get-objects xs [] k i = refl
get-objects xs (e ∷ es) zero i = get-object xs e i
get-objects xs (e ∷ es) (suc k) i = get-objects xs es k i
