-- What contracts see of the fields of a store, before and behind a change.
use Rattle.std.proofs.Common.{◌≡◌, ◌≢◌, ℕ, ◌+◌, ◌<◌, ◌≤◌, ◌^◌, List, [], ◌∷◌, ◌++◌, map, length, set, get_or, Option, Some, None, refl, ap, sym, ⊎_elim, ◌∙◌, arith, length-append, length-set}
use Rattle.std.proofs.lemmas.List.{length_push, length-map, map-append}
use Rattle.std.specs.Prelude.{slice_get, option_map, option_and_then}
use Rattle.std.proofs.lemmas.Option.{slice_get-get_or, slice_get_read, get_or_from_slice_get}
use Rattle.std.proofs.lemmas.Bool.{lt-ltb, le-ltb, cases_lt, cases_eq}
use Rattle.global_ptr.specs.declared.values.Spot.{Spot}
use Rattle.global_ptr.specs.declared.values.Value.{Value}
use Rattle.global_ptr.specs.declared.values.Waiter.{Waiter}
use Rattle.cc_ops.specs.declared.cell.Cell.{Cell}
use Rattle.cc_ops.specs.declared.cell.Cell.TheVariants.{Empty}
use Rattle.sync_cells.specs.declared.layout.Extent.{Extent}
use Rattle.sync_cells.specs.declared.layout.TheConstants.{MOST_SLOTS}
use Rattle.sync_cells.specs.Cells.{Slot, Cells, slot_at, cell_at, cell_of, waiters_at, waiters_of, change_item, change_slot, unawaited, assigned, after_make, after_write}
use Rattle.sync_cells.specs.Layout.{slots, object, Tiles, place_in, place_of, shown, IsLaidOut}
use Rattle.sync_cells.proofs.ChangedLists.{change_past, change_fixed}
use Rattle.sync_cells.proofs.SlotLaws.{slot, length-slots, get-slots, slots-set, slots-append, slots_unawaited, slots_requeued, tiles_bound, tiles_push, objects_changed, objects-append, object_at_end, get-objects}

-- where the cell at a spot is
pub record Stands (objects : List Extent) (at : Spot) (place : ℕ) : Type 0 where
  pub extent : Extent
  pub is : slice_get objects at.object ≡ Some extent
  pub within : at.offset < extent.count
  pub place_is : place ≡ extent.start + at.offset

stands_in : (es : List Extent) (at : Spot) (p : ℕ) (o : Option Extent) → slice_get es at.object ≡ o → option_and_then (place_in at.offset) o ≡ Some p → Stands es at p
stands_in es at p None e h = absurd (cc)
stands_in es at p (Some x) e h = ⊎_elim
    (λ less. let inside = lt-ltb at.offset x.count less in record { extent = x; is = e; within = less; place_is = cc })
    (λ more. let outside = le-ltb at.offset x.count more in absurd (cc))
    (cases_lt at.offset x.count)

pub stands : (es : List Extent) (at : Spot) (p : ℕ) → place_of es at ≡ Some p → Stands es at p
stands es at p h = stands_in es at p (slice_get es at.object) refl h

pub place_within : (n : ℕ) (es : List Extent) (at : Spot) (p : ℕ) → Tiles 0 es n → place_of es at ≡ Some p → p < n
place_within n es at p t h =
    let s = stands es at p h in
    let bound = tiles_bound 0 es n at.object s.extent t s.is in
    omega arith

same_shown : (a b : List (List Slot)) (m n : ℕ) → a ≡ b → m ≡ n → ◌≡◌ {A = Cells} (record { objects = a; made = m }) (record { objects = b; made = n })
same_shown a b m n e h = λ i. record { objects = e i; made = h i }

-- where there is no such cell, a change changes nothing
change_in : (s : Cells) (at : Spot) (f : Slot → Slot) (o : Option (List Slot)) → slice_get s.objects at.object ≡ o → slot_at s at ≡ None → change_slot s at f ≡ s
change_in s at f None e h = same_shown _ _ _ _ (change_past s.objects at.object _ e) refl
change_in s at f (Some own) e h =
    let is : get_or s.objects at.object [] ≡ own = get_or_from_slice_get s.objects at.object own [] e in
    let here : slice_get own at.offset ≡ None = rw (← is) h in
    same_shown _ _ _ _ (change_fixed s.objects at.object _ own e (change_past own at.offset f here)) refl

pub change_nowhere : (s : Cells) (at : Spot) (f : Slot → Slot) → slot_at s at ≡ None → change_slot s at f ≡ s
change_nowhere s at f h = change_in s at f (slice_get s.objects at.object) refl h

module _ (cs : List Cell) (es : List Extent) (q : ℕ → List Waiter) where
  pub slot_there : (at : Spot) (p : ℕ) (c : Cell) → place_of es at ≡ Some p → slice_get cs p ≡ Some c → slot_at (shown cs es q) at ≡ Some (slot (q p) c)
  slot_there at p c h g =
      let zero_more : 0 + p ≡ p = omega arith in
      get-objects (slots q 0 cs) es at.object at.offset ∙ ap (option_and_then (slice_get (slots q 0 cs))) h ∙ get-slots q 0 cs p
      ∙ ap (option_map (slot (q (0 + p)))) g ∙ ap (λ k. Some (slot (q k) c)) zero_more

  pub slot_nowhere : (at : Spot) → place_of es at ≡ None → slot_at (shown cs es q) at ≡ None
  slot_nowhere at h = get-objects (slots q 0 cs) es at.object at.offset ∙ ap (option_and_then (slice_get (slots q 0 cs))) h

  -- a cell that was read at its place
  pub cell_there : (s : Cells) (at : Spot) (p : ℕ) (c : Cell) → shown cs es q ≡ s → Tiles 0 es (length cs) → place_of es at ≡ Some p → c ≡ get_or cs p c → cell_at s at ≡ Some c
  cell_there s at p c is t h read = rw (← is) (ap cell_of (slot_there at p c h (slice_get_read cs (length cs) p c refl (place_within (length cs) es at p t h) read)))

  pub cell_nowhere : (s : Cells) (at : Spot) → shown cs es q ≡ s → place_of es at ≡ None → cell_at s at ≡ None
  cell_nowhere s at is h = rw (← is) (ap cell_of (slot_nowhere at h))

  pub waiters_there : (s : Cells) (at : Spot) (p : ℕ) → shown cs es q ≡ s → Tiles 0 es (length cs) → place_of es at ≡ Some p → waiters_at s at ≡ q p
  waiters_there s at p is t h = rw (← is) (ap waiters_of (slot_there at p _ h (slice_get-get_or cs p Empty (place_within (length cs) es at p t h))))

  pub unchanged_nowhere : (s : Cells) (at : Spot) (f : Slot → Slot) → shown cs es q ≡ s → place_of es at ≡ None → s ≡ change_slot s at f
  unchanged_nowhere s at f is h = sym (change_nowhere s at f (rw (← is) (slot_nowhere at h)))

  pub waiters_nowhere : (s : Cells) (at : Spot) → shown cs es q ≡ s → place_of es at ≡ None → waiters_at s at ≡ []
  waiters_nowhere s at is h = rw (← is) (ap waiters_of (slot_nowhere at h))

  shown_changed : (at : Spot) (p : ℕ) (f : Slot → Slot) → Tiles 0 es (length cs) → place_of es at ≡ Some p
      → map (object (change_item (slots q 0 cs) p f)) es ≡ (change_slot (shown cs es q) at f).objects
  shown_changed at p f t h =
      let s = stands es at p h in
      objects_changed (slots q 0 cs) 0 es (length cs) at.object at.offset p s.extent f t s.is s.within s.place_is

  pub shown-write : (at : Spot) (p : ℕ) (c : Cell) (v : Value) → Tiles 0 es (length cs) → place_of es at ≡ Some p → slice_get cs p ≡ Some c
      → shown (set cs p (assigned v c)) es q ≡ after_write (shown cs es q) at v
  shown-write at p c v t h g = same_shown _ _ _ _
      (ap (λ xs. map (object xs) es) (slots-set q 0 cs p c (assigned v) g) ∙ shown_changed at p (λ s. record s { cell = assigned v s.cell }) t h)
      (length-set cs p (assigned v c))

  -- another queue
  pub shown-requeue : (at : Spot) (p : ℕ) (r : ℕ → List Waiter) (f : List Waiter → List Waiter) → Tiles 0 es (length cs) → place_of es at ≡ Some p
      → r p ≡ f (q p) → ((k : ℕ) → k ≢ p → r k ≡ q k) → shown cs es r ≡ change_slot (shown cs es q) at (λ s. record s { waiters = f s.waiters })
  shown-requeue at p r f t h here there = same_shown _ _ _ _
      (ap (λ xs. map (object xs) es) (slots_requeued q r 0 cs p p f (omega arith) here there) ∙ shown_changed at p (λ s. record s { waiters = f s.waiters }) t h)
      refl

  -- one more object
  pub shown-append : (ds : List Cell) (e : Extent) → Tiles 0 es (length cs) → e.start ≡ length cs → e.count ≡ length ds → ((k : ℕ) → length cs ≤ k → q k ≡ [])
      → shown (cs ++ ds) (es ++ e ∷ []) q ≡ after_make (shown cs es q) ds
  shown-append ds e t s n none =
      let all : slots q 0 (cs ++ ds) ≡ slots q 0 cs ++ map unawaited ds
      = slots-append q 0 cs ds ∙ ap (λ ss. slots q 0 cs ++ ss) (slots_unawaited q (0 + length cs) ds (λ k h. none k (omega arith))) in
      let same : length (slots q 0 cs) ≡ length cs = length-slots q 0 cs in
      same_shown _ _ _ _
      (ap (λ xs. map (object xs) (es ++ e ∷ [])) all
      ∙ map-append (object (slots q 0 cs ++ map unawaited ds)) es (e ∷ [])
      ∙ rw (objects-append (slots q 0 cs) 0 es (length cs) (map unawaited ds) t (omega arith))
      (ap (λ o. map (object (slots q 0 cs)) es ++ o ∷ []) (object_at_end (slots q 0 cs) e (map unawaited ds) (s ∙ sym same) (n ∙ sym (length-map ds unawaited)))))
      (length-append cs ds)

  pub laid_out-requeue : (p : ℕ) (r : ℕ → List Waiter) → IsLaidOut cs es q → p < length cs → length (r p) < 2 ^ 32 → ((k : ℕ) → k ≢ p → r k ≡ q k) → IsLaidOut cs es r
  laid_out-requeue p r ok within few there = record {
    tiled = ok.tiled;
    numbered = ok.numbered;
    limited = ok.limited;
    awaited = λ k h. there k (λ e. absurd (omega arith)) ∙ ok.awaited k h;
    countable = λ k. ⊎_elim (λ e. rw e few) (λ apart. rw (there k apart) (ok.countable k)) (cases_eq k p);
  }

  pub laid_out-append : (ds : List Cell) (e : Extent) → IsLaidOut cs es q → e.start ≡ length cs → e.count ≡ length ds → 0 < length ds → length cs + length ds ≤ MOST_SLOTS
      → IsLaidOut (cs ++ ds) (es ++ e ∷ []) q
  laid_out-append ds e ok s n some fits = record {
    tiled = rw (length-append cs ds, ← n) (tiles_push 0 es (length cs) e ok.tiled s);
    numbered = rw (length-append cs ds, length_push es e) (omega (arith, ok.numbered));
    limited = rw (length-append cs ds) fits;
    awaited = λ k h. ok.awaited k (omega (arith, length-append cs ds));
    countable = ok.countable;
  }
