-- What each call does to each cell and to what waits for it, by which proofs above speak of a store.
use Rattle.std.proofs.Common.{◌≡◌, ◌≢◌, ℕ, zero, suc, ◌⊎◌, inl, inr, List, [], ◌∷◌, ◌++◌, map, length, get_or, Option, Some, None, refl, ap, sym, ⊎_elim, ◌∙◌, arith}
use Rattle.std.specs.Prelude.{slice_get, option_map}
use Rattle.std.proofs.lemmas.List.{get_or_at, get_or_past}
use Rattle.std.proofs.lemmas.Option.{slice_get-map, unwrap_or-slice_get}
use Rattle.std.proofs.lemmas.Bool.{cases_eq}
use Rattle.std.specs.Option.{unwrap_or}
use Rattle.global_ptr.specs.declared.values.Spot.{Spot}
use Rattle.global_ptr.specs.declared.values.Value.{Value}
use Rattle.global_ptr.specs.declared.values.Waiter.{Waiter}
use Rattle.cc_ops.specs.declared.cell.Cell.{Cell}
use Rattle.cc_ops.specs.declared.cell.Cell.TheVariants.{Full}
use Rattle.sync_cells.specs.Cells.{Slot, Cells, slot_at, cell_of, waiters_of, cell_at, waiters_at, change_item, change_slot, assigned, unawaited, with_value, with_waiter, without_waiters, after_make, after_write, after_park, after_wake}
use Rattle.sync_cells.proofs.ChangedLists.{get_changed, get_unchanged}

-- an item of a changed list, and of an object, which has none where there is no such object
own-changed : (objects : List (List Slot)) (k : ℕ) (f : List Slot → List Slot) → f [] ≡ [] → get_or (change_item objects k f) k [] ≡ f (get_or objects k [])
own-changed [] k f e = sym e
own-changed (o ∷ os) zero f e = refl
own-changed (o ∷ os) (suc k) f e = own-changed os k f e

own-unchanged : (objects : List (List Slot)) (i k : ℕ) (f : List Slot → List Slot) → k ≢ i → get_or (change_item objects i f) k [] ≡ get_or objects k []
own-unchanged objects i k f n =
    sym (unwrap_or-slice_get (change_item objects i f) k []) ∙ ap (λ o. unwrap_or o []) (get_unchanged objects i k f n) ∙ unwrap_or-slice_get objects k []

same_spot : (p at : Spot) → p.object ≡ at.object → p.offset ≡ at.offset → p ≡ at
same_spot p at e h = λ i. record { object = e i; offset = h i }

pub spot_cases : (p at : Spot) → (p ≡ at) ⊎ (p ≢ at)
spot_cases p at = ⊎_elim
    (λ e. ⊎_elim (λ h. inl (same_spot p at e h)) (λ n. inr (λ same. n (ap (λ q. q.offset) same))) (cases_eq p.offset at.offset))
    (λ n. inr (λ same. n (ap (λ q. q.object) same)))
    (cases_eq p.object at.object)

module _ (s : Cells) (at : Spot) (f : Slot → Slot) where
  pub slot_at-changed : slot_at (change_slot s at f) at ≡ option_map f (slot_at s at)
  slot_at-changed = ap (λ own. slice_get own at.offset) (own-changed s.objects at.object (λ own. change_item own at.offset f) refl)
      ∙ get_changed (get_or s.objects at.object []) at.offset f

  in_object : (p : Spot) → p ≢ at → p.object ≡ at.object → slot_at (change_slot s at f) p ≡ slot_at s p
  in_object p n e = rw e (ap (λ own. slice_get own p.offset) (own-changed s.objects at.object (λ own. change_item own at.offset f) refl)
      ∙ get_unchanged (get_or s.objects at.object []) at.offset p.offset f (λ h. n (same_spot p at e h)))

  in_other : (p : Spot) → p.object ≢ at.object → slot_at (change_slot s at f) p ≡ slot_at s p
  in_other p n = ap (λ own. slice_get own p.offset) (own-unchanged s.objects at.object p.object (λ own. change_item own at.offset f) n)

  pub slot_at-unchanged : (p : Spot) → p ≢ at → slot_at (change_slot s at f) p ≡ slot_at s p
  slot_at-unchanged p n = ⊎_elim (in_object p n) (in_other p) (cases_eq p.object at.object)

  -- what the change leaves of each slot, all slots have
  cell_kept : ((o : Slot) → (f o).cell ≡ o.cell) → (o : Option Slot) → cell_of (option_map f o) ≡ cell_of o
  cell_kept keeps None = refl
  cell_kept keeps (Some o) = ap Some (keeps o)

  waiters_kept : ((o : Slot) → (f o).waiters ≡ o.waiters) → (o : Option Slot) → waiters_of (option_map f o) ≡ waiters_of o
  waiters_kept keeps None = refl
  waiters_kept keeps (Some o) = keeps o

  pub cell_at-kept : ((o : Slot) → (f o).cell ≡ o.cell) → (p : Spot) → cell_at (change_slot s at f) p ≡ cell_at s p
  cell_at-kept keeps p = ⊎_elim
      (λ e. rw e (ap cell_of slot_at-changed ∙ cell_kept keeps (slot_at s at)))
      (λ n. ap cell_of (slot_at-unchanged p n))
      (spot_cases p at)

  pub waiters_at-kept : ((o : Slot) → (f o).waiters ≡ o.waiters) → (p : Spot) → waiters_at (change_slot s at f) p ≡ waiters_at s p
  waiters_at-kept keeps p = ⊎_elim
      (λ e. rw e (ap waiters_of slot_at-changed ∙ waiters_kept keeps (slot_at s at)))
      (λ n. ap waiters_of (slot_at-unchanged p n))
      (spot_cases p at)

-- a write
module _ (s : Cells) (at : Spot) (v : Value) where
  written : (o : Option Slot) → cell_of (option_map (with_value v) o) ≡ option_map (assigned v) (cell_of o)
  written None = refl
  written (Some o) = refl

  pub cell_at-write : cell_at (after_write s at v) at ≡ option_map (assigned v) (cell_at s at)
  cell_at-write = ap cell_of (slot_at-changed s at (with_value v)) ∙ written (slot_at s at)

  pub cell_at-write_other : (p : Spot) → p ≢ at → cell_at (after_write s at v) p ≡ cell_at s p
  cell_at-write_other p n = ap cell_of (slot_at-unchanged s at (with_value v) p n)

  pub waiters_at-write : (p : Spot) → waiters_at (after_write s at v) p ≡ waiters_at s p
  waiters_at-write = waiters_at-kept s at (with_value v) (λ o. refl)

  -- a cell that is full stays as it is
  pub full_stays : (p : Spot) (w : Value) → cell_at s p ≡ Some (Full w) → cell_at (after_write s at v) p ≡ Some (Full w)
  full_stays p w h = ⊎_elim
      (λ e. rw e (cell_at-write ∙ ap (option_map (assigned v)) (rw e at h)))
      (λ n. cell_at-write_other p n ∙ h)
      (spot_cases p at)

-- a wait begins
module _ (s : Cells) (at : Spot) (w : Waiter) where
  queued : (o : Option Slot) (c : Cell) → cell_of o ≡ Some c → waiters_of (option_map (with_waiter w) o) ≡ waiters_of o ++ w ∷ []
  queued None c h = absurd (cc)
  queued (Some o) c h = refl

  pub waiters_at-park : (c : Cell) → cell_at s at ≡ Some c → waiters_at (after_park s at w) at ≡ waiters_at s at ++ w ∷ []
  waiters_at-park c h = ap waiters_of (slot_at-changed s at (with_waiter w)) ∙ queued (slot_at s at) c h

  pub waiters_at-park_other : (p : Spot) → p ≢ at → waiters_at (after_park s at w) p ≡ waiters_at s p
  waiters_at-park_other p n = ap waiters_of (slot_at-unchanged s at (with_waiter w) p n)

  pub cell_at-park : (p : Spot) → cell_at (after_park s at w) p ≡ cell_at s p
  cell_at-park = cell_at-kept s at (with_waiter w) (λ o. refl)

-- all waits for a cell end
module _ (s : Cells) (at : Spot) where
  emptied : (o : Option Slot) → waiters_of (option_map without_waiters o) ≡ []
  emptied None = refl
  emptied (Some o) = refl

  pub waiters_at-wake : waiters_at (after_wake s at) at ≡ []
  waiters_at-wake = ap waiters_of (slot_at-changed s at without_waiters) ∙ emptied (slot_at s at)

  pub waiters_at-wake_other : (p : Spot) → p ≢ at → waiters_at (after_wake s at) p ≡ waiters_at s p
  waiters_at-wake_other p n = ap waiters_of (slot_at-unchanged s at without_waiters p n)

  pub cell_at-wake : (p : Spot) → cell_at (after_wake s at) p ≡ cell_at s p
  cell_at-wake = cell_at-kept s at without_waiters (λ o. refl)

-- an object is made
module _ (s : Cells) (cells : List Cell) where
  own_behind : (objects : List (List Slot)) (own : List Slot) (k : ℕ) → k ≢ length objects → get_or (objects ++ own ∷ []) k [] ≡ get_or objects k []
  own_behind [] own zero n = absurd (n refl)
  own_behind [] own (suc k) n = refl
  own_behind (o ∷ os) own zero n = refl
  own_behind (o ∷ os) own (suc k) n = own_behind os own k (λ e. n (ap suc e))

  own_none : (objects : List (List Slot)) → get_or objects (length objects) [] ≡ []
  own_none objects = get_or_past objects (length objects) [] (omega arith)

  bare : (o : Option Cell) → cell_of (option_map unawaited o) ≡ o
  bare None = refl
  bare (Some c) = refl

  lonely : (o : Option Cell) → waiters_of (option_map unawaited o) ≡ []
  lonely None = refl
  lonely (Some c) = refl

  slot_at-make : (p : Spot) → p.object ≡ length s.objects → slot_at (after_make s cells) p ≡ option_map unawaited (slice_get cells p.offset)
  slot_at-make p e =
      ap (λ own. slice_get own p.offset) (get_or_at s.objects (map unawaited cells) [] [] p.object (sym e)) ∙ slice_get-map unawaited cells p.offset

  slot_at-make_other : (p : Spot) → p.object ≢ length s.objects → slot_at (after_make s cells) p ≡ slot_at s p
  slot_at-make_other p n = ap (λ own. slice_get own p.offset) (own_behind s.objects (map unawaited cells) p.object n)

  pub cell_at-make : (p : Spot) → p.object ≡ length s.objects → cell_at (after_make s cells) p ≡ slice_get cells p.offset
  cell_at-make p e = ap cell_of (slot_at-make p e) ∙ bare (slice_get cells p.offset)

  pub cell_at-make_other : (p : Spot) → p.object ≢ length s.objects → cell_at (after_make s cells) p ≡ cell_at s p
  cell_at-make_other p n = ap cell_of (slot_at-make_other p n)

  pub waiters_at-make : (p : Spot) → waiters_at (after_make s cells) p ≡ waiters_at s p
  waiters_at-make p = ⊎_elim
      (λ e. ap waiters_of (slot_at-make p e) ∙ lonely (slice_get cells p.offset) ∙ rw (e, own_none s.objects) refl)
      (λ n. ap waiters_of (slot_at-make_other p n))
      (cases_eq p.object (length s.objects))
