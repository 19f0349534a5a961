-- What contracts see of the cells of one processor.
use Rattle.std.specs.Prelude.{ℕ, zero, suc, ◌+◌, List, [], ◌∷◌, ◌++◌, map, length, get_or, slice_get, Option, Some, None}
use Rattle.global_ptr.specs.declared.values.Spot.{Spot}
use Rattle.global_ptr.specs.declared.values.Value.{Value}
use Rattle.global_ptr.specs.declared.values.Waiter.{Waiter}
use Rattle.cc_ops.specs.declared.cell.Cell.{Cell}
use Rattle.cc_ops.specs.declared.cell.Cell.TheVariants.{Plain, Empty, Full}
use Rattle.sync_cells.specs.declared.cell.Found.{Found}
use Rattle.sync_cells.specs.declared.cell.Found.TheVariants.{Value as TheValue, Empty as NotYet, OutOfObject as NotFound}
use Rattle.sync_cells.specs.declared.cell.Wrote.{Wrote}
use Rattle.sync_cells.specs.declared.cell.Wrote.TheVariants.{Done, Twice, OutOfObject}

-- a cell, and what waits until it is full, first to last
pub record Slot : Type 0 where
  pub cell : Cell
  pub waiters : List Waiter

-- objects 0, 1, .., each the list of its slots, and how many slots were made
pub record Cells : Type 0 where
  pub objects : List (List Slot)
  pub made : ℕ

abbrev pub slot_at : Cells → Spot → Option Slot
slot_at s at = slice_get (get_or s.objects at.object []) at.offset

abbrev pub cell_of : Option Slot → Option Cell
cell_of None = None
cell_of (Some slot) = Some slot.cell

abbrev pub waiters_of : Option Slot → List Waiter
waiters_of None = []
waiters_of (Some slot) = slot.waiters

-- the cell at a spot, if there is one
abbrev pub cell_at : Cells → Spot → Option Cell
cell_at s at = cell_of (slot_at s at)

-- what waits for the cell at a spot
abbrev pub waiters_at : Cells → Spot → List Waiter
waiters_at s at = waiters_of (slot_at s at)

-- a list where one item is changed, or the list itself where it has no such place
abbrev pub change_item : {X : Type 0} → List X → ℕ → (X → X) → List X
change_item [] i f = []
change_item (x ∷ xs) zero f = f x ∷ xs
change_item (x ∷ xs) (suc i) f = x ∷ change_item xs i f

-- the slot at a spot is changed, and all others stay
abbrev pub change_slot : Cells → Spot → (Slot → Slot) → Cells
change_slot s at f = record s { objects = change_item s.objects at.object (λ slots. change_item slots at.offset f) }

-- what a read finds at a cell
abbrev pub found : Option Cell → Found
found None = NotFound
found (Some (Plain v)) = TheValue v
found (Some Empty) = NotYet
found (Some (Full v)) = TheValue v

-- what a write of a cell answers
abbrev pub wrote : Option Cell → Wrote
wrote None = OutOfObject
wrote (Some (Plain w)) = Done
wrote (Some Empty) = Done
wrote (Some (Full w)) = Twice

-- a cell with a value; one that is full was assigned before
abbrev pub assigned : Value → Cell → Cell
assigned v (Plain w) = Plain v
assigned v Empty = Full v
assigned v (Full w) = Full w

-- a slot: new; with a value; with one more waiter, behind the others; with no waiter
abbrev pub unawaited : Cell → Slot
unawaited c = record { cell = c; waiters = [] }

abbrev pub with_value : Value → Slot → Slot
with_value v slot = record slot { cell = assigned v slot.cell }

abbrev pub with_waiter : Waiter → Slot → Slot
with_waiter w slot = record slot { waiters = slot.waiters ++ w ∷ [] }

abbrev pub without_waiters : Slot → Slot
without_waiters slot = record slot { waiters = [] }

-- the store with one more object, of these cells
abbrev pub after_make : Cells → List Cell → Cells
after_make s cells = record { objects = s.objects ++ map unawaited cells ∷ []; made = s.made + length cells }

-- the store behind a write, a park and a wake at a spot
abbrev pub after_write : Cells → Spot → Value → Cells
after_write s at v = change_slot s at (with_value v)

abbrev pub after_park : Cells → Spot → Waiter → Cells
after_park s at w = change_slot s at (with_waiter w)

abbrev pub after_wake : Cells → Spot → Cells
after_wake s at = change_slot s at without_waiters
