-- How a store keeps its cells.
use Rattle.std.specs.Prelude.{◌≡◌, ◌≢◌, ℕ, suc, ◌+◌, ◌^◌, ◌<◌, ◌≤◌, List, [], ◌∷◌, map, length, take, drop, slice_get, Option, Some, None, option_and_then}
use Rattle.std.specs.Prelude.{nat_eq, nat_lt, if◌then◌else◌, unwrap_or}
use Rattle.std.specs.HashMap.{get, HashMap}
use Rattle.std.specs.declared.hash.FoldHasher.{FoldHasher}
use Rattle.std.specs.declared.hash.BuildHasherDefault.{BuildHasherDefault}
use Rattle.global_ptr.specs.declared.values.Spot.{Spot}
use Rattle.global_ptr.specs.declared.values.Waiter.{Waiter}
use Rattle.cc_ops.specs.declared.cell.Cell.{Cell}
use Rattle.sync_cells.specs.declared.layout.Extent.{Extent}
use Rattle.sync_cells.specs.declared.layout.TheConstants.{MOST_SLOTS}
use Rattle.sync_cells.specs.Cells.{Slot, Cells}

-- what waits for cells, by their places among all cells
abbrev pub Queues : Type 0
Queues = HashMap ℕ (List Waiter) (BuildHasherDefault FoldHasher)

-- what waits for the cell at a place
abbrev pub queue : Queues → ℕ → List Waiter
queue m place = unwrap_or (get nat_eq m place) []

-- the slots of cells that stand from a place on
abbrev pub slots : (ℕ → List Waiter) → (place : ℕ) → List Cell → List Slot
slots waiting place [] = []
slots waiting place (c ∷ cs) = record { cell = c; waiters = waiting place } ∷ slots waiting (suc place) cs

-- the part of all slots that is an object
abbrev pub object : List Slot → Extent → List Slot
object all e = take e.count (drop e.start all)

-- the objects stand one behind the other, from one place to another
abbrev pub Tiles : ℕ → List Extent → ℕ → Type 0
Tiles from [] to = from ≡ to
Tiles from (e ∷ es) to = (e.start ≡ from) × Tiles (from + e.count) es to

-- the place of the cell at an offset of an object
abbrev pub place_in : ℕ → Extent → Option ℕ
place_in offset e = if nat_lt offset e.count then Some (e.start + offset) else None

-- the place of the cell at a spot among all cells
abbrev pub place_of : List Extent → Spot → Option ℕ
place_of objects at = option_and_then (place_in at.offset) (slice_get objects at.object)

-- what contracts see of cells, objects and what waits
abbrev pub shown : List Cell → List Extent → (ℕ → List Waiter) → Cells
shown cells objects waiting = record { objects = map (object (slots waiting 0 cells)) objects; made = length cells }

-- what holds of a store's cells, of its objects, and of what waits
pub record IsLaidOut (cells : List Cell) (objects : List Extent) (waiting : ℕ → List Waiter) : Type 0 where
  pub tiled : Tiles 0 objects (length cells)
  -- each object has a cell
  pub numbered : length objects ≤ length cells
  pub limited : length cells ≤ MOST_SLOTS
  -- what waits, waits for a cell
  pub awaited : (place : ℕ) → length cells ≤ place → waiting place ≡ []
  pub countable : (place : ℕ) → length (waiting place) < 2 ^ 32

-- other waiters wait at one place, and at all others the same
pub record Requeues (old new : Queues) (place : ℕ) (waiters : List Waiter) : Type 0 where
  pub here : queue new place ≡ waiters
  pub there : (at : ℕ) → at ≢ place → queue new at ≡ queue old at
