-- Why threads of a processor wait: a cell without a value, a branch that lives, an object that another thread is inside or goes into.
use Rattle.std.specs.Prelude.{◌≡◌, ◌⊎◌, ℕ, List, [], ◌∷◌, map, slice_get, Bool, true, false, Option, Some}
use Rattle.std.specs.Option.{option_map_or}
use Rattle.cc_ops.specs.Values.{Value, Empty, Ptr}
use Rattle.cc_ops.specs.Machine.{Address}
use Rattle.cc_ops.specs.declared.number.ThreadNo.{ThreadNo}
use Rattle.cc_ops.specs.Shelves.{Thing, Shelf}
use Rattle.cc_core.specs.Core.{function_shape}
use Rattle.cc_core.specs.Asks.{Answer, Enters}
use Rattle.cc_code.specs.Code.{Code, Then, Does, move}
use Rattle.law_mesh.specs.Local.{cell_on}
use Rattle.law_processors.specs.Living.{one_lives, joins_of}
use Rattle.law_mesh.specs.Spots.{Fiber}
use Rattle.law_processors.specs.Processors.{Waiter, Own, Goes, Joins, Lives, Locked, Processor, Processors}
use Rattle.law_processors.specs.Alone.{alone_at, seen_entry}

-- who waits for a cell waits for one without a value
abbrev pub CellsWait : Processor → Type 0
CellsWait p = (o x : ℕ) → (p.cells o x ≡ []) ⊎ (cell_on p.shelf o x ≡ Some Empty)

-- of the branches that are waited for one lives
abbrev pub BranchesWait : Code → (q : ℕ) → Processor → Type 0
BranchesWait code q p = (i : ℕ) (f : Fiber) (caller : Option ThreadNo) → slice_get p.table i ≡ Some (Lives f Joins caller)
    → one_lives (alone_at q [] (map seen_entry p.table)) f.kids (joins_of (move code f.thread)) ≡ true

-- So is it for all but thread i.
abbrev pub OthersWait : Code → (q i : ℕ) → Processor → Type 0
OthersWait code q i p = (j : ℕ) (f : Fiber) (caller : Option ThreadNo) → (j ≡ i → ⊥) → slice_get p.table j ≡ Some (Lives f Joins caller)
    → one_lives (alone_at q [] (map seen_entry p.table)) f.kids (joins_of (move code f.thread)) ≡ true

abbrev pub IsIn : (i : ℕ) → List Waiter → Type 0
IsIn i [] = ⊥
IsIn i (w ∷ ws) = (w ≡ Own i) ⊎ IsIn i ws

-- thread i is in the hand, or ready
abbrev pub IsUp : Processor → (i : ℕ) → Type 0
IsUp p i = (p.hand ≡ Some i) ⊎ IsIn i p.ready

-- thread i is about to go into an object of this number
pub record GoesInto (code : Code) (p : Processor) (i o : ℕ) : Type 0 where
  pub fiber : Fiber
  pub caller : Option ThreadNo
  pub entry : slice_get p.table i ≡ Some (Lives fiber Goes caller)
  pub line : ℕ
  pub function : ℕ
  pub object : Address
  pub cell : ℕ
  pub values : List (Value Address)
  pub next : Answer Address → Then Address
  pub asks : move code fiber.thread ≡ Does line (Enters function (Ptr object cell) values) next
  pub atomic : (function_shape code.shapes function).atomic ≡ true
  pub is : object.object ≡ o

abbrev pub held_on : Shelf → (object : ℕ) → Bool
held_on s o = option_map_or (λ (t : Thing). t.held) (slice_get s.things o) false

-- who holds an object is inside, or about to go in
abbrev pub LocksWait : Code → Processor → Type 0
LocksWait code p = (o : ℕ) (l : Locked) → p.locks o ≡ Some l → (held_on p.shelf o ≡ true) ⊎ (IsUp p l.holder × GoesInto code p l.holder o)

pub record IsOrderly (code : Code) (q : ℕ) (p : Processor) : Type 0 where
  pub cells : CellsWait p
  pub branches : BranchesWait code q p
  pub locks : LocksWait code p

-- so is each processor of the machine
abbrev pub Orderly : Processors → Type 0
Orderly m = (q : ℕ) (p : Processor) → slice_get m.all q ≡ Some p → IsOrderly m.code q p
