-- A configuration: all that a run has come to.
use Rattle.std.specs.Prelude.{ℕ, List, [], ◌∷◌, length, slice_get, Option, Some, None}
use Rattle.std.specs.FinMap as fin
use Rattle.cc_ops.specs.Values.{Void, Int, Null, Ptr, Gives, Fails, Result}
use Rattle.cc_ops.specs.Cells.{write_cell}
use Rattle.cc_core.specs.Names.{Name, Map, Value, Cell, added}
use Rattle.cc_core.specs.Core.{Term}

-- an object: the processor where it was made, and its cells
pub record Object : Type 0 where
  pub home : Name
  pub cells : List Cell

-- A thread that has not ended: its processor, and what it has left to do.
-- asked: where it stands at a remote call, the number of the thread that was made for it, whose value it waits for.
-- threads, objects: how many it made. inside: the functions that it is inside, each with its object, the innermost first.
pub record Thread : Type 0 where
  pub home : Name
  pub term : Term
  pub asked : Option ℕ
  pub threads : ℕ
  pub objects : ℕ
  pub inside : List (ℕ × Value)

-- a thread goes on, or has ended with a value, which is void for a branch
pub data State : Type 0 where
  Live : (l : Thread) → State
  Ended : (v : Value) → State

-- threads_made, slots_made: how many threads and cells were made on each processor. processors: how many, the root among them
pub record Config : Type 0 where
  pub threads : Map State
  pub objects : Map Object
  pub output : List ℕ
  pub processors : ℕ
  pub threads_made : Map ℕ
  pub slots_made : Map ℕ

abbrev pub cells_of : Option Object → List Cell
cells_of None = []
cells_of (Some x) = x.cells

abbrev pub home_of : Option Object → Name
home_of None = []
home_of (Some x) = x.home

-- the processor of the object that a pointer leads to; the root where it leads to none
abbrev pub home : Config → Value → Name
home s Void = []
home s (Int n) = []
home s Null = []
home s (Ptr o x) = home_of (fin.get s.objects o)

-- the cell of object o at offset x
abbrev pub cell : Config → Name → ℕ → Option Cell
cell s o x = slice_get (cells_of (fin.get s.objects o)) x

abbrev pub put_cells : Map Object → Name → Option Object → Result (List Cell) → Map Object
put_cells m o None cells = m
put_cells m o (Some x) (Fails kind) = m
put_cells m o (Some x) (Gives cells) = fin.insert m o (record { home = x.home; cells = cells })

-- the objects after a value is written to an address; where it may not be, nothing changes
abbrev pub write_value : Map Object → Value → Value → Map Object
write_value m Void v = m
write_value m (Int n) v = m
write_value m Null v = m
write_value m (Ptr o x) v = put_cells m o (fin.get m o) (write_cell (cells_of (fin.get m o)) x v)

abbrev pub write_all : Map Object → List (Value × Value) → Map Object
write_all m [] = m
write_all m (w ∷ ws) = write_all (write_value m w.0 w.1) ws

abbrev pub count_slots : Map ℕ → List (Name × Object) → Map ℕ
count_slots m [] = m
count_slots m (e ∷ es) = count_slots (added m e.1.home (length e.1.cells)) es

abbrev pub count_threads : Map ℕ → List (Name × Thread) → Map ℕ
count_threads m [] = m
count_threads m (e ∷ es) = count_threads (added m e.1.home 1) es
