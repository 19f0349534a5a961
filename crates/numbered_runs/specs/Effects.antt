-- What an ask changes besides what its own thread has left to do, by numbers.
use Rattle.std.specs.Prelude.{ℕ, zero, suc, Bool, true, false, if◌then◌else◌, List, [], ◌∷◌, ◌++◌, length, drop, replicate, Option, Some, None}
use Rattle.cc_ops.specs.Values.{Value, Cell, Void, Int, Null, Ptr, fresh, started, Result, Gives, Fails, Plain, first}
use Rattle.cc_ops.specs.Cells.{written}
use Rattle.cc_ops.specs.Classes.{construct}
use Rattle.cc_ops.specs.declared.kind.Kind.{Kind}
use Rattle.cc_ops.specs.Machine.{Address, Values, same_address}
use Rattle.cc_ops.specs.Shelves.{Shelf, cell_in, put_cell, put_thing, put_held, no_shelf, next_address, home_in}
use Rattle.cc_core.specs.Core.{Shapes, function_shape, class_shape}
use Rattle.cc_core.specs.Asks.{Ask, Reads, Writes, Copies, Indexes, Shifts, Computes, Tests, Makes, MakesWith, Builds, Enters, Leaves}
use Rattle.cc_core.specs.Asks.{ForksAll, ForksOne, Joins, Spawns, Prints, Calls, Casts, NewProcessor}
use Rattle.cc_core.specs.Effects.{cells_with, constructed, printed, left_behind}
use Rattle.cc_code.specs.Code.{Thread, Starting}
use Rattle.numbered_runs.specs.Machine.{Machine, Runner}

-- objects: those that are made, in order, each on a processor. writes: the values written, each with its address. starts: the threads that are
-- made, besides branches. processors: how many are made. prints: the bytes written. inside: the functions that the thread is inside afterwards
pub record Effect : Type 0 where
  pub objects : List (ℕ × List (Cell Address))
  pub writes : List (Value Address × Value Address)
  pub starts : List (Thread Address)
  pub processors : ℕ
  pub prints : List ℕ
  pub inside : List (ℕ × Value Address)

abbrev pub nothing : Runner → Effect
nothing r = record { objects = []; writes = []; starts = []; processors = 0; prints = []; inside = r.inside }

-- an object is made on processor q
abbrev pub object : Runner → (q : ℕ) → List (Cell Address) → Effect
object r q cells = record (nothing r) { objects = (q, cells) ∷ [] }

abbrev pub start : Runner → ℕ → Value Address → Values → Effect
start r f o vs = record (nothing r) { starts = Starting f o vs ∷ [] }

-- the objects of parameters, of which each takes as many values as it has cells
abbrev pub parameters : (q : ℕ) → List (List Kind) → Values → List (ℕ × List (Cell Address))
parameters q [] vs = []
parameters q (kinds ∷ more) vs = (q, cells_with kinds vs) ∷ parameters q more (drop (length kinds) vs)

-- of an ask of a thread on processor q, where `found` are the values that its needs found
abbrev pub effect : Machine → (q : ℕ) → Runner → Ask Address → (found : Values) → Effect
effect w q r (Reads remote a) found = nothing r
effect w q r (Writes remote a v) found = record (nothing r) { writes = (a, v) ∷ [] }
effect w q r (Copies a n) found = nothing r
effect w q r (Indexes a n i) found = nothing r
effect w q r (Shifts a i) found = nothing r
effect w q r (Computes op vs) found = nothing r
effect w q r Tests found = nothing r
effect w q r (Makes kind n) found = object r q (replicate n (fresh kind))
effect w q r (MakesWith kind v) found = object r q (started kind v ∷ [])
effect w q r (Builds c vs) found = object r q (constructed (construct same_address (class_shape w.code.shapes c) vs))
effect w q r (Enters f o vs) found = record (nothing r) {
  objects = parameters q (function_shape w.code.shapes f).params vs;
  inside = (f, o) ∷ r.inside;
}
effect w q r Leaves found = record (nothing r) { inside = left_behind r.inside }
effect w q r (ForksAll n) found = nothing r
effect w q r (ForksOne v) found = object r q (Plain (first found) ∷ [])
effect w q r (Joins made) found = nothing r
effect w q r (Spawns f o vs) found = start r f o vs
effect w q r (Prints parts vs) found = record (nothing r) { prints = printed parts vs }
effect w q r (Calls f o vs) found = start r f o vs
effect w q r (Casts f o vs) found = start r f o vs
effect w q r (NewProcessor c vs) found =
    record (object r (length w.shelves) (constructed (construct same_address (class_shape w.code.shapes c) vs))) { processors = 1 }

-- the processor of the threads that a thread on processor q makes
abbrev pub start_home : (q : ℕ) → Ask Address → ℕ
start_home q (Calls f o vs) = home_in o
start_home q (Casts f o vs) = home_in o
start_home q ask = q

-- ---- objects after an effect

abbrev pub put_written : List Shelf → Address → ℕ → Result (Cell Address) → List Shelf
put_written shelves a x (Gives c) = put_cell shelves a x c
put_written shelves a x (Fails kind) = shelves

abbrev pub write_at : List Shelf → Address → ℕ → Value Address → Option (Cell Address) → List Shelf
write_at shelves a x v None = shelves
write_at shelves a x v (Some c) = put_written shelves a x (written c v)

-- after a value is written to an address; where it may not be, nothing changes
abbrev pub write_value : List Shelf → Value Address → Value Address → List Shelf
write_value shelves Void v = shelves
write_value shelves (Int n) v = shelves
write_value shelves Null v = shelves
write_value shelves (Ptr a x) v = write_at shelves a x v (cell_in shelves a x)

abbrev pub write_all : List Shelf → List (Value Address × Value Address) → List Shelf
write_all shelves [] = shelves
write_all shelves (e ∷ es) = write_all (write_value shelves e.0 e.1) es

-- with so many processors more
abbrev pub more_shelves : ℕ → List Shelf → List Shelf
more_shelves zero shelves = shelves
more_shelves (suc n) shelves = more_shelves n (shelves ++ no_shelf ∷ [])

abbrev pub put_things : List Shelf → List (ℕ × List (Cell Address)) → List Shelf
put_things shelves [] = shelves
put_things shelves (e ∷ es) = put_things (put_thing shelves e.0 e.1) es

-- the addresses of objects that are made one after another
abbrev pub addresses : List Shelf → List (ℕ × List (Cell Address)) → Values
addresses shelves [] = []
addresses shelves (e ∷ es) = next_address shelves e.0 ∷ addresses (put_thing shelves e.0 e.1) es

-- a thread has entered function f of an object, or has left it
abbrev pub note_held : Shapes → (f : ℕ) → Value Address → (held : Bool) → List Shelf → List Shelf
note_held h f Void held shelves = shelves
note_held h f (Int n) held shelves = shelves
note_held h f Null held shelves = shelves
note_held h f (Ptr a x) held shelves = if (function_shape h f).atomic then put_held shelves a held else shelves

abbrev pub leave : Shapes → List (ℕ × Value Address) → List Shelf → List Shelf
leave h [] shelves = shelves
leave h (e ∷ es) shelves = note_held h e.0 e.1 false shelves

abbrev pub leave_all : Shapes → List (ℕ × Value Address) → List Shelf → List Shelf
leave_all h [] shelves = shelves
leave_all h (e ∷ es) shelves = leave_all h es (note_held h e.0 e.1 false shelves)

abbrev pub held_after : Shapes → List (ℕ × Value Address) → Ask Address → List Shelf → List Shelf
held_after h inside (Enters f o vs) shelves = note_held h f o true shelves
held_after h inside Leaves shelves = leave h inside shelves
held_after h inside q shelves = shelves
