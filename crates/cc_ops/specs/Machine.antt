-- The machine's values, cells and results as the definitions see them: there an object is named by two numbers.
use Rattle.std.specs.Prelude.{◌≡◌, ℕ, ℤ, Bool, ◌&&◌, ◌==◌, List, map, Option, Some, None, Result, Ok, Err}
use Rattle.global_ptr.specs.declared.ends.FaultKind.{FaultKind}
use Rattle.global_ptr.specs.declared.ends.FaultKind.TheVariants.{Overflow}
use Rattle.global_ptr.specs.declared.values.Value.{Value}
use Rattle.global_ptr.specs.declared.values.Value.TheVariants as machine
use Rattle.cc_ops.specs.declared.build_error.BuildError.{BuildError}
use Rattle.cc_ops.specs.declared.build_error.BuildError.TheVariants.{Fault, Memory}
use Rattle.cc_ops.specs.declared.cell.Cell.{Cell}
use Rattle.cc_ops.specs.declared.cell.Cell.TheVariants as cell
use Rattle.cc_ops.specs.Values as values
use Rattle.cc_ops.specs.Values.{Void, Int, Null, Ptr, Plain, Empty, Full, Gives, Fails}

-- an object: its processor's number, and its own there, both from 0
pub record Address : Type 0 where
  pub processor : ℕ
  pub object : ℕ

abbrev pub same_address : Address → Address → Bool
same_address a b = (a.processor == b.processor) && (a.object == b.object)

abbrev pub Values : Type 0
Values = List (values.Value Address)

abbrev pub value_of : Value → values.Value Address
value_of machine.Void = Void
value_of (machine.Int n) = Int n
value_of machine.Null = Null
value_of (machine.Ptr a) = Ptr (record { processor = a.processor; object = a.object }) a.offset

abbrev pub cell_of : Cell → values.Cell Address
cell_of (cell.Plain v) = Plain (value_of v)
cell_of cell.Empty = Empty
cell_of (cell.Full v) = Full (value_of v)

-- a result in Rust, where `view` is how the definitions see what it holds
abbrev pub answer_of : {A B : Type 0} → (view : A → B) → Result A FaultKind → values.Result B
answer_of view (Ok a) = Gives (view a)
answer_of view (Err kind) = Fails kind

-- a checked number, or the fault of one that does not fit 64 bits
abbrev pub checked : {N : Type 0} → Option ℤ → values.Result (values.Value N)
checked None = Fails Overflow
checked (Some n) = Gives (Int n)

-- a new object: the cells that are wanted, or the fault, or want of memory
abbrev pub IsBuilt : Result (List Cell) BuildError → (wanted : values.Result (List (values.Cell Address))) → Type 0
IsBuilt (Ok cells) wanted = wanted ≡ Gives (map cell_of cells)
IsBuilt (Err (Fault kind)) wanted = wanted ≡ Fails kind
IsBuilt (Err Memory) wanted = Unit {0}
