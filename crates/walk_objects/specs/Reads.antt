-- What is read and written of the objects of a run.
use Rattle.std.specs.Prelude.{◌≡◌, List, [], ◌∷◌, Option, Some, None, Result, Ok, Err}
use Rattle.global_ptr.specs.declared.ends.FaultKind.{FaultKind}
use Rattle.global_ptr.specs.declared.ends.FaultKind.TheVariants.{NullPointer}
use Rattle.global_ptr.specs.declared.values.Addr.{Addr}
use Rattle.global_ptr.specs.declared.values.Value.{Value as RustValue}
use Rattle.cc_ops.specs.Values.{Value}
use Rattle.cc_ops.specs.Machine.{Address, value_of}
use Rattle.cc_ops.specs.Shelves.{Shelf, cell_in}
use Rattle.cc_core.specs.Needs.{Verdict, Go, Hold, Bad, at_object, read, writable}
use Rattle.numbered_runs.specs.Effects.{write_value}

abbrev pub address_at : Addr → Address
address_at a = record { processor = a.processor; object = a.object }

-- whether a value may be read from an address, or written to it
abbrev pub reading : List Shelf → (from : Value Address) → Verdict Address
reading shelves from = at_object from (Bad NullPointer) (λ a x. read (cell_in shelves a x))

abbrev pub writing : List Shelf → (to : Value Address) → Verdict Address
writing shelves to = at_object to (Bad NullPointer) (λ a x. writable (cell_in shelves a x))

abbrev pub IsRead : Verdict Address → Result (Option RustValue) FaultKind → Type 0
IsRead verdict (Ok (Some v)) = verdict ≡ Go (value_of v ∷ [])
IsRead verdict (Ok None) = verdict ≡ Hold
IsRead verdict (Err kind) = verdict ≡ Bad kind

-- a fault changes nothing
abbrev pub IsWritten : List Shelf → (to v : Value Address) → Result (Unit {0}) FaultKind → List Shelf → Type 0
IsWritten old to v (Ok done) new = (writing old to ≡ Go []) × (new ≡ write_value old to v)
IsWritten old to v (Err kind) new = (writing old to ≡ Bad kind) × (new ≡ old)
