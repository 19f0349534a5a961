-- Writes of cells.
use Rattle.std.specs.Prelude.{ℕ, List, slice_get, slice_set, Option, Some, None}
use Rattle.global_ptr.specs.declared.ends.FaultKind.TheVariants.{SyncTwice, IndexOut}
use Rattle.cc_ops.specs.Values.{Value, Cell, Plain, Empty, Full, Result, Gives, Fails, on_gives}

-- a cell after a write; a sync cell is assigned once
abbrev pub written : {N : Type 0} → Cell N → Value N → Result (Cell N)
written (Plain w) v = Gives (Plain v)
written Empty v = Gives (Full v)
written (Full w) v = Fails SyncTwice

abbrev pub write_at : {N : Type 0} → List (Cell N) → ℕ → Value N → Option (Cell N) → Result (List (Cell N))
write_at cells i v None = Fails IndexOut
write_at cells i v (Some c) = on_gives (written c v) (λ d. Gives (slice_set cells i d))

-- an object's cells after a write of the one at an offset
abbrev pub write_cell : {N : Type 0} → List (Cell N) → ℕ → Value N → Result (List (Cell N))
write_cell cells i v = write_at cells i v (slice_get cells i)
