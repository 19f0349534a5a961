-- How a run goes wrong: each of these is what a law of types says of no run of a well-typed program.
use Rattle.std.specs.Prelude.{◌≡◌, ℕ, List, [], Some, ℤ}
use Rattle.std.specs.FinMap as fin
use Rattle.cc_core.specs.Asks.{Ask, Answer}
use Rattle.cc_core.specs.Config.{Config, Thread, Live, Ended}
use Rattle.cc_core.specs.Core.{Program}
use Rattle.cc_core.specs.Names.{Name, Value}
use Rattle.cc_core.specs.Next.{After, Asks, next}
use Rattle.cc_core.specs.Steps.{Waits, step}
use Rattle.core_types.specs.Atomic.{IsInAtomic}
use Rattle.core_types.specs.Kinds.{HasKinds, IsInt, StaysHere}
use Rattle.core_types.specs.Runs.{IsReachedFrom}

-- a run has come to this configuration, and there a thread asks this next
pub record Asking (p : Program) : Type 0 where
  pub ints : List ℤ
  pub config : Config
  pub reached : IsReachedFrom p ints config
  pub name : Name
  pub thread : Thread
  pub live : fin.get config.threads name ≡ Some (Live thread)
  pub line : ℕ
  pub ask : Ask Name
  pub go : Answer Name → After _
  pub asks : next p thread.term ≡ Asks line ask go

-- a value of another kind than is wanted counts as 0 or null, or is missing
abbrev pub AsksWrongly : Program → Type 0
AsksWrongly p = (a : Asking p) × (HasKinds p a.ask → ⊥)

-- an object of another processor is used as one of the own processor
abbrev pub UsesAnothersObject : Program → Type 0
UsesAnothersObject p = (a : Asking p) × (StaysHere a.config a.thread.home a.ask → ⊥)

-- a thread waits inside an atomic function
abbrev pub WaitsInside : Program → Type 0
WaitsInside p = (a : Asking p) × IsInAtomic p a.thread.inside × (step p a.name a.config ≡ Waits)

-- main ends, and with no int
abbrev pub EndsWithNoInt : Program → Type 0
EndsWithNoInt p =
    (ns : List ℤ) × (s : Config) × (v : Value) × IsReachedFrom p ns s × (fin.get s.threads [] ≡ Some (Ended v)) × (IsInt v → ⊥)
