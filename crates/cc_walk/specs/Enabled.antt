-- Which threads of a walk can move, and what main has ended with.
use Rattle.std.specs.Prelude.{◌≡◌, ◌<◌, ◌⊎◌, ◌↔◌, Bool, true, false, IsTrue, List, [], Contains, AllPairs, Option, Some, None, ℤ}
use Rattle.std.specs.FinMap as fin
use Rattle.cc_ops.specs.Values.{Int, int_of}
use Rattle.cc_core.specs.Names.{Name, Value}
use Rattle.cc_core.specs.Core.{Program}
use Rattle.cc_core.specs.Config.{Config, Thread, Live, Ended}
use Rattle.cc_core.specs.Numbers.{Numbers}
use Rattle.cc_core.specs.Steps as core
use Rattle.cc_ops.specs.declared.number.ThreadNo.{ThreadNo}
use Rattle.numbered_runs.specs.Machine.{Machine}
use Rattle.numbered_runs.specs.Stands.{IsThread}
use Rattle.numbered_runs.specs.Steps.{Outcome, Gone, Waits, Faults, Moves, step}

-- a thread can move where its next move is a step or a fault
abbrev pub may_move : Outcome → Bool
may_move Gone = false
may_move Waits = false
may_move (Faults kind line) = true
may_move (Moves w) = true

-- of a machine, and of the configuration that it stands for
abbrev pub IsMoveable : Machine → ThreadNo → Type 0
IsMoveable w t = IsTrue (may_move (step w t))

abbrev pub CanMove : Program → Config → Numbers → ThreadNo → Type 0
CanMove p s n t = (x : Name) × IsThread n t x × core.CanMove (core.step p x s)

-- one thread comes before another, by processor and then number
abbrev pub IsBefore : ThreadNo → ThreadNo → Type 0
IsBefore t u = (t.processor < u.processor) ⊎ ((t.processor ≡ u.processor) × (t.thread < u.thread))

-- the first thread of which P holds; none where it holds of none
abbrev pub IsFirst : (P : ThreadNo → Type 0) → Option ThreadNo → Type 0
IsFirst P None = (t : ThreadNo) → ¬ P t
IsFirst P (Some t) = P t × ((u : ThreadNo) → IsBefore u t → ¬ P u)

-- the threads of which P holds, in order
pub record AreAll (P : ThreadNo → Type 0) (ts : List ThreadNo) : Type 0 where
  pub each : (t : ThreadNo) → Contains ts t ↔ P t
  pub in_order : AllPairs IsBefore ts

-- the int that main has ended with; none while it goes on
abbrev pub IsMainValue : Config → Option ℤ → Type 0
IsMainValue s None = (l : Thread) × (fin.get s.threads [] ≡ Some (Live l))
IsMainValue s (Some i) = (v : Value) × (fin.get s.threads [] ≡ Some (Ended v)) × (i ≡ int_of v)

-- the int that main has ended with; none where it has ended with no int, or goes on
abbrev pub IsMainInt : Config → Option ℤ → Type 0
IsMainInt s None = (i : ℤ) → ¬ (fin.get s.threads [] ≡ Some (Ended (Int i)))
IsMainInt s (Some i) = fin.get s.threads [] ≡ Some (Ended (Int i))
