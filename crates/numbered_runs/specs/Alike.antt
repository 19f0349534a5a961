-- The machine and the definition do alike.
use Rattle.std.specs.Prelude.{◌≡◌, ℤ, List, [], ◌∷◌, Some, None}
use Rattle.std.specs.FinMap as fin
use Rattle.cc_ops.specs.Values.{Void, Int}
use Rattle.cc_ops.specs.declared.number.ThreadNo.{ThreadNo}
use Rattle.cc_ops.specs.Shelves.{Shelf, no_shelf}
use Rattle.cc_ops.specs.Machine.{Values}
use Rattle.cc_core.specs.Names.{Name}
use Rattle.cc_core.specs.Core.{Program, function}
use Rattle.cc_core.specs.Config.{Config, Thread, Live}
use Rattle.cc_core.specs.Steps as core
use Rattle.cc_core.specs.Numbers.{Numbers, numbers_step}
use Rattle.cc_code.specs.Code.{Runs, enter_at}
use Rattle.cc_code.specs.Layout.{layout}
use Rattle.numbered_runs.specs.Machine.{Machine}
use Rattle.numbered_runs.specs.Effects.{parameters, put_things, addresses}
use Rattle.numbered_runs.specs.Stands.{Stands, IsThread}
use Rattle.numbered_runs.specs.Steps.{Outcome, Gone, Waits, Faults, Moves, settle}

abbrev pub IsLive : Config → Name → Type 0
IsLive s x = (l : Thread) × (fin.get s.threads x ≡ Some (Live l))

-- what the machine's thread t does, where the machine stands for s
abbrev pub DoesAlike : Program → Config → Numbers → ThreadNo → Outcome → Type 0
DoesAlike p s n t Gone = (x : Name) → IsThread n t x → ¬ IsLive s x
DoesAlike p s n t Waits = (x : Name) × IsThread n t x × IsLive s x × (core.step p x s ≡ core.Waits)
DoesAlike p s n t (Faults kind line) = (x : Name) × IsThread n t x × (core.step p x s ≡ core.Faults kind line)
DoesAlike p s n t (Moves w) = (x : Name) × (r : Config) × IsThread n t x × (core.step p x s ≡ core.Moves r) × Stands p w r (numbers_step p x s n)

-- ---- where a run begins

abbrev pub ints : List ℤ → Values
ints [] = []
ints (i ∷ is) = Int i ∷ ints is

-- the objects of the parameters of main
abbrev pub first_shelves : Program → List ℤ → List Shelf
first_shelves p is = put_things (no_shelf ∷ []) (parameters 0 (function p p.main).shape.params (ints is))

abbrev pub first_addresses : Program → List ℤ → Values
first_addresses p is = addresses (no_shelf ∷ []) (parameters 0 (function p p.main).shape.params (ints is))

abbrev pub first_machine : Program → List ℤ → Machine
first_machine p is = record {
  code = layout p;
  shelves = first_shelves p is;
  threads = (settle (layout p) (record {
    thread = Runs (enter_at (layout p) p.main Void (first_addresses p is)) [] [];
    asked = None;
    kids = [];
    inside = (p.main, Void) ∷ [];
  }) ∷ []) ∷ [];
  output = [];
}

abbrev pub main_thread : ThreadNo
main_thread = record { processor = 0; thread = 0 }
