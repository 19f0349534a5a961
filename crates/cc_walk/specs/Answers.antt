-- What a step of a walk answers: in the words of the machine that it is, and in those of the definition.
use Rattle.std.specs.Prelude.{◌≡◌}
use Rattle.cc_core.specs.Names.{Name}
use Rattle.cc_core.specs.Core.{Program}
use Rattle.cc_core.specs.Config.{Config}
use Rattle.cc_core.specs.Numbers.{Numbers, numbers_step}
use Rattle.cc_core.specs.Steps as core
use Rattle.cc_ops.specs.declared.number.ThreadNo.{ThreadNo}
use Rattle.numbered_runs.specs.Alike.{IsLive}
use Rattle.numbered_runs.specs.Machine.{Machine}
use Rattle.numbered_runs.specs.Stands.{Stands, IsThread}
use Rattle.numbered_runs.specs.Steps.{Outcome, Gone, Waits, Faults, Moves}
use Rattle.cc_walk.specs.declared.walk.Stepped.{Stepped}
use Rattle.cc_walk.specs.declared.walk.Stepped.TheVariants as stepped

-- What a step of a machine that does this answers, and the machine afterwards. Of want of memory nothing is said.
abbrev pub IsStep : Outcome → (old : Machine) → Stepped → (new : Machine) → Type 0
IsStep outcome old stepped.Moved new = outcome ≡ Moves new
IsStep outcome old stepped.Blocked new = (outcome ≡ Waits) × (new ≡ old)
IsStep outcome old stepped.Gone new = (outcome ≡ Gone) × (new ≡ old)
IsStep outcome old (stepped.Fault fault) new = (outcome ≡ Faults fault.kind fault.line) × (new ≡ old)
IsStep outcome old stepped.Memory new = Unit {0}

-- A step of thread t where the machine stands for s. `Moved`: that is the next move of the definition, and the machine stands for what
-- follows; `Blocked`: the thread lives and waits; `Gone`: no such thread lives; `Fault`: its next move is that fault. One of them holds alone,
-- by the laws of the definition. Only `Moved` changes the machine.
abbrev pub Follows : Program → Config → Numbers → ThreadNo → (old : Machine) → Stepped → (new : Machine) → Type 0
Follows p s n t old stepped.Moved new =
    (x : Name) × (r : Config) × IsThread n t x × (core.step p x s ≡ core.Moves r) × Stands p new r (numbers_step p x s n)
Follows p s n t old stepped.Blocked new = (x : Name) × IsThread n t x × IsLive s x × (core.step p x s ≡ core.Waits) × (new ≡ old)
Follows p s n t old stepped.Gone new = ((x : Name) → IsThread n t x → ¬ IsLive s x) × (new ≡ old)
Follows p s n t old (stepped.Fault fault) new =
    (x : Name) × IsThread n t x × (core.step p x s ≡ core.Faults fault.kind fault.line) × (new ≡ old)
Follows p s n t old stepped.Memory new = Unit {0}
