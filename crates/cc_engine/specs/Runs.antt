-- A run that a walk makes, step by step.
use Rattle.std.specs.Prelude.{◌≡◌, ℕ, suc, ◌≤◌, false, List, length, ℤ}
use Rattle.std.specs.FinMap as fin
use Rattle.global_ptr.specs.declared.ends.Standing.{Standing}
use Rattle.cc_core.specs.Names.{Name, Value}
use Rattle.cc_core.specs.Core.{Program, function, shapes}
use Rattle.cc_core.specs.Config.{Config}
use Rattle.cc_core.specs.Needs.{any_holds}
use Rattle.cc_core.specs.Numbers.{Numbers}
use Rattle.cc_core.specs.Steps as core
use Rattle.cc_core.specs.Steps.{Run, HasFault, IsAtRest, start}
use Rattle.core_types.specs.Programs.{WellTyped}
use Rattle.numbered_runs.specs.Machine.{Machine}
use Rattle.numbered_runs.specs.Stands.{Stands}
use Rattle.cc_engine.specs.declared.execution.Advance.{Advance}
use Rattle.cc_engine.specs.declared.execution.Advance.TheVariants as advance

-- Runs of a well-typed program, from an int for each parameter of main.
abbrev pub IsTypedRun : Program → List ℤ → Type 0
IsTypedRun p ns = WellTyped p × (length ns ≡ length (function p p.main).shape.params)

-- No thread is inside an atomic function of an object, so none waits for one.
abbrev pub IsUnheld : Program → Config → Type 0
IsUnheld p s = (o : Value) → any_holds (shapes p) o (fin.values s.threads) ≡ false

-- The machine stands for where a run of p from these ints has come to after so many steps.
pub record IsAfter (p : Program) (ns : List ℤ) (steps : ℕ) (w : Machine) : Type 0 where
  pub names : List Name
  pub last : Config
  pub numbers : Numbers
  pub run : Run p names (start p ns) last
  pub count : length names ≡ steps
  pub stands : Stands p w last numbers

-- What a run comes to after so many steps: one step more, a fault, or rest.
abbrev pub Advances : (p : Program) (ns : List ℤ) (steps : ℕ) → Advance → (now : Machine) → Type 0
Advances p ns steps advance.Moved now = IsAfter p ns (suc steps) now
Advances p ns steps (advance.Fault fault) now = (a : IsAfter p ns steps now) × HasFault p a.last fault.kind fault.line
Advances p ns steps advance.Rests now = (a : IsAfter p ns steps now) × IsAtRest p a.last

-- The run has ended within the limit, and stands so.
pub record IsEnded (p : Program) (ns : List ℤ) (limit : ℕ) (standing : Standing) (w : Machine) : Type 0 where
  pub steps : ℕ
  pub after : IsAfter p ns steps w
  pub within : steps ≤ limit
  pub stands : core.Stands p limit steps after.last standing
