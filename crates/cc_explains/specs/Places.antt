-- Where a run has come to, and the steps that it makes on its way.
use Rattle.std.specs.Prelude.{◌≡◌, ℕ, suc, List, [], ◌∷◌, ℤ}
use Rattle.cc_core.specs.Names.{Name}
use Rattle.cc_core.specs.Core.{Program}
use Rattle.cc_core.specs.Config.{Config}
use Rattle.cc_core.specs.Numbers.{Numbers, first_numbers, numbers_step}
use Rattle.cc_core.specs.Steps.{Moves, step, start}

-- a configuration, the numbers that the run has given by then, and how many steps it has made
pub record Place : Type 0 where
  pub config : Config
  pub numbers : Numbers
  pub made : ℕ

abbrev pub beginning : Program → List ℤ → Place
beginning p ints = record { config = start p ints; numbers = first_numbers p ints; made = 0 }

-- behind a step of thread x, which leads to this configuration
abbrev pub behind : Program → Name → Place → Config → Place
behind p x a r = record { config = r; numbers = numbers_step p x a.config a.numbers; made = suc a.made }

-- a step: where it is made, and by which thread
pub record Step : Type 0 where
  pub place : Place
  pub thread : Name

-- these steps, one after another, are a run from a to b
abbrev pub Lead : Program → List Step → (a b : Place) → Type 0
Lead p [] a b = a ≡ b
Lead p (m ∷ ms) a b = (m.place ≡ a) × (r : Config) × (step p m.thread a.config ≡ Moves r) × Lead p ms (behind p m.thread a r) b
