-- What a move of a mesh is in the run of a program.
use Rattle.std.specs.Prelude.{◌≡◌, List, [], ◌∷◌, Option, Some, None}
use Rattle.std.specs.FinMap as fin
use Rattle.cc_core.specs.Config.{Config}
use Rattle.cc_core.specs.Core.{Program}
use Rattle.cc_core.specs.Names.{Name}
use Rattle.cc_core.specs.Numbers.{Numbers, posts, numbers_step}
use Rattle.cc_core.specs.Steps as core
use Rattle.numbered_runs.specs.Machine.{Progress}
use Rattle.numbered_runs.specs.Stands.{Stands, IsThread}
use Rattle.law_mesh.specs.Moves.{Step}
use Rattle.law_mesh.specs.Shows.{Shows}
use Rattle.law_mesh.specs.Spots.{Mesh, shown}

-- a mesh that shows a machine of numbers, which stands for a configuration of a run
pub record IsOfRun (p : Program) (m : Mesh) (s : Config) (n : Numbers) : Type 0 where
  pub threads : List (List Progress)
  pub shows : Shows m threads
  pub stands : Stands p (shown m threads) s n

-- the step of the thread of that number, which posts that
pub record IsStep (p : Program) (s : Config) (n : Numbers) (l : Step) (r : Config) (k : Numbers) : Type 0 where
  pub name : Name
  pub thread : IsThread n l.thread name
  pub steps : core.step p name s ≡ core.Moves r
  pub posted : posts p s n (fin.get s.threads name) ≡ l.post
  pub numbers : k ≡ numbers_step p name s n

-- nothing, or a step
abbrev pub IsMove : Program → Config → Numbers → Option Step → Config → Numbers → Type 0
IsMove p s n None r k = (s ≡ r) × (n ≡ k)
IsMove p s n (Some l) r k = IsStep p s n l r k

-- these steps, one after another, are a run from here to there
abbrev pub Leads : Program → List Step → (s : Config) (n : Numbers) (r : Config) (k : Numbers) → Type 0
Leads p [] s n r k = (s ≡ r) × (n ≡ k)
Leads p (l ∷ ls) s n r k = (t : Config) × (j : Numbers) × IsStep p s n l t j × Leads p ls t j r k

pub record GoesOnInRun (p : Program) (s : Config) (n : Numbers) (l : Option Step) (m : Mesh) : Type 0 where
  pub config : Config
  pub numbers : Numbers
  pub is : IsMove p s n l config numbers
  pub after : IsOfRun p m config numbers
