-- Where the machine begins, and what it stands for in the run of a program.
use Rattle.std.specs.Prelude.{◌≡◌, List, [], ◌∷◌, length, map, None, ℤ}
use Rattle.std.specs.List.{AllByRecursion}
use Rattle.cc_ops.specs.Shelves.{no_shelf}
use Rattle.cc_core.specs.Config.{Config}
use Rattle.cc_core.specs.Core.{Program, function}
use Rattle.cc_core.specs.Names.{Name}
use Rattle.cc_core.specs.Numbers.{Numbers}
use Rattle.cc_core.specs.Steps as core
use Rattle.cc_code.specs.Layout.{layout}
use Rattle.numbered_runs.specs.Alike.{ints}
use Rattle.numbered_runs.specs.Effects.{parameters}
use Rattle.law_mesh.specs.Begins.{first_fiber}
use Rattle.law_mesh.specs.Local.{put_all_on}
use Rattle.law_processors.specs.Processors.{Own, Goes, Lives, Processor, Processors, Runs}
use Rattle.law_mesh.specs.Source.{IsOfRun, Leads}
use Rattle.law_processors.specs.Alone.{Label}
use Rattle.law_processors.specs.Follow.{step_of, IsPlaced}
use Rattle.law_mesh.specs.Spots.{Mesh}

-- main is ready on the root, where its parameters are the first objects
abbrev pub root : Program → List ℤ → Processor
root p is = record {
  shelf = put_all_on no_shelf (parameters 0 (function p p.main).shape.params (ints is));
  table = Lives (first_fiber p is) Goes None ∷ [];
  hand = None;
  ready = Own 0 ∷ [];
  cells = λ o x. [];
  locks = λ o. None;
  inbox = [];
  outbox = [];
}

abbrev pub first_processors : Program → List ℤ → Processors
first_processors p is = record { code = layout p; all = root p is ∷ []; makes = []; output = [] }

-- the machine stands for a configuration of a run
pub record StandsFor (p : Program) (m : Processors) (s : Config) (n : Numbers) : Type 0 where
  pub mesh : Mesh
  pub runs : Runs m mesh
  pub of_run : IsOfRun p mesh s n

-- these steps of the run lead to what the machine stands for then
pub record Follows (p : Program) (s : Config) (n : Numbers) (steps : List Label) (m : Processors) : Type 0 where
  pub config : Config
  pub numbers : Numbers
  pub threads : List Name
  pub count : length threads ≡ length steps
  pub leads : Leads p (map step_of steps) s n config numbers
  pub placed : AllByRecursion IsPlaced steps
  pub run : core.Run p threads s config
  pub after : StandsFor p m config numbers
