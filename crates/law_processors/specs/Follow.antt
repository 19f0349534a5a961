-- Runs of the mesh, and what a move of the machine is of the mesh that it shows.
use Rattle.std.specs.Prelude.{◌≡◌, List, [], ◌∷◌, ◌++◌, Option, Some, None}
use Rattle.law_mesh.specs.Spots.{Mesh}
use Rattle.law_mesh.specs.Moves.{Moves, Step, own_step, served_step}
use Rattle.law_mesh.specs.Queues.{target}
use Rattle.law_processors.specs.Processors.{Processors, Runs}
use Rattle.law_processors.specs.Alone.{Label, OwnStep, ServedStep}

-- a step of the machine as one of the mesh
abbrev pub step_of : Label → Step
step_of (OwnStep t) = own_step t
step_of (ServedStep at t post) = served_step t post

-- A request is served by the processor that it goes to, a Make by none.
abbrev pub IsPlaced : Label → Type 0
IsPlaced (OwnStep t) = Unit {0}
IsPlaced (ServedStep at t post) = target post ≡ at

abbrev pub steps_of : Option Step → List Step
steps_of None = []
steps_of (Some l) = l ∷ []

-- moves one after another, with these steps
pub data MeshRun (n : Mesh) : (steps : List Step) → Mesh → Type 0 where
  Stays : MeshRun n [] n
  Then : {a : List Step} {l : Option Step} {n1 n2 : Mesh} → MeshRun n a n1 → Moves n1 l n2 → MeshRun n (a ++ steps_of l) n2

-- a run of the mesh leads to one that the machine shows
pub record GoesTo (n : Mesh) (steps : List Step) (m : Processors) : Type 0 where
  pub mesh : Mesh
  pub run : MeshRun n steps mesh
  pub runs : Runs m mesh
