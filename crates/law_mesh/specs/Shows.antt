-- A mesh shows a machine of numbers: it has the same objects, and where its threads stand says what the machine's threads have left to do.
use Rattle.std.specs.Prelude.{◌≡◌, ◌⊎◌, List, Option, Some, None}
use Rattle.cc_ops.specs.declared.number.ThreadNo.{ThreadNo}
use Rattle.cc_code.specs.Code.{Code, move}
use Rattle.code_names.specs.Same.{Pairwise}
use Rattle.numbered_runs.specs.Machine.{Machine, Progress, Goes, Over, thread_in, ended_with}
use Rattle.numbered_runs.specs.Posts.{posts}
use Rattle.numbered_runs.specs.Stands.{IsAsk}
use Rattle.numbered_runs.specs.Steps.{settle}
use Rattle.numbered_runs.specs.Steps as numbered
use Rattle.law_mesh.specs.Moves.{AsksFor, Step}
use Rattle.law_mesh.specs.Spots.{Fiber, Cell, Spot, Active, Parked, Posted, Delayed, Answered, Calling, Called, Gone, Mesh, shown, runs, with_stranger, answered}

-- a thread that was made by a request may be any
abbrev pub IsKid : Option ThreadNo → ThreadNo → Type 0
IsKid None t = Unit {0}
IsKid (Some u) t = u ≡ t

module _ (code : Code) where
  -- a thread that goes on so
  pub record GoesOn (f : Fiber) (x : Progress) : Type 0 where
    pub kids : List ThreadNo
    pub same : Pairwise IsKid f.kids kids
    pub is : x ≡ settle code (runs f None kids)

  -- a thread that stands at what it asks
  pub record StandsAt (asked : Option ThreadNo) (f : Fiber) (x : Progress) : Type 0 where
    pub kids : List ThreadNo
    pub same : Pairwise IsKid f.kids kids
    pub is : x ≡ Goes (runs f asked kids)
    pub asks : IsAsk (move code f.thread)

  -- what stands at a spot, and how far that thread is in the machine, whose threads are these
  abbrev pub Alike : List (List Progress) → Spot → Progress → Type 0
  Alike threads (Active f) x = GoesOn f x
  Alike threads (Parked r f) x = StandsAt None f x × AsksFor code r f
  Alike threads (Posted f) x = StandsAt None f x
  Alike threads (Delayed a o f) x = StandsAt None f x × AsksFor code (Cell a o) f
  Alike threads (Answered vs f) x = GoesOn (answered code f vs) x
  Alike threads (Calling kid f) x = StandsAt (Some kid) (with_stranger f) x
  Alike threads (Called kid v f) x = StandsAt (Some kid) (with_stranger f) x × (ended_with (thread_in threads kid) ≡ Some v)
  Alike threads (Gone v) x = x ≡ Over v

-- these are the threads of the machine that a mesh shows
abbrev pub Shows : Mesh → List (List Progress) → Type 0
Shows m threads = Pairwise (Pairwise (Alike m.code threads)) m.spots threads

-- a silent move leaves the machine as it is, and any other is the step of a thread
abbrev pub Follows : Machine → Option Step → Machine → Type 0
Follows w None v = w ≡ v
Follows w (Some l) v = numbered.step w l.thread ≡ numbered.Moves v

-- a step of a thread posts what that thread's next move posts
abbrev pub IsPosted : Code → List (List Progress) → Option Step → Type 0
IsPosted code threads None = Unit {0}
IsPosted code threads (Some l) = posts code (thread_in threads l.thread) ≡ l.post

-- what a move of a mesh that shows this machine is of it
pub record IsShown (m : Mesh) (threads : List (List Progress)) (l : Option Step) (m' : Mesh) : Type 0 where
  pub threads' : List (List Progress)
  pub follows : Follows (shown m threads) l (shown m' threads')
  pub shows : Shows m' threads'

-- a thread waits, or there is none that goes on
abbrev pub CannotMove : Machine → ThreadNo → Type 0
CannotMove w t = (numbered.step w t ≡ numbered.Waits) ⊎ (numbered.step w t ≡ numbered.Gone)
