-- Where a mesh is idle, and why its threads wait.
use Rattle.std.specs.Prelude.{◌≡◌, ◌⊎◌, ℕ, ◌+◌, suc, List, [], ◌∷◌, slice_get, true, Option, Some}
use Rattle.cc_ops.specs.Values.{Empty, Ptr}
use Rattle.cc_ops.specs.Machine.{Address}
use Rattle.cc_ops.specs.declared.number.ThreadNo.{ThreadNo}
use Rattle.cc_ops.specs.Shelves.{cell_in, is_held}
use Rattle.cc_core.specs.Asks.{Answer, Joins}
use Rattle.cc_code.specs.Code.{Then, Does, move}
use Rattle.law_mesh.specs.Moves.{AsksFor}
use Rattle.law_mesh.specs.Spots.{Fiber, Cell, Lock, Branches, Spot, Active, Parked, Posted, Delayed, Answered, Calling, Called, Gone, Mesh, item_in}

-- a spot that a thread leaves by no move of its own: nothing of it is in a ready list or in a box
abbrev pub IsStill : Spot → Type 0
IsStill (Active f) = ⊥
IsStill (Parked r f) = Unit {0}
IsStill (Posted f) = ⊥
IsStill (Delayed a x f) = Unit {0}
IsStill (Answered vs f) = ⊥
IsStill (Calling kid f) = Unit {0}
IsStill (Called kid v f) = ⊥
IsStill (Gone v) = Unit {0}

abbrev pub IsLive : Spot → Type 0
IsLive (Gone v) = ⊥
IsLive p = Unit {0}

-- the thread of this number lives
abbrev pub Lives : Mesh → ThreadNo → Type 0
Lives m t = (p : Spot) × (item_in m.spots t ≡ Some p) × IsLive p

-- of the threads that a thread made, one of these lives
abbrev pub OneLives : Mesh → List (Option ThreadNo) → List ℕ → Type 0
OneLives m kids [] = ⊥
OneLives m kids (k ∷ ks) = ((t : ThreadNo) × (slice_get kids k ≡ Some (Some t)) × Lives m t) ⊎ OneLives m kids ks

pub record Joining (m : Mesh) (f : Fiber) : Type 0 where
  pub line : ℕ
  pub made : List ℕ
  pub goes : Answer Address → Then Address
  pub asks : move m.code f.thread ≡ Does line (Joins made) goes
  pub lives : OneLives m f.kids made

-- what is waited for has not come
abbrev pub StillWaits : Mesh → Spot → Type 0
StillWaits m (Parked (Cell a x) f) = cell_in m.shelves a x ≡ Some Empty
StillWaits m (Parked (Lock o) f) = (i : ThreadNo) × (m.holder o ≡ Some i)
StillWaits m (Parked Branches f) = Joining m f
StillWaits m (Delayed a x f) = cell_in m.shelves a x ≡ Some Empty
StillWaits m (Calling kid f) = Lives m kid
StillWaits m p = Unit {0}

-- Each thread that waits waits for what has not come; and who holds an object is inside an atomic function of it, or is about to go in.
pub record InOrder (m : Mesh) : Type 0 where
  pub waits : (t : ThreadNo) (p : Spot) → item_in m.spots t ≡ Some p → StillWaits m p
  pub holds : (o : Address) (i : ThreadNo) → m.holder o ≡ Some i
      → (is_held m.shelves (Ptr o 0) ≡ true) ⊎ ((f : Fiber) × (item_in m.spots i ≡ Some (Active f)) × AsksFor m.code (Lock o) f)

-- no waiter is ready, no message is in a box and no Make waits
abbrev pub IsIdle : Mesh → Type 0
IsIdle m = (t : ThreadNo) (p : Spot) → item_in m.spots t ≡ Some p → IsStill p

-- how many threads live
abbrev pub living : List Spot → ℕ
living [] = 0
living (Gone v ∷ ps) = living ps
living (p ∷ ps) = suc (living ps)

abbrev pub all_living : List (List Spot) → ℕ
all_living [] = 0
all_living (ps ∷ more) = living ps + all_living more
