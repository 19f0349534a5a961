-- What one resting run says of every run.
use Rattle.std.specs.Prelude.{◌≡◌, ◌≢◌, ◌⊎◌, ℕ, ◌<◌, ◌≤◌, List, length}
use Rattle.global_ptr.specs.declared.ends.FaultKind.{FaultKind}
use Rattle.cc_core.specs.Names.{Name}
use Rattle.cc_core.specs.Core.{Program}
use Rattle.cc_core.specs.Config.{Config}
use Rattle.cc_core.specs.Steps.{Moves, Faults, step, Run, HasFault}

-- the next move of thread t is a fault
abbrev pub IsFaulty : Program → Name → Config → Type 0
IsFaulty p t s = (kind : FaultKind) × (line : ℕ) × (step p t s ≡ Faults kind line)

-- where t moves from s to s1, and u from s to s2: both go on to one configuration, or u has a fault after t's move
abbrev pub Meet : Program → (t u : Name) → (s1 s2 : Config) → Type 0
Meet p t u s1 s2 = ((s3 : Config) × (step p u s1 ≡ Moves s3) × (step p t s2 ≡ Moves s3)) ⊎ IsFaulty p u s1

-- moves of different threads from s meet, and a fault lasts
pub record MovesCommute (p : Program) (s : Config) : Type 0 where
  pub two_moves : (t u : Name) (s1 s2 : Config) → t ≢ u → step p t s ≡ Moves s1 → step p u s ≡ Moves s2 → Meet p t u s1 s2
  pub fault_lasts : (t u : Name) (s1 : Config) → t ≢ u → step p t s ≡ Moves s1 → IsFaulty p u s → IsFaulty p u s1

-- every run from s is a part of a run of n steps to r: it meets no fault, has at most n steps, goes on where it has fewer, and ends in r
-- itself where it has n
pub record HasOneAnswer (p : Program) (s : Config) (n : ℕ) (r : Config) : Type 0 where
  pub no_fault : (ts : List Name) (x : Config) (kind : FaultKind) (line : ℕ) → Run p ts s x → HasFault p x kind line → ⊥
  pub bounded : (ts : List Name) (x : Config) → Run p ts s x → length ts ≤ n
  pub same_end : (ts : List Name) (x : Config) → Run p ts s x → length ts ≡ n → x ≡ r
  pub goes_on : (ts : List Name) (x : Config) → Run p ts s x → length ts < n → (t : Name) × (y : Config) × (step p t x ≡ Moves y)
