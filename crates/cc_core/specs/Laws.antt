-- What the laws of runs speak of.
use Rattle.std.specs.Prelude.{◌≡◌, ℕ, ◌≤◌, List, ◌∷◌, ◌++◌, length, slice_get, Some, None, ℤ}
use Rattle.std.specs.FinMap as fin
use Rattle.cc_ops.specs.Values.{Full}
use Rattle.cc_core.specs.Names.{Name, Value, count}
use Rattle.cc_core.specs.Core.{Program}
use Rattle.cc_core.specs.Config.{Config, Thread, Live, Object}
use Rattle.cc_core.specs.Steps.{Run, start}

-- a run of p from these ints comes to s
abbrev pub IsReached : Program → List ℤ → Config → Type 0
IsReached p ns s = (ts : List Name) × Run p ts (start p ns) s

-- one text goes on where the other ends
abbrev pub GoesOn : (text more : List ℕ) → Type 0
GoesOn text more = (rest : List ℕ) × (more ≡ text ++ rest)

-- no count of r is below that of s
pub record CountsGrow (s r : Config) : Type 0 where
  pub processors : s.processors ≤ r.processors
  pub threads : (q : Name) → count s.threads_made q ≤ count r.threads_made q
  pub slots : (q : Name) → count s.slots_made q ≤ count r.slots_made q

-- an object goes on as b: on the same processor, with as many cells, and each full cell has its value still
pub record ObjectStays (a b : Object) : Type 0 where
  pub home : b.home ≡ a.home
  pub size : length b.cells ≡ length a.cells
  pub full : (x : ℕ) (v : Value) → slice_get a.cells x ≡ Some (Full v) → slice_get b.cells x ≡ Some (Full v)

-- the names that a thread gives next are free: no thread has the name of its k-th thread, and no object that of its k-th object, from its
-- own counts on; and what has no maker is not there
pub record NamesAreFree (s : Config) : Type 0 where
  pub threads : (t : Name) (l : Thread) → fin.get s.threads t ≡ Some (Live l) → (k : ℕ) → l.threads ≤ k → fin.get s.threads (k ∷ t) ≡ None
  pub objects : (t : Name) (l : Thread) → fin.get s.threads t ≡ Some (Live l) → (k : ℕ) → l.objects ≤ k → fin.get s.objects (k ∷ t) ≡ None
  pub no_threads : (t : Name) → fin.get s.threads t ≡ None → (k : ℕ) → fin.get s.threads (k ∷ t) ≡ None
  pub no_objects : (t : Name) → fin.get s.threads t ≡ None → (k : ℕ) → fin.get s.objects (k ∷ t) ≡ None
