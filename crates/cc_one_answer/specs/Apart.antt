-- When the threads of a configuration are apart: what one of them writes no other uses, but for sync cells, and at most one prints.
use Rattle.std.specs.Prelude.{◌≡◌, ◌≢◌, ◌⊎◌, ℕ, Bool, false, List, [], ◌∷◌, Some, None}
use Rattle.std.specs.FinMap as fin
use Rattle.cc_ops.specs.Values.{Void, Int, Null, Ptr, Plain}
use Rattle.cc_core.specs.Names.{Name, Value}
use Rattle.cc_core.specs.Core.{Term, Program, shapes, function_shape}
use Rattle.cc_core.specs.Asks.{Ask, Answer, Reads, Writes, Copies, Indexes, Shifts, Computes, Tests, Makes, MakesWith, Builds, Enters}
use Rattle.cc_core.specs.Asks.{Leaves, ForksAll, ForksOne, Joins, Spawns, Prints, Calls, Casts, NewProcessor}
use Rattle.cc_core.specs.Next.{Asks, After, next}
use Rattle.cc_core.specs.Config.{Config, Thread, Live, Object, cell}
use Rattle.cc_core.specs.Needs.{Need, Known, Filled, Unfilled, AllCells, Object as ObjectNeed, Free, Done, Deeper, Threads, ThreadAt}
use Rattle.cc_core.specs.Needs.{Slots, FirstSlots, Processor, Constructs, needs}

-- thread t is live, and asks next
pub record IsAsking (p : Program) (s : Config) (t : Name) : Type 0 where
  pub l : Thread
  pub line : ℕ
  pub ask : Ask Name
  pub k : Answer Name → After Term
  pub live : fin.get s.threads t ≡ Some (Live l)
  pub asks : next p l.term ≡ Asks line ask k
  pub not_asked : l.asked ≡ None

-- some of these needs is such a one; each of them is
abbrev pub AnyNeed : (Need Name → Type 0) → List (Need Name) → Type 0
AnyNeed P [] = ⊥
AnyNeed P (n ∷ ns) = P n ⊎ AnyNeed P ns

abbrev pub EachNeed : (Need Name → Type 0) → List (Need Name) → Type 0
EachNeed P [] = Unit {0}
EachNeed P (n ∷ ns) = P n × EachNeed P ns

-- a need that looks at the cell of an object at an offset
abbrev pub LooksAt : Name → ℕ → Need Name → Type 0
LooksAt o x (Known r) = ⊥
LooksAt o x (Filled a) = a ≡ Ptr o x
LooksAt o x (Unfilled a) = a ≡ Ptr o x
LooksAt o x (AllCells a n) = ⊥
LooksAt o x (ObjectNeed a) = ⊥
LooksAt o x (Free f a) = ⊥
LooksAt o x (Done made) = ⊥
LooksAt o x Deeper = ⊥
LooksAt o x (Threads n) = ⊥
LooksAt o x (ThreadAt a) = ⊥
LooksAt o x (Slots n) = ⊥
LooksAt o x (FirstSlots n) = ⊥
LooksAt o x Processor = ⊥
LooksAt o x (Constructs c vs) = ⊥

-- a need that looks at all cells of an object
abbrev pub LooksThrough : Name → Need Name → Type 0
LooksThrough o (Known r) = ⊥
LooksThrough o (Filled a) = ⊥
LooksThrough o (Unfilled a) = ⊥
LooksThrough o (AllCells a n) = (x : ℕ) × (a ≡ Ptr o x)
LooksThrough o (ObjectNeed a) = ⊥
LooksThrough o (Free f a) = ⊥
LooksThrough o (Done made) = ⊥
LooksThrough o Deeper = ⊥
LooksThrough o (Threads n) = ⊥
LooksThrough o (ThreadAt a) = ⊥
LooksThrough o (Slots n) = ⊥
LooksThrough o (FirstSlots n) = ⊥
LooksThrough o Processor = ⊥
LooksThrough o (Constructs c vs) = ⊥

-- where a value is a pointer, its object is there
abbrev pub Leads : Config → Value → Type 0
Leads s Void = Unit {0}
Leads s (Int n) = Unit {0}
Leads s Null = Unit {0}
Leads s (Ptr o x) = (a : Object) × (fin.get s.objects o ≡ Some a)

-- the object that a need looks at is there
abbrev pub IsThere : Config → Need Name → Type 0
IsThere s (Known r) = Unit {0}
IsThere s (Filled a) = Leads s a
IsThere s (Unfilled a) = Leads s a
IsThere s (AllCells a n) = Leads s a
IsThere s (ObjectNeed a) = Unit {0}
IsThere s (Free f a) = Unit {0}
IsThere s (Done made) = Unit {0}
IsThere s Deeper = Unit {0}
IsThere s (Threads n) = Unit {0}
IsThere s (ThreadAt a) = Leads s a
IsThere s (Slots n) = Unit {0}
IsThere s (FirstSlots n) = Unit {0}
IsThere s Processor = Unit {0}
IsThere s (Constructs c vs) = Unit {0}

-- an ask that prints nothing
abbrev pub IsSilent : Ask Name → Type 0
IsSilent (Reads remote a) = Unit {0}
IsSilent (Writes remote a v) = Unit {0}
IsSilent (Copies a n) = Unit {0}
IsSilent (Indexes a n i) = Unit {0}
IsSilent (Shifts a i) = Unit {0}
IsSilent (Computes op vs) = Unit {0}
IsSilent Tests = Unit {0}
IsSilent (Makes kind n) = Unit {0}
IsSilent (MakesWith kind v) = Unit {0}
IsSilent (Builds c vs) = Unit {0}
IsSilent (Enters f o vs) = Unit {0}
IsSilent Leaves = Unit {0}
IsSilent (ForksAll n) = Unit {0}
IsSilent (ForksOne v) = Unit {0}
IsSilent (Joins made) = Unit {0}
IsSilent (Spawns f o vs) = Unit {0}
IsSilent (Prints parts vs) = ⊥
IsSilent (Calls f o vs) = Unit {0}
IsSilent (Casts f o vs) = Unit {0}
IsSilent (NewProcessor c vs) = Unit {0}

-- a processor that there is: the root, or one that is named by an object that there is
abbrev pub IsPlace : Config → Name → Type 0
IsPlace s q = (q ≡ []) ⊎ ((a : Object) × (fin.get s.objects q ≡ Some a))

-- no function is atomic. not_atomic: no function keeps others out. there, places: what threads use is there.
-- cells: a plain cell that a thread is about to write is used by no other thread's next ask. whole: nor is any cell of an object written
-- that another thread copies. prints: of two threads at most one is about to print
pub record AreApart (p : Program) (s : Config) : Type 0 where
  pub not_atomic : (f : ℕ) → (function_shape (shapes p) f).atomic ≡ false
  pub there : (t : Name) (a : IsAsking p s t) → EachNeed (IsThere s) (needs (shapes p) a.ask)
  pub places : (t : Name) (l : Thread) → fin.get s.threads t ≡ Some (Live l) → IsPlace s l.home
  pub cells : (t u : Name) → t ≢ u → (a : IsAsking p s t) (b : IsAsking p s u) (remote : Bool) (o : Name) (x : ℕ) (v w : Value)
      → a.ask ≡ Writes remote (Ptr o x) v → cell s o x ≡ Some (Plain w) → AnyNeed (LooksAt o x) (needs (shapes p) b.ask) → ⊥
  pub whole : (t u : Name) → t ≢ u → (a : IsAsking p s t) (b : IsAsking p s u) (remote : Bool) (o : Name) (x : ℕ) (v : Value)
      → a.ask ≡ Writes remote (Ptr o x) v → AnyNeed (LooksThrough o) (needs (shapes p) b.ask) → ⊥
  pub prints : (t u : Name) → t ≢ u → (a : IsAsking p s t) (b : IsAsking p s u) → IsSilent a.ask ⊎ IsSilent b.ask
