-- What an ask needs of where its thread stands, in the order in which its faults count: the table of steps and faults. N is the type of
-- what names an object: the configuration of a run has one, the machine of numbers another, and both have these needs.
use Rattle.std.specs.Prelude.{ℕ, ◌+◌, Bool, true, false, ◌&&◌, ◌||◌, nat_le, nat_lt, if◌then◌else◌}
use Rattle.std.specs.Prelude.{List, [], ◌∷◌, ◌++◌, length, map, Option, Some, None}
use Rattle.std.specs.FinMap as fin
use Rattle.cc_ops.specs.Values.{Value, Cell, Void, Int, Null, Ptr, int_of, Plain, Empty, Full, Result, Gives, Fails, on_gives}
use Rattle.cc_ops.specs.Operators.{compute}
use Rattle.cc_ops.specs.Addresses.{indexed, shifted}
use Rattle.cc_ops.specs.Classes.{construct, arity, size}
use Rattle.global_ptr.specs.declared.ends.FaultKind.{FaultKind}
use Rattle.global_ptr.specs.declared.ends.FaultKind.TheVariants.{SyncTwice, IndexOut, NullPointer, StoreFull, ThreadsFull, ProcessorsFull}
use Rattle.global_ptr.specs.declared.ends.FaultKind.TheVariants.{CallDepth}
use Rattle.cc_core.specs.Names.{Name, same_name, Map, count}
use Rattle.cc_core.specs.Core.{Shapes, function_shape, class_shape}
use Rattle.cc_core.specs.Asks.{Ask, Reads, Writes, Copies, Indexes, Shifts, Computes, Tests, Makes, MakesWith, Builds, Enters, Leaves}
use Rattle.cc_core.specs.Asks.{ForksAll, ForksOne, Joins, Spawns, Prints, Calls, Casts, NewProcessor}
use Rattle.cc_core.specs.Config.{Config, Thread, State, Live, Ended, cell, cells_of, home}

-- the limits: processors, the root among them; threads and cells that are made on one processor; functions that a thread is inside
abbrev pub most_processors : ℕ
most_processors = 64

abbrev pub most_threads : ℕ
most_threads = 1048576

abbrev pub most_slots : ℕ
most_slots = 1048576

abbrev pub most_calls : ℕ
most_calls = 4096

pub data Need (N : Type 0) : Type 0 where
  -- what the ask alone decides
  Known : Result (List (Value N)) → Need N
  -- a cell that has a value; a cell that may be assigned; all n cells of an object
  Filled : Value N → Need N
  Unfilled : Value N → Need N
  AllCells : Value N → (n : ℕ) → Need N
  -- an object, where a call has one; and that nobody is inside an atomic function of it, where f is atomic
  Object : Value N → Need N
  Free : (f : ℕ) → Value N → Need N
  -- that branches have ended
  Done : List ℕ → Need N
  -- room for one function more to be inside; for n threads here; for one on the processor of an object; for n cells here; for the
  -- first n cells of a new processor; for a processor
  Deeper : Need N
  Threads : (n : ℕ) → Need N
  ThreadAt : Value N → Need N
  Slots : (n : ℕ) → Need N
  FirstSlots : (n : ℕ) → Need N
  Processor : Need N
  -- a constructor without a fault
  Constructs : (class : ℕ) → List (Value N) → Need N

abbrev pub one : {N : Type 0} → Result (Value N) → Result (List (Value N))
one r = on_gives r (λ v. Gives (v ∷ []))

abbrev pub needs_of : {N : Type 0} → (same : N → N → Bool) → Shapes → Ask N → List (Need N)
needs_of same h (Reads remote a) = Filled a ∷ []
needs_of same h (Writes remote a v) = Unfilled a ∷ []
needs_of same h (Copies a n) = AllCells a n ∷ []
needs_of same h (Indexes a n i) = Known (one (indexed a n i)) ∷ []
needs_of same h (Shifts a i) = Known (one (shifted a (int_of i))) ∷ []
needs_of same h (Computes op vs) = Known (one (compute same op vs)) ∷ []
needs_of same h Tests = []
needs_of same h (Makes kind n) = Slots n ∷ []
needs_of same h (MakesWith kind v) = Slots 1 ∷ []
needs_of same h (Builds c vs) = Slots (size (class_shape h c).cells) ∷ Constructs c vs ∷ []
needs_of same h (Enters f o vs) = Object o ∷ Free f o ∷ Deeper ∷ Slots (arity (function_shape h f).params) ∷ []
needs_of same h Leaves = []
needs_of same h (ForksAll n) = Threads n ∷ []
needs_of same h (ForksOne v) = Threads 1 ∷ Slots 1 ∷ Filled v ∷ []
needs_of same h (Joins made) = Done made ∷ []
needs_of same h (Spawns f o vs) = Object o ∷ Threads 1 ∷ []
needs_of same h (Prints parts vs) = []
needs_of same h (Calls f o vs) = Object o ∷ ThreadAt o ∷ []
needs_of same h (Casts f o vs) = Object o ∷ ThreadAt o ∷ []
needs_of same h (NewProcessor c vs) = Processor ∷ FirstSlots (size (class_shape h c).cells) ∷ Constructs c vs ∷ []

-- the needs of a step of a run
abbrev pub needs : Shapes → Ask Name → List (Need Name)
needs = needs_of same_name

-- whether a need is met: it is, and these values were found; not yet; never, which is a fault
pub data Verdict (N : Type 0) : Type 0 where
  Go : List (Value N) → Verdict N
  Hold : Verdict N
  Bad : FaultKind → Verdict N

abbrev pub of_result : {A N : Type 0} → Result A → (A → List (Value N)) → Verdict N
of_result (Gives a) f = Go (f a)
of_result (Fails kind) f = Bad kind

-- null where the value is no pointer
abbrev pub at_object : {A N : Type 0} → Value N → A → (N → ℕ → A) → A
at_object Void null go = null
at_object (Int n) null go = null
at_object Null null go = null
at_object (Ptr o x) null go = go o x

-- a read waits while the cell is undefined
abbrev pub read : {N : Type 0} → Option (Cell N) → Verdict N
read None = Bad IndexOut
read (Some (Plain v)) = Go (v ∷ [])
read (Some Empty) = Hold
read (Some (Full v)) = Go (v ∷ [])

abbrev pub writable : {N : Type 0} → Option (Cell N) → Verdict N
writable None = Bad IndexOut
writable (Some (Plain v)) = Go []
writable (Some Empty) = Go []
writable (Some (Full v)) = Bad SyncTwice

-- an undefined cell is copied as null
abbrev pub value_in : {N : Type 0} → Cell N → Value N
value_in (Plain v) = v
value_in Empty = Null
value_in (Full v) = v

abbrev pub all_in : {N : Type 0} → ℕ → List (Cell N) → Verdict N
all_in n cells = if nat_lt (length cells) n then Bad IndexOut else Go (map value_in cells)

-- void is a call without an object
abbrev pub object_there : {N : Type 0} → Value N → Verdict N
object_there Void = Go []
object_there (Int n) = Bad NullPointer
object_there Null = Bad NullPointer
object_there (Ptr o x) = Go []

abbrev pub room : {N : Type 0} → ℕ → ℕ → ℕ → FaultKind → Verdict N
room made n most kind = if nat_le (made + n) most then Go [] else Bad kind

abbrev pub all_of : (ℕ → Bool) → List ℕ → Bool
all_of f [] = true
all_of f (k ∷ ks) = f k && all_of f ks

-- What the needs of a thread look up. same: two names are of one object. cell, cells: of an object, where it has them. held: a thread is
-- inside an atomic function of the object. ended: the k-th thread that this one made has ended. inside: how many functions it is inside.
-- threads, slots: how many threads and cells were made on its processor. threads_at: how many threads on the processor of an object.
-- processors: how many there are
pub record Looks (N : Type 0) : Type 0 where
  pub same : N → N → Bool
  pub cell : N → ℕ → Option (Cell N)
  pub cells : N → List (Cell N)
  pub held : Value N → Bool
  pub ended : ℕ → Bool
  pub inside : ℕ
  pub threads : ℕ
  pub threads_at : Value N → ℕ
  pub slots : ℕ
  pub processors : ℕ

abbrev pub verdict_on : {N : Type 0} → Shapes → Looks N → Need N → Verdict N
verdict_on h w (Known r) = of_result r (λ vs. vs)
verdict_on h w (Filled a) = at_object a (Bad NullPointer) (λ o x. read (w.cell o x))
verdict_on h w (Unfilled a) = at_object a (Bad NullPointer) (λ o x. writable (w.cell o x))
verdict_on h w (AllCells a n) = at_object a (Bad NullPointer) (λ o x. all_in n (w.cells o))
verdict_on h w (Object o) = object_there o
verdict_on h w (Free f o) = if (function_shape h f).atomic && w.held o then Hold else Go []
verdict_on h w (Done made) = if all_of w.ended made then Go [] else Hold
verdict_on h w Deeper = room w.inside 1 most_calls CallDepth
verdict_on h w (Threads n) = room w.threads n most_threads ThreadsFull
verdict_on h w (ThreadAt o) = room (w.threads_at o) 1 most_threads ThreadsFull
verdict_on h w (Slots n) = room w.slots n most_slots StoreFull
verdict_on h w (FirstSlots n) = room 0 n most_slots StoreFull
verdict_on h w Processor = room w.processors 1 most_processors ProcessorsFull
verdict_on h w (Constructs c vs) = of_result (construct w.same (class_shape h c) vs) (λ cells. [])

abbrev pub and_also : {N : Type 0} → Verdict N → Verdict N → Verdict N
and_also (Go vs) (Go ws) = Go (vs ++ ws)
and_also (Go vs) Hold = Hold
and_also (Go vs) (Bad kind) = Bad kind
and_also Hold w = Hold
and_also (Bad kind) w = Bad kind

-- the first need that is not met decides
abbrev pub verdict_on_all : {N : Type 0} → Shapes → Looks N → List (Need N) → Verdict N
verdict_on_all h w [] = Go []
verdict_on_all h w (need ∷ more) = and_also (verdict_on h w need) (verdict_on_all h w more)

-- ---- what a configuration shows of thread t, which is l

abbrev pub ended : Option State → Bool
ended None = false
ended (Some (Live l)) = false
ended (Some (Ended v)) = true

-- of the threads that t made
abbrev pub all_ended : Map State → Name → List ℕ → Bool
all_ended threads t = all_of (λ k. ended (fin.get threads (k ∷ t)))

abbrev pub same_object : Value Name → Value Name → Bool
same_object v w = at_object v false (λ o x. at_object w false (λ o' x'. same_name o o'))

-- inside an atomic function of object o
abbrev pub is_inside : Shapes → Value Name → List (ℕ × Value Name) → Bool
is_inside h o [] = false
is_inside h o (e ∷ es) = ((function_shape h e.0).atomic && same_object o e.1) || is_inside h o es

abbrev pub holds : Shapes → Value Name → State → Bool
holds h o (Live l) = is_inside h o l.inside
holds h o (Ended v) = false

abbrev pub any_holds : Shapes → Value Name → List State → Bool
any_holds h o [] = false
any_holds h o (x ∷ xs) = holds h o x || any_holds h o xs

abbrev pub looks : Shapes → Config → Name → Thread → Looks Name
looks h s t l = record {
  same = same_name;
  cell = cell s;
  cells = λ o. cells_of (fin.get s.objects o);
  held = λ o. any_holds h o (fin.values s.threads);
  ended = λ k. ended (fin.get s.threads (k ∷ t));
  inside = length l.inside;
  threads = count s.threads_made l.home;
  threads_at = λ o. count s.threads_made (home s o);
  slots = count s.slots_made l.home;
  processors = s.processors;
}

abbrev pub check : Shapes → Config → Name → Thread → Need Name → Verdict Name
check h s t l = verdict_on h (looks h s t l)

abbrev pub check_all : Shapes → Config → Name → Thread → List (Need Name) → Verdict Name
check_all h s t l = verdict_on_all h (looks h s t l)
