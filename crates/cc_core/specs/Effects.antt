-- What a step changes besides what its own thread has left to do, as data: its effect.
use Rattle.std.specs.Prelude.{ℕ, zero, suc, Bool, true, false, List, [], ◌∷◌, ◌++◌, length, drop, replicate}
use Rattle.std.specs.Fmt.{signed_decimal}
use Rattle.cc_ops.specs.Values as values
use Rattle.cc_ops.specs.Values.{Ptr, fresh, started, Result, Gives, Fails, Plain, int_of, first, after_first}
use Rattle.cc_ops.specs.Classes.{construct}
use Rattle.cc_ops.specs.declared.kind.Kind.{Kind}
use Rattle.cc_core.specs.Names.{Name, same_name, Value, Cell}
use Rattle.cc_core.specs.Core.{Term, Starts, PrintPart, Number, Text, Endl, Shapes, function_shape, class_shape}
use Rattle.cc_core.specs.Asks.{Ask, Answer, Reads, Writes, Copies, Indexes, Shifts, Computes, Tests, Makes, MakesWith, Builds, Enters}
use Rattle.cc_core.specs.Asks.{Leaves, ForksAll, ForksOne, Joins, Spawns, Prints, Calls, Casts, NewProcessor}
use Rattle.cc_core.specs.Config.{Config, Thread, Object, home}

-- ---- what names nothing, and is so for every N that names objects

abbrev pub cells_with : {N : Type 0} → List Kind → List (values.Value N) → List (values.Cell N)
cells_with [] vs = []
cells_with (kind ∷ kinds) vs = started kind (first vs) ∷ cells_with kinds (after_first vs)

abbrev pub constructed : {N : Type 0} → Result (List (values.Cell N)) → List (values.Cell N)
constructed (Gives cells) = cells
constructed (Fails kind) = []

-- an int in decimal, a text as it is, a line feed
abbrev pub printed : {N : Type 0} → List PrintPart → List (values.Value N) → List ℕ
printed [] vs = []
printed (Number ∷ parts) vs = signed_decimal (int_of (first vs)) ++ printed parts (after_first vs)
printed (Text bytes ∷ parts) vs = bytes ++ printed parts vs
printed (Endl ∷ parts) vs = 10 ∷ printed parts vs

-- the functions that a thread is inside after a return
abbrev pub left_behind : {N : Type 0} → List (ℕ × values.Value N) → List (ℕ × values.Value N)
left_behind [] = []
left_behind (e ∷ es) = es

-- how many branches are made
abbrev pub branch_count : {N : Type 0} → Ask N → ℕ
branch_count (ForksAll n) = n
branch_count (ForksOne v) = 1
branch_count q = 0

abbrev pub is_call : {N : Type 0} → Ask N → Bool
is_call (Calls f o vs) = true
is_call q = false

-- ---- effects of a run's configuration

-- objects: those that are made, in order; own: how many of them the thread itself makes.
-- writes: the values written, each with its address. starts: the threads that are made, besides branches; each begins with a call.
-- processors: how many are made. prints: the bytes written. inside: the functions that the thread is inside afterwards
pub record Effect : Type 0 where
  pub objects : List (Name × Object)
  pub own : ℕ
  pub writes : List (Value × Value)
  pub starts : List Term
  pub processors : ℕ
  pub prints : List ℕ
  pub inside : List (ℕ × Value)

abbrev pub nothing : Thread → Effect
nothing l = record { objects = []; own = 0; writes = []; starts = []; processors = 0; prints = []; inside = l.inside }

-- t makes an object on processor q
abbrev pub object : Name → Thread → (q : Name) → List Cell → Effect
object t l q cells = record (nothing l) { objects = (l.objects ∷ t, record { home = q; cells = cells }) ∷ []; own = 1 }

abbrev pub start : Thread → ℕ → Value → List Value → Effect
start l f o vs = record (nothing l) { starts = Starts f o vs ∷ [] }

-- the objects of parameters, of which each takes as many values as it has cells; t makes them, from its object k on
abbrev pub parameters : Name → (k : ℕ) → (q : Name) → List (List Kind) → List Value → List (Name × Object)
parameters t k q [] vs = []
parameters t k q (kinds ∷ more) vs =
    (k ∷ t, record { home = q; cells = cells_with kinds vs }) ∷ parameters t (suc k) q more (drop (length kinds) vs)

-- of an ask of t, where `found` are the values that its needs found
abbrev pub effect : Shapes → Name → Thread → Ask Name → (found : List Value) → Effect
effect h t l (Reads remote a) found = nothing l
effect h t l (Writes remote a v) found = record (nothing l) { writes = (a, v) ∷ [] }
effect h t l (Copies a n) found = nothing l
effect h t l (Indexes a n i) found = nothing l
effect h t l (Shifts a i) found = nothing l
effect h t l (Computes op vs) found = nothing l
effect h t l Tests found = nothing l
effect h t l (Makes kind n) found = object t l l.home (replicate n (fresh kind))
effect h t l (MakesWith kind v) found = object t l l.home (started kind v ∷ [])
effect h t l (Builds c vs) found = object t l l.home (constructed (construct same_name (class_shape h c) vs))
effect h t l (Enters f o vs) found = record (nothing l) {
  objects = parameters t l.objects l.home (function_shape h f).params vs;
  own = length (function_shape h f).params;
  inside = (f, o) ∷ l.inside;
}
effect h t l Leaves found = record (nothing l) { inside = left_behind l.inside }
effect h t l (ForksAll n) found = nothing l
-- the branch's own copy of the variable, with the value of this moment, is object 0 of the branch
effect h t l (ForksOne v) found = record (nothing l) {
  objects = (0 ∷ l.threads ∷ t, record { home = l.home; cells = Plain (first found) ∷ [] }) ∷ [];
}
effect h t l (Joins made) found = nothing l
effect h t l (Spawns f o vs) found = start l f o vs
effect h t l (Prints parts vs) found = record (nothing l) { prints = printed parts vs }
effect h t l (Calls f o vs) found = start l f o vs
effect h t l (Casts f o vs) found = start l f o vs
-- the new processor has the object's name
effect h t l (NewProcessor c vs) found =
    record (object t l (l.objects ∷ t) (constructed (construct same_name (class_shape h c) vs))) { processors = 1 }

-- how many objects a new thread counts as its own from the start
abbrev pub first_objects : Ask Name → ℕ
first_objects (ForksOne v) = 1
first_objects q = 0

-- the processor of the threads that are made
abbrev pub start_home : Config → Thread → Ask Name → Name
start_home s l (Calls f o vs) = home s o
start_home s l (Casts f o vs) = home s o
start_home s l q = l.home

abbrev pub addresses : List (Name × Object) → List Value
addresses [] = []
addresses (e ∷ es) = Ptr e.0 0 ∷ addresses es

abbrev pub numbers : ℕ → ℕ → List ℕ
numbers k zero = []
numbers k (suc n) = k ∷ numbers (suc k) n

abbrev pub answer : Thread → Ask Name → Effect → (found : List Value) → Answer Name
answer l q e found = record { values = addresses e.objects ++ found; made = numbers l.threads (branch_count q) }
