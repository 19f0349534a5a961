-- How a run numbers its names: processors, and the threads and objects of each processor, from 0 in the order made, with the branches
-- of a fork in the order of the text and parameters in their order; and what a remote operation posts, under these numbers.
use Rattle.std.specs.Prelude.{ℕ, suc, true, List, [], ◌∷◌, ◌++◌, map, Option, Some, None, ℤ, if◌then◌else◌}
use Rattle.std.specs.FinMap as fin
use Rattle.cc_ops.specs.Machine.{Address}
use Rattle.cc_ops.specs.Values as values
use Rattle.cc_ops.specs.Values.{Void, Int, Null, Ptr}
use Rattle.cc_core.specs.Names.{Name, same_name, Map, Value}
use Rattle.cc_core.specs.Core.{Term, Program, function, shapes}
use Rattle.cc_core.specs.Asks.{Ask, Answer, Reads, Writes, Calls, Casts, NewProcessor}
use Rattle.cc_core.specs.Next.{Next, Ready, Asks, After, next}
use Rattle.cc_core.specs.Config.{Config, Thread, State, Live, Ended, Object, home}
use Rattle.cc_core.specs.Needs.{Verdict, Go, Hold, Bad, needs, check_all, at_object}
use Rattle.cc_core.specs.Effects.{parameters}
use Rattle.cc_core.specs.Steps.{Change, change, ints}

-- the names in the order made: processors, and of each processor its threads and its objects
pub record Numbers : Type 0 where
  pub processors : List Name
  pub threads : Map (List Name)
  pub objects : Map (List Name)

-- the names of processor q
abbrev pub listed : Map (List Name) → Name → List Name
listed m q = elim (fin.get m q) [ None ↦ [] | Some ts ↦ ts ]

abbrev pub listing : Map (List Name) → Name → Name → Map (List Name)
listing m q t = fin.insert m q (listed m q ++ t ∷ [])

abbrev pub list_threads : Map (List Name) → List (Name × Thread) → Map (List Name)
list_threads m [] = m
list_threads m (e ∷ es) = list_threads (listing m e.1.home e.0) es

abbrev pub list_objects : Map (List Name) → List (Name × Object) → Map (List Name)
list_objects m [] = m
list_objects m (e ∷ es) = list_objects (listing m e.1.home e.0) es

-- a processor is named by its first object
abbrev pub new_processors : List (Name × Object) → List Name
new_processors [] = []
new_processors (e ∷ es) = if same_name e.0 e.1.home then e.0 ∷ new_processors es else new_processors es

-- after threads and objects are made, in this order
abbrev pub numbers_after : Numbers → List (Name × Thread) → List (Name × Object) → Numbers
numbers_after n threads objects = record {
  processors = n.processors ++ new_processors objects;
  threads = list_threads n.threads threads;
  objects = list_objects n.objects objects;
}

abbrev pub of_verdict : Program → Name → Config → Thread → Ask Name → (Answer Name → After Term) → Verdict Name → Option Change
of_verdict p t s l q k Hold = None
of_verdict p t s l q k (Bad kind) = None
of_verdict p t s l q k (Go found) = Some (change p t s l q k found)

abbrev pub of_next : Program → Name → Config → Thread → Next Value Term → Option ℕ → Option Change
of_next p t s l (Ready v) asked = None
of_next p t s l (Asks line q k) None = of_verdict p t s l q k (check_all (shapes p) s t l (needs (shapes p) q))
of_next p t s l (Asks line q k) (Some kid) = None

-- what thread t's step changes; none at the join of a remote call, which makes nothing
abbrev pub changes : Program → Name → Config → Option State → Option Change
changes p t s None = None
changes p t s (Some (Ended v)) = None
changes p t s (Some (Live l)) = of_next p t s l (next p l.term) l.asked

abbrev pub after_change : Numbers → Option Change → Numbers
after_change n None = n
after_change n (Some c) = numbers_after n c.new c.effect.objects

-- the numbers after thread t's step in s
abbrev pub numbers_step : Program → Name → Config → Numbers → Numbers
numbers_step p t s n = after_change n (changes p t s (fin.get s.threads t))

-- the first place of a name in a list, or the list's length
abbrev pub first_place : List Name → Name → ℕ
first_place [] t = 0
first_place (u ∷ us) t = if same_name t u then 0 else suc (first_place us t)

-- the numbers of an object: its processor's, and its own there
abbrev pub address : Config → Numbers → Name → Address
address s n o =
    let q = home s (Ptr o 0) in
    record { processor = first_place n.processors q; object = first_place (listed n.objects q) o }

-- a value with its names numbered
abbrev pub numbered : Config → Numbers → Value → values.Value Address
numbered s n Void = Void
numbered s n (Int k) = Int k
numbered s n Null = Null
numbered s n (Ptr o x) = Ptr (address s n o) x

-- what a remote operation posts
pub data Post : Type 0 where
  Get : (at : values.Value Address) → Post
  Put : (at v : values.Value Address) → Post
  Call : (f : ℕ) → (object : values.Value Address) → List (values.Value Address) → Post
  Cast : (f : ℕ) → (object : values.Value Address) → List (values.Value Address) → Post
  Make : (class : ℕ) → List (values.Value Address) → Post

-- through a null pointer nothing is posted
abbrev pub where_object : Value → Post → Option Post
where_object a post = at_object a None (λ o x. Some post)

abbrev pub posted : Config → Numbers → Ask Name → Option Post
posted s n (Reads true a) = where_object a (Get (numbered s n a))
posted s n (Writes true a v) = where_object a (Put (numbered s n a) (numbered s n v))
posted s n (Calls f o vs) = where_object o (Call f (numbered s n o) (map (numbered s n) vs))
posted s n (Casts f o vs) = where_object o (Cast f (numbered s n o) (map (numbered s n) vs))
posted s n (NewProcessor c vs) = Some (Make c (map (numbered s n) vs))
posted s n q = None

abbrev pub next_posts : Config → Numbers → Next Value Term → Option ℕ → Option Post
next_posts s n (Ready v) asked = None
next_posts s n (Asks line q k) None = posted s n q
next_posts s n (Asks line q k) (Some kid) = None

-- what the next move of a thread posts, where it is a remote operation
abbrev pub posts : Program → Config → Numbers → Option State → Option Post
posts p s n None = None
posts p s n (Some (Ended v)) = None
posts p s n (Some (Live l)) = next_posts s n (next p l.term) l.asked

-- where a run begins: the root, main's thread and its parameters
abbrev pub first_numbers : Program → List ℤ → Numbers
first_numbers p ns =
    let root : Numbers = record { processors = [] ∷ []; threads = fin.insert fin.empty [] ([] ∷ []); objects = fin.empty } in
    numbers_after root [] (parameters [] 0 [] (function p p.main).shape.params (ints ns))
