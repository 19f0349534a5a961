-- Steps, faults, runs, rest and standings.
use Rattle.std.specs.Prelude.{◌≡◌, ℕ, suc, ◌+◌, ◌<◌, ◌≤◌, List, [], ◌∷◌, ◌++◌, length, Option, Some, None, ℤ, if◌then◌else◌}
use Rattle.std.specs.FinMap as fin
use Rattle.cc_ops.specs.Values.{Void, Int}
use Rattle.global_ptr.specs.declared.ends.FaultKind.{FaultKind}
use Rattle.global_ptr.specs.declared.ends.Standing.{Standing}
use Rattle.global_ptr.specs.declared.ends.Standing.TheVariants.{Done, Blocked, Fault, Limit}
use Rattle.cc_core.specs.Names.{Name, Value, puts, added}
use Rattle.cc_core.specs.Core.{Term, Program, function, shapes}
use Rattle.cc_core.specs.Asks.{Ask, Answer}
use Rattle.cc_core.specs.Next.{Next, Ready, Asks, After, next, entered}
use Rattle.cc_core.specs.Config.{Config, Thread, State, Live, Ended, write_all, count_slots, count_threads}
use Rattle.cc_core.specs.Needs.{Verdict, Go, Hold, Bad, needs, check_all}
use Rattle.cc_core.specs.Effects.{Effect, effect, answer, addresses, parameters, start_home, is_call, first_objects}

-- a thread waits, or has ended; its next move is a fault at a line; or a step, after which the run has come to this
pub data Outcome : Type 0 where
  Waits : Outcome
  Faults : FaultKind → (line : ℕ) → Outcome
  Moves : Config → Outcome

-- a thread with nothing left to do ends at once
abbrev pub settled : Next Value Term → Thread → State
settled (Ready v) l = Ended v
settled (Asks line q k) l = Live l

abbrev pub settle : Program → Thread → State
settle p l = settled (next p l.term) l

abbrev pub settle_all : Program → List (Name × Thread) → List (Name × State)
settle_all p [] = []
settle_all p (e ∷ es) = (e.0, settle p e.1) ∷ settle_all p es

-- the threads that t makes on processor q, from its thread k on, each with so many objects of its own
abbrev pub new_threads : Name → (k : ℕ) → (q : Name) → (own : ℕ) → List Term → List (Name × Thread)
new_threads t k q own [] = []
new_threads t k q own (term ∷ terms) =
    let made : Thread = record { home = q; term = term; asked = None; threads = 0; objects = own; inside = [] } in
    (k ∷ t, made) ∷ new_threads t (suc k) q own terms

-- what a step makes of the thread itself, the threads that it makes, and what else it changes
pub record Change : Type 0 where
  pub thread : Thread
  pub new : List (Name × Thread)
  pub effect : Effect

abbrev pub apply : Program → Name → Change → Config → Config
apply p t c s = record {
  threads = puts ((t, settle p c.thread) ∷ settle_all p c.new) s.threads;
  objects = puts c.effect.objects (write_all s.objects c.effect.writes);
  output = s.output ++ c.effect.prints;
  processors = s.processors + c.effect.processors;
  threads_made = count_threads s.threads_made c.new;
  slots_made = count_slots s.slots_made c.effect.objects;
}

abbrev pub grown : Thread → Term → Option ℕ → List (Name × Thread) → Effect → Thread
grown l term asked new e = record {
  home = l.home;
  term = term;
  asked = asked;
  threads = l.threads + length new;
  objects = l.objects + e.own;
  inside = e.inside;
}

-- after the answer. A thread that asks for a remote call stays at it, until the thread that was made for it has ended
abbrev pub changed : Name → Thread → Ask Name → After Term → (q : Name) → Effect → Change
changed t l ask x q e =
    let new = new_threads t l.threads q (first_objects ask) (e.starts ++ x.branches) in
    record { thread = if is_call ask then grown l l.term (Some l.threads) new e else grown l x.left None new e; new = new; effect = e }

-- where `found` are the values that the ask's needs found
abbrev pub change : Program → Name → Config → Thread → Ask Name → (Answer Name → After Term) → (found : List Value) → Change
change p t s l ask k found =
    let e = effect (shapes p) t l ask found in
    changed t l ask (k (answer l ask e found)) (start_home s l ask) e

abbrev pub decide : Program → Name → Config → Thread → ℕ → Ask Name → (Answer Name → After Term) → Verdict Name → Outcome
decide p t s l line ask k Hold = Waits
decide p t s l line ask k (Bad kind) = Faults kind line
decide p t s l line ask k (Go found) = Moves (apply p t (change p t s l ask k found) s)

-- the join of a remote call takes the value that its thread has ended with
abbrev pub join : Program → Name → Config → Thread → (Answer Name → After Term) → Option State → Outcome
join p t s l k None = Waits
join p t s l k (Some (Live l')) = Waits
join p t s l k (Some (Ended v)) =
    let joined : Thread = record l { term = (k (record { values = v ∷ []; made = [] })).left; asked = None } in
    Moves (record s { threads = fin.insert s.threads t (settle p joined) })

abbrev pub act : Program → Name → Config → Thread → Next Value Term → (asked : Option ℕ) → Outcome
act p t s l (Ready v) asked = Waits
act p t s l (Asks line ask k) None = decide p t s l line ask k (check_all (shapes p) s t l (needs (shapes p) ask))
act p t s l (Asks line ask k) (Some made) = join p t s l k (fin.get s.threads (made ∷ t))

abbrev pub act_state : Program → Name → Config → Option State → Outcome
act_state p t s None = Waits
act_state p t s (Some (Ended v)) = Waits
act_state p t s (Some (Live l)) = act p t s l (next p l.term) l.asked

-- the next move of thread t
abbrev pub step : Program → Name → Config → Outcome
step p t s = act_state p t s (fin.get s.threads t)

abbrev pub ints : List ℤ → List Value
ints [] = []
ints (n ∷ ns) = Int n ∷ ints ns

-- where a run begins: main is entered, as the first thread of the root, and its parameters are the first objects there
abbrev pub start : Program → List ℤ → Config
start p ns =
    let made = parameters [] 0 [] (function p p.main).shape.params (ints ns) in
    let main : Thread = record {
      home = [];
      term = entered p p.main Void (addresses made);
      asked = None;
      threads = 0;
      objects = length made;
      inside = (p.main, Void) ∷ [];
    } in
    record {
      threads = puts (([], settle p main) ∷ []) fin.empty;
      objects = puts made fin.empty;
      output = [];
      processors = 1;
      threads_made = added fin.empty [] 1;
      slots_made = count_slots fin.empty made;
    }

-- a run from s to r: a list of steps, each by the thread that is named
abbrev pub Run : Program → List Name → (s r : Config) → Type 0
Run p [] s r = s ≡ r
Run p (t ∷ ts) s r = (s1 : Config) × (step p t s ≡ Moves s1) × Run p ts s1 r

-- some thread has this fault
abbrev pub HasFault : Program → Config → FaultKind → (line : ℕ) → Type 0
HasFault p s kind line = (t : Name) × (step p t s ≡ Faults kind line)

-- a thread can move where its next move is a step or a fault
abbrev pub CanMove : Outcome → Type 0
CanMove Waits = ⊥
CanMove (Faults kind line) = Unit {0}
CanMove (Moves s) = Unit {0}

-- no thread can move
abbrev pub IsAtRest : Program → Config → Type 0
IsAtRest p s = (t : Name) → step p t s ≡ Waits

abbrev pub live : List State → ℕ
live [] = 0
live (Live l ∷ xs) = suc (live xs)
live (Ended v ∷ xs) = live xs

abbrev pub threads_left : Config → ℕ
threads_left s = live (fin.values s.threads)

-- A run of n steps that ends in s has this standing, under a step limit: done, with the result of main; blocked, with so many threads
-- left; at a fault; or going on after as many steps as the limit.
abbrev pub Stands : Program → (limit n : ℕ) → Config → Standing → Type 0
Stands p limit n s (Done v) = IsAtRest p s × (threads_left s ≡ 0) × (fin.get s.threads [] ≡ Some (Ended (Int v)))
Stands p limit n s (Blocked k) = IsAtRest p s × (threads_left s ≡ k) × (1 ≤ k)
Stands p limit n s (Fault fault) = HasFault p s fault.kind fault.line × (n < limit)
Stands p limit n s (Limit k) = (k ≡ limit) × (n ≡ limit) × (t : Name) × CanMove (step p t s)

-- Some run of the program from these ints has at most so many steps, and at its end this output and this standing.
pub record RunsTo (p : Program) (ns : List ℤ) (limit : ℕ) (output : List ℕ) (standing : Standing) : Type 0 where
  pub steps : List Name
  pub last : Config
  pub run : Run p steps (start p ns) last
  pub within : length steps ≤ limit
  pub written : last.output ≡ output
  pub stands : Stands p limit (length steps) last standing
