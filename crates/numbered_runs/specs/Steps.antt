-- The next move of a thread, by numbers.
use Rattle.std.specs.Prelude.{ℕ, zero, suc, Bool, true, false, List, [], ◌∷◌, ◌++◌, length, Option, Some, None}
use Rattle.global_ptr.specs.declared.ends.FaultKind.{FaultKind}
use Rattle.cc_ops.specs.Values.{Value}
use Rattle.cc_ops.specs.Machine.{Address, Values}
use Rattle.cc_ops.specs.declared.number.ThreadNo.{ThreadNo}
use Rattle.cc_ops.specs.Shelves.{Shelf}
use Rattle.cc_core.specs.Asks.{Ask, Answer}
use Rattle.cc_core.specs.Effects.{numbers, branch_count, is_call}
use Rattle.cc_core.specs.Needs.{Verdict, Go, Hold, Bad}
use Rattle.cc_code.specs.Code.{Code, Thread, Then, Move, Silent, Does, Ends, Stuck, move}
use Rattle.numbered_threads.specs.Quiet.{quiet_end}
use Rattle.numbered_runs.specs.Machine.{Machine, Runner, Progress, Goes, Over, thread_in, put_thread, push_thread, made_in, ended_with}
use Rattle.numbered_runs.specs.Looks.{needs, check_all}
use Rattle.numbered_runs.specs.Effects.{Effect, effect, start_home, write_all, more_shelves, put_things, addresses, held_after, leave_all}

-- no such thread goes on; it waits; its next move is a fault at a line; or a step, after which the machine is this
pub data Outcome : Type 0 where
  Gone : Outcome
  Waits : Outcome
  Faults : FaultKind → (line : ℕ) → Outcome
  Moves : Machine → Outcome

abbrev pub ended_or : Runner → Move Address → Progress
ended_or r (Silent c) = Goes r
ended_or r (Does n q k) = Goes r
ended_or r (Ends v) = Over v
ended_or r Stuck = Goes r

abbrev pub with_thread : Runner → Thread Address → Runner
with_thread r c = record { thread = c; asked = r.asked; kids = r.kids; inside = r.inside }

-- after its silent moves a thread asks, or has ended
abbrev pub settle : Code → Runner → Progress
settle code r = let c = quiet_end code r.thread in ended_or (with_thread r c) (move code c)

-- A thread that has ended is inside no function.
abbrev pub freed : Code → Progress → List (ℕ × Value Address) → List Shelf → List Shelf
freed code (Goes r) inside shelves = shelves
freed code (Over v) inside shelves = leave_all code.shapes inside shelves

abbrev pub new_runner : Thread Address → Runner
new_runner c = record { thread = c; asked = None; kids = []; inside = [] }

abbrev pub settle_all : Code → List (Thread Address) → List Progress
settle_all code [] = []
settle_all code (c ∷ cs) = settle code (new_runner c) ∷ settle_all code cs

abbrev pub more_tables : ℕ → List (List Progress) → List (List Progress)
more_tables zero threads = threads
more_tables (suc n) threads = more_tables n (threads ++ [] ∷ [])

abbrev pub push_all : List (List Progress) → ℕ → List Progress → List (List Progress)
push_all threads q [] = threads
push_all threads q (x ∷ xs) = push_all (push_thread threads q x) q xs

-- the numbers of threads that are made on processor q, from k on
abbrev pub numbers_on : (q : ℕ) → (k : ℕ) → List (Thread Address) → List ThreadNo
numbers_on q k [] = []
numbers_on q k (c ∷ cs) = record { processor = q; thread = k } ∷ numbers_on q (suc k) cs

-- ---- the step of thread t, which is r, where its ask's needs found these values, and k is what follows the answer
module _ (w : Machine) (t : ThreadNo) (r : Runner) (ask : Ask Address) (k : Answer Address → Then Address) (found : Values) where
  abbrev pub its_effect : Effect
  its_effect = effect w t.processor r ask found

  -- the objects before new ones are made
  abbrev pub ground : List Shelf
  ground = more_shelves its_effect.processors (write_all w.shelves its_effect.writes)

  abbrev pub its_answer : Answer Address
  its_answer = record { values = addresses ground its_effect.objects ++ found; made = numbers (length r.kids) (branch_count ask) }

  abbrev pub follows : Then Address
  follows = k its_answer

  -- the threads that are made, on their processor, and their numbers
  abbrev pub its_new : List (Thread Address)
  its_new = its_effect.starts ++ follows.branches

  abbrev pub new_home : ℕ
  new_home = start_home t.processor ask

  abbrev pub tables : List (List Progress)
  tables = more_tables its_effect.processors w.threads

  abbrev pub new_numbers : List ThreadNo
  new_numbers = numbers_on new_home (made_in tables new_home) its_new

  -- A thread that asks for a remote call stays at it, until the thread that was made for it has ended.
  abbrev pub itself : (calls : Bool) → Progress
  itself true = Goes (record {
    thread = r.thread;
    asked = Some (record { processor = new_home; thread = made_in tables new_home });
    kids = r.kids ++ new_numbers;
    inside = its_effect.inside;
  })
  itself false = settle w.code (record { thread = follows.left; asked = None; kids = r.kids ++ new_numbers; inside = its_effect.inside })

  abbrev pub apply : Machine
  apply = record {
    code = w.code;
    shelves = freed w.code (itself (is_call ask)) its_effect.inside
        (held_after w.code.shapes r.inside ask (put_things ground its_effect.objects));
    threads = put_thread (push_all tables new_home (settle_all w.code its_new)) t (itself (is_call ask));
    output = w.output ++ its_effect.prints;
  }

abbrev pub decide : Machine → ThreadNo → Runner → (line : ℕ) → Ask Address → (Answer Address → Then Address) → Verdict Address → Outcome
decide w t r line ask k Hold = Waits
decide w t r line ask k (Bad kind) = Faults kind line
decide w t r line ask k (Go found) = Moves (apply w t r ask k found)

-- the join of a remote call takes the value that its thread has ended with
abbrev pub resumed : Machine → Runner → (Answer Address → Then Address) → Value Address → Progress
resumed w r k v =
    settle w.code (record { thread = (k (record { values = v ∷ []; made = [] })).left; asked = None; kids = r.kids; inside = r.inside })

abbrev pub joined : Machine → ThreadNo → Runner → (Answer Address → Then Address) → Value Address → Machine
joined w t r k v = record {
  code = w.code;
  shelves = freed w.code (resumed w r k v) r.inside w.shelves;
  threads = put_thread w.threads t (resumed w r k v);
  output = w.output;
}

abbrev pub join : Machine → ThreadNo → Runner → (Answer Address → Then Address) → Option (Value Address) → Outcome
join w t r k None = Waits
join w t r k (Some v) = Moves (joined w t r k v)

abbrev pub act_asked : Machine → ThreadNo → Runner → (line : ℕ) → Ask Address → (Answer Address → Then Address) → Option ThreadNo → Outcome
act_asked w t r line ask k None = decide w t r line ask k (check_all w t.processor r (needs w.code.shapes ask))
act_asked w t r line ask k (Some kid) = join w t r k (ended_with (thread_in w.threads kid))

abbrev pub act : Machine → ThreadNo → Runner → Move Address → Outcome
act w t r (Silent c) = Waits
act w t r (Does line ask k) = act_asked w t r line ask k r.asked
act w t r (Ends v) = Waits
act w t r Stuck = Waits

abbrev pub act_progress : Machine → ThreadNo → Option Progress → Outcome
act_progress w t None = Gone
act_progress w t (Some (Over v)) = Gone
act_progress w t (Some (Goes r)) = act w t r (move w.code r.thread)

unfoldable pub step : Machine → ThreadNo → Outcome
step w t = act_progress w t (thread_in w.threads t)
