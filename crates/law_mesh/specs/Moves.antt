-- The moves of a mesh: each takes one thread from its spot to another, or wakes all that wait for a cell.
use Rattle.std.specs.Prelude.{◌≡◌, ℕ, zero, suc, List, [], ◌∷◌, ◌++◌, length, map, Bool, true, false, Option, Some, None, is_some}
use Rattle.global_ptr.specs.declared.ends.FaultKind.{FaultKind}
use Rattle.cc_ops.specs.Values.{Value, Ptr}
use Rattle.cc_ops.specs.Machine.{Address, Values}
use Rattle.cc_ops.specs.declared.number.ThreadNo.{ThreadNo}
use Rattle.cc_ops.specs.Shelves.{Shelf, changed}
use Rattle.cc_core.specs.Core.{function_shape}
use Rattle.cc_core.specs.Asks.{Ask, Answer, Reads, Enters, Joins}
use Rattle.cc_core.specs.Effects.{numbers, branch_count, is_call}
use Rattle.cc_core.specs.Numbers.{Post}
use Rattle.cc_core.specs.Needs.{Go, Bad}
use Rattle.cc_code.specs.Code.{Code, Thread, Then, Silent, Does, Ends, move}
use Rattle.numbered_runs.specs.Effects.{Effect, effect, start_home, write_all, more_shelves, put_things, addresses, held_after}
use Rattle.numbered_runs.specs.Posts.{posted}
use Rattle.numbered_runs.specs.Steps.{settle, freed, numbers_on}
use Rattle.law_mesh.specs.Spots.{Fiber, Reason, Cell as ACell, Lock, Branches, Spot, Active, Parked, Posted, Delayed, Answered, Calling, Called, Gone}
use Rattle.law_mesh.specs.Spots.{Mesh, made_of, item_in, put_item, shown, runs, verdict, answered}
use Rattle.law_mesh.specs.Queues.{woken}

module _ {X : Type 0} where
  abbrev pub push_item : List (List X) → ℕ → X → List (List X)
  push_item table q x = changed table q (λ xs. xs ++ x ∷ [])

  abbrev pub push_items : List (List X) → ℕ → List X → List (List X)
  push_items table q [] = table
  push_items table q (x ∷ xs) = push_items (push_item table q x) q xs

  abbrev pub more_lists : ℕ → List (List X) → List (List X)
  more_lists zero table = table
  more_lists (suc n) table = more_lists n (table ++ [] ∷ [])

abbrev pub new_fiber : Thread Address → Fiber
new_fiber c = record { thread = c; kids = []; inside = [] }

abbrev pub new_spots : List (Thread Address) → List Spot
new_spots [] = []
new_spots (c ∷ cs) = Active (new_fiber c) ∷ new_spots cs

abbrev pub known : List ThreadNo → List (Option ThreadNo)
known [] = []
known (t ∷ ts) = Some t ∷ known ts

-- it is asked by a request to a processor
abbrev pub is_away : Ask Address → Bool
is_away ask = is_some (posted ask)

abbrev pub effect_of : Mesh → (q : ℕ) → Fiber → Ask Address → Values → Effect
effect_of m q f ask found = effect (shown m []) q (runs f None []) ask found

-- ---- The step of a thread on processor q, which is f, with this effect, where its ask's needs found these values, and k follows the answer.
module _ (m : Mesh) (q : ℕ) (f : Fiber) (ask : Ask Address) (k : Answer Address → Then Address) (found : Values) (e : Effect) where
  abbrev pub written_shelves : List Shelf
  written_shelves = more_shelves e.processors (write_all m.shelves e.writes)

  abbrev pub values_given : Values
  values_given = addresses written_shelves e.objects ++ found

  abbrev pub follows : Then Address
  follows = k (record { values = values_given; made = numbers (length f.kids) (branch_count ask) })

  abbrev pub its_new : List (Thread Address)
  its_new = e.starts ++ follows.branches

  -- the processor of the threads that are made
  abbrev pub home : ℕ
  home = start_home q ask

  abbrev pub tables : List (List Spot)
  tables = more_lists e.processors m.spots

  abbrev pub next_number : ℕ
  next_number = made_of tables home

  abbrev pub gone_on : Fiber
  gone_on = record { thread = follows.left; kids = f.kids ++ known (numbers_on home next_number its_new); inside = e.inside }

  abbrev pub held_then : List Shelf
  held_then = held_after m.code.shapes f.inside ask (put_things written_shelves e.objects)

  -- with thread t at a spot. Where it has ended it leaves all objects.
  abbrev pub stepped : ThreadNo → Spot → Mesh
  stepped t p = record {
    code = m.code;
    shelves = freed m.code (settle m.code (runs gone_on None [])) e.inside held_then;
    spots = put_item (push_items tables home (new_spots its_new)) t p;
    holder = m.holder;
    output = m.output ++ e.prints;
  }

  -- the thread waits for the one that is made
  abbrev pub called : ThreadNo → Mesh
  called t = record {
    code = m.code;
    shelves = held_then;
    spots = put_item (push_items tables home (new_spots its_new)) t (Calling (record { processor = home; thread = next_number }) f);
    holder = m.holder;
    output = m.output ++ e.prints;
  }

-- after a step of thread t: it goes on; it is answered; it waits for the thread that is made
module _ (m : Mesh) (t : ThreadNo) (f : Fiber) (ask : Ask Address) (k : Answer Address → Then Address) (found : Values) where
  abbrev pub its_effect : Effect
  its_effect = effect_of m t.processor f ask found

  abbrev pub acted : Mesh
  acted = stepped m t.processor f ask k found its_effect t (Active (gone_on m t.processor f ask k found its_effect))

  abbrev pub served : Mesh
  served = stepped m t.processor f ask k found its_effect t (Answered (values_given m t.processor f ask k found its_effect) f)

  abbrev pub call_served : Mesh
  call_served = called m t.processor f ask k found its_effect t

-- after the value of its call
abbrev pub with_value : Code → Fiber → Value Address → Fiber
with_value code f v = record { thread = (answered code f (v ∷ [])).thread; kids = f.kids ++ None ∷ []; inside = f.inside }

abbrev pub taken : Mesh → ThreadNo → Fiber → Value Address → Mesh
taken m t f v = record {
  code = m.code;
  shelves = freed m.code (settle m.code (runs (with_value m.code f v) None [])) f.inside m.shelves;
  spots = put_item m.spots t (Active (with_value m.code f v));
  holder = m.holder;
  output = m.output;
}

abbrev pub with_spot : Mesh → ThreadNo → Spot → Mesh
with_spot m t p = record { code = m.code; shelves = m.shelves; spots = put_item m.spots t p; holder = m.holder; output = m.output }

abbrev pub with_spots : Mesh → List (List Spot) → Mesh
with_spots m spots = record { code = m.code; shelves = m.shelves; spots = spots; holder = m.holder; output = m.output }

abbrev pub with_holder : Mesh → (Address → Option ThreadNo) → Mesh
with_holder m h = record { code = m.code; shelves = m.shelves; spots = m.spots; holder = h; output = m.output }

-- thread t stands at what it asks next
pub record Asking (m : Mesh) (t : ThreadNo) (p : Spot) (f : Fiber) (line : ℕ) (ask : Ask Address) (k : Answer Address → Then Address) : Type 0 where
  pub at : item_in m.spots t ≡ Some p
  pub asks : move m.code f.thread ≡ Does line ask k

-- a thread may wait for this only where it asks for it
abbrev pub AsksFor : Code → Reason → Fiber → Type 0
AsksFor code (ACell a x) f = (line : ℕ) × (remote : Bool) × (k : Answer Address → Then Address) × (move code f.thread ≡ Does line (Reads remote (Ptr a x)) k)
AsksFor code (Lock o) f = (line g x : ℕ) × (vs : Values) × (k : Answer Address → Then Address)
    × (move code f.thread ≡ Does line (Enters g (Ptr o x) vs) k) × ((function_shape code.shapes g).atomic ≡ true)
AsksFor code Branches f = (line : ℕ) × (made : List ℕ) × (k : Answer Address → Then Address) × (move code f.thread ≡ Does line (Joins made) k)

-- a step: of which thread, and what that had asked by a request, where it is such a step
pub record Step : Type 0 where
  pub thread : ThreadNo
  pub post : Option Post

abbrev pub own_step : ThreadNo → Step
own_step t = record { thread = t; post = None }

abbrev pub served_step : ThreadNo → Post → Step
served_step t post = record { thread = t; post = Some post }

-- The moves. Those with a step are it; the others are silent.
pub data Moves (m : Mesh) : Option Step → Mesh → Type 0 where
  -- a silent move of the code, and the thread's end
  GoesSilently : (t : ThreadNo) (f : Fiber) (c : Thread Address) → item_in m.spots t ≡ Some (Active f) → move m.code f.thread ≡ Silent c
      → Moves m None (with_spot m t (Active (record { thread = c; kids = f.kids; inside = f.inside })))
  Finishes : (t : ThreadNo) (f : Fiber) (v : Value Address) → item_in m.spots t ≡ Some (Active f) → move m.code f.thread ≡ Ends v
      → Moves m None (with_spot m t (Gone v))
  -- a step of its own
  Acts : (t : ThreadNo) (f : Fiber) (line : ℕ) (ask : Ask Address) (k : Answer Address → Then Address) (found : Values)
      → Asking m t (Active f) f line ask k → posted ask ≡ None → is_call ask ≡ false → verdict m t.processor f ask ≡ Go found
      → Moves m (Some (own_step t)) (acted m t f ask k found)
  -- it waits in a list; what is waited for has come
  Parks : (t : ThreadNo) (f : Fiber) (r : Reason) → item_in m.spots t ≡ Some (Active f) → AsksFor m.code r f
      → Moves m None (with_spot m t (Parked r f))
  Rouses : (t : ThreadNo) (f : Fiber) (r : Reason) → item_in m.spots t ≡ Some (Parked r f) → Moves m None (with_spot m t (Active f))
  -- all that wait for a cell go on
  Wakes : (a : Address) (x : ℕ) → Moves m None (with_spots m (map (map (woken a x)) m.spots))
  Holds : (h : Address → Option ThreadNo) → Moves m None (with_holder m h)
  -- a request
  Sends : (t : ThreadNo) (f : Fiber) (line : ℕ) (ask : Ask Address) (k : Answer Address → Then Address) → Asking m t (Active f) f line ask k
      → is_away ask ≡ true → Moves m None (with_spot m t (Posted f))
  Serves : (t : ThreadNo) (f : Fiber) (line : ℕ) (ask : Ask Address) (k : Answer Address → Then Address) (found : Values) (post : Post)
      → Asking m t (Posted f) f line ask k → posted ask ≡ Some post → is_call ask ≡ false → verdict m t.processor f ask ≡ Go found
      → Moves m (Some (served_step t post)) (served m t f ask k found)
  ServesCall : (t : ThreadNo) (f : Fiber) (line : ℕ) (ask : Ask Address) (k : Answer Address → Then Address) (found : Values) (post : Post)
      → Asking m t (Posted f) f line ask k → posted ask ≡ Some post → is_call ask ≡ true → verdict m t.processor f ask ≡ Go found
      → Moves m (Some (served_step t post)) (call_served m t f ask k found)
  Delays : (t : ThreadNo) (f : Fiber) (a : Address) (x : ℕ) → item_in m.spots t ≡ Some (Posted f) → AsksFor m.code (ACell a x) f
      → Moves m None (with_spot m t (Delayed a x f))
  ResumesGet : (t : ThreadNo) (f : Fiber) (a : Address) (x : ℕ) → item_in m.spots t ≡ Some (Delayed a x f) → Moves m None (with_spot m t (Posted f))
  Comes : (t : ThreadNo) (f : Fiber) (vs : Values) → item_in m.spots t ≡ Some (Answered vs f) → Moves m None (with_spot m t (Active (answered m.code f vs)))
  -- the thread of its call has ended
  Tells : (t : ThreadNo) (f : Fiber) (kid : ThreadNo) (v : Value Address) → item_in m.spots t ≡ Some (Calling kid f)
      → item_in m.spots kid ≡ Some (Gone v) → Moves m None (with_spot m t (Called kid v f))
  Takes : (t : ThreadNo) (f : Fiber) (kid : ThreadNo) (v : Value Address) → item_in m.spots t ≡ Some (Called kid v f)
      → Moves m (Some (own_step t)) (taken m t f v)

-- the next move of thread t is a fault at a line
pub data FaultsAt (m : Mesh) (t : ThreadNo) (kind : FaultKind) (line : ℕ) : Type 0 where
  ActsBadly : (f : Fiber) (ask : Ask Address) (k : Answer Address → Then Address) → Asking m t (Active f) f line ask k
      → verdict m t.processor f ask ≡ Bad kind → FaultsAt m t kind line
  ServedBadly : (f : Fiber) (ask : Ask Address) (k : Answer Address → Then Address) → Asking m t (Posted f) f line ask k
      → verdict m t.processor f ask ≡ Bad kind → FaultsAt m t kind line
