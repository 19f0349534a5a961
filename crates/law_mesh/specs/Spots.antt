-- The threads of all processors, each at the one spot where it stands.
use Rattle.std.specs.Prelude.{ℕ, List, [], ◌∷◌, ◌++◌, length, slice_get, Bool, true, false, Option, Some, None}
use Rattle.std.specs.Option.{option_and_then, option_map_or}
use Rattle.cc_ops.specs.Values.{Value}
use Rattle.cc_ops.specs.Machine.{Address, Values}
use Rattle.cc_ops.specs.declared.number.ThreadNo.{ThreadNo}
use Rattle.cc_ops.specs.Shelves.{Shelf, changed, home_in}
use Rattle.cc_core.specs.Asks.{Ask, Casts}
use Rattle.cc_core.specs.Needs.{Verdict, Looks, verdict_on_all}
use Rattle.cc_code.specs.Code.{Code, Thread, Move, Silent, Does, Ends, Stuck, move}
use Rattle.numbered_runs.specs.Machine.{Machine, Runner, Progress}
use Rattle.numbered_runs.specs.Looks as numbered
use Rattle.numbered_runs.specs.Looks.{needs}

-- A thread as its processor knows it: what it has left to do; the threads that it made, in order, of which one that was made by a request has no
-- number here; and the functions that it is inside.
pub record Fiber : Type 0 where
  pub thread : Thread Address
  pub kids : List (Option ThreadNo)
  pub inside : List (ℕ × Value Address)

-- what a thread waits for: the value of a cell, an object that is held, its branches
pub data Reason : Type 0 where
  Cell : Address → (x : ℕ) → Reason
  Lock : Address → Reason
  Branches : Reason

-- Active: in a ready list, or the one that is run. Parked: in the list of what it waits for. Posted: its request is in a box, or is a Get that was
-- woken. Delayed: its Get was served, and waits for a cell. Answered: the Reply is under way, or has come. Calling: a thread runs its call. Called:
-- that has ended. Gone: it has ended.
pub data Spot : Type 0 where
  Active : Fiber → Spot
  Parked : Reason → Fiber → Spot
  Posted : Fiber → Spot
  Delayed : Address → (x : ℕ) → Fiber → Spot
  Answered : Values → Fiber → Spot
  Calling : (kid : ThreadNo) → Fiber → Spot
  Called : (kid : ThreadNo) → Value Address → Fiber → Spot
  Gone : Value Address → Spot

-- holder: of an object, the thread that is inside an atomic function of it, or goes in at its call
pub record Mesh : Type 0 where
  pub code : Code
  pub shelves : List Shelf
  pub spots : List (List Spot)
  pub holder : Address → Option ThreadNo
  pub output : List ℕ

-- ---- tables: the items of each processor, in order

module _ {X : Type 0} where
  abbrev pub item_in : List (List X) → ThreadNo → Option X
  item_in table t = option_and_then (λ xs. slice_get xs t.thread) (slice_get table t.processor)

  abbrev pub put_item : List (List X) → ThreadNo → X → List (List X)
  put_item table t x = changed table t.processor (λ xs. changed xs t.thread (λ y. x))

  abbrev pub made_of : List (List X) → ℕ → ℕ
  made_of table q = option_map_or (λ xs. length xs) (slice_get table q) 0

-- ---- the machine of numbers that a mesh shows, but for its threads, and a thread there

-- with these threads
abbrev pub shown : Mesh → List (List Progress) → Machine
shown m threads = record { code = m.code; shelves = m.shelves; threads = threads; output = m.output }

abbrev pub runs : Fiber → Option ThreadNo → List ThreadNo → Runner
runs f asked kids = record { thread = f.thread; asked = asked; kids = kids; inside = f.inside }

-- ---- what an ask finds

abbrev pub is_gone : Option Spot → Bool
is_gone None = false
is_gone (Some (Gone v)) = true
is_gone (Some p) = false

abbrev pub spot_of : List (List Spot) → Option ThreadNo → Option Spot
spot_of spots None = None
spot_of spots (Some t) = item_in spots t

abbrev pub kid_gone : List (List Spot) → List (Option ThreadNo) → ℕ → Bool
kid_gone spots kids k = is_gone (option_and_then (spot_of spots) (slice_get kids k))

-- what a thread on processor q looks up: what the machine that is shown has, but threads by the spots where they stand
abbrev pub looks : Mesh → (q : ℕ) → Fiber → Looks Address
looks m q f = record (numbered.looks (shown m []) q (runs f None [])) {
  ended = kid_gone m.spots f.kids;
  threads = made_of m.spots q;
  threads_at = λ o. made_of m.spots (home_in o);
}

-- what a thread on processor q finds for its ask: it may go on, it waits, or it has a fault
abbrev pub verdict : Mesh → (q : ℕ) → Fiber → Ask Address → Verdict Address
verdict m q f ask = verdict_on_all m.code.shapes (looks m q f) (needs m.code.shapes ask)

-- ---- after a Reply

-- It made a thread elsewhere, whose number it never learns.
abbrev pub with_stranger : Fiber → Fiber
with_stranger f = record { thread = f.thread; kids = f.kids ++ None ∷ []; inside = f.inside }

abbrev pub strangers : Ask Address → List (Option ThreadNo)
strangers (Casts f o vs) = None ∷ []
strangers ask = []

abbrev pub answered_by : Fiber → Values → Move Address → Fiber
answered_by f vs (Silent c) = f
answered_by f vs (Does line ask k) = record {
  thread = (k (record { values = vs; made = [] })).left;
  kids = f.kids ++ strangers ask;
  inside = f.inside;
}
answered_by f vs (Ends v) = f
answered_by f vs Stuck = f

-- a thread at what it asked, after an answer with these values
abbrev pub answered : Code → Fiber → Values → Fiber
answered code f vs = answered_by f vs (move code f.thread)
