-- What one processor does by itself: the thread in its hand makes a move; a message is served.
use Rattle.std.specs.Prelude.{ℕ, zero, suc, List, [], ◌∷◌, ◌++◌, length, map, slice_get, Bool, true, false, ◌&&◌, not, nat_eq, if◌then◌else◌, Option, Some, None}
use Rattle.std.specs.Prelude.{is_some}
use Rattle.std.specs.Option.{option_map_or}
use Rattle.global_ptr.specs.declared.ends.FaultKind.{FaultKind}
use Rattle.global_ptr.specs.declared.ends.FaultKind.TheVariants.{NullPointer}
use Rattle.cc_ops.specs.Values.{Cell, Value, Void, Int, Null, Ptr, first}
use Rattle.cc_ops.specs.Machine.{Address, Values}
use Rattle.cc_ops.specs.declared.number.ThreadNo.{ThreadNo}
use Rattle.cc_ops.specs.Shelves.{Thing, Shelf, no_shelf, changed}
use Rattle.cc_core.specs.Core.{Shapes, function_shape}
use Rattle.cc_core.specs.Asks.{Ask, Answer}
use Rattle.cc_core.specs.Asks.{Reads, Writes, Copies, Makes, MakesWith, Builds, Enters, Leaves}
use Rattle.cc_core.specs.Asks.{ForksAll, ForksOne, Spawns, Calls, Casts, NewProcessor}
use Rattle.cc_core.specs.Asks as asks
use Rattle.cc_core.specs.Numbers.{Post, Get, Put, Call, Cast, Make}
use Rattle.cc_core.specs.Needs.{Verdict, Go, Hold, Bad}
use Rattle.cc_core.specs.Effects.{is_call}
use Rattle.cc_code.specs.Code.{Code, Thread, Then, Move, Silent, Does, Ends, Stuck, Finished, Starting, move}
use Rattle.numbered_runs.specs.Machine.{Over}
use Rattle.numbered_runs.specs.Machine as numbered
use Rattle.numbered_runs.specs.Effects.{Effect}
use Rattle.numbered_runs.specs.Posts.{posted}
use Rattle.numbered_runs.specs.Steps.{settle}
use Rattle.law_mesh.specs.Spots.{Fiber, Spot, Active, Gone, Mesh, runs, verdict, answered}
use Rattle.law_mesh.specs.Moves.{new_fiber, effect_of, with_value}
use Rattle.law_processors.specs.Living.{one_lives, joins_of}
use Rattle.law_mesh.specs.Local.{Place, place_after, gone_on_here, new_here, write_on}
use Rattle.law_mesh.specs.Queues.{Message, Asks, Answers, taken_values, holds, holds_none}
use Rattle.law_processors.specs.Processors.{Waiter, Own, Asked, Stage, Goes, Joins, Asking, Has, Entry, Lives, Ended, Locked, Processor}

-- ---- changes of a processor

abbrev pub put_entry : ℕ → Entry → Processor → Processor
put_entry n e p = record p { table = changed p.table n (λ o. e) }

abbrev pub put_hand : Option ℕ → Processor → Processor
put_hand h p = record p { hand = h }

abbrev pub put_shelf : Shelf → Processor → Processor
put_shelf s p = record p { shelf = s }

-- to the back of the ready list
abbrev pub be_ready : Waiter → Processor → Processor
be_ready w p = record p { ready = p.ready ++ w ∷ [] }

abbrev pub send : Message → Processor → Processor
send message p = record p { outbox = p.outbox ++ message ∷ [] }

abbrev pub put_waiters : (object x : ℕ) → List Waiter → ((object x : ℕ) → List Waiter) → (object x : ℕ) → List Waiter
put_waiters o x ws cells b y = if nat_eq b o && nat_eq y x then ws else cells b y

-- to the back of the list of a cell
abbrev pub park : (object x : ℕ) → Waiter → Processor → Processor
park o x w p = record p { cells = put_waiters o x (p.cells o x ++ w ∷ []) p.cells }

-- all that wait for a cell go to the back of the ready list
abbrev pub wake : (object x : ℕ) → Processor → Processor
wake o x p = record p { ready = p.ready ++ p.cells o x; cells = put_waiters o x [] p.cells }

abbrev pub wake_at : Value Address → Processor → Processor
wake_at Void p = p
wake_at (Int n) p = p
wake_at Null p = p
wake_at (Ptr a x) p = wake a.object x p

abbrev pub wake_written : List (Value Address × Value Address) → Processor → Processor
wake_written [] p = p
wake_written (e ∷ es) p = wake_written es (wake_at e.0 p)

abbrev pub put_lock : (object : ℕ) → Option Locked → Processor → Processor
put_lock o l p = record p { locks = λ b. if nat_eq b o then l else p.locks b }

-- A thread that is made goes to the back of the ready list.
abbrev pub make_thread : Thread Address → (caller : Option ThreadNo) → Processor → Processor
make_thread c caller p = record p {
  table = p.table ++ Lives (new_fiber c) Goes caller ∷ [];
  ready = p.ready ++ Own (length p.table) ∷ [];
}

abbrev pub make_threads : List (Thread Address) → Processor → Processor
make_threads [] p = p
make_threads (c ∷ cs) p = make_threads cs (make_thread c None p)

-- ---- what an ask finds here

-- a list of which this alone is known, at the place q
abbrev pub alone_at : {X : Type 0} → (q : ℕ) → (none x : X) → List X
alone_at zero none x = x ∷ []
alone_at (suc q) none x = none ∷ alone_at q none x

abbrev pub seen_entry : Entry → Spot
seen_entry (Lives f s k) = Active f
seen_entry (Ended v) = Gone v

-- the mesh, as far as processor q knows it
abbrev pub seen : Code → (q : ℕ) → Processor → Mesh
seen code q p = record {
  code = code;
  shelves = alone_at q no_shelf p.shelf;
  spots = alone_at q [] (map seen_entry p.table);
  holder = λ a. None;
  output = [];
}

-- the cells of an object, and whether a thread has ended, as a processor finds them
abbrev pub cells_on : Shelf → (object : ℕ) → List (Cell Address)
cells_on s o = option_map_or (λ (t : Thing). t.cells) (slice_get s.things o) []

abbrev pub has_ended_on : Option Entry → Bool
has_ended_on None = false
has_ended_on (Some (Lives f s k)) = false
has_ended_on (Some (Ended v)) = true

-- ---- what a move is

-- a step: a thread's own; one that serves what a thread asked, on a processor, or as a Make on none
pub data Label : Type 0 where
  OwnStep : (thread : ThreadNo) → Label
  ServedStep : (at : Option ℕ) → (asker : ThreadNo) → Post → Label

-- what is there afterwards, and which step it was, if it was one; or a fault of this thread
pub data Did (A : Type 0) : Type 0 where
  Went : (step : Option Label) → (prints : List ℕ) → A → Did A
  Failed : FaultKind → (thread : ThreadNo) → Did A

module _ {A : Type 0} where
  abbrev pub silently : A → Did A
  silently p = Went None [] p

  -- Code that no layout gives may ask for what a processor cannot do, as a read of an object that is elsewhere. Then nothing changes, for ever.
  abbrev pub unmoved : A → Did A
  unmoved p = Went None [] p

-- ---- tests

abbrev pub is_on : (q : ℕ) → Value Address → Bool
is_on q Void = true
is_on q (Int n) = true
is_on q Null = true
is_on q (Ptr a x) = nat_eq a.processor q

abbrev pub all_on : (q : ℕ) → List (ℕ × Value Address) → Bool
all_on q [] = true
all_on q (e ∷ es) = is_on q e.1 && all_on q es

abbrev pub kid_on : (q : ℕ) → Option ThreadNo → Bool
kid_on q None = true
kid_on q (Some t) = nat_eq t.processor q

abbrev pub kids_on : (q : ℕ) → List (Option ThreadNo) → Bool
kids_on q [] = true
kids_on q (kid ∷ kids) = kid_on q kid && kids_on q kids

-- what a thread asks of its own processor alone
abbrev pub asks_here : (q : ℕ) → Fiber → Ask Address → Bool
asks_here q f (Reads remote a) = is_on q a
asks_here q f (Writes remote a v) = is_on q a
asks_here q f (Copies a n) = is_on q a
asks_here q f (Enters g o vs) = is_on q o
asks_here q f (ForksOne v) = is_on q v
asks_here q f (asks.Joins made) = kids_on q f.kids
asks_here q f (Calls g o vs) = false
asks_here q f (Casts g o vs) = false
asks_here q f (NewProcessor c vs) = false
asks_here q f ask = true

abbrev pub is_null : Value Address → Bool
is_null Void = false
is_null (Int n) = true
is_null Null = true
is_null (Ptr a x) = false

-- a request through a null pointer
abbrev pub asks_null : Ask Address → Bool
asks_null (Calls g o vs) = is_null o
asks_null (Casts g o vs) = is_null o
asks_null ask = false

abbrev pub is_remote : Ask Address → Bool
is_remote (Reads remote a) = remote
is_remote (Writes remote a v) = remote
is_remote ask = false

-- a thread that ends by silent moves is inside no atomic function
abbrev pub ends_free : Code → Fiber → numbered.Progress → Bool
ends_free code f (numbered.Goes r) = true
ends_free code f (Over v) = holds_none code.shapes f.inside

-- ---- objects that are held

-- the object of an atomic call
abbrev pub goes_into : Shapes → Ask Address → Option Address
goes_into h (Enters g (Ptr a x) vs) = if (function_shape h g).atomic then Some a else None
goes_into h ask = None

-- it is there
abbrev pub has_object : Processor → Option Address → Bool
has_object p None = true
has_object p (Some a) = is_some (slice_get p.shelf.things a.object)

-- whether another thread holds it
abbrev pub is_taken : Processor → (n : ℕ) → Option Address → Bool
is_taken p n None = false
is_taken p n (Some a) = option_map_or (λ (l : Locked). not (nat_eq l.holder n)) (p.locks a.object) false

abbrev pub held_by : (n : ℕ) → Option Locked → Option Locked
held_by n None = Some (record { holder = n; waiters = [] })
held_by n (Some l) = Some l

abbrev pub take_lock : (n : ℕ) → Option Address → Processor → Processor
take_lock n None p = p
take_lock n (Some a) p = put_lock a.object (held_by n (p.locks a.object)) p

-- An object that is left goes to the first that waits for it, who goes to the back of the ready list.
abbrev pub hand_on : (object : ℕ) → List ℕ → Processor → Processor
hand_on o [] p = put_lock o None p
hand_on o (i ∷ is) p = be_ready (Own i) (put_lock o (Some (record { holder = i; waiters = is })) p)

abbrev pub leave_lock : (object : ℕ) → Option Locked → Processor → Processor
leave_lock o None p = p
leave_lock o (Some l) p = hand_on o l.waiters p

abbrev pub leave_object : Bool → Value Address → Processor → Processor
leave_object false o p = p
leave_object true Void p = p
leave_object true (Int n) p = p
leave_object true Null p = p
leave_object true (Ptr a x) p = leave_lock a.object (p.locks a.object) p

-- after a return, by what the thread was inside
abbrev pub leave_innermost : Shapes → List (ℕ × Value Address) → Processor → Processor
leave_innermost h [] p = p
leave_innermost h (e ∷ es) p = leave_object (holds h e.0 e.1) e.1 p

abbrev pub after_leaving : Shapes → Fiber → Ask Address → Processor → Processor
after_leaving h f Leaves p = leave_innermost h f.inside p
after_leaving h f ask p = p

-- ---- waiting

abbrev pub wait_for_lock : (n object : ℕ) → Option Locked → Processor → Processor
wait_for_lock n o None p = p
wait_for_lock n o (Some l) p = put_hand None (put_lock o (Some (record { holder = l.holder; waiters = l.waiters ++ n ∷ [] })) p)

abbrev pub enters_later : (n : ℕ) → Option Address → Processor → Processor
enters_later n None p = p
enters_later n (Some a) p = wait_for_lock n a.object (p.locks a.object) p

abbrev pub joins_later : (q n : ℕ) → Fiber → Option ThreadNo → List ℕ → Processor → Processor
joins_later q n f caller made p =
    if one_lives (alone_at q [] (map seen_entry p.table)) f.kids made then put_hand None (put_entry n (Lives f Joins caller) p) else p

-- what the thread in the hand must wait for
abbrev pub waits : Code → (q n : ℕ) → Fiber → Option ThreadNo → Ask Address → Processor → Processor
waits code q n f caller (Reads remote (Ptr a x)) p = put_hand None (park a.object x (Own n) p)
waits code q n f caller (asks.Joins made) p = joins_later q n f caller made p
waits code q n f caller ask p = enters_later n (goes_into code.shapes ask) p

-- ---- the end of a thread

abbrev pub rejoins : Code → (q n : ℕ) → Option Entry → Processor → Processor
rejoins code q n None p = p
rejoins code q n (Some (Lives f Joins caller)) p =
    if one_lives (alone_at q [] (map seen_entry p.table)) f.kids (joins_of (move code f.thread)) then p
    else be_ready (Own n) (put_entry n (Lives f Goes caller) p)
rejoins code q n (Some e) p = p

-- of the first k threads those that wait for branches, of which the last has ended, go to the back of the ready list
abbrev pub rejoined : Code → (q k : ℕ) → Processor → Processor
rejoined code q zero p = p
rejoined code q (suc k) p = let r = rejoined code q k p in rejoins code q k (slice_get r.table k) r

abbrev pub tell : (q n : ℕ) → Option ThreadNo → Value Address → Processor → Processor
tell q n None v p = p
tell q n (Some t) v p = send (Answers t v) p

abbrev pub ended : Code → (q n : ℕ) → Option ThreadNo → Value Address → Processor → Processor
ended code q n caller v p = rejoined code q (length p.table) (tell q n caller v (put_hand None (put_entry n (Ended v) p)))

-- ---- the thread in the hand

-- thread n of processor q, which is f, at what it asks
module _ (code : Code) (q n : ℕ) (f : Fiber) (caller : Option ThreadNo) (ask : Ask Address) (k : Answer Address → Then Address) (p : Processor) where
  abbrev pub here : Place
  here = record { shelf = p.shelf; spots = map seen_entry p.table }

  abbrev pub effect_here : Values → Effect
  effect_here found = effect_of (seen code q p) q f ask found

  abbrev pub on_here : Values → Fiber
  on_here found = gone_on_here code q n here f ask k found (effect_here found)

  abbrev pub stepped_here : Values → Processor
  stepped_here found =
      let e = effect_here found in
      let stands = put_entry n (Lives (on_here found) Goes caller)
      (make_threads (new_here code q n here f ask k found e) (put_shelf (place_after code q n here f ask k found e).shelf p)) in
      after_leaving code.shapes f ask (take_lock n (goes_into code.shapes ask) (wake_written e.writes stands))

  abbrev pub may_step : Values → Bool
  may_step found =
      not (is_remote ask) && (all_on q f.inside && (ends_free code (on_here found) (settle code (runs (on_here found) None [])) && has_object p (goes_into code.shapes ask)))

  abbrev pub decided : Verdict Address → Did Processor
  decided (Go found) = if may_step found then Went (Some (OwnStep (record { processor = q; thread = n }))) (effect_here found).prints (stepped_here found) else unmoved p
  decided Hold = silently (waits code q n f caller ask p)
  decided (Bad kind) = Failed kind (record { processor = q; thread = n })

  abbrev pub asks_itself : Did Processor
  asks_itself =
      if is_taken p n (goes_into code.shapes ask) then silently (enters_later n (goes_into code.shapes ask) p)
      else decided (verdict (seen code q p) q f ask)

  abbrev pub asks_by : Option Post → Did Processor
  asks_by None =
      if asks_null ask then Failed NullPointer (record { processor = q; thread = n })
      else (if asks_here q f ask then asks_itself else unmoved p)
  asks_by (Some post) =
      if holds_none code.shapes f.inside
      then silently (send (Asks (record { processor = q; thread = n }) post) (put_hand None (put_entry n (Lives f Asking caller) p)))
      else unmoved p

abbrev pub moves_by : Code → (q n : ℕ) → Fiber → Option ThreadNo → Move Address → Processor → Did Processor
moves_by code q n f caller (Silent c) p = silently (put_entry n (Lives (record { thread = c; kids = f.kids; inside = f.inside }) Goes caller) p)
moves_by code q n f caller (Does line ask k) p = asks_by code q n f caller ask k p (posted ask)
moves_by code q n f caller (Ends v) p = silently (ended code q n caller v p)
moves_by code q n f caller Stuck p = unmoved p

abbrev pub entry_moves : Code → (q n : ℕ) → Option Entry → Processor → Did Processor
entry_moves code q n (Some (Lives f Goes caller)) p = moves_by code q n f caller (move code f.thread) p
entry_moves code q n (Some (Lives f (Has v) caller)) p =
    Went (Some (OwnStep (record { processor = q; thread = n }))) [] (put_entry n (Lives (with_value code f v) Goes caller) p)
entry_moves code q n e p = unmoved p

abbrev pub hand_moves : Code → (q : ℕ) → Option ℕ → Processor → Did Processor
hand_moves code q None p = unmoved p
hand_moves code q (Some n) p = entry_moves code q n (slice_get p.table n) p

-- the next move of the thread in the hand of processor q
abbrev pub moved : Code → (q : ℕ) → Processor → Did Processor
moved code q p = hand_moves code q p.hand p

-- ---- messages

abbrev pub ask_of : Post → Ask Address
ask_of (Get a) = Reads true a
ask_of (Put a v) = Writes true a v
ask_of (Call f o vs) = Calls f o vs
ask_of (Cast f o vs) = Casts f o vs
ask_of (Make c vs) = NewProcessor c vs

-- What is asked by a request is found without the thread that asks.
abbrev pub nobody : Fiber
nobody = record { thread = Finished Void; kids = []; inside = [] }

-- A Get of an undefined cell waits for it. No other request waits.
abbrev pub park_get : ThreadNo → Post → (after before : Processor) → Processor
park_get t (Get (Ptr a x)) after before = park a.object x (Asked t (Get (Ptr a x))) after
park_get t post after before = before

abbrev pub answer : ThreadNo → Post → Values → Processor → Processor
answer t (Get a) found p = send (Answers t (first found)) p
answer t (Put a v) found p = send (Answers t Void) (wake_at a (put_shelf (write_on p.shelf a v) p))
answer t (Call f o vs) found p = make_thread (Starting f o vs) (Some t) p
answer t (Cast f o vs) found p = send (Answers t Void) (make_thread (Starting f o vs) None p)
answer t (Make c vs) found p = p

abbrev pub served_so : (q : ℕ) → ThreadNo → Post → Verdict Address → (after before : Processor) → Did Processor
served_so q t post (Go found) after before = Went (Some (ServedStep (Some q) t post)) [] (answer t post found after)
served_so q t post Hold after before = silently (park_get t post after before)
served_so q t post (Bad kind) after before = Failed kind t

-- what thread t asks of processor q; before: with the request in its list
abbrev pub serves : Code → (q : ℕ) → ThreadNo → Post → (after before : Processor) → Did Processor
serves code q t post after before = served_so q t post (verdict (seen code q after) q nobody (ask_of post)) after before

-- a Reply has come to a thread
abbrev pub taken_by : Code → Fiber → Value Address → Move Address → (Stage × Fiber)
taken_by code f v (Does line ask k) = if is_call ask then (Has v, f) else (Goes, answered code f (taken_values code ask v))
taken_by code f v mv = (Goes, f)

abbrev pub told : Code → (n : ℕ) → Value Address → Option Entry → Processor → Processor → Did Processor
told code n v (Some (Lives f Asking caller)) p before =
    let e = taken_by code f v (move code f.thread) in silently (be_ready (Own n) (put_entry n (Lives e.1 e.0 caller) p))
told code n v e p before = unmoved before

abbrev pub serves_message : Code → (q : ℕ) → Message → (after before : Processor) → Did Processor
serves_message code q (Asks t post) after before = serves code q t post after before
serves_message code q (Answers t v) after before = told code t.thread v (slice_get after.table t.thread) after before

abbrev pub serves_inbox : Code → (q : ℕ) → List Message → Processor → Did Processor
serves_inbox code q [] p = unmoved p
serves_inbox code q (message ∷ rest) p = serves_message code q message (record p { inbox = rest }) p

-- the first of the inbox is served
abbrev pub served : Code → (q : ℕ) → Processor → Did Processor
served code q p = serves_inbox code q p.inbox p
