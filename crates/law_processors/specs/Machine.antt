-- The moves of the machine, by any processor and in any order: a processor takes up a thread, moves it, puts it back, or serves what has come; a message is
-- delivered; a new processor is made.
use Rattle.std.specs.Prelude.{◌≡◌, ℕ, List, [], ◌∷◌, ◌++◌, length, slice_get, Option, Some, None}
use Rattle.global_ptr.specs.declared.ends.FaultKind.{FaultKind}
use Rattle.cc_ops.specs.Values.{Value, Cell, Ptr}
use Rattle.cc_ops.specs.Classes.{construct}
use Rattle.cc_ops.specs.Machine.{Address, same_address}
use Rattle.cc_ops.specs.declared.number.ThreadNo.{ThreadNo}
use Rattle.cc_ops.specs.Shelves.{no_shelf, changed}
use Rattle.cc_core.specs.Core.{class_shape}
use Rattle.cc_core.specs.Asks.{NewProcessor}
use Rattle.cc_core.specs.Numbers.{Post, Make}
use Rattle.cc_core.specs.Needs.{Verdict, Go, Hold, Bad}
use Rattle.cc_core.specs.Effects.{constructed}
use Rattle.cc_code.specs.Code.{Move, Silent, Does, Ends, Stuck, move}
use Rattle.numbered_runs.specs.Changes.{with_new}
use Rattle.law_mesh.specs.Spots.{Mesh, verdict, item_in}
use Rattle.law_mesh.specs.Queues.{Message, Asks, Answers, target}
use Rattle.law_processors.specs.Processors.{Waiter, Own, Asked, Entry, Lives, Ended, Processor, Processors, with_processor, printing, shelves_of, tables_of}
use Rattle.law_processors.specs.Alone.{Label, ServedStep, Did, Went, Failed, unmoved, send, nobody, moved, served, serves}

-- ---- delivery

-- the processor that a message goes to; a Make goes to none of them
abbrev pub goes_to : Message → Option ℕ
goes_to (Asks t post) = target post
goes_to (Answers t v) = Some t.processor

abbrev pub receive : Message → Processor → Processor
receive message p = record p { inbox = p.inbox ++ message ∷ [] }

abbrev pub without_first : List Message → Processor → Processor
without_first rest p = record p { outbox = rest }

-- A message to a processor that there is not goes back to the outbox.
abbrev pub arrives : Processors → (from to : ℕ) → Message → Option Processor → Processors
arrives m q r message None = record { code = m.code; all = changed m.all q (send message); makes = m.makes; output = m.output }
arrives m q r message (Some p) = with_processor m r (receive message p)

abbrev pub goes_off : Processors → (from : ℕ) → Message → Option ℕ → Processors
goes_off m q message None = record { code = m.code; all = m.all; makes = m.makes ++ message ∷ []; output = m.output }
goes_off m q message (Some r) = arrives m q r message (slice_get m.all r)

-- a message of the outbox of processor q, which is p, without which these are left
abbrev pub delivered : Processors → (q : ℕ) → Processor → Message → (left : List Message) → Processors
delivered m q p message left = goes_off (with_processor m q (without_first left p)) q message (goes_to message)

-- ---- a new processor

-- the mesh, as far as a Make looks at it
abbrev pub seen_by_makes : Processors → Mesh
seen_by_makes m = record { code = m.code; shelves = shelves_of m.all; spots = []; holder = λ a. None; output = [] }

abbrev pub new_processor : List (Cell Address) → Processor
new_processor cells = record {
  shelf = with_new cells no_shelf;
  table = [];
  hand = None;
  ready = [];
  cells = λ o x. [];
  locks = λ o. None;
  inbox = [];
  outbox = [];
}

-- the pointer to its object
abbrev pub to_newest : Processors → Value Address
to_newest m = Ptr (record { processor = length m.all; object = 0 }) 0

abbrev pub made_for : ThreadNo → List (Cell Address) → (rest : List Message) → Processors → Processors
made_for t cells rest m = record {
  code = m.code;
  all = changed (m.all ++ new_processor cells ∷ []) t.processor (receive (Answers t (to_newest m)));
  makes = rest;
  output = m.output;
}

abbrev pub makes_so : ThreadNo → (class : ℕ) → List (Value Address) → (rest : List Message) → Processors → Verdict Address → Did Processors
makes_so t c vs rest m (Go found) =
    Went (Some (ServedStep None t (Make c vs))) [] (made_for t (constructed (construct same_address (class_shape m.code.shapes c) vs)) rest m)
makes_so t c vs rest m Hold = unmoved m
makes_so t c vs rest m (Bad kind) = Failed kind t

abbrev pub makes_first : List Message → Processors → Did Processors
makes_first (Asks t (Make c vs) ∷ rest) m = makes_so t c vs rest m (verdict (seen_by_makes m) 0 nobody (NewProcessor c vs))
makes_first messages m = unmoved m

-- the first of the Makes is served
abbrev pub made : Processors → Did Processors
made m = makes_first m.makes m

-- ---- moves

-- none of these goes where this message goes
abbrev pub NoneAlike : List Message → Message → Type 0
NoneAlike [] message = Unit {0}
NoneAlike (x ∷ xs) message = (goes_to x ≡ goes_to message → ⊥) × NoneAlike xs message

abbrev pub in_hand : (n : ℕ) → List Waiter → Processor → Processor
in_hand n left p = record p { hand = Some n; ready = left }

abbrev pub at_back : (n : ℕ) → Processor → Processor
at_back n p = record p { hand = None; ready = p.ready ++ Own n ∷ [] }

abbrev pub without_ready : List Waiter → Processor → Processor
without_ready left p = record p { ready = left }

pub data Moves (m : Processors) : (step : Option Label) → Processors → Type 0 where
  -- a ready thread is taken in the hand; it goes to the back of the ready list
  TakesUp : (q : ℕ) (p : Processor) (front : List Waiter) (n : ℕ) (back : List Waiter) → slice_get m.all q ≡ Some p → p.hand ≡ None
      → p.ready ≡ front ++ Own n ∷ back → Moves m None (with_processor m q (in_hand n (front ++ back) p))
  PutsBack : (q : ℕ) (p : Processor) (n : ℕ) → slice_get m.all q ≡ Some p → p.hand ≡ Some n → Moves m None (with_processor m q (at_back n p))
  -- the thread in the hand moves
  MovesOn : (q : ℕ) (p : Processor) (n : ℕ) (step : Option Label) (prints : List ℕ) (p' : Processor) → slice_get m.all q ≡ Some p → p.hand ≡ Some n
      → moved m.code q p ≡ Went step prints p' → Moves m step (printing prints (with_processor m q p'))
  -- the first of the inbox is served; a Get is that was woken; the first Make
  ServesFirst : (q : ℕ) (p : Processor) (message : Message) (rest : List Message) (step : Option Label) (prints : List ℕ) (p' : Processor)
      → slice_get m.all q ≡ Some p → p.inbox ≡ message ∷ rest → served m.code q p ≡ Went step prints p' → Moves m step (printing prints (with_processor m q p'))
  ServesWoken : (q : ℕ) (p : Processor) (front : List Waiter) (t : ThreadNo) (post : Post) (back : List Waiter) (step : Option Label) (prints : List ℕ)
      (p' : Processor) → slice_get m.all q ≡ Some p → p.ready ≡ front ++ Asked t post ∷ back
      → serves m.code q t post (without_ready (front ++ back) p) p ≡ Went step prints p' → Moves m step (printing prints (with_processor m q p'))
  Makes : (message : Message) (rest : List Message) (step : Option Label) (prints : List ℕ) (m' : Processors) → m.makes ≡ message ∷ rest → made m ≡ Went step prints m' → Moves m step (printing prints m')
  -- a message of an outbox, before which none to the same target stands there
  Delivers : (q : ℕ) (p : Processor) (front : List Message) (message : Message) (back : List Message) → slice_get m.all q ≡ Some p
      → p.outbox ≡ front ++ message ∷ back → NoneAlike front message → Moves m None (delivered m q p message (front ++ back))

-- the next move of a thread, or the serving of what it asked, is a fault
pub data Faults (m : Processors) (kind : FaultKind) (t : ThreadNo) : Type 0 where
  MovesBadly : (q : ℕ) (p : Processor) → slice_get m.all q ≡ Some p → moved m.code q p ≡ Failed kind t → Faults m kind t
  ServesBadly : (q : ℕ) (p : Processor) → slice_get m.all q ≡ Some p → served m.code q p ≡ Failed kind t → Faults m kind t
  WakesBadly : (q : ℕ) (p : Processor) (front : List Waiter) (u : ThreadNo) (post : Post) (back : List Waiter) → slice_get m.all q ≡ Some p
      → p.ready ≡ front ++ Asked u post ∷ back → serves m.code q u post (without_ready (front ++ back) p) p ≡ Failed kind t → Faults m kind t
  MakesBadly : made m ≡ Failed kind t → Faults m kind t

-- the line of the statement at which a thread stands
abbrev pub line_of_move : Move Address → ℕ
line_of_move (Silent c) = 0
line_of_move (Does line ask k) = line
line_of_move (Ends v) = 0
line_of_move Stuck = 0

abbrev pub line_of_entry : Processors → Option Entry → ℕ
line_of_entry m None = 0
line_of_entry m (Some (Lives f s k)) = line_of_move (move m.code f.thread)
line_of_entry m (Some (Ended v)) = 0

abbrev pub line_of : Processors → ThreadNo → ℕ
line_of m t = line_of_entry m (item_in (tables_of m.all) t)

abbrev pub one_or_none : Option Label → List Label
one_or_none None = []
one_or_none (Some l) = l ∷ []

-- moves one after another, with these steps
pub data Run (m : Processors) : (steps : List Label) → Processors → Type 0 where
  Stays : Run m [] m
  Then : {a : List Label} {step : Option Label} {m1 m2 : Processors} → Run m a m1 → Moves m1 step m2 → Run m (a ++ one_or_none step) m2

-- The machine has no further move.
pub record IsStuck (m : Processors) : Type 0 where
  pub moves : (step : Option Label) (m' : Processors) → Moves m step m' → ⊥
  pub faults : (kind : FaultKind) (t : ThreadNo) → Faults m kind t → ⊥
