-- A turn of a processor: it serves its inbox, then runs ready threads, a slice each, until the quota is used up, nothing is left or a fault is met. It is
-- defined by ticks, each of which makes one move. And its silent moves alone.
use Rattle.std.specs.Prelude.{◌≡◌, ◌≤◌, ℕ, zero, suc, ◌+◌, ◌/◌, ◌%◌, ◌^◌, List, [], ◌∷◌, ◌++◌, length, take, drop, replicate, slice_get, Bool, true, false, Option, Some, None}
use Rattle.global_ptr.specs.declared.ends.FaultKind.{FaultKind}
use Rattle.cc_ops.specs.declared.number.ThreadNo.{ThreadNo}
use Rattle.rand_xoshiro.specs.SplitMix64.{mix_u64}
use Rattle.cc_code.specs.Code.{Code}
use Rattle.numbered_runs.specs.Machine.{Over}
use Rattle.numbered_runs.specs.Machine as numbered
use Rattle.numbered_runs.specs.Steps.{settle}
use Rattle.law_mesh.specs.Spots.{runs}
use Rattle.law_mesh.specs.Queues.{Message, Asks, Answers}
use Rattle.law_processors.specs.Processors.{Waiter, Own, Asked, Goes, Entry, Lives, Processor, Processors, with_processor, printing}
use Rattle.law_processors.specs.Alone.{Label, OwnStep, ServedStep, Did, Went, Failed, moved, served, serves}
use Rattle.law_processors.specs.Machine.{in_hand, at_back, without_ready, Run, Faults, one_or_none}

-- What the steps were, for a journal: so many of a thread in one slice; one that served a request; one that made a processor.
pub data Note : Type 0 where
  Ran : ThreadNo → (steps : ℕ) → Note
  Served : (q : ℕ) → Message → Note
  Made : Message → Note

pub data TurnEnd : Type 0 where
  Quota : TurnEnd
  Idle : TurnEnd
  Fault : FaultKind → (thread : ThreadNo) → TurnEnd

-- It serves the inbox; it picks a waiter; it runs the thread in the hand, with so many steps left of its slice and so many made in it; it leaves
-- a thread whose slice or quota is used up.
pub data Phase : Type 0 where
  Serving : Phase
  Picking : Phase
  Running : (slice made : ℕ) → Phase
  Leaving : (made : ℕ) → Phase
  Closed : TurnEnd → Phase

-- state: of the generator that draws places and slices
pub record Turning : Type 0 where
  pub proc : Processor
  pub prints : List ℕ
  pub notes : List Note
  pub quota : ℕ
  pub state : ℕ
  pub phase : Phase

-- ---- what is drawn

pub record Pick : Type 0 where
  pub place : ℕ
  pub slice : ℕ
  pub state : ℕ

abbrev pub drawn : ℕ × ℕ → (waiters : ℕ) → Pick
drawn d n = record { place = d.0 % n; slice = 1 + d.0 / 2 ^ 32 % 16; state = d.1 }

-- for the word 0 the oldest waiter and 16 steps
abbrev pub pick : (word state waiters : ℕ) → Pick
pick zero state n = record { place = 0; slice = 16; state = state }
pick (suc w) state n = drawn (mix_u64 state) n

-- ---- ticks

abbrev pub at_phase : Turning → Phase → Turning
at_phase s x = record s { phase = x }

abbrev pub ran : (q : ℕ) → Option ℕ → (made : ℕ) → List Note
ran q hand zero = []
ran q None (suc made) = []
ran q (Some n) (suc made) = Ran (record { processor = q; thread = n }) (suc made) ∷ []

abbrev pub end_of : List Waiter → List Message → TurnEnd
end_of [] [] = Idle
end_of _ _ = Quota

abbrev pub closes : Turning → Turning
closes s = at_phase s (Closed (end_of s.proc.ready s.proc.inbox))

-- after a move, in this phase and with so much of the quota left
abbrev pub went : Turning → Processor → (prints : List ℕ) → List Note → (quota : ℕ) → Phase → Turning
went s p prints notes quota x =
    record { proc = p; prints = s.prints ++ prints; notes = s.notes ++ notes; quota = quota; state = s.state; phase = x }

module _ (code : Code) (q word : ℕ) where
  -- a message was served, or a woken Get; the quota is one more than this
  abbrev pub after_serving : Turning → (quota : ℕ) → Message → Phase → Did Processor → Turning
  after_serving s quota message x (Went (Some l) prints p) = went s p prints (Served q message ∷ []) quota x
  after_serving s quota message x (Went None prints p) = went s p prints [] (suc quota) x
  after_serving s quota message x (Failed kind t) = at_phase s (Closed (Fault kind t))

  abbrev pub serves_on : Turning → (quota : ℕ) → List Message → Turning
  serves_on s (suc quota) (message ∷ rest) = after_serving s quota message Serving (served code q s.proc)
  serves_on s _ _ = at_phase s Picking

  abbrev pub without : List Waiter → ℕ → List Waiter
  without ws k = take k ws ++ drop (k + 1) ws

  abbrev pub takes : Turning → (quota : ℕ) → Pick → Option Waiter → Turning
  takes s quota k None = closes s
  takes s quota k (Some (Own n)) = went s (in_hand n (without s.proc.ready k.place) s.proc) [] [] (suc quota) (Running k.slice 0)
  takes s quota k (Some (Asked t post)) =
      after_serving s quota (Asks t post) Picking (serves code q t post (without_ready (without s.proc.ready k.place) s.proc) s.proc)

  abbrev pub with_state : Turning → ℕ → Turning
  with_state s state = record s { state = state }

  abbrev pub picked : Turning → (quota : ℕ) → Pick → Turning
  picked s quota k = takes (with_state s k.state) quota k (slice_get s.proc.ready k.place)

  abbrev pub picks : Turning → (quota : ℕ) → List Waiter → Turning
  picks s (suc quota) (w ∷ ws) = picked s quota (pick word s.state (length (w ∷ ws)))
  picks s _ _ = closes s

  -- a thread that is out of the hand waits, or has ended
  abbrev pub stays : (before : Turning) → Option ℕ → Processor → (prints : List ℕ) → (quota slice made : ℕ) → Turning
  stays s (Some n) p prints quota slice made = went s p prints [] quota (Running slice made)
  stays s None p prints quota slice made = went s p prints (ran q s.proc.hand made) quota Picking

  abbrev pub after_move : Turning → (quota slice made : ℕ) → Did Processor → Turning
  after_move s quota slice made (Went (Some l) prints p) = stays s p.hand p prints quota slice (suc made)
  after_move s quota slice made (Went None prints p) = stays s p.hand p prints (suc quota) (suc slice) made
  after_move s quota slice made (Failed kind t) = went s s.proc [] (ran q s.proc.hand made) (suc quota) (Closed (Fault kind t))

  abbrev pub runs_on : Turning → (quota slice made : ℕ) → Turning
  runs_on s (suc quota) (suc slice) made = after_move s quota slice made (moved code q s.proc)
  runs_on s _ _ made = at_phase s (Leaving made)

  -- whether silent moves alone lead a thread to its end
  abbrev pub is_over : numbered.Progress → Bool
  is_over (numbered.Goes r) = false
  is_over (Over v) = true

  abbrev pub ends_so : Option Entry → Bool
  ends_so (Some (Lives f Goes k)) = is_over (settle code (runs f None []))
  ends_so e = false

  abbrev pub ends_soon : Processor → Option ℕ → Bool
  ends_soon p None = false
  ends_soon p (Some n) = ends_so (slice_get p.table n)

  abbrev pub ended_or_not : Turning → Option ℕ → Processor → (prints : List ℕ) → (made : ℕ) → Turning
  ended_or_not s (Some n) p prints made = went s p prints [] s.quota (Leaving made)
  ended_or_not s None p prints made = went s p prints (ran q s.proc.hand made) s.quota Picking

  abbrev pub after_end : Turning → (made : ℕ) → Did Processor → Turning
  after_end s made (Went None prints p) = ended_or_not s p.hand p prints made
  after_end s made did = s

  abbrev pub put_back : Turning → (made : ℕ) → Option ℕ → Turning
  put_back s made None = at_phase s Picking
  put_back s made (Some n) = went s (at_back n s.proc) [] (ran q (Some n) made) s.quota Picking

  -- A thread whose slice or quota is used up makes the silent moves that lead to its end, or goes to the back.
  abbrev pub leaves : Turning → (made : ℕ) → Bool → Turning
  leaves s made true = after_end s made (moved code q s.proc)
  leaves s made false = put_back s made s.proc.hand

  abbrev pub tick_in : Turning → Phase → Turning
  tick_in s Serving = serves_on s s.quota s.proc.inbox
  tick_in s Picking = picks s s.quota s.proc.ready
  tick_in s (Running slice made) = runs_on s s.quota slice made
  tick_in s (Leaving made) = leaves s made (ends_soon s.proc s.proc.hand)
  tick_in s (Closed e) = s

  abbrev pub tick : Turning → Turning
  tick s = tick_in s s.phase

  abbrev pub ticks : ℕ → Turning → Turning
  ticks zero s = s
  ticks (suc n) s = tick (ticks n s)

-- A turn begins with the inbox, and its generator has the word as its state.
abbrev pub begin : Processor → (quota word : ℕ) → Turning
begin p quota word = record { proc = p; prints = []; notes = []; quota = quota; state = word; phase = Serving }

-- the turn of processor q, which is p, with this quota and word: the processor afterwards, what it printed, what its steps were, and how it ends
pub record TurnIs (code : Code) (q : ℕ) (p : Processor) (quota word : ℕ) (p' : Processor) (prints : List ℕ) (notes : List Note) (e : TurnEnd) : Type 0 where
  pub count : ℕ
  pub left : ℕ
  pub state : ℕ
  pub is : ticks code q word count (begin p quota word)
      ≡ record { proc = p'; prints = prints; notes = notes; quota = left; state = state; phase = Closed e }

-- ---- a message by itself, and silent moves alone

abbrev pub with_first : Message → Processor → Processor
with_first message p = record p { inbox = message ∷ p.inbox }

-- A message is served as if it stood first in the inbox.
abbrev pub serves_now : Code → (q : ℕ) → Message → Processor → Did Processor
serves_now code q message p = served code q (with_first message p)

-- ---- what a turn is of the machine

abbrev pub steps_in : Note → ℕ
steps_in (Ran t n) = n
steps_in (Served q message) = 1
steps_in (Made message) = 1

abbrev pub noted : List Note → ℕ
noted [] = 0
noted (x ∷ xs) = steps_in x + noted xs

-- how it ends
abbrev pub EndsSo : TurnEnd → (left : ℕ) → Processor → Processors → Type 0
EndsSo Idle left p m = (p.hand ≡ None) × (p.ready ≡ []) × (p.inbox ≡ [])
EndsSo Quota left p m = (p.hand ≡ None) × (left ≡ 0) × (end_of p.ready p.inbox ≡ Quota)
EndsSo (Fault kind t) left p m = (1 ≤ left) × Faults m kind t

-- the steps that are noted, one by one
abbrev pub labels_in : Note → List Label
labels_in (Ran t n) = replicate n (OwnStep t)
labels_in (Served q (Asks t post)) = ServedStep (Some q) t post ∷ []
labels_in (Served q (Answers t v)) = []
labels_in (Made (Asks t post)) = ServedStep None t post ∷ []
labels_in (Made (Answers t v)) = []

abbrev pub labelled : List Note → List Label
labelled [] = []
labelled (x ∷ xs) = labels_in x ++ labelled xs

-- The turn is a run of the machine, whose steps are those that are noted, and within the quota.
pub record TurnRuns (m : Processors) (q : ℕ) (quota : ℕ) (p : Processor) (prints : List ℕ) (notes : List Note) (e : TurnEnd) : Type 0 where
  pub steps : List Label
  pub left : ℕ
  pub run : Run m steps (printing prints (with_processor m q p))
  pub spent : length steps + left ≡ quota
  pub counted : noted notes ≡ length steps
  pub labels : labelled notes ≡ steps
  pub ended : EndsSo e left p (printing prints (with_processor m q p))

-- Serving a message is one move of the machine, or a fault of it.
abbrev pub ServesWell : Processors → ℕ → Did Processor → Type 0
ServesWell m q (Went step prints p) = Run m (one_or_none step) (printing prints (with_processor m q p))
ServesWell m q (Failed kind t) = Faults m kind t

-- Silent moves alone: a turn with the quota 1 and the word 0. The processor is still where that ends idle without a step; else a step or a fault is
-- found, and it is taken as it was.
pub data SettleIs (code : Code) (q : ℕ) (p : Processor) : Processor → (found : Bool) → Type 0 where
  Still : {p' : Processor} {prints : List ℕ} {notes : List Note} → TurnIs code q p 1 0 p' prints notes Idle → noted notes ≡ 0 → SettleIs code q p p' false
  FindsStep : {p' : Processor} {prints : List ℕ} {notes : List Note} {e : TurnEnd} {k : ℕ} → TurnIs code q p 1 0 p' prints notes e → noted notes ≡ suc k
      → SettleIs code q p p true
  FindsFault : {p' : Processor} {prints : List ℕ} {notes : List Note} {kind : FaultKind} {t : ThreadNo}
      → TurnIs code q p 1 0 p' prints notes (Fault kind t) → SettleIs code q p p true

-- a step or a fault comes after silent moves
pub data CanGo (m : Processors) : Type 0 where
  ByStep : (l : Label) (ls : List Label) (m' : Processors) → Run m (l ∷ ls) m' → CanGo m
  ByFault : (m' : Processors) (kind : FaultKind) (t : ThreadNo) → Run m [] m' → Faults m' kind t → CanGo m

-- It is still after silent moves alone, and nothing is left to serve or to run; or a step or a fault is found.
abbrev pub SettlesWell : Processors → ℕ → Processor → (found : Bool) → Type 0
SettlesWell m q p' true = CanGo m
SettlesWell m q p' false = (prints : List ℕ) × Run m [] (printing prints (with_processor m q p')) × (p'.hand ≡ None) × (p'.ready ≡ []) × (p'.inbox ≡ [])
