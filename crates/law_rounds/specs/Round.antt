-- A round: the turns of busy processors one after another, delivery, and new processors. A run: rounds, and at the limit what silent moves and delivery
-- alone still do.
use Rattle.std.specs.Prelude.{◌≡◌, ◌≤◌, ℤ, ℕ, zero, suc, ◌+◌, ◌-◌, ◌/◌, List, [], ◌∷◌, ◌++◌, length, map, min, max, slice_get, Bool, true, false, Option, Some, None}
use Rattle.std.specs.List.{AllByRecursion}
use Rattle.std.specs.Option.{option_map_or}
use Rattle.global_ptr.specs.declared.ends.FaultKind.{FaultKind}
use Rattle.global_ptr.specs.declared.ends.Standing.{Standing}
use Rattle.global_ptr.specs.declared.ends.Standing.TheVariants as standing
use Rattle.rand_xoshiro.specs.SplitMix64.{mix_u64}
use Rattle.cc_ops.specs.Values.{Int}
use Rattle.cc_ops.specs.declared.number.ThreadNo.{ThreadNo}
use Rattle.cc_core.specs.Core.{Program}
use Rattle.cc_core.specs.Config.{Config}
use Rattle.cc_core.specs.Names.{Name}
use Rattle.cc_core.specs.Numbers.{Numbers, first_numbers}
use Rattle.cc_core.specs.Steps as core
use Rattle.cc_core.specs.Steps.{RunsTo}
use Rattle.numbered_runs.specs.Alike.{main_thread}
use Rattle.numbered_runs.specs.Stands.{IsThread}
use Rattle.law_mesh.specs.Source.{Leads}
use Rattle.law_mesh.specs.Spots.{item_in}
use Rattle.law_mesh.specs.Queues.{Message}
use Rattle.law_processors.specs.Processors.{Ended, Processor, Processors, with_processor, printing, tables_of}
use Rattle.law_processors.specs.Alone.{Label, Did, Went, Failed}
use Rattle.law_processors.specs.Follow.{step_of, IsPlaced}
use Rattle.law_processors.specs.Machine.{delivered, made, line_of, Run, Faults}
use Rattle.law_rounds.specs.Turn.{Note, Made, TurnEnd, Quota, Idle, Fault, TurnIs, CanGo, noted, labelled}
use Rattle.law_processors.specs.Busy.{busy, busy_count, mail_count, all_living_in, AllFree}
use Rattle.law_processors.specs.Whole.{first_processors}

-- ---- whose turn it is

-- a turn that is due, with its word
pub record Due : Type 0 where
  pub place : ℕ
  pub word : ℕ

abbrev pub due_first : Bool → ℕ → List ℕ → ℕ → (ℕ → List ℕ → List Due) → List Due
due_first true (suc k) (w ∷ ws) i later = record { place = i; word = w } ∷ later k ws
due_first _ k ws i later = later k ws

-- of the processors from the place i on the first busy ones, so many at most, each with a word
abbrev pub due : List Processor → ℕ → List ℕ → ℕ → List Due
due [] k ws i = []
due (p ∷ ps) k ws i = due_first (busy p) k ws i (λ k' ws'. due ps k' ws' (i + 1))

abbrev pub quota_of : (left busy : ℕ) → ℕ
quota_of left b = min 64 (max 1 (left / b))

-- ---- turns

pub record TurnOf (m : Processors) (quota : ℕ) (d : Due) (m' : Processors) (notes : List Note) (e : TurnEnd) : Type 0 where
  pub before : Processor
  pub there : slice_get m.all d.place ≡ Some before
  pub after : Processor
  pub prints : List ℕ
  pub turn : TurnIs m.code d.place before quota d.word after prints notes e
  pub is : m' ≡ printing prints (with_processor m d.place after)

abbrev pub NoFault : TurnEnd → Type 0
NoFault Idle = Unit {0}
NoFault Quota = Unit {0}
NoFault (Fault kind t) = ⊥

-- one after another, up to the first that meets a fault
pub data Turns (quota : ℕ) : List Due → (m m' : Processors) → List Note → Option (FaultKind × ThreadNo) → Type 0 where
  AllTaken : {m : Processors} → Turns quota [] m m [] None
  MeetsFault : {d : Due} {ds : List Due} {m m' : Processors} {notes : List Note} {kind : FaultKind} {t : ThreadNo}
      → TurnOf m quota d m' notes (Fault kind t) → Turns quota (d ∷ ds) m m' notes (Some (kind, t))
  TakesTurn : {d : Due} {ds : List Due} {m m1 m' : Processors} {notes more : List Note} {e : TurnEnd} {fault : Option (FaultKind × ThreadNo)}
      → TurnOf m quota d m1 notes e → NoFault e → Turns quota ds m1 m' more fault → Turns quota (d ∷ ds) m m' (notes ++ more) fault

-- ---- turns at once

-- what the turn of a processor did, from where the round began
pub record Part : Type 0 where
  pub due : Due
  pub before : Processor
  pub after : Processor
  pub prints : List ℕ
  pub notes : List Note
  pub end : TurnEnd

abbrev pub IsPart : (quota : ℕ) → Processors → Part → Type 0
IsPart quota m x =
    (slice_get m.all x.due.place ≡ Some x.before) × TurnIs m.code x.due.place x.before quota x.due.word x.after x.prints x.notes x.end

abbrev pub AreParts : (quota : ℕ) → Processors → List Part → Type 0
AreParts quota m [] = Unit {0}
AreParts quota m (x ∷ xs) = IsPart quota m x × AreParts quota m xs

abbrev pub dues : List Part → List Due
dues [] = []
dues (x ∷ xs) = x.due ∷ dues xs

-- the places rise, and are this at least
abbrev pub Rise : (least : ℕ) → List Due → Type 0
Rise least [] = Unit {0}
Rise least (d ∷ ds) = (least ≤ d.place) × Rise (suc d.place) ds

pub record Joined : Type 0 where
  pub mesh : Processors
  pub notes : List Note
  pub fault : Option (FaultKind × ThreadNo)

abbrev pub with_part : Processors → Part → Processors
with_part m x = printing x.prints (with_processor m x.due.place x.after)

abbrev pub joined_if : Processors → Part → TurnEnd → (Processors → Joined) → Joined
joined_if m x (Fault kind t) later = record { mesh = with_part m x; notes = x.notes; fault = Some (kind, t) }
joined_if m x e later = let j = later (with_part m x) in record { mesh = j.mesh; notes = x.notes ++ j.notes; fault = j.fault }

-- put together one after another, up to the first fault
abbrev pub joined : Processors → List Part → Joined
joined m [] = record { mesh = m; notes = []; fault = None }
joined m (x ∷ xs) = joined_if m x x.end (λ m'. joined m' xs)

-- ---- delivery

abbrev pub deliver_of : Processors → (q : ℕ) → Processor → List Message → Processors
deliver_of m q p [] = m
deliver_of m q p (message ∷ rest) = delivered m q p message rest

abbrev pub deliver_from : Processors → (q : ℕ) → Option Processor → Processors
deliver_from m q None = m
deliver_from m q (Some p) = deliver_of m q p p.outbox

-- the first of the outbox of processor q
abbrev pub deliver_one : (q : ℕ) → Processors → Processors
deliver_one q m = deliver_from m q (slice_get m.all q)

abbrev pub deliver_times : (q k : ℕ) → Processors → Processors
deliver_times q zero m = m
deliver_times q (suc k) m = deliver_one q (deliver_times q k m)

-- as many as are there
abbrev pub deliver_all_of : (q : ℕ) → Processors → Processors
deliver_all_of q m = deliver_times q (option_map_or (λ (p : Processor). length p.outbox) (slice_get m.all q) 0) m

-- by rising processor
abbrev pub deliver_below : ℕ → Processors → Processors
deliver_below zero m = m
deliver_below (suc q) m = deliver_all_of q (deliver_below q m)

abbrev pub deliver_all : Processors → Processors
deliver_all m = deliver_below (length m.all) m

-- ---- Makes, and how a round ends

pub data RoundEnd : Type 0 where
  Unfinished : (left : ℕ) → RoundEnd
  Rest : RoundEnd
  Faulted : FaultKind → (thread : ThreadNo) → RoundEnd

pub record RoundDone : Type 0 where
  pub mesh : Processors
  pub notes : List Note
  pub end : RoundEnd

abbrev pub rest_or : ℕ → (busy : ℕ) → List Message → RoundEnd
rest_or left zero [] = Rest
rest_or left _ _ = Unfinished left

abbrev pub noting : List Note → RoundDone → RoundDone
noting notes r = record { mesh = r.mesh; notes = notes ++ r.notes; end = r.end }

abbrev pub note_of : List Message → List Note
note_of [] = []
note_of (message ∷ rest) = Made message ∷ []

abbrev pub after_make : Processors → (left : ℕ) → Did Processors → (Processors → RoundDone) → RoundDone
after_make m left (Went (Some l) prints m') later = noting (note_of m.makes) (later (printing prints m'))
after_make m left (Went None prints m') later = record { mesh = m; notes = []; end = Unfinished (suc left) }
after_make m left (Failed kind t) later = record { mesh = m; notes = []; end = Faulted kind t }

-- so many Makes, in their order, while steps are left
abbrev pub make_all : (waiting left : ℕ) → Processors → RoundDone
make_all zero left m = record { mesh = m; notes = []; end = rest_or left (busy_count m.all + mail_count m.all) m.makes }
make_all (suc k) zero m = record { mesh = m; notes = []; end = Unfinished 0 }
make_all (suc k) (suc left) m = after_make m left (made m) (λ m'. make_all k left m')

abbrev pub after_turns : Option (FaultKind × ThreadNo) → (left : ℕ) → Processors → RoundDone
after_turns (Some f) left m = record { mesh = m; notes = []; end = Faulted f.0 f.1 }
after_turns None left m = let d = deliver_all m in make_all (length d.makes) left d

-- the round of m with these words and so many steps left; turn i takes word i
pub record RoundIs (words : List ℕ) (left : ℕ) (m m' : Processors) (notes : List Note) (e : RoundEnd) : Type 0 where
  pub middle : Processors
  pub first : List Note
  pub fault : Option (FaultKind × ThreadNo)
  pub turns : Turns (quota_of left (busy_count m.all)) (due m.all (min (busy_count m.all) left) words 0) m middle first fault
  pub is : record { mesh = m'; notes = notes; end = e } ≡ noting first (after_turns fault (left - noted first) middle)

-- ---- rounds

-- words for so many turns, and the state of the generator after them; for the seed 0 all words are 0
abbrev pub drawn_words : ℕ → ℕ → List ℕ × ℕ
drawn_words zero state = ([], state)
drawn_words (suc n) state = let d = mix_u64 state in let later = drawn_words n d.1 in (d.0 ∷ later.0, later.1)

abbrev pub zeros : ℕ → List ℕ
zeros zero = []
zeros (suc n) = 0 ∷ zeros n

abbrev pub words_of : (seed state turns : ℕ) → List ℕ × ℕ
words_of zero state n = (zeros n, state)
words_of (suc seed) state n = drawn_words n state

abbrev pub turns_in : Processors → (left : ℕ) → ℕ
turns_in m left = min (busy_count m.all) left

-- no round follows
abbrev pub IsLast : RoundEnd → Type 0
IsLast (Unfinished zero) = Unit {0}
IsLast (Unfinished (suc left)) = ⊥
IsLast Rest = Unit {0}
IsLast (Faulted kind t) = Unit {0}

-- one after another, until one rests, or meets a fault, or no step is left
pub data Rounds (seed : ℕ) : (state left : ℕ) → (m m' : Processors) → List Note → RoundEnd → Type 0 where
  Last : {state left : ℕ} {m m' : Processors} {notes : List Note} {e : RoundEnd} → IsLast e → RoundIs (words_of seed state (turns_in m left)).0 left m m' notes e
      → Rounds seed state left m m' notes e
  More : {state left next : ℕ} {m m1 m' : Processors} {notes more : List Note} {e : RoundEnd}
      → RoundIs (words_of seed state (turns_in m left)).0 left m m1 notes (Unfinished (suc next))
      → Rounds seed (words_of seed state (turns_in m left)).1 (suc next) m1 m' more e → Rounds seed state left m m' (notes ++ more) e

-- ---- at the limit

-- Each busy processor makes its silent moves alone, one after another; or one of them has a step or a fault as its next move.
pub data Settles : List Due → (m m' : Processors) → (found : Bool) → Type 0 where
  AllStill : {m : Processors} → Settles [] m m false
  OneStill : {d : Due} {ds : List Due} {m m1 m' : Processors} {notes : List Note} {found : Bool} → TurnOf m 1 d m1 notes Idle → noted notes ≡ 0
      → Settles ds m1 m' found → Settles (d ∷ ds) m m' found
  Steps : {d : Due} {ds : List Due} {m m1 : Processors} {notes : List Note} {k : ℕ} {e : TurnEnd} → TurnOf m 1 d m1 notes e → noted notes ≡ suc k
      → Settles (d ∷ ds) m m true
  Fails : {d : Due} {ds : List Due} {m m1 : Processors} {notes : List Note} {kind : FaultKind} {t : ThreadNo} → TurnOf m 1 d m1 notes (Fault kind t)
      → Settles (d ∷ ds) m m true

-- all busy ones, each with the word 0
abbrev pub due_all : Processors → List Due
due_all m = due m.all (busy_count m.all) (zeros (busy_count m.all)) 0

-- while some processor is busy, each makes its silent moves, and mail is delivered; until a step or a fault is found, or a Make waits
pub data Drains : (m m' : Processors) → (found : Bool) → Type 0 where
  Rests : {m : Processors} → busy_count m.all + mail_count m.all ≡ 0 → m.makes ≡ [] → Drains m m false
  MakeWaits : {m : Processors} {x : Message} {xs : List Message} → m.makes ≡ x ∷ xs → Drains m m true
  Finds : {m m1 : Processors} {b : ℕ} → busy_count m.all ≡ suc b → m.makes ≡ [] → Settles (due_all m) m m1 true → Drains m m1 true
  DrainsOn : {m m1 m' : Processors} {b : ℕ} {found : Bool} → busy_count m.all ≡ suc b → m.makes ≡ [] → Settles (due_all m) m m1 false
      → Drains (deliver_all m1) m' found → Drains m m' found

-- ---- the run

-- at rest: the result of main where no thread is left, else how many are left
pub data RestsWith (m : Processors) : Standing → Type 0 where
  WithResult : {v : ℤ} → all_living_in (tables_of m.all) ≡ 0 → item_in (tables_of m.all) main_thread ≡ Some (Ended (Int v)) → RestsWith m (standing.Done v)
  WithLiving : {k : ℕ} → all_living_in (tables_of m.all) ≡ k → 1 ≤ k → RestsWith m (standing.Blocked k)

-- how a run ends whose rounds have ended so
pub data StandsWith (limit : ℕ) : (m m' : Processors) → RoundEnd → Standing → Type 0 where
  StandsAtRest : {m : Processors} {s : Standing} → RestsWith m s → StandsWith limit m m Rest s
  StandsAtFault : {m : Processors} {kind : FaultKind} {t : ThreadNo} → StandsWith limit m m (Faulted kind t) (standing.Fault (record { kind = kind; line = line_of m t }))
  StandsDrained : {m m' : Processors} {s : Standing} → Drains m m' false → RestsWith m' s → StandsWith limit m m' (Unfinished 0) s
  StandsAtLimit : {m m' : Processors} → Drains m m' true → StandsWith limit m m' (Unfinished 0) (standing.Limit limit)

-- The run of a program from these ints, with a seed and a limit of steps: what it prints, its standing, and what its steps were.
pub record RunIs (p : Program) (ints : List ℤ) (seed limit : ℕ) (output : List ℕ) (s : Standing) (notes : List Note) : Type 0 where
  pub last : Processors
  pub at : Processors
  pub end : RoundEnd
  pub rounds : Rounds seed seed limit (first_processors p ints) last notes end
  pub stands : StandsWith limit last at end s
  pub prints : output ≡ at.output

-- ---- what a run is of the machine

-- how what was done ends, after so many steps of those that were left
abbrev pub EndsWell : RoundEnd → (steps left : ℕ) → Processors → Type 0
EndsWell (Unfinished l) steps left m = (steps + l ≡ left) × AllFree m.all
EndsWell Rest steps left m = (steps ≤ left) × AllFree m.all × (busy_count m.all + mail_count m.all ≡ 0) × (m.makes ≡ [])
EndsWell (Faulted kind t) steps left m = (suc steps ≤ left) × Faults m kind t

-- a run of the machine, whose steps are those that are noted
pub record DoneWell (m : Processors) (left : ℕ) (m' : Processors) (notes : List Note) (e : RoundEnd) : Type 0 where
  pub steps : List Label
  pub run : Run m steps m'
  pub counted : noted notes ≡ length steps
  pub labels : labelled notes ≡ steps
  pub ended : EndsWell e (length steps) left m'

abbrev pub FoundSo : Bool → Processors → Type 0
FoundSo true m = CanGo m
FoundSo false m = Unit {0}

-- ---- what a run is of the program's

-- the thread that met the fault, if one did, has that as its next move
abbrev pub FaultsBy : Program → Config → Numbers → RoundEnd → Standing → Type 0
FaultsBy p s n (Faulted kind t) (standing.Fault f) = (x : Name) × IsThread n t x × (core.step p x s ≡ core.Faults f.kind f.line)
FaultsBy p s n (Faulted kind t) z = ⊥
FaultsBy p s n (Unfinished left) z = Unit {0}
FaultsBy p s n Rest z = Unit {0}

-- a run of the program within the limit, whose steps are those that are noted, with this output and standing
pub record RunFollows (p : Program) (ints : List ℤ) (limit : ℕ) (output : List ℕ) (s : Standing) (notes : List Note) (e : RoundEnd) : Type 0 where
  pub run : RunsTo p ints limit output s
  pub counted : length run.steps ≡ noted notes
  pub each : length (labelled notes) ≡ noted notes
  pub numbers : Numbers
  pub leads : Leads p (map step_of (labelled notes)) (core.start p ints) (first_numbers p ints) run.last numbers
  pub placed : AllByRecursion IsPlaced (labelled notes)
  pub faults : FaultsBy p run.last numbers e s
