-- Turns, delivery, Makes, and so rounds, are runs of the machine.
use Rattle.std.proofs.Common.{◌≡◌, ⊎_elim, ℕ, zero, suc, ◌+◌, ◌-◌, ◌*◌, ◌/◌, ◌<◌, ◌≤◌, List, [], ◌∷◌, ◌++◌, length, min, Bool, true, false, Option, Some, None, refl, sym, ap, ◌∙◌, subst, arith}
use Rattle.std.specs.Prelude.{slice_get}
use Rattle.std.specs.Option.{option_map_or}
use Rattle.std.proofs.lemmas.Option.{none-some, same_Some}
use Rattle.std.proofs.lemmas.Bool.{cases_lt}
use Rattle.std.proofs.lemmas.Nat.{div_below, le-div}
use Rattle.std.proofs.Math.Nat.{mul-div-le}
use Rattle.global_ptr.specs.declared.ends.FaultKind.{FaultKind}
use Rattle.cc_ops.specs.Values.{Value}
use Rattle.cc_ops.specs.Classes.{construct}
use Rattle.cc_ops.specs.Machine.{Address, same_address}
use Rattle.cc_core.specs.Core.{class_shape}
use Rattle.cc_core.specs.Asks.{NewProcessor}
use Rattle.cc_core.specs.Numbers.{Get, Put, Call, Cast, Make}
use Rattle.cc_ops.specs.declared.number.ThreadNo.{ThreadNo}
use Rattle.cc_core.specs.Effects.{constructed}
use Rattle.cc_ops.specs.Shelves.{changed}
use Rattle.cc_core.specs.Needs.{Verdict, Go, Hold, Bad}
use Rattle.law_mesh.specs.Spots.{verdict}
use Rattle.law_mesh.specs.Queues.{Message, Asks, Answers}
use Rattle.law_processors.specs.Processors.{Processor, Processors, with_processor, printing}
use Rattle.law_processors.specs.Alone.{Did, Went, Failed, send, nobody}
use Rattle.law_processors.specs.Machine.{Moves, Delivers, Faults, MakesBadly, Run, Stays, goes_to, receive, without_first, arrives, goes_off, delivered, new_processor, made_for, makes_so, makes_first, made, seen_by_makes, to_newest}
use Rattle.law_processors.specs.Machine as machine
use Rattle.law_rounds.specs.Turn.{Note, TurnEnd, Quota, Idle, Fault, EndsSo, noted}
use Rattle.law_processors.specs.Busy.{busy, busy_count, mail_count}
use Rattle.law_rounds.specs.Round.{Due, TurnOf, NoFault, Turns, AllTaken, MeetsFault, TakesTurn, due, due_first, quota_of, deliver_of, deliver_from, deliver_one, deliver_times, deliver_below, deliver_all}
use Rattle.law_processors.specs.Busy.{AllFree}
use Rattle.law_rounds.specs.Round.{RoundEnd, Unfinished, Rest, Faulted, RoundDone, rest_or, noting, note_of, after_make, make_all, after_turns, RoundIs, Rounds, Last, More, EndsWell, DoneWell}
use Rattle.law_processors.proofs.Base.{append_none}
use Rattle.law_processors.specs.Alone.{Label, ServedStep}
use Rattle.law_rounds.specs.Turn.{labelled}
use Rattle.law_rounds.proofs.Turns.{labelled_append, length_append, run_then}
use Rattle.law_rounds.proofs.Order.{turn_runs}

-- ---- hands

free_changed : (all : List Processor) (q : ℕ) (f : Processor → Processor) → ((x : Processor) → slice_get all q ≡ Some x → (f x).hand ≡ None) → AllFree all → AllFree (changed all q f)
free_changed [] q f here free i p e = absurd (none-some p e)
free_changed (z ∷ zs) zero f here free zero p e = ap (λ (r : Processor). r.hand) (sym (same_Some (f z) p e)) ∙ here z refl
free_changed (z ∷ zs) zero f here free (suc i) p e = free (suc i) p e
free_changed (z ∷ zs) (suc q) f here free zero p e = free zero p e
free_changed (z ∷ zs) (suc q) f here free (suc i) p e = free_changed zs q f here (λ j r d. free (suc j) r d) i p e

free_more : (all : List Processor) (x : Processor) → x.hand ≡ None → AllFree all → AllFree (all ++ x ∷ [])
free_more [] x h free zero p e = ap (λ (r : Processor). r.hand) (sym (same_Some x p e)) ∙ h
free_more [] x h free (suc i) p e = absurd (none-some p e)
free_more (z ∷ zs) x h free zero p e = free zero p e
free_more (z ∷ zs) x h free (suc i) p e = free_more zs x h (λ j r d. free (suc j) r d) i p e

-- ---- one turn

pub record OneTurn (m : Processors) (quota : ℕ) (m' : Processors) (notes : List Note) (e : TurnEnd) : Type 0 where
  pub steps : List Label
  pub left : ℕ
  pub run : Run m steps m'
  pub spent : length steps + left ≡ quota
  pub counted : noted notes ≡ length steps
  pub labels : labelled notes ≡ steps
  pub free : NoFault e → AllFree m'.all
  pub fault : (kind : FaultKind) (t : ThreadNo) → e ≡ Fault kind t → (1 ≤ left) × Faults m' kind t

pub one_turn : (m : Processors) (quota : ℕ) (d : Due) (m' : Processors) (notes : List Note) (e : TurnEnd) → TurnOf m quota d m' notes e → AllFree m.all → OneTurn m quota m' notes e
one_turn m quota d m' notes e turn free =
    let r = turn_runs m d.place turn.before turn.there quota d.word turn.after turn.prints notes e turn.turn (free d.place turn.before turn.there) in
    subst (λ x. OneTurn m quota x notes e) (sym turn.is) (record {
      steps = r.steps;
      left = r.left;
      run = r.run;
      spent = r.spent;
      counted = r.counted;
      labels = r.labels;
      free = λ none. free_changed m.all d.place (λ o. turn.after) (λ x there. ends_free e none r.left r.ended) free;
      fault = λ kind t same. subst (λ z. EndsSo z r.left turn.after (printing turn.prints (with_processor m d.place turn.after))) same r.ended;
    })
  where
    ends_free : (z : TurnEnd) → NoFault z → (left : ℕ) → EndsSo z left turn.after (printing turn.prints (with_processor m d.place turn.after)) → turn.after.hand ≡ None
    ends_free Idle none left h = h.0
    ends_free Quota none left h = h.0
    ends_free (Fault kind t) none left h = absurd none

-- ---- turns

noted_append : (xs ys : List Note) → noted (xs ++ ys) ≡ noted xs + noted ys
noted_append [] ys = omega arith
noted_append (x ∷ xs) ys = let e = noted_append xs ys in omega arith

-- so many quotas
abbrev pub times : ℕ → ℕ → ℕ
times zero q = 0
times (suc k) q = q + times k q

abbrev pub TurnsEnd : Option (FaultKind × ThreadNo) → (steps room : ℕ) → Processors → Type 0
TurnsEnd None steps room m = (steps ≤ room) × AllFree m.all
TurnsEnd (Some f) steps room m = (suc steps ≤ room) × Faults m f.0 f.1

pub record AllTurns (quota : ℕ) (ds : List Due) (m m' : Processors) (notes : List Note) (fault : Option (FaultKind × ThreadNo)) : Type 0 where
  pub steps : List Label
  pub run : Run m steps m'
  pub counted : noted notes ≡ length steps
  pub labels : labelled notes ≡ steps
  pub ended : TurnsEnd fault (length steps) (times (length ds) quota) m'

all_turns : (quota : ℕ) (ds : List Due) (m m' : Processors) (notes : List Note) (fault : Option (FaultKind × ThreadNo)) → Turns quota ds m m' notes fault → AllFree m.all
    → AllTurns quota ds m m' notes fault
all_turns quota _ m _ _ _ AllTaken free = record { steps = []; run = Stays; counted = refl; labels = refl; ended = (omega arith, free) }
all_turns quota _ m m' notes _ (MeetsFault {d = d} {ds = ds} {kind = kind} {t = t} turn) free =
    let r = one_turn m quota d m' notes (Fault kind t) turn free in
    let f = r.fault kind t refl in
    record { steps = r.steps; run = r.run; counted = r.counted; labels = r.labels; ended = (let a = f.0 in let b = r.spent in omega (arith, a, b), f.1) }
all_turns quota _ m m' _ fault (TakesTurn {d = d} {ds = ds} {m1 = m1} {notes = notes} {more = more} {e = e} turn none rest) free =
    let r = one_turn m quota d m1 notes e turn free in
    let s = all_turns quota ds m1 m' more fault rest (r.free none) in
    record {
      steps = r.steps ++ s.steps;
      run = run_then m m1 m' r.steps s.steps r.run s.run;
      counted = let a = noted_append notes more in let c = length_append r.steps s.steps in omega (arith, a, r.counted, s.counted, c);
      labels = labelled_append notes more ∙ (ap (λ ls. ls ++ labelled more) r.labels ∙ ap (λ ls. r.steps ++ ls) s.labels);
      ended = subst (λ k. TurnsEnd fault k (times (length (d ∷ ds)) quota) m') (sym (length_append r.steps s.steps))
          (both fault (length r.steps) r.left (length s.steps) (times (length ds) quota) r.spent s.ended);
    }
  where
    both : (o : Option (FaultKind × ThreadNo)) (a b c room : ℕ) → a + b ≡ quota → TurnsEnd o c room m' → TurnsEnd o (a + c) (quota + room) m'
    both None a b c room spent h = (let z = h.0 in omega (arith, z, spent), h.1)
    both (Some f) a b c room spent h = (let z = h.0 in omega (arith, z, spent), h.1)

-- ---- quotas

due_length : (all : List Processor) (k : ℕ) (ws : List ℕ) (i : ℕ) → length (due all k ws i) ≤ k
due_length [] k ws i = omega arith
due_length (p ∷ ps) k ws i = by (busy p) k ws (λ k' ws'. due_length ps k' ws' (i + 1))
  where
    by : (b : Bool) (k : ℕ) (ws : List ℕ) → ((k' : ℕ) (ws' : List ℕ) → length (due ps k' ws' (i + 1)) ≤ k') → length (due_first b k ws i (λ k' ws'. due ps k' ws' (i + 1))) ≤ k
    by true zero ws h = h zero ws
    by true (suc k) [] h = h (suc k) []
    by true (suc k) (w ∷ ws) h = let a = h k ws in omega (arith, a)
    by false k ws h = h k ws

times_le : (a b q : ℕ) → a ≤ b → times a q ≤ times b q
times_le zero b q h = omega arith
times_le (suc a) zero q h = absurd (omega (arith, h))
times_le (suc a) (suc b) q h = let e = times_le a b q (omega (arith, h)) in omega (arith, e)

times_is : (k q : ℕ) → times k q ≡ k * q
times_is zero q = omega arith
times_is (suc k) q = let e = times_is k q in grind (arith, e)

times_one : (k : ℕ) → times k 1 ≡ k
times_one zero = refl
times_one (suc k) = let e = times_one k in omega (arith, e)

times_right : (k q r : ℕ) → q ≤ r → times k q ≤ times k r
times_right zero q r h = omega arith
times_right (suc k) q r h = let e = times_right k q r h in omega (arith, e, h)

within : (left b : ℕ) → times (min b left) (quota_of left b) ≤ left
within left zero = let e : 0 ≡ min 0 left = omega arith in subst (λ k. times k (quota_of left 0) ≤ left) e (omega arith)
within left (suc c) = ⊎_elim few many (cases_lt left (suc c))
  where
    few : left < suc c → times (min (suc c) left) (quota_of left (suc c)) ≤ left
    few h =
        let d : left / suc c < 1 = div_below left (suc c) 1 (omega arith) (omega (arith, h)) in
        let q : 1 ≡ quota_of left (suc c) = omega (arith, d) in
        let k : left ≡ min (suc c) left = omega (arith, h) in
        subst (λ z. times z (quota_of left (suc c)) ≤ left) k (subst (λ z. times left z ≤ left) q (let e = times_one left in omega (arith, e)))

    many : suc c ≤ left → times (min (suc c) left) (quota_of left (suc c)) ≤ left
    many h =
        let d : 1 ≤ left / suc c = le-div 1 left (suc c) (omega arith) (omega (arith, h)) in
        let q : quota_of left (suc c) ≤ left / suc c = omega (arith, d) in
        let k : suc c ≡ min (suc c) left = omega (arith, h) in
        let all : times (suc c) (quota_of left (suc c)) ≤ left =
        (let x = times_right (suc c) (quota_of left (suc c)) (left / suc c) q in let y = times_is (suc c) (left / suc c) in let z = mul-div-le left (suc c) in omega (arith, x, y, z)) in
        subst (λ z. times z (quota_of left (suc c)) ≤ left) k all

-- ---- delivery

pub record Silently (m m' : Processors) : Type 0 where
  pub run : Run m [] m'
  pub free : AllFree m'.all

nothing_so : (m : Processors) → AllFree m.all → Silently m m
nothing_so m free = record { run = Stays; free = free }

then_so : (m m1 m2 : Processors) → Silently m m1 → (AllFree m1.all → Silently m1 m2) → Silently m m2
then_so m m1 m2 a f = let b = f a.free in record { run = run_then m m1 m2 [] [] a.run b.run; free = b.free }

goes_off_free : (m : Processors) (q : ℕ) (message : Message) (o : Option ℕ) → AllFree m.all → AllFree (goes_off m q message o).all
goes_off_free m q message None free = free
goes_off_free m q message (Some r) free = by (slice_get m.all r) refl
  where
    by : (o : Option Processor) → slice_get m.all r ≡ o → AllFree (arrives m q r message o).all
    by None e = free_changed m.all q (send message) (λ x there. free q x there) free
    by (Some p) e = free_changed m.all r (λ o. receive message p) (λ x there. free r p e) free

one_delivered : (q : ℕ) (m : Processors) → AllFree m.all → Silently m (deliver_one q m)
one_delivered q m free = by (slice_get m.all q) refl
  where
    of_it : (p : Processor) → slice_get m.all q ≡ Some p → (messages : List Message) → p.outbox ≡ messages → Silently m (deliver_of m q p messages)
    of_it p there [] e = nothing_so m free
    of_it p there (message ∷ rest) e = record {
      run = machine.Then Stays (Delivers q p [] message rest there e tt);
      free = goes_off_free (with_processor m q (without_first rest p)) q message (goes_to message)
          (free_changed m.all q (λ o. without_first rest p) (λ x x_there. free q p there) free);
    }

    by : (o : Option Processor) → slice_get m.all q ≡ o → Silently m (deliver_from m q o)
    by None e = nothing_so m free
    by (Some p) e = of_it p e p.outbox refl

times_delivered : (q k : ℕ) (m : Processors) → AllFree m.all → Silently m (deliver_times q k m)
times_delivered q zero m free = nothing_so m free
times_delivered q (suc k) m free =
    then_so m (deliver_times q k m) (deliver_times q (suc k) m) (times_delivered q k m free) (λ f. one_delivered q (deliver_times q k m) f)

below_delivered : (k : ℕ) (m : Processors) → AllFree m.all → Silently m (deliver_below k m)
below_delivered zero m free = nothing_so m free
below_delivered (suc k) m free =
    then_so m (deliver_below k m) (deliver_below (suc k) m) (below_delivered k m free) (λ f. times_delivered k (option_map_or (λ (p : Processor). length p.outbox) (slice_get (deliver_below k m).all k) 0) (deliver_below k m) f)

pub all_delivered : (m : Processors) → AllFree m.all → Silently m (deliver_all m)
all_delivered m free = below_delivered (length m.all) m free

-- ---- Makes

abbrev pub FreeMade : Did Processors → Type 0
FreeMade (Went step prints m') = AllFree m'.all
FreeMade (Failed kind t) = Unit {0}

makes_so_free : (m : Processors) → AllFree m.all → (t : ThreadNo) (c : ℕ) (vs : List (Value Address)) (rest : List Message) (v : Verdict Address) → FreeMade (makes_so t c vs rest m v)
makes_so_free m free t c vs rest (Go found) =
    let cells = constructed (construct same_address (class_shape m.code.shapes c) vs) in
    let more = free_more m.all (new_processor cells) refl free in
    free_changed (m.all ++ new_processor cells ∷ []) t.processor (receive (Answers t (to_newest m))) (λ x there. more t.processor x there) more
makes_so_free m free t c vs rest Hold = free
makes_so_free m free t c vs rest (Bad kind) = tt

made_free : (m : Processors) → AllFree m.all → (messages : List Message) → FreeMade (makes_first messages m)
made_free m free [] = free
made_free m free (Answers t v ∷ rest) = free
made_free m free (Asks t (Get a) ∷ rest) = free
made_free m free (Asks t (Put a v) ∷ rest) = free
made_free m free (Asks t (Call h o vs) ∷ rest) = free
made_free m free (Asks t (Cast h o vs) ∷ rest) = free
made_free m free (Asks t (Make c vs) ∷ rest) = makes_so_free m free t c vs rest (verdict (seen_by_makes m) 0 nobody (NewProcessor c vs))

-- what a Make is noted as
abbrev IsNoted : List Label → Did Processors → Type 0
IsNoted ls (Went None prints m) = Unit {0}
IsNoted ls (Went (Some l) prints m) = ls ≡ l ∷ []
IsNoted ls (Failed kind t) = Unit {0}

so_noted : (m : Processors) (t : ThreadNo) (c : ℕ) (vs : List (Value Address)) (rest : List Message) (v : Verdict Address)
    → IsNoted (ServedStep None t (Make c vs) ∷ []) (makes_so t c vs rest m v)
so_noted m t c vs rest (Go found) = refl
so_noted m t c vs rest Hold = tt
so_noted m t c vs rest (Bad kind) = tt

first_noted : (m : Processors) (messages : List Message) → IsNoted (labelled (note_of messages)) (makes_first messages m)
first_noted m [] = tt
first_noted m (Answers t v ∷ rest) = tt
first_noted m (Asks t (Get a) ∷ rest) = tt
first_noted m (Asks t (Put a v) ∷ rest) = tt
first_noted m (Asks t (Call h o vs) ∷ rest) = tt
first_noted m (Asks t (Cast h o vs) ∷ rest) = tt
first_noted m (Asks t (Make c vs) ∷ rest) = so_noted m t c vs rest (verdict (seen_by_makes m) 0 nobody (NewProcessor c vs))

-- a step serves one
one_noted : (m : Processors) (messages : List Message) → m.makes ≡ messages → (l : Label) (prints : List ℕ) (m' : Processors) → made m ≡ Went (Some l) prints m'
    → noted (note_of m.makes) ≡ 1
one_noted m [] e l prints m' step =
    let d : Went None [] m ≡ Went (Some l) prints m' = ap (λ ms. makes_first ms m) (sym e) ∙ step in
    absurd (cc)
one_noted m (message ∷ rest) e l prints m' step = ap (λ ms. noted (note_of ms)) e

some_made : (m : Processors) (messages : List Message) → m.makes ≡ messages → (l : Label) (prints : List ℕ) (m' : Processors) → made m ≡ Went (Some l) prints m'
    → (message : Message) × (rest : List Message) × (m.makes ≡ message ∷ rest)
some_made m [] e l prints m' step =
    let d : Went None [] m ≡ Went (Some l) prints m' = ap (λ ms. makes_first ms m) (sym e) ∙ step in
    absurd (cc)
some_made m (message ∷ rest) e l prints m' step = (message, rest, e)

rest_so : (m : Processors) → AllFree m.all → (left b : ℕ) → busy_count m.all + mail_count m.all ≡ b → (ms : List Message) → m.makes ≡ ms → EndsWell (rest_or left b ms) 0 left m
rest_so m free left zero b [] e = (omega arith, free, b, e)
rest_so m free left zero b (x ∷ ms) e = (omega arith, free)
rest_so m free left (suc k) b ms e = (omega arith, free)

pub makes_done : (k left : ℕ) (m : Processors) → AllFree m.all → DoneWell m left (make_all k left m).mesh (make_all k left m).notes (make_all k left m).end
makes_done zero left m free = record { steps = []; run = Stays; counted = refl; labels = refl; ended = rest_so m free left (busy_count m.all + mail_count m.all) refl m.makes refl }
makes_done (suc k) zero m free = record { steps = []; run = Stays; counted = refl; labels = refl; ended = (omega arith, free) }
makes_done (suc k) (suc left) m free = by (made m) refl (made_free m free m.makes) (λ m' f. makes_done k left m' f)
  where
    by : (did : Did Processors) → made m ≡ did → FreeMade did → ((m' : Processors) → AllFree m'.all → DoneWell m' left (make_all k left m').mesh (make_all k left m').notes (make_all k left m').end)
        → DoneWell m (suc left) (after_make m left did (λ m'. make_all k left m')).mesh (after_make m left did (λ m'. make_all k left m')).notes
        (after_make m left did (λ m'. make_all k left m')).end
    by (Went None prints m') e f later = record { steps = []; run = Stays; counted = refl; labels = refl; ended = (omega arith, free) }
    by (Failed kind t) e f later = record { steps = []; run = Stays; counted = refl; labels = refl; ended = (omega arith, MakesBadly e) }
    by (Went (Some l) prints m') e f later =
        let m1 : Processors = printing prints m' in
        let r = later m1 f in
        record {
          steps = l ∷ r.steps;
          run = let first = some_made m m.makes refl l prints m' e in
              run_then m m1 (make_all k left m1).mesh (l ∷ []) r.steps (machine.Then Stays (machine.Makes first.0 first.1 (Some l) prints m' first.2 e)) r.run;
          counted = let a = noted_append (note_of m.makes) (make_all k left m1).notes in let b = one_noted m m.makes refl l prints m' e in omega (arith, a, b, r.counted);
          labels =
              labelled_append (note_of m.makes) (make_all k left m1).notes
              ∙ (ap (λ ls. ls ++ labelled (make_all k left m1).notes) (subst (IsNoted (labelled (note_of m.makes))) e (first_noted m m.makes))
              ∙ ap (λ ls. l ∷ ls) r.labels);
          ended = one_more (make_all k left m1).end (length r.steps) (make_all k left m1).mesh r.ended;
        }
      where
        one_more : (z : RoundEnd) (steps : ℕ) (x : Processors) → EndsWell z steps left x → EndsWell z (suc steps) (suc left) x
        one_more (Unfinished l) steps x h = (let a = h.0 in omega (arith, a), h.1)
        one_more Rest steps x h = (let a = h.0 in omega (arith, a), h.1, h.2, h.3)
        one_more (Faulted kind t) steps x h = (let a = h.0 in omega (arith, a), h.1)

-- ---- a round

-- so many steps come before
before_so : (z : RoundEnd) (a b left rest : ℕ) (x : Processors) → a + rest ≡ left → EndsWell z b rest x → EndsWell z (a + b) left x
before_so (Unfinished l) a b left rest x e h = (let d = h.0 in omega (arith, d, e), h.1)
before_so Rest a b left rest x e h = (let d = h.0 in omega (arith, d, e), h.1, h.2, h.3)
before_so (Faulted kind t) a b left rest x e h = (let d = h.0 in omega (arith, d, e), h.1)

pub done_then : (m m1 m2 : Processors) (left rest : ℕ) (steps : List Label) (notes more : List Note) (e : RoundEnd) → Run m steps m1 → noted notes ≡ length steps
    → labelled notes ≡ steps → length steps + rest ≡ left → DoneWell m1 rest m2 more e → DoneWell m left m2 (notes ++ more) e
done_then m m1 m2 left rest steps notes more e run counted labels spent later = record {
  steps = steps ++ later.steps;
  run = run_then m m1 m2 steps later.steps run later.run;
  counted = let a = noted_append notes more in let b = later.counted in let c = length_append steps later.steps in omega (arith, a, b, c, counted);
  labels = labelled_append notes more ∙ (ap (λ ls. ls ++ labelled more) labels ∙ ap (λ ls. steps ++ ls) later.labels);
  ended = subst (λ k. EndsWell e k left m2) (sym (length_append steps later.steps))
      (before_so e (length steps) (length later.steps) left rest m2 spent later.ended);
}

pub round_done : (words : List ℕ) (left : ℕ) (m m' : Processors) (notes : List Note) (e : RoundEnd) → RoundIs words left m m' notes e → AllFree m.all → DoneWell m left m' notes e
round_done words left m m' notes e round free =
    subst (λ (r : RoundDone). DoneWell m left r.mesh r.notes r.end) (sym round.is) (by round.fault r.ended)
  where
    r : AllTurns (quota_of left (busy_count m.all)) (due m.all (min (busy_count m.all) left) words 0) m round.middle round.first round.fault
    r = all_turns (quota_of left (busy_count m.all)) (due m.all (min (busy_count m.all) left) words 0) m round.middle round.first round.fault round.turns free

    room : times (length (due m.all (min (busy_count m.all) left) words 0)) (quota_of left (busy_count m.all)) ≤ left
    room =
        let a = times_le (length (due m.all (min (busy_count m.all) left) words 0)) (min (busy_count m.all) left) (quota_of left (busy_count m.all)) (due_length m.all (min (busy_count m.all) left) words 0) in
        let b = within left (busy_count m.all) in
        omega (arith, a, b)

    by : (o : Option (FaultKind × ThreadNo)) → TurnsEnd o (length r.steps) (times (length (due m.all (min (busy_count m.all) left) words 0)) (quota_of left (busy_count m.all))) round.middle
        → DoneWell m left (noting round.first (after_turns o (left - noted round.first) round.middle)).mesh (noting round.first (after_turns o (left - noted round.first) round.middle)).notes
        (noting round.first (after_turns o (left - noted round.first) round.middle)).end
    by (Some f) h = done_then m round.middle round.middle left (left - noted round.first) r.steps round.first [] (Faulted f.0 f.1) r.run r.counted r.labels
        (let a = h.0 in let b = room in let c = r.counted in omega (arith, a, b, c))
        (record { steps = []; run = Stays; counted = refl; labels = refl; ended = (let a = h.0 in let b = room in let c = r.counted in omega (arith, a, b, c), h.1) })
    by None h =
        let d = all_delivered round.middle h.1 in
        let makes = makes_done (length (deliver_all round.middle).makes) (left - noted round.first) (deliver_all round.middle) d.free in
        done_then m (deliver_all round.middle) (make_all (length (deliver_all round.middle).makes) (left - noted round.first) (deliver_all round.middle)).mesh left (left - noted round.first) (r.steps ++ []) round.first
        (make_all (length (deliver_all round.middle).makes) (left - noted round.first) (deliver_all round.middle)).notes
        (make_all (length (deliver_all round.middle).makes) (left - noted round.first) (deliver_all round.middle)).end
        (run_then m round.middle (deliver_all round.middle) r.steps [] r.run d.run) (r.counted ∙ ap (λ ls. length ls) (sym (append_none r.steps)))
        (r.labels ∙ sym (append_none r.steps)) (subst (λ ls. length ls + (left - noted round.first) ≡ left) (sym (append_none r.steps)) (let a = h.0 in let b = room in let c = r.counted in omega (arith, a, b, c))) makes

pub rounds_done : (seed state left : ℕ) (m m' : Processors) (notes : List Note) (e : RoundEnd) → Rounds seed state left m m' notes e → AllFree m.all → DoneWell m left m' notes e
rounds_done seed _ _ _ m' notes e (Last {state = state} {left = left} {m = m} last round) free =
    round_done _ left m m' notes e round free
rounds_done seed _ _ _ m' _ e (More {state = state} {left = left} {next = next} {m = m} {m1 = m1} {notes = notes} {more = more} round later) free =
    let a = round_done _ left m m1 notes (Unfinished (suc next)) round free in
    done_then m m1 m' left (suc next) a.steps notes more e a.run a.counted a.labels a.ended.0 (rounds_done seed _ (suc next) m1 m' more e later a.ended.1)
