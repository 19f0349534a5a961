-- A tick of a turn is a move of the machine, or nothing.
use Rattle.std.proofs.Common.{◌≡◌, ℕ, zero, suc, ◌+◌, List, [], ◌∷◌, ◌++◌, length, take, drop, replicate, inl, inr, Bool, true, false, Option, Some, None, refl, sym, ap, ◌∙◌, subst, arith, append_assoc}
use Rattle.std.specs.Prelude.{slice_get}
use Rattle.std.proofs.lemmas.Option.{none-some, same_Some}
use Rattle.global_ptr.specs.declared.ends.FaultKind.{FaultKind}
use Rattle.cc_ops.specs.Values.{Value, Void, Int, Null, Ptr}
use Rattle.cc_ops.specs.Machine.{Address, Values}
use Rattle.cc_ops.specs.declared.number.ThreadNo.{ThreadNo}
use Rattle.cc_ops.specs.Shelves.{changed}
use Rattle.cc_core.specs.Numbers.{Post, Get, Put, Call, Cast, Make}
use Rattle.cc_core.specs.Needs.{Verdict, Go, Hold, Bad}
use Rattle.cc_code.specs.Code.{Code}
use Rattle.numbered_runs.proofs.Lists.{get_changed}
use Rattle.law_mesh.specs.Local.{write_on}
use Rattle.law_mesh.specs.Spots.{verdict}
use Rattle.law_mesh.specs.Queues.{Message, Asks, Answers}
use Rattle.law_processors.specs.Processors.{Waiter, Own, Asked, Goes, Joins, Asking, Has, Entry, Lives, Ended, Processor, Processors, with_processor, printing}
use Rattle.law_processors.specs.Alone.{Did, Went, Failed, moved, served, serves, served_so, serves_inbox, told, nobody, ask_of, seen, answer, park_get, put_shelf}
use Rattle.law_processors.specs.Machine.{Moves, TakesUp, PutsBack, MovesOn, ServesFirst, ServesWoken, Faults, MovesBadly, ServesBadly, WakesBadly, Run, Stays, in_hand, at_back, without_ready, one_or_none}
use Rattle.law_processors.specs.Machine as machine
use Rattle.law_rounds.specs.Turn.{Note, Served, Quota, Idle, Fault, Phase, Serving, Picking, Running, Leaving, Closed, Turning, Pick, pick, at_phase, ran, end_of, went}
use Rattle.law_rounds.specs.Turn.{after_serving, serves_on, takes, with_state, picks, stays, after_move, runs_on, ends_soon, ended_or_not, after_end, put_back, leaves, tick_in, tick, ticks, noted}
use Rattle.law_mesh.proofs.Local.{changed_twice}
use Rattle.law_processors.proofs.Base.{append_none}
use Rattle.law_processors.specs.Alone.{Label, OwnStep}
use Rattle.law_rounds.specs.Turn.{labels_in, labelled}
use Rattle.law_rounds.proofs.Kept.{Same, wake_same}
use Rattle.law_rounds.proofs.Hands.{IsOwn, InHand, HandIs, same_hand, moved_hand}

-- ---- what a message leaves in the hand

answer_hand : (t : ThreadNo) (post : Post) (found : Values) (p : Processor) → (answer t post found p).hand ≡ p.hand
answer_hand t (Get a) found p = refl
answer_hand t (Put a v) found p = wake_same (λ r. r.hand) same_hand a (put_shelf (write_on p.shelf a v) p)
answer_hand t (Call f o vs) found p = refl
answer_hand t (Cast f o vs) found p = refl
answer_hand t (Make c vs) found p = refl

park_hand : (t : ThreadNo) (post : Post) (after before : Processor) → after.hand ≡ before.hand → (park_get t post after before).hand ≡ before.hand
park_hand t (Get Void) after before e = refl
park_hand t (Get (Int n)) after before e = refl
park_hand t (Get Null) after before e = refl
park_hand t (Get (Ptr b x)) after before e = e
park_hand t (Put a v) after before e = refl
park_hand t (Call f o vs) after before e = refl
park_hand t (Cast f o vs) after before e = refl
park_hand t (Make c vs) after before e = refl

served_so_hand : (q : ℕ) (t : ThreadNo) (post : Post) (v : Verdict Address) (after before : Processor) → after.hand ≡ before.hand → Same (λ p. p.hand) before (served_so q t post v after before)
served_so_hand q t post (Go found) after before e = answer_hand t post found after ∙ e
served_so_hand q t post Hold after before e = park_hand t post after before e
served_so_hand q t post (Bad kind) after before e = tt

pub serves_hand : (code : Code) (q : ℕ) (t : ThreadNo) (post : Post) (after before : Processor) → after.hand ≡ before.hand → Same (λ p. p.hand) before (serves code q t post after before)
serves_hand code q t post after before e = served_so_hand q t post (verdict (seen code q after) q nobody (ask_of post)) after before e

told_hand : (code : Code) (n : ℕ) (v : Value Address) (o : Option Entry) (after before : Processor) → after.hand ≡ before.hand → Same (λ p. p.hand) before (told code n v o after before)
told_hand code n v None after before e = refl
told_hand code n v (Some (Ended w)) after before e = refl
told_hand code n v (Some (Lives f Goes k)) after before e = refl
told_hand code n v (Some (Lives f Joins k)) after before e = refl
told_hand code n v (Some (Lives f Asking k)) after before e = e
told_hand code n v (Some (Lives f (Has w) k)) after before e = refl

served_hand : (code : Code) (q : ℕ) (messages : List Message) (p : Processor) → Same (λ p. p.hand) p (serves_inbox code q messages p)
served_hand code q [] p = refl
served_hand code q (Asks t post ∷ rest) p = serves_hand code q t post (record p { inbox = rest }) p refl
served_hand code q (Answers t v ∷ rest) p = told_hand code t.thread v (slice_get p.table t.thread) (record p { inbox = rest }) p refl

-- ---- what a message is noted as

abbrev pub IsNoted : List Label → Did Processor → Type 0
IsNoted ls (Went None prints p) = Unit {0}
IsNoted ls (Went (Some l) prints p) = ls ≡ l ∷ []
IsNoted ls (Failed kind t) = Unit {0}

so_noted : (q : ℕ) (t : ThreadNo) (post : Post) (v : Verdict Address) (after before : Processor) → IsNoted (labels_in (Served q (Asks t post))) (served_so q t post v after before)
so_noted q t post (Go found) after before = refl
so_noted q t post Hold after before = tt
so_noted q t post (Bad kind) after before = tt

pub serves_noted : (code : Code) (q : ℕ) (t : ThreadNo) (post : Post) (after before : Processor) → IsNoted (labels_in (Served q (Asks t post))) (serves code q t post after before)
serves_noted code q t post after before = so_noted q t post (verdict (seen code q after) q nobody (ask_of post)) after before

told_noted : (ls : List Label) (code : Code) (n : ℕ) (v : Value Address) (o : Option Entry) (after before : Processor) → IsNoted ls (told code n v o after before)
told_noted ls code n v None after before = tt
told_noted ls code n v (Some (Ended w)) after before = tt
told_noted ls code n v (Some (Lives f Goes k)) after before = tt
told_noted ls code n v (Some (Lives f Joins k)) after before = tt
told_noted ls code n v (Some (Lives f Asking k)) after before = tt
told_noted ls code n v (Some (Lives f (Has w) k)) after before = tt

first_noted : (code : Code) (q : ℕ) (message : Message) (rest : List Message) (p : Processor) → IsNoted (labels_in (Served q message)) (serves_inbox code q (message ∷ rest) p)
first_noted code q (Asks t post) rest p = serves_noted code q t post (record p { inbox = rest }) p
first_noted code q (Answers t v) rest p = told_noted (labels_in (Served q (Answers t v))) code t.thread v (slice_get p.table t.thread) (record p { inbox = rest }) p

-- ---- lists

split_at : {X : Type 0} (ws : List X) (k : ℕ) (w : X) → slice_get ws k ≡ Some w → ws ≡ take k ws ++ w ∷ drop (k + 1) ws
split_at [] k w e = absurd (none-some w e)
split_at (x ∷ ws) zero w e = ap (λ y. y ∷ ws) (same_Some x w e)
split_at (x ∷ ws) (suc k) w e =
    let d : suc (k + 1) ≡ suc k + 1 = omega arith in
    ap (λ ys. x ∷ ys) (split_at ws k w e) ∙ ap (λ i. x ∷ (take k ws ++ w ∷ drop i (x ∷ ws))) d

noted_append : (xs ys : List Note) → noted (xs ++ ys) ≡ noted xs + noted ys
noted_append [] ys = omega arith
noted_append (x ∷ xs) ys = let e = noted_append xs ys in omega arith

ran_noted : (q : ℕ) (hand : Option ℕ) (i made : ℕ) → hand ≡ Some i → noted (ran q hand made) ≡ made
ran_noted q hand i zero e = refl
ran_noted q None i (suc made) e = absurd (none-some i e)
ran_noted q (Some n) i (suc made) e = omega arith

pub labelled_append : (xs ys : List Note) → labelled (xs ++ ys) ≡ labelled xs ++ labelled ys
labelled_append [] ys = refl
labelled_append (x ∷ xs) ys = ap (λ ls. labels_in x ++ ls) (labelled_append xs ys) ∙ sym (append_assoc (labels_in x) (labelled xs) (labelled ys))

pub length_append : (xs ys : List Label) → length (xs ++ ys) ≡ length xs + length ys
length_append [] ys = omega arith
length_append (x ∷ xs) ys = let e = length_append xs ys in omega arith

-- so many steps of the thread in the hand
abbrev pub own_steps : (q : ℕ) → Option ℕ → (made : ℕ) → List Label
own_steps q None made = []
own_steps q (Some n) made = replicate made (OwnStep (record { processor = q; thread = n }))

pub none_made : (q : ℕ) (hand : Option ℕ) (made : ℕ) → made ≡ 0 → own_steps q hand made ≡ []
none_made q None made e = refl
none_made q (Some n) made e = ap (λ k. replicate k (OwnStep (record { processor = q; thread = n }))) e

ran_labelled : (q : ℕ) (hand : Option ℕ) (made : ℕ) → labelled (ran q hand made) ≡ own_steps q hand made
ran_labelled q None zero = refl
ran_labelled q None (suc made) = refl
ran_labelled q (Some n) zero = refl
ran_labelled q (Some n) (suc made) = append_none (replicate (suc made) (OwnStep (record { processor = q; thread = n })))

one_more_own : (l : Label) (made : ℕ) → replicate (suc made) l ≡ replicate made l ++ l ∷ []
one_more_own l zero = refl
one_more_own l (suc made) = ap (λ ls. l ∷ ls) (one_more_own l made)

-- a step of its own is one more
own_then : (q i made now : ℕ) (step : Option Label) → IsOwn q i step → now ≡ made + length (one_or_none step)
    → own_steps q (Some i) now ≡ own_steps q (Some i) made ++ one_or_none step
own_then q i made now None own e =
    let d : now ≡ made = omega (arith, e) in ap (λ k. own_steps q (Some i) k) d ∙ sym (append_none (own_steps q (Some i) made))
own_then q i made now (Some l) own e =
    let d : now ≡ suc made = omega (arith, e) in
    ap (λ k. own_steps q (Some i) k) d ∙ (one_more_own (OwnStep (record { processor = q; thread = i })) made
    ∙ ap (λ z. own_steps q (Some i) made ++ z ∷ []) (sym own))

abbrev pub in_slice : Phase → ℕ
in_slice Serving = 0
in_slice Picking = 0
in_slice (Running slice made) = made
in_slice (Leaving made) = made
in_slice (Closed e) = 0

pub run_then : (m m1 m2 : Processors) (a b : List Label) → Run m a m1 → Run m1 b m2 → Run m (a ++ b) m2
run_then m m1 _ a _ r Stays = subst (λ ls. Run m ls m1) (sym (append_none a)) r
run_then m m1 m2 a _ r (machine.Then {a = c} {step = step} {m1 = x} s v) =
    subst (λ ls. Run m ls m2) (append_assoc a c (one_or_none step)) (machine.Then (run_then m m1 x a c r s) v)

module _ (m : Processors) (q : ℕ) (p0 : Processor) (there : slice_get m.all q ≡ Some p0) (word : ℕ) where
  -- the machine, where a turn of processor q stands so
  abbrev pub in_place : List ℕ → Processor → Processors
  in_place prints p = printing prints (with_processor m q p)

  place_there : (prints : List ℕ) (p : Processor) → slice_get (in_place prints p).all q ≡ Some p
  place_there prints p = get_changed m.all q (λ o. p) p0 there

  place_moved : (prints more : List ℕ) (p p' : Processor) → printing more (with_processor (in_place prints p) q p') ≡ in_place (prints ++ more) p'
  place_moved prints more p p' =
      ap (λ all. record { code = m.code; all = all; makes = m.makes; output = (m.output ++ prints) ++ more }) (changed_twice m.all q (λ o. p) (λ o. p'))
      ∙ ap (λ bytes. record { code = m.code; all = changed m.all q (λ o. p'); makes = m.makes; output = bytes }) (append_assoc m.output prints more)

  place_put : (prints : List ℕ) (p p' : Processor) → with_processor (in_place prints p) q p' ≡ in_place (prints ++ []) p'
  place_put prints p p' =
      ap (λ all. record { code = m.code; all = all; makes = m.makes; output = m.output ++ prints }) (changed_twice m.all q (λ o. p) (λ o. p'))
      ∙ ap (λ bytes. in_place bytes p') (sym (append_none prints))

  -- who is in the hand; and where it ends
  abbrev pub StandsIn : Turning → Phase → Type 0
  StandsIn s Serving = s.proc.hand ≡ None
  StandsIn s Picking = s.proc.hand ≡ None
  StandsIn s (Running slice made) = (n : ℕ) × (s.proc.hand ≡ Some n)
  StandsIn s (Leaving made) = (n : ℕ) × (s.proc.hand ≡ Some n)
  StandsIn s (Closed (Fault kind t)) = Faults (in_place s.prints s.proc) kind t
  StandsIn s (Closed Idle) = s.proc.hand ≡ None
  StandsIn s (Closed Quota) = s.proc.hand ≡ None

  -- those of the slice that are not noted yet
  abbrev pub open_steps : Turning → List Label
  open_steps s = own_steps q s.proc.hand (in_slice s.phase)

  pub record TickRuns (s s' : Turning) : Type 0 where
    pub steps : List Label
    pub run : Run (in_place s.prints s.proc) steps (in_place s'.prints s'.proc)
    pub stands : StandsIn s' s'.phase
    pub spent : length steps + s'.quota ≡ s.quota
    pub counted : noted s'.notes + in_slice s'.phase ≡ noted s.notes + in_slice s.phase + length steps
    pub labels : labelled s'.notes ++ open_steps s' ≡ (labelled s.notes ++ open_steps s) ++ steps

  -- nothing is moved
  stays_so : (s : Turning) (x : Phase) → in_slice x ≡ in_slice s.phase → StandsIn s x → TickRuns s (at_phase s x)
  stays_so s x same stands = record {
    steps = [];
    run = Stays;
    stands = by x stands;
    spent = omega arith;
    counted = omega (arith, same);
    labels = ap (λ k. labelled s.notes ++ own_steps q s.proc.hand k) same ∙ sym (append_none (labelled s.notes ++ open_steps s));
  }
    where
      by : (y : Phase) → StandsIn s y → StandsIn (at_phase s y) y
      by Serving h = h
      by Picking h = h
      by (Running slice made) h = h
      by (Leaving made) h = h
      by (Closed (Fault kind t)) h = h
      by (Closed Idle) h = h
      by (Closed Quota) h = h

  -- one move
  moves_so : (s : Turning) (p : Processor) (step : Option Label) (prints : List ℕ) (notes : List Note) (quota : ℕ) (x : Phase)
      → Moves (in_place s.prints s.proc) step (in_place (s.prints ++ prints) p) → StandsIn (went s p prints notes quota x) x → length (one_or_none step) + quota ≡ s.quota
      → noted notes + in_slice x ≡ in_slice s.phase + length (one_or_none step)
      → labelled notes ++ own_steps q p.hand (in_slice x) ≡ open_steps s ++ one_or_none step → TickRuns s (went s p prints notes quota x)
  moves_so s p step prints notes quota x v stands spent counted labels = record {
    steps = one_or_none step;
    run = machine.Then Stays v;
    stands = stands;
    spent = omega (arith, spent);
    counted = let e = noted_append s.notes notes in omega (arith, counted, e);
    labels =
        ap (λ ls. ls ++ own_steps q p.hand (in_slice x)) (labelled_append s.notes notes)
        ∙ (append_assoc (labelled s.notes) (labelled notes) (own_steps q p.hand (in_slice x))
        ∙ (ap (λ ls. labelled s.notes ++ ls) labels ∙ sym (append_assoc (labelled s.notes) (open_steps s) (one_or_none step))));
  }

  -- the generator has no part in it
  same_start : (s : Turning) (state : ℕ) (s' : Turning) → TickRuns (with_state m.code q word s state) s' → TickRuns s s'
  same_start s state s' r = record { steps = r.steps; run = r.run; stands = r.stands; spent = r.spent; counted = r.counted; labels = r.labels }

  -- ---- a message

  module _ (s : Turning) (quota : ℕ) (message : Message) (x : Phase) (some : s.quota ≡ suc quota) (before : in_slice s.phase ≡ 0) (behind : in_slice x ≡ 0)
      (free : s.proc.hand ≡ None) (frees : (s' : Turning) → s'.proc.hand ≡ None → StandsIn s' x) where
    -- no step of the slice is open
    closed_then : (notes : List Note) (p : Processor) (step : Option Label) → labelled notes ≡ one_or_none step
        → labelled notes ++ own_steps q p.hand (in_slice x) ≡ open_steps s ++ one_or_none step
    closed_then notes p step e =
        ap (λ ls. labelled notes ++ ls) (none_made q p.hand (in_slice x) behind)
        ∙ (append_none (labelled notes) ∙ (e ∙ ap (λ ls. ls ++ one_or_none step) (sym (none_made q s.proc.hand (in_slice s.phase) before))))

    after_serve : (did : Did Processor) → Same (λ p. p.hand) s.proc did → IsNoted (labels_in (Served q message)) did
        → ((step : Option Label) (prints : List ℕ) (p : Processor) → did ≡ Went step prints p
        → Moves (in_place s.prints s.proc) step (printing prints (with_processor (in_place s.prints s.proc) q p)))
        → ((kind : FaultKind) (t : ThreadNo) → did ≡ Failed kind t → Faults (in_place s.prints s.proc) kind t) → TickRuns s (after_serving m.code q word s quota message x did)
    after_serve (Went (Some l) prints p) same note moves faults =
        moves_so s p (Some l) prints (Served q message ∷ []) quota x (subst (Moves (in_place s.prints s.proc) (Some l)) (place_moved s.prints prints s.proc p) (moves (Some l) prints p refl))
        (frees (went s p prints (Served q message ∷ []) quota x) (same ∙ free)) (omega (arith, some)) (omega (arith, before, behind))
        (closed_then (Served q message ∷ []) p (Some l) (append_none (labels_in (Served q message)) ∙ note))
    after_serve (Went None prints p) same note moves faults =
        moves_so s p None prints [] (suc quota) x (subst (Moves (in_place s.prints s.proc) None) (place_moved s.prints prints s.proc p) (moves None prints p refl))
        (frees (went s p prints [] (suc quota) x) (same ∙ free)) (omega (arith, some)) (omega (arith, before, behind)) (closed_then [] p None refl)
    after_serve (Failed kind t) same note moves faults = stays_so s (Closed (Fault kind t)) (omega (arith, before)) (faults kind t refl)

  serving : (s : Turning) → in_slice s.phase ≡ 0 → s.proc.hand ≡ None → (k : ℕ) → s.quota ≡ k → (messages : List Message) → s.proc.inbox ≡ messages
      → TickRuns s (serves_on m.code q word s k messages)
  serving s before free zero e messages d = stays_so s Picking (omega (arith, before)) free
  serving s before free (suc k) e [] d = stays_so s Picking (omega (arith, before)) free
  serving s before free (suc k) e (message ∷ rest) d =
      after_serve s k message Serving e before refl free (λ s' h. h) (served m.code q s.proc) (served_hand m.code q s.proc.inbox s.proc)
      (subst (λ ms. IsNoted (labels_in (Served q message)) (serves_inbox m.code q ms s.proc)) (sym d) (first_noted m.code q message rest s.proc))
      (λ step prints p same. ServesFirst q s.proc message rest step prints p (place_there s.prints s.proc) d same)
      (λ kind t same. ServesBadly q s.proc (place_there s.prints s.proc) same)

  -- ---- a waiter

  closed_so : (s : Turning) → s.proc.hand ≡ None → (ws : List Waiter) (ms : List Message) → StandsIn s (Closed (end_of ws ms))
  closed_so s free [] [] = free
  closed_so s free [] (x ∷ ms) = free
  closed_so s free (w ∷ ws) ms = free

  picking : (s : Turning) → in_slice s.phase ≡ 0 → s.proc.hand ≡ None → (k : ℕ) → s.quota ≡ k → (waiters : List Waiter) → s.proc.ready ≡ waiters
      → TickRuns s (picks m.code q word s k waiters)
  picking s before free zero e waiters d = stays_so s (Closed (end_of s.proc.ready s.proc.inbox)) (omega (arith, before)) (closed_so s free s.proc.ready s.proc.inbox)
  picking s before free (suc k) e [] d = stays_so s (Closed (end_of s.proc.ready s.proc.inbox)) (omega (arith, before)) (closed_so s free s.proc.ready s.proc.inbox)
  picking s before free (suc k) e (w ∷ ws) d = by (slice_get s.proc.ready c.place) refl
    where
      c : Pick
      c = pick word s.state (length (w ∷ ws))

      by : (o : Option Waiter) → slice_get s.proc.ready (pick word s.state (length (w ∷ ws))).place ≡ o
          → TickRuns s (takes m.code q word (with_state m.code q word s (pick word s.state (length (w ∷ ws))).state) k (pick word s.state (length (w ∷ ws))) o)
      by None h = same_start s (pick word s.state (length (w ∷ ws))).state _ (stays_so (with_state m.code q word s (pick word s.state (length (w ∷ ws))).state) (Closed (end_of s.proc.ready s.proc.inbox)) (omega (arith, before)) (closed_so s free s.proc.ready s.proc.inbox))
      by (Some (Own n)) h =
          let z : Pick = pick word s.state (length (w ∷ ws)) in
          same_start s z.state _ (moves_so (with_state m.code q word s z.state) (in_hand n (take z.place s.proc.ready ++ drop (z.place + 1) s.proc.ready) s.proc) None [] [] (suc k) (Running z.slice 0)
          (subst (Moves (in_place s.prints s.proc) None) (place_put s.prints s.proc (in_hand n (take z.place s.proc.ready ++ drop (z.place + 1) s.proc.ready) s.proc))
          (TakesUp q s.proc (take z.place s.proc.ready) n (drop (z.place + 1) s.proc.ready) (place_there s.prints s.proc) free (split_at s.proc.ready z.place (Own n) h)))
          (n, refl) (omega (arith, e)) (omega (arith, before)) (sym (append_none (open_steps s) ∙ none_made q s.proc.hand (in_slice s.phase) before)))
      by (Some (Asked t post)) h =
          let z : Pick = pick word s.state (length (w ∷ ws)) in
          same_start s z.state _ (after_serve (with_state m.code q word s z.state) k (Asks t post) Picking e before refl free (λ s' g. g)
          (serves m.code q t post (without_ready (take z.place s.proc.ready ++ drop (z.place + 1) s.proc.ready) s.proc) s.proc)
          (serves_hand m.code q t post (without_ready (take z.place s.proc.ready ++ drop (z.place + 1) s.proc.ready) s.proc) s.proc refl)
          (serves_noted m.code q t post (without_ready (take z.place s.proc.ready ++ drop (z.place + 1) s.proc.ready) s.proc) s.proc)
          (λ step prints p same. ServesWoken q s.proc (take z.place s.proc.ready) t post (drop (z.place + 1) s.proc.ready) step prints p (place_there s.prints s.proc)
          (split_at s.proc.ready z.place (Asked t post) h) same)
          (λ kind u same. WakesBadly q s.proc (take z.place s.proc.ready) t post (drop (z.place + 1) s.proc.ready) (place_there s.prints s.proc) (split_at s.proc.ready z.place (Asked t post) h) same))

  -- ---- the thread in the hand

  module _ (s : Turning) (i made : ℕ) (hand : s.proc.hand ≡ Some i) (before : in_slice s.phase ≡ made) where
    move_of : (step : Option Label) (prints : List ℕ) (p : Processor) → moved m.code q s.proc ≡ Went step prints p → Moves (in_place s.prints s.proc) step (in_place (s.prints ++ prints) p)
    move_of step prints p e =
        subst (Moves (in_place s.prints s.proc) step) (place_moved s.prints prints s.proc p) (MovesOn q s.proc i step prints p (place_there s.prints s.proc) hand e)

    -- a move is its own, and it stays in the hand or leaves it
    move_own : (step : Option Label) (prints : List ℕ) (p : Processor) → moved m.code q s.proc ≡ Went step prints p → IsOwn q i step × InHand i p
    move_own step prints p e = subst (HandIs q i) e (moved_hand m.code q i s.proc hand)

    in_hand_still : (n : ℕ) (p : Processor) → p.hand ≡ Some n → InHand i p → n ≡ i
    in_hand_still n p h (inl gone) = absurd (none-some n (sym gone ∙ h))
    in_hand_still n p h (inr still) = same_Some n i (sym h ∙ still)

    open_is : open_steps s ≡ own_steps q (Some i) made
    open_is = ap (λ o. own_steps q o (in_slice s.phase)) hand ∙ ap (own_steps q (Some i)) before

    -- what is noted of the slice, with a step
    noted_then : (now : ℕ) (step : Option Label) → IsOwn q i step → now ≡ made + length (one_or_none step)
        → labelled (ran q s.proc.hand now) ≡ open_steps s ++ one_or_none step
    noted_then now step own e =
        ran_labelled q s.proc.hand now ∙ (ap (λ o. own_steps q o now) hand
        ∙ (own_then q i made now step own e ∙ ap (λ ls. ls ++ one_or_none step) (sym open_is)))

    gone_then : (p : Processor) (now : ℕ) (step : Option Label) → p.hand ≡ None → IsOwn q i step → now ≡ made + length (one_or_none step)
        → labelled (ran q s.proc.hand now) ++ own_steps q p.hand 0 ≡ open_steps s ++ one_or_none step
    gone_then p now step h own e =
        ap (λ ls. labelled (ran q s.proc.hand now) ++ ls) (none_made q p.hand 0 refl)
        ∙ (append_none (labelled (ran q s.proc.hand now)) ∙ noted_then now step own e)

    still_then : (n : ℕ) (p : Processor) (now : ℕ) (step : Option Label) → p.hand ≡ Some n → InHand i p → IsOwn q i step → now ≡ made + length (one_or_none step)
        → own_steps q p.hand now ≡ open_steps s ++ one_or_none step
    still_then n p now step h still own e =
        ap (λ o. own_steps q o now) (h ∙ ap (λ k. Some k) (in_hand_still n p h still))
        ∙ (own_then q i made now step own e ∙ ap (λ ls. ls ++ one_or_none step) (sym open_is))

    stays_or : (o : Option ℕ) (p : Processor) (step : Option Label) (prints : List ℕ) (quota slice now : ℕ) → p.hand ≡ o → moved m.code q s.proc ≡ Went step prints p
        → length (one_or_none step) + quota ≡ s.quota → now ≡ made + length (one_or_none step) → TickRuns s (stays m.code q word s o p prints quota slice now)
    stays_or (Some n) p step prints quota slice now h e spent same =
        let own = move_own step prints p e in
        moves_so s p step prints [] quota (Running slice now) (move_of step prints p e) (n, h) spent (omega (arith, before, same)) (still_then n p now step h own.1 own.0 same)
    stays_or None p step prints quota slice now h e spent same =
        moves_so s p step prints (ran q s.proc.hand now) quota Picking (move_of step prints p e) h spent (let d = ran_noted q s.proc.hand i now hand in omega (arith, before, same, d))
        (gone_then p now step h (move_own step prints p e).0 same)

    running : (k l : ℕ) → s.quota ≡ suc k → (did : Did Processor) → moved m.code q s.proc ≡ did → TickRuns s (after_move m.code q word s k l made did)
    running k l some (Went (Some z) prints p) e = stays_or p.hand p (Some z) prints k l (suc made) refl e (omega (arith, some)) (omega arith)
    running k l some (Went None prints p) e = stays_or p.hand p None prints (suc k) (suc l) made refl e (omega (arith, some)) (omega arith)
    running k l some (Failed kind t) e = record {
      steps = [];
      run = subst (Run (in_place s.prints s.proc) []) (ap (λ bytes. in_place bytes s.proc) (sym (append_none s.prints))) Stays;
      stands = subst (λ bytes. Faults (in_place bytes s.proc) kind t) (sym (append_none s.prints)) (MovesBadly q s.proc (place_there s.prints s.proc) e);
      spent = omega (arith, some);
      counted = let d = ran_noted q s.proc.hand i made hand in let a = noted_append s.notes (ran q s.proc.hand made) in omega (arith, before, d, a);
      labels =
          ap (λ ls. labelled (s.notes ++ ran q s.proc.hand made) ++ ls) (none_made q s.proc.hand 0 refl)
          ∙ (append_none (labelled (s.notes ++ ran q s.proc.hand made))
          ∙ (labelled_append s.notes (ran q s.proc.hand made)
          ∙ (ap (λ ls. labelled s.notes ++ ls) (noted_then made None tt (omega arith)) ∙ sym (append_assoc (labelled s.notes) (open_steps s) []))));
    }

    ending_or : (o : Option ℕ) (p : Processor) (prints : List ℕ) → p.hand ≡ o → moved m.code q s.proc ≡ Went None prints p → TickRuns s (ended_or_not m.code q word s o p prints made)
    ending_or (Some n) p prints h e =
        moves_so s p None prints [] s.quota (Leaving made) (move_of None prints p e) (n, h) (omega arith) (omega (arith, before))
        (still_then n p made None h (move_own None prints p e).1 tt (omega arith))
    ending_or None p prints h e =
        moves_so s p None prints (ran q s.proc.hand made) s.quota Picking (move_of None prints p e) h (omega arith) (let d = ran_noted q s.proc.hand i made hand in omega (arith, before, d))
        (gone_then p made None h tt (omega arith))

    none_moves : s.phase ≡ Leaving made → TickRuns s s
    none_moves phase = record {
      steps = [];
      run = Stays;
      stands = subst (StandsIn s) (sym phase) (i, hand);
      spent = omega arith;
      counted = omega arith;
      labels = sym (append_none (labelled s.notes ++ open_steps s));
    }

    ending : s.phase ≡ Leaving made → (did : Did Processor) → moved m.code q s.proc ≡ did → TickRuns s (after_end m.code q word s made did)
    ending phase (Went None prints p) e = ending_or p.hand p prints refl e
    ending phase (Went (Some l) prints p) e = none_moves phase
    ending phase (Failed kind t) e = none_moves phase

    putting : (o : Option ℕ) → s.proc.hand ≡ o → TickRuns s (put_back m.code q word s made o)
    putting None e = absurd (none-some i (sym e ∙ hand))
    putting (Some n) e =
        moves_so s (at_back n s.proc) None [] (ran q (Some n) made) s.quota Picking
        (subst (Moves (in_place s.prints s.proc) None) (place_put s.prints s.proc (at_back n s.proc)) (PutsBack q s.proc n (place_there s.prints s.proc) e))
        refl (omega arith) (let d = ran_noted q (Some n) n made refl in omega (arith, before, d))
        (append_none (labelled (ran q (Some n) made))
        ∙ (ran_labelled q (Some n) made
        ∙ (ap (λ o. own_steps q o made) (sym e) ∙ (ap (own_steps q s.proc.hand) (sym before) ∙ sym (append_none (open_steps s))))))

    leaving : s.phase ≡ Leaving made → (b : Bool) → TickRuns s (leaves m.code q word s made b)
    leaving phase true = ending phase (moved m.code q s.proc) refl
    leaving phase false = putting s.proc.hand refl

    runs_so : (k l : ℕ) → s.quota ≡ k → TickRuns s (runs_on m.code q word s k l made)
    runs_so zero l e = stays_so s (Leaving made) (sym before) (i, hand)
    runs_so (suc k) zero e = stays_so s (Leaving made) (sym before) (i, hand)
    runs_so (suc k) (suc l) e = running k l e (moved m.code q s.proc) refl

  closed_stays : (s : Turning) → StandsIn s s.phase → TickRuns s s
  closed_stays s stands = record {
    steps = [];
    run = Stays;
    stands = stands;
    spent = omega arith;
    counted = omega arith;
    labels = sym (append_none (labelled s.notes ++ open_steps s));
  }

  pub tick_runs : (s : Turning) → StandsIn s s.phase → TickRuns s (tick m.code q word s)
  tick_runs s stands = by s.phase refl
    where
      by : (x : Phase) → s.phase ≡ x → TickRuns s (tick_in m.code q word s x)
      by Serving e = serving s (ap in_slice e) (subst (StandsIn s) e stands) s.quota refl s.proc.inbox refl
      by Picking e = picking s (ap in_slice e) (subst (StandsIn s) e stands) s.quota refl s.proc.ready refl
      by (Running slice made) e = let h = subst (StandsIn s) e stands in runs_so s h.0 made h.1 (ap in_slice e) s.quota slice refl
      by (Leaving made) e = let h = subst (StandsIn s) e stands in leaving s h.0 made h.1 (ap in_slice e) e (ends_soon m.code q word s.proc s.proc.hand)
      by (Closed z) e = closed_stays s stands

  pub ticks_run : (n : ℕ) (s : Turning) → StandsIn s s.phase → TickRuns s (ticks m.code q word n s)
  ticks_run zero s stands = closed_stays s stands
  ticks_run (suc n) s stands =
      let a = ticks_run n s stands in
      let b = tick_runs (ticks m.code q word n s) a.stands in
      record {
        steps = a.steps ++ b.steps;
        run = run_then (in_place s.prints s.proc) (in_place (ticks m.code q word n s).prints (ticks m.code q word n s).proc) _ a.steps b.steps a.run b.run;
        stands = b.stands;
        spent = let c = length_append a.steps b.steps in omega (arith, a.spent, b.spent, c);
        counted = let c = length_append a.steps b.steps in omega (arith, a.counted, b.counted, c);
        labels = b.labels ∙ (ap (λ ls. ls ++ b.steps) a.labels ∙ append_assoc (labelled s.notes ++ open_steps s) a.steps b.steps);
      }
