-- With quota left no message waits once the inbox was served: so a turn ends idle, or with its quota used up.
use Rattle.std.proofs.Common.{◌≡◌, ◌⊎◌, inl, inr, ℕ, zero, suc, ◌+◌, ◌<◌, ◌≤◌, List, [], ◌∷◌, ◌++◌, length, map, take, drop, Bool, true, false, Option, Some, None, refl, sym, ap, ◌∙◌, subst, arith}
use Rattle.std.specs.Prelude.{slice_get, if◌then◌else◌}
use Rattle.std.proofs.lemmas.Option.{none-some, same_Some}
use Rattle.global_ptr.specs.declared.ends.FaultKind.TheVariants.{NullPointer}
use Rattle.rand_xoshiro.specs.SplitMix64.{mix_u64}
use Rattle.cc_ops.specs.Values.{Value, Void, Int, Null, Ptr}
use Rattle.cc_ops.specs.Machine.{Address, Values}
use Rattle.cc_ops.specs.declared.number.ThreadNo.{ThreadNo}
use Rattle.cc_ops.specs.Shelves.{changed}
use Rattle.cc_core.specs.Asks.{Ask, Answer, Reads, Enters, Leaves}
use Rattle.cc_core.specs.Asks as asks
use Rattle.cc_core.specs.Numbers.{Post, Get, Put, Call, Cast, Make}
use Rattle.cc_core.specs.Needs.{Verdict, Go, Hold, Bad}
use Rattle.cc_code.specs.Code.{Code, Then, Move, Silent, Does, Ends, Stuck, move}
use Rattle.numbered_runs.specs.Posts.{posted}
use Rattle.law_mesh.specs.Local.{write_on}
use Rattle.law_processors.specs.Living.{one_lives, joins_of}
use Rattle.law_mesh.specs.Spots.{Fiber, verdict}
use Rattle.law_mesh.specs.Queues.{Message, Asks, holds_none}
use Rattle.law_processors.specs.Processors.{Waiter, Own, Asked, Goes, Joins, Asking, Has, Entry, Lives, Ended, Locked, Processor, Processors, with_processor, printing}
use Rattle.law_processors.specs.Alone.{OwnStep, Did, Went, Failed, be_ready, served, put_entry, put_hand, put_shelf, send, alone_at, seen_entry, seen, goes_into, is_taken, wait_for_lock, enters_later, joins_later, waits, rejoins, rejoined, tell, ended, effect_here, stepped_here, may_step, decided, asks_itself, asks_null, asks_here, asks_by, moves_by, entry_moves, hand_moves, moved, answer, park_get, served_so, serves, nobody, ask_of}
use Rattle.law_processors.specs.Machine.{without_ready, Run}
use Rattle.law_rounds.specs.Turn.{Note, begin, TurnIs, TurnRuns, EndsSo, TurnEnd, Quota, Idle, Fault, Phase, Serving, Picking, Running, Leaving, Closed, Turning, Pick, pick, at_phase, end_of, closes}
use Rattle.law_rounds.specs.Turn.{after_serving, serves_on, takes, with_state, picks, stays, after_move, runs_on, ends_soon, ended_or_not, after_end, put_back, leaves, tick_in, tick, ticks}
use Rattle.law_mesh.proofs.Local.{changed_alike, changed_same}
use Rattle.law_processors.proofs.Base.{append_none}
use Rattle.law_rounds.proofs.Kept.{Same, wake_same, stepped_same}
use Rattle.law_rounds.specs.Turn.{labelled}
use Rattle.law_rounds.proofs.Turns.{StandsIn, TickRuns, ticks_run, none_made}

-- ---- what a move leaves in the inbox

same_inbox : (p r : Processor) → r.inbox ≡ p.inbox → r.hand ≡ p.hand → r.inbox ≡ p.inbox
same_inbox p r inbox hand = inbox

lock_wait_inbox : (n o : ℕ) (l : Option Locked) (p : Processor) → (wait_for_lock n o l p).inbox ≡ p.inbox
lock_wait_inbox n o None p = refl
lock_wait_inbox n o (Some l) p = refl

later_inbox : (n : ℕ) (o : Option Address) (p : Processor) → (enters_later n o p).inbox ≡ p.inbox
later_inbox n None p = refl
later_inbox n (Some b) p = lock_wait_inbox n b.object (p.locks b.object) p

joins_inbox : (q n : ℕ) (f : Fiber) (caller : Option ThreadNo) (made : List ℕ) (p : Processor) → (joins_later q n f caller made p).inbox ≡ p.inbox
joins_inbox q n f caller made p = by (one_lives (alone_at q [] (map seen_entry p.table)) f.kids made)
  where
    by : (b : Bool) → (if b then put_hand None (put_entry n (Lives f Joins caller) p) else p).inbox ≡ p.inbox
    by true = refl
    by false = refl

waits_inbox : (code : Code) (q n : ℕ) (f : Fiber) (caller : Option ThreadNo) (ask : Ask Address) (p : Processor) → (waits code q n f caller ask p).inbox ≡ p.inbox
waits_inbox code q n f caller (Reads remote (Ptr b x)) p = refl
waits_inbox code q n f caller (Reads remote Void) p = refl
waits_inbox code q n f caller (Reads remote (Int z)) p = refl
waits_inbox code q n f caller (Reads remote Null) p = refl
waits_inbox code q n f caller (asks.Joins made) p = joins_inbox q n f caller made p
waits_inbox code q n f caller ask p = later_inbox n (goes_into code.shapes ask) p

rejoins_inbox : (code : Code) (q n : ℕ) (o : Option Entry) (p : Processor) → (rejoins code q n o p).inbox ≡ p.inbox
rejoins_inbox code q n None p = refl
rejoins_inbox code q n (Some (Ended v)) p = refl
rejoins_inbox code q n (Some (Lives f Goes c)) p = refl
rejoins_inbox code q n (Some (Lives f Asking c)) p = refl
rejoins_inbox code q n (Some (Lives f (Has v) c)) p = refl
rejoins_inbox code q n (Some (Lives f Joins c)) p = by (one_lives (alone_at q [] (map seen_entry p.table)) f.kids (joins_of (move code f.thread)))
  where
    by : (b : Bool) → (if b then p else be_ready (Own n) (put_entry n (Lives f Goes c) p)).inbox ≡ p.inbox
    by true = refl
    by false = refl

rejoined_inbox : (code : Code) (q k : ℕ) (p : Processor) → (rejoined code q k p).inbox ≡ p.inbox
rejoined_inbox code q zero p = refl
rejoined_inbox code q (suc k) p = rejoins_inbox code q k (slice_get (rejoined code q k p).table k) (rejoined code q k p) ∙ rejoined_inbox code q k p

tell_inbox : (q n : ℕ) (c : Option ThreadNo) (v : Value Address) (p : Processor) → (tell q n c v p).inbox ≡ p.inbox
tell_inbox q n None v p = refl
tell_inbox q n (Some t) v p = refl

ended_inbox : (code : Code) (q n : ℕ) (c : Option ThreadNo) (v : Value Address) (p : Processor) → (ended code q n c v p).inbox ≡ p.inbox
ended_inbox code q n c v p =
    rejoined_inbox code q (length p.table) (tell q n c v (put_hand None (put_entry n (Ended v) p))) ∙ tell_inbox q n c v (put_hand None (put_entry n (Ended v) p))

module _ (code : Code) (q n : ℕ) (f : Fiber) (caller : Option ThreadNo) (ask : Ask Address) (k : Answer Address → Then Address) (p : Processor) where
  stepped_inbox : (found : Values) → (stepped_here code q n f caller ask k p found).inbox ≡ p.inbox
  stepped_inbox found = stepped_same (λ r. r.inbox) same_inbox code q n f caller ask k p found

  decided_inbox : (v : Verdict Address) → Same (λ r. r.inbox) p (decided code q n f caller ask k p v)
  decided_inbox (Go found) = by (may_step code q n f caller ask k p found)
    where
      by : (b : Bool) → Same (λ r. r.inbox) p (if b then Went (Some (OwnStep (record { processor = q; thread = n }))) (effect_here code q n f caller ask k p found).prints (stepped_here code q n f caller ask k p found) else Went None [] p)
      by true = stepped_inbox found
      by false = refl
  decided_inbox Hold = waits_inbox code q n f caller ask p
  decided_inbox (Bad kind) = tt

  itself_inbox : Same (λ r. r.inbox) p (asks_itself code q n f caller ask k p)
  itself_inbox = by (is_taken p n (goes_into code.shapes ask))
    where
      by : (b : Bool) → Same (λ r. r.inbox) p (if b then Went None [] (enters_later n (goes_into code.shapes ask) p) else decided code q n f caller ask k p (verdict (seen code q p) q f ask))
      by true = later_inbox n (goes_into code.shapes ask) p
      by false = decided_inbox (verdict (seen code q p) q f ask)

  asks_inbox : (o : Option Post) → Same (λ r. r.inbox) p (asks_by code q n f caller ask k p o)
  asks_inbox None = by (asks_null ask) (asks_here q f ask)
    where
      by : (b c : Bool) → Same (λ r. r.inbox) p (if b then Failed NullPointer (record { processor = q; thread = n }) else (if c then asks_itself code q n f caller ask k p else Went None [] p))
      by true c = tt
      by false true = itself_inbox
      by false false = refl
  asks_inbox (Some post) = by (holds_none code.shapes f.inside)
    where
      by : (b : Bool) → Same (λ r. r.inbox) p (if b then Went None [] (send (Asks (record { processor = q; thread = n }) post) (put_hand None (put_entry n (Lives f Asking caller) p))) else Went None [] p)
      by true = refl
      by false = refl

moves_inbox : (code : Code) (q n : ℕ) (f : Fiber) (caller : Option ThreadNo) (mv : Move Address) (p : Processor) → Same (λ r. r.inbox) p (moves_by code q n f caller mv p)
moves_inbox code q n f caller (Silent c) p = refl
moves_inbox code q n f caller (Does line ask k) p = asks_inbox code q n f caller ask k p (posted ask)
moves_inbox code q n f caller (Ends v) p = ended_inbox code q n caller v p
moves_inbox code q n f caller Stuck p = refl

entry_inbox : (code : Code) (q n : ℕ) (o : Option Entry) (p : Processor) → Same (λ r. r.inbox) p (entry_moves code q n o p)
entry_inbox code q n None p = refl
entry_inbox code q n (Some (Ended v)) p = refl
entry_inbox code q n (Some (Lives f Goes c)) p = moves_inbox code q n f c (move code f.thread) p
entry_inbox code q n (Some (Lives f Joins c)) p = refl
entry_inbox code q n (Some (Lives f Asking c)) p = refl
entry_inbox code q n (Some (Lives f (Has v) c)) p = refl

hand_inbox : (code : Code) (q : ℕ) (o : Option ℕ) (p : Processor) → Same (λ r. r.inbox) p (hand_moves code q o p)
hand_inbox code q None p = refl
hand_inbox code q (Some n) p = entry_inbox code q n (slice_get p.table n) p

pub moved_inbox : (code : Code) (q : ℕ) (p : Processor) → Same (λ r. r.inbox) p (moved code q p)
moved_inbox code q p = hand_inbox code q p.hand p

answer_inbox : (t : ThreadNo) (post : Post) (found : Values) (p : Processor) → (answer t post found p).inbox ≡ p.inbox
answer_inbox t (Get a) found p = refl
answer_inbox t (Put a v) found p = wake_same (λ r. r.inbox) same_inbox a (put_shelf (write_on p.shelf a v) p)
answer_inbox t (Call f o vs) found p = refl
answer_inbox t (Cast f o vs) found p = refl
answer_inbox t (Make c vs) found p = refl

park_inbox : (t : ThreadNo) (post : Post) (after before : Processor) → after.inbox ≡ before.inbox → (park_get t post after before).inbox ≡ before.inbox
park_inbox t (Get Void) after before e = refl
park_inbox t (Get (Int n)) after before e = refl
park_inbox t (Get Null) after before e = refl
park_inbox t (Get (Ptr b x)) after before e = e
park_inbox t (Put a v) after before e = refl
park_inbox t (Call f o vs) after before e = refl
park_inbox t (Cast f o vs) after before e = refl
park_inbox t (Make c vs) after before e = refl

served_so_inbox : (q : ℕ) (t : ThreadNo) (post : Post) (v : Verdict Address) (after before : Processor) → after.inbox ≡ before.inbox → Same (λ p. p.inbox) before (served_so q t post v after before)
served_so_inbox q t post (Go found) after before e = answer_inbox t post found after ∙ e
served_so_inbox q t post Hold after before e = park_inbox t post after before e
served_so_inbox q t post (Bad kind) after before e = tt

-- ---- ticks

is_there : {X : Type 0} (xs : List X) (k : ℕ) → slice_get xs k ≡ None → k < length xs → ⊥
is_there [] k e lt = absurd (omega (arith, lt))
is_there (x ∷ xs) zero e lt = none-some x (sym e)
is_there (x ∷ xs) (suc k) e lt = is_there xs k e (omega (arith, lt))

module _ (code : Code) (q word : ℕ) where
  -- while quota is left no message waits, once the inbox was served
  abbrev pub Ordered : Turning → Phase → Type 0
  Ordered s Serving = Unit {0}
  Ordered s Picking = (k : ℕ) → s.quota ≡ suc k → s.proc.inbox ≡ []
  Ordered s (Running slice made) = (k : ℕ) → s.quota ≡ suc k → s.proc.inbox ≡ []
  Ordered s (Leaving made) = (k : ℕ) → s.quota ≡ suc k → s.proc.inbox ≡ []
  Ordered s (Closed Idle) = (s.proc.ready ≡ []) × (s.proc.inbox ≡ [])
  Ordered s (Closed Quota) = (s.quota ≡ 0) × (end_of s.proc.ready s.proc.inbox ≡ Quota)
  Ordered s (Closed (Fault kind t)) = 1 ≤ s.quota

  none_left : (k : ℕ) → zero ≡ suc k → ⊥
  none_left k e = absurd (omega (arith, e))

  -- ---- how it closes

  closed_idle : (s : Turning) (ws : List Waiter) (ms : List Message) → s.proc.ready ≡ ws → s.proc.inbox ≡ ms → (s.quota ≡ 0) ⊎ ((ws ≡ []) × (ms ≡ []))
      → Ordered (at_phase s (Closed (end_of ws ms))) (Closed (end_of ws ms))
  closed_idle s [] [] e d h = (e, d)
  closed_idle s [] (x ∷ ms) e d (inl h) = (h, ap (λ ws. end_of ws s.proc.inbox) e ∙ ap (end_of []) d)
  closed_idle s [] (x ∷ ms) e d (inr h) = let bad : x ∷ ms ≡ [] = h.1 in absurd (cc)
  closed_idle s (w ∷ ws) ms e d (inl h) = (h, ap (λ us. end_of us s.proc.inbox) e)
  closed_idle s (w ∷ ws) ms e d (inr h) = let bad : w ∷ ws ≡ [] = h.0 in absurd (cc)

  closes_so : (s : Turning) → (s.quota ≡ 0) ⊎ ((s.proc.ready ≡ []) × (s.proc.inbox ≡ [])) → Ordered (closes s) (closes s).phase
  closes_so s h = closed_idle s s.proc.ready s.proc.inbox refl refl h

  -- ---- the inbox

  serve_phase : (s : Turning) (quota : ℕ) (message : Message) → s.quota ≡ suc quota → (did : Did Processor) → Ordered (after_serving code q word s quota message Serving did) (after_serving code q word s quota message Serving did).phase
  serve_phase s quota message some (Went (Some l) prints p) = tt
  serve_phase s quota message some (Went None prints p) = tt
  serve_phase s quota message some (Failed kind t) = omega (arith, some)

  serving : (s : Turning) (k : ℕ) (messages : List Message) → s.quota ≡ k → s.proc.inbox ≡ messages → Ordered (serves_on code q word s k messages) (serves_on code q word s k messages).phase
  serving s zero messages e d = λ k h. absurd (none_left k (sym e ∙ h))
  serving s (suc k) [] e d = λ j h. d
  serving s (suc k) (message ∷ rest) e d = serve_phase s k message e (served code q s.proc)

  -- ---- a waiter

  woken_phase : (s : Turning) (quota : ℕ) (message : Message) → s.quota ≡ suc quota → (did : Did Processor) → s.proc.inbox ≡ [] → Same (λ p. p.inbox) s.proc did
      → Ordered (after_serving code q word s quota message Picking did) (after_serving code q word s quota message Picking did).phase
  woken_phase s quota message some (Went (Some l) prints p) none same = λ k h. same ∙ none
  woken_phase s quota message some (Went None prints p) none same = λ k h. same ∙ none
  woken_phase s quota message some (Failed kind t) none same = omega (arith, some)

  -- a place that is drawn is one of the list
  pick_place : (w state n : ℕ) → (pick w state (suc n)).place < suc n
  pick_place zero state n = omega arith
  pick_place (suc w) state n = let x = (mix_u64 state).0 in omega arith

  picking : (s : Turning) (k : ℕ) (waiters : List Waiter) → s.quota ≡ k → s.proc.ready ≡ waiters → ((j : ℕ) → s.quota ≡ suc j → s.proc.inbox ≡ [])
      → Ordered (picks code q word s k waiters) (picks code q word s k waiters).phase
  picking s zero waiters e d none = closes_so s (inl e)
  picking s (suc k) [] e d none = closes_so s (inr (d, none k e))
  picking s (suc k) (w ∷ ws) e d none = by (slice_get s.proc.ready (pick word s.state (length (w ∷ ws))).place) refl
    where
      inside : (pick word s.state (length (w ∷ ws))).place < length s.proc.ready
      inside = subst (λ us. (pick word s.state (length (w ∷ ws))).place < length us) (sym d) (pick_place word s.state (length ws))

      by : (o : Option Waiter) → slice_get s.proc.ready (pick word s.state (length (w ∷ ws))).place ≡ o
          → Ordered (takes code q word (with_state code q word s (pick word s.state (length (w ∷ ws))).state) k (pick word s.state (length (w ∷ ws))) o)
          (takes code q word (with_state code q word s (pick word s.state (length (w ∷ ws))).state) k (pick word s.state (length (w ∷ ws))) o).phase
      by None h = absurd (is_there s.proc.ready (pick word s.state (length (w ∷ ws))).place h inside)
      by (Some (Own n)) h = λ j g. none k e
      by (Some (Asked t post)) h =
          let z : Pick = pick word s.state (length (w ∷ ws)) in
          let after : Processor = without_ready (take z.place s.proc.ready ++ drop (z.place + 1) s.proc.ready) s.proc in
          woken_phase (with_state code q word s z.state) k (Asks t post) e (serves code q t post after s.proc) (none k e)
          (served_so_inbox q t post (verdict (seen code q after) q nobody (ask_of post)) after s.proc refl)

  -- ---- the thread in the hand

  stays_phase : (s : Turning) (o : Option ℕ) (p : Processor) (prints : List ℕ) (quota slice made : ℕ) → p.inbox ≡ []
      → Ordered (stays code q word s o p prints quota slice made) (stays code q word s o p prints quota slice made).phase
  stays_phase s (Some n) p prints quota slice made none = λ k h. none
  stays_phase s None p prints quota slice made none = λ k h. none

  move_phase : (s : Turning) (k l made : ℕ) (did : Did Processor) → Same (λ p. p.inbox) s.proc did → s.proc.inbox ≡ []
      → Ordered (after_move code q word s k l made did) (after_move code q word s k l made did).phase
  move_phase s k l made (Went (Some z) prints p) same none = stays_phase s p.hand p prints k l (suc made) (same ∙ none)
  move_phase s k l made (Went None prints p) same none = stays_phase s p.hand p prints (suc k) (suc l) made (same ∙ none)
  move_phase s k l made (Failed kind t) same none = omega arith

  running : (s : Turning) (k l made : ℕ) → s.quota ≡ k → ((j : ℕ) → s.quota ≡ suc j → s.proc.inbox ≡ []) → Ordered (runs_on code q word s k l made) (runs_on code q word s k l made).phase
  running s zero l made e none = none
  running s (suc k) zero made e none = none
  running s (suc k) (suc l) made e none = move_phase s k l made (moved code q s.proc) (moved_inbox code q s.proc) (none k e)

  end_phase : (s : Turning) (made : ℕ) (did : Did Processor) → Same (λ p. p.inbox) s.proc did → s.phase ≡ Leaving made → ((j : ℕ) → s.quota ≡ suc j → s.proc.inbox ≡ [])
      → Ordered (after_end code q word s made did) (after_end code q word s made did).phase
  end_phase s made (Went None prints p) same phase none = by p.hand
    where
      by : (o : Option ℕ) → Ordered (ended_or_not code q word s o p prints made) (ended_or_not code q word s o p prints made).phase
      by (Some n) = λ k h. same ∙ none k h
      by None = λ k h. same ∙ none k h
  end_phase s made (Went (Some l) prints p) same phase none = subst (Ordered s) (sym phase) none
  end_phase s made (Failed kind t) same phase none = subst (Ordered s) (sym phase) none

  leaving : (s : Turning) (made : ℕ) (b : Bool) → s.phase ≡ Leaving made → ((j : ℕ) → s.quota ≡ suc j → s.proc.inbox ≡ []) → Ordered (leaves code q word s made b) (leaves code q word s made b).phase
  leaving s made true phase none = end_phase s made (moved code q s.proc) (moved_inbox code q s.proc) phase none
  leaving s made false phase none = by s.proc.hand
    where
      by : (o : Option ℕ) → Ordered (put_back code q word s made o) (put_back code q word s made o).phase
      by None = none
      by (Some n) = none

  pub tick_ordered : (s : Turning) → Ordered s s.phase → Ordered (tick code q word s) (tick code q word s).phase
  tick_ordered s h = by s.phase refl
    where
      by : (x : Phase) → s.phase ≡ x → Ordered (tick_in code q word s x) (tick_in code q word s x).phase
      by Serving e = serving s s.quota s.proc.inbox refl refl
      by Picking e = picking s s.quota s.proc.ready refl refl (subst (Ordered s) e h)
      by (Running slice made) e = running s s.quota slice made refl (subst (Ordered s) e h)
      by (Leaving made) e = leaving s made (ends_soon code q word s.proc s.proc.hand) e (subst (Ordered s) e h)
      by (Closed z) e = h

  pub ticks_ordered : (n : ℕ) (s : Turning) → Ordered s s.phase → Ordered (ticks code q word n s) (ticks code q word n s).phase
  ticks_ordered zero s h = h
  ticks_ordered (suc n) s h = tick_ordered (ticks code q word n s) (ticks_ordered n s h)

-- ---- the law of turns

module _ (m : Processors) (q : ℕ) (p : Processor) (there : slice_get m.all q ≡ Some p) (quota word : ℕ) (p' : Processor) (prints : List ℕ) (notes : List Note) (e : TurnEnd) where
  same_place : with_processor m q p ≡ m
  same_place =
      ap (λ all. record { code = m.code; all = all; makes = m.makes; output = m.output })
      (changed_alike m.all q (λ o. p) (λ z. z) (λ z at. same_Some p z (sym there ∙ at)) ∙ changed_same m.all q)

  pub turn_runs : TurnIs m.code q p quota word p' prints notes e → p.hand ≡ None → TurnRuns m q quota p' prints notes e
  turn_runs turn free =
      let r = ticks_run m q p there word turn.count (begin p quota word) free in
      let o = ticks_ordered m.code q word turn.count (begin p quota word) tt in
      let last : Turning = record { proc = p'; prints = prints; notes = notes; quota = turn.left; state = turn.state; phase = Closed e } in
      let t : TickRuns m q p there word (begin p quota word) last = subst (TickRuns m q p there word (begin p quota word)) turn.is r in
      let d : Ordered m.code q word last (Closed e) = subst (λ (s : Turning). Ordered m.code q word s s.phase) turn.is o in
      record {
        steps = t.steps;
        left = turn.left;
        run = subst (λ x. Run x t.steps (printing prints (with_processor m q p'))) begins t.run;
        spent = t.spent;
        counted = let c = t.counted in omega (arith, c);
        labels =
            sym (ap (λ ls. labelled notes ++ ls) (none_made q p'.hand 0 refl) ∙ append_none (labelled notes))
            ∙ (t.labels ∙ ap (λ ls. ls ++ t.steps) (none_made q p.hand 0 refl));
        ended = ends e t.stands d;
      }
    where
      begins : printing [] (with_processor m q p) ≡ m
      begins =
          ap (λ bytes. record { code = m.code; all = changed m.all q (λ o. p); makes = m.makes; output = bytes }) (append_none m.output) ∙ same_place

      ends : (z : TurnEnd) → StandsIn m q p there word (record { proc = p'; prints = prints; notes = notes; quota = turn.left; state = turn.state; phase = Closed z }) (Closed z)
          → Ordered m.code q word (record { proc = p'; prints = prints; notes = notes; quota = turn.left; state = turn.state; phase = Closed z }) (Closed z)
          → EndsSo z turn.left p' (printing prints (with_processor m q p'))
      ends Idle h d = (h, d.0, d.1)
      ends Quota h d = (h, d.0, d.1)
      ends (Fault kind t) h d = (d, h)

-- ---- only one turn

module _ (code : Code) (q word : ℕ) where
  closed_on : (s : Turning) (e : TurnEnd) → s.phase ≡ Closed e → (k : ℕ) → ticks code q word k s ≡ s
  closed_on s e closed zero = refl
  closed_on s e closed (suc k) = ap (tick code q word) (closed_on s e closed k) ∙ ap (tick_in code q word s) closed

  more_ticks : (a b : ℕ) (s : Turning) → ticks code q word (a + b) s ≡ ticks code q word a (ticks code q word b s)
  more_ticks zero b s = let e : 0 + b ≡ b = omega arith in ap (λ k. ticks code q word k s) e
  more_ticks (suc a) b s = let e : suc a + b ≡ suc (a + b) = omega arith in ap (λ k. ticks code q word k s) e ∙ ap (tick code q word) (more_ticks a b s)

  closed_same : (s x y : Turning) (d e : TurnEnd) (a b : ℕ) → ticks code q word a s ≡ x → ticks code q word b s ≡ y → x.phase ≡ Closed d → y.phase ≡ Closed e → x ≡ y
  closed_same s x y d e a b to_x to_y cx cy =
      let swap : a + b ≡ b + a = omega arith in
      sym (closed_on x d cx b) ∙ (ap (ticks code q word b) (sym to_x) ∙ (sym (more_ticks b a s) ∙ (ap (λ k. ticks code q word k s) (sym swap)
      ∙ (more_ticks a b s ∙ (ap (ticks code q word a) to_y ∙ closed_on y e cy a)))))

pub one_turn_only : (code : Code) (q : ℕ) (p : Processor) (quota word : ℕ) (p1 p2 : Processor) (prints1 prints2 : List ℕ) (notes1 notes2 : List Note) (d e : TurnEnd)
    → TurnIs code q p quota word p1 prints1 notes1 d → TurnIs code q p quota word p2 prints2 notes2 e
    → (p1 ≡ p2) × (prints1 ≡ prints2) × (notes1 ≡ notes2) × (d ≡ e)
one_turn_only code q p quota word p1 p2 prints1 prints2 notes1 notes2 d e a b =
    let x : Turning = record { proc = p1; prints = prints1; notes = notes1; quota = a.left; state = a.state; phase = Closed d } in
    let y : Turning = record { proc = p2; prints = prints2; notes = notes2; quota = b.left; state = b.state; phase = Closed e } in
    let same : x ≡ y = closed_same code q word (begin p quota word) x y d e a.count b.count a.is b.is refl refl in
    let phases : Closed d ≡ Closed e = ap (λ (s : Turning). s.phase) same in
    (ap (λ (s : Turning). s.proc) same, ap (λ (s : Turning). s.prints) same, ap (λ (s : Turning). s.notes) same, cc)
