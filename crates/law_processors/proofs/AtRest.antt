-- Where the machine is at rest, so is the run of the program, with as many live threads.
use Rattle.std.proofs.Common.{◌≡◌, ◌⊎◌, inl, inr, ⊎_elim, ℕ, zero, suc, ◌+◌, List, [], ◌∷◌, length, map, Bool, true, false, ◌||◌, Option, Some, None, refl, sym, ap, ◌∙◌, subst, arith, ℤ}
use Rattle.std.specs.Prelude.{slice_get, if◌then◌else◌}
use Rattle.std.specs.FinMap as fin
use Rattle.std.specs.Option.{option_and_then, option_map_or}
use Rattle.std.proofs.lemmas.Option.{none-some, same_Some}
use Rattle.std.proofs.lemmas.Bool.{false≢true}
use Rattle.cc_ops.specs.Values.{Value, Int, Ptr, Empty}
use Rattle.cc_ops.specs.Values as values
use Rattle.cc_ops.specs.Machine.{Address}
use Rattle.cc_ops.specs.declared.number.ThreadNo.{ThreadNo}
use Rattle.cc_ops.specs.Shelves.{Thing, Shelf, cell_in, is_held}
use Rattle.cc_core.specs.Asks.{Joins as JoinsAsk}
use Rattle.cc_core.specs.Config.{Config, Thread, State, Live, Ended as EndedState}
use Rattle.cc_core.specs.Core.{Program}
use Rattle.cc_core.specs.Names.{Name}
use Rattle.cc_core.specs.Numbers.{Numbers}
use Rattle.cc_core.specs.Steps as core
use Rattle.cc_code.specs.Code.{Code, Does, move}
use Rattle.code_names.specs.Same.{Pairwise}
use Rattle.numbered_runs.specs.Alike.{DoesAlike, main_thread}
use Rattle.numbered_runs.specs.Machine.{Progress, Goes as GoesAhead, Over, Machine, thread_in, ended_with, all_going}
use Rattle.numbered_runs.specs.Stands.{IsThread, SameState}
use Rattle.numbered_runs.proofs.Follow.{steps_follow}
use Rattle.numbered_runs.proofs.Left.{left_alike}
use Rattle.numbered_runs.proofs.Naming.{one_thread_name, thread_placed, thread_at}
use Rattle.numbered_runs.proofs.Lists.{both_found, then_found}
use Rattle.run_numbers.proofs.Numbers.{threads_are_numbered}
use Rattle.run_numbers.proofs.Processors.{root_first, main_first, thread_is_housed}
use Rattle.law_mesh.specs.Local.{cell_on}
use Rattle.law_mesh.specs.Moves.{AsksFor, with_holder}
use Rattle.law_mesh.specs.Queues.{Queue, Hand, Ready, OfCell, OfLock, Inbox, Outbox, Makes, Message, Item, Itself, Mail, AreIdle, FitsAt, MayLie, of_thread, lies_in}
use Rattle.law_mesh.specs.Rest.{IsLive, Lives as LivesThere, OneLives, Joining, StillWaits, InOrder, IsIdle, living, all_living}
use Rattle.law_processors.specs.Living.{is_live, one_lives, joins_of}
use Rattle.law_mesh.specs.Shows.{Shows, Alike, CannotMove}
use Rattle.law_mesh.specs.Spots.{Fiber, Cell, Lock, Branches, Spot, Active, Parked, Posted, Delayed, Answered, Calling, Called, Gone, Mesh, item_in, shown, spot_of}
use Rattle.law_processors.specs.Processors.{Waiter, Stage, Goes, Joins, Asking, Has, Entry, Lives, Ended, Locked, Processor, Processors, IsEntry, caller_of, lists, of_processor, hand_items, waiter_item, lock_items, tables_of, Runs}
use Rattle.law_processors.specs.Alone.{alone_at, seen_entry}
use Rattle.law_processors.specs.Orderly.{IsIn, held_on}
use Rattle.law_processors.specs.Busy.{waits_for_turn, busy, busy_count, mail_count, one_more_if, lives_in, living_in, all_living_in, AllFree}
use Rattle.law_processors.specs.Whole.{StandsFor}
use Rattle.law_processors.proofs.Edits.{map_at}
use Rattle.law_mesh.proofs.Lists.{item_left, item_right}
use Rattle.law_processors.proofs.Ordered.{OrderlyAll}
use Rattle.law_mesh.proofs.Queues.{all_still, queue_itself}
use Rattle.law_mesh.proofs.Rest.{none_moves, all_counted, end_shown}

-- ---- nothing is in a list

nothing_waits : (ws : List Waiter) (ms : List Message) → waits_for_turn ws ms ≡ false → (ws ≡ []) × (ms ≡ [])
nothing_waits [] [] e = (refl, refl)
nothing_waits [] (x ∷ ms) e = absurd (false≢true (sym e))
nothing_waits (w ∷ ws) ms e = absurd (false≢true (sym e))

none_busy : (all : List Processor) → busy_count all ≡ 0 → (q : ℕ) (p : Processor) → slice_get all q ≡ Some p → (p.ready ≡ []) × (p.inbox ≡ [])
none_busy [] e q p d = absurd (none-some p d)
none_busy (z ∷ zs) e q p d = by (λ t i g. none_busy zs t i p g) (busy z) refl e q d
  where
    by : (busy_count zs ≡ 0 → (i : ℕ) → slice_get zs i ≡ Some p → (p.ready ≡ []) × (p.inbox ≡ [])) → (b : Bool) → busy z ≡ b → one_more_if b (busy_count zs) ≡ 0 → (i : ℕ)
        → slice_get (z ∷ zs) i ≡ Some p → (p.ready ≡ []) × (p.inbox ≡ [])
    by more true s t i g = absurd (omega (arith, t))
    by more false s t zero g = subst (λ (r : Processor). (r.ready ≡ []) × (r.inbox ≡ [])) (same_Some z p g) (nothing_waits z.ready z.inbox s)
    by more false s t (suc i) g = more t i g

empty_list : {X : Type 0} (xs : List X) → length xs ≡ 0 → xs ≡ []
empty_list [] e = refl
empty_list (x ∷ xs) e = absurd (omega (arith, e))

none_mailed : (all : List Processor) → mail_count all ≡ 0 → (q : ℕ) (p : Processor) → slice_get all q ≡ Some p → p.outbox ≡ []
none_mailed [] e q p d = absurd (none-some p d)
none_mailed (z ∷ zs) e zero p d = subst (λ (r : Processor). r.outbox ≡ []) (same_Some z p d) (empty_list z.outbox (omega (arith, e)))
none_mailed (z ∷ zs) e (suc q) p d = none_mailed zs (omega (arith, e)) q p d

of_all : (all : List Processor) (q : ℕ) (f : Processor → List Item) → ((p : Processor) → slice_get all q ≡ Some p → f p ≡ []) → of_processor all q f ≡ []
of_all all q f h = by (slice_get all q) refl
  where
    by : (o : Option Processor) → slice_get all q ≡ o → option_map_or f o [] ≡ []
    by None e = refl
    by (Some p) e = h p e

-- a list that is not empty is one of a processor
some_of : (all : List Processor) (q : ℕ) (f : Processor → List Item) → (of_processor all q f ≡ [] → ⊥) → (p : Processor) × (slice_get all q ≡ Some p) × (f p ≡ [] → ⊥)
some_of all q f h = by (slice_get all q) refl h
  where
    by : (o : Option Processor) → slice_get all q ≡ o → (option_map_or f o [] ≡ [] → ⊥) → (p : Processor) × (slice_get all q ≡ Some p) × (f p ≡ [] → ⊥)
    by None e g = absurd (g refl)
    by (Some p) e g = (p, e, g)

map_none : {A B : Type 0} (f : A → B) (xs : List A) → xs ≡ [] → map f xs ≡ []
map_none f xs e = ap (map f) e

abbrev pub holders : Processors → Address → Option ThreadNo
holders m a = option_map_or (λ (p : Processor). option_map_or (λ (l : Locked). Some (record { processor = a.processor; thread = l.holder })) (p.locks a.object) None) (slice_get m.all a.processor) None

module _ (m : Processors) (n : Mesh) (runs : Runs m n) (orderly : OrderlyAll m.code m.all) (threads : List (List Progress)) (shows : Shows n threads)
    (free : AllFree m.all) (quiet : busy_count m.all + mail_count m.all ≡ 0) (none_made : m.makes ≡ []) where
  calm : busy_count m.all ≡ 0
  calm = omega (arith, quiet)

  sent : mail_count m.all ≡ 0
  sent = omega (arith, quiet)

  are_idle : AreIdle (lists m)
  are_idle (Hand q) b = of_all m.all q _ (λ p e. ap (hand_items q) (free q p e))
  are_idle (Ready q) b = of_all m.all q _ (λ p e. map_none (waiter_item q) p.ready (none_busy m.all calm q p e).0)
  are_idle (OfCell a x) b = absurd b
  are_idle (OfLock a) b = absurd b
  are_idle (Inbox q) b = of_all m.all q _ (λ p e. map_none Mail p.inbox (none_busy m.all calm q p e).1)
  are_idle (Outbox q) b = of_all m.all q _ (λ p e. map_none Mail p.outbox (none_mailed m.all sent q p e))
  are_idle Makes b = map_none Mail m.makes none_made

  abbrev held : Mesh
  held = with_holder n (holders m)

  is_idle : IsIdle held
  is_idle = all_still m.code (lists m) n.spots runs.lists are_idle

  -- ---- what a processor has

  entry_of : (t : ThreadNo) (s : Spot) → item_in n.spots t ≡ Some s → (e : Entry) × (item_in (tables_of m.all) t ≡ Some e) × IsEntry e s
  entry_of t s at = item_left IsEntry (tables_of m.all) n.spots runs.entries t s at

  spot_of_entry : (t : ThreadNo) (e : Entry) → item_in (tables_of m.all) t ≡ Some e → (s : Spot) × (item_in n.spots t ≡ Some s) × IsEntry e s
  spot_of_entry t e at = item_right IsEntry (tables_of m.all) n.spots runs.entries t e at

  -- the processor of a thread
  home : (t : ThreadNo) (e : Entry) → item_in (tables_of m.all) t ≡ Some e → (p : Processor) × (slice_get m.all t.processor ≡ Some p) × (slice_get p.table t.thread ≡ Some e)
  home t e at =
      let r = both_found (λ (es : List Entry). slice_get es t.thread) (slice_get (tables_of m.all) t.processor) e at in
      let p = unmapped m.all t.processor r.0 r.1 in
      (p.0, p.1, ap (λ (es : List Entry). slice_get es t.thread) (sym p.2) ∙ r.2)
    where
      unmapped : (all : List Processor) (i : ℕ) (es : List Entry) → slice_get (tables_of all) i ≡ Some es → (p : Processor) × (slice_get all i ≡ Some p) × (es ≡ p.table)
      unmapped [] i es e = absurd (none-some es e)
      unmapped (z ∷ zs) zero es e = (z, refl, sym (same_Some z.table es e))
      unmapped (z ∷ zs) (suc i) es e = unmapped zs i es e

  in_table : (p : Processor) (u : ThreadNo) (e : Entry) → slice_get m.all u.processor ≡ Some p → slice_get p.table u.thread ≡ Some e → item_in (tables_of m.all) u ≡ Some e
  in_table p u e there at = then_found (λ (es : List Entry). slice_get es u.thread) (slice_get (tables_of m.all) u.processor) p.table e (map_at (λ (r : Processor). r.table) m.all u.processor p there) at

  shelf_at : (q : ℕ) (p : Processor) → slice_get m.all q ≡ Some p → slice_get n.shelves q ≡ Some p.shelf
  shelf_at q p there = ap (λ ss. slice_get ss q) (sym runs.shelves) ∙ map_at (λ (r : Processor). r.shelf) m.all q p there

  -- what lies in a list
  lies_there : (t : ThreadNo) (k : Queue) (y : Item) → runs.lists.lies t ≡ Some (k, y) → lists m k ≡ [] → ⊥
  lies_there t k y lies none =
      let one : y ∷ [] ≡ [] =
      ap (λ b. if b then y ∷ [] else []) (sym (queue_itself k)) ∙ (ap (λ l. lies_in l k) (sym lies) ∙ (sym (runs.lists.each t k) ∙ ap (of_thread t) none)) in
      cc

  fits : (t : ThreadNo) (s : Spot) → item_in n.spots t ≡ Some s → MayLie m.code t s (runs.lists.lies t)
  fits t s at = subst (λ o. FitsAt m.code t o (runs.lists.lies t)) at (runs.lists.fits t)

  -- ---- cells

  cell_empty : (a : Address) (x : ℕ) → (lists m (OfCell a x) ≡ [] → ⊥) → cell_in n.shelves a x ≡ Some Empty
  cell_empty a x some =
      let r = some_of m.all a.processor (λ p. map (waiter_item a.processor) (p.cells a.object x)) some in
      let o = (orderly a.processor r.0 r.1).cells a.object x in
      ⊎_elim
      (λ (e : r.0.cells a.object x ≡ []). absurd (r.2 (map_none (waiter_item a.processor) (r.0.cells a.object x) e)))
      (λ (e : cell_on r.0.shelf a.object x ≡ Some Empty).
      ap (λ z. option_and_then (λ (t : Thing). slice_get t.cells x) (option_and_then (λ (s : Shelf). slice_get s.things a.object) z)) (shelf_at a.processor r.0 r.1) ∙ e)
      o

  -- ---- objects

  lock_of : (a : Address) → (lists m (OfLock a) ≡ [] → ⊥) → (i : ThreadNo) × (holders m a ≡ Some i)
  lock_of a some =
      let r = some_of m.all a.processor (λ p. lock_items a.processor (p.locks a.object)) some in
      by r.0 r.1 r.2 (r.0.locks a.object) refl
    where
      by : (p : Processor) → slice_get m.all a.processor ≡ Some p → (lock_items a.processor (p.locks a.object) ≡ [] → ⊥) → (o : Option Locked) → p.locks a.object ≡ o
          → (i : ThreadNo) × (holders m a ≡ Some i)
      by p there g None e = absurd (g (ap (lock_items a.processor) e))
      by p there g (Some l) e = (
        record { processor = a.processor; thread = l.holder },
        ap (λ o. option_map_or (λ (z : Processor). option_map_or (λ (x : Locked). Some (record { processor = a.processor; thread = x.holder })) (z.locks a.object) None) o None) there
            ∙ ap (λ o. option_map_or (λ (x : Locked). Some (record { processor = a.processor; thread = x.holder })) o None) e,
      )

  held_so : (a : Address) (i : ThreadNo) → holders m a ≡ Some i → is_held n.shelves (Ptr a 0) ≡ true
  held_so a i e = by (slice_get m.all a.processor) refl e
    where
      one : (p : Processor) → slice_get m.all a.processor ≡ Some p → (o : Option Locked) → p.locks a.object ≡ o
          → option_map_or (λ (x : Locked). Some (record { processor = a.processor; thread = x.holder })) o None ≡ Some i → is_held n.shelves (Ptr a 0) ≡ true
      one p there None d g = absurd (none-some i g)
      one p there (Some l) d g = ⊎_elim
          (λ (z : held_on p.shelf a.object ≡ true).
          ap (λ o. option_map_or (λ (t : Thing). t.held) (option_and_then (λ (s : Shelf). slice_get s.things a.object) o) false) (shelf_at a.processor p there) ∙ z)
          (λ z. ⊎_elim (λ (h : p.hand ≡ Some l.holder). absurd (none-some l.holder (sym (free a.processor p there) ∙ h)))
          (λ (h : IsIn l.holder p.ready). absurd (subst (IsIn l.holder) (none_busy m.all calm a.processor p there).0 h)) z.0)
          ((orderly a.processor p there).locks a.object l d)

      by : (o : Option Processor) → slice_get m.all a.processor ≡ o
          → option_map_or (λ (p : Processor). option_map_or (λ (l : Locked). Some (record { processor = a.processor; thread = l.holder })) (p.locks a.object) None) o None ≡ Some i
          → is_held n.shelves (Ptr a 0) ≡ true
      by None d g = absurd (none-some i g)
      by (Some p) d g = one p d (p.locks a.object) refl g

  -- ---- threads that live

  live_spot : (f : Fiber) (s : Stage) (c : Option ThreadNo) (x : Spot) → IsEntry (Lives f s c) x → IsLive x
  live_spot f Goes c (Active g) h = tt
  live_spot f Goes c (Parked r g) h = tt
  live_spot f Joins c (Parked r g) h = tt
  live_spot f Asking c (Posted g) h = tt
  live_spot f Asking c (Delayed a x g) h = tt
  live_spot f Asking c (Answered vs g) h = tt
  live_spot f Asking c (Calling kid g) h = tt
  live_spot f Asking c (Called kid v g) h = tt
  live_spot f (Has u) c (Called kid v g) h = tt
  live_spot f s c x h = absurd h

  lives_so : (u : ThreadNo) (f : Fiber) (s : Stage) (c : Option ThreadNo) → item_in (tables_of m.all) u ≡ Some (Lives f s c) → LivesThere held u
  lives_so u f s c at = let r = spot_of_entry u (Lives f s c) at in (r.0, r.1, live_spot f s c r.0 r.2)

  -- one that a processor knows to live
  row_live : (es : List Entry) (j : ℕ) → is_live (slice_get (map seen_entry es) j) ≡ true → (f : Fiber) × (s : Stage) × (c : Option ThreadNo) × (slice_get es j ≡ Some (Lives f s c))
  row_live [] j e = absurd (false≢true e)
  row_live (Lives f s c ∷ es) zero e = (f, s, c, refl)
  row_live (Ended v ∷ es) zero e = absurd (false≢true e)
  row_live (x ∷ es) (suc j) e = row_live es j e

  alone_live : (q : ℕ) (es : List Entry) (i j : ℕ) → is_live (option_and_then (λ (zs : List Spot). slice_get zs j) (slice_get (alone_at q [] (map seen_entry es)) i)) ≡ true
      → (i ≡ q) × (is_live (slice_get (map seen_entry es) j) ≡ true)
  alone_live zero es zero j e = (refl, e)
  alone_live zero es (suc i) j e = absurd (false≢true e)
  alone_live (suc q) es zero j e = absurd (false≢true e)
  alone_live (suc q) es (suc i) j e = let r = alone_live q es i j e in (ap suc r.0, r.1)

  kid_live : (q : ℕ) (p : Processor) → slice_get m.all q ≡ Some p → (kids : List (Option ThreadNo)) (k : ℕ)
      → is_live (option_and_then (spot_of (alone_at q [] (map seen_entry p.table))) (slice_get kids k)) ≡ true → (u : ThreadNo) × (slice_get kids k ≡ Some (Some u)) × LivesThere held u
  kid_live q p there [] k e = absurd (false≢true e)
  kid_live q p there (None ∷ kids) zero e = absurd (false≢true e)
  kid_live q p there (Some u ∷ kids) zero e =
      let a = alone_live q p.table u.processor u.thread e in
      let r = row_live p.table u.thread a.1 in
      (u, refl, lives_so u r.0 r.1 r.2 (in_table p u (Lives r.0 r.1 r.2) (ap (slice_get m.all) a.0 ∙ there) r.3))
  kid_live q p there (kid ∷ kids) (suc k) e = kid_live q p there kids k e

  or_case : (a b : Bool) → a || b ≡ true → (a ≡ true) ⊎ (b ≡ true)
  or_case true b e = inl refl
  or_case false b e = inr e

  one_of : (q : ℕ) (p : Processor) → slice_get m.all q ≡ Some p → (kids : List (Option ThreadNo)) (ks : List ℕ) → one_lives (alone_at q [] (map seen_entry p.table)) kids ks ≡ true
      → OneLives held kids ks
  one_of q p there kids [] e = absurd (false≢true e)
  one_of q p there kids (k ∷ ks) e = ⊎_elim
      (λ (g : is_live (option_and_then (spot_of (alone_at q [] (map seen_entry p.table))) (slice_get kids k)) ≡ true). inl (kid_live q p there kids k g))
      (λ (g : one_lives (alone_at q [] (map seen_entry p.table)) kids ks ≡ true). inr (one_of q p there kids ks g))
      (or_case (is_live (option_and_then (spot_of (alone_at q [] (map seen_entry p.table))) (slice_get kids k))) (one_lives (alone_at q [] (map seen_entry p.table)) kids ks) e)

  joins_entry : (e : Entry) (f : Fiber) → IsEntry e (Parked Branches f) → (c : Option ThreadNo) × (e ≡ Lives f Joins c)
  joins_entry (Lives g Joins c) f h = (c, ap (λ z. Lives z Joins c) h)
  joins_entry (Lives g Goes c) f h = absurd h
  joins_entry (Lives g Asking c) f h = absurd h
  joins_entry (Lives g (Has v) c) f h = absurd h
  joins_entry (Ended v) f h = absurd h

  joining_so : (t : ThreadNo) (f : Fiber) → item_in n.spots t ≡ Some (Parked Branches f) → Joining held f
  joining_so t f at =
      let x = item_right (Alike n.code threads) n.spots threads shows t (Parked Branches f) at in
      let for : AsksFor n.code Branches f = x.2.1 in
      let r = entry_of t (Parked Branches f) at in
      let e = joins_entry r.0 f r.2 in
      let h = home t (Lives f Joins e.0) (r.1 ∙ ap (λ z. Some z) e.1) in
      let waits = (orderly t.processor h.0 h.1).branches t.thread f e.0 h.2 in
      let moves : move m.code f.thread ≡ Does for.0 (JoinsAsk for.1) for.2 = ap (λ (c : Code). move c f.thread) runs.code ∙ for.3 in
      record {
        line = for.0;
        made = for.1;
        goes = for.2;
        asks = for.3;
        lives = one_of t.processor h.0 h.1 f.kids for.1 (ap (λ mv. one_lives (alone_at t.processor [] (map seen_entry h.0.table)) f.kids (joins_of mv)) (sym moves) ∙ waits);
      }

  called_lives : (t kid : ThreadNo) (f : Fiber) → item_in n.spots t ≡ Some (Calling kid f) → LivesThere held kid
  called_lives t kid f at = by (item_in (tables_of m.all) kid) refl (runs.askers t kid f at)
    where
      by : (o : Option Entry) → item_in (tables_of m.all) kid ≡ o → caller_of o ≡ Some t → LivesThere held kid
      by None e c = absurd (none-some t c)
      by (Some (Ended v)) e c = absurd (none-some t c)
      by (Some (Lives g s d)) e c = lives_so kid g s d e

  -- ---- in order

  still_waits : (t : ThreadNo) (s : Spot) → item_in n.spots t ≡ Some s → StillWaits held s
  still_waits t (Parked (Cell a x) f) at = cell_empty a x (lies_there t (OfCell a x) (Itself t) (fits t (Parked (Cell a x) f) at).1)
  still_waits t (Parked (Lock o) f) at = lock_of o (lies_there t (OfLock o) (Itself t) (fits t (Parked (Lock o) f) at).2)
  still_waits t (Parked Branches f) at = joining_so t f at
  still_waits t (Delayed a x f) at = cell_empty a x (lies_there t (OfCell a x) _ (fits t (Delayed a x f) at).1)
  still_waits t (Calling kid f) at = called_lives t kid f at
  still_waits t (Active f) at = tt
  still_waits t (Posted f) at = tt
  still_waits t (Answered vs f) at = tt
  still_waits t (Called kid v f) at = tt
  still_waits t (Gone v) at = tt

  pub in_order : InOrder held
  in_order = record {
    waits = still_waits;
    holds = λ o i e. inl (held_so o i e);
  }

  pub rest_moves : (t : ThreadNo) → CannotMove (shown n threads) t
  rest_moves = none_moves held threads shows in_order is_idle

  -- ---- how many live

  living_row : (es : List Entry) (ps : List Spot) → Pairwise IsEntry es ps → living ps ≡ living_in es
  living_row [] [] h = refl
  living_row [] (p ∷ ps) h = absurd h
  living_row (e ∷ es) [] h = absurd h
  living_row (e ∷ es) (p ∷ ps) h = by e p h.0 (living_row es ps h.1)
    where
      by : (x : Entry) (s : Spot) → IsEntry x s → living ps ≡ living_in es → living (s ∷ ps) ≡ one_more_if (lives_in x) (living_in es)
      by (Lives f Goes c) (Active g) k d = ap suc d
      by (Lives f Goes c) (Parked r g) k d = ap suc d
      by (Lives f Joins c) (Parked r g) k d = ap suc d
      by (Lives f Asking c) (Posted g) k d = ap suc d
      by (Lives f Asking c) (Delayed a x g) k d = ap suc d
      by (Lives f Asking c) (Answered vs g) k d = ap suc d
      by (Lives f Asking c) (Calling kid g) k d = ap suc d
      by (Lives f Asking c) (Called kid v g) k d = ap suc d
      by (Lives f (Has u) c) (Called kid v g) k d = ap suc d
      by (Ended u) (Gone v) k d = d
      by x s k d = absurd k

  living_all : (ts : List (List Entry)) (us : List (List Spot)) → Pairwise (Pairwise IsEntry) ts us → all_living us ≡ all_living_in ts
  living_all [] [] h = refl
  living_all [] (u ∷ us) h = absurd h
  living_all (t ∷ ts) [] h = absurd h
  living_all (t ∷ ts) (u ∷ us) h = ap (λ k. k + all_living us) (living_row t u h.0) ∙ ap (λ k. living_in t + k) (living_all ts us h.1)

  pub rest_living : all_going threads ≡ all_living_in (tables_of m.all)
  rest_living = all_counted held threads shows in_order is_idle ∙ living_all (tables_of m.all) n.spots runs.entries

  ended_entry : (v : Value Address) (s : Spot) → IsEntry (Ended v) s → s ≡ Gone v
  ended_entry v (Gone u) h = ap Gone (sym h)
  ended_entry v (Active g) h = absurd h
  ended_entry v (Parked r g) h = absurd h
  ended_entry v (Posted g) h = absurd h
  ended_entry v (Delayed a x g) h = absurd h
  ended_entry v (Answered vs g) h = absurd h
  ended_entry v (Calling kid g) h = absurd h
  ended_entry v (Called kid w g) h = absurd h

  pub rest_value : (t : ThreadNo) (v : Value Address) → item_in (tables_of m.all) t ≡ Some (Ended v) → ended_with (thread_in threads t) ≡ Some v
  rest_value t v at =
      let r = spot_of_entry t (Ended v) at in end_shown n threads shows t v (r.1 ∙ ap (λ z. Some z) (ended_entry v r.0 r.2))

-- ---- the run of the program

module _ (p : Program) (m : Processors) (s : Config) (k : Numbers) (stands : StandsFor p m s k) (orderly : OrderlyAll m.code m.all)
    (free : AllFree m.all) (quiet : busy_count m.all + mail_count m.all ≡ 0) (none_made : m.makes ≡ []) where
  abbrev n : Mesh
  n = stands.mesh

  abbrev threads : List (List Progress)
  threads = stands.of_run.threads

  abbrev w : Machine
  w = shown stands.mesh stands.of_run.threads

  none_move : (t : ThreadNo) → CannotMove w t
  none_move = rest_moves m n stands.runs orderly threads stands.of_run.shows free quiet none_made

  waits_by : (t : ThreadNo) (x : Name) (l : Thread) → fin.get s.threads x ≡ Some (Live l) → IsThread k t x → CannotMove w t → core.step p x s ≡ core.Waits
  waits_by t x l at is (inl waits) =
      let r = subst (DoesAlike p s k t) waits (steps_follow p w s k stands.of_run.stands t) in
      ap (λ y. core.step p y s) (one_thread_name k t x r.0 is r.1) ∙ r.3
  waits_by t x l at is (inr gone) =
      let r = subst (DoesAlike p s k t) gone (steps_follow p w s k stands.of_run.stands t) in absurd (r x is (l, at))

  number_of : (x : Name) (a : State) → fin.get s.threads x ≡ Some a → (t : ThreadNo) × IsThread k t x
  number_of x a there =
      let are = threads_are_numbered p stands.of_run.stands.ints s k stands.of_run.stands.run in
      let number = are.numbered x a there in
      let home = thread_is_housed p stands.of_run.stands.ints s k stands.of_run.stands.run number.0 number.1 x number.2 in
      (record { processor = home.0; thread = number.1 }, thread_placed k (record { processor = home.0; thread = number.1 }) number.0 x home.1 number.2)

  pub at_rest : core.IsAtRest p s
  at_rest x = by (fin.get s.threads x) refl
    where
      by : (o : Option State) → fin.get s.threads x ≡ o → core.step p x s ≡ core.Waits
      by None e = ap (core.act_state p x s) e
      by (Some (EndedState v)) e = ap (core.act_state p x s) e
      by (Some (Live l)) e = let t = number_of x (Live l) e in waits_by t.0 x l e t.1 (none_move t.0)

  pub left_so : core.threads_left s ≡ all_living_in (tables_of m.all)
  left_so = sym (left_alike p w s k stands.of_run.stands) ∙ rest_living m n stands.runs orderly threads stands.of_run.shows free quiet none_made

  main_is : IsThread k main_thread []
  main_is = thread_placed k main_thread [] [] (root_first p stands.of_run.stands.ints s k stands.of_run.stands.run) (main_first p stands.of_run.stands.ints s k stands.of_run.stands.run)

  pub main_ends : (v : ℤ) → item_in (tables_of m.all) main_thread ≡ Some (Ended (Int v)) → fin.get s.threads [] ≡ Some (EndedState (Int v))
  main_ends v at =
      let ended = rest_value m n stands.runs orderly threads stands.of_run.shows free quiet none_made main_thread (Int v) at in
      let r = thread_at p w s k stands.of_run.stands main_thread [] main_is in
      by r.0 r.1 r.2.0 r.2.1 r.2.2 ended
    where
      by : (a : Progress) → thread_in threads main_thread ≡ Some a → (b : State) → fin.get s.threads [] ≡ Some b → SameState k p w.code [] a b → ended_with (thread_in threads main_thread) ≡ Some (Int v)
          → fin.get s.threads [] ≡ Some (EndedState (Int v))
      by (GoesAhead r) there b is same e = absurd (none-some (Int v) (sym (ap ended_with there) ∙ e))
      by (Over x) there (Live l) is same e = absurd same
      by (Over x) there (EndedState u) is same e =
          let d : x ≡ Int v = same_Some x (Int v) (sym (ap ended_with there) ∙ e) in
          is ∙ ap (λ z. Some (EndedState z)) (value u (subst (λ z. SameState k p w.code [] (Over z) (EndedState u)) d same))
        where
          value : (z : values.Value Name) → SameState k p w.code [] (Over (Int v)) (EndedState z) → z ≡ Int v
          value (values.Int j) h = ap (λ y. values.Int y) (sym h)
          value values.Void h = absurd h
          value values.Null h = absurd h
          value (values.Ptr a j) h = absurd h
