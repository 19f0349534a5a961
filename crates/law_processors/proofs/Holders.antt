-- Who holds an object is inside, or about to go in: no move leaves it otherwise.
use Rattle.law_processors.specs.Alone.{OwnStep}
use Rattle.std.proofs.Common.{◌≡◌, ◌⊎◌, inl, inr, ⊎_elim, ℕ, List, [], ◌∷◌, ◌++◌, length, map, Bool, true, false, ◌&&◌, not, Option, Some, None, refl, sym, ap, ◌∙◌, subst}
use Rattle.std.specs.Option.{option_and_then, option_map_or}
use Rattle.std.specs.Prelude.{slice_get, if◌then◌else◌, nat_eq, is_some}
use Rattle.std.proofs.lemmas.Option.{none-some, same_Some}
use Rattle.std.proofs.lemmas.Bool.{false≢true}
use Rattle.global_ptr.specs.declared.ends.FaultKind.{FaultKind}
use Rattle.global_ptr.specs.declared.ends.FaultKind.TheVariants.{NullPointer}
use Rattle.cc_ops.specs.Values.{Value, Void, Int, Null, Ptr}
use Rattle.cc_ops.specs.Machine.{Address, Values}
use Rattle.cc_ops.specs.declared.number.ThreadNo.{ThreadNo}
use Rattle.cc_ops.specs.Shelves.{Thing, Shelf, no_shelf, is_held}
use Rattle.cc_core.specs.Core.{function_shape}
use Rattle.cc_core.specs.Asks.{Ask, Answer, Reads, Enters, Leaves}
use Rattle.cc_core.specs.Asks as asks
use Rattle.cc_core.specs.Numbers.{Post, Get, Put, Call, Cast, Make}
use Rattle.cc_core.specs.Needs.{Verdict, Go, Hold, Bad, and_also}
use Rattle.cc_code.specs.Code.{Code, Then, Move, Silent, Does, Ends, Stuck, Starting, move}
use Rattle.numbered_runs.specs.Changes.{with_held, with_thing}
use Rattle.numbered_runs.specs.Effects.{Effect}
use Rattle.numbered_runs.specs.Posts.{posted}
use Rattle.numbered_runs.specs.Steps.{settle}
use Rattle.numbered_runs.proofs.Lists.{get_in_front}
use Rattle.law_mesh.specs.Local.{write_on, write_all_on, put_all_on, when, leave_on, held_after_on, place_after, new_here}
use Rattle.law_mesh.specs.Moves.{new_fiber, with_value}
use Rattle.law_processors.specs.Living.{one_lives}
use Rattle.law_mesh.specs.Spots.{Fiber, verdict, runs}
use Rattle.law_mesh.specs.Queues.{Message, Asks, Answers, holds, holds_none}
use Rattle.law_processors.specs.Processors.{Waiter, Own, Asked, Goes, Joins, Asking, Has, Entry, Lives, Ended, Locked, Processor}
use Rattle.law_processors.specs.Alone.{Did, Went, Failed, be_ready, put_entry, put_hand, put_shelf, send, park, wake_at, wake_written, make_threads, alone_at, seen_entry, seen, goes_into, has_object, is_taken, take_lock, held_by, put_lock, hand_on, leave_lock, leave_object, leave_innermost, after_leaving, wait_for_lock, enters_later, joins_later, waits, ended, here, effect_here, on_here, stepped_here, may_step, decided, asks_itself, asks_null, asks_here, is_remote, all_on, ends_free, asks_by, moves_by, entry_moves, hand_moves, moved, answer, park_get, served_so, serves, nobody, ask_of, told, taken_by, serves_inbox}
use Rattle.law_processors.specs.Orderly.{IsIn, IsUp, GoesInto, held_on, LocksWait}
use Rattle.law_mesh.proofs.Queues.{same_number, number_itself}
use Rattle.law_processors.proofs.Seen.{both_true, alone_there, is_on_so}
use Rattle.law_processors.proofs.Grown.{in_front, in_back, in_without, things_held, things_else, now_held, KeepsHeld, held_then, write_held, writes_held, news_held, note_none, freed_same, Grows, same, then_grows, put_grows, made_grows, wake_grows, woken_grows, ended_grows, lock_still, locks_still, same_goes_of}

-- ---- the thread in the hand

abbrev pub LocksAfter : Code → Did Processor → Type 0
LocksAfter code (Went step prints p') = LocksWait code p'
LocksAfter code (Failed kind t) = Unit {0}

free_holds : (b c d : Bool) (x y : FaultKind) → ◌≡◌ {A = Verdict Address}
    (and_also (Go []) (and_also (if b then Hold else Go []) (and_also (if c then Go [] else Bad x) (and_also (if d then Go [] else Bad y) (Go []))))) Hold
    → b ≡ true
free_holds true c d x y e = refl
free_holds false true true x y e = cc
free_holds false true false x y e = cc
free_holds false false d x y e = cc

held_alone : (q : ℕ) (s : Shelf) (a : Address) (x : ℕ) → a.processor ≡ q → is_held (alone_at q no_shelf s) (Ptr a x) ≡ held_on s a.object
held_alone q s a x e =
    ap (λ o. option_map_or (λ (t : Thing). t.held) (option_and_then (λ (z : Shelf). slice_get z.things a.object) o) false)
    (ap (slice_get (alone_at q no_shelf s)) e ∙ alone_there q no_shelf s)

not_so : (b : Bool) → not b ≡ true → b ≡ false
not_so true e = absurd (false≢true e)
not_so false e = refl

module _ (code : Code) (q n : ℕ) (f : Fiber) (caller : Option ThreadNo) (p : Processor) (hand : p.hand ≡ Some n) (entry : slice_get p.table n ≡ Some (Lives f Goes caller))
    (h : LocksWait code p)
    (later : (o : ℕ) (l : Locked) (i : ℕ) (is : List ℕ) → p.locks o ≡ Some l → l.waiters ≡ i ∷ is → (i ≡ n → ⊥) × GoesInto code p i o) where
  in_hand : (p' : Processor) (i o : ℕ) → p.hand ≡ Some i → (i ≡ n → ⊥) → IsUp p' i
  in_hand p' i o e apart = absurd (apart (sym (same_Some n i (sym hand ∙ e))))

  -- what it asks, where it is about to go in
  goes_so : (o : ℕ) → (g : GoesInto code p n o) → move code f.thread ≡ Does g.line (Enters g.function (Ptr g.object g.cell) g.values) g.next
  goes_so o g =
      let x : Lives f Goes caller ≡ Lives g.fiber Goes g.caller = same_Some (Lives f Goes caller) (Lives g.fiber Goes g.caller) (sym entry ∙ g.entry) in
      let y : f ≡ g.fiber = cc in
      ap (λ (z : Fiber). move code z.thread) y ∙ g.asks

  kept_so : (p' : Processor) → Grows n p p' → ((o : ℕ) → GoesInto code p n o → ⊥) → LocksWait code p'
  kept_so p' g none = locks_still code p p' n g (in_hand p') none h

  same_goes : (a b : Processor) (i o : ℕ) → b.table ≡ a.table → GoesInto code a i o → GoesInto code b i o
  same_goes a b i o e g = same_goes_of code a b i o g (ap (λ (es : List Entry). slice_get es i) e ∙ g.entry)

  module _ (line : ℕ) (ask : Ask Address) (k : Answer Address → Then Address) (asks_so : move code f.thread ≡ Does line ask k) where
    enters_so : (o : ℕ) (g : GoesInto code p n o) → ask ≡ Enters g.function (Ptr g.object g.cell) g.values
    enters_so o g =
        let d : Does line ask k ≡ Does g.line (Enters g.function (Ptr g.object g.cell) g.values) g.next = sym asks_so ∙ goes_so o g in cc

    -- it goes into that object
    object_so : (o : ℕ) (g : GoesInto code p n o) → goes_into code.shapes ask ≡ Some g.object
    object_so o g = ap (goes_into code.shapes) (enters_so o g) ∙ ap (λ b. if b then Some g.object else None) g.atomic

    none_so : goes_into code.shapes ask ≡ None → (o : ℕ) → GoesInto code p n o → ⊥
    none_so e o g = none-some g.object (sym e ∙ object_so o g)

    other_so : (a : Address) → goes_into code.shapes ask ≡ Some a → (o : ℕ) → (o ≡ a.object → ⊥) → GoesInto code p n o → ⊥
    other_so a e o apart g = apart (sym g.is ∙ ap (λ (z : Address). z.object) (same_Some g.object a (sym (object_so o g) ∙ e)))

    -- it waits for the object
    waits_lock : (a : Address) → goes_into code.shapes ask ≡ Some a → ((l : Locked) → p.locks a.object ≡ Some l → (held_on p.shelf a.object ≡ true) ⊎ (l.holder ≡ n → ⊥))
        → (x : Option Locked) → p.locks a.object ≡ x → LocksWait code (wait_for_lock n a.object x p)
    waits_lock a e ok None d = h
    waits_lock a e ok (Some l) d = by
      where
        p' : Processor
        p' = put_hand None (put_lock a.object (Some (record { holder = l.holder; waiters = l.waiters ++ n ∷ [] })) p)

        grows : Grows n p (put_hand None p)
        grows = record { ready = λ i z. z; entries = λ i g c z y. y; held = λ o z. z; locks = refl }

        -- but for the list
        move_to : (o : ℕ) (i : ℕ) → (held_on p.shelf o ≡ true) ⊎ (IsUp (put_hand None p) i × GoesInto code (put_hand None p) i o)
            → (held_on p.shelf o ≡ true) ⊎ (IsUp (put_hand None (put_lock a.object (Some (record { holder = l.holder; waiters = l.waiters ++ n ∷ [] })) p)) i
            × GoesInto code (put_hand None (put_lock a.object (Some (record { holder = l.holder; waiters = l.waiters ++ n ∷ [] })) p)) i o)
        move_to o i (inl z) = inl z
        move_to o i (inr z) = inr (
          z.0,
          record {
            fiber = z.1.fiber;
            caller = z.1.caller;
            entry = z.1.entry;
            line = z.1.line;
            function = z.1.function;
            object = z.1.object;
            cell = z.1.cell;
            values = z.1.values;
            next = z.1.next;
            asks = z.1.asks;
            atomic = z.1.atomic;
            is = z.1.is;
          },
        )

        mine : (held_on p.shelf a.object ≡ true) ⊎ (IsUp (put_hand None p) l.holder × GoesInto code (put_hand None p) l.holder a.object)
        mine = ⊎_elim (λ (z : held_on p.shelf a.object ≡ true). inl z)
            (λ (z : l.holder ≡ n → ⊥). lock_still code p (put_hand None p) n grows (in_hand (put_hand None p)) a.object l (λ s g. z s) (h a.object l d)) (ok l d)

        by : LocksWait code (put_hand None (put_lock a.object (Some (record { holder = l.holder; waiters = l.waiters ++ n ∷ [] })) p))
        by o m m_at = at (nat_eq o a.object) refl m_at
          where
            at : (b : Bool) → nat_eq o a.object ≡ b → (if nat_eq o a.object then Some (record { holder = l.holder; waiters = l.waiters ++ n ∷ [] }) else p.locks o) ≡ Some m
                → (held_on p.shelf o ≡ true) ⊎ (IsUp (put_hand None (put_lock a.object (Some (record { holder = l.holder; waiters = l.waiters ++ n ∷ [] })) p)) m.holder
                × GoesInto code (put_hand None (put_lock a.object (Some (record { holder = l.holder; waiters = l.waiters ++ n ∷ [] })) p)) m.holder o)
            at true b z =
                let s : record { holder = l.holder; waiters = l.waiters ++ n ∷ [] } ≡ m =
                same_Some (record { holder = l.holder; waiters = l.waiters ++ n ∷ [] }) m (sym (ap (λ c. if c then Some (record { holder = l.holder; waiters = l.waiters ++ n ∷ [] }) else p.locks o) b) ∙ z) in
                let who : l.holder ≡ m.holder = ap (λ (y : Locked). y.holder) s in
                move_to o m.holder (subst (λ i. (held_on p.shelf o ≡ true) ⊎ (IsUp (put_hand None p) i × GoesInto code (put_hand None p) i o)) who
                (subst (λ j. (held_on p.shelf j ≡ true) ⊎ (IsUp (put_hand None p) l.holder × GoesInto code (put_hand None p) l.holder j)) (sym (same_number o a.object b)) mine))
            at false b z =
                let old : p.locks o ≡ Some m = sym (ap (λ c. if c then Some (record { holder = l.holder; waiters = l.waiters ++ n ∷ [] }) else p.locks o) b) ∙ z in
                let apart : o ≡ a.object → ⊥ = λ s. absurd (false≢true (sym b ∙ subst (λ j. nat_eq o j ≡ true) s (number_itself o))) in
                move_to o m.holder (lock_still code p (put_hand None p) n grows (in_hand (put_hand None p)) o m (λ s. other_so a e o apart) (h o m old))

    enters_wait : (o : Option Address) → goes_into code.shapes ask ≡ o
        → ((a : Address) → o ≡ Some a → (l : Locked) → p.locks a.object ≡ Some l → (held_on p.shelf a.object ≡ true) ⊎ (l.holder ≡ n → ⊥)) → LocksWait code (enters_later n o p)
    enters_wait None e ok = h
    enters_wait (Some a) e ok = waits_lock a e (ok a refl) (p.locks a.object) refl

    -- another thread holds it
    taken_ok : (o : Option Address) → is_taken p n o ≡ true → (a : Address) → o ≡ Some a → (l : Locked) → p.locks a.object ≡ Some l
        → (held_on p.shelf a.object ≡ true) ⊎ (l.holder ≡ n → ⊥)
    taken_ok None e a d l at = absurd (none-some a d)
    taken_ok (Some b) e a d l at =
        let s : b ≡ a = same_Some b a d in
        let t : not (nat_eq l.holder n) ≡ true =
        sym (ap (λ x. option_map_or (λ (m : Locked). not (nat_eq m.holder n)) x false) (ap (λ (z : Address). p.locks z.object) s ∙ at)) ∙ e in
        inr (λ z. absurd (false≢true (sym (not_so (nat_eq l.holder n) t) ∙ subst (λ j. nat_eq l.holder j ≡ true) z (number_itself l.holder))))

    -- a thread is inside
    hold_ok : asks_here q f ask ≡ true → verdict (seen code q p) q f ask ≡ Hold → (a : Address) → goes_into code.shapes ask ≡ Some a → held_on p.shelf a.object ≡ true
    hold_ok on e a d = by ask on e d
      where
        by : (x : Ask Address) → asks_here q f x ≡ true → verdict (seen code q p) q f x ≡ Hold → goes_into code.shapes x ≡ Some a → held_on p.shelf a.object ≡ true
        by (Enters g (Ptr b y) vs) on' e' d' = at (function_shape code.shapes g).atomic refl d'
          where
            held_so : (function_shape code.shapes g).atomic && is_held (alone_at q no_shelf p.shelf) (Ptr b y) ≡ true
            held_so = free_holds ((function_shape code.shapes g).atomic && is_held (alone_at q no_shelf p.shelf) (Ptr b y)) _ _ _ _ e'

            at : (z : Bool) → (function_shape code.shapes g).atomic ≡ z → (if z then Some b else None) ≡ Some a → held_on p.shelf a.object ≡ true
            at true c s =
                let same_a : b ≡ a = same_Some b a s in
                let held_b : is_held (alone_at q no_shelf p.shelf) (Ptr b y) ≡ true = (both_true (function_shape code.shapes g).atomic _ held_so).1 in
                ap (λ (w : Address). held_on p.shelf w.object) (sym same_a) ∙ (sym (held_alone q p.shelf b y (is_on_so q (Ptr b y) on')) ∙ held_b)
            at false c s = absurd (none-some a s)
        by (Enters g Void vs) on' e' d' = absurd (none-some a d')
        by (Enters g (Int z) vs) on' e' d' = absurd (none-some a d')
        by (Enters g Null vs) on' e' d' = absurd (none-some a d')
        by x on' e' d' = absurd (none-some a d')

    waits_so : asks_here q f ask ≡ true → verdict (seen code q p) q f ask ≡ Hold → LocksWait code (waits code q n f caller ask p)
    waits_so on hold = by ask refl
      where
        ok : (a : Address) → goes_into code.shapes ask ≡ Some a → (l : Locked) → p.locks a.object ≡ Some l → (held_on p.shelf a.object ≡ true) ⊎ (l.holder ≡ n → ⊥)
        ok a d l at = inl (hold_ok on hold a d)

        joins : (made : List ℕ) → ask ≡ asks.Joins made → LocksWait code (joins_later q n f caller made p)
        joins made e = at (one_lives (alone_at q [] (map seen_entry p.table)) f.kids made)
          where
            at : (b : Bool) → LocksWait code (if b then put_hand None (put_entry n (Lives f Joins caller) p) else p)
            at true = kept_so (put_hand None (put_entry n (Lives f Joins caller) p))
                (let g = put_grows n (Lives f Joins caller) p in record { ready = g.ready; entries = g.entries; held = g.held; locks = g.locks }) (none_so (ap (goes_into code.shapes) e))
            at false = h

        parks : (b : Address) (x : ℕ) (remote : Bool) → ask ≡ Reads remote (Ptr b x) → LocksWait code (put_hand None (park b.object x (Own n) p))
        parks b x remote e = kept_so (put_hand None (park b.object x (Own n) p)) (record { ready = λ i z. z; entries = λ i g c z y. y; held = λ o z. z; locks = refl })
            (none_so (ap (goes_into code.shapes) e))

        lock : LocksWait code (enters_later n (goes_into code.shapes ask) p)
        lock = enters_wait (goes_into code.shapes ask) refl ok

        by : (x : Ask Address) → ask ≡ x → LocksWait code (waits code q n f caller x p)
        by (Reads remote (Ptr b x)) e = parks b x remote e
        by (Reads remote Void) e = h
        by (Reads remote (Int z)) e = h
        by (Reads remote Null) e = h
        by (asks.Joins made) e = joins made e
        by x e = subst (λ y. LocksWait code (enters_later n (goes_into code.shapes y) p)) e lock

    -- ---- a step

    module _ (found : Values) (free : ends_free code (on_here code q n f caller ask k p found) (settle code (runs (on_here code q n f caller ask k p found) None [])) ≡ true) where
      abbrev e : Effect
      e = effect_here code q n f caller ask k p found

      abbrev goes_on : Fiber
      goes_on = on_here code q n f caller ask k p found

      -- the objects before a function is entered or left
      abbrev written_shelves : Shelf
      written_shelves = put_all_on (write_all_on p.shelf e.writes) e.objects

      ground_held : KeepsHeld p.shelf written_shelves
      ground_held = held_then p.shelf (write_all_on p.shelf e.writes) written_shelves (writes_held e.writes p.shelf) (news_held e.objects (write_all_on p.shelf e.writes))

      abbrev shelf : Shelf
      shelf = (place_after code q n (here code q n f caller ask k p) f ask k found e).shelf

      shelf_is : shelf ≡ held_after_on code.shapes f.inside ask written_shelves
      shelf_is = freed_same code goes_on (settle code (runs goes_on None [])) (held_after_on code.shapes f.inside ask written_shelves) free

      abbrev p3 : Processor
      p3 = put_entry n (Lives goes_on Goes caller) (make_threads (new_here code q n (here code q n f caller ask k p) f ask k found e) (put_shelf shelf p))

      abbrev p4 : Processor
      p4 = wake_written e.writes p3

      rest_grows : (s : Shelf) → shelf ≡ s → Grows n (put_shelf s p) p4
      rest_grows s same_s =
          let new = new_here code q n (here code q n f caller ask k p) f ask k found e in
          subst (λ z. Grows n (put_shelf z p) p4) same_s
          (then_grows n (put_shelf shelf p) (make_threads new (put_shelf shelf p)) p4 (made_grows n new (put_shelf shelf p))
          (then_grows n (make_threads new (put_shelf shelf p)) p3 p4 (put_grows n (Lives goes_on Goes caller) (make_threads new (put_shelf shelf p))) (woken_grows n e.writes p3)))

      -- where nothing is entered or left
      plain : held_after_on code.shapes f.inside ask written_shelves ≡ written_shelves → Grows n p p4
      plain same_g =
          let g = rest_grows written_shelves (shelf_is ∙ same_g) in
          record { ready = g.ready; entries = g.entries; held = λ o z. g.held o (ground_held.held o z); locks = g.locks }

      plain_so : held_after_on code.shapes f.inside ask written_shelves ≡ written_shelves → goes_into code.shapes ask ≡ None → LocksWait code (take_lock n (goes_into code.shapes ask) p4)
      plain_so same_g none = subst (λ o. LocksWait code (take_lock n o p4)) (sym none) (kept_so p4 (plain same_g) (none_so none))

      entry_goes : (i o : ℕ) → (g : GoesInto code p i o) → slice_get p4.table i ≡ Some (Lives g.fiber Goes g.caller) → GoesInto code p4 i o
      entry_goes i o g d = same_goes_of code p p4 i o g d

      -- it goes in
      enters_step : (g : ℕ) (a : Address) (x : ℕ) (vs : Values) → ask ≡ Enters g (Ptr a x) vs → (function_shape code.shapes g).atomic ≡ true
          → is_some (slice_get p.shelf.things a.object) ≡ true → LocksWait code (put_lock a.object (held_by n (p4.locks a.object)) p4)
      enters_step g a x vs is atomic there o l at = by (nat_eq o a.object) refl at
        where
          into : goes_into code.shapes ask ≡ Some a
          into = ap (goes_into code.shapes) is ∙ ap (λ b. if b then Some a else None) atomic

          after : Shelf
          after = with_thing a.object (with_held true) written_shelves

          shelf_now : shelf ≡ with_thing a.object (with_held true) written_shelves
          shelf_now = shelf_is ∙ (ap (λ y. held_after_on code.shapes f.inside y written_shelves) is ∙ ap (λ b. when b (with_thing a.object (with_held true)) written_shelves) atomic)

          grows : Grows n (put_shelf (with_thing a.object (with_held true) written_shelves) p) p4
          grows = rest_grows (with_thing a.object (with_held true) written_shelves) shelf_now

          all_grows : Grows n p p4
          all_grows = record {
            ready = grows.ready;
            entries = grows.entries;
            held = λ i z. grows.held i (things_held (with_held true) (λ t w. refl) written_shelves.things i a.object (ground_held.held i z));
            locks = grows.locks;
          }

          by : (b : Bool) → nat_eq o a.object ≡ b → (if nat_eq o a.object then held_by n (p4.locks a.object) else p4.locks o) ≡ Some l
              → (held_on p4.shelf o ≡ true) ⊎ (IsUp (put_lock a.object (held_by n (p4.locks a.object)) p4) l.holder × GoesInto code (put_lock a.object (held_by n (p4.locks a.object)) p4) l.holder o)
          by true b z = inl (grows.held o (subst (λ i. held_on (with_thing a.object (with_held true) written_shelves) i ≡ true) (sym (same_number o a.object b))
              (now_held written_shelves.things a.object (ground_held.there a.object there))))
          by false b z =
              let old : p.locks o ≡ Some l = ap (λ (y : ℕ → Option Locked). y o) (sym grows.locks) ∙ (sym (ap (λ c. if c then held_by n (p4.locks a.object) else p4.locks o) b) ∙ z) in
              let apart : o ≡ a.object → ⊥ = λ s. absurd (false≢true (sym b ∙ subst (λ j. nat_eq o j ≡ true) s (number_itself o))) in
              moved (lock_still code p p4 n all_grows (in_hand p4) o l (λ s. other_so a into o apart) (h o l old))
            where
              moved : (held_on p4.shelf o ≡ true) ⊎ (IsUp p4 l.holder × GoesInto code p4 l.holder o)
                  → (held_on p4.shelf o ≡ true) ⊎ (IsUp (put_lock a.object (held_by n (p4.locks a.object)) p4) l.holder × GoesInto code (put_lock a.object (held_by n (p4.locks a.object)) p4) l.holder o)
              moved (inl w) = inl w
              moved (inr w) = inr (w.0, same_goes p4 (put_lock a.object (held_by n (p4.locks a.object)) p4) l.holder o refl w.1)

      -- it leaves
      leaves_step : (g : ℕ) (a : Address) (x : ℕ) (es : List (ℕ × Value Address)) → ask ≡ Leaves → f.inside ≡ (g, Ptr a x) ∷ es → (function_shape code.shapes g).atomic ≡ true
          → LocksWait code (leave_lock a.object (p4.locks a.object) p4)
      leaves_step g a x es is inside atomic = by (p4.locks a.object) refl
        where
          into : goes_into code.shapes ask ≡ None
          into = ap (goes_into code.shapes) is

          shelf_now : shelf ≡ with_thing a.object (with_held false) written_shelves
          shelf_now = shelf_is ∙ (ap (λ y. held_after_on code.shapes f.inside y written_shelves) is
              ∙ (ap (λ y. leave_on code.shapes y written_shelves) inside ∙ ap (λ b. when b (with_thing a.object (with_held false)) written_shelves) atomic))

          grows : Grows n (put_shelf (with_thing a.object (with_held false) written_shelves) p) p4
          grows = rest_grows (with_thing a.object (with_held false) written_shelves) shelf_now

          -- of another object
          other : (p' : Processor) → (p'.shelf ≡ p4.shelf) → ((i : ℕ) → IsUp p4 i → IsUp p' i) → p'.table ≡ p4.table → (o : ℕ) (l : Locked) → (o ≡ a.object → ⊥) → p.locks o ≡ Some l
              → (held_on p'.shelf o ≡ true) ⊎ (IsUp p' l.holder × GoesInto code p' l.holder o)
          other p' same_s ups same_t o l apart at = on (h o l at)
            where
              to : (held_on p4.shelf o ≡ true) ⊎ (IsUp p4 l.holder × GoesInto code p4 l.holder o) → (held_on p'.shelf o ≡ true) ⊎ (IsUp p' l.holder × GoesInto code p' l.holder o)
              to (inl z) = inl (ap (λ s. held_on s o) same_s ∙ z)
              to (inr z) = inr (ups l.holder z.0, same_goes p4 p' l.holder o same_t z.1)

              on : (held_on p.shelf o ≡ true) ⊎ (IsUp p l.holder × GoesInto code p l.holder o) → (held_on p'.shelf o ≡ true) ⊎ (IsUp p' l.holder × GoesInto code p' l.holder o)
              on (inl z) = to (inl (grows.held o (things_else (with_held false) written_shelves.things o a.object apart (ground_held.held o z))))
              on (inr z) = going (nat_eq l.holder n) refl
                where
                  going : (b : Bool) → nat_eq l.holder n ≡ b → (held_on p'.shelf o ≡ true) ⊎ (IsUp p' l.holder × GoesInto code p' l.holder o)
                  going true c = absurd (none_so into o (subst (λ i. GoesInto code p i o) (same_number l.holder n c) z.1))
                  going false c =
                      let far : l.holder ≡ n → ⊥ = λ s. absurd (false≢true (sym c ∙ subst (λ i. nat_eq l.holder i ≡ true) s (number_itself l.holder))) in
                      to (inr (
                        ⊎_elim (λ (u : p.hand ≡ Some l.holder). in_hand p4 l.holder o u far) (λ (u : IsIn l.holder p.ready). inr (grows.ready l.holder u)) z.0,
                        entry_goes l.holder o z.1 (grows.entries l.holder z.1.fiber z.1.caller far z.1.entry),
                      ))

          apart_so : (o : ℕ) → nat_eq o a.object ≡ false → o ≡ a.object → ⊥
          apart_so o b s = absurd (false≢true (sym b ∙ subst (λ j. nat_eq o j ≡ true) s (number_itself o)))

          by : (x : Option Locked) → p4.locks a.object ≡ x → LocksWait code (leave_lock a.object x p4)
          by None d o l at = here_or (nat_eq o a.object) refl
            where
              here_or : (b : Bool) → nat_eq o a.object ≡ b → (held_on p4.shelf o ≡ true) ⊎ (IsUp p4 l.holder × GoesInto code p4 l.holder o)
              here_or true b = absurd (none-some l (sym (ap p4.locks (same_number o a.object b) ∙ d) ∙ at))
              here_or false b = other p4 refl (λ i u. u) refl o l (apart_so o b) (ap (λ (y : ℕ → Option Locked). y o) (sym grows.locks) ∙ at)
          by (Some m) d o l at = handed m.waiters refl o l at
            where
              handed : (ws : List ℕ) → m.waiters ≡ ws → LocksWait code (hand_on a.object ws p4)
              handed [] w o l at = here_or (nat_eq o a.object) refl at
                where
                  here_or : (b : Bool) → nat_eq o a.object ≡ b → (if nat_eq o a.object then None else p4.locks o) ≡ Some l
                      → (held_on p4.shelf o ≡ true) ⊎ (IsUp (put_lock a.object None p4) l.holder × GoesInto code (put_lock a.object None p4) l.holder o)
                  here_or true b z = absurd (none-some l (sym (ap (λ c. if c then None else p4.locks o) b) ∙ z))
                  here_or false b z = other (put_lock a.object None p4) refl (λ i u. u) refl o l (apart_so o b)
                      (ap (λ (y : ℕ → Option Locked). y o) (sym grows.locks) ∙ (sym (ap (λ c. if c then None else p4.locks o) b) ∙ z))
              handed (i ∷ rest) w o l at = here_or (nat_eq o a.object) refl at
                where
                  p' : Processor
                  p' = be_ready (Own i) (put_lock a.object (Some (record { holder = i; waiters = rest })) p4)

                  here_or : (b : Bool) → nat_eq o a.object ≡ b → (if nat_eq o a.object then Some (record { holder = i; waiters = rest }) else p4.locks o) ≡ Some l
                      → (held_on p4.shelf o ≡ true) ⊎ (IsUp (be_ready (Own i) (put_lock a.object (Some (record { holder = i; waiters = rest })) p4)) l.holder
                      × GoesInto code (be_ready (Own i) (put_lock a.object (Some (record { holder = i; waiters = rest })) p4)) l.holder o)
                  here_or true b z =
                      let s : record { holder = i; waiters = rest } ≡ l = same_Some (record { holder = i; waiters = rest }) l (sym (ap (λ c. if c then Some (record { holder = i; waiters = rest }) else p4.locks o) b) ∙ z) in
                      let who : i ≡ l.holder = ap (λ (y : Locked). y.holder) s in
                      let next = later a.object m i rest (ap (λ (y : ℕ → Option Locked). y a.object) (sym grows.locks) ∙ d) w in
                      inr (
                        inr (in_back l.holder p4.ready (Own i ∷ []) (inl (ap Own who))),
                        subst (λ j. GoesInto code (be_ready (Own i) (put_lock a.object (Some (record { holder = i; waiters = rest })) p4)) l.holder j) (sym (same_number o a.object b))
                            (subst (λ j. GoesInto code (be_ready (Own i) (put_lock a.object (Some (record { holder = i; waiters = rest })) p4)) j a.object) who
                            (same_goes p4 (be_ready (Own i) (put_lock a.object (Some (record { holder = i; waiters = rest })) p4)) i a.object refl
                            (entry_goes i a.object next.1 (grows.entries i next.1.fiber next.1.caller next.0 next.1.entry)))),
                      )
                  here_or false b z = other (be_ready (Own i) (put_lock a.object (Some (record { holder = i; waiters = rest })) p4)) refl
                      (λ j u. ⊎_elim (λ (v : p4.hand ≡ Some j). inl v) (λ (v : IsIn j p4.ready). inr (in_front j p4.ready (Own i ∷ []) v)) u) refl o l (apart_so o b)
                      (ap (λ (y : ℕ → Option Locked). y o) (sym grows.locks) ∙ (sym (ap (λ c. if c then Some (record { holder = i; waiters = rest }) else p4.locks o) b) ∙ z))

      stepped_so : has_object p (goes_into code.shapes ask) ≡ true → LocksWait code (stepped_here code q n f caller ask k p found)
      stepped_so object = by ask refl
        where
          -- with nothing left behind
          plainly : held_after_on code.shapes f.inside ask written_shelves ≡ written_shelves → goes_into code.shapes ask ≡ None → LocksWait code (take_lock n (goes_into code.shapes ask) p4)
          plainly a b = plain_so a b

          by : (x : Ask Address) → ask ≡ x → LocksWait code (after_leaving code.shapes f x (take_lock n (goes_into code.shapes ask) p4))
          by (Enters g (Ptr a z) vs) is = at (function_shape code.shapes g).atomic refl
            where
              at : (b : Bool) → (function_shape code.shapes g).atomic ≡ b → LocksWait code (take_lock n (goes_into code.shapes ask) p4)
              at true atomic =
                  let into : goes_into code.shapes ask ≡ Some a = ap (goes_into code.shapes) is ∙ ap (λ b. if b then Some a else None) atomic in
                  subst (λ o. LocksWait code (take_lock n o p4)) (sym into) (enters_step g a z vs is atomic (sym (ap (has_object p) into) ∙ object))
              at false atomic =
                  plainly (ap (λ y. held_after_on code.shapes f.inside y written_shelves) is ∙ ap (λ b. when b (with_thing a.object (with_held true)) written_shelves) atomic)
                  (ap (goes_into code.shapes) is ∙ ap (λ b. if b then Some a else None) atomic)
          by (Enters g Void vs) is = plainly (ap (λ y. held_after_on code.shapes f.inside y written_shelves) is) (ap (goes_into code.shapes) is)
          by (Enters g (Int z) vs) is = plainly (ap (λ y. held_after_on code.shapes f.inside y written_shelves) is) (ap (goes_into code.shapes) is)
          by (Enters g Null vs) is = plainly (ap (λ y. held_after_on code.shapes f.inside y written_shelves) is) (ap (goes_into code.shapes) is)
          by Leaves is = subst (λ o. LocksWait code (leave_innermost code.shapes f.inside (take_lock n o p4))) (sym into) (inner f.inside refl)
            where
              into : goes_into code.shapes ask ≡ None
              into = ap (goes_into code.shapes) is

              nothing : leave_on code.shapes f.inside written_shelves ≡ written_shelves → LocksWait code p4
              nothing z = kept_so p4 (plain (ap (λ y. held_after_on code.shapes f.inside y written_shelves) is ∙ z)) (none_so into)

              inner : (es : List (ℕ × Value Address)) → f.inside ≡ es → LocksWait code (leave_innermost code.shapes es p4)
              inner [] z = nothing (ap (λ y. leave_on code.shapes y written_shelves) z)
              inner (x ∷ es) z = of_value x.1 refl
                where
                  same_ground : holds code.shapes x.0 x.1 ≡ false → LocksWait code p4
                  same_ground none = nothing (ap (λ y. leave_on code.shapes y written_shelves) z ∙ note_none code.shapes x.0 x.1 written_shelves none)

                  of_value : (v : Value Address) → x.1 ≡ v → LocksWait code (leave_object (holds code.shapes x.0 x.1) x.1 p4)
                  of_value Void y = subst (λ v. LocksWait code (leave_object (holds code.shapes x.0 v) v p4)) (sym y) (same_ground (ap (holds code.shapes x.0) y))
                  of_value (Int w) y = subst (λ v. LocksWait code (leave_object (holds code.shapes x.0 v) v p4)) (sym y) (same_ground (ap (holds code.shapes x.0) y))
                  of_value Null y = subst (λ v. LocksWait code (leave_object (holds code.shapes x.0 v) v p4)) (sym y) (same_ground (ap (holds code.shapes x.0) y))
                  of_value (Ptr a w) y = subst (λ v. LocksWait code (leave_object (holds code.shapes x.0 v) v p4)) (sym y) (at (function_shape code.shapes x.0).atomic refl)
                    where
                      at : (b : Bool) → (function_shape code.shapes x.0).atomic ≡ b → LocksWait code (leave_object (function_shape code.shapes x.0).atomic (Ptr a w) p4)
                      at true atomic = subst (λ b. LocksWait code (leave_object b (Ptr a w) p4)) (sym atomic)
                          (leaves_step x.0 a w es is (z ∙ ap (λ v. pair_with v ∷ es) y) atomic)
                        where
                          pair_with : Value Address → ℕ × Value Address
                          pair_with v = (x.0, v)
                      at false atomic = subst (λ b. LocksWait code (leave_object b (Ptr a w) p4)) (sym atomic) (same_ground (ap (holds code.shapes x.0) y ∙ atomic))
          by x is = plainly (ap (λ y. held_after_on code.shapes f.inside y written_shelves) is) (ap (goes_into code.shapes) is)

    decided_locks : asks_here q f ask ≡ true → (v : Verdict Address) → verdict (seen code q p) q f ask ≡ v → LocksAfter code (decided code q n f caller ask k p v)
    decided_locks on (Go found) go = by (may_step code q n f caller ask k p found) refl
      where
        by : (b : Bool) → may_step code q n f caller ask k p found ≡ b
            → LocksAfter code (if b then Went (Some (OwnStep (record { processor = q; thread = n }))) (effect_here code q n f caller ask k p found).prints (stepped_here code q n f caller ask k p found) else Went None [] p)
        by false d = h
        by true d =
            let one = both_true (not (is_remote ask)) _ d in
            let two = both_true (all_on q f.inside) _ one.1 in
            let three = both_true (ends_free code (on_here code q n f caller ask k p found) (settle code (runs (on_here code q n f caller ask k p found) None []))) _ two.1 in
            stepped_so found three.0 three.1
    decided_locks on Hold hold = waits_so on hold
    decided_locks on (Bad kind) bad = tt

    asks_locks : (o : Option Post) → posted ask ≡ o → LocksAfter code (asks_by code q n f caller ask k p o)
    asks_locks None d = by (asks_null ask) (asks_here q f ask) refl
      where
        itself : asks_here q f ask ≡ true → (b : Bool) → is_taken p n (goes_into code.shapes ask) ≡ b
            → LocksAfter code (if b then Went None [] (enters_later n (goes_into code.shapes ask) p) else decided code q n f caller ask k p (verdict (seen code q p) q f ask))
        itself on true t = enters_wait (goes_into code.shapes ask) refl (taken_ok (goes_into code.shapes ask) t)
        itself on false t = decided_locks on (verdict (seen code q p) q f ask) refl

        by : (b c : Bool) → asks_here q f ask ≡ c → LocksAfter code (if b then Failed NullPointer (record { processor = q; thread = n }) else (if c then asks_itself code q n f caller ask k p else Went None [] p))
        by true c x = tt
        by false true x = itself x (is_taken p n (goes_into code.shapes ask)) refl
        by false false x = h
    asks_locks (Some post) d = by (holds_none code.shapes f.inside)
      where
        no_post : (x : Ask Address) → posted x ≡ Some post → goes_into code.shapes x ≡ None
        no_post (Enters g (Ptr a z) vs) y = absurd (none-some post y)
        no_post (Enters g Void vs) y = refl
        no_post (Enters g (Int z) vs) y = refl
        no_post (Enters g Null vs) y = refl
        no_post x y = refl

        by : (b : Bool) → LocksAfter code (if b then Went None [] (send (Asks (record { processor = q; thread = n }) post) (put_hand None (put_entry n (Lives f Asking caller) p))) else Went None [] p)
        by true = kept_so (send (Asks (record { processor = q; thread = n }) post) (put_hand None (put_entry n (Lives f Asking caller) p)))
            (let g = put_grows n (Lives f Asking caller) p in record { ready = g.ready; entries = g.entries; held = g.held; locks = g.locks }) (none_so (no_post ask d))
        by false = h

  moves_locks : (mv : Move Address) → move code f.thread ≡ mv → LocksAfter code (moves_by code q n f caller mv p)
  moves_locks (Silent c) d =
      kept_so (put_entry n (Lives (record { thread = c; kids = f.kids; inside = f.inside }) Goes caller) p) (put_grows n (Lives (record { thread = c; kids = f.kids; inside = f.inside }) Goes caller) p)
      (λ o g. let x : Silent c ≡ Does g.line (Enters g.function (Ptr g.object g.cell) g.values) g.next = sym d ∙ goes_so o g in cc)
  moves_locks (Does line ask k) d = asks_locks line ask k d (posted ask) refl
  moves_locks (Ends v) d =
      kept_so (ended code q n caller v p) (ended_grows code q n caller v p)
      (λ o g. let x : Ends v ≡ Does g.line (Enters g.function (Ptr g.object g.cell) g.values) g.next = sym d ∙ goes_so o g in cc)
  moves_locks Stuck d = h

module _ (code : Code) (q : ℕ) (p : Processor) (h : LocksWait code p)
    (later : (n : ℕ) → p.hand ≡ Some n → (o : ℕ) (l : Locked) (i : ℕ) (is : List ℕ) → p.locks o ≡ Some l → l.waiters ≡ i ∷ is → (i ≡ n → ⊥) × GoesInto code p i o) where
  entry_locks : (n : ℕ) → p.hand ≡ Some n → (o : Option Entry) → slice_get p.table n ≡ o → LocksAfter code (entry_moves code q n o p)
  entry_locks n hand None e = h
  entry_locks n hand (Some (Ended v)) e = h
  entry_locks n hand (Some (Lives f Goes c)) e = moves_locks code q n f c p hand e h (later n hand) (move code f.thread) refl
  entry_locks n hand (Some (Lives f Joins c)) e = h
  entry_locks n hand (Some (Lives f Asking c)) e = h
  entry_locks n hand (Some (Lives f (Has v) c)) e =
      locks_still code p (put_entry n (Lives (with_value code f v) Goes c) p) n (put_grows n (Lives (with_value code f v) Goes c) p)
      (λ i o d apart. absurd (apart (sym (same_Some n i (sym hand ∙ d)))))
      (λ o g. let x : Lives f (Has v) c ≡ Lives g.fiber Goes g.caller = same_Some (Lives f (Has v) c) (Lives g.fiber Goes g.caller) (sym e ∙ g.entry) in let y : Has v ≡ Goes = cc in cc) h

  hand_locks : (o : Option ℕ) → p.hand ≡ o → LocksAfter code (hand_moves code q o p)
  hand_locks None e = h
  hand_locks (Some n) e = entry_locks n e (slice_get p.table n) refl

  pub moved_locks : LocksAfter code (moved code q p)
  moved_locks = hand_locks p.hand refl

-- ---- messages

past_end : (es : List Entry) (x : Entry) → slice_get es (length es) ≡ Some x → ⊥
past_end [] x e = none-some x e
past_end (y ∷ es) x e = past_end es x e

-- the hand is as it was, and thread n is about to go into nothing
steady : (code : Code) (p p' : Processor) (n : ℕ) → Grows n p p' → p'.hand ≡ p.hand → ((o : ℕ) → GoesInto code p n o → ⊥) → LocksWait code p → LocksWait code p'
steady code p p' n grows same_hand none h = locks_still code p p' n grows (λ i o d apart. inl (same_hand ∙ d)) none h

no_entry : (code : Code) (p : Processor) (o : ℕ) → GoesInto code p (length p.table) o → ⊥
no_entry code p o g = past_end p.table (Lives g.fiber Goes g.caller) g.entry

answer_grows : (n : ℕ) (t : ThreadNo) (post : Post) (found : Values) (p : Processor) → Grows n p (answer t post found p)
answer_grows n t (Get a) found p = record { ready = λ i z. z; entries = λ i f c d e. e; held = λ o e. e; locks = refl }
answer_grows n t (Put a v) found p =
    let w = wake_grows n a (put_shelf (write_on p.shelf a v) p) in
    let k = write_held a v p.shelf in
    record { ready = w.ready; entries = w.entries; held = λ o e. w.held o (k.held o e); locks = w.locks }
answer_grows n t (Call f o vs) found p = record {
  ready = λ i z. in_front i p.ready (Own (length p.table) ∷ []) z;
  entries = λ i g d apart e. get_in_front p.table (Lives (new_fiber (Starting f o vs)) Goes (Some t) ∷ []) (Lives g Goes d) i e;
  held = λ x e. e;
  locks = refl;
}
answer_grows n t (Cast f o vs) found p = record {
  ready = λ i z. in_front i p.ready (Own (length p.table) ∷ []) z;
  entries = λ i g d apart e. get_in_front p.table (Lives (new_fiber (Starting f o vs)) Goes None ∷ []) (Lives g Goes d) i e;
  held = λ x e. e;
  locks = refl;
}
answer_grows n t (Make c vs) found p = same n p

wake_hand : (a : Value Address) (p : Processor) → (wake_at a p).hand ≡ p.hand
wake_hand Void p = refl
wake_hand (Int n) p = refl
wake_hand Null p = refl
wake_hand (Ptr b x) p = refl

answer_hand : (t : ThreadNo) (post : Post) (found : Values) (p : Processor) → (answer t post found p).hand ≡ p.hand
answer_hand t (Get a) found p = refl
answer_hand t (Put a v) found p = wake_hand a (put_shelf (write_on p.shelf a v) p)
answer_hand t (Call f o vs) found p = refl
answer_hand t (Cast f o vs) found p = refl
answer_hand t (Make c vs) found p = refl

park_locks : (code : Code) (t : ThreadNo) (post : Post) (after before : Processor) → LocksWait code after → LocksWait code before → LocksWait code (park_get t post after before)
park_locks code t (Get (Ptr b x)) after before h g =
    steady code after (park b.object x (Asked t (Get (Ptr b x))) after) (length after.table) (record { ready = λ i z. z; entries = λ i f c d e. e; held = λ o e. e; locks = refl }) refl (no_entry code after) h
park_locks code t (Get Void) after before h g = g
park_locks code t (Get (Int n)) after before h g = g
park_locks code t (Get Null) after before h g = g
park_locks code t (Put a v) after before h g = g
park_locks code t (Call f o vs) after before h g = g
park_locks code t (Cast f o vs) after before h g = g
park_locks code t (Make c vs) after before h g = g

pub serves_locks : (code : Code) (q : ℕ) (t : ThreadNo) (post : Post) (after before : Processor) → LocksWait code after → LocksWait code before → LocksAfter code (serves code q t post after before)
serves_locks code q t post after before h g = by (verdict (seen code q after) q nobody (ask_of post))
  where
    by : (v : Verdict Address) → LocksAfter code (served_so q t post v after before)
    by (Go found) = steady code after (answer t post found after) (length after.table) (answer_grows (length after.table) t post found after) (answer_hand t post found after) (no_entry code after) h
    by Hold = park_locks code t post after before h g
    by (Bad kind) = tt

told_locks : (code : Code) (n : ℕ) (v : Value Address) (o : Option Entry) (after before : Processor) → slice_get after.table n ≡ o → LocksWait code after → LocksWait code before
    → LocksAfter code (told code n v o after before)
told_locks code n v None after before e h g = g
told_locks code n v (Some (Ended w)) after before e h g = g
told_locks code n v (Some (Lives f Goes k)) after before e h g = g
told_locks code n v (Some (Lives f Joins k)) after before e h g = g
told_locks code n v (Some (Lives f (Has w) k)) after before e h g = g
told_locks code n v (Some (Lives f Asking k)) after before e h g =
    let x = taken_by code f v (move code f.thread) in
    let put = put_grows n (Lives x.1 x.0 k) after in
    steady code after (be_ready (Own n) (put_entry n (Lives x.1 x.0 k) after)) n
    (record { ready = λ i z. in_front i after.ready (Own n ∷ []) z; entries = put.entries; held = λ o z. z; locks = refl }) refl
    (λ o z. let y : Lives f Asking k ≡ Lives z.fiber Goes z.caller = same_Some (Lives f Asking k) (Lives z.fiber Goes z.caller) (sym e ∙ z.entry) in let w : Asking ≡ Goes = cc in cc) h

-- with other messages
inbox_same : (code : Code) (rest : List Message) (p : Processor) → LocksWait code p → LocksWait code (record p { inbox = rest })
inbox_same code rest p h =
    steady code p (record p { inbox = rest }) (length p.table) (record { ready = λ i z. z; entries = λ i f c d e. e; held = λ o e. e; locks = refl }) refl (no_entry code p) h

pub inbox_locks : (code : Code) (q : ℕ) (messages : List Message) (p : Processor) → LocksWait code p → LocksAfter code (serves_inbox code q messages p)
inbox_locks code q [] p h = h
inbox_locks code q (Asks t post ∷ rest) p h = serves_locks code q t post (record p { inbox = rest }) p (inbox_same code rest p h) h
inbox_locks code q (Answers t v ∷ rest) p h =
    told_locks code t.thread v (slice_get p.table t.thread) (record p { inbox = rest }) p refl (inbox_same code rest p h) h

-- another list of waiters, where all threads are that were up
pub ready_locks : (code : Code) (p p' : Processor) → p'.table ≡ p.table → p'.shelf ≡ p.shelf → p'.locks ≡ p.locks → ((i : ℕ) → IsUp p i → IsUp p' i) → LocksWait code p → LocksWait code p'
ready_locks code p p' table shelf locks ups h o l e = ⊎_elim
    (λ (z : held_on p.shelf o ≡ true). inl (ap (λ s. held_on s o) shelf ∙ z))
    (λ (z : IsUp p l.holder × GoesInto code p l.holder o).
    inr (ups l.holder z.0, same_goes_of code p p' l.holder o z.1 (ap (λ (es : List Entry). slice_get es l.holder) table ∙ z.1.entry)))
    (h o l (ap (λ (f : ℕ → Option Locked). f o) (sym locks) ∙ e))

pub up_taken : (p : Processor) (front : List Waiter) (n : ℕ) (back : List Waiter) → p.hand ≡ None → p.ready ≡ front ++ Own n ∷ back → (i : ℕ) → IsUp p i
    → (Some n ≡ Some i) ⊎ IsIn i (front ++ back)
up_taken p front n back none ready i (inl e) = absurd (none-some i (sym none ∙ e))
up_taken p front n back none ready i (inr e) = ⊎_elim
    (λ (z : Own n ≡ Own i). let s : n ≡ i = cc in inl (ap (λ j. Some j) s)) (λ (z : IsIn i (front ++ back)). inr z) (in_without i front (Own n) back (subst (IsIn i) ready e))

pub up_back : (p : Processor) (n : ℕ) → p.hand ≡ Some n → (i : ℕ) → IsUp p i → IsIn i (p.ready ++ Own n ∷ [])
up_back p n hand i (inl e) = in_back i p.ready (Own n ∷ []) (inl (ap Own (same_Some n i (sym hand ∙ e))))
up_back p n hand i (inr e) = in_front i p.ready (Own n ∷ []) e

pub up_without : (front : List Waiter) (t : ThreadNo) (post : Post) (back : List Waiter) (i : ℕ) → IsIn i (front ++ Asked t post ∷ back) → IsIn i (front ++ back)
up_without front t post back i e = ⊎_elim (λ (z : Asked t post ≡ Own i). absurd (cc)) (λ (z : IsIn i (front ++ back)). z) (in_without i front (Asked t post) back e)
