-- A step of the thread in the hand: what it writes, makes, wakes, and the objects that it goes into or leaves.
use Rattle.numbered_runs.specs.Posts.{posted}
use Rattle.std.proofs.Common.{◌≡◌, ℕ, suc, List, [], ◌∷◌, ◌++◌, length, map, Bool, true, false, Option, Some, None, refl, sym, ap, ◌∙◌, subst}
use Rattle.std.proofs.lemmas.Option.{none-some, same_Some}
use Rattle.std.proofs.lemmas.Bool.{false≢true}
use Rattle.std.specs.Prelude.{slice_get, if◌then◌else◌}
use Rattle.cc_ops.specs.Values.{Value, Void, Int, Null, Ptr}
use Rattle.cc_ops.specs.Machine.{Address, Values}
use Rattle.cc_ops.specs.declared.number.ThreadNo.{ThreadNo}
use Rattle.cc_ops.specs.Shelves.{Shelf, changed}
use Rattle.cc_core.specs.Core.{Shapes}
use Rattle.cc_core.specs.Asks.{Ask, Answer, Reads, Writes, Copies, Indexes, Shifts, Computes, Tests, Makes, MakesWith, Builds, Enters, Leaves}
use Rattle.cc_core.specs.Asks.{ForksAll, ForksOne, Joins, Spawns, Prints, Calls, Casts, NewProcessor}
use Rattle.cc_core.specs.Effects.{numbers, branch_count, is_call}
use Rattle.cc_core.specs.Needs.{Go}
use Rattle.cc_code.specs.Code.{Code, Thread, Then, Does, move}
use Rattle.code_names.specs.Same.{Pairwise}
use Rattle.numbered_runs.specs.Effects.{Effect, effect}
use Rattle.numbered_runs.specs.Steps.{settle, numbers_on}
use Rattle.numbered_runs.proofs.Lists.{get_in_front, pairwise_length}
use Rattle.law_mesh.specs.Spots.{Fiber, Cell, Lock, Branches, Spot, Active, Parked, Posted, Delayed, Answered, Calling, Called, Gone, Mesh, item_in, put_item, shown, runs, verdict}
use Rattle.law_mesh.specs.Moves.{Acts, own_step, Wakes, Rouses, with_spot, with_spots, acted, effect_of, push_item, push_items, new_spots, new_fiber, known}
use Rattle.law_mesh.specs.Local.{place_after, new_here, AsksOn, freed_on, held_after_on, put_all_on, write_all_on, addresses_on}
use Rattle.law_mesh.specs.Queues.{Queue, Ready, OfCell, OfLock, Item, Itself, Hold, woken, same_queue, put_queue, pushed, poured, holds}
use Rattle.law_processors.specs.Processors.{Own, Goes, Joins as JoinsBranches, Asking, Has, Entry, Lives, Ended, Locked, Processor, Processors, IsEntry, lock_items, lists, shelves_of, with_processor}
use Rattle.law_processors.specs.Alone.{put_entry, put_shelf, be_ready, wake, wake_at, wake_written, put_lock, make_thread, make_threads, seen, seen_entry, here, effect_here, on_here, stepped_here, asks_here, is_remote, all_on, take_lock, goes_into, after_leaving, leave_innermost, leave_object, leave_lock, hand_on, held_by}
use Rattle.law_processors.specs.Follow.{Stays, Then as ThenOn}
use Rattle.law_mesh.proofs.Lists.{item_has, item_mapped, stays_pushed}
use Rattle.law_mesh.proofs.Local.{changed_alike, changed_twice}
use Rattle.law_mesh.proofs.Acted.{acted_here, put_row}
use Rattle.law_mesh.proofs.Pour.{pour}
use Rattle.law_mesh.proofs.Queues.{appear, one_queue, ready_is, IsReady, IsActive, HasValue, WaitsFor, WaitsIn}
use Rattle.law_processors.proofs.Edits.{SameLists, same_hold, same_fields, shelf_lists, pushes_ready, lock_lists, pours, carried_over, here as here_now}
use Rattle.law_processors.proofs.Base.{tables_with, base_make, base_spot, spots_row}
use Rattle.law_processors.proofs.Pieces.{At, Reach, no, nothing, and_then, one_silent, put_here, hand_active}
use Rattle.law_processors.proofs.Seen.{seen_so, answered_here, all_on_so, is_on_so, shelf_there, row_there}

-- ---- what is woken

module _ {A B : Type 0} (S : A → B → Type 0) (f : B → B) (each : (x : A) (y : B) → S x y → S x (f y)) where
  right_row : (xs : List A) (ys : List B) → Pairwise S xs ys → Pairwise S xs (map f ys)
  right_row [] [] h = tt
  right_row [] (y ∷ ys) h = absurd h
  right_row (x ∷ xs) [] h = absurd h
  right_row (x ∷ xs) (y ∷ ys) h = (each x y h.0, right_row xs ys h.1)

  pub right_mapped : (us : List (List A)) (vs : List (List B)) → Pairwise (Pairwise S) us vs → Pairwise (Pairwise S) us (map (map f) vs)
  right_mapped [] [] h = tt
  right_mapped [] (v ∷ vs) h = absurd h
  right_mapped (u ∷ us) [] h = absurd h
  right_mapped (u ∷ us) (v ∷ vs) h = (right_row u v h.0, right_mapped us vs h.1)

woken_entry : (a : Address) (x : ℕ) (e : Entry) (p : Spot) → IsEntry e p → IsEntry e (woken a x p)
woken_entry a x (Lives f Goes k) (Active g) h = h
woken_entry a x (Lives f Goes k) (Parked (Cell b y) g) h = by (same_queue (OfCell b y) (OfCell a x))
  where
    by : (c : Bool) → IsEntry (Lives f Goes k) (if c then Active g else Parked (Cell b y) g)
    by true = h
    by false = h
woken_entry a x (Lives f Goes k) (Parked (Lock b) g) h = h
woken_entry a x (Lives f JoinsBranches k) (Parked Branches g) h = h
woken_entry a x (Lives f Asking k) (Posted g) h = h
woken_entry a x (Lives f Asking k) (Delayed b y g) h = by (same_queue (OfCell b y) (OfCell a x))
  where
    by : (c : Bool) → IsEntry (Lives f Asking k) (if c then Posted g else Delayed b y g)
    by true = h
    by false = h
woken_entry a x (Lives f Asking k) (Answered vs g) h = h
woken_entry a x (Lives f Asking k) (Calling kid g) h = h
woken_entry a x (Lives f Asking k) (Called kid v g) h = h
woken_entry a x (Lives f (Has u) k) (Called kid v g) h = h
woken_entry a x (Ended u) (Gone v) h = h
woken_entry a x e p h = absurd h

-- who calls is not woken
not_woken : (a : Address) (x : ℕ) (kid : ThreadNo) (g : Fiber) (p : Spot) → woken a x p ≡ Calling kid g → p ≡ Calling kid g
not_woken a x kid g (Active f) e = e
not_woken a x kid g (Parked (Cell b y) f) e = by (same_queue (OfCell b y) (OfCell a x)) e
  where
    by : (c : Bool) → (if c then Active f else Parked (Cell b y) f) ≡ Calling kid g → Parked (Cell b y) f ≡ Calling kid g
    by true d = let z : Active f ≡ Calling kid g = d in absurd (cc)
    by false d = d
not_woken a x kid g (Parked (Lock b) f) e = e
not_woken a x kid g (Parked Branches f) e = e
not_woken a x kid g (Posted f) e = e
not_woken a x kid g (Delayed b y f) e = by (same_queue (OfCell b y) (OfCell a x)) e
  where
    by : (c : Bool) → (if c then Posted f else Delayed b y f) ≡ Calling kid g → Delayed b y f ≡ Calling kid g
    by true d = let z : Posted f ≡ Calling kid g = d in absurd (cc)
    by false d = d
not_woken a x kid g (Answered vs f) e = e
not_woken a x kid g (Calling k f) e = e
not_woken a x kid g (Called k v f) e = e
not_woken a x kid g (Gone v) e = e

roused_entry : (b : Address) (f : Fiber) (e : Entry) → IsEntry e (Parked (Lock b) f) → IsEntry e (Active f)
roused_entry b f (Lives g Goes k) h = h
roused_entry b f (Lives g JoinsBranches k) h = absurd h
roused_entry b f (Lives g Asking k) h = absurd h
roused_entry b f (Lives g (Has u) k) h = absurd h
roused_entry b f (Ended u) h = absurd h

module _ (m : Processors) (q : ℕ) (p0 : Processor) (there : slice_get m.all q ≡ Some p0) where
  pub wakes_all : (o x : ℕ) (p : Processor) (output : List ℕ) (n : Mesh) → At m q p0 there p output n → Reach m q p0 there n [] (wake o x p) output
  wakes_all o x p output n a = record {
    mesh = with_spots n (map (map (woken place x)) n.spots);
    run = one_silent n _ (Wakes place x);
    after = record {
      base = record {
        code = a.base.code;
        shelves = a.base.shelves;
        printed = a.base.printed;
        entries = right_mapped IsEntry (woken place x) (woken_entry place x) (tables_with m q p.table) n.spots a.base.entries;
        callers = λ u kid c. let r = a.base.callers u kid c in (r.0, item_has (woken place x) n.spots u (Calling kid r.0) r.1);
        askers = λ u kid g c. let r = item_mapped (woken place x) n.spots u (Calling kid g) c in
            a.base.askers u kid g (r.1 ∙ ap (λ z. Some z) (not_woken place x kid g r.0 (sym r.2)));
      };
      hold = same_hold m.code (poured (lists (with_processor m q p)) place x) (lists (with_processor m q (wake o x p))) (map (map (woken place x)) n.spots)
          (pours m q p0 there o x p) (pour m.code (lists (with_processor m q p)) n.spots a.hold place x);
    };
  }
    where
      place : Address
      place = record { processor = q; object = o }

  wakes_at : (v : Value Address) (p : Processor) (output : List ℕ) (n : Mesh) → At m q p0 there p output n → Reach m q p0 there n [] (wake_at v p) output
  wakes_at Void p output n a = nothing m q p0 there n p output a
  wakes_at (Int z) p output n a = nothing m q p0 there n p output a
  wakes_at Null p output n a = nothing m q p0 there n p output a
  wakes_at (Ptr b x) p output n a = wakes_all b.object x p output n a

  pub wakes_here : (v : Value Address) (p : Processor) (output : List ℕ) (n : Mesh) → At m q p0 there p output n → Reach m q p0 there n [] (wake_at v p) output
  wakes_here = wakes_at

  pub wakes_each : (ws : List (Value Address × Value Address)) (p : Processor) (output : List ℕ) (n : Mesh) → At m q p0 there p output n
      → Reach m q p0 there n [] (wake_written ws p) output
  wakes_each [] p output n a = nothing m q p0 there n p output a
  wakes_each (w ∷ ws) p output n a =
      and_then m q p0 there n [] (wake_at w.0 p) (wake_written ws (wake_at w.0 p)) output (wakes_at w.0 p output n a)
      (λ n1 b. wakes_each ws (wake_at w.0 p) output n1 b)

  -- ---- threads that are made

  abbrev pub with_more : Mesh → List Spot → Mesh
  with_more n new = record { code = n.code; shelves = n.shelves; spots = push_items n.spots q new; holder = n.holder; output = n.output }

  pub made_hold : (c : Thread Address) (caller : Option ThreadNo) (p : Processor) (spots : List (List Spot)) (row : List Spot) → slice_get spots q ≡ Some row
      → length p.table ≡ length row → Hold m.code (lists (with_processor m q p)) spots
      → Hold m.code (lists (with_processor m q (make_thread c caller p))) (push_item spots q (Active (new_fiber c)))
  made_hold c caller p spots row row_at same hold =
      same_hold m.code (pushed (lists (with_processor m q p)) (Ready q) (Itself (record { processor = q; thread = length row }))) (lists (with_processor m q (make_thread c caller p)))
      (push_item spots q (Active (new_fiber c)))
      (λ k. ap (λ i. pushed (lists (with_processor m q p)) (Ready q) (Itself (record { processor = q; thread = i })) k) (sym same)
      ∙ (pushes_ready m q p0 there (Own (length p.table)) p k
      ∙ same_fields m q (be_ready (Own (length p.table)) p) (make_thread c caller p) refl refl refl refl refl refl k))
      (appear m.code (lists (with_processor m q p)) spots hold q row row_at (new_fiber c))

  pub makes_one : (c : Thread Address) (caller : Option ThreadNo) (p : Processor) (output : List ℕ) (n : Mesh) → At m q p0 there p output n
      → ((u : ThreadNo) → caller ≡ Some u → (g : Fiber) × (item_in n.spots u ≡ Some (Calling (record { processor = q; thread = length p.table }) g)))
      → At m q p0 there (make_thread c caller p) output (record { code = n.code; shelves = n.shelves; spots = push_item n.spots q (Active (new_fiber c)); holder = n.holder; output = n.output })
  makes_one c caller p output n a waits =
      let row = spots_row m q p0 there p.shelf p.table output n a.base in
      record {
        base = base_make m q p0 there p.shelf p.table output n a.base (new_fiber c) caller waits;
        hold = made_hold c caller p n.spots row.0 row.1 row.2 a.hold;
      }

  pub makes_each : (cs : List (Thread Address)) (p : Processor) (output : List ℕ) (n : Mesh) → At m q p0 there p output n
      → At m q p0 there (make_threads cs p) output (with_more n (new_spots cs))
  makes_each [] p output n a = a
  makes_each (c ∷ cs) p output n a =
      makes_each cs (make_thread c None p) output _ (makes_one c None p output n a (λ u e. absurd (none-some u e)))

  -- ---- objects that a thread goes into and leaves

  same_value : (queues : Queue → List Item) (l : Queue) (xs : List Item) → xs ≡ queues l → SameLists queues (put_queue queues l xs)
  same_value queues l xs e k = by (same_queue k l) refl
    where
      by : (b : Bool) → same_queue k l ≡ b → queues k ≡ (if b then xs else queues k)
      by true d = ap queues (one_queue k l d) ∙ sym e
      by false d = refl

  same_locks : (o : ℕ) (l : Option Locked) (p : Processor) (output : List ℕ) (n : Mesh) → lock_items q l ≡ lock_items q (p.locks o)
      → At m q p0 there p output n → At m q p0 there (put_lock o l p) output n
  same_locks o l p output n e a = record {
    base = a.base;
    hold = same_hold m.code (lists (with_processor m q p)) (lists (with_processor m q (put_lock o l p))) n.spots
        (λ k. same_value (lists (with_processor m q p)) (OfLock (record { processor = q; object = o })) (lock_items q l)
        (e ∙ sym (here_now m q p0 there p (λ r. lock_items q (r.locks o)))) k ∙ lock_lists m q p0 there o l p k) a.hold;
  }

  goes_in : (i : ℕ) (g : Option Address) (p : Processor) (output : List ℕ) (n : Mesh) → At m q p0 there p output n → At m q p0 there (take_lock i g p) output n
  goes_in i None p output n a = a
  goes_in i (Some b) p output n a = same_locks b.object (held_by i (p.locks b.object)) p output n (by (p.locks b.object)) a
    where
      by : (l : Option Locked) → lock_items q (held_by i l) ≡ lock_items q l
      by None = refl
      by (Some l) = refl

  handed_on : (o : ℕ) (l : Locked) (ws : List ℕ) (p : Processor) (output : List ℕ) (n : Mesh) → p.locks o ≡ Some l → l.waiters ≡ ws → At m q p0 there p output n
      → Reach m q p0 there n [] (hand_on o ws p) output
  handed_on o l [] p output n at' e a =
      nothing m q p0 there n (put_lock o None p) output (same_locks o None p output n
      (sym (ap (lock_items q) at' ∙ ap (map (λ z. Itself (record { processor = q; thread = z }))) e)) a)
  handed_on o l (i ∷ is) p output n at' e a =
      by (ready_is m.code (lists (with_processor m q p)) n.spots a.hold (OfLock place) [] items (no m q p0 there i) now)
    where
      place : Address
      place = record { processor = q; object = o }

      items : List Item
      items = map (λ z. Itself (record { processor = q; thread = z })) is

      now : lists (with_processor m q p) (OfLock (record { processor = q; object = o })) ≡ [] ++ Itself (no m q p0 there i) ∷ map (λ z. Itself (record { processor = q; thread = z })) is
      now = here_now m q p0 there p (λ r. lock_items q (r.locks o)) ∙ (ap (lock_items q) at' ∙ ap (map (λ z. Itself (record { processor = q; thread = z }))) e)

      p1 : Processor
      p1 = put_lock o (Some (record { holder = i; waiters = is })) p

      by : IsReady m.code (lists (with_processor m q p)) n.spots a.hold (OfLock (record { processor = q; object = o })) [] (map (λ z. Itself (record { processor = q; thread = z })) is) (no m q p0 there i)
          → Reach m q p0 there n [] (be_ready (Own i) (put_lock o (Some (record { holder = i; waiters = is })) p)) output
      by (IsActive f stands h) = absurd h
      by (HasValue f kid v stands h c) = absurd h
      by (WaitsFor b x f stands d h) = let bad : OfLock (record { processor = q; object = o }) ≡ OfCell b x = d in absurd (cc)
      by (WaitsIn b f stands d h goes) = record {
        mesh = with_spot n (no m q p0 there i) (Active f);
        run = one_silent n _ (Rouses (no m q p0 there i) f (Lock b) stands);
        after = record {
          base = base_spot m q p0 there p.shelf p.table output n a.base (no m q p0 there i) (Parked (Lock b) f) (Active f) stands tt tt (roused_entry b f);
          hold = carried_over m.code (with_processor m q p) n.spots a.hold (OfLock (record { processor = q; object = o })) [] (map (λ z. Itself (record { processor = q; thread = z })) is)
              (Itself (no m q p0 there i)) now (Parked (Lock b) f) stands (with_processor m q (put_lock o (Some (record { holder = i; waiters = is })) p))
              (with_processor m q (be_ready (Own i) (put_lock o (Some (record { holder = i; waiters = is })) p)))
              (lock_lists m q p0 there o (Some (record { holder = i; waiters = is })) p) (Ready q) (Itself (no m q p0 there i))
              (pushes_ready m q p0 there (Own i) (put_lock o (Some (record { holder = i; waiters = is })) p)) refl (Active f) (Ready q, refl, refl);
        };
      }

  left_lock : (o : ℕ) (l : Option Locked) (p : Processor) (output : List ℕ) (n : Mesh) → p.locks o ≡ l → At m q p0 there p output n → Reach m q p0 there n [] (leave_lock o l p) output
  left_lock o None p output n e a = nothing m q p0 there n p output a
  left_lock o (Some l) p output n e a = handed_on o l l.waiters p output n e refl a

  left_object : (b : Bool) (v : Value Address) (p : Processor) (output : List ℕ) (n : Mesh) → At m q p0 there p output n → Reach m q p0 there n [] (leave_object b v p) output
  left_object false v p output n a = nothing m q p0 there n p output a
  left_object true Void p output n a = nothing m q p0 there n p output a
  left_object true (Int z) p output n a = nothing m q p0 there n p output a
  left_object true Null p output n a = nothing m q p0 there n p output a
  left_object true (Ptr b x) p output n a = left_lock b.object (p.locks b.object) p output n refl a

  left_innermost : (h : Shapes) (es : List (ℕ × Value Address)) (p : Processor) (output : List ℕ) (n : Mesh) → At m q p0 there p output n
      → Reach m q p0 there n [] (leave_innermost h es p) output
  left_innermost h [] p output n a = nothing m q p0 there n p output a
  left_innermost h (e ∷ es) p output n a = left_object (holds h e.0 e.1) e.1 p output n a

  leaves_it : (h : Shapes) (f : Fiber) (ask : Ask Address) (p : Processor) (output : List ℕ) (n : Mesh) → At m q p0 there p output n
      → Reach m q p0 there n [] (after_leaving h f ask p) output
  leaves_it h f Leaves p output n a = left_innermost h f.inside p output n a
  leaves_it h f ask p output n a = nothing m q p0 there n p output a

-- ---- the step itself

pub asks_on : (q : ℕ) (f : Fiber) (ask : Ask Address) → asks_here q f ask ≡ true → is_remote ask ≡ false → AsksOn q f ask
asks_on q f (Reads true a) e r = absurd (false≢true (sym r))
asks_on q f (Reads false a) e r = is_on_so q a e
asks_on q f (Writes true a v) e r = absurd (false≢true (sym r))
asks_on q f (Writes false a v) e r = is_on_so q a e
asks_on q f (Copies a n) e r = is_on_so q a e
asks_on q f (Enters g o vs) e r = is_on_so q o e
asks_on q f (ForksOne v) e r = is_on_so q v e
asks_on q f (Calls g o vs) e r = absurd (false≢true e)
asks_on q f (Casts g o vs) e r = absurd (false≢true e)
asks_on q f (NewProcessor c vs) e r = absurd (false≢true e)
asks_on q f (Joins made) e r = tt
asks_on q f (Indexes a n i) e r = tt
asks_on q f (Shifts a i) e r = tt
asks_on q f (Computes op vs) e r = tt
asks_on q f Tests e r = tt
asks_on q f (Makes kind n) e r = tt
asks_on q f (MakesWith kind v) e r = tt
asks_on q f (Builds c vs) e r = tt
asks_on q f Leaves e r = tt
asks_on q f (ForksAll n) e r = tt
asks_on q f (Spawns g o vs) e r = tt
asks_on q f (Prints parts vs) e r = tt

no_call : (q : ℕ) (f : Fiber) (ask : Ask Address) → asks_here q f ask ≡ true → is_call ask ≡ false
no_call q f (Calls g o vs) e = absurd (false≢true e)
no_call q f ask e = refl

-- an effect that the processor knows
effect_so : (code : Code) (n m : Mesh) (q : ℕ) (f : Fiber) (ask : Ask Address) (found : Values) → n.code ≡ m.code → asks_here q f ask ≡ true
    → effect_of n q f ask found ≡ effect_of m q f ask found
effect_so code n m q f (Reads remote a) found c e = refl
effect_so code n m q f (Writes remote a v) found c e = refl
effect_so code n m q f (Copies a x) found c e = refl
effect_so code n m q f (Indexes a x i) found c e = refl
effect_so code n m q f (Shifts a i) found c e = refl
effect_so code n m q f (Computes op vs) found c e = refl
effect_so code n m q f Tests found c e = refl
effect_so code n m q f (Makes kind x) found c e = refl
effect_so code n m q f (MakesWith kind v) found c e = refl
effect_so code n m q f (Builds g vs) found c e = ap (λ (z : Code). effect (shown (record m { code = z }) []) q (runs f None []) (Builds g vs) found) c
effect_so code n m q f (Enters g o vs) found c e = ap (λ (z : Code). effect (shown (record m { code = z }) []) q (runs f None []) (Enters g o vs) found) c
effect_so code n m q f Leaves found c e = refl
effect_so code n m q f (ForksAll x) found c e = refl
effect_so code n m q f (ForksOne v) found c e = refl
effect_so code n m q f (Joins made) found c e = refl
effect_so code n m q f (Spawns g o vs) found c e = refl
effect_so code n m q f (Prints parts vs) found c e = refl
effect_so code n m q f (Calls g o vs) found c e = absurd (false≢true e)
effect_so code n m q f (Casts g o vs) found c e = absurd (false≢true e)
effect_so code n m q f (NewProcessor g vs) found c e = absurd (false≢true e)

length_seen : (es : List Entry) → length (map seen_entry es) ≡ length es
length_seen [] = refl
length_seen (e ∷ es) = ap suc (length_seen es)

table_stays : (cs : List (Thread Address)) (p : Processor) (i : ℕ) (e : Entry) → slice_get p.table i ≡ Some e → slice_get (make_threads cs p).table i ≡ Some e
table_stays [] p i e at = at
table_stays (c ∷ cs) p i e at = table_stays cs (make_thread c None p) i e (get_in_front p.table (Lives (new_fiber c) Goes None ∷ []) e i at)

module _ (m : Processors) (q : ℕ) (p0 : Processor) (there : slice_get m.all q ≡ Some p0) (p : Processor) (output : List ℕ) (n : Mesh)
    (a : At m q p0 there p output n) (i : ℕ) (f : Fiber) (caller : Option ThreadNo) (hand : p.hand ≡ Some i) (entry : slice_get p.table i ≡ Some (Lives f Goes caller))
    (line : ℕ) (ask : Ask Address) (k : Answer Address → Then Address) (asks : move m.code f.thread ≡ Does line ask k)
    (is_here : asks_here q f ask ≡ true) (unposted : posted ask ≡ None) (own : is_remote ask ≡ false) (inside : all_on q f.inside ≡ true) (found : Values)
    (go : verdict (seen m.code q p) q f ask ≡ Go found) where
  abbrev t : ThreadNo
  t = record { processor = q; thread = i }

  stands : item_in n.spots (record { processor = q; thread = i }) ≡ Some (Active f)
  stands = hand_active m q p0 there p output n a i f caller hand entry

  row : (ps : List Spot) × (slice_get n.spots q ≡ Some ps) × Pairwise IsEntry p.table ps
  row = row_there m q p0 there p output n a.base

  abbrev then_of : Effect → Then Address
  then_of e = k (record { values = addresses_on q (write_all_on p.shelf e.writes) e.objects ++ found; made = numbers (length f.kids) (branch_count ask) })

  abbrev new_of : Effect → List (Thread Address)
  new_of e = e.starts ++ (then_of e).branches

  abbrev on_of : ℕ → Effect → Fiber
  on_of len e = record { thread = (then_of e).left; kids = f.kids ++ known (numbers_on q len (new_of e)); inside = e.inside }

  abbrev shelf_of : Code → ℕ → Effect → Shelf
  shelf_of c len e =
      freed_on c (settle c (runs (on_of len e) None [])) e.inside (held_after_on c.shapes f.inside ask (put_all_on (write_all_on p.shelf e.writes) e.objects))

  abbrev mesh_to : Code → ℕ → Effect → Mesh
  mesh_to c len e = record {
    code = n.code;
    shelves = changed n.shelves q (λ s. shelf_of c len e);
    spots = put_item (push_items n.spots q (new_spots (new_of e))) (record { processor = q; thread = i }) (Active (on_of len e));
    holder = n.holder;
    output = n.output ++ e.prints;
  }

  mesh_first : acted n (record { processor = q; thread = i }) f ask k found ≡ mesh_to n.code (length row.0) (effect_of n q f ask found)
  mesh_first =
      acted_here n q i (record { shelf = p.shelf; spots = row.0 }) (shelf_there m q p0 there p output n a.base) row.1 f (all_on_so q f.inside inside) ask (asks_on q f ask is_here own) k found
      ∙ ap (λ tb. record {
        code = n.code;
        shelves = changed n.shelves q (λ s. shelf_of n.code (length row.0) (effect_of n q f ask found));
        spots = tb;
        holder = n.holder;
        output = n.output ++ (effect_of n q f ask found).prints;
      })
      (changed_alike n.spots q _ _ (λ ps at'. ap (λ us. changed (us ++ new_spots (new_of (effect_of n q f ask found))) i (λ y. Active (on_of (length row.0) (effect_of n q f ask found))))
      (same_Some row.0 ps (sym row.1 ∙ at')))
      ∙ sym (put_row q n.spots (new_spots (new_of (effect_of n q f ask found))) i (Active (on_of (length row.0) (effect_of n q f ask found)))))

  abbrev e : Effect
  e = effect_of (seen m.code q p) q f ask found

  abbrev len : ℕ
  len = length (map seen_entry p.table)

  mesh_is : acted n (record { processor = q; thread = i }) f ask k found ≡ mesh_to m.code len e
  mesh_is =
      mesh_first
      ∙ (ap (λ c. mesh_to c (length row.0) (effect_of n q f ask found)) (sym a.base.code)
      ∙ (ap (λ z. mesh_to m.code z (effect_of n q f ask found)) (sym (length_seen p.table ∙ pairwise_length IsEntry p.table row.0 row.2))
      ∙ ap (mesh_to m.code len) (effect_so m.code n (seen m.code q p) q f ask found (sym a.base.code) is_here)))

  abbrev shelf : Shelf
  shelf = (place_after m.code q i (here m.code q i f caller ask k p) f ask k found e).shelf

  abbrev p1 : Processor
  p1 = put_shelf shelf p

  abbrev n1 : Mesh
  n1 = record { code = n.code; shelves = changed n.shelves q (λ s. shelf); spots = n.spots; holder = n.holder; output = n.output ++ e.prints }

  at_shelf : At m q p0 there p1 (output ++ e.prints) n1
  at_shelf = record {
    base = record {
      code = a.base.code;
      shelves = sym (changed_twice (shelves_of m.all) q (λ o. p.shelf) (λ s. shelf)) ∙ ap (λ ss. changed ss q (λ s. shelf)) a.base.shelves;
      printed = ap (λ bytes. bytes ++ e.prints) a.base.printed;
      entries = a.base.entries;
      callers = a.base.callers;
      askers = a.base.askers;
    };
    hold = same_hold m.code (lists (with_processor m q p)) (lists (with_processor m q p1)) n.spots (shelf_lists m q p0 there shelf p) a.hold;
  }

  abbrev new : List (Thread Address)
  new = new_here m.code q i (here m.code q i f caller ask k p) f ask k found e

  abbrev goes_on : Fiber
  goes_on = on_here m.code q i f caller ask k p found

  abbrev p3 : Processor
  p3 = put_entry i (Lives goes_on Goes caller) (make_threads new p1)

  at_stands : At m q p0 there p3 (output ++ e.prints) (mesh_to m.code len e)
  at_stands =
      put_here m q p0 there (make_threads new p1) (output ++ e.prints) (with_more m q p0 there n1 (new_spots new)) (makes_each m q p0 there new p1 (output ++ e.prints) n1 at_shelf) i
      (Lives f Goes caller) (Lives goes_on Goes caller) (Active f) (Active goes_on) None (table_stays new p1 i (Lives f Goes caller) entry)
      (stays_pushed q (new_spots new) n.spots (record { processor = q; thread = i }) (Active f) stands) tt tt refl refl (λ l h. h)

  acts_first : Reach m q p0 there n (own_step (record { processor = q; thread = i }) ∷ []) p3 (output ++ e.prints)
  acts_first = record {
    mesh = acted n (record { processor = q; thread = i }) f ask k found;
    run = ThenOn Stays (Acts (record { processor = q; thread = i }) f line ask k found
        (record { at = stands; asks = subst (λ (c : Code). move c f.thread ≡ Does line ask k) a.base.code asks }) unposted (no_call q f ask is_here)
        (seen_so m q p0 there p output n a.base q f ask (answered_here q f ask is_here) ∙ go));
    after = subst (λ z. At m q p0 there p3 (output ++ e.prints) z) (sym mesh_is) at_stands;
  }

  pub steps_here : Reach m q p0 there n (own_step (record { processor = q; thread = i }) ∷ []) (stepped_here m.code q i f caller ask k p found) (output ++ (effect_here m.code q i f caller ask k p found).prints)
  steps_here =
      and_then m q p0 there n (own_step (record { processor = q; thread = i }) ∷ []) (wake_written e.writes p3) (stepped_here m.code q i f caller ask k p found) (output ++ e.prints)
      (and_then m q p0 there n (own_step (record { processor = q; thread = i }) ∷ []) p3 (wake_written e.writes p3) (output ++ e.prints) acts_first (λ n2 b. wakes_each m q p0 there e.writes p3 (output ++ e.prints) n2 b))
      (λ n2 b. leaves_it m q p0 there m.code.shapes f ask (take_lock i (goes_into m.code.shapes ask) (wake_written e.writes p3)) (output ++ e.prints) n2
      (goes_in m q p0 there i (goes_into m.code.shapes ask) (wake_written e.writes p3) (output ++ e.prints) n2 b))
