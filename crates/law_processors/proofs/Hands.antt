-- What the thread in the hand does that is no step, and that it takes the value of its call.
use Rattle.std.proofs.Common.{◌≡◌, inl, ℕ, List, [], ◌∷◌, ◌++◌, map, Bool, true, false, Option, Some, None, refl, sym, ap, ◌∙◌, subst}
use Rattle.std.specs.Prelude.{slice_get, if◌then◌else◌, is_some}
use Rattle.std.proofs.lemmas.Bool.{false≢true}
use Rattle.cc_ops.specs.Values.{Value, Void, Int, Null, Ptr}
use Rattle.cc_ops.specs.Machine.{Address}
use Rattle.cc_ops.specs.declared.number.ThreadNo.{ThreadNo}
use Rattle.cc_ops.specs.Shelves.{Shelf, put_held}
use Rattle.cc_core.specs.Core.{Shapes, function_shape}
use Rattle.cc_core.specs.Asks.{Ask, Answer, Reads, Enters}
use Rattle.cc_core.specs.Asks as asks
use Rattle.cc_core.specs.Numbers.{Post}
use Rattle.cc_code.specs.Code.{Code, Thread, Then, Move, Silent, Does, move}
use Rattle.numbered_runs.specs.Machine.{Progress, Over}
use Rattle.numbered_runs.specs.Machine as numbered
use Rattle.numbered_runs.specs.Effects.{leave_all, note_held}
use Rattle.numbered_runs.specs.Posts.{posted, move_posts}
use Rattle.numbered_runs.specs.Steps.{freed, settle}
use Rattle.law_mesh.specs.Spots.{Fiber, Reason, Cell, Lock, Branches, Spot, Active, Parked, Posted, Called, Mesh, item_in, put_item, runs}
use Rattle.law_mesh.specs.Moves.{GoesSilently, Parks, Sends, Takes, own_step, AsksFor, with_spot, taken, with_value}
use Rattle.law_processors.specs.Living.{one_lives}
use Rattle.law_mesh.specs.Queues.{Queue, Hand, Ready, OfCell, OfLock, Outbox, Asks, Item, Itself, Mail, Hold, MayLie, FitsAt, GoesAt, CallsAway, holds, holds_none}
use Rattle.law_processors.specs.Processors.{Waiter, Own, Goes, Joins, Asking, Has, Entry, Lives, Ended, Locked, Processor, Processors, IsEntry, lists, waiter_item, with_processor}
use Rattle.law_processors.specs.Alone.{put_entry, put_hand, send, park, put_lock, goes_into, wait_for_lock, enters_later, joins_later, waits, is_on, asks_here, alone_at, seen_entry}
use Rattle.law_processors.specs.Machine.{in_hand, at_back}
use Rattle.law_processors.specs.Follow.{Stays, Then as ThenOn}
use Rattle.law_mesh.proofs.Queues.{stay_at, same_number, taken as lies_so, ready_is, IsReady, IsActive, HasValue, WaitsFor, WaitsIn}
use Rattle.law_processors.proofs.Edits.{same_hold, Pulls, Pushes, carried_over, taken_out, entry_lists, with_ready, pushes_ready, pushes_out, pushes_hand, pushes_cell, pushes_lock, pulls_ready, in_hand_now, in_ready_now}
use Rattle.law_processors.proofs.Base.{Base, base_put, base_spot, put_same}
use Rattle.law_processors.proofs.Pieces.{At, Reach, no, hand_active, hand_called, put_here, pulls_hand, pulls_hand_put, nothing, one_silent}

-- ---- who is inside no atomic function leaves none

note_none : (h : Shapes) (f : ℕ) (o : Value Address) (ss : List Shelf) → holds h f o ≡ false → note_held h f o false ss ≡ ss
note_none h f Void ss e = refl
note_none h f (Int n) ss e = refl
note_none h f Null ss e = refl
note_none h f (Ptr a x) ss e = ap (λ b. if b then put_held ss a false else ss) e

pub leaves_none : (h : Shapes) (es : List (ℕ × Value Address)) (ss : List Shelf) → holds_none h es ≡ true → leave_all h es ss ≡ ss
leaves_none h [] ss e = refl
leaves_none h (x ∷ es) ss e = by (λ c. leaves_none h es ss c) (holds h x.0 x.1) refl e
  where
    by : (holds_none h es ≡ true → leave_all h es ss ≡ ss) → (b : Bool) → holds h x.0 x.1 ≡ b → (if b then false else holds_none h es) ≡ true
        → leave_all h es (note_held h x.0 x.1 false ss) ≡ ss
    by more true d c = absurd (false≢true c)
    by more false d c = ap (leave_all h es) (note_none h x.0 x.1 ss d) ∙ more c

pub freed_none : (code : Code) (x : Progress) (es : List (ℕ × Value Address)) (ss : List Shelf) → holds_none code.shapes es ≡ true → freed code x es ss ≡ ss
freed_none code (numbered.Goes r) es ss e = refl
freed_none code (Over v) es ss e = leaves_none code.shapes es ss e

pub on_place : (q : ℕ) (a : Address) → is_on q (Ptr a 0) ≡ true → a ≡ record { processor = q; object = a.object }
on_place q a e = ap (λ z. place z a.object) (same_number a.processor q e)
  where
    place : ℕ → ℕ → Address
    place z o = record { processor = z; object = o }

module _ (m : Processors) (q : ℕ) (p0 : Processor) (there : slice_get m.all q ≡ Some p0) (p : Processor) (output : List ℕ) (n : Mesh)
    (a : At m q p0 there p output n) where
  -- ---- a thread comes into the hand, and goes out of it

  -- that goes on may lie there
  goes_there : (k : Queue) (front back : List Item) (i : ℕ) → lists (with_processor m q p) k ≡ front ++ Itself (no m q p0 there i) ∷ back
      → ((b : Address) (x : ℕ) → k ≡ OfCell b x → ⊥) → ((b : Address) → k ≡ OfLock b → ⊥) → (l : Queue) → GoesAt q l
      → (s : Spot) × (item_in n.spots (no m q p0 there i) ≡ Some s) × MayLie m.code (no m q p0 there i) s (Some (l, Itself (no m q p0 there i)))
  goes_there k front back i at' not_cell not_lock l goes =
      by (ready_is m.code (lists (with_processor m q p)) n.spots a.hold k front back (no m q p0 there i) at')
    where
      by : IsReady m.code (lists (with_processor m q p)) n.spots a.hold k front back (no m q p0 there i)
          → (s : Spot) × (item_in n.spots (no m q p0 there i) ≡ Some s) × MayLie m.code (no m q p0 there i) s (Some (l, Itself (no m q p0 there i)))
      by (IsActive f stands h) = (Active f, stands, (l, goes, refl))
      by (HasValue f kid v stands h c) = (Called kid v f, stands, (c, inl (l, goes, refl)))
      by (WaitsFor b x f stands e h) = absurd (not_cell b x e)
      by (WaitsIn b f stands e h goes') = absurd (not_lock b e)

  pub taken_up : (front : List Waiter) (i : ℕ) (back : List Waiter) → p.hand ≡ None → p.ready ≡ front ++ Own i ∷ back
      → At m q p0 there (in_hand i (front ++ back) p) output n
  taken_up front i back hand ready = record {
    base = a.base;
    hold = subst (λ z. Hold m.code (lists (with_processor m q (in_hand i (front ++ back) p))) z) (put_same n.spots (no m q p0 there i) s.0 s.1)
        (carried_over m.code (with_processor m q p) n.spots a.hold (Ready q) (map (waiter_item q) front) (map (waiter_item q) back) (Itself (no m q p0 there i)) now s.0 s.1
        (with_processor m q (with_ready m q p0 there (front ++ back) p)) (with_processor m q (in_hand i (front ++ back) p))
        (pulls_ready m q p0 there front (Own i) back p) (Hand q) (Itself (no m q p0 there i)) (pushes_hand m q p0 there i (with_ready m q p0 there (front ++ back) p) hand) refl s.0 s.2);
  }
    where
      now : lists (with_processor m q p) (Ready q) ≡ map (waiter_item q) front ++ Itself (no m q p0 there i) ∷ map (waiter_item q) back
      now = in_ready_now m q p0 there front (Own i) back p ready

      s : (s : Spot) × (item_in n.spots (no m q p0 there i) ≡ Some s) × MayLie m.code (no m q p0 there i) s (Some (Hand q, Itself (no m q p0 there i)))
      s = goes_there (Ready q) (map (waiter_item q) front) (map (waiter_item q) back) i now (λ b x e. let d : Ready q ≡ OfCell b x = e in cc)
          (λ b e. let d : Ready q ≡ OfLock b = e in cc) (Hand q) refl

  pub put_back : (i : ℕ) → p.hand ≡ Some i → At m q p0 there (at_back i p) output n
  put_back i hand = record {
    base = a.base;
    hold = subst (λ z. Hold m.code (lists (with_processor m q (at_back i p))) z) (put_same n.spots (no m q p0 there i) s.0 s.1)
        (carried_over m.code (with_processor m q p) n.spots a.hold (Hand q) [] [] (Itself (no m q p0 there i)) now s.0 s.1
        (with_processor m q (put_hand None p)) (with_processor m q (at_back i p))
        (pulls_hand m q p0 there p output n a) (Ready q) (Itself (no m q p0 there i)) (pushes_ready m q p0 there (Own i) (put_hand None p)) refl s.0 s.2);
  }
    where
      now : lists (with_processor m q p) (Hand q) ≡ [] ++ Itself (no m q p0 there i) ∷ []
      now = in_hand_now m q p0 there i p hand

      s : (s : Spot) × (item_in n.spots (no m q p0 there i) ≡ Some s) × MayLie m.code (no m q p0 there i) s (Some (Ready q, Itself (no m q p0 there i)))
      s = goes_there (Hand q) [] [] i now (λ b x e. let d : Hand q ≡ OfCell b x = e in cc) (λ b e. let d : Hand q ≡ OfLock b = e in cc) (Ready q) refl

  module _ (i : ℕ) (f : Fiber) (caller : Option ThreadNo) (hand : p.hand ≡ Some i) (entry : slice_get p.table i ≡ Some (Lives f Goes caller)) where
    abbrev t : ThreadNo
    t = no m q p0 there i

    stands : item_in n.spots (no m q p0 there i) ≡ Some (Active f)
    stands = hand_active m q p0 there p output n a i f caller hand entry

    now : lists (with_processor m q p) (Hand q) ≡ [] ++ Itself (no m q p0 there i) ∷ []
    now = in_hand_now m q p0 there i p hand

    in_mesh : (mv : Move Address) → move m.code f.thread ≡ mv → move n.code f.thread ≡ mv
    in_mesh mv e = subst (λ (c : Code). move c f.thread ≡ mv) a.base.code e

    pub goes_on : (c : Thread Address) → move m.code f.thread ≡ Silent c
        → Reach m q p0 there n [] (put_entry i (Lives (record { thread = c; kids = f.kids; inside = f.inside }) Goes caller) p) output
    goes_on c e = record {
      mesh = with_spot n t (Active (record { thread = c; kids = f.kids; inside = f.inside }));
      run = one_silent n _ (GoesSilently t f c stands (in_mesh (Silent c) e));
      after = put_here m q p0 there p output n a i (Lives f Goes caller) (Lives (record { thread = c; kids = f.kids; inside = f.inside }) Goes caller) (Active f)
          (Active (record { thread = c; kids = f.kids; inside = f.inside })) None entry stands tt tt refl refl (λ l h. h);
    }

    -- it waits in a list
    waits_in : (r : Reason) (e' : Entry) (p1 p2 : Processor) (l : Queue) → AsksFor n.code r f → IsEntry e' (Parked r f)
        → Base m q p2.shelf p2.table output (with_spot n t (Parked r f))
        → Pulls (with_processor m q p) (with_processor m q p1) (Hand q) [] [] → Pushes (with_processor m q p1) (with_processor m q p2) l (Itself t)
        → MayLie m.code t (Parked r f) (Some (l, Itself t)) → Reach m q p0 there n [] p2 output
    waits_in r e' p1 p2 l asks is base pulls pushes may = record {
      mesh = with_spot n t (Parked r f);
      run = one_silent n _ (Parks t f r stands asks);
      after = record {
        base = base;
        hold = carried_over m.code (with_processor m q p) n.spots a.hold (Hand q) [] [] (Itself t) now (Active f) stands (with_processor m q p1) (with_processor m q p2) pulls l (Itself t)
            pushes refl (Parked r f) may;
      };
    }

    parked_base : (r : Reason) → ((e : Entry) → IsEntry e (Active f) → IsEntry e (Parked r f)) → Base m q p.shelf p.table output (with_spot n t (Parked r f))
    parked_base r same = base_spot m q p0 there p.shelf p.table output n a.base t (Active f) (Parked r f) stands tt tt same

    cell_same : (b : Address) (x : ℕ) (e : Entry) → IsEntry e (Active f) → IsEntry e (Parked (Cell b x) f)
    cell_same b x (Lives g Goes c) h = h
    cell_same b x (Lives g Joins c) h = absurd h
    cell_same b x (Lives g Asking c) h = absurd h
    cell_same b x (Lives g (Has v) c) h = absurd h
    cell_same b x (Ended v) h = absurd h

    lock_same : (b : Address) (e : Entry) → IsEntry e (Active f) → IsEntry e (Parked (Lock b) f)
    lock_same b (Lives g Goes c) h = h
    lock_same b (Lives g Joins c) h = absurd h
    lock_same b (Lives g Asking c) h = absurd h
    lock_same b (Lives g (Has v) c) h = absurd h
    lock_same b (Ended v) h = absurd h

    module _ (line : ℕ) (k : Answer Address → Then Address) where
      waits_cell : (remote : Bool) (b : Address) (x : ℕ) → move m.code f.thread ≡ Does line (Reads remote (Ptr b x)) k → is_on q (Ptr b x) ≡ true
          → Reach m q p0 there n [] (put_hand None (park b.object x (Own i) p)) output
      waits_cell remote b x e on =
          let c : Address = record { processor = q; object = b.object } in
          let same : b ≡ c = on_place q b on in
          waits_in (Cell c x) (Lives f Goes caller) (put_hand None p) (put_hand None (park b.object x (Own i) p)) (OfCell c x)
          (line, remote, k, in_mesh (Does line (Reads remote (Ptr c x)) k) (e ∙ ap (λ z. Does line (Reads remote (Ptr z x)) k) same)) refl
          (parked_base (Cell c x) (cell_same c x)) (pulls_hand m q p0 there p output n a) (pushes_cell m q p0 there b.object x (Own i) (put_hand None p)) (refl, refl)

      pub waits_lock : (ask : Ask Address) → move m.code f.thread ≡ Does line ask k → asks_here q f ask ≡ true
          → Reach m q p0 there n [] (enters_later i (goes_into m.code.shapes ask) p) output
      waits_lock (Enters g (Ptr b x) vs) e on = by (function_shape m.code.shapes g).atomic refl (p.locks b.object) refl
        where
          c : Address
          c = record { processor = q; object = b.object }

          by : (z : Bool) → (function_shape m.code.shapes g).atomic ≡ z → (o : Option Locked) → p.locks b.object ≡ o
              → Reach m q p0 there n [] (enters_later i (if z then Some b else None) p) output
          by false d o at' = nothing m q p0 there n p output a
          by true d None at' = subst (λ o. Reach m q p0 there n [] (wait_for_lock i b.object o p) output) (sym at') (nothing m q p0 there n p output a)
          by true d (Some l) at' =
              let c : Address = record { processor = q; object = b.object } in
              let same : b ≡ c = on_place q b on in
              subst (λ o. Reach m q p0 there n [] (wait_for_lock i b.object o p) output) (sym at')
              (waits_in (Lock c) (Lives f Goes caller) (put_hand None p) (put_hand None (put_lock b.object (Some (record { holder = l.holder; waiters = l.waiters ++ i ∷ [] })) p)) (OfLock c) (
                line,
                g,
                x,
                vs,
                k,
                in_mesh (Does line (Enters g (Ptr c x) vs) k) (e ∙ ap (λ z. Does line (Enters g (Ptr z x) vs) k) same),
                subst (λ (code : Code). (function_shape code.shapes g).atomic ≡ true) a.base.code d,
              ) refl
              (parked_base (Lock c) (lock_same c)) (pulls_hand m q p0 there p output n a) (pushes_lock m q p0 there b.object l l.holder i (put_hand None p) at')
              (refl, record { line = line; function = g; cell = x; values = vs; next = k; asks = e ∙ ap (λ z. Does line (Enters g (Ptr z x) vs) k) same; atomic = d }, refl))
      waits_lock ask e on = nothing m q p0 there n p output a

      waits_branches : (made : List ℕ) → move m.code f.thread ≡ Does line (asks.Joins made) k → Reach m q p0 there n [] (joins_later q i f caller made p) output
      waits_branches made e = by (one_lives (alone_at q [] (map seen_entry p.table)) f.kids made)
        where
          by : (b : Bool) → Reach m q p0 there n [] (if b then put_hand None (put_entry i (Lives f Joins caller) p) else p) output
          by false = nothing m q p0 there n p output a
          by true = record {
            mesh = with_spot n t (Parked Branches f);
            run = one_silent n _ (Parks t f Branches stands (line, made, k, in_mesh (Does line (asks.Joins made) k) e));
            after = record {
              base = base_put m q p0 there p.shelf p.table output n a.base i (Lives f Goes caller) (Lives f Joins caller) (Active f) (Parked Branches f) entry stands tt tt refl refl;
              hold = taken_out m.code (with_processor m q p) n.spots a.hold (Hand q) [] [] (Itself t) now (Active f) stands
                  (with_processor m q (put_hand None (put_entry i (Lives f Joins caller) p))) (pulls_hand_put m q p0 there p output n a i (Lives f Joins caller)) (Parked Branches f) refl;
            };
          }

      -- what it must wait for
      pub waits_so : (ask : Ask Address) → move m.code f.thread ≡ Does line ask k → asks_here q f ask ≡ true
          → Reach m q p0 there n [] (waits m.code q i f caller ask p) output
      waits_so (Reads remote (Ptr b x)) e on = waits_cell remote b x e on
      waits_so (Reads remote Void) e on = nothing m q p0 there n p output a
      waits_so (Reads remote (Int z)) e on = nothing m q p0 there n p output a
      waits_so (Reads remote Null) e on = nothing m q p0 there n p output a
      waits_so (asks.Joins made) e on = waits_branches made e
      waits_so ask e on = waits_lock ask e on

      -- it sends a request
      pub sends : (ask : Ask Address) (post : Post) → move m.code f.thread ≡ Does line ask k → posted ask ≡ Some post → holds_none m.code.shapes f.inside ≡ true
          → Reach m q p0 there n [] (send (Asks t post) (put_hand None (put_entry i (Lives f Asking caller) p))) output
      sends ask post e posts free = record {
        mesh = with_spot n t (Posted f);
        run = one_silent n _ (Sends t f line ask k (record { at = stands; asks = in_mesh (Does line ask k) e }) (ap is_some posts));
        after = record {
          base = base_put m q p0 there p.shelf p.table output n a.base i (Lives f Goes caller) (Lives f Asking caller) (Active f) (Posted f) entry stands tt tt refl refl;
          hold = carried_over m.code (with_processor m q p) n.spots a.hold (Hand q) [] [] (Itself t) now (Active f) stands
              (with_processor m q (put_hand None (put_entry i (Lives f Asking caller) p))) (with_processor m q (send (Asks t post) (put_hand None (put_entry i (Lives f Asking caller) p))))
              (pulls_hand_put m q p0 there p output n a i (Lives f Asking caller)) (Outbox q) (Mail (Asks t post))
              (pushes_out m q p0 there (Asks t post) (put_hand None (put_entry i (Lives f Asking caller) p))) refl (Posted f)
              (Outbox q, post, tt, record { posts = ap (λ mv. move_posts mv None) e ∙ posts; free = free }, refl);
        };
      }

  -- it takes the value of its call
  pub takes : (i : ℕ) (f : Fiber) (v : Value Address) (caller : Option ThreadNo) → p.hand ≡ Some i → slice_get p.table i ≡ Some (Lives f (Has v) caller)
      → Reach m q p0 there n (own_step (record { processor = q; thread = i }) ∷ []) (put_entry i (Lives (with_value m.code f v) Goes caller) p) output
  takes i f v caller hand entry = record {
    mesh = taken n (no m q p0 there i) f v;
    run = ThenOn Stays (Takes (no m q p0 there i) f called.0 v called.1);
    after = subst (λ z. At m q p0 there (put_entry i (Lives (with_value m.code f v) Goes caller) p) output z) (sym mesh_is) (record {
      base = base_put m q p0 there p.shelf p.table output n a.base i (Lives f (Has v) caller) (Lives (with_value m.code f v) Goes caller) (Called called.0 v f)
          (Active (with_value m.code f v)) entry called.1 tt tt refl refl;
      hold = same_hold m.code (lists (with_processor m q p)) (lists (with_processor m q (put_entry i (Lives (with_value m.code f v) Goes caller) p)))
          (put_item n.spots (no m q p0 there i) (Active (with_value m.code f v))) (entry_lists m q p0 there i (Lives (with_value m.code f v) Goes caller) p)
          (stay_at m.code (lists (with_processor m q p)) n.spots a.hold (no m q p0 there i) (Called called.0 v f) (Active (with_value m.code f v)) called.1 (Hand q, refl, lie));
    });
  }
    where
      called : (kid : ThreadNo) × (item_in n.spots (no m q p0 there i) ≡ Some (Called kid v f))
      called = hand_called m q p0 there p output n a i f v caller entry

      lie : a.hold.lies (no m q p0 there i) ≡ Some (Hand q, Itself (no m q p0 there i))
      lie = (lies_so m.code (lists (with_processor m q p)) n.spots a.hold (Hand q) [] [] (Itself (no m q p0 there i)) (in_hand_now m q p0 there i p hand)).0

      away : CallsAway m.code f
      away = (subst (λ o. FitsAt m.code (no m q p0 there i) o (a.hold.lies (no m q p0 there i))) called.1 (a.hold.fits (no m q p0 there i))).0

      free : holds_none n.code.shapes f.inside ≡ true
      free = subst (λ (c : Code). holds_none c.shapes f.inside ≡ true) a.base.code away.free

      mesh_is : taken n (no m q p0 there i) f v ≡ with_spot n (no m q p0 there i) (Active (with_value m.code f v))
      mesh_is =
          ap (λ ss. record { code = n.code; shelves = ss; spots = put_item n.spots (no m q p0 there i) (Active (with_value n.code f v)); holder = n.holder; output = n.output })
          (freed_none n.code (settle n.code (runs (with_value n.code f v) None [])) f.inside n.shelves free)
          ∙ ap (λ (c : Code). with_spot n (no m q p0 there i) (Active (with_value c f v))) (sym a.base.code)
