-- The pieces of which moves of the machine are made, and what each is of the mesh.
use Rattle.law_mesh.specs.Moves.{Step}
use Rattle.law_processors.proofs.Base.{append_none}
use Rattle.std.proofs.Common.{append_assoc}
use Rattle.std.proofs.Common.{◌≡◌, inr, ℕ, zero, suc, List, [], ◌++◌, length, map, Bool, true, false, Option, Some, None, refl, sym, ap, ◌∙◌, subst}
use Rattle.std.proofs.lemmas.Option.{none-some, same_Some}
use Rattle.std.specs.Prelude.{slice_get, if◌then◌else◌}
use Rattle.cc_ops.specs.Values.{Value}
use Rattle.cc_ops.specs.Machine.{Address}
use Rattle.cc_ops.specs.declared.number.ThreadNo.{ThreadNo}
use Rattle.cc_ops.specs.Shelves.{changed}
use Rattle.cc_code.specs.Code.{Code, Ends, move}
use Rattle.code_names.specs.Same.{Pairwise}
use Rattle.law_mesh.specs.Spots.{Fiber, Cell, Lock, Branches, Spot, Active, Parked, Posted, Delayed, Answered, Calling, Called, Gone, Mesh, item_in, put_item}
use Rattle.law_mesh.specs.Moves.{Moves, Finishes, Rouses, Tells, with_spot}
use Rattle.law_processors.specs.Living.{one_lives, joins_of}
use Rattle.law_mesh.specs.Queues.{Queue, Hand, Ready, OfCell, OfLock, Outbox, Answers, Item, Itself, Mail, same_thread, Hold, MayLie, FitsAt, CallsAway, pushed}
use Rattle.law_processors.specs.Processors.{Own, Goes, Joins, Asking, Has, Entry, Lives, Ended, Processor, Processors, IsEntry, caller_of, lists, tables_of, Runs, with_processor, printing}
use Rattle.law_processors.specs.Alone.{put_entry, put_hand, be_ready, send, rejoins, rejoined, tell, ended, alone_at, seen_entry}
use Rattle.law_processors.specs.Follow.{MeshRun, Stays, Then, GoesTo, steps_of}
use Rattle.law_mesh.proofs.Lists.{put_found, put_elsewhere, both_put, item_right}
use Rattle.law_mesh.proofs.Local.{changed_alike, changed_same, changed_twice}
use Rattle.law_mesh.proofs.Queues.{stay, emerge, ready_is, IsReady, IsActive, HasValue, WaitsFor, WaitsIn, one_thread}
use Rattle.law_processors.proofs.Edits.{same_hold, same_put, Pulls, taken_out, entry_lists, hand_lists, pushes_ready, pushes_out, in_hand_now}
use Rattle.law_processors.proofs.Base.{Base, NotCalling, tables_with, entry_at, base_of, to_runs, base_silent, spot_of_entry, base_put, apart_if, then_silent, right_put}

pub run_on : {n : Mesh} (a : List Step) (n1 : Mesh) (b : List Step) (n2 : Mesh) → MeshRun n a n1 → MeshRun n1 b n2 → MeshRun n (a ++ b) n2
run_on {n = n} a n1 b n2 r Stays = subst (λ k. MeshRun n k n1) (sym (append_none a)) r
run_on {n = n} a n1 b n2 r (Then {a = c} {l = l} {n1 = n3} s v) =
    subst (λ k. MeshRun n k n2) (append_assoc a c (steps_of l)) (Then (run_on a n1 c n3 r s) v)

pub one_silent : (n n1 : Mesh) → Moves n None n1 → MeshRun n [] n1
one_silent n n1 v = then_silent Stays v

module _ (m : Processors) (q : ℕ) (p0 : Processor) (there : slice_get m.all q ≡ Some p0) where
  abbrev pub at : Processor → Processors
  at p = with_processor m q p

  -- the machine with this as processor q shows this mesh
  pub record At (p : Processor) (output : List ℕ) (n : Mesh) : Type 0 where
    pub base : Base m q p.shelf p.table output n
    pub hold : Hold m.code (lists (with_processor m q p)) n.spots

  pub record Reach (n : Mesh) (steps : List Step) (p : Processor) (output : List ℕ) : Type 0 where
    pub mesh : Mesh
    pub run : MeshRun n steps mesh
    pub after : At p output mesh

  pub at_first : (n : Mesh) → Runs m n → At p0 m.output n
  at_first n r = record {
    base = base_of m q p0 there n r;
    hold = subst (λ all. Hold m.code (lists (record { code = m.code; all = all; makes = m.makes; output = m.output })) n.spots) (sym same) r.lists;
  }
    where
      same : changed m.all q (λ o. p0) ≡ m.all
      same = changed_alike m.all q (λ o. p0) (λ z. z) (λ z at. same_Some p0 z (sym there ∙ at)) ∙ changed_same m.all q

  pub reached : (n : Mesh) (steps : List Step) (p : Processor) (prints : List ℕ) → Reach n steps p (m.output ++ prints) → GoesTo n steps (printing prints (with_processor m q p))
  reached n steps p prints r = record { mesh = r.mesh; run = r.run; runs = to_runs m q p0 there p prints r.mesh r.after.base r.after.hold }

  pub silent_output : (n : Mesh) (p : Processor) → At p m.output n → At p (m.output ++ []) n
  silent_output n p a = record { base = base_silent m q p0 there p.shelf p.table m.output n a.base; hold = a.hold }

  pub nothing : (n : Mesh) (p : Processor) (output : List ℕ) → At p output n → Reach n [] p output
  nothing n p output a = record { mesh = n; run = Stays; after = a }

  pub and_then : (n : Mesh) (steps : List Step) (p1 p2 : Processor) (output : List ℕ) → Reach n steps p1 output
      → ((n1 : Mesh) → At p1 output n1 → Reach n1 [] p2 output) → Reach n steps p2 output
  and_then n steps p1 p2 output r f =
      let s = f r.mesh r.after in
      record { mesh = s.mesh; run = subst (λ k. MeshRun n k s.mesh) (append_none steps) (run_on steps r.mesh [] s.mesh r.run s.run); after = s.after }

  -- ---- what is in the hand

  -- a list of items is one of numbers
  abbrev pub no : ℕ → ThreadNo
  no i = record { processor = q; thread = i }

  module _ (p : Processor) (output : List ℕ) (n : Mesh) (a : At p output n) where
    pub spot_is : (i : ℕ) (e : Entry) → slice_get p.table i ≡ Some e → (s : Spot) × (item_in n.spots (no i) ≡ Some s) × IsEntry e s
    spot_is i e at' = spot_of_entry m q p0 there p.shelf p.table output n a.base (no i) e (entry_at m q p0 there p.table i e at')

    pub hand_active : (i : ℕ) (f : Fiber) (caller : Option ThreadNo) → p.hand ≡ Some i → slice_get p.table i ≡ Some (Lives f Goes caller)
        → item_in n.spots (no i) ≡ Some (Active f)
    hand_active i f caller hand e = by (ready_is m.code (lists (at p)) n.spots a.hold (Hand q) [] [] (no i) (in_hand_now m q p0 there i p hand))
      where
        r : (s : Spot) × (item_in n.spots (no i) ≡ Some s) × IsEntry (Lives f Goes caller) s
        r = spot_is i (Lives f Goes caller) e

        entry : (s : Spot) → item_in n.spots (no i) ≡ Some s → IsEntry (Lives f Goes caller) s
        entry s stands = subst (IsEntry (Lives f Goes caller)) (same_Some r.0 s (sym r.1 ∙ stands)) r.2

        by : IsReady m.code (lists (at p)) n.spots a.hold (Hand q) [] [] (no i) → item_in n.spots (no i) ≡ Some (Active f)
        by (IsActive g stands h) = let same : f ≡ g = entry (Active g) stands in stands ∙ ap (λ z. Some (Active z)) (sym same)
        by (HasValue g kid v stands h c) = absurd (entry (Called kid v g) stands)
        by (WaitsFor b x g stands k h) = let d : Hand q ≡ OfCell b x = k in absurd (cc)
        by (WaitsIn b g stands k h goes) = let d : Hand q ≡ OfLock b = k in absurd (cc)

    pub hand_called : (i : ℕ) (f : Fiber) (v : Value Address) (caller : Option ThreadNo) → slice_get p.table i ≡ Some (Lives f (Has v) caller)
        → (kid : ThreadNo) × (item_in n.spots (no i) ≡ Some (Called kid v f))
    hand_called i f v caller e = by r.0 r.1 r.2
      where
        r : (s : Spot) × (item_in n.spots (no i) ≡ Some s) × IsEntry (Lives f (Has v) caller) s
        r = spot_is i (Lives f (Has v) caller) e

        by : (s : Spot) → item_in n.spots (no i) ≡ Some s → IsEntry (Lives f (Has v) caller) s → (kid : ThreadNo) × (item_in n.spots (no i) ≡ Some (Called kid v f))
        by (Active g) stands h = absurd h
        by (Parked (Cell b x) g) stands h = absurd h
        by (Parked (Lock b) g) stands h = absurd h
        by (Parked Branches g) stands h = absurd h
        by (Posted g) stands h = absurd h
        by (Delayed b x g) stands h = absurd h
        by (Answered vs g) stands h = absurd h
        by (Calling kid g) stands h = absurd h
        by (Called kid w g) stands h = (kid, stands ∙ (ap (λ z. Some (Called kid w z)) (sym h.0) ∙ ap (λ z. Some (Called kid z f)) (sym h.1)))
        by (Gone w) stands h = absurd h

    -- ---- a thread of this processor stays where it lies

    pub put_here : (i : ℕ) (e e' : Entry) (s s' : Spot) (l : Option ThreadNo) → slice_get p.table i ≡ Some e → item_in n.spots (no i) ≡ Some s → NotCalling s
        → NotCalling s' → IsEntry e' s' → caller_of (Some e') ≡ caller_of (Some e)
        → ((lie : Option (Queue × Item)) → MayLie m.code (no i) s lie → MayLie m.code (no i) s' lie)
        → At (put_entry i e' p) output (with_spot n (no i) s')
    put_here i e e' s s' l at' stands free free' is same may = record {
      base = base_put m q p0 there p.shelf p.table output n a.base i e e' s s' at' stands free free' is same;
      hold = same_hold m.code (lists (at p)) (lists (at (put_entry i e' p))) (put_item n.spots (no i) s') (entry_lists m q p0 there i e' p)
          (stay m.code (lists (at p)) n.spots a.hold (no i) s s' stands may);
    }

    pub pulls_hand : Pulls (at p) (at (put_hand None p)) (Hand q) [] []
    pulls_hand = hand_lists m q p0 there None p

    pub pulls_hand_put : (i : ℕ) (e : Entry) → Pulls (at p) (at (put_hand None (put_entry i e p))) (Hand q) [] []
    pulls_hand_put i e k =
        same_put (lists (at p)) (lists (at (put_entry i e p))) (entry_lists m q p0 there i e p) (Hand q) [] [] refl k
        ∙ hand_lists m q p0 there None (put_entry i e p) k

    -- ---- branches

    pub rejoin_one : (i : ℕ) (o : Option Entry) → slice_get p.table i ≡ o → Reach n [] (rejoins m.code q i o p) output
    rejoin_one i None e = nothing n p output a
    rejoin_one i (Some (Ended v)) e = nothing n p output a
    rejoin_one i (Some (Lives f Goes caller)) e = nothing n p output a
    rejoin_one i (Some (Lives f Asking caller)) e = nothing n p output a
    rejoin_one i (Some (Lives f (Has v) caller)) e = nothing n p output a
    rejoin_one i (Some (Lives f Joins caller)) e = by (one_lives (alone_at q [] (map seen_entry p.table)) f.kids (joins_of (move m.code f.thread)))
      where
        r : (s : Spot) × (item_in n.spots (no i) ≡ Some s) × IsEntry (Lives f Joins caller) s
        r = spot_is i (Lives f Joins caller) e

        parked : (s : Spot) → item_in n.spots (no i) ≡ Some s → IsEntry (Lives f Joins caller) s → item_in n.spots (no i) ≡ Some (Parked Branches f)
        parked (Active g) stands h = absurd h
        parked (Parked (Cell b x) g) stands h = absurd h
        parked (Parked (Lock b) g) stands h = absurd h
        parked (Parked Branches g) stands h = stands ∙ ap (λ z. Some (Parked Branches z)) (sym h)
        parked (Posted g) stands h = absurd h
        parked (Delayed b x g) stands h = absurd h
        parked (Answered vs g) stands h = absurd h
        parked (Calling kid g) stands h = absurd h
        parked (Called kid w g) stands h = absurd h
        parked (Gone w) stands h = absurd h

        stands : item_in n.spots (no i) ≡ Some (Parked Branches f)
        stands = parked r.0 r.1 r.2

        by : (b : Bool) → Reach n [] (if b then p else be_ready (Own i) (put_entry i (Lives f Goes caller) p)) output
        by true = nothing n p output a
        by false = record {
          mesh = with_spot n (no i) (Active f);
          run = one_silent n _ (Rouses (no i) f Branches stands);
          after = record {
            base = base_put m q p0 there p.shelf p.table output n a.base i (Lives f Joins caller) (Lives f Goes caller) (Parked Branches f) (Active f) e stands tt tt refl refl;
            hold = same_hold m.code (pushed (lists (at p)) (Ready q) (Itself (no i))) (lists (at (be_ready (Own i) (put_entry i (Lives f Goes caller) p)))) (put_item n.spots (no i) (Active f))
                (λ k. pushes_ready m q p0 there (Own i) p k ∙ entry_lists m q p0 there i (Lives f Goes caller) (be_ready (Own i) p) k)
                (emerge m.code (lists (at p)) n.spots a.hold (no i) (Parked Branches f) (Active f) (Ready q) (Itself (no i)) refl stands
                (subst (λ o. FitsAt m.code (no i) o (a.hold.lies (no i))) stands (a.hold.fits (no i))) (Ready q, refl, refl));
          };
        }

  -- those of the first k threads that wait for branches, of which the last has ended
  pub rejoin_all : (k : ℕ) (p : Processor) (output : List ℕ) (n : Mesh) → At p output n → Reach n [] (rejoined m.code q k p) output
  rejoin_all zero p output n a = nothing n p output a
  rejoin_all (suc k) p output n a =
      and_then n [] (rejoined m.code q k p) (rejoined m.code q (suc k) p) output (rejoin_all k p output n a)
      (λ n1 b. rejoin_one (rejoined m.code q k p) output n1 b k (slice_get (rejoined m.code q k p).table k) refl)

  module _ (p : Processor) (output : List ℕ) (n : Mesh) (a : At p output n) where
    -- ---- the end of the thread in the hand

    module _ (i : ℕ) (f : Fiber) (caller : Option ThreadNo) (v : Value Address) (hand : p.hand ≡ Some i) (e : slice_get p.table i ≡ Some (Lives f Goes caller)) where
      abbrev p1 : Processor
      p1 = put_hand None (put_entry i (Ended v) p)

      stands : item_in n.spots (no i) ≡ Some (Active f)
      stands = hand_active p output n a i f caller hand e

      first_hold : Hold m.code (lists (at p1)) (put_item n.spots (no i) (Gone v))
      first_hold = taken_out m.code (at p) n.spots a.hold (Hand q) [] [] (Itself (no i)) (in_hand_now m q p0 there i p hand) (Active f) stands
          (at (put_hand None (put_entry i (Ended v) p))) (pulls_hand_put p output n a i (Ended v)) (Gone v) refl

      ended_first : move m.code f.thread ≡ Ends v → MeshRun n [] (with_spot n (no i) (Gone v))
      ended_first ends_so = one_silent n _ (Finishes (no i) f v stands (subst (λ (c : Code). move c f.thread ≡ Ends v) a.base.code ends_so))

      -- the caller, which waits for it
      module _ (u : ThreadNo) (d : caller ≡ Some u) where
        own_entry : item_in (tables_with m q p.table) (no i) ≡ Some (Lives f Goes caller)
        own_entry = entry_at m q p0 there p.table i (Lives f Goes caller) e

        calls : (g : Fiber) × (item_in n.spots u ≡ Some (Calling (no i) g))
        calls = a.base.callers u (no i) (ap caller_of own_entry ∙ d)

        apart : u ≡ no i → ⊥
        apart same =
            let d' : Active f ≡ Calling (no i) calls.0 = same_Some (Active f) (Calling (no i) calls.0) (sym stands ∙ (ap (item_in n.spots) (sym same) ∙ calls.1)) in
            cc

        waits : item_in (put_item n.spots (no i) (Gone v)) u ≡ Some (Calling (no i) calls.0)
        waits = put_elsewhere n.spots (no i) u (Gone v) apart ∙ calls.1

        abbrev spots_end : List (List Spot)
        spots_end = put_item (put_item n.spots (no i) (Gone v)) u (Called (no i) v calls.0)

        tables_end : tables_with m q (changed p.table i (λ o. Ended v)) ≡ put_item (tables_with m q p.table) (no i) (Ended v)
        tables_end = sym (changed_twice (tables_of m.all) q (λ o. p.table) (λ es. changed es i (λ o. Ended v)))

        told_entry : (x : Entry) → IsEntry x (Calling (no i) calls.0) → IsEntry x (Called (no i) v calls.0)
        told_entry (Lives g Goes c) h = absurd h
        told_entry (Lives g Joins c) h = absurd h
        told_entry (Lives g Asking c) h = h
        told_entry (Lives g (Has w) c) h = absurd h
        told_entry (Ended w) h = absurd h

        both_entries : Pairwise (Pairwise IsEntry) (put_item (tables_with m q p.table) (no i) (Ended v)) (put_item n.spots (no i) (Gone v))
        both_entries = both_put IsEntry (tables_with m q p.table) n.spots (no i) (Ended v) (Gone v) refl a.base.entries

        ended_gives : (k : ThreadNo) → same_thread k (no i) ≡ true → caller_of (item_in (put_item (tables_with m q p.table) (no i) (Ended v)) k) ≡ None
        ended_gives k same =
            ap (λ z. caller_of (item_in (put_item (tables_with m q p.table) (no i) (Ended v)) z)) (one_thread k (no i) same)
            ∙ ap caller_of (put_found (tables_with m q p.table) (no i) (Lives f Goes caller) (Ended v) own_entry)

        callers_end : (w k : ThreadNo) → caller_of (item_in (put_item (tables_with m q p.table) (no i) (Ended v)) k) ≡ Some w → (g : Fiber) × (item_in spots_end w ≡ Some (Calling k g))
        callers_end w k c = by (same_thread k (no i)) refl
          where
            by : (b : Bool) → same_thread k (no i) ≡ b → (g : Fiber) × (item_in spots_end w ≡ Some (Calling k g))
            by true same = absurd (none-some w (sym (ended_gives k same) ∙ c))
            by false same =
                let r = a.base.callers w k (sym (ap caller_of (put_elsewhere (tables_with m q p.table) (no i) k (Ended v) (apart_if k (no i) same))) ∙ c) in
                let not_t : w ≡ no i → ⊥ = λ z. (let x : Active f ≡ Calling k r.0 = same_Some (Active f) (Calling k r.0) (sym stands ∙ (ap (item_in n.spots) (sym z) ∙ r.1)) in cc) in
                let not_u : w ≡ u → ⊥ = λ z. (let x : Calling (no i) calls.0 ≡ Calling k r.0 = same_Some (Calling (no i) calls.0) (Calling k r.0) (sym calls.1 ∙ (ap (item_in n.spots) (sym z) ∙ r.1)) in
                let y : no i ≡ k = cc in apart_if k (no i) same (sym y)) in
                (r.0, put_elsewhere (put_item n.spots (no i) (Gone v)) u w (Called (no i) v calls.0) not_u ∙ (put_elsewhere n.spots (no i) w (Gone v) not_t ∙ r.1))

        askers_end : (w k : ThreadNo) (g : Fiber) → item_in spots_end w ≡ Some (Calling k g) → caller_of (item_in (put_item (tables_with m q p.table) (no i) (Ended v)) k) ≡ Some w
        askers_end w k g c = by (same_thread w u) refl (same_thread w (no i)) refl (same_thread k (no i)) refl
          where
            old : same_thread w u ≡ false → same_thread w (no i) ≡ false → caller_of (item_in (tables_with m q p.table) k) ≡ Some w
            old x y = a.base.askers w k g (sym (put_elsewhere n.spots (no i) w (Gone v) (apart_if w (no i) y))
                ∙ (sym (put_elsewhere (put_item n.spots (no i) (Gone v)) u w (Called (no i) v calls.0) (apart_if w u x)) ∙ c))

            by : (b : Bool) → same_thread w u ≡ b → (b' : Bool) → same_thread w (no i) ≡ b' → (b'' : Bool) → same_thread k (no i) ≡ b''
                → caller_of (item_in (put_item (tables_with m q p.table) (no i) (Ended v)) k) ≡ Some w
            by true x b' y b'' z =
                let t : Called (no i) v calls.0 ≡ Calling k g = same_Some (Called (no i) v calls.0) (Calling k g)
                (sym (put_found (put_item n.spots (no i) (Gone v)) u (Calling (no i) calls.0) (Called (no i) v calls.0) waits)
                ∙ (ap (item_in spots_end) (sym (one_thread w u x)) ∙ c)) in
                absurd (cc)
            by false x true y b'' z =
                let t : Gone v ≡ Calling k g = same_Some (Gone v) (Calling k g)
                (sym (put_found n.spots (no i) (Active f) (Gone v) stands) ∙ (ap (item_in (put_item n.spots (no i) (Gone v))) (sym (one_thread w (no i) y))
                ∙ (sym (put_elsewhere (put_item n.spots (no i) (Gone v)) u w (Called (no i) v calls.0) (apart_if w u x)) ∙ c))) in
                absurd (cc)
            by false x false y true z =
                let mine : Some u ≡ Some w = sym d ∙ (sym (ap caller_of own_entry) ∙ (ap (λ o. caller_of (item_in (tables_with m q p.table) o)) (sym (one_thread k (no i) z)) ∙ old x y)) in
                absurd (apart_if w u x (sym (same_Some u w mine)))
            by false x false y false z = ap caller_of (put_elsewhere (tables_with m q p.table) (no i) k (Ended v) (apart_if k (no i) z)) ∙ old x y

        base_end : Base m q p.shelf (changed p.table i (λ o. Ended v)) output (with_spot (with_spot n (no i) (Gone v)) u (Called (no i) v calls.0))
        base_end = record {
          code = a.base.code;
          shelves = a.base.shelves;
          printed = a.base.printed;
          entries = subst (λ ts. Pairwise (Pairwise IsEntry) ts spots_end) (sym tables_end)
              (right_put IsEntry (put_item (tables_with m q p.table) (no i) (Ended v)) (put_item n.spots (no i) (Gone v)) u (Called (no i) v calls.0)
              (λ x x_at. let r = item_right IsEntry (put_item (tables_with m q p.table) (no i) (Ended v)) (put_item n.spots (no i) (Gone v)) both_entries u x x_at in
              told_entry x (subst (IsEntry x) (same_Some r.0 (Calling (no i) calls.0) (sym r.1 ∙ waits)) r.2)) both_entries);
          callers = λ w k c. callers_end w k (ap (λ ts. caller_of (item_in ts k)) (sym tables_end) ∙ c);
          askers = λ w k g c. ap (λ ts. caller_of (item_in ts k)) tables_end ∙ askers_end w k g c;
        }

        fits : CallsAway m.code calls.0 × (first_hold.lies u ≡ None)
        fits = subst (λ o. FitsAt m.code u o (first_hold.lies u)) waits (first_hold.fits u)

        gone : item_in (put_item n.spots (no i) (Gone v)) (no i) ≡ Some (Gone v)
        gone = put_found n.spots (no i) (Active f) (Gone v) stands

        tells : move m.code f.thread ≡ Ends v → Reach n [] (send (Answers u v) p1) output
        tells ends_so = record {
          mesh = with_spot (with_spot n (no i) (Gone v)) u (Called (no i) v calls.0);
          run = then_silent (ended_first ends_so) (Tells u calls.0 (no i) v waits gone);
          after = record {
            base = base_end;
            hold = same_hold m.code (pushed (lists (at p1)) (Outbox q) (Mail (Answers u v))) (lists (at (send (Answers u v) p1))) spots_end
                (pushes_out m q p0 there (Answers u v) p1)
                (emerge m.code (lists (at p1)) (put_item n.spots (no i) (Gone v)) first_hold u (Calling (no i) calls.0) (Called (no i) v calls.0)
                (Outbox q) (Mail (Answers u v)) refl waits fits.1 (fits.0, inr (Outbox q, tt, refl)));
          };
        }

      told : move m.code f.thread ≡ Ends v → (c : Option ThreadNo) → caller ≡ c → Reach n [] (tell q i c v p1) output
      told ends_so None d = record {
        mesh = with_spot n (no i) (Gone v);
        run = ended_first ends_so;
        after = record {
          base = base_put m q p0 there p.shelf p.table output n a.base i (Lives f Goes caller) (Ended v) (Active f) (Gone v) e stands tt tt refl (sym d);
          hold = first_hold;
        };
      }
      told ends_so (Some u) d = tells u d ends_so

      pub ends : move m.code f.thread ≡ Ends v → Reach n [] (ended m.code q i caller v p) output
      ends ends_so =
          and_then n [] (tell q i caller v p1) (ended m.code q i caller v p) output (told ends_so caller refl)
          (λ n2 b. rejoin_all (length p.table) (tell q i caller v p1) output n2 b)
