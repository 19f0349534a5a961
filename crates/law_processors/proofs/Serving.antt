-- A request is served.
use Rattle.std.proofs.Common.{◌≡◌, ℕ, zero, suc, List, [], ◌∷◌, ◌++◌, length, Bool, true, false, Option, Some, None, refl, sym, ap, ◌∙◌, subst}
use Rattle.std.specs.Prelude.{slice_get, if◌then◌else◌}
use Rattle.std.specs.Option.{option_map_or}
use Rattle.std.proofs.lemmas.Option.{none-some, same_Some}
use Rattle.std.specs.Option.{option_and_then}
use Rattle.global_ptr.specs.declared.ends.FaultKind.{FaultKind}
use Rattle.cc_ops.specs.Values.{Value, Void, Int, Null, Ptr, first}
use Rattle.cc_ops.specs.Values as values
use Rattle.cc_ops.specs.Machine.{Address, Values}
use Rattle.cc_ops.specs.declared.number.ThreadNo.{ThreadNo}
use Rattle.cc_ops.specs.Shelves.{Shelf, changed}
use Rattle.cc_core.specs.Asks.{Ask, Answer, Reads, Writes, Calls, Casts, NewProcessor}
use Rattle.cc_core.specs.Numbers.{Post, Get, Put, Call, Cast, Make}
use Rattle.cc_core.specs.Needs.{Verdict, Go, Hold, Bad, and_also, read, writable}
use Rattle.cc_code.specs.Code.{Code, Thread, Then, Move, Silent, Does, Ends, Stuck, Starting, move}
use Rattle.numbered_runs.specs.Effects.{Effect}
use Rattle.numbered_runs.specs.Posts.{posted, move_posts, where_address}
use Rattle.numbered_runs.specs.Steps.{settle}
use Rattle.law_mesh.specs.Spots.{Fiber, Spot, Active, Posted, Delayed, Answered, Calling, Mesh, item_in, put_item, runs, verdict, made_of}
use Rattle.law_mesh.specs.Moves.{Serves, ServesCall, served_step, Delays, Asking as AskingAt, with_spot, served, call_served, effect_of, push_item, push_items, new_spots, new_fiber, held_then, tables, home, values_given, gone_on, its_new}
use Rattle.law_mesh.specs.Local.{AnsweredOn, write_on}
use Rattle.law_mesh.specs.Queues.{Queue, OfCell, Outbox, Asks, Answers, Item, Mail, Hold as HoldLists, AsksBy, IsAnswered, holds_none}
use Rattle.law_processors.specs.Processors.{Asked, Goes, Joins, Asking, Has, Entry, Lives, Ended, Processor, Processors, IsEntry, shelves_of, lists, with_processor}
use Rattle.law_processors.specs.Alone.{send, put_shelf, park, make_thread, ask_of, nobody, seen, answer}
use Rattle.law_processors.specs.Follow.{Stays, Then as ThenOn}
use Rattle.law_mesh.proofs.Branches.{Forks, ForksNone, moves_fork_none}
use Rattle.law_mesh.proofs.Local.{changed_alike, changed_twice, value_on}
use Rattle.law_processors.proofs.Edits.{Pulls, same_hold, carried_over, taken_out, shelf_lists, pushes_out, pushes_cell}
use Rattle.law_processors.proofs.Base.{Base, base_spot, base_call}
use Rattle.law_processors.proofs.Pieces.{At, Reach, and_then, one_silent}
use Rattle.law_processors.proofs.Hands.{freed_none}
use Rattle.law_processors.proofs.Seen.{seen_so, asked_by_nobody, shelf_there, row_there}
use Rattle.law_processors.proofs.Locals.{wakes_here, makes_one, made_hold}
use Rattle.numbered_runs.proofs.Lists.{pairwise_length, length_changed}

-- ---- what is asked by a request

pub asks_so : (mv : Move Address) (post : Post) → move_posts mv None ≡ Some post
    → (line : ℕ) × (ask : Ask Address) × (k : Answer Address → Then Address) × (mv ≡ Does line ask k) × (posted ask ≡ Some post)
asks_so (Silent c) post e = absurd (none-some post e)
asks_so (Does line ask k) post e = (line, ask, k, refl, e)
asks_so (Ends v) post e = absurd (none-some post e)
asks_so Stuck post e = absurd (none-some post e)

post_through : (a : Value Address) (post other : Post) → where_address a post ≡ Some other → post ≡ other
post_through Void post other e = absurd (none-some other e)
post_through (Int n) post other e = absurd (none-some other e)
post_through Null post other e = absurd (none-some other e)
post_through (Ptr b x) post other e = same_Some post other e

pub ask_is : (ask : Ask Address) (post : Post) → posted ask ≡ Some post → ask ≡ ask_of post
ask_is (Reads true a) post e = ap ask_of (post_through a (Get a) post e)
ask_is (Reads false a) post e = absurd (none-some post e)
ask_is (Writes true a v) post e = ap ask_of (post_through a (Put a v) post e)
ask_is (Writes false a v) post e = absurd (none-some post e)
ask_is (Calls f o vs) post e = ap ask_of (post_through o (Call f o vs) post e)
ask_is (Casts f o vs) post e = ap ask_of (post_through o (Cast f o vs) post e)
ask_is (NewProcessor c vs) post e = ap ask_of (same_Some (Make c vs) post e)
ask_is ask post e = absurd (none-some post e)

-- ---- what is found

get_found : (o : Option (values.Cell Address)) (found : Values) → and_also (read o) (Go []) ≡ Go found → found ≡ first found ∷ []
get_found None found e = let d : Bad _ ≡ Go found = e in absurd (cc)
get_found (Some (values.Plain v)) found e = let d : Go (v ∷ []) ≡ Go found = e in let s : v ∷ [] ≡ found = cc in subst (λ vs. vs ≡ first vs ∷ []) s refl
get_found (Some values.Empty) found e = let d : Hold ≡ Go found = e in absurd (cc)
get_found (Some (values.Full v)) found e = let d : Go (v ∷ []) ≡ Go found = e in let s : v ∷ [] ≡ found = cc in subst (λ vs. vs ≡ first vs ∷ []) s refl

put_found_so : (o : Option (values.Cell Address)) (found : Values) → and_also (writable o) (Go []) ≡ Go found → found ≡ []
put_found_so None found e = let d : Bad _ ≡ Go found = e in absurd (cc)
put_found_so (Some (values.Plain v)) found e = let d : Go [] ≡ Go found = e in let s : [] ≡ found = cc in sym s
put_found_so (Some values.Empty) found e = let d : Go [] ≡ Go found = e in let s : [] ≡ found = cc in sym s
put_found_so (Some (values.Full v)) found e = let d : Bad _ ≡ Go found = e in absurd (cc)

room_found : (b : Bool) (kind : FaultKind) (found : Values) → and_also (Go []) (and_also (if b then Go [] else Bad kind) (Go [])) ≡ Go found → found ≡ []
room_found true kind found e = let d : Go [] ≡ Go found = e in let s : [] ≡ found = cc in sym s
room_found false kind found e = let d : Bad kind ≡ Go found = e in absurd (cc)

-- ---- a thread is changed, and one is made

module _ {A : Type 0} where
  row_apart : (xs : List A) (j : ℕ) (x y z : A) → slice_get xs j ≡ Some z → changed xs j (λ o. x) ++ y ∷ [] ≡ changed (xs ++ y ∷ []) j (λ o. x)
  row_apart [] j x y z e = absurd (none-some z e)
  row_apart (w ∷ xs) zero x y z e = refl
  row_apart (w ∷ xs) (suc j) x y z e = ap (λ zs. w ∷ zs) (row_apart xs j x y z e)

  tables_apart : (table : List (List A)) (i j q : ℕ) (x y z : A) → option_and_then (λ (xs : List A). slice_get xs j) (slice_get table i) ≡ Some z
      → changed (changed table i (λ xs. changed xs j (λ o. x))) q (λ xs. xs ++ y ∷ []) ≡ changed (changed table q (λ xs. xs ++ y ∷ [])) i (λ xs. changed xs j (λ o. x))
  tables_apart [] i j q x y z e = absurd (none-some z e)
  tables_apart (w ∷ table) zero j zero x y z e = ap (λ v. v ∷ table) (row_apart w j x y z e)
  tables_apart (w ∷ table) zero j (suc q) x y z e = refl
  tables_apart (w ∷ table) (suc i) j zero x y z e = refl
  tables_apart (w ∷ table) (suc i) j (suc q) x y z e = ap (λ v. w ∷ v) (tables_apart table i j q x y z e)

  pub push_put : (table : List (List A)) (t : ThreadNo) (q : ℕ) (x y z : A) → item_in table t ≡ Some z
      → push_item (put_item table t x) q y ≡ put_item (push_item table q y) t x
  push_put table t q x y z e = tables_apart table t.processor t.thread q x y z e

-- ---- who asked stands elsewhere

answered_entry : (f : Fiber) (vs : Values) (e : Entry) → IsEntry e (Posted f) → IsEntry e (Answered vs f)
answered_entry f vs (Lives g Goes k) h = absurd h
answered_entry f vs (Lives g Joins k) h = absurd h
answered_entry f vs (Lives g Asking k) h = h
answered_entry f vs (Lives g (Has u) k) h = absurd h
answered_entry f vs (Ended u) h = absurd h

-- the row of a processor, after a thread is changed
row_put : (spots : List (List Spot)) (t : ThreadNo) (s : Spot) (q k : ℕ) (row : List Spot) → slice_get spots q ≡ Some row → k ≡ length row
    → (row' : List Spot) × (slice_get (put_item spots t s) q ≡ Some row') × (k ≡ length row')
row_put spots t s q k row at e = by spots t.processor q at
  where
    by : (tb : List (List Spot)) (i j : ℕ) → slice_get tb j ≡ Some row
        → (row' : List Spot) × (slice_get (changed tb i (λ xs. changed xs t.thread (λ o. s))) j ≡ Some row') × (k ≡ length row')
    by [] i j h = absurd (none-some row h)
    by (x ∷ xs) zero zero h = (changed x t.thread (λ o. s), refl, e ∙ (ap (λ (z : List Spot). length z) (sym (same_Some x row h)) ∙ sym (length_changed x t.thread (λ o. s))))
    by (x ∷ xs) zero (suc j) h = (row, h, e)
    by (x ∷ xs) (suc i) zero h = (row, h, e)
    by (x ∷ xs) (suc i) (suc j) h = by xs i j h

delayed_entry : (f : Fiber) (a : Address) (x : ℕ) (e : Entry) → IsEntry e (Posted f) → IsEntry e (Delayed a x f)
delayed_entry f a x (Lives g Goes k) h = absurd h
delayed_entry f a x (Lives g Joins k) h = absurd h
delayed_entry f a x (Lives g Asking k) h = h
delayed_entry f a x (Lives g (Has u) k) h = absurd h
delayed_entry f a x (Ended u) h = absurd h

-- ---- the mesh after a request was answered

abbrev pub with_output : Mesh → List ℕ → Mesh
with_output n bytes = record { code = n.code; shelves = n.shelves; spots = n.spots; holder = n.holder; output = n.output ++ bytes }

module _ (n : Mesh) (t : ThreadNo) (f : Fiber) (ask : Ask Address) (k : Answer Address → Then Address) (found : Values) where
  abbrev its : Effect
  its = effect_of n t.processor f ask found

  abbrev mesh_with : List Shelf → List (Thread Address) → Mesh
  mesh_with ss new = record {
    code = n.code;
    shelves = ss;
    spots = put_item (push_items (tables n t.processor f ask k found its) (home n t.processor f ask k found its) (new_spots new)) t
        (Answered (values_given n t.processor f ask k found its) f);
    holder = n.holder;
    output = n.output ++ its.prints;
  }

  pub served_is : ((x : Answer Address) → (k x).branches ≡ []) → holds_none n.code.shapes its.inside ≡ true
      → served n t f ask k found ≡ mesh_with (held_then n t.processor f ask k found its) (its.starts ++ [])
  served_is forks free =
      ap (λ ss. mesh_with ss (its_new n t.processor f ask k found its))
      (freed_none n.code (settle n.code (runs (gone_on n t.processor f ask k found its) None [])) its.inside (held_then n t.processor f ask k found its) free)
      ∙ ap (λ bs. mesh_with (held_then n t.processor f ask k found its) (its.starts ++ bs)) (forks _)

-- ---- processor q serves what thread t asks

module _ (m : Processors) (q : ℕ) (p0 : Processor) (there : slice_get m.all q ≡ Some p0) (p p1 : Processor) (output : List ℕ) (n : Mesh)
    (a : At m q p0 there p output n) (base : Base m q p1.shelf p1.table output n) (k : Queue) (front back : List Item) (t : ThreadNo) where
  base_out : (bytes : List ℕ) (s : Shelf) (table : List Entry) (x : Mesh) → Base m q s table output x → Base m q s table (output ++ bytes) (with_output x bytes)
  base_out bytes s table x b = record { code = b.code; shelves = b.shelves; printed = ap (λ z. z ++ bytes) b.printed; entries = b.entries; callers = b.callers; askers = b.askers }

  module _ (post : Post) (at : lists (with_processor m q p) k ≡ front ++ Mail (Asks t post) ∷ back) (pulls : Pulls (with_processor m q p) (with_processor m q p1) k front back)
      (f : Fiber) (stands : item_in n.spots t ≡ Some (Posted f)) (by : AsksBy m.code post f) (line : ℕ) (g : Answer Address → Then Address)
      (asks : move m.code f.thread ≡ Does line (ask_of post) g) where
    in_mesh : move n.code f.thread ≡ Does line (ask_of post) g
    in_mesh = subst (λ (c : Code). move c f.thread ≡ Does line (ask_of post) g) a.base.code asks

    pub asking : AskingAt n t (Posted f) f line (ask_of post) g
    asking = record { at = stands; asks = in_mesh }

    free : holds_none n.code.shapes f.inside ≡ true
    free = subst (λ (c : Code). holds_none c.shapes f.inside ≡ true) a.base.code by.free

    forks : (Forks (ask_of post) → ⊥) → (x : Answer Address) → (g x).branches ≡ []
    forks none = subst ForksNone in_mesh (moves_fork_none n.code f.thread) none

    pub found_there : (v : Verdict Address) → AnsweredOn q t.processor f (ask_of post) → verdict (seen m.code q p1) q nobody (ask_of post) ≡ v
        → verdict n t.processor f (ask_of post) ≡ v
    found_there v on go =
        seen_so m q p0 there p1 output n base t.processor f (ask_of post) on
        ∙ (asked_by_nobody (seen m.code q p1) t.processor q f post ∙ go)

    -- it is answered
    replies : (v : Value Address) (vs : Values) → IsAnswered m.code v vs f
        → HoldLists m.code (lists (with_processor m q (send (Answers t v) p1))) (put_item n.spots t (Answered vs f))
    replies v vs answered =
        carried_over m.code (with_processor m q p) n.spots a.hold k front back (Mail (Asks t post)) at (Posted f) stands (with_processor m q p1)
        (with_processor m q (send (Answers t v) p1)) pulls (Outbox q) (Mail (Answers t v)) (pushes_out m q p0 there (Answers t v) p1) refl (Answered vs f)
        (Outbox q, v, tt, answered, refl)

    answered_base : (vs : Values) → Base m q p1.shelf p1.table output (with_spot n t (Answered vs f))
    answered_base vs = base_spot m q p0 there p1.shelf p1.table output n base t (Posted f) (Answered vs f) stands tt tt (answered_entry f vs)

  module _ (b : Address) (x : ℕ) where
    -- a read
    pub serves_get : (at : lists (with_processor m q p) k ≡ front ++ Mail (Asks t (Get (Ptr b x))) ∷ back) → Pulls (with_processor m q p) (with_processor m q p1) k front back
        → (f : Fiber) → item_in n.spots t ≡ Some (Posted f) → AsksBy m.code (Get (Ptr b x)) f → (line : ℕ) (g : Answer Address → Then Address)
        → move m.code f.thread ≡ Does line (Reads true (Ptr b x)) g → b.processor ≡ q → (found : Values)
        → verdict (seen m.code q p1) q nobody (Reads true (Ptr b x)) ≡ Go found
        → Reach m q p0 there n (served_step t (Get (Ptr b x)) ∷ []) (answer t (Get (Ptr b x)) found p1) (output ++ [])
    serves_get at pulls f stands by line g asks on found go = record {
      mesh = served n t f (Reads true (Ptr b x)) g found;
      run = ThenOn Stays (Serves t f line (Reads true (Ptr b x)) g found (Get (Ptr b x)) (asking (Get (Ptr b x)) at pulls f stands by line g asks) refl refl
          (found_there (Get (Ptr b x)) at pulls f stands by line g asks (Go found) on go));
      after = subst (At m q p0 there (send (Answers t (first found)) p1) (output ++ []))
          (sym (served_is n t f (Reads true (Ptr b x)) g found (forks (Get (Ptr b x)) at pulls f stands by line g asks (λ z. z)) (free (Get (Ptr b x)) at pulls f stands by line g asks)))
          (record {
            base = base_out [] p1.shelf p1.table (with_spot n t (Answered found f)) (answered_base (Get (Ptr b x)) at pulls f stands by line g asks found);
            hold = replies (Get (Ptr b x)) at pulls f stands by line g asks (first found) found
                (record { line = line; ask = Reads true (Ptr b x); goes = g; asks = asks; plain = refl; values = get_found _ found go });
          });
    }

    pub parks_get : (at : lists (with_processor m q p) k ≡ front ++ Mail (Asks t (Get (Ptr b x))) ∷ back) → Pulls (with_processor m q p) (with_processor m q p1) k front back
        → (f : Fiber) → item_in n.spots t ≡ Some (Posted f) → AsksBy m.code (Get (Ptr b x)) f → (line : ℕ) (g : Answer Address → Then Address)
        → move m.code f.thread ≡ Does line (Reads true (Ptr b x)) g → b ≡ record { processor = q; object = b.object }
        → Reach m q p0 there n [] (park b.object x (Asked t (Get (Ptr b x))) p1) output
    parks_get at pulls f stands by line g asks same = record {
      mesh = with_spot n t (Delayed b x f);
      run = one_silent n _ (Delays t f b x stands (line, true, g, in_mesh (Get (Ptr b x)) at pulls f stands by line g asks));
      after = record {
        base = base_spot m q p0 there p1.shelf p1.table output n base t (Posted f) (Delayed b x f) stands tt tt (delayed_entry f b x);
        hold = carried_over m.code (with_processor m q p) n.spots a.hold k front back (Mail (Asks t (Get (Ptr b x)))) at (Posted f) stands (with_processor m q p1)
            (with_processor m q (park b.object x (Asked t (Get (Ptr b x))) p1)) pulls (OfCell (record { processor = q; object = b.object }) x) (Mail (Asks t (Get (Ptr b x))))
            (pushes_cell m q p0 there b.object x (Asked t (Get (Ptr b x))) p1) refl (Delayed b x f)
            (by, ap (λ z. Some (OfCell z x, Mail (Asks t (Get (Ptr b x))))) (sym same));
      };
    }

    -- a write
    pub serves_put : (w : Value Address) (at : lists (with_processor m q p) k ≡ front ++ Mail (Asks t (Put (Ptr b x) w)) ∷ back)
        → Pulls (with_processor m q p) (with_processor m q p1) k front back
        → (f : Fiber) → item_in n.spots t ≡ Some (Posted f) → AsksBy m.code (Put (Ptr b x) w) f → (line : ℕ) (g : Answer Address → Then Address)
        → move m.code f.thread ≡ Does line (Writes true (Ptr b x) w) g → b.processor ≡ q → (found : Values)
        → verdict (seen m.code q p1) q nobody (Writes true (Ptr b x) w) ≡ Go found
        → Reach m q p0 there n (served_step t (Put (Ptr b x) w) ∷ []) (answer t (Put (Ptr b x) w) found p1) (output ++ [])
    serves_put w at pulls f stands by line g asks on found go =
        and_then m q p0 there n (served_step t (Put (Ptr b x) w) ∷ []) (send (Answers t Void) (put_shelf s p1)) (answer t (Put (Ptr b x) w) found p1) (output ++ []) (record {
          mesh = served n t f (Writes true (Ptr b x) w) g found;
          run = ThenOn Stays (Serves t f line (Writes true (Ptr b x) w) g found (Put (Ptr b x) w) (asking (Put (Ptr b x) w) at pulls f stands by line g asks) refl refl
              (found_there (Put (Ptr b x) w) at pulls f stands by line g asks (Go found) on go));
          after = subst (At m q p0 there (send (Answers t Void) (put_shelf s p1)) (output ++ []))
              (sym (served_is n t f (Writes true (Ptr b x) w) g found (forks (Put (Ptr b x) w) at pulls f stands by line g asks (λ z. z)) (free (Put (Ptr b x) w) at pulls f stands by line g asks)
              ∙ ap (λ ss. record { code = n.code; shelves = ss; spots = put_item n.spots t (Answered found f); holder = n.holder; output = n.output ++ [] }) shelves_are)) now;
        })
        (λ n2 c. wakes_here m q p0 there (Ptr b x) (send (Answers t Void) (put_shelf s p1)) (output ++ []) n2 c)
      where
        s : Shelf
        s = write_on p1.shelf (Ptr b x) w

        old : Base m q p1.shelf p1.table output (with_spot n t (Answered found f))
        old = answered_base (Put (Ptr b x) w) at pulls f stands by line g asks found

        shelves_are : held_then n t.processor f (Writes true (Ptr b x) w) g found (effect_of n t.processor f (Writes true (Ptr b x) w) found) ≡ changed n.shelves q (λ z. write_on p1.shelf (Ptr b x) w)
        shelves_are =
            value_on q (Ptr b x) w on n.shelves
            ∙ changed_alike n.shelves q _ _ (λ z z_at. ap (λ y. write_on y (Ptr b x) w) (same_Some z p1.shelf (sym z_at ∙ shelf_there m q p0 there p1 output n base)))

        now : At m q p0 there (send (Answers t Void) (put_shelf (write_on p1.shelf (Ptr b x) w) p1)) (output ++ [])
            (record { code = n.code; shelves = changed n.shelves q (λ z. write_on p1.shelf (Ptr b x) w); spots = put_item n.spots t (Answered found f); holder = n.holder; output = n.output ++ [] })
        now = record {
          base = record {
            code = old.code;
            shelves = sym (changed_twice (shelves_of m.all) q (λ o. p1.shelf) (λ z. write_on p1.shelf (Ptr b x) w)) ∙ ap (λ ss. changed ss q (λ z. write_on p1.shelf (Ptr b x) w)) old.shelves;
            printed = ap (λ z. z ++ []) old.printed;
            entries = old.entries;
            callers = old.callers;
            askers = old.askers;
          };
          hold = same_hold m.code (lists (with_processor m q (send (Answers t Void) p1))) (lists (with_processor m q (send (Answers t Void) (put_shelf (write_on p1.shelf (Ptr b x) w) p1)))) (put_item n.spots t (Answered found f))
              (shelf_lists m q p0 there (write_on p1.shelf (Ptr b x) w) (send (Answers t Void) p1))
              (replies (Put (Ptr b x) w) at pulls f stands by line g asks Void found
              (record { line = line; ask = Writes true (Ptr b x) w; goes = g; asks = asks; plain = refl; values = put_found_so _ found go }));
        }

  module _ (h : ℕ) (b : Address) (x : ℕ) (vs : Values) where
    -- a spawn
    pub serves_cast : (at : lists (with_processor m q p) k ≡ front ++ Mail (Asks t (Cast h (Ptr b x) vs)) ∷ back) → Pulls (with_processor m q p) (with_processor m q p1) k front back
        → (f : Fiber) → item_in n.spots t ≡ Some (Posted f) → AsksBy m.code (Cast h (Ptr b x) vs) f → (line : ℕ) (g : Answer Address → Then Address)
        → move m.code f.thread ≡ Does line (Casts h (Ptr b x) vs) g → b.processor ≡ q → (found : Values)
        → verdict (seen m.code q p1) q nobody (Casts h (Ptr b x) vs) ≡ Go found
        → Reach m q p0 there n (served_step t (Cast h (Ptr b x) vs) ∷ []) (answer t (Cast h (Ptr b x) vs) found p1) (output ++ [])
    serves_cast at pulls f stands by line g asks on found go = record {
      mesh = served n t f (Casts h (Ptr b x) vs) g found;
      run = ThenOn Stays (Serves t f line (Casts h (Ptr b x) vs) g found (Cast h (Ptr b x) vs) (asking (Cast h (Ptr b x) vs) at pulls f stands by line g asks) refl refl
          (found_there (Cast h (Ptr b x) vs) at pulls f stands by line g asks (Go found) on go));
      after = subst (At m q p0 there (answer t (Cast h (Ptr b x) vs) found p1) (output ++ []))
          (sym (served_is n t f (Casts h (Ptr b x) vs) g found (forks (Cast h (Ptr b x) vs) at pulls f stands by line g asks (λ z. z)) (free (Cast h (Ptr b x) vs) at pulls f stands by line g asks)
          ∙ (ap (λ i. record { code = n.code; shelves = n.shelves; spots = put_item (push_item n.spots i (Active (new_fiber c))) t (Answered found f); holder = n.holder; output = n.output ++ [] }) on
          ∙ ap (λ tb. record { code = n.code; shelves = n.shelves; spots = tb; holder = n.holder; output = n.output ++ [] })
          (sym (push_put n.spots t q (Answered found f) (Active (new_fiber c)) (Posted f) stands))))) now;
    }
      where
        c : Thread Address
        c = Starting h (Ptr b x) vs

        first_at : At m q p0 there (send (Answers t Void) p1) (output ++ []) (with_output (with_spot n t (Answered found f)) [])
        first_at = record {
          base = base_out [] p1.shelf p1.table (with_spot n t (Answered found f)) (answered_base (Cast h (Ptr b x) vs) at pulls f stands by line g asks found);
          hold = replies (Cast h (Ptr b x) vs) at pulls f stands by line g asks Void found
              (record { line = line; ask = Casts h (Ptr b x) vs; goes = g; asks = asks; plain = refl; values = room_found _ _ found go });
        }

        now : At m q p0 there (answer t (Cast h (Ptr b x) vs) found p1) (output ++ [])
            (record { code = n.code; shelves = n.shelves; spots = push_item (put_item n.spots t (Answered found f)) q (Active (new_fiber (Starting h (Ptr b x) vs))); holder = n.holder; output = n.output ++ [] })
        now = makes_one m q p0 there (Starting h (Ptr b x) vs) None (send (Answers t Void) p1) (output ++ []) (with_output (with_spot n t (Answered found f)) []) first_at (λ u e. absurd (none-some u e))

    -- a call
    pub serves_call : (at : lists (with_processor m q p) k ≡ front ++ Mail (Asks t (Call h (Ptr b x) vs)) ∷ back) → Pulls (with_processor m q p) (with_processor m q p1) k front back
        → (f : Fiber) → item_in n.spots t ≡ Some (Posted f) → AsksBy m.code (Call h (Ptr b x) vs) f → (line : ℕ) (g : Answer Address → Then Address)
        → move m.code f.thread ≡ Does line (Calls h (Ptr b x) vs) g → b.processor ≡ q → (found : Values)
        → verdict (seen m.code q p1) q nobody (Calls h (Ptr b x) vs) ≡ Go found
        → Reach m q p0 there n (served_step t (Call h (Ptr b x) vs) ∷ []) (answer t (Call h (Ptr b x) vs) found p1) (output ++ [])
    serves_call at pulls f stands by line g asks on found go = record {
      mesh = call_served n t f (Calls h (Ptr b x) vs) g found;
      run = ThenOn Stays (ServesCall t f line (Calls h (Ptr b x) vs) g found (Call h (Ptr b x) vs) (asking (Call h (Ptr b x) vs) at pulls f stands by line g asks) refl refl
          (found_there (Call h (Ptr b x) vs) at pulls f stands by line g asks (Go found) on go));
      after = subst (At m q p0 there (answer t (Call h (Ptr b x) vs) found p1) (output ++ [])) (sym mesh_is) now;
    }
      where
        made_here : made_of n.spots q ≡ length p1.table
        made_here =
            let r = row_there m q p0 there p1 output n base in
            ap (λ o. option_map_or (λ (ps : List Spot). length ps) o 0) r.1 ∙ sym (pairwise_length IsEntry p1.table r.0 r.2)

        waiting : HoldLists m.code (lists (with_processor m q p1)) (put_item n.spots t (Calling (record { processor = q; thread = length p1.table }) f))
        waiting = taken_out m.code (with_processor m q p) n.spots a.hold k front back (Mail (Asks t (Call h (Ptr b x) vs))) at (Posted f) stands (with_processor m q p1) pulls
            (Calling (record { processor = q; thread = length p1.table }) f)
            (record { line = line; ask = Calls h (Ptr b x) vs; goes = g; asks = asks; call = refl; free = by.free }, refl)

        now : At m q p0 there (make_thread (Starting h (Ptr b x) vs) (Some t) p1) (output ++ [])
            (record { code = n.code; shelves = n.shelves; spots = push_item (put_item n.spots t (Calling (record { processor = q; thread = length p1.table }) f)) q (Active (new_fiber (Starting h (Ptr b x) vs))); holder = n.holder; output = n.output ++ [] })
        now = record {
          base = base_out [] p1.shelf (make_thread (Starting h (Ptr b x) vs) (Some t) p1).table
              (record { code = n.code; shelves = n.shelves; spots = push_item (put_item n.spots t (Calling (record { processor = q; thread = length p1.table }) f)) q (Active (new_fiber (Starting h (Ptr b x) vs))); holder = n.holder; output = n.output })
              (subst (λ tb. Base m q p1.shelf (make_thread (Starting h (Ptr b x) vs) (Some t) p1).table output (record { code = n.code; shelves = n.shelves; spots = tb; holder = n.holder; output = n.output }))
              (sym (push_put n.spots t q (Calling (record { processor = q; thread = length p1.table }) f) (Active (new_fiber (Starting h (Ptr b x) vs))) (Posted f) stands))
              (base_call m q p0 there p1.shelf p1.table output n base t f (new_fiber (Starting h (Ptr b x) vs)) stands));
          hold = made_hold m q p0 there (Starting h (Ptr b x) vs) (Some t) p1 (put_item n.spots t (Calling (record { processor = q; thread = length p1.table }) f)) row_now.0 row_now.1 row_now.2 waiting;
        }
          where
            row_now : (row : List Spot) × (slice_get (put_item n.spots t (Calling (record { processor = q; thread = length p1.table }) f)) q ≡ Some row) × (length p1.table ≡ length row)
            row_now = row_put n.spots t (Calling (record { processor = q; thread = length p1.table }) f) q (length p1.table) (row_there m q p0 there p1 output n base).0
                (row_there m q p0 there p1 output n base).1 (pairwise_length IsEntry p1.table (row_there m q p0 there p1 output n base).0 (row_there m q p0 there p1 output n base).2)

        mesh_is : call_served n t f (Calls h (Ptr b x) vs) g found ≡ record {
          code = n.code;
          shelves = n.shelves;
          spots = push_item (put_item n.spots t (Calling (record { processor = q; thread = length p1.table }) f)) q (Active (new_fiber (Starting h (Ptr b x) vs)));
          holder = n.holder;
          output = n.output ++ [];
        }
        mesh_is =
            ap (λ bs. mesh_with_calls (Starting h (Ptr b x) vs ∷ bs) b.processor (made_of n.spots b.processor)) (forks (Call h (Ptr b x) vs) at pulls f stands by line g asks (λ z. z) _)
            ∙ (ap (λ i. mesh_with_calls (Starting h (Ptr b x) vs ∷ []) i (made_of n.spots i)) on
            ∙ (ap (mesh_with_calls (Starting h (Ptr b x) vs ∷ []) q) made_here
            ∙ ap (λ tb. record { code = n.code; shelves = n.shelves; spots = tb; holder = n.holder; output = n.output ++ [] })
            (sym (push_put n.spots t q (Calling (record { processor = q; thread = length p1.table }) f) (Active (new_fiber (Starting h (Ptr b x) vs))) (Posted f) stands))))
          where
            mesh_with_calls : List (Thread Address) → (i j : ℕ) → Mesh
            mesh_with_calls new i j = record {
              code = n.code;
              shelves = n.shelves;
              spots = put_item (push_items n.spots i (new_spots new)) t (Calling (record { processor = i; thread = j }) f);
              holder = n.holder;
              output = n.output ++ [];
            }
