-- What one processor does, the mesh does that the machine shows.
use Rattle.law_processors.specs.Alone.{OwnStep}
use Rattle.std.proofs.Common.{◌≡◌, inl, ℕ, List, [], ◌∷◌, ◌++◌, map, Bool, true, false, not, Option, Some, None, refl, sym, ap, ◌∙◌, subst}
use Rattle.std.proofs.lemmas.Option.{none-some, same_Some}
use Rattle.std.proofs.lemmas.Bool.{false≢true}
use Rattle.std.specs.Prelude.{slice_get, if◌then◌else◌}
use Rattle.global_ptr.specs.declared.ends.FaultKind.{FaultKind}
use Rattle.global_ptr.specs.declared.ends.FaultKind.TheVariants.{NullPointer}
use Rattle.cc_ops.specs.Values.{Value, Void, Int, Null, Ptr}
use Rattle.cc_ops.specs.Machine.{Address, Values}
use Rattle.cc_ops.specs.declared.number.ThreadNo.{ThreadNo}
use Rattle.cc_ops.specs.Shelves.{home_in}
use Rattle.cc_core.specs.Asks.{Ask, Answer, Calls, Casts}
use Rattle.cc_core.specs.Numbers.{Post, Get, Put, Call, Cast, Make}
use Rattle.cc_core.specs.Needs.{Verdict, Go, Hold, Bad}
use Rattle.cc_code.specs.Code.{Code, Then, Move, Silent, Does, Ends, Stuck, move}
use Rattle.law_mesh.specs.Local.{AnsweredOn}
use Rattle.numbered_runs.specs.Posts.{posted}
use Rattle.law_mesh.specs.Spots.{Fiber, Spot, Active, Posted, Answered, Called, Mesh, item_in, put_item, verdict, answered}
use Rattle.law_mesh.specs.Moves.{Comes, Asking as AskingAt, FaultsAt, ActsBadly, ServedBadly, with_spot, with_spots}
use Rattle.law_mesh.specs.Queues.{Queue, Ready, OfCell, Inbox, Message, Asks, Answers, Item, Itself, Mail, Hold as HoldLists, MayLie, AsksAt, AsksBy, target, holds_none, taken_values}
use Rattle.law_processors.specs.Processors.{Waiter, Own, Asked, Stage, Goes, Joins, Asking, Has, Entry, Lives, Ended, Processor, Processors, IsEntry, lists, waiter_item, tables_of, Runs, with_processor}
use Rattle.law_processors.specs.Alone.{Did, Went, Failed, effect_here, stepped_here, enters_later, send, put_hand, be_ready, put_entry, seen, asks_here, asks_null, is_remote, is_taken, goes_into, all_on, may_step, decided, asks_itself, asks_by, moves_by, entry_moves, hand_moves, moved, ask_of, nobody, served_so, serves, taken_by, told, serves_message, serves_inbox, served}
use Rattle.law_processors.specs.Machine.{one_or_none, line_of, line_of_entry, line_of_move, without_ready}
use Rattle.law_processors.specs.Follow.{MeshRun, Stays, step_of}
use Rattle.law_mesh.proofs.Lists.{item_left}
use Rattle.law_mesh.proofs.Queues.{asking_is, IsAsking, IsPosted, IsDelayed, answer_is, IsAnswer, IsGiven, IsResult}
use Rattle.law_processors.proofs.Edits.{Pulls, carried_over, entry_lists, with_inbox, inbox_lists, pushes_ready, pulls_ready, in_inbox_now, in_ready_now}
use Rattle.law_processors.proofs.Base.{Base, base_put, put_same}
use Rattle.law_processors.proofs.Pieces.{At, Reach, at_first, silent_output, nothing, one_silent, hand_active, spot_is, ends}
use Rattle.law_processors.proofs.Hands.{goes_on, waits_lock, waits_so, sends, takes}
use Rattle.law_processors.proofs.Seen.{seen_so, answered_here, both_true}
use Rattle.law_processors.proofs.Locals.{steps_here}
use Rattle.law_processors.proofs.Serving.{asks_so, ask_is, found_there, serves_get, parks_get, serves_put, serves_cast, serves_call, asking as asking_at}

not_so : (b : Bool) → not b ≡ true → b ≡ false
not_so true e = absurd (false≢true e)
not_so false e = refl

module _ (m : Processors) (n : Mesh) (runs : Runs m n) (q : ℕ) (p : Processor) (there : slice_get m.all q ≡ Some p) where
  a : At m q p there p m.output n
  a = at_first m q p there n runs

  -- a step or a silent move is one of the mesh, and a fault is the thread's
  abbrev pub Fine : Did Processor → Type 0
  Fine (Went step prints p') = Reach m q p there n (map step_of (one_or_none step)) p' (m.output ++ prints)
  Fine (Failed kind t) = FaultsAt n t kind (line_of m t)

  silent : (p' : Processor) → Reach m q p there n [] p' m.output → Fine (Went None [] p')
  silent p' r = record { mesh = r.mesh; run = r.run; after = silent_output m q p there r.mesh p' r.after }

  unmoves : Fine (Went None [] p)
  unmoves = silent p (nothing m q p there n p m.output a)

  -- where a thread stands
  line_is : (t : ThreadNo) (s : Spot) (f : Fiber) (line : ℕ) (ask : Ask Address) (k : Answer Address → Then Address) → item_in n.spots t ≡ Some s
      → ((e : Entry) → IsEntry e s → line_of_entry m (Some e) ≡ line_of_move (move m.code f.thread)) → move m.code f.thread ≡ Does line ask k → line_of m t ≡ line
  line_is t s f line ask k stands of_entry asks =
      let r = item_left IsEntry (tables_of m.all) n.spots runs.entries t s stands in
      ap (line_of_entry m) r.1 ∙ (of_entry r.0 r.2 ∙ ap line_of_move asks)

  active_line : (f : Fiber) (e : Entry) → IsEntry e (Active f) → line_of_entry m (Some e) ≡ line_of_move (move m.code f.thread)
  active_line f (Lives g Goes c) h = ap (λ (z : Fiber). line_of_move (move m.code z.thread)) h
  active_line f (Lives g Joins c) h = absurd h
  active_line f (Lives g Asking c) h = absurd h
  active_line f (Lives g (Has u) c) h = absurd h
  active_line f (Ended u) h = absurd h

  posted_line : (f : Fiber) (e : Entry) → IsEntry e (Posted f) → line_of_entry m (Some e) ≡ line_of_move (move m.code f.thread)
  posted_line f (Lives g Goes c) h = absurd h
  posted_line f (Lives g Joins c) h = absurd h
  posted_line f (Lives g Asking c) h = ap (λ (z : Fiber). line_of_move (move m.code z.thread)) h
  posted_line f (Lives g (Has u) c) h = absurd h
  posted_line f (Ended u) h = absurd h

  -- ---- the thread in the hand

  module _ (i : ℕ) (f : Fiber) (caller : Option ThreadNo) (hand : p.hand ≡ Some i) (entry : slice_get p.table i ≡ Some (Lives f Goes caller)) where
    abbrev t : ThreadNo
    t = record { processor = q; thread = i }

    stands : item_in n.spots (record { processor = q; thread = i }) ≡ Some (Active f)
    stands = hand_active m q p there p m.output n a i f caller hand entry

    module _ (line : ℕ) (ask : Ask Address) (k : Answer Address → Then Address) (asks : move m.code f.thread ≡ Does line ask k) where
      in_mesh : move n.code f.thread ≡ Does line ask k
      in_mesh = subst (λ (c : Code). move c f.thread ≡ Does line ask k) a.base.code asks

      asking : AskingAt n (record { processor = q; thread = i }) (Active f) f line ask k
      asking = record { at = stands; asks = in_mesh }

      badly : (kind : FaultKind) → verdict n q f ask ≡ Bad kind → FaultsAt n (record { processor = q; thread = i }) kind (line_of m (record { processor = q; thread = i }))
      badly kind bad =
          subst (FaultsAt n (record { processor = q; thread = i }) kind) (sym (line_is (record { processor = q; thread = i }) (Active f) f line ask k stands (active_line f) asks))
          (ActsBadly f ask k asking bad)

      fine_decided : posted ask ≡ None → asks_here q f ask ≡ true → (v : Verdict Address) → verdict (seen m.code q p) q f ask ≡ v → Fine (decided m.code q i f caller ask k p v)
      fine_decided own is_here (Go found) go = by (may_step m.code q i f caller ask k p found) refl
        where
          by : (b : Bool) → may_step m.code q i f caller ask k p found ≡ b
              → Fine (if b then Went (Some (OwnStep (record { processor = q; thread = i }))) (effect_here m.code q i f caller ask k p found).prints (stepped_here m.code q i f caller ask k p found) else Went None [] p)
          by false e = unmoves
          by true e =
              let one = both_true (not (is_remote ask)) _ e in
              let two = both_true (all_on q f.inside) _ one.1 in
              steps_here m q p there p m.output n a i f caller hand entry line ask k asks is_here own (not_so (is_remote ask) one.0) two.0 found go
      fine_decided own is_here Hold go = silent _ (waits_so m q p there p m.output n a i f caller hand entry line k ask asks is_here)
      fine_decided own is_here (Bad kind) bad = badly kind (seen_so m q p there p m.output n a.base q f ask (answered_here q f ask is_here) ∙ bad)

      fine_itself : posted ask ≡ None → asks_here q f ask ≡ true → Fine (asks_itself m.code q i f caller ask k p)
      fine_itself own is_here = by (is_taken p i (goes_into m.code.shapes ask))
        where
          by : (b : Bool) → Fine (if b then Went None [] (enters_later i (goes_into m.code.shapes ask) p) else decided m.code q i f caller ask k p (verdict (seen m.code q p) q f ask))
          by true = silent _ (waits_lock m q p there p m.output n a i f caller hand entry line k ask asks is_here)
          by false = fine_decided own is_here (verdict (seen m.code q p) q f ask) refl

      null_so : (x : Ask Address) → asks_null x ≡ true → verdict n q f x ≡ Bad NullPointer
      null_so (Calls g (Int z) vs) e = refl
      null_so (Calls g Null vs) e = refl
      null_so (Calls g Void vs) e = absurd (false≢true e)
      null_so (Calls g (Ptr b x) vs) e = absurd (false≢true e)
      null_so (Casts g (Int z) vs) e = refl
      null_so (Casts g Null vs) e = refl
      null_so (Casts g Void vs) e = absurd (false≢true e)
      null_so (Casts g (Ptr b x) vs) e = absurd (false≢true e)
      null_so x e = absurd (false≢true e)

      fine_asks : (o : Option Post) → posted ask ≡ o → Fine (asks_by m.code q i f caller ask k p o)
      fine_asks (Some post) e = by (holds_none m.code.shapes f.inside) refl
        where
          by : (b : Bool) → holds_none m.code.shapes f.inside ≡ b → Fine (if b then Went None [] (send (Asks (record { processor = q; thread = i }) post) (put_hand None (put_entry i (Lives f Asking caller) p))) else Went None [] p)
          by true free = silent _ (sends m q p there p m.output n a i f caller hand entry line k ask post asks e free)
          by false free = unmoves
      fine_asks None e = by (asks_null ask) refl (asks_here q f ask) refl
        where
          by : (b : Bool) → asks_null ask ≡ b → (c : Bool) → asks_here q f ask ≡ c
              → Fine (if b then Failed NullPointer (record { processor = q; thread = i }) else (if c then asks_itself m.code q i f caller ask k p else Went None [] p))
          by true null c d = badly NullPointer (null_so ask null)
          by false null true is_here = fine_itself e is_here
          by false null false d = unmoves

    fine_move : (mv : Move Address) → move m.code f.thread ≡ mv → Fine (moves_by m.code q i f caller mv p)
    fine_move (Silent c) e = silent _ (goes_on m q p there p m.output n a i f caller hand entry c e)
    fine_move (Does line ask k) e = fine_asks line ask k e (posted ask) refl
    fine_move (Ends v) e = silent _ (ends m q p there p m.output n a i f caller v hand entry e)
    fine_move Stuck e = unmoves

  fine_entry : (i : ℕ) → p.hand ≡ Some i → (o : Option Entry) → slice_get p.table i ≡ o → Fine (entry_moves m.code q i o p)
  fine_entry i hand None e = unmoves
  fine_entry i hand (Some (Ended v)) e = unmoves
  fine_entry i hand (Some (Lives f Goes caller)) e = fine_move i f caller hand e (move m.code f.thread) refl
  fine_entry i hand (Some (Lives f Joins caller)) e = unmoves
  fine_entry i hand (Some (Lives f Asking caller)) e = unmoves
  fine_entry i hand (Some (Lives f (Has v) caller)) e =
      let r = takes m q p there p m.output n a i f v caller hand e in
      record { mesh = r.mesh; run = r.run; after = silent_output m q p there r.mesh _ r.after }

  fine_hand : (o : Option ℕ) → p.hand ≡ o → Fine (hand_moves m.code q o p)
  fine_hand None e = unmoves
  fine_hand (Some i) e = fine_entry i e (slice_get p.table i) refl

  pub moved_fine : Fine (moved m.code q p)
  moved_fine = fine_hand p.hand refl

  -- ---- requests

  module _ (p1 : Processor) (base : Base m q p1.shelf p1.table m.output n) (k : Queue) (front back : List Item) (t : ThreadNo)
      (not_cell : (b : Address) (x : ℕ) → k ≡ OfCell b x → ⊥) (pulls : Pulls (with_processor m q p) (with_processor m q p1) k front back) where
    abbrev Waiting : Post → Type 0
    Waiting post = lists (with_processor m q p) k ≡ front ++ Mail (Asks t post) ∷ back

    answered_on : (post : Post) (i : ℕ) (f : Fiber) → target post ≡ Some q → AnsweredOn q i f (ask_of post)
    answered_on (Get Void) i f e = tt
    answered_on (Get (Int z)) i f e = tt
    answered_on (Get Null) i f e = tt
    answered_on (Get (Ptr b x)) i f e = same_Some b.processor q e
    answered_on (Put Void w) i f e = tt
    answered_on (Put (Int z) w) i f e = tt
    answered_on (Put Null w) i f e = tt
    answered_on (Put (Ptr b x) w) i f e = same_Some b.processor q e
    answered_on (Call h o vs) i f e = same_Some (home_in o) q e
    answered_on (Cast h o vs) i f e = same_Some (home_in o) q e
    answered_on (Make c vs) i f e = absurd (none-some q e)

    module _ (f : Fiber) (stands : item_in n.spots t ≡ Some (Posted f)) (line : ℕ) (g : Answer Address → Then Address) where
      -- it is served
      fine_go : (post : Post) → Waiting post → AsksBy m.code post f → move m.code f.thread ≡ Does line (ask_of post) g → target post ≡ Some q
          → posted (ask_of post) ≡ Some post → (found : Values) → verdict (seen m.code q p1) q nobody (ask_of post) ≡ Go found → Fine (served_so q t post (Go found) p1 p)
      fine_go (Get (Ptr b x)) at by asks here posts found go =
          serves_get m q p there p p1 m.output n a base k front back t b x at pulls f stands by line g asks (same_Some b.processor q here) found go
      fine_go (Put (Ptr b x) w) at by asks here posts found go =
          serves_put m q p there p p1 m.output n a base k front back t b x w at pulls f stands by line g asks (same_Some b.processor q here) found go
      fine_go (Call h (Ptr b x) vs) at by asks here posts found go =
          serves_call m q p there p p1 m.output n a base k front back t h b x vs at pulls f stands by line g asks (same_Some b.processor q here) found go
      fine_go (Cast h (Ptr b x) vs) at by asks here posts found go =
          serves_cast m q p there p p1 m.output n a base k front back t h b x vs at pulls f stands by line g asks (same_Some b.processor q here) found go
      fine_go (Make c vs) at by asks here posts found go = absurd (none-some q here)
      fine_go (Get Void) at by asks here posts found go = absurd (none-some (Get Void) posts)
      fine_go (Get (Int z)) at by asks here posts found go = absurd (none-some (Get (Int z)) posts)
      fine_go (Get Null) at by asks here posts found go = absurd (none-some (Get Null) posts)
      fine_go (Put Void w) at by asks here posts found go = absurd (none-some (Put Void w) posts)
      fine_go (Put (Int z) w) at by asks here posts found go = absurd (none-some (Put (Int z) w) posts)
      fine_go (Put Null w) at by asks here posts found go = absurd (none-some (Put Null w) posts)
      fine_go (Call h Void vs) at by asks here posts found go = absurd (none-some (Call h Void vs) posts)
      fine_go (Call h (Int z) vs) at by asks here posts found go = absurd (none-some (Call h (Int z) vs) posts)
      fine_go (Call h Null vs) at by asks here posts found go = absurd (none-some (Call h Null vs) posts)
      fine_go (Cast h Void vs) at by asks here posts found go = absurd (none-some (Cast h Void vs) posts)
      fine_go (Cast h (Int z) vs) at by asks here posts found go = absurd (none-some (Cast h (Int z) vs) posts)
      fine_go (Cast h Null vs) at by asks here posts found go = absurd (none-some (Cast h Null vs) posts)

      -- it must wait
      fine_hold : (post : Post) → Waiting post → AsksBy m.code post f → move m.code f.thread ≡ Does line (ask_of post) g → target post ≡ Some q
          → Fine (served_so q t post Hold p1 p)
      fine_hold (Get (Ptr b x)) at by asks here =
          silent _ (parks_get m q p there p p1 m.output n a base k front back t b x at pulls f stands by line g asks (placed b (same_Some b.processor q here)))
        where
          placed : (c : Address) → c.processor ≡ q → c ≡ record { processor = q; object = c.object }
          placed c e = ap (λ z. place z c.object) e
            where
              place : ℕ → ℕ → Address
              place z o = record { processor = z; object = o }
      fine_hold (Get Void) at by asks here = unmoves
      fine_hold (Get (Int z)) at by asks here = unmoves
      fine_hold (Get Null) at by asks here = unmoves
      fine_hold (Put v w) at by asks here = unmoves
      fine_hold (Call h o vs) at by asks here = unmoves
      fine_hold (Cast h o vs) at by asks here = unmoves
      fine_hold (Make c vs) at by asks here = unmoves

      fine_so : (post : Post) → Waiting post → AsksBy m.code post f → move m.code f.thread ≡ Does line (ask_of post) g → target post ≡ Some q
          → posted (ask_of post) ≡ Some post → (v : Verdict Address) → verdict (seen m.code q p1) q nobody (ask_of post) ≡ v → Fine (served_so q t post v p1 p)
      fine_so post at by asks here posts (Go found) go = fine_go post at by asks here posts found go
      fine_so post at by asks here posts Hold go = fine_hold post at by asks here
      fine_so post at by asks here posts (Bad kind) bad =
          subst (FaultsAt n t kind) (sym (line_is t (Posted f) f line (ask_of post) g stands (posted_line f) asks))
          (ServedBadly f (ask_of post) g (asking_at m q p there p p1 m.output n a base k front back t post at pulls f stands by line g asks)
          (found_there m q p there p p1 m.output n a base k front back t post at pulls f stands by line g asks (Bad kind) (answered_on post t.processor f here) bad))

    pub serves_fine : (post : Post) → Waiting post → (AsksAt post k → target post ≡ Some q) → Fine (serves m.code q t post p1 p)
    serves_fine post at on = by (asking_is m.code (lists (with_processor m q p)) n.spots a.hold k front back t post at)
      where
        by : IsAsking m.code (lists (with_processor m q p)) n.spots a.hold k front back t post → Fine (serves m.code q t post p1 p)
        by (IsDelayed b x f stands e) = absurd (not_cell b x e)
        by (IsPosted f stands asks_by' lies) =
            let r = asks_so (move m.code f.thread) post asks_by'.posts in
            let same : r.1 ≡ ask_of post = ask_is r.1 post r.4 in
            fine_so f stands r.0 r.2 post at asks_by' (r.3 ∙ ap (λ z. Does r.0 z r.2) same) (on lies) (sym (ap posted same) ∙ r.4)
            (verdict (seen m.code q p1) q nobody (ask_of post)) refl

  -- ---- the inbox

  module _ (rest : List Message) where
    p1 : Processor
    p1 = with_inbox m q p there rest p

    pulls_in : (message : Message) → Pulls (with_processor m q p) (with_processor m q (with_inbox m q p there rest p)) (Inbox q) [] (map Mail rest)
    pulls_in message = inbox_lists m q p there rest p

    -- a Reply to a thread of this processor
    module _ (i : ℕ) (v : Value Address) (first : p.inbox ≡ Answers (record { processor = q; thread = i }) v ∷ rest) where
      abbrev u : ThreadNo
      u = record { processor = q; thread = i }

      now : lists (with_processor m q p) (Inbox q) ≡ [] ++ Mail (Answers (record { processor = q; thread = i }) v) ∷ map Mail rest
      now = in_inbox_now m q p there (Answers (record { processor = q; thread = i }) v) rest p first

      abbrev back_with : Entry → Processor
      back_with e = be_ready (Own i) (put_entry i e (record p { inbox = rest }))

      to_back : (e : Entry) (s s' : Spot) → item_in n.spots u ≡ Some s → MayLie m.code u s' (Some (Ready q, Itself u))
          → HoldLists m.code (lists (with_processor m q (back_with e))) (put_item n.spots u s')
      to_back e s s' stands may =
          carried_over m.code (with_processor m q p) n.spots a.hold (Inbox q) [] (map Mail rest) (Mail (Answers u v)) now s stands
          (with_processor m q (with_inbox m q p there rest p)) (with_processor m q (back_with e)) (pulls_in (Answers u v)) (Ready q) (Itself u)
          (λ k. pushes_ready m q p there (Own i) (with_inbox m q p there rest p) k ∙ entry_lists m q p there i e (be_ready (Own i) (with_inbox m q p there rest p)) k)
          refl s' may

      fine_told : (o : Option Entry) → slice_get p.table i ≡ o → Fine (told m.code i v o (record p { inbox = rest }) p)
      fine_told None e = unmoves
      fine_told (Some (Ended w)) e = unmoves
      fine_told (Some (Lives f Goes caller)) e = unmoves
      fine_told (Some (Lives f Joins caller)) e = unmoves
      fine_told (Some (Lives f (Has w) caller)) e = unmoves
      fine_told (Some (Lives f Asking caller)) e = by (answer_is m.code (lists (with_processor m q p)) n.spots a.hold (Inbox q) [] (map Mail rest) u v now)
        where
          r : (s : Spot) × (item_in n.spots (record { processor = q; thread = i }) ≡ Some s) × IsEntry (Lives f Asking caller) s
          r = spot_is m q p there p m.output n a i (Lives f Asking caller) e

          abbrev_so : (x : Stage × Fiber) → taken_by m.code f v (move m.code f.thread) ≡ x
              → Fine (Went None [] (back_with (Lives x.1 x.0 caller)))
              → Fine (Went None [] (back_with (Lives (taken_by m.code f v (move m.code f.thread)).1 (taken_by m.code f v (move m.code f.thread)).0 caller)))
          abbrev_so x same fine = subst (λ (z : Stage × Fiber). Fine (Went None [] (back_with (Lives z.1 z.0 caller)))) (sym same) fine

          by : IsAnswer m.code (lists (with_processor m q p)) n.spots a.hold (Inbox q) [] (map Mail rest) (record { processor = q; thread = i }) v
              → Fine (told m.code i v (Some (Lives f Asking caller)) (record p { inbox = rest }) p)
          by (IsGiven vs g stands given lies) =
              let same : f ≡ g = subst (IsEntry (Lives f Asking caller)) (same_Some r.0 (Answered vs g) (sym r.1 ∙ stands)) r.2 in
              let asks : move m.code f.thread ≡ Does given.line given.ask given.goes = ap (λ (z : Fiber). move m.code z.thread) same ∙ given.asks in
              let so : answered m.code f (taken_values m.code given.ask v) ≡ answered n.code g vs =
              ap (answered m.code f) (sym given.values) ∙ (ap (λ z. answered m.code z vs) same ∙ ap (λ (c : Code). answered c g vs) a.base.code) in
              let e' : Entry = Lives (answered n.code g vs) Goes caller in
              abbrev_so (Goes, answered n.code g vs)
              (ap (taken_by m.code f v) asks ∙ (ap (λ b. if b then (Has v, f) else (Goes, answered m.code f (taken_values m.code given.ask v))) given.plain
              ∙ ap (λ z. goes_with z) so))
              (silent _ (record {
                mesh = with_spot n (record { processor = q; thread = i }) (Active (answered n.code g vs));
                run = one_silent n _ (Comes (record { processor = q; thread = i }) g vs stands);
                after = record {
                  base = base_put m q p there p.shelf p.table m.output n a.base i (Lives f Asking caller) (Lives (answered n.code g vs) Goes caller) (Answered vs g) (Active (answered n.code g vs)) e stands
                      tt tt refl refl;
                  hold = to_back (Lives (answered n.code g vs) Goes caller) (Answered vs g) (Active (answered n.code g vs)) stands (Ready q, refl, refl);
                };
              }))
            where
              goes_with : Fiber → Stage × Fiber
              goes_with z = (Goes, z)
          by (IsResult kid g stands calls lies) =
              let same : f ≡ g = subst (IsEntry (Lives f Asking caller)) (same_Some r.0 (Called kid v g) (sym r.1 ∙ stands)) r.2 in
              let asks : move m.code f.thread ≡ Does calls.line calls.ask calls.goes = ap (λ (z : Fiber). move m.code z.thread) same ∙ calls.asks in
              abbrev_so (Has v, f)
              (ap (taken_by m.code f v) asks ∙ ap (λ b. if b then (Has v, f) else (Goes, answered m.code f (taken_values m.code calls.ask v))) calls.call)
              (silent _ (record {
                mesh = with_spot n (record { processor = q; thread = i }) (Called kid v g);
                run = subst (λ tb. MeshRun n [] (with_spots n tb)) (sym (put_same n.spots (record { processor = q; thread = i }) (Called kid v g) stands)) Stays;
                after = record {
                  base = base_put m q p there p.shelf p.table m.output n a.base i (Lives f Asking caller) (Lives f (Has v) caller) (Called kid v g) (Called kid v g) e stands
                      tt tt (same, refl) refl;
                  hold = to_back (Lives f (Has v) caller) (Called kid v g) (Called kid v g) stands (calls, inl (Ready q, refl, refl));
                };
              }))

    fine_reply : (t : ThreadNo) (v : Value Address) → p.inbox ≡ Answers t v ∷ rest → t ≡ record { processor = q; thread = t.thread }
        → Fine (told m.code t.thread v (slice_get p.table t.thread) (record p { inbox = rest }) p)
    fine_reply t v first same = fine_told t.thread v (first ∙ ap (λ z. Answers z v ∷ rest) same) (slice_get p.table t.thread) refl

    reply_here : (t : ThreadNo) (v : Value Address) → p.inbox ≡ Answers t v ∷ rest → t ≡ record { processor = q; thread = t.thread }
    reply_here t v first = by (answer_is m.code (lists (with_processor m q p)) n.spots a.hold (Inbox q) [] (map Mail rest) t v (in_inbox_now m q p there (Answers t v) rest p first))
      where
        placed : q ≡ t.processor → t ≡ record { processor = q; thread = t.thread }
        placed e = ap (λ z. numbered z t.thread) (sym e)
          where
            numbered : ℕ → ℕ → ThreadNo
            numbered z j = record { processor = z; thread = j }

        by : IsAnswer m.code (lists (with_processor m q p)) n.spots a.hold (Inbox q) [] (map Mail rest) t v → t ≡ record { processor = q; thread = t.thread }
        by (IsGiven vs g stands given lies) = placed lies
        by (IsResult kid g stands calls lies) = placed lies

    fine_message : (message : Message) → p.inbox ≡ message ∷ rest → Fine (serves_message m.code q message (record p { inbox = rest }) p)
    fine_message (Asks t post) first =
        serves_fine (record p { inbox = rest }) a.base (Inbox q) [] (map Mail rest) t (λ b x e. let d : Inbox q ≡ OfCell b x = e in cc) (pulls_in (Asks t post)) post
        (in_inbox_now m q p there (Asks t post) rest p first) (λ z. z)
    fine_message (Answers t v) first = fine_reply t v first (reply_here t v first)

  fine_inbox : (messages : List Message) → p.inbox ≡ messages → Fine (serves_inbox m.code q messages p)
  fine_inbox [] e = unmoves
  fine_inbox (message ∷ rest) e = fine_message rest message e

  pub served_fine : Fine (served m.code q p)
  served_fine = fine_inbox p.inbox refl

  -- a Get that was woken
  pub woken_fine : (front : List Waiter) (t : ThreadNo) (post : Post) (back : List Waiter) → p.ready ≡ front ++ Asked t post ∷ back
      → Fine (serves m.code q t post (without_ready (front ++ back) p) p)
  woken_fine front t post back e =
      serves_fine (without_ready (front ++ back) p) a.base (Ready q) (map (waiter_item q) front) (map (waiter_item q) back) t (λ b x d. let c : Ready q ≡ OfCell b x = d in cc)
      (pulls_ready m q p there front (Asked t post) back p) post (in_ready_now m q p there front (Asked t post) back p e) (λ z. z)
