-- A Make is served: a new processor with its object.
use Rattle.std.proofs.Common.{◌≡◌, ℕ, zero, suc, List, [], ◌∷◌, ◌++◌, length, map, Bool, true, false, Some, None, refl, sym, ap, ◌∙◌, subst}
use Rattle.std.specs.Prelude.{slice_get, if◌then◌else◌}
use Rattle.std.specs.Option.{option_and_then, option_map_or}
use Rattle.std.proofs.lemmas.Option.{none-some, same_Some}
use Rattle.global_ptr.specs.declared.ends.FaultKind.{FaultKind}
use Rattle.cc_ops.specs.Values.{Value, Cell, Ptr, Result, Gives, Fails}
use Rattle.cc_ops.specs.Classes.{construct}
use Rattle.cc_ops.specs.Machine.{Address, same_address, Values}
use Rattle.cc_ops.specs.declared.number.ThreadNo.{ThreadNo}
use Rattle.cc_ops.specs.Shelves.{Shelf, no_shelf, changed}
use Rattle.cc_core.specs.Core.{class_shape}
use Rattle.cc_core.specs.Asks.{Answer, NewProcessor}
use Rattle.cc_core.specs.Numbers.{Get, Put, Call, Cast, Make}
use Rattle.cc_core.specs.Needs.{Verdict, Go, Hold, Bad, and_also, of_result}
use Rattle.cc_core.specs.Effects.{constructed}
use Rattle.cc_code.specs.Code.{Code, Then, Does, move}
use Rattle.code_names.specs.Same.{Pairwise}
use Rattle.numbered_runs.proofs.Lists.{get_last, both_found, pairwise_push}
use Rattle.numbered_runs.specs.Changes.{with_new}
use Rattle.law_mesh.specs.Spots.{Fiber, Spot, Posted, Answered, Calling, Mesh, item_in, put_item, verdict}
use Rattle.law_mesh.specs.Moves.{Serves, served_step, Asking as AskingAt, FaultsAt, ServedBadly, served}
use Rattle.law_mesh.specs.Queues.{Hand, Ready, OfCell, OfLock, Inbox, Outbox, Makes, Message, Asks, Answers, Item, Mail, Queues, Hold as HoldLists, FitsAt, AsksBy, holds_none}
use Rattle.law_processors.specs.Processors.{Goes, Joins, Asking, Has, Entry, Lives, Ended, Processor, Processors, IsEntry, caller_of, lists, of_processor, shelves_of, tables_of, Runs, with_processor, printing}
use Rattle.law_processors.specs.Alone.{Did, Went, Failed, nobody}
use Rattle.law_processors.specs.Machine.{receive, seen_by_makes, new_processor, made_for, makes_so, makes_first, made, one_or_none, line_of, line_of_entry, line_of_move}
use Rattle.law_processors.specs.Follow.{Stays, Then as ThenOn, GoesTo, step_of}
use Rattle.law_mesh.proofs.Branches.{ForksNone, moves_fork_none}
use Rattle.law_mesh.proofs.Lists.{item_left, put_found, put_elsewhere}
use Rattle.law_mesh.proofs.Local.{changed_alike, changed_same}
use Rattle.law_mesh.proofs.Queues.{asking_is, IsAsking, IsPosted, IsDelayed}
use Rattle.law_processors.proofs.Edits.{SameLists, same_hold, Pulls, Pushes, carried_over, pushes_in, map_append}
use Rattle.law_processors.proofs.Base.{right_put, append_none}
use Rattle.law_processors.proofs.Serving.{asks_so, ask_is, served_is}

-- ---- lists of processors with one more

module _ {X : Type 0} where
  pub changed_front : (xs ys : List X) (i : ℕ) (f : X → X) (x : X) → slice_get xs i ≡ Some x → changed (xs ++ ys) i f ≡ changed xs i f ++ ys
  changed_front [] ys i f x e = absurd (none-some x e)
  changed_front (z ∷ xs) ys zero f x e = refl
  changed_front (z ∷ xs) ys (suc i) f x e = ap (λ zs. z ∷ zs) (changed_front xs ys i f x e)

  changed_last : (xs : List X) (x : X) (f : X → X) → changed (xs ++ x ∷ []) (length xs) f ≡ xs ++ f x ∷ []
  changed_last [] x f = refl
  changed_last (z ∷ xs) x f = ap (λ zs. z ∷ zs) (changed_last xs x f)

module _ {X : Type 0} where
  -- a table with an empty row more
  pub item_more : (table : List (List X)) (u : ThreadNo) → item_in (table ++ [] ∷ []) u ≡ item_in table u
  item_more table u = by table u.processor
    where
      empty : (i : ℕ) → option_and_then (λ (xs : List X). slice_get xs u.thread) (slice_get ([] ∷ []) i) ≡ None
      empty zero = refl
      empty (suc i) = refl

      by : (tb : List (List X)) (i : ℕ) → option_and_then (λ (xs : List X). slice_get xs u.thread) (slice_get (tb ++ [] ∷ []) i)
          ≡ option_and_then (λ (xs : List X). slice_get xs u.thread) (slice_get tb i)
      by [] i = empty i
      by (xs ∷ tb) zero = refl
      by (xs ∷ tb) (suc i) = by tb i

of_more : (all : List Processor) (p : Processor) (i : ℕ) (f : Processor → List Item) → f p ≡ [] → of_processor (all ++ p ∷ []) i f ≡ of_processor all i f
of_more [] p zero f e = e
of_more [] p (suc i) f e = refl
of_more (z ∷ all) p zero f e = refl
of_more (z ∷ all) p (suc i) f e = of_more all p i f e

same_items : (code : Code) (queues : Queues) (spots spots' : List (List Spot)) → ((u : ThreadNo) → item_in spots u ≡ item_in spots' u) → HoldLists code queues spots → HoldLists code queues spots'
same_items code queues spots spots' same h = record { lies = h.lies; each = h.each; fits = λ u. subst (λ o. FitsAt code u o (h.lies u)) (same u) (h.fits u) }

-- what a Make finds
room_and : (a b : Bool) (x y : FaultKind) (r : Result (List (Cell Address))) (found : Values)
    → and_also (if a then Go [] else Bad x) (and_also (if b then Go [] else Bad y) (and_also (of_result r (λ cells. [])) (Go []))) ≡ Go found → found ≡ []
room_and true true x y (Gives cells) found e = let d : Go [] ≡ Go found = e in let s : [] ≡ found = cc in sym s
room_and true true x y (Fails kind) found e = let d : Bad kind ≡ Go found = e in absurd (cc)
room_and true false x y r found e = let d : Bad y ≡ Go found = e in absurd (cc)
room_and false b x y r found e = let d : Bad x ≡ Go found = e in absurd (cc)

posted_entry : (f : Fiber) (vs : Values) (e : Entry) → IsEntry e (Posted f) → IsEntry e (Answered vs f)
posted_entry f vs (Lives g Goes k) h = absurd h
posted_entry f vs (Lives g Joins k) h = absurd h
posted_entry f vs (Lives g Asking k) h = h
posted_entry f vs (Lives g (Has u) k) h = absurd h
posted_entry f vs (Ended u) h = absurd h

posted_line : (m : Processors) (f : Fiber) (e : Entry) → IsEntry e (Posted f) → line_of_entry m (Some e) ≡ line_of_move (move m.code f.thread)
posted_line m f (Lives g Goes c) h = absurd h
posted_line m f (Lives g Joins c) h = absurd h
posted_line m f (Lives g Asking c) h = ap (λ (z : Fiber). line_of_move (move m.code z.thread)) h
posted_line m f (Lives g (Has u) c) h = absurd h
posted_line m f (Ended u) h = absurd h

module _ (m : Processors) (n : Mesh) (runs : Runs m n) where
  -- a step is one of the mesh, and a fault is the thread's
  abbrev pub FineMake : Did Processors → Type 0
  FineMake (Went step prints m') = GoesTo n (map step_of (one_or_none step)) (printing prints m')
  FineMake (Failed kind t) = FaultsAt n t kind (line_of m t)

  unmoves : FineMake (Went None [] m)
  unmoves = record {
    mesh = n;
    run = Stays;
    runs = record {
      code = runs.code;
      shelves = runs.shelves;
      output = append_none m.output ∙ runs.output;
      entries = runs.entries;
      lists = runs.lists;
      callers = runs.callers;
      askers = runs.askers;
    };
  }

  module _ (t : ThreadNo) (c : ℕ) (vs : List (Value Address)) (rest : List Message) (first_so : m.makes ≡ Asks t (Make c vs) ∷ rest)
      (f : Fiber) (stands : item_in n.spots t ≡ Some (Posted f)) (by : AsksBy m.code (Make c vs) f) (line : ℕ) (g : Answer Address → Then Address)
      (asks : move m.code f.thread ≡ Does line (NewProcessor c vs) g) where
    abbrev cells : List (Cell Address)
    cells = constructed (construct same_address (class_shape m.code.shapes c) vs)

    in_mesh : move n.code f.thread ≡ Does line (NewProcessor c vs) g
    in_mesh = subst (λ (z : Code). move z f.thread ≡ Does line (NewProcessor c vs) g) runs.code asks

    asking : AskingAt n t (Posted f) f line (NewProcessor c vs) g
    asking = record { at = stands; asks = in_mesh }

    verdict_so : (v : Verdict Address) → verdict (seen_by_makes m) 0 nobody (NewProcessor c vs) ≡ v → verdict n t.processor f (NewProcessor c vs) ≡ v
    verdict_so v e =
        ap (λ (z : Code). verdict (record n { code = z }) 0 nobody (NewProcessor c vs)) (sym runs.code)
        ∙ (ap (λ ss. verdict (record n { code = m.code; shelves = ss }) 0 nobody (NewProcessor c vs)) (sym runs.shelves) ∙ e)

    pub make_bad : (kind : FaultKind) → verdict (seen_by_makes m) 0 nobody (NewProcessor c vs) ≡ Bad kind → FaultsAt n t kind (line_of m t)
    make_bad kind bad =
        let r = item_left IsEntry (tables_of m.all) n.spots runs.entries t (Posted f) stands in
        subst (FaultsAt n t kind) (sym (ap (line_of_entry m) r.1 ∙ (posted_line m f r.0 r.2 ∙ ap line_of_move asks)))
        (ServedBadly f (NewProcessor c vs) g asking (verdict_so (Bad kind) bad))

    module _ (found : Values) (go : verdict (seen_by_makes m) 0 nobody (NewProcessor c vs) ≡ Go found) where
      none_found : found ≡ []
      none_found = room_and _ _ _ _ (construct same_address (class_shape m.code.shapes c) vs) found go

      abbrev pointer : Value Address
      pointer = Ptr (record { processor = length m.all; object = 0 }) 0

      abbrev made_cells : Code → List (Cell Address)
      made_cells z = constructed (construct same_address (class_shape z.shapes c) vs)

      -- the mesh afterwards
      abbrev mesh_to : Code → List Shelf → Values → Mesh
      mesh_to z ss ws = record {
        code = n.code;
        shelves = ss ++ with_new (made_cells z) no_shelf ∷ [];
        spots = put_item (n.spots ++ [] ∷ []) t (Answered ws f);
        holder = n.holder;
        output = n.output ++ [];
      }

      length_map : (all : List Processor) → length (shelves_of all) ≡ length all
      length_map [] = refl
      length_map (p ∷ all) = ap suc (length_map all)

      newest : (ss : List Shelf) → option_map_or (λ (s : Shelf). length s.things) (slice_get (ss ++ no_shelf ∷ []) (length ss)) 0 ≡ 0
      newest ss = ap (λ o. option_map_or (λ (s : Shelf). length s.things) o 0) (get_last ss no_shelf)

      mesh_is : served n t f (NewProcessor c vs) g found ≡ mesh_to m.code (shelves_of m.all) (pointer ∷ [])
      mesh_is =
          served_is n t f (NewProcessor c vs) g found (subst ForksNone in_mesh (moves_fork_none n.code f.thread) (λ z. z))
          (subst (λ (z : Code). holds_none z.shapes f.inside ≡ true) runs.code by.free)
          ∙ (ap (λ ss. record {
            code = n.code;
            shelves = ss;
            spots = put_item (n.spots ++ [] ∷ []) t (Answered (Ptr (record { processor = length n.shelves; object = option_map_or (λ (s : Shelf). length s.things) (slice_get (n.shelves ++ no_shelf ∷ []) (length n.shelves)) 0 }) 0 ∷ found) f);
            holder = n.holder;
            output = n.output ++ [];
          }) (changed_last n.shelves no_shelf (with_new (made_cells n.code)))
          ∙ (ap (λ o. mesh_to n.code n.shelves (Ptr (record { processor = length n.shelves; object = o }) 0 ∷ found)) (newest n.shelves)
          ∙ (ap (λ ws. mesh_to n.code n.shelves (Ptr (record { processor = length n.shelves; object = 0 }) 0 ∷ ws)) none_found
          ∙ (ap (λ ss. mesh_to n.code ss (Ptr (record { processor = length ss; object = 0 }) 0 ∷ [])) (sym runs.shelves)
          ∙ (ap (λ (z : Code). mesh_to z (shelves_of m.all) (Ptr (record { processor = length (shelves_of m.all); object = 0 }) 0 ∷ [])) (sym runs.code)
          ∙ ap (λ i. mesh_to m.code (shelves_of m.all) (Ptr (record { processor = i; object = 0 }) 0 ∷ [])) (length_map m.all))))))

      -- the asker's processor
      entry : (e : Entry) × (item_in (tables_of m.all) t ≡ Some e) × IsEntry e (Posted f)
      entry = item_left IsEntry (tables_of m.all) n.spots runs.entries t (Posted f) stands

      home : (p : Processor) × (slice_get m.all t.processor ≡ Some p)
      home = there m.all t.processor (tables_row (tables_of m.all) t entry.0 entry.1)
        where
          tables_row : (tb : List (List Entry)) (u : ThreadNo) (e : Entry) → item_in tb u ≡ Some e → (row : List Entry) × (slice_get tb u.processor ≡ Some row)
          tables_row tb u e at = let r = both_found (λ (es : List Entry). slice_get es u.thread) (slice_get tb u.processor) e at in (r.0, r.1)

          there : (all : List Processor) (i : ℕ) → (row : List Entry) × (slice_get (tables_of all) i ≡ Some row) → (p : Processor) × (slice_get all i ≡ Some p)
          there [] i r = absurd (none-some r.0 r.1)
          there (p ∷ all) zero r = (p, refl)
          there (p ∷ all) (suc i) r = there all i r

      abbrev reply : Message
      reply = Answers t pointer

      abbrev without_make : Processors
      without_make = record { code = m.code; all = m.all; makes = rest; output = m.output }

      pulls : Pulls m without_make Makes [] (map Mail rest)
      pulls (Hand j) = refl
      pulls (Ready j) = refl
      pulls (OfCell b x) = refl
      pulls (OfLock b) = refl
      pulls (Inbox j) = refl
      pulls (Outbox j) = refl
      pulls Makes = refl

      abbrev received : Processors
      received = record { code = m.code; all = changed m.all t.processor (receive reply); makes = rest; output = m.output }

      all_is : changed m.all t.processor (receive reply) ≡ changed m.all t.processor (λ o. receive reply home.0)
      all_is = changed_alike m.all t.processor _ _ (λ z z_at. ap (receive reply) (same_Some z home.0 (sym z_at ∙ home.1)))

      pushes : Pushes without_make received (Inbox t.processor) (Mail reply)
      pushes = subst (λ all. Pushes without_make (record { code = m.code; all = all; makes = rest; output = m.output }) (Inbox t.processor) (Mail reply)) (sym all_is)
          (subst (λ all. Pushes (record { code = m.code; all = all; makes = rest; output = m.output }) (with_processor without_make t.processor (receive reply home.0)) (Inbox t.processor) (Mail reply)) here_same
          (pushes_in without_make t.processor home.0 home.1 reply home.0))
        where
          here_same : changed m.all t.processor (λ o. home.0) ≡ m.all
          here_same = changed_alike m.all t.processor (λ o. home.0) (λ z. z) (λ z z_at. same_Some home.0 z (sym home.1 ∙ z_at)) ∙ changed_same m.all t.processor

      abbrev after : Processors
      after = made_for t cells rest m

      after_all : changed (m.all ++ new_processor cells ∷ []) t.processor (receive reply) ≡ changed m.all t.processor (receive reply) ++ new_processor cells ∷ []
      after_all = changed_front m.all (new_processor cells ∷ []) t.processor (receive reply) home.0 home.1

      more_lists_so : SameLists (lists received) (lists (record { code = m.code; all = changed m.all t.processor (receive reply) ++ new_processor cells ∷ []; makes = rest; output = m.output }))
      more_lists_so (Hand j) = sym (of_more (changed m.all t.processor (receive reply)) (new_processor cells) j _ refl)
      more_lists_so (Ready j) = sym (of_more (changed m.all t.processor (receive reply)) (new_processor cells) j _ refl)
      more_lists_so (OfCell b x) = sym (of_more (changed m.all t.processor (receive reply)) (new_processor cells) b.processor _ refl)
      more_lists_so (OfLock b) = sym (of_more (changed m.all t.processor (receive reply)) (new_processor cells) b.processor _ refl)
      more_lists_so (Inbox j) = sym (of_more (changed m.all t.processor (receive reply)) (new_processor cells) j _ refl)
      more_lists_so (Outbox j) = sym (of_more (changed m.all t.processor (receive reply)) (new_processor cells) j _ refl)
      more_lists_so Makes = refl

      row : (row : List Spot) × (slice_get n.spots t.processor ≡ Some row) × (slice_get row t.thread ≡ Some (Posted f))
      row = both_found (λ (ps : List Spot). slice_get ps t.thread) (slice_get n.spots t.processor) (Posted f) stands

      spots_is : put_item (n.spots ++ [] ∷ []) t (Answered (pointer ∷ []) f) ≡ put_item n.spots t (Answered (pointer ∷ []) f) ++ [] ∷ []
      spots_is = changed_front n.spots ([] ∷ []) t.processor _ row.0 row.1

      hold_after : HoldLists m.code (lists after) (put_item (n.spots ++ [] ∷ []) t (Answered (pointer ∷ []) f))
      hold_after =
          subst (HoldLists m.code (lists after)) (sym spots_is)
          (same_items m.code (lists after) (put_item n.spots t (Answered (pointer ∷ []) f)) (put_item n.spots t (Answered (pointer ∷ []) f) ++ [] ∷ []) (λ u. sym (item_more (put_item n.spots t (Answered (pointer ∷ []) f)) u))
          (subst (λ all. HoldLists m.code (lists (record { code = m.code; all = all; makes = rest; output = m.output })) (put_item n.spots t (Answered (pointer ∷ []) f))) (sym after_all)
          (same_hold m.code (lists received) (lists (record { code = m.code; all = changed m.all t.processor (receive reply) ++ new_processor cells ∷ []; makes = rest; output = m.output }))
          (put_item n.spots t (Answered (pointer ∷ []) f)) more_lists_so
          (carried_over m.code m n.spots runs.lists Makes [] (map Mail rest) (Mail (Asks t (Make c vs))) (ap (map Mail) first_so) (Posted f) stands without_make received pulls
          (Inbox t.processor) (Mail reply) pushes refl (Answered (pointer ∷ []) f)
          (Inbox t.processor, pointer, refl, record { line = line; ask = NewProcessor c vs; goes = g; asks = asks; plain = refl; values = refl }, refl)))))

      same_field : {X : Type 0} (h : Processor → X) → ((p : Processor) → h (receive reply p) ≡ h p)
          → map h (changed (m.all ++ new_processor cells ∷ []) t.processor (receive reply)) ≡ map h m.all ++ h (new_processor cells) ∷ []
      same_field h e =
          ap (map h) after_all ∙ (map_append h (changed m.all t.processor (receive reply)) (new_processor cells ∷ [])
          ∙ ap (λ xs. xs ++ h (new_processor cells) ∷ []) (unchanged m.all t.processor))
        where
          unchanged : (all : List Processor) (i : ℕ) → map h (changed all i (receive reply)) ≡ map h all
          unchanged [] i = refl
          unchanged (p ∷ all) zero = ap (λ x. x ∷ map h all) (e p)
          unchanged (p ∷ all) (suc i) = ap (λ xs. h p ∷ xs) (unchanged all i)

      tables_after : tables_of after.all ≡ tables_of m.all ++ [] ∷ []
      tables_after = same_field (λ (p : Processor). p.table) (λ p. refl)

      posts_not : (u kid : ThreadNo) (h : Fiber) → item_in n.spots u ≡ Some (Calling kid h) → u ≡ t → ⊥
      posts_not u kid h e same = let d : Posted f ≡ Calling kid h = same_Some (Posted f) (Calling kid h) (sym stands ∙ (ap (item_in n.spots) (sym same) ∙ e)) in cc

      answers_not : (u kid : ThreadNo) (h : Fiber) → item_in (put_item (n.spots ++ [] ∷ []) t (Answered (pointer ∷ []) f)) u ≡ Some (Calling kid h) → u ≡ t → ⊥
      answers_not u kid h e same =
          let d : Answered (pointer ∷ []) f ≡ Calling kid h = same_Some (Answered (pointer ∷ []) f) (Calling kid h)
          (sym (put_found (n.spots ++ [] ∷ []) t (Posted f) (Answered (pointer ∷ []) f) (item_more n.spots t ∙ stands))
          ∙ (ap (item_in (put_item (n.spots ++ [] ∷ []) t (Answered (pointer ∷ []) f))) (sym same) ∙ e)) in cc

      pub make_good : GoesTo n (served_step t (Make c vs) ∷ []) (printing [] after)
      make_good = record {
        mesh = served n t f (NewProcessor c vs) g found;
        run = ThenOn Stays (Serves t f line (NewProcessor c vs) g found (Make c vs) asking refl refl (verdict_so (Go found) go));
        runs = subst (Runs (printing [] after)) (sym mesh_is) (record {
          code = runs.code;
          shelves = same_field (λ (p : Processor). p.shelf) (λ p. refl);
          output = ap (λ z. z ++ []) runs.output;
          entries = subst (λ ts. Pairwise (Pairwise IsEntry) ts (put_item (n.spots ++ [] ∷ []) t (Answered (pointer ∷ []) f))) (sym tables_after)
              (right_put IsEntry (tables_of m.all ++ [] ∷ []) (n.spots ++ [] ∷ []) t (Answered (pointer ∷ []) f)
              (λ e e_at. posted_entry f (pointer ∷ []) e (subst (λ z. IsEntry z (Posted f)) (same_Some entry.0 e (sym entry.1 ∙ (sym (item_more (tables_of m.all) t) ∙ e_at))) entry.2))
              (pairwise_push (Pairwise IsEntry) (tables_of m.all) n.spots [] [] runs.entries tt));
          lists = hold_after;
          callers = λ u kid e.
              let r = runs.callers u kid (sym (ap caller_of (ap (λ ts. item_in ts kid) tables_after ∙ item_more (tables_of m.all) kid)) ∙ e) in
              (r.0, put_elsewhere (n.spots ++ [] ∷ []) t u (Answered (pointer ∷ []) f) (posts_not u kid r.0 r.1) ∙ (item_more n.spots u ∙ r.1));
          askers = λ u kid h e.
              ap caller_of (ap (λ ts. item_in ts kid) tables_after ∙ item_more (tables_of m.all) kid)
              ∙ runs.askers u kid h (sym (item_more n.spots u) ∙ (sym (put_elsewhere (n.spots ++ [] ∷ []) t u (Answered (pointer ∷ []) f) (answers_not u kid h e)) ∙ e));
        });
      }

  make_verdict : (t : ThreadNo) (c : ℕ) (vs : List (Value Address)) (rest : List Message) → m.makes ≡ Asks t (Make c vs) ∷ rest → (v : Verdict Address)
      → verdict (seen_by_makes m) 0 nobody (NewProcessor c vs) ≡ v → FineMake (makes_so t c vs rest m v)
  make_verdict t c vs rest first_so v go = by (asking_is m.code (lists m) n.spots runs.lists Makes [] (map Mail rest) t (Make c vs) (ap (map Mail) first_so)) v go
    where
      by : IsAsking m.code (lists m) n.spots runs.lists Makes [] (map Mail rest) t (Make c vs) → (w : Verdict Address) → verdict (seen_by_makes m) 0 nobody (NewProcessor c vs) ≡ w
          → FineMake (makes_so t c vs rest m w)
      by (IsDelayed b x f stands e) w d = let z : Makes ≡ OfCell b x = e in absurd (cc)
      by (IsPosted f stands posts lies) Hold d = unmoves
      by (IsPosted f stands posts lies) (Go found) d =
          let r = asks_so (move m.code f.thread) (Make c vs) posts.posts in
          let same : r.1 ≡ NewProcessor c vs = ask_is r.1 (Make c vs) r.4 in
          make_good t c vs rest first_so f stands posts r.0 r.2 (r.3 ∙ ap (λ z. Does r.0 z r.2) same) found d
      by (IsPosted f stands posts lies) (Bad kind) d =
          let r = asks_so (move m.code f.thread) (Make c vs) posts.posts in
          let same : r.1 ≡ NewProcessor c vs = ask_is r.1 (Make c vs) r.4 in
          make_bad t c vs rest first_so f stands posts r.0 r.2 (r.3 ∙ ap (λ z. Does r.0 z r.2) same) kind d

  make_first : (messages : List Message) → m.makes ≡ messages → FineMake (makes_first messages m)
  make_first [] e = unmoves
  make_first (Answers t v ∷ rest) e = unmoves
  make_first (Asks t (Get a) ∷ rest) e = unmoves
  make_first (Asks t (Put a v) ∷ rest) e = unmoves
  make_first (Asks t (Call h o vs) ∷ rest) e = unmoves
  make_first (Asks t (Cast h o vs) ∷ rest) e = unmoves
  make_first (Asks t (Make c vs) ∷ rest) e = make_verdict t c vs rest e (verdict (seen_by_makes m) 0 nobody (NewProcessor c vs)) refl

  pub made_fine : FineMake (made m)
  made_fine = make_first m.makes refl
