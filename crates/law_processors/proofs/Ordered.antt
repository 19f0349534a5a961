-- Each move leaves all processors in order.
use Rattle.law_processors.specs.Alone.{Label}
use Rattle.std.proofs.Common.{◌≡◌, ◌⊎◌, inl, inr, ⊎_elim, ℕ, zero, suc, List, [], ◌∷◌, ◌++◌, map, Option, Some, None, refl, sym, ap, ◌∙◌, subst, ℤ}
use Rattle.std.specs.Option.{option_and_then}
use Rattle.std.specs.Prelude.{slice_get}
use Rattle.std.proofs.lemmas.Option.{none-some, same_Some}
use Rattle.cc_ops.specs.Values.{Value, Cell, Ptr}
use Rattle.cc_ops.specs.Classes.{construct}
use Rattle.cc_ops.specs.Machine.{Address, same_address}
use Rattle.cc_ops.specs.declared.number.ThreadNo.{ThreadNo}
use Rattle.cc_ops.specs.Shelves.{changed}
use Rattle.cc_core.specs.Asks.{NewProcessor}
use Rattle.cc_core.specs.Core.{Program, class_shape}
use Rattle.cc_core.specs.Numbers.{Post, Get, Put, Call, Cast, Make}
use Rattle.cc_core.specs.Effects.{constructed}
use Rattle.cc_core.specs.Needs.{Verdict, Go, Hold, Bad}
use Rattle.cc_code.specs.Code.{Code}
use Rattle.law_mesh.specs.Spots.{Fiber, Lock, Active, Parked, Called, Mesh, item_in, verdict}
use Rattle.law_mesh.specs.Queues.{Queue, Hand, OfCell, OfLock, Ready, Inbox, Message, Asks, Answers, Item, Itself, Mail, AsksAt}
use Rattle.law_processors.specs.Processors.{Waiter, Asked, Goes, Joins, Asking, Has, Entry, Lives, Ended, Locked, Processor, Processors, IsEntry, lists, lock_items, waiter_item, Runs, with_processor}
use Rattle.law_processors.specs.Alone.{Did, Went, Failed, moved, served, serves, send, nobody}
use Rattle.law_processors.specs.Machine.{Moves, TakesUp, PutsBack, MovesOn, ServesFirst, ServesWoken, Delivers, Run, Stays, in_hand, at_back, without_ready, goes_to, receive, without_first, arrives, goes_off, delivered, new_processor, made_for, makes_so, makes_first, made, seen_by_makes, to_newest}
use Rattle.law_processors.specs.Machine as machine
use Rattle.law_processors.specs.Orderly.{IsIn, GoesInto, CellsWait, BranchesWait, IsOrderly}
use Rattle.law_processors.specs.Whole.{root, first_processors}
use Rattle.law_mesh.proofs.Queues.{ready_is, IsReady, IsActive, HasValue, WaitsFor, WaitsIn, asking_is, IsAsking, IsPosted, IsDelayed}
use Rattle.law_processors.proofs.Edits.{here as here_now, in_hand_now, in_ready_now, in_inbox_now}
use Rattle.law_processors.proofs.Base.{row_at, entry_of_spot}
use Rattle.law_processors.proofs.Pieces.{At, at_first, no}
use Rattle.law_processors.proofs.Cells.{CellsAfter, moved_cells, serves_cells, inbox_cells}
use Rattle.law_processors.proofs.Joined.{BranchesAfter, moved_wait, serves_wait, inbox_wait}
use Rattle.law_processors.proofs.Holders.{LocksAfter, moved_locks, serves_locks, inbox_locks, ready_locks, up_taken, up_back, up_without}
use Rattle.law_processors.proofs.Whole.{machine_runs}

-- ---- all of a list

abbrev pub OrderlyAll : Code → List Processor → Type 0
OrderlyAll code all = (q : ℕ) (p : Processor) → slice_get all q ≡ Some p → IsOrderly code q p

changed_at : {X : Type 0} (xs : List X) (q i : ℕ) (f : X → X) (r : X) → slice_get (changed xs q f) i ≡ Some r
    → ((x : X) × (i ≡ q) × (slice_get xs q ≡ Some x) × (r ≡ f x)) ⊎ (slice_get xs i ≡ Some r)
changed_at [] q i f r e = inr e
changed_at (z ∷ zs) zero zero f r e = inl (z, refl, refl, sym (same_Some (f z) r e))
changed_at (z ∷ zs) zero (suc i) f r e = inr e
changed_at (z ∷ zs) (suc q) zero f r e = inr e
changed_at {X = X} (z ∷ zs) (suc q) (suc i) f r e = ⊎_elim
    (λ (g : (x : X) × (i ≡ q) × (slice_get zs q ≡ Some x) × (r ≡ f x)). inl (g.0, ap suc g.1, g.2, g.3))
    (λ (g : slice_get zs i ≡ Some r). inr g)
    (changed_at zs q i f r e)

pub all_changed : (code : Code) (all : List Processor) (q : ℕ) (f : Processor → Processor) → ((x : Processor) → slice_get all q ≡ Some x → IsOrderly code q (f x)) → OrderlyAll code all
    → OrderlyAll code (changed all q f)
all_changed code all q f here h i r e = ⊎_elim
    (λ (g : (x : Processor) × (i ≡ q) × (slice_get all q ≡ Some x) × (r ≡ f x)).
    subst (λ z. IsOrderly code i z) (sym g.3) (subst (λ j. IsOrderly code j (f g.0)) (sym g.1) (here g.0 g.2)))
    (λ (g : slice_get all i ≡ Some r). h i r g)
    (changed_at all q i f r e)

all_more : (code : Code) (all : List Processor) (x : Processor) → ((q : ℕ) → IsOrderly code q x) → OrderlyAll code all → OrderlyAll code (all ++ x ∷ [])
all_more code all x new h i r e = by all i (h i r) e
  where
    by : (ps : List Processor) (j : ℕ) → (slice_get ps j ≡ Some r → IsOrderly code i r) → slice_get (ps ++ x ∷ []) j ≡ Some r → IsOrderly code i r
    by [] zero old d = subst (IsOrderly code i) (same_Some x r d) (new i)
    by [] (suc j) old d = absurd (none-some r d)
    by (p ∷ ps) zero old d = old d
    by (p ∷ ps) (suc j) old d = by ps j old d

-- with other messages
same_mail : (code : Code) (q : ℕ) (p p' : Processor) → p'.hand ≡ p.hand → p'.ready ≡ p.ready → p'.table ≡ p.table → p'.shelf ≡ p.shelf → p'.cells ≡ p.cells → p'.locks ≡ p.locks
    → IsOrderly code q p → IsOrderly code q p'
same_mail code q p p' hand ready table shelf cells locks h = record {
  cells = subst (λ c. CellsWait (record p' { cells = c })) (sym cells) (subst (λ s. CellsWait (record p' { shelf = s; cells = p.cells })) (sym shelf) h.cells);
  branches = subst (λ es. BranchesWait code q (record p' { table = es })) (sym table) h.branches;
  locks = ready_locks code p p' table shelf locks
      (λ i u. ⊎_elim (λ (z : p.hand ≡ Some i). inl (hand ∙ z)) (λ (z : IsIn i p.ready). inr (subst (IsIn i) (sym ready) z)) u) h.locks;
}

-- ---- who waits for an object is about to go in

module _ (m : Processors) (n : Mesh) (runs : Runs m n) (q : ℕ) (p : Processor) (there : slice_get m.all q ≡ Some p) where
  a : At m q p there p m.output n
  a = at_first m q p there n runs

  lock_entry : (e : Entry) (b : Address) (f : Fiber) → IsEntry e (Parked (Lock b) f) → (c : Option ThreadNo) × (e ≡ Lives f Goes c)
  lock_entry (Lives g Goes c) b f h = (c, ap (λ z. Lives z Goes c) h)
  lock_entry (Lives g Joins c) b f h = absurd h
  lock_entry (Lives g Asking c) b f h = absurd h
  lock_entry (Lives g (Has v) c) b f h = absurd h
  lock_entry (Ended v) b f h = absurd h

  later : (k : ℕ) → p.hand ≡ Some k → (o : ℕ) (l : Locked) (i : ℕ) (is : List ℕ) → p.locks o ≡ Some l → l.waiters ≡ i ∷ is → (i ≡ k → ⊥) × GoesInto m.code p i o
  later k hand o l i is locks waiters =
      by (ready_is m.code (lists (with_processor m q p)) n.spots a.hold (OfLock place) [] (map (λ z. Itself (record { processor = q; thread = z })) is) (no m q p there i) now)
    where
      place : Address
      place = record { processor = q; object = o }

      now : lists (with_processor m q p) (OfLock (record { processor = q; object = o })) ≡ [] ++ Itself (no m q p there i) ∷ map (λ z. Itself (record { processor = q; thread = z })) is
      now = here_now m q p there p (λ r. lock_items q (r.locks o)) ∙ (ap (lock_items q) locks ∙ ap (map (λ z. Itself (record { processor = q; thread = z }))) waiters)

      not_hand : (b : Address) (f : Fiber) → item_in n.spots (no m q p there i) ≡ Some (Parked (Lock b) f) → i ≡ k → ⊥
      not_hand b f stands same =
          at (ready_is m.code (lists (with_processor m q p)) n.spots a.hold (Hand q) [] [] (no m q p there k) (in_hand_now m q p there k p hand))
        where
          both : item_in n.spots (no m q p there k) ≡ Some (Parked (Lock b) f)
          both = ap (λ z. item_in n.spots (no m q p there z)) (sym same) ∙ stands

          at : IsReady m.code (lists (with_processor m q p)) n.spots a.hold (Hand q) [] [] (no m q p there k) → ⊥
          at (IsActive g e h) = let x : Parked (Lock b) f ≡ Active g = same_Some (Parked (Lock b) f) (Active g) (sym both ∙ e) in cc
          at (HasValue g kid v e h c) = let x : Parked (Lock b) f ≡ Called kid v g = same_Some (Parked (Lock b) f) (Called kid v g) (sym both ∙ e) in cc
          at (WaitsFor c x g e d h) = let y : Hand q ≡ OfCell c x = d in cc
          at (WaitsIn c g e d h goes) = let y : Hand q ≡ OfLock c = d in cc

      by : IsReady m.code (lists (with_processor m q p)) n.spots a.hold (OfLock (record { processor = q; object = o })) [] (map (λ z. Itself (record { processor = q; thread = z })) is) (no m q p there i)
          → (i ≡ k → ⊥) × GoesInto m.code p i o
      by (IsActive f stands h) = absurd h
      by (HasValue f kid v stands h c) = absurd h
      by (WaitsFor b x f stands d h) = let y : OfLock (record { processor = q; object = o }) ≡ OfCell b x = d in absurd (cc)
      by (WaitsIn b f stands d h goes) =
          let y : OfLock (record { processor = q; object = o }) ≡ OfLock b = d in
          let same : record { processor = q; object = o } ≡ b = cc in
          let r = entry_of_spot m q p there p.shelf p.table m.output n a.base (no m q p there i) (Parked (Lock b) f) stands in
          let e = lock_entry r.0 b f r.2 in (
            not_hand b f stands,
            record {
              fiber = f;
              caller = e.0;
              entry = sym (ap (λ x. option_and_then (λ (es : List Entry). slice_get es i) x) (row_at m q p there p.table)) ∙ (r.1 ∙ ap (λ z. Some z) e.1);
              line = goes.line;
              function = goes.function;
              object = b;
              cell = goes.cell;
              values = goes.values;
              next = goes.next;
              asks = goes.asks;
              atomic = goes.atomic;
              is = ap (λ (z : Address). z.object) (sym same);
            },
          )

  -- a Get that has come is of this processor
  get_here : (k : Queue) (front back : List Item) (t : ThreadNo) (b : Address) (x : ℕ) → lists (with_processor m q p) k ≡ front ++ Mail (Asks t (Get (Ptr b x))) ∷ back
      → (k ≡ Inbox q) ⊎ (k ≡ Ready q) → b.processor ≡ q
  get_here k front back t b x at where_is = by (asking_is m.code (lists (with_processor m q p)) n.spots a.hold k front back t (Get (Ptr b x)) at)
    where
      by : IsAsking m.code (lists (with_processor m q p)) n.spots a.hold k front back t (Get (Ptr b x)) → b.processor ≡ q
      by (IsPosted f stands posts lies) = ⊎_elim
          (λ (e : k ≡ Inbox q). same_Some b.processor q (subst (asks_at) e lies))
          (λ (e : k ≡ Ready q). same_Some b.processor q (subst (asks_at) e lies))
          where_is
        where
          asks_at : Queue → Type 0
          asks_at l = AsksAt (Get (Ptr b x)) l
      by (IsDelayed c y f stands d) = ⊎_elim
          (λ (e : k ≡ Inbox q). let z : Inbox q ≡ OfCell c y = sym e ∙ d in absurd (cc))
          (λ (e : k ≡ Ready q). let z : Ready q ≡ OfCell c y = sym e ∙ d in absurd (cc))
          where_is

  module _ (h : IsOrderly m.code q p) where
    abbrev pub OrderlyAfter : Did Processor → Type 0
    OrderlyAfter (Went step prints p') = IsOrderly m.code q p'
    OrderlyAfter (Failed kind t) = Unit {0}

    all_three : (did : Did Processor) → CellsAfter did → BranchesAfter m.code q did → LocksAfter m.code did → OrderlyAfter did
    all_three (Went step prints p') c b l = record { cells = c; branches = b; locks = l }
    all_three (Failed kind t) c b l = tt

    moved_orderly : OrderlyAfter (moved m.code q p)
    moved_orderly = all_three (moved m.code q p) (moved_cells m.code q p h.cells) (moved_wait m.code q p h.branches) (moved_locks m.code q p h.locks later)

    served_orderly : OrderlyAfter (served m.code q p)
    served_orderly = all_three (served m.code q p)
        (inbox_cells m.code q p.inbox p h.cells (λ t rest b x e. get_here (Inbox q) [] (map Mail rest) t b x (in_inbox_now m q p there (Asks t (Get (Ptr b x))) rest p e) (inl refl)))
        (inbox_wait m.code q p.inbox p h.branches) (inbox_locks m.code q p.inbox p h.locks)

    woken_orderly : (front : List Waiter) (t : ThreadNo) (post : Post) (back : List Waiter) → p.ready ≡ front ++ Asked t post ∷ back
        → OrderlyAfter (serves m.code q t post (without_ready (front ++ back) p) p)
    woken_orderly front t post back e = all_three (serves m.code q t post (without_ready (front ++ back) p) p)
        (serves_cells m.code q t post (without_ready (front ++ back) p) p h.cells h.cells
        (λ b x s. get_here (Ready q) (map (waiter_item q) front) (map (waiter_item q) back) t b x
        (in_ready_now m q p there front (Asked t post) back p e ∙ ap (λ z. map (waiter_item q) front ++ Mail (Asks t z) ∷ map (waiter_item q) back) s) (inr refl)))
        (serves_wait m.code q t post (without_ready (front ++ back) p) p refl h.branches)
        (serves_locks m.code q t post (without_ready (front ++ back) p) p
        (ready_locks m.code p (without_ready (front ++ back) p) refl refl refl
        (λ i u. ⊎_elim (λ (z : p.hand ≡ Some i). inl z) (λ (z : IsIn i p.ready). inr (up_without front t post back i (subst (IsIn i) e z))) u) h.locks) h.locks)

-- ---- delivery and Makes

goes_off_orderly : (m : Processors) (q : ℕ) (message : Message) (o : Option ℕ) → OrderlyAll m.code m.all → OrderlyAll m.code (goes_off m q message o).all
goes_off_orderly m q message None h = h
goes_off_orderly m q message (Some r) h = by (slice_get m.all r) refl
  where
    by : (o : Option Processor) → slice_get m.all r ≡ o → OrderlyAll m.code (arrives m q r message o).all
    by None e = all_changed m.code m.all q (send message) (λ x there. same_mail m.code q x (send message x) refl refl refl refl refl refl (h q x there)) h
    by (Some p) e = all_changed m.code m.all r (λ o. receive message p) (λ x there. same_mail m.code r p (receive message p) refl refl refl refl refl refl (h r p e)) h

new_orderly : (code : Code) (cells : List (Cell Address)) (q : ℕ) → IsOrderly code q (new_processor cells)
new_orderly code cells q = record {
  cells = λ o x. inl refl;
  branches = λ i f c e. absurd (none-some (Lives f Joins c) e);
  locks = λ o l e. absurd (none-some l e);
}

abbrev pub OrderlyMade : Code → Did Processors → Type 0
OrderlyMade code (Went step prints m') = OrderlyAll code m'.all
OrderlyMade code (Failed kind t) = Unit {0}

makes_so_orderly : (m : Processors) → OrderlyAll m.code m.all → (t : ThreadNo) (c : ℕ) (vs : List (Value Address)) (rest : List Message) (v : Verdict Address) → OrderlyMade m.code (makes_so t c vs rest m v)
makes_so_orderly m h t c vs rest (Go found) =
    let cells = constructed (construct same_address (class_shape m.code.shapes c) vs) in
    let more = all_more m.code m.all (new_processor cells) (new_orderly m.code cells) h in
    all_changed m.code (m.all ++ new_processor cells ∷ []) t.processor (receive (Answers t (to_newest m)))
    (λ x there. same_mail m.code t.processor x (receive (Answers t (to_newest m)) x) refl refl refl refl refl refl (more t.processor x there)) more
makes_so_orderly m h t c vs rest Hold = h
makes_so_orderly m h t c vs rest (Bad kind) = tt

made_orderly : (m : Processors) → OrderlyAll m.code m.all → (messages : List Message) → OrderlyMade m.code (makes_first messages m)
made_orderly m h [] = h
made_orderly m h (Answers t v ∷ rest) = h
made_orderly m h (Asks t (Get a) ∷ rest) = h
made_orderly m h (Asks t (Put a v) ∷ rest) = h
made_orderly m h (Asks t (Call f o vs) ∷ rest) = h
made_orderly m h (Asks t (Cast f o vs) ∷ rest) = h
made_orderly m h (Asks t (Make c vs) ∷ rest) = makes_so_orderly m h t c vs rest (verdict (seen_by_makes m) 0 nobody (NewProcessor c vs))

-- ---- moves

module _ (m : Processors) (n : Mesh) (runs : Runs m n) (h : OrderlyAll m.code m.all) where
  one_changed : (q : ℕ) (p' : Processor) → IsOrderly m.code q p' → OrderlyAll m.code (changed m.all q (λ o. p'))
  one_changed q p' o = all_changed m.code m.all q (λ z. p') (λ x there. o) h

  pub moves_orderly : (step : Option Label) (m' : Processors) → Moves m step m' → OrderlyAll m'.code m'.all
  moves_orderly _ _ (TakesUp q p front i back there hand ready) =
      let o = h q p there in
      one_changed q (in_hand i (front ++ back) p) (record {
        cells = o.cells;
        branches = o.branches;
        locks = ready_locks m.code p (in_hand i (front ++ back) p) refl refl refl (up_taken p front i back hand ready) o.locks;
      })
  moves_orderly _ _ (PutsBack q p i there hand) =
      let o = h q p there in
      one_changed q (at_back i p) (record {
        cells = o.cells;
        branches = o.branches;
        locks = ready_locks m.code p (at_back i p) refl refl refl (λ j u. inr (up_back p i hand j u)) o.locks;
      })
  moves_orderly _ _ (MovesOn q p i step prints p' there hand e) =
      one_changed q p' (subst (OrderlyAfter m n runs q p there (h q p there)) e (moved_orderly m n runs q p there (h q p there)))
  moves_orderly _ _ (ServesFirst q p message rest step prints p' there first e) =
      one_changed q p' (subst (OrderlyAfter m n runs q p there (h q p there)) e (served_orderly m n runs q p there (h q p there)))
  moves_orderly _ _ (ServesWoken q p front t post back step prints p' there ready e) =
      one_changed q p' (subst (OrderlyAfter m n runs q p there (h q p there)) e (woken_orderly m n runs q p there (h q p there) front t post back ready))
  moves_orderly _ _ (machine.Makes message rest step prints m' first e) = made_code step prints m' e
    where
      made_code : (step : Option Label) (prints : List ℕ) (x : Processors) → made m ≡ Went step prints x → OrderlyAll x.code x.all
      made_code step prints x d = subst (λ c. OrderlyAll c x.all) (same_code step prints x d) (subst (OrderlyMade m.code) d (made_orderly m h m.makes))
        where
          CodeIs : Did Processors → Type 0
          CodeIs (Went s pr y) = m.code ≡ y.code
          CodeIs (Failed k t) = Unit {0}

          same_so : (t : ThreadNo) (c : ℕ) (vs : List (Value Address)) (rest : List Message) (v : Verdict Address) → CodeIs (makes_so t c vs rest m v)
          same_so t c vs rest (Go found) = refl
          same_so t c vs rest Hold = refl
          same_so t c vs rest (Bad kind) = tt

          same_first : (ms : List Message) → CodeIs (makes_first ms m)
          same_first [] = refl
          same_first (Answers t v ∷ rest) = refl
          same_first (Asks t (Get a) ∷ rest) = refl
          same_first (Asks t (Put a v) ∷ rest) = refl
          same_first (Asks t (Call f o vs) ∷ rest) = refl
          same_first (Asks t (Cast f o vs) ∷ rest) = refl
          same_first (Asks t (Make c vs) ∷ rest) = same_so t c vs rest (verdict (seen_by_makes m) 0 nobody (NewProcessor c vs))

          same_code : (s : Option Label) (pr : List ℕ) (y : Processors) → made m ≡ Went s pr y → m.code ≡ y.code
          same_code s pr y g = subst CodeIs g (same_first m.makes)
  moves_orderly _ _ (Delivers q p front message back there out alike) =
      goes_off_code (goes_to message)
    where
      first : OrderlyAll m.code (changed m.all q (λ o. without_first (front ++ back) p))
      first = one_changed q (without_first (front ++ back) p) (same_mail m.code q p (without_first (front ++ back) p) refl refl refl refl refl refl (h q p there))

      goes_off_code : (o : Option ℕ) → OrderlyAll (goes_off (with_processor m q (without_first (front ++ back) p)) q message o).code (goes_off (with_processor m q (without_first (front ++ back) p)) q message o).all
      goes_off_code o = subst (λ c. OrderlyAll c (goes_off (with_processor m q (without_first (front ++ back) p)) q message o).all) (same_code o)
          (goes_off_orderly (with_processor m q (without_first (front ++ back) p)) q message o first)
        where
          same_code : (z : Option ℕ) → m.code ≡ (goes_off (with_processor m q (without_first (front ++ back) p)) q message z).code
          same_code None = refl
          same_code (Some r) = by (slice_get (changed m.all q (λ o. without_first (front ++ back) p)) r)
            where
              by : (w : Option Processor) → m.code ≡ (arrives (with_processor m q (without_first (front ++ back) p)) q r message w).code
              by None = refl
              by (Some y) = refl

pub run_orderly : (m : Processors) (n : Mesh) → Runs m n → OrderlyAll m.code m.all → (steps : List Label) (m' : Processors) → Run m steps m' → OrderlyAll m'.code m'.all
run_orderly m n runs h _ _ Stays = h
run_orderly m n runs h _ m' (machine.Then {a = a} {step = step} {m1 = m1} r v) =
    let g = machine_runs m n runs a m1 r in moves_orderly m1 g.mesh g.runs (run_orderly m n runs h a m1 r) step m' v

pub first_orderly : (p : Program) (is : List ℤ) → OrderlyAll (first_processors p is).code (first_processors p is).all
first_orderly p is zero r e = subst (IsOrderly (first_processors p is).code 0) (same_Some (root p is) r e) (record {
  cells = λ o x. inl refl;
  branches = λ i f c d. absurd (none_joins i f c d);
  locks = λ o l d. absurd (none-some l d);
})
  where
    none_joins : (i : ℕ) (f : Fiber) (c : Option ThreadNo) → slice_get (root p is).table i ≡ Some (Lives f Joins c) → ⊥
    none_joins zero f c d = let x = same_Some _ (Lives f Joins c) d in bad x
      where
        bad : {g : Fiber} {b : Option ThreadNo} → Lives g Goes b ≡ Lives f Joins c → ⊥
        bad {g = g} {b = b} x = let y : Lives g Goes b ≡ Lives f Joins c = x in let z : Goes ≡ Joins = cc in cc
    none_joins (suc i) f c d = none-some (Lives f Joins c) d
first_orderly p is (suc q) r e = absurd (none-some r e)
