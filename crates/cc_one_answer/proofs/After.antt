-- What a move of one thread leaves of what another needs.
use Rattle.std.proofs.Common.{◌≡◌, ◌≢◌, ◌⊎◌, ℕ, ◌+◌, ◌<◌, ◌≤◌, true, false, cond, List, [], ◌∷◌, ◌++◌, length, Option, Some, None, refl, sym, ap, subst, ◌∙◌}
use Rattle.std.proofs.Common.{⊎_elim, inl, inr, arith}
use Rattle.std.specs.Prelude.{slice_get, slice_set, ◌&&◌}
use Rattle.std.proofs.lemmas.Bool.{cases_Bool}
use Rattle.std.specs.FinMap as fin
use Rattle.global_ptr.specs.declared.ends.FaultKind.{FaultKind}
use Rattle.global_ptr.specs.declared.ends.FaultKind.TheVariants.{SyncTwice, ThreadsFull, StoreFull, ProcessorsFull}
use Rattle.cc_ops.specs.Values.{Void, Int, Null, Ptr, Plain, Empty, Full, Gives, Fails}
use Rattle.cc_ops.specs.Cells.{written}
use Rattle.cc_core.specs.Names.{Name, Map, Value, Cell, count, added}
use Rattle.cc_core.specs.Core.{Program, Shapes, function_shape}
use Rattle.cc_core.specs.Config.{Config, Thread, State, Live, Ended, Object, cell, cells_of, home, home_of, write_all, count_slots, count_threads}
use Rattle.cc_core.specs.Needs.{Need, Known, Filled, Unfilled, AllCells, Object as ObjectNeed, Free, Done, Deeper, Threads, ThreadAt}
use Rattle.cc_core.specs.Needs.{Slots, FirstSlots, Processor, Constructs, Verdict, Go, Hold, Bad, room, check, and_also, check_all, read, writable}
use Rattle.cc_core.specs.Needs.{all_in, any_holds, ended, all_ended, most_threads, most_slots, most_processors}
use Rattle.cc_core.specs.Steps.{Change, settle, settle_all, apply}
use Rattle.cc_core.specs.Laws.{NamesAreFree}
use Rattle.cc_core.proofs.Maps.{cases_name, get_same, get_other, IsKey, puts_other, count-added}
use Rattle.cc_core.proofs.Fresh.{settled_key_is}
use Rattle.cc_one_answer.specs.Apart.{AnyNeed, EachNeed, LooksAt, LooksThrough, IsThere, Leads}
use Rattle.cc_one_answer.proofs.Swaps.{IsOne, IsWriting, write_is, with_cell, get_set_same, get_set_other, cases_number}
use Rattle.cc_one_answer.proofs.Adds.{IsLost, room_case}

-- a name that t, which is l, gives to an object next: its own, or the copy of its next branch
abbrev pub IsMade : Name → Thread → Name → Type 0
IsMade t l o = ((i : ℕ) × (o ≡ i ∷ t) × (l.objects ≤ i)) ⊎ (o ≡ 0 ∷ l.threads ∷ t)

-- a change that thread t, which is l, makes of s
pub record IsChange (s : Config) (t : Name) (c : Change) : Type 0 where
  pub l : Thread
  pub live : fin.get s.threads t ≡ Some (Live l)
  pub threads : (u : Name) → IsKey u c.new → (i : ℕ) × (u ≡ i ∷ t) × (l.threads ≤ i)
  pub objects : (o : Name) → IsKey o c.effect.objects → IsMade t l o
  pub writes : IsWriting s.objects c.effect.writes

-- a verdict later on: the same; or it was that the thread waits; or what was met was lost; or a fault stays one
pub data Later (v w : Verdict Name) (Lost : Type 0) : Type 0 where
  Same : v ≡ w → Later v w Lost
  Waited : v ≡ Hold → Later v w Lost
  Lacks : (found : List Value) → v ≡ Go found → (kind : FaultKind) → w ≡ Bad kind → Lost → Later v w Lost
  StaysBad : (kind : FaultKind) → v ≡ Bad kind → (other : FaultKind) → w ≡ Bad other → Later v w Lost

lacks_both : (v w vs ws : Verdict Name) (L M : Type 0) (found : List Value) → v ≡ Go found → (kind : FaultKind) → w ≡ Bad kind → L
    → Later (and_also v vs) (and_also w ws) (L ⊎ M)
lacks_both v w (Go b) ws L M found e kind f l = Lacks (found ++ b) (ap (λ z. and_also z (Go b)) e) kind (ap (λ z. and_also z ws) f) (inl l)
lacks_both v w Hold ws L M found e kind f l = Waited (ap (λ z. and_also z Hold) e)
lacks_both v w (Bad j) ws L M found e kind f l = StaysBad j (ap (λ z. and_also z (Bad j)) e) kind (ap (λ z. and_also z ws) f)

same_lacks : (v vs ws : Verdict Name) (L M : Type 0) (found : List Value) → vs ≡ Go found → (kind : FaultKind) → ws ≡ Bad kind → M
    → Later (and_also v vs) (and_also v ws) (L ⊎ M)
same_lacks (Go a) vs ws L M found e kind f m = Lacks (a ++ found) (ap (and_also (Go a)) e) kind (ap (and_also (Go a)) f) (inr m)
same_lacks Hold vs ws L M found e kind f m = Same refl
same_lacks (Bad j) vs ws L M found e kind f m = Same refl

same_bad : (v vs ws : Verdict Name) (L : Type 0) (kind : FaultKind) → vs ≡ Bad kind → (other : FaultKind) → ws ≡ Bad other
    → Later (and_also v vs) (and_also v ws) L
same_bad (Go a) vs ws L kind e other f = StaysBad kind (ap (and_also (Go a)) e) other (ap (and_also (Go a)) f)
same_bad Hold vs ws L kind e other f = Same refl
same_bad (Bad j) vs ws L kind e other f = Same refl

same_waited : (v w vs : Verdict Name) (L : Type 0) → vs ≡ Hold → Later (and_also v vs) (and_also v w) L
same_waited (Go a) w vs L e = Waited (ap (and_also (Go a)) e)
same_waited Hold w vs L e = Same refl
same_waited (Bad j) w vs L e = Same refl

later_both : (v w vs ws : Verdict Name) (L M : Type 0) → Later v w L → Later vs ws M → Later (and_also v vs) (and_also w ws) (L ⊎ M)
later_both v w vs ws L M (Waited e) b = Waited (ap (λ z. and_also z vs) e)
later_both v w vs ws L M (Lacks found e kind f l) b = lacks_both v w vs ws L M found e kind f l
later_both v w vs ws L M (StaysBad kind e other f) b =
    StaysBad kind (ap (λ z. and_also z vs) e) other (ap (λ z. and_also z ws) f)
later_both v w vs ws L M (Same e) (Same f) = Same (ap (λ z. and_also z vs) e ∙ ap (and_also w) f)
later_both v w vs ws L M (Same e) (Waited f) =
    subst (λ z. Later (and_also v vs) (and_also z ws) (L ⊎ M)) e (same_waited v ws vs (L ⊎ M) f)
later_both v w vs ws L M (Same e) (Lacks found f kind g m) =
    subst (λ z. Later (and_also v vs) (and_also z ws) (L ⊎ M)) e (same_lacks v vs ws L M found f kind g m)
later_both v w vs ws L M (Same e) (StaysBad kind f other g) =
    subst (λ z. Later (and_also v vs) (and_also z ws) (L ⊎ M)) e (same_bad v vs ws (L ⊎ M) kind f other g)

room_later : (made more n most : ℕ) (kind : FaultKind) → made ≤ more
    → Later (room made n most kind) (room more n most kind) ((made + n ≤ most) × (most < more + n))
room_later made more n most kind le = ⊎_elim
    (λ (a : (room made n most kind ≡ Go []) × (made + n ≤ most)). ⊎_elim
    (λ (b : (room more n most kind ≡ Go []) × (more + n ≤ most)). Same (a.0 ∙ sym b.0))
    (λ (b : (room more n most kind ≡ Bad kind) × (most < more + n)). Lacks [] a.0 kind b.0 (a.1, b.1))
    (room_case more n most kind))
    (λ (a : (room made n most kind ≡ Bad kind) × (most < made + n)). ⊎_elim
    (λ (b : (room more n most kind ≡ Go []) × (more + n ≤ most)). let x = a.1 in let y = b.1 in absurd (omega (arith, le, x, y)))
    (λ (b : (room more n most kind ≡ Bad kind) × (most < more + n)). StaysBad kind a.0 kind b.0)
    (room_case more n most kind))
    (room_case made n most kind)

threads_grow : (new : List (Name × Thread)) (m : Map ℕ) (q : Name) → count m q ≤ count (count_threads m new) q
threads_grow [] m q = omega arith
threads_grow (e ∷ es) m q =
    let a = count-added m e.1.home q 1 in
    let b = threads_grow es (added m e.1.home 1) q in
    omega (arith, a, b)

slots_grow : (new : List (Name × Object)) (m : Map ℕ) (q : Name) → count m q ≤ count (count_slots m new) q
slots_grow [] m q = omega arith
slots_grow (e ∷ es) m q =
    let n = length e.1.cells in
    let a = count-added m e.1.home q n in
    let b = slots_grow es (added m e.1.home n) q in
    omega (arith, a, b)

-- t has made the change c
module _ (p : Program) (s : Config) (t : Name) (c : Change) (free : NamesAreFree s) (is : IsChange s t c) where
  abbrev pub s1 : Config
  s1 = apply p t c s

  pub new_absent : (u : Name) → IsKey u c.new → fin.get s.threads u ≡ None
  new_absent u k = let n = is.threads u k in ap (fin.get s.threads) n.1 ∙ free.threads t is.l is.live n.0 n.2

  pub made_absent : (o : Name) → IsMade t is.l o → fin.get s.objects o ≡ None
  made_absent o made = ⊎_elim
      (λ (a : (i : ℕ) × (o ≡ i ∷ t) × (is.l.objects ≤ i)). ap (fin.get s.objects) a.1 ∙ free.objects t is.l is.live a.0 a.2)
      (λ (a : o ≡ 0 ∷ is.l.threads ∷ t).
      ap (fin.get s.objects) a ∙ free.no_objects (is.l.threads ∷ t) (free.threads t is.l is.live is.l.threads (omega arith)) 0)
      made

  pub thread_stays : (u : Name) (x : State) → u ≢ t → fin.get s.threads u ≡ Some x → fin.get s1.threads u ≡ Some x
  thread_stays u x ne h =
      puts_other ((t, settle p c.thread) ∷ settle_all p c.new) s.threads u (λ k. ⊎_elim
      (λ (e : u ≡ t). ne e)
      (λ (b : IsKey u (settle_all p c.new)).
      let f : Some x ≡ None = sym h ∙ new_absent u (settled_key_is p c.new u b) in cc)
      k)
      ∙ h

  pub ended_stays : (u : Name) (v : Value) → fin.get s.threads u ≡ Some (Ended v) → fin.get s1.threads u ≡ Some (Ended v)
  ended_stays u v h =
      thread_stays u (Ended v) (λ e. let f : Some (Ended v) ≡ Some (Live is.l) = sym h ∙ (ap (fin.get s.threads) e ∙ is.live) in cc) h

  pub old_object : (o : Name) (a : Object) → fin.get s.objects o ≡ Some a → IsKey o c.effect.objects → ⊥
  old_object o a h k = let f : Some a ≡ None = sym h ∙ made_absent o (is.objects o k) in cc

  -- what an object has become: the same, or one of its cells is written
  pub data Became (o : Name) (a : Object) : Type 0 where
    Stayed : fin.get s1.objects o ≡ Some a → Became o a
    Written : (w : IsOne s.objects c.effect.writes) → o ≡ w.o → a ≡ w.write.object
        → fin.get s1.objects o ≡ Some (with_cell a w.x w.write.new) → Became o a

  pub became : (o : Name) (a : Object) → fin.get s.objects o ≡ Some a → Became o a
  became o a h = ⊎_elim
      (λ (e : c.effect.writes ≡ []). Stayed (out ∙ (ap (λ ws. fin.get (write_all s.objects ws) o) e ∙ h)))
      (λ (w : IsOne s.objects c.effect.writes).
      let is_put : write_all s.objects c.effect.writes ≡ fin.insert s.objects w.o (with_cell w.write.object w.x w.write.new) =
      ap (write_all s.objects) w.is ∙ write_is s.objects w.o w.x w.v w.write in
      ⊎_elim
      (λ (e : o ≡ w.o).
      let there : Some a ≡ Some w.write.object = sym h ∙ (ap (fin.get s.objects) e ∙ w.write.there) in
      let same : a ≡ w.write.object = cc in
      Written w e same
      (out ∙ (ap (λ m. fin.get m o) is_put
      ∙ (ap (fin.get (fin.insert s.objects w.o (with_cell w.write.object w.x w.write.new))) e
      ∙ (get_same s.objects w.o (with_cell w.write.object w.x w.write.new)
      ∙ ap (λ (z : Object). Some (with_cell z w.x w.write.new)) (sym same))))))
      (λ (e : o ≢ w.o). Stayed
      (out ∙ (ap (λ m. fin.get m o) is_put ∙ (get_other s.objects w.o (with_cell w.write.object w.x w.write.new) o e ∙ h))))
      (cases_name o w.o))
      is.writes
    where
      out : fin.get s1.objects o ≡ fin.get (write_all s.objects c.effect.writes) o
      out = puts_other c.effect.objects (write_all s.objects c.effect.writes) o (old_object o a h)

  pub written_now : (w : IsOne s.objects c.effect.writes) → fin.get s1.objects w.o ≡ Some (with_cell w.write.object w.x w.write.new)
  written_now w =
      puts_other c.effect.objects (write_all s.objects c.effect.writes) w.o (old_object w.o w.write.object w.write.there)
      ∙ (ap (λ m. fin.get m w.o) (ap (write_all s.objects) w.is ∙ write_is s.objects w.o w.x w.v w.write)
      ∙ get_same s.objects w.o (with_cell w.write.object w.x w.write.new))

  -- after a write of an undefined cell it is full
  pub full_now : (w : IsOne s.objects c.effect.writes) → w.write.old ≡ Empty → cell s1 w.o w.x ≡ Some (Full w.v)
  full_now w e =
      let full : Gives (Full w.v) ≡ Gives w.write.new = ap (λ z. written z w.v) (sym e) ∙ w.write.fits in
      let same : w.write.new ≡ Full w.v = cc in
      ap (λ z. slice_get (cells_of z) w.x) (written_now w)
      ∙ (get_set_same w.write.object.cells w.x w.write.new w.write.old w.write.cell ∙ ap Some same)

  pub object_stays : (o : Name) (a : Object) → fin.get s.objects o ≡ Some a → (b : Object) × (fin.get s1.objects o ≡ Some b) × (b.home ≡ a.home)
  object_stays o a h = elim (became o a h) [
    | Stayed e ↦ (a, e, refl)
    | Written w e f g ↦ (with_cell a w.x w.write.new, g, refl)
  ]

  pub home_stays : (v : Value) → Leads s v → home s1 v ≡ home s v
  home_stays Void h = refl
  home_stays (Int n) h = refl
  home_stays Null h = refl
  home_stays (Ptr o x) h = let b = object_stays o h.0 h.1 in ap home_of b.1 ∙ (b.2 ∙ sym (ap home_of h.1))

  -- what a cell has become
  pub data CellBecame (o : Name) (x : ℕ) : Type 0 where
    CellStayed : cell s o x ≡ cell s1 o x → CellBecame o x
    CellWritten : (v : Value) → c.effect.writes ≡ (Ptr o x, v) ∷ [] → (old new : Cell) → cell s o x ≡ Some old → written old v ≡ Gives new
        → cell s1 o x ≡ Some new → CellBecame o x

  pub cell_became : (o : Name) (x : ℕ) → Leads s (Ptr o x) → CellBecame o x
  cell_became o x there = from (became o there.0 there.1)
    where
      before : cell s o x ≡ slice_get (there.0).cells x
      before = ap (λ z. slice_get (cells_of z) x) there.1

      from : Became o there.0 → CellBecame o x
      from (Stayed e) = CellStayed (before ∙ sym (ap (λ z. slice_get (cells_of z) x) e))
      from (Written w e same g) =
          let after : cell s1 o x ≡ slice_get (slice_set (there.0).cells w.x w.write.new) x = ap (λ z. slice_get (cells_of z) x) g in
          ⊎_elim
          (λ (f : x ≡ w.x).
          let was : slice_get (there.0).cells x ≡ Some w.write.old =
          ap (slice_get (there.0).cells) f ∙ (ap (λ (z : Object). slice_get z.cells w.x) same ∙ w.write.cell) in
          CellWritten w.v
          (w.is ∙ (ap (λ q. (Ptr q w.x, w.v) ∷ []) (sym e) ∙ ap (λ y. (Ptr o y, w.v) ∷ []) (sym f)))
          w.write.old w.write.new (before ∙ was) w.write.fits
          (after ∙ (ap (slice_get (slice_set (there.0).cells w.x w.write.new)) f
          ∙ get_set_same (there.0).cells w.x w.write.new w.write.old (ap (slice_get (there.0).cells) (sym f) ∙ was))))
          (λ (f : x ≢ w.x).
          CellStayed (before ∙ sym (after ∙ get_set_other (there.0).cells w.x x w.write.new (λ z. f (sym z)))))
          (cases_number x w.x)

  -- another thread m
  module _ (h : Shapes) (u : Name) (m : Thread) (not_atomic : (f : ℕ) → (function_shape h f).atomic ≡ false) where
    abbrev pub Lost : Need Name → Type 0
    Lost = IsLost h s s1 c m

    abbrev pub Follows : Need Name → Type 0
    Follows n = Later (check h s u m n) (check h s1 u m n) (Lost n)

    -- no plain cell that the need looks at is written, and no cell of an object that it copies
    abbrev pub IsUnwritten : Need Name → Type 0
    IsUnwritten n =
        ((o : Name) (x : ℕ) (v w : Value) → c.effect.writes ≡ (Ptr o x, v) ∷ [] → cell s o x ≡ Some (Plain w) → LooksAt o x n → ⊥)
        × ((o : Name) (x : ℕ) (v : Value) → c.effect.writes ≡ (Ptr o x, v) ∷ [] → LooksThrough o n → ⊥)

    filled : (a : Value) → Leads s a → IsUnwritten (Filled a) → Follows (Filled a)
    filled Void there un = Same refl
    filled (Int n) there un = Same refl
    filled Null there un = Same refl
    filled (Ptr o x) there un = from (cell_became o x there)
      where
        was : (v : Value) (old new : Cell) → c.effect.writes ≡ (Ptr o x, v) ∷ [] → cell s o x ≡ Some old → written old v ≡ Gives new
            → Follows (Filled (Ptr o x))
        was v (Plain w) new ws e f = absurd (un.0 o x v w ws e refl)
        was v Empty new ws e f = Waited (ap read e)
        was v (Full w) new ws e f = let g : Fails SyncTwice ≡ Gives new = f in cc

        from : CellBecame o x → Follows (Filled (Ptr o x))
        from (CellStayed e) = Same (ap read e)
        from (CellWritten v ws old new e f g) = was v old new ws e f

    unfilled : (a : Value) → Leads s a → IsUnwritten (Unfilled a) → Follows (Unfilled a)
    unfilled Void there un = Same refl
    unfilled (Int n) there un = Same refl
    unfilled Null there un = Same refl
    unfilled (Ptr o x) there un = from (cell_became o x there)
      where
        was : (v : Value) (old new : Cell) → c.effect.writes ≡ (Ptr o x, v) ∷ [] → cell s o x ≡ Some old → written old v ≡ Gives new
            → cell s1 o x ≡ Some new → Follows (Unfilled (Ptr o x))
        was v (Plain w) new ws e f g = absurd (un.0 o x v w ws e refl)
        was v Empty new ws e f g =
            let full : Gives (Full v) ≡ Gives new = f in
            let same : new ≡ Full v = cc in
            Lacks [] (ap writable e) SyncTwice (ap writable (g ∙ ap Some same)) (o, x, v, refl, ws, e)
        was v (Full w) new ws e f g = let z : Fails SyncTwice ≡ Gives new = f in cc

        from : CellBecame o x → Follows (Unfilled (Ptr o x))
        from (CellStayed e) = Same (ap writable e)
        from (CellWritten v ws old new e f g) = was v old new ws e f g

    copied : (a : Value) (n : ℕ) → Leads s a → IsUnwritten (AllCells a n) → Follows (AllCells a n)
    copied Void n there un = Same refl
    copied (Int i) n there un = Same refl
    copied Null n there un = Same refl
    copied (Ptr o x) n there un = from (became o there.0 there.1)
      where
        from : Became o there.0 → Follows (AllCells (Ptr o x) n)
        from (Stayed e) = Same (ap (λ z. all_in n (cells_of z)) (there.1 ∙ sym e))
        from (Written w e f g) =
            absurd (un.1 o w.x w.v (w.is ∙ ap (λ q. (Ptr q w.x, w.v) ∷ []) (sym e)) (x, refl))

    never_held : (f : ℕ) (a : Value) → Follows (Free f a)
    never_held f a = Same
        (ap (λ b. cond (b && any_holds h a (fin.values s.threads)) Hold (Go [])) (not_atomic f)
        ∙ sym (ap (λ b. cond (b && any_holds h a (fin.values s1.threads)) Hold (Go [])) (not_atomic f)))

    ended_ones : (made : List ℕ) → all_ended s.threads u made ≡ true → all_ended s1.threads u made ≡ true
    ended_ones [] e = refl
    ended_ones (k ∷ ks) e = from (fin.get s.threads (k ∷ u)) refl e (λ g. ended_ones ks g)
      where
        from : (x : Option State) → fin.get s.threads (k ∷ u) ≡ x → ended x && all_ended s.threads u ks ≡ true
            → (all_ended s.threads u ks ≡ true → all_ended s1.threads u ks ≡ true)
            → ended (fin.get s1.threads (k ∷ u)) && all_ended s1.threads u ks ≡ true
        from None is e again = let f : false ≡ true = e in cc
        from (Some (Live l)) is e again = let f : false ≡ true = e in cc
        from (Some (Ended v)) is e again =
            ap (λ x. ended x && all_ended s1.threads u ks) (ended_stays (k ∷ u) v is) ∙ again e

    done : (made : List ℕ) → Follows (Done made)
    done made = ⊎_elim
        (λ (e : all_ended s.threads u made ≡ true).
        Same (ap (λ b. cond b (Go []) Hold) e ∙ sym (ap (λ b. cond b (Go []) Hold) (ended_ones made e))))
        (λ (e : all_ended s.threads u made ≡ false). Waited (ap (λ b. cond b (Go []) Hold) e))
        (cases_Bool (all_ended s.threads u made))

    thread_at : (a : Value) → Leads s a → Follows (ThreadAt a)
    thread_at a there = subst
        (λ q. Later (room (count s.threads_made (home s a)) 1 most_threads ThreadsFull) (room (count s1.threads_made q) 1 most_threads ThreadsFull)
        (Lost (ThreadAt a)))
        (sym (home_stays a there))
        (room_later (count s.threads_made (home s a)) (count s1.threads_made (home s a)) 1 most_threads ThreadsFull
        (threads_grow c.new s.threads_made (home s a)))

    pub need_later : (n : Need Name) → IsThere s n → IsUnwritten n → Follows n
    need_later (Known r) there un = Same refl
    need_later (Filled a) there un = filled a there un
    need_later (Unfilled a) there un = unfilled a there un
    need_later (AllCells a n) there un = copied a n there un
    need_later (ObjectNeed a) there un = Same refl
    need_later (Free f a) there un = never_held f a
    need_later (Done made) there un = done made
    need_later Deeper there un = Same refl
    need_later (Threads n) there un =
        room_later (count s.threads_made m.home) (count s1.threads_made m.home) n most_threads ThreadsFull
        (threads_grow c.new s.threads_made m.home)
    need_later (ThreadAt a) there un = thread_at a there
    need_later (Slots n) there un =
        room_later (count s.slots_made m.home) (count s1.slots_made m.home) n most_slots StoreFull
        (slots_grow c.effect.objects s.slots_made m.home)
    need_later (FirstSlots n) there un = Same refl
    need_later Processor there un =
        room_later s.processors s1.processors 1 most_processors ProcessorsFull (omega arith)
    need_later (Constructs k vs) there un = Same refl

    pub all_later : (ns : List (Need Name)) → EachNeed (IsThere s) ns
        → ((o : Name) (x : ℕ) (v w : Value) → c.effect.writes ≡ (Ptr o x, v) ∷ [] → cell s o x ≡ Some (Plain w) → AnyNeed (LooksAt o x) ns → ⊥)
        → ((o : Name) (x : ℕ) (v : Value) → c.effect.writes ≡ (Ptr o x, v) ∷ [] → AnyNeed (LooksThrough o) ns → ⊥)
        → Later (check_all h s u m ns) (check_all h s1 u m ns) (AnyNeed Lost ns)
    all_later [] there cells whole = Same refl
    all_later (n ∷ ns) there cells whole =
        later_both (check h s u m n) (check h s1 u m n) (check_all h s u m ns) (check_all h s1 u m ns) (Lost n) (AnyNeed Lost ns)
        (need_later n there.0 (
          (λ o x v w e f k. cells o x v w e f (inl k)),
          (λ o x v e k. whole o x v e (inl k)),
        ))
        (all_later ns there.1 (λ o x v w e f k. cells o x v w e f (inr k)) (λ o x v e k. whole o x v e (inr k)))
