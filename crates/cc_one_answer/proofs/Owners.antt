-- The threads of an owned configuration are apart.
use Rattle.std.proofs.Common.{◌≡◌, ◌≢◌, ◌⊎◌, ℕ, ◌<◌, Bool, true, false, List, [], ◌∷◌, Some, None, refl, sym, ap, subst, ◌∙◌}
use Rattle.std.proofs.Common.{⊎_elim, inl, inr, arith}
use Rattle.std.specs.Prelude.{slice_get}
use Rattle.std.specs.FinMap as fin
use Rattle.cc_ops.specs.Values.{Void, Int, Null, Ptr, Plain}
use Rattle.cc_core.specs.Names.{Name, Value, Cell}
use Rattle.cc_core.specs.Core.{Term}
use Rattle.cc_core.specs.Core.{Program, shapes}
use Rattle.cc_core.specs.Next.{variable}
use Rattle.cc_core.specs.Types.{ValueType, NoValue, AnInt, AnAddress, Target, Cells, ObjectOf, Types, no_types}
use Rattle.cc_one_answer.specs.Sorts.{Sort, Valued, NamedCell, MemberAt, MemberCell, variable_sort, member, IsCell, ObjectType, Named, Uniform, Instance}
use Rattle.cc_one_answer.specs.Sorts.{Kin, World, IsNameIn, IsMine, Leads, Fits, CellFits, LeadsTo, HasSort, cell_type}
use Rattle.cc_one_answer.specs.Owned.{IsOwnAt, PendTerm, IsMarked}
use Rattle.cc_ops.specs.declared.shape.FunShape.{FunShape}
use Rattle.cc_core.specs.Asks.{Ask, Answer, Reads, Writes, Copies, Indexes, Shifts, Computes, Tests, Makes, MakesWith, Builds, Enters}
use Rattle.cc_core.specs.Asks.{Leaves, ForksAll, ForksOne, Joins, Spawns, Prints, Calls, Casts, NewProcessor}
use Rattle.cc_core.specs.Next.{Asks, After}
use Rattle.cc_one_answer.proofs.Fine.{Gift, IsYoung}
use Rattle.cc_one_answer.proofs.Fine.{IsFineAsk, IsGoodAsk, IsGood}
use Rattle.cc_core.specs.Next.{next}
use Rattle.cc_core.specs.Config.{Config, Thread, Live, Object, cell, cells_of}
use Rattle.cc_core.specs.Needs.{needs}
use Rattle.cc_core.proofs.Fresh.{tail_of, head_of}
use Rattle.cc_one_answer.specs.Apart.{IsAsking, AnyNeed, EachNeed, LooksAt, LooksThrough, IsThere, IsSilent, IsPlace, AreApart}
use Rattle.cc_one_answer.specs.Apart as apart
use Rattle.cc_one_answer.specs.Determinate.{IsDeterminate}
use Rattle.cc_one_answer.specs.Owned.{IsOwned}
use Rattle.cc_one_answer.proofs.Distinct.{same_some, same_live}
use Rattle.cc_one_answer.proofs.Values.{not_uniform, not_instance, shape_is}
use Rattle.cc_one_answer.proofs.TermParts.{T, H}
use Rattle.cc_one_answer.proofs.Good.{good_term}

dead1 : ⊥ ⊎ ⊥ → ⊥
dead1 n = ⊎_elim (λ (a : ⊥). a) (λ (b : ⊥). b) n

dead2 : ⊥ ⊎ (⊥ ⊎ ⊥) → ⊥
dead2 n = ⊎_elim (λ (a : ⊥). a) (λ (b : ⊥ ⊎ ⊥). dead1 b) n

dead3 : ⊥ ⊎ (⊥ ⊎ (⊥ ⊎ ⊥)) → ⊥
dead3 n = ⊎_elim (λ (a : ⊥). a) (λ (b : ⊥ ⊎ (⊥ ⊎ ⊥)). dead2 b) n

dead4 : ⊥ ⊎ (⊥ ⊎ (⊥ ⊎ (⊥ ⊎ ⊥))) → ⊥
dead4 n = ⊎_elim (λ (a : ⊥). a) (λ (b : ⊥ ⊎ (⊥ ⊎ (⊥ ⊎ ⊥))). dead3 b) n

module _ (p : Program) (y : Types) (det : IsDeterminate p y) (w : World) (s : Config) (owned : IsOwned p y w s) where
  -- the ask of a thread is good
  abbrev pub GoodAsk : (t : Name) → Thread → Kin → (q : Ask Name) → (Answer Name → After Term) → Type 0
  GoodAsk t l k q go = IsGoodAsk p y w t k.lent l.objects l.threads 0 (PendTerm l.term)
      (T p y det w t k.lent l.objects l.threads no_types 0 (Valued k.result)) PendTerm q go

  pub good_asks : (t : Name) (l : Thread) (k : Kin) → fin.get s.threads t ≡ Some (Live l) → fin.get w.kin t ≡ Some k → (line : ℕ) (q : Ask Name)
      (go : Answer Name → After Term) → next p l.term ≡ Asks line q go → GoodAsk t l k q go
  good_asks t l k live kin line q go asks =
      subst (λ n. IsGood p y w t k.lent l.objects l.threads 0 (PendTerm l.term) (H p y det w t k.lent l.objects l.threads (Valued k.result))
      (T p y det w t k.lent l.objects l.threads no_types 0 (Valued k.result)) PendTerm n) asks
      (good_term p y det w t k.lent l.objects l.threads no_types 0 0 Void []
      (record { low = omega arith; reads = λ j a e. nothing_there j a e; is_this = λ c e. let f : None ≡ Some c = e in cc })
      l.term (Valued k.result) (owned.fine t l k live kin))
    where
      nothing_there : (j : ℕ) (a : Target) → slice_get no_types.vars j ≡ Some a → HasSort w y t k.lent (variable [] j Null) (variable_sort a)
      nothing_there j a e = tt

  -- what leads somewhere is there
  leads_there : (t : Name) (lent : List Name) (o : Name) (x : ℕ) (r : Sort) → LeadsTo w y t lent o x r
      → (a : Object) × (fin.get s.objects o ≡ Some a)
  leads_there t lent o x (Valued NoValue) h = absurd h
  leads_there t lent o x (Valued AnInt) h = absurd h
  leads_there t lent o x (Valued (AnAddress (Cells sync u))) h = let a = owned.store o _ h in (a.0, a.1)
  leads_there t lent o x (Valued (AnAddress (ObjectOf c))) h = let a = owned.store o _ h.0 in (a.0, a.1)
  leads_there t lent o x (NamedCell u) h = let a = owned.store o _ h.0 in (a.0, a.1)
  leads_there t lent o x (MemberAt c k) h = let a = owned.store o _ h.0 in (a.0, a.1)
  leads_there t lent o x (MemberCell sync u) h = let a = owned.store o _ h.1 in (a.0, a.1)

  sort_there : (t : Name) (lent : List Name) (v : Value) (r : Sort) → HasSort w y t lent v r → apart.Leads s v
  sort_there t lent Void r h = tt
  sort_there t lent (Int n) r h = tt
  sort_there t lent Null r h = tt
  sort_there t lent (Ptr o x) r h = leads_there t lent o x r h

  fits_there : (v : Value) (u : ValueType) → Fits w v u → apart.Leads s v
  fits_there Void u h = tt
  fits_there (Int n) u h = tt
  fits_there Null u h = tt
  fits_there (Ptr o x) u h = leads_there [] [] o x (Valued u) h

  module _ (t : Name) (l : Thread) (k : Kin) (Old : ℕ → Type 0) (g : Gift) where
    abbrev Fine : Ask Name → Type 0
    Fine = IsFineAsk p y w t k.lent l.objects l.threads 0 Old g

    needs_there : (q : Ask Name) → Fine q → EachNeed (IsThere s) (needs (shapes p) q)
    needs_there (Reads remote a) f = (sort_there t k.lent a f.0 f.2, tt)
    needs_there (Writes remote a v) f = (sort_there t k.lent a f.0 f.3, tt)
    needs_there (Copies a n) f = absurd f
    needs_there (Indexes a n i) f = (tt, tt)
    needs_there (Shifts a i) f = (tt, tt)
    needs_there (Computes op vs) f = (tt, tt)
    needs_there Tests f = tt
    needs_there (Makes kind n) f = (tt, tt)
    needs_there (MakesWith kind v) f = (tt, tt)
    needs_there (Builds c vs) f = (tt, (tt, tt))
    needs_there (Enters f' o vs) f = (tt, (tt, (tt, (tt, tt))))
    needs_there Leaves f = tt
    needs_there (ForksAll n) f = (tt, tt)
    needs_there (ForksOne v) f = (tt, (tt, (sort_there t k.lent v (NamedCell f.0) f.2, tt)))
    needs_there (Joins made) f = (tt, tt)
    needs_there (Spawns f' o vs) f = (tt, (tt, tt))
    needs_there (Prints parts vs) f = tt
    needs_there (Calls f' o vs) f = (tt, (fits_there o _ f.2.1, tt))
    needs_there (Casts f' o vs) f = (tt, (fits_there o _ f.1.1, tt))
    needs_there (NewProcessor c vs) f = (tt, (tt, (tt, tt)))

    abbrev LooksFrom : Name → ℕ → Type 0
    LooksFrom o x = (r : Sort) × HasSort w y t k.lent (Ptr o x) r

    looks_from : (o : Name) (x : ℕ) (q : Ask Name) → Fine q → AnyNeed (LooksAt o x) (needs (shapes p) q) → LooksFrom o x
    looks_from o x (Reads remote a) f n = ⊎_elim (λ (e : a ≡ Ptr o x). (f.0, subst (λ z. HasSort w y t k.lent z f.0) e f.2)) (λ (b : ⊥). absurd b) n
    looks_from o x (Writes remote a v) f n = ⊎_elim (λ (e : a ≡ Ptr o x). (f.0, subst (λ z. HasSort w y t k.lent z f.0) e f.3)) (λ (b : ⊥). absurd b) n
    looks_from o x (Copies a m) f n = absurd f
    looks_from o x (Indexes a m i) f n = absurd (dead1 n)
    looks_from o x (Shifts a i) f n = absurd (dead1 n)
    looks_from o x (Computes op vs) f n = absurd (dead1 n)
    looks_from o x Tests f n = absurd n
    looks_from o x (Makes kind m) f n = absurd (dead1 n)
    looks_from o x (MakesWith kind v) f n = absurd (dead1 n)
    looks_from o x (Builds c vs) f n = absurd (dead2 n)
    looks_from o x (Enters g' o' vs) f n = absurd (dead4 n)
    looks_from o x Leaves f n = absurd n
    looks_from o x (ForksAll m) f n = absurd (dead1 n)
    looks_from o x (ForksOne v) f n = ⊎_elim (λ (b : ⊥). absurd b) (λ (m : ⊥ ⊎ ((v ≡ Ptr o x) ⊎ ⊥)). ⊎_elim (λ (b : ⊥). absurd b) (λ (i : (v ≡ Ptr o x) ⊎ ⊥). ⊎_elim (λ (e : v ≡ Ptr o x). (NamedCell f.0, subst (λ z. HasSort w y t k.lent z (NamedCell f.0)) e f.2)) (λ (b : ⊥). absurd b) i) m) n
    looks_from o x (Joins made) f n = absurd (dead1 n)
    looks_from o x (Spawns g' o' vs) f n = absurd (dead2 n)
    looks_from o x (Prints parts vs) f n = absurd n
    looks_from o x (Calls g' o' vs) f n = absurd (dead2 n)
    looks_from o x (Casts g' o' vs) f n = absurd (dead2 n)
    looks_from o x (NewProcessor c vs) f n = absurd (dead3 n)

    copies_nothing : (o : Name) (q : Ask Name) → Fine q → AnyNeed (LooksThrough o) (needs (shapes p) q) → ⊥
    copies_nothing o (Reads remote a) f n = dead1 n
    copies_nothing o (Writes remote a v) f n = dead1 n
    copies_nothing o (Copies a m) f n = f
    copies_nothing o (Indexes a m i) f n = dead1 n
    copies_nothing o (Shifts a i) f n = dead1 n
    copies_nothing o (Computes op vs) f n = dead1 n
    copies_nothing o Tests f n = n
    copies_nothing o (Makes kind m) f n = dead1 n
    copies_nothing o (MakesWith kind v) f n = dead1 n
    copies_nothing o (Builds c vs) f n = dead2 n
    copies_nothing o (Enters g' o' vs) f n = dead4 n
    copies_nothing o Leaves f n = n
    copies_nothing o (ForksAll m) f n = dead1 n
    copies_nothing o (ForksOne v) f n = dead3 n
    copies_nothing o (Joins made) f n = dead1 n
    copies_nothing o (Spawns g' o' vs) f n = dead2 n
    copies_nothing o (Prints parts vs) f n = n
    copies_nothing o (Calls g' o' vs) f n = dead2 n
    copies_nothing o (Casts g' o' vs) f n = dead2 n
    copies_nothing o (NewProcessor c vs) f n = dead3 n

    silent_or_main : (q : Ask Name) → Fine q → IsSilent q ⊎ (t ≡ [])
    silent_or_main (Reads remote a) f = inl tt
    silent_or_main (Writes remote a v) f = inl tt
    silent_or_main (Copies a n) f = inl tt
    silent_or_main (Indexes a n i) f = inl tt
    silent_or_main (Shifts a i) f = inl tt
    silent_or_main (Computes op vs) f = inl tt
    silent_or_main Tests f = inl tt
    silent_or_main (Makes kind n) f = inl tt
    silent_or_main (MakesWith kind v) f = inl tt
    silent_or_main (Builds c vs) f = inl tt
    silent_or_main (Enters g' o' vs) f = inl tt
    silent_or_main Leaves f = inl tt
    silent_or_main (ForksAll n) f = inl tt
    silent_or_main (ForksOne v) f = inl tt
    silent_or_main (Joins made) f = inl tt
    silent_or_main (Spawns g' o' vs) f = inl tt
    silent_or_main (Prints parts vs) f = inr f
    silent_or_main (Calls g' o' vs) f = inl tt
    silent_or_main (Casts g' o' vs) f = inl tt
    silent_or_main (NewProcessor c vs) f = inl tt

  -- a plain variable that a thread looks at is its own, or was lent to it
  named_only : (t : Name) (lent : List Name) (o : Name) (x : ℕ) (r : Sort) (u : ValueType) → LeadsTo w y t lent o x r
      → fin.get w.types o ≡ Some (Named u) → IsMine t o ⊎ IsNameIn o lent
  named_only t lent o x (Valued NoValue) u h e = absurd h
  named_only t lent o x (Valued AnInt) u h e = absurd h
  named_only t lent o x (Valued (AnAddress (Cells sync v))) u h e = absurd (not_uniform v u sync (sym h ∙ e))
  named_only t lent o x (Valued (AnAddress (ObjectOf c))) u h e = absurd (not_instance c u (sym h.0 ∙ e))
  named_only t lent o x (NamedCell v) u h e = h.1
  named_only t lent o x (MemberAt c k) u h e = absurd (not_instance c u (sym h.0 ∙ e))
  named_only t lent o x (MemberCell sync v) u h e = absurd (not_instance h.0 u (sym h.1 ∙ e))

  -- the cell that an address leads to
  pub cell_of_sort : (t : Name) (lent : List Name) (o : Name) (x : ℕ) (r : Sort) (sync : Bool) (u : ValueType) → LeadsTo w y t lent o x r
      → IsCell y r sync u → (a : ObjectType) × (fin.get w.types o ≡ Some a) × (cell_type y a x ≡ Some (Cells sync u))
  cell_of_sort t lent o x (Valued v) sync u h e =
      (Uniform sync u, subst (λ z. Leads w o x z) e h, refl)
  cell_of_sort t lent o x (NamedCell v) sync u h e =
      (Named v, h.0, ap (λ z. Some (Cells false z)) e.1 ∙ ap (λ z. Some (Cells z u)) (sym e.0))
  cell_of_sort t lent o x (MemberAt c k) sync u h e = (Instance c, h.0, ap (member y c) h.1 ∙ e)
  cell_of_sort t lent o x (MemberCell z v) sync u h e =
      (Instance h.0, h.1, h.2 ∙ (ap (λ b. Some (Cells b v)) e.0 ∙ ap (λ b. Some (Cells sync b)) e.1))

  pub stored_cell : (t : Name) (lent : List Name) (o : Name) (x : ℕ) (r : Sort) (sync : Bool) (u : ValueType) (c : Cell)
      → LeadsTo w y t lent o x r → IsCell y r sync u → cell s o x ≡ Some c → CellFits w c (Some (Cells sync u))
  stored_cell t lent o x r sync u c h e at =
      let a = cell_of_sort t lent o x r sync u h e in
      let b = owned.store o a.0 a.1 in
      subst (CellFits w c) a.2 (b.2 x c (sym (ap (λ z. slice_get (cells_of z) x) b.1) ∙ at))

  -- who lends a plain variable is live, and the fork is younger than the variable
  pub record Lender (o : Name) : Type 0 where
    pub t : Name
    pub l : Thread
    pub live : fin.get s.threads t ≡ Some (Live l)
    pub branch : ℕ
    pub pending : PendTerm l.term branch
    pub kin : Kin
    pub has_kin : fin.get w.kin (branch ∷ t) ≡ Some kin
    pub i : ℕ
    pub is : o ≡ i ∷ t
    pub older : i < kin.mark

  same_name : (a b : ℕ) (x z : Name) → a ∷ x ≡ b ∷ z → x ≡ z
  same_name a b x z e = cc

  no_name : (a : ℕ) (x : Name) → [] ≡ a ∷ x → ⊥
  no_name a x e = cc

  same_kin : (t : Name) (j k : Kin) → fin.get w.kin t ≡ Some j → fin.get w.kin t ≡ Some k → j ≡ k
  same_kin t j k e f = same_some j k (sym e ∙ f)

  pub lender : (t : Name) (l : Thread) (k : Kin) (o : Name) (u : ValueType) → fin.get s.threads t ≡ Some (Live l) → fin.get w.kin t ≡ Some k
      → IsNameIn o k.lent → fin.get w.types o ≡ Some (Named u) → Lender o
  lender [] l k o u live kin among named = let x = owned.lent [] l k o u live kin among named in absurd (no_name x.number x.parent x.is)
  lender (d ∷ t) l k o u live kin among named =
      let x = owned.lent (d ∷ t) l k o u live kin among named in
      let up : x.parent ≡ t = sym (same_name d x.number t x.parent x.is) in
      ⊎_elim
      (λ (a : (i : ℕ) × (o ≡ i ∷ x.parent) × (i < k.mark)). record {
        t = x.parent;
        l = x.l;
        live = x.live;
        branch = x.number;
        pending = x.pending;
        kin = k;
        has_kin = ap (fin.get w.kin) (sym x.is) ∙ kin;
        i = a.0;
        is = a.1;
        older = a.2;
      })
      (λ (a : IsNameIn o x.kin.lent).
      lender t x.l x.kin o u (ap (fin.get s.threads) (sym up) ∙ x.live) (ap (fin.get w.kin) (sym up) ∙ x.has_kin) a named)
      x.whose

  -- a plain variable that t is about to write is looked at by no other thread
  unseen : (t u : Name) → t ≢ u → (l m : Thread) (k j : Kin) → fin.get s.threads t ≡ Some (Live l) → fin.get w.kin t ≡ Some k
      → fin.get s.threads u ≡ Some (Live m) → fin.get w.kin u ≡ Some j → (o : Name) (x : ℕ) (v : ValueType)
      → fin.get w.types o ≡ Some (Named v) → (i : ℕ) → o ≡ i ∷ t → ((b : ℕ) → PendTerm l.term b → IsMarked w t b i)
      → (r : Sort) → LeadsTo w y u j.lent o x r → ⊥
  unseen t u ne l m k j lt kt lu ku o x v named i is young r h = ⊎_elim
      (λ (a : IsMine u o). ne (tail_of i a.0 t u (sym is ∙ a.1)))
      (λ (a : IsNameIn o j.lent).
      let z = lender u m j o v lu ku a named in
      let same : z.t ≡ t = tail_of z.i i z.t t (sym z.is ∙ is) in
      let number : z.i ≡ i = head_of z.i i z.t t (sym z.is ∙ is) in
      let live : l ≡ z.l = same_live l z.l (sym lt ∙ (ap (fin.get s.threads) (sym same) ∙ z.live)) in
      let mark = young z.branch (subst (λ q. PendTerm q.term z.branch) (sym live) z.pending) in
      let kin : mark.0 ≡ z.kin =
      same_some mark.0 z.kin (sym mark.1 ∙ (ap (λ q. fin.get w.kin (z.branch ∷ q)) (sym same) ∙ z.has_kin)) in
      let low = mark.2 in
      let older = z.older in
      let marks : mark.0.mark ≡ z.kin.mark = ap (λ (q : Kin). q.mark) kin in
      absurd (omega (arith, low, older, marks, number)))
      (named_only u j.lent o x r v h named)

  true_not_false : true ≡ false → ⊥
  true_not_false e = cc

  pub apart_owned : AreApart p s
  apart_owned = record {
    not_atomic = λ f. ap (λ (z : FunShape). z.atomic) (shape_is p f) ∙ det.not_atomic f;
    there = λ t a.
        let k = owned.kin t a.l a.live in
        let g = good_asks t a.l k.0 a.live k.1 a.line a.ask a.k a.asks in
        needs_there t a.l k.0 (PendTerm a.l.term) g.gift a.ask g.ask;
    places = owned.places;
    cells = λ t u ne a b remote o x v c is at looks.
        let k = owned.kin t a.l a.live in
        let j = owned.kin u b.l b.live in
        let g = good_asks t a.l k.0 a.live k.1 a.line a.ask a.k a.asks in
        let d = good_asks u b.l j.0 b.live j.1 b.line b.ask b.k b.asks in
        let wr = subst (IsFineAsk p y w t k.0.lent a.l.objects a.l.threads 0 (PendTerm a.l.term) g.gift) is g.ask in
        let see = looks_from u b.l j.0 (PendTerm b.l.term) d.gift o x b.ask d.ask looks in
        let plain = stored_cell t k.0.lent o x wr.0 wr.1 wr.2 (Plain c) wr.3 wr.4 at in
        ⊎_elim
        (λ (z : wr.1 ≡ true). true_not_false (sym z ∙ plain.0))
        (λ (z : (wr.0 ≡ NamedCell wr.2) × IsOwnAt t 0 (Ptr o x)
        × IsYoung p y w t k.0.lent a.l.objects a.l.threads (PendTerm a.l.term) (Ptr o x)).
        let named = subst (λ q. LeadsTo w y t k.0.lent o x q) z.0 wr.3 in
        unseen t u ne a.l b.l k.0 j.0 a.live k.1 b.live j.1 o x wr.2 named.0 z.1.0 z.1.1
        (λ h pend. z.2 z.1.0 x (ap (λ q. Ptr q x) z.1.1) h pend) see.0 see.1)
        wr.6;
    whole = λ t u ne a b remote o x v is looks.
        let j = owned.kin u b.l b.live in
        let d = good_asks u b.l j.0 b.live j.1 b.line b.ask b.k b.asks in
        copies_nothing u b.l j.0 (PendTerm b.l.term) d.gift o b.ask d.ask looks;
    prints = λ t u ne a b.
        let k = owned.kin t a.l a.live in
        let j = owned.kin u b.l b.live in
        let g = good_asks t a.l k.0 a.live k.1 a.line a.ask a.k a.asks in
        let d = good_asks u b.l j.0 b.live j.1 b.line b.ask b.k b.asks in
        ⊎_elim
        (λ (z : IsSilent a.ask). inl z)
        (λ (z : t ≡ []). ⊎_elim
        (λ (q : IsSilent b.ask). inr q)
        (λ (q : u ≡ []). absurd (ne (z ∙ sym q)))
        (silent_or_main u b.l j.0 (PendTerm b.l.term) d.gift b.ask d.ask))
        (silent_or_main t a.l k.0 (PendTerm a.l.term) g.gift a.ask g.ask);
  }
