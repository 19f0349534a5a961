-- A fine change leaves an owned configuration.
use Rattle.std.proofs.Common.{◌≡◌, ◌≢◌, ◌⊎◌, ℕ, ◌<◌, List, [], ◌∷◌, Option, Some, None, refl, sym, ap, subst, ◌∙◌}
use Rattle.std.proofs.Common.{⊎_elim, inl, inr, arith}
use Rattle.std.specs.FinMap as fin
use Rattle.cc_ops.specs.Values.{Void}
use Rattle.cc_core.specs.Names.{Name, Value, puts}
use Rattle.cc_core.specs.Core.{Term}
use Rattle.cc_core.specs.Core.{Program}
use Rattle.cc_core.specs.Types.{ValueType, Types, no_types}
use Rattle.cc_one_answer.specs.Sorts.{Sort, Valued, ObjectType, Named}
use Rattle.cc_one_answer.specs.Sorts.{Kin, World, Grows, IsNameIn, Fits, HasSort, CellsFit}
use Rattle.cc_one_answer.specs.Owned.{PendTerm}
use Rattle.cc_one_answer.specs.Owned.{FineTerm}
use Rattle.cc_core.specs.Asks.{Ask, Answer}
use Rattle.cc_core.specs.Next.{Next, Ready, Asks, After}
use Rattle.cc_one_answer.proofs.More.{fits_more}
use Rattle.cc_one_answer.proofs.More.{term_more}
use Rattle.cc_one_answer.proofs.Fine.{IsGood}
use Rattle.cc_core.specs.Next.{next}
use Rattle.cc_core.specs.Config.{Config, Thread, State, Live, Ended, Object}
use Rattle.cc_core.specs.Laws.{NamesAreFree}
use Rattle.cc_core.proofs.Maps.{cases_name, get_same, IsKey, IsEntry, puts_case, puts_other, puts_key}
use Rattle.cc_core.proofs.Fresh.{not_longer}
use Rattle.cc_one_answer.specs.Apart.{IsPlace}
use Rattle.cc_one_answer.specs.Determinate.{IsDeterminate}
use Rattle.cc_one_answer.specs.Owned.{IsLent, IsCallOf, IsOwned}
use Rattle.cc_one_answer.proofs.Distinct.{some_not_none, same_some, same_live, live_not_ended}
use Rattle.cc_one_answer.proofs.Values.{sort_fits}
use Rattle.cc_one_answer.proofs.Good.{good_term}
use Rattle.cc_core.specs.Config.{write_all}
use Rattle.cc_core.specs.Steps.{Change, settled, settle, settle_all, apply}
use Rattle.cc_core.proofs.Fresh.{puts_none, settled_entry, settled_key, settled_key_is, live_settled, writes_none}
use Rattle.cc_core.proofs.Maps.{entry_of_key}
use Rattle.cc_one_answer.proofs.After.{IsChange, thread_stays, object_stays, new_absent}

-- the top of a thread's term
pub top_good : (p : Program) (y : Types) → IsDeterminate p y → (w : World) (u : Name) (lent : List Name) (hi m0 : ℕ) (e : Term) (r : Sort)
    → FineTerm y p.main u lent w no_types 0 hi e r
    → IsGood p y w u lent hi m0 0 (PendTerm e) (λ v. HasSort w y u lent v r) (λ v h x. FineTerm y p.main u lent v no_types 0 h x r) PendTerm (next p e)
top_good p y det w u lent hi m0 e r fine =
    good_term p y det w u lent hi m0 no_types 0 0 Void []
    (record { low = omega arith; reads = λ j a e. tt; is_this = λ c e. let f : None ≡ Some c = e in cc })
    e r fine

pub ended_is : (n : Next Value Term) (l : Thread) (v : Value) → settled n l ≡ Ended v → n ≡ Ready v
ended_is (Ready v) l u e = let f : Ended v ≡ Ended u = e in let g : v ≡ u = cc in ap Ready g
ended_is (Asks line q k) l u e = let f : Live l ≡ Ended u = e in cc

pub record IsKid (p : Program) (y : Types) (w : World) (s : Config) (t : Name) (c : Change) (k : Kin) (w1 : World) (u : Name) (m : Thread) : Type 0 where
  pub j : Kin
  pub kin : fin.get w1.kin u ≡ Some j
  pub fine : FineTerm y p.main u j.lent w1 no_types 0 m.objects m.term (Valued j.result)
  pub not_asked : m.asked ≡ None
  pub placed : IsPlace s m.home
  pub lends : (o : Name) (v : ValueType) → IsNameIn o j.lent → fin.get w.types o ≡ Some (Named v)
      → (b : ℕ) × (u ≡ b ∷ t) × PendTerm c.thread.term b × (((i : ℕ) × (o ≡ i ∷ t) × (i < j.mark)) ⊎ IsNameIn o k.lent)
  pub typed : (o : Name) → IsNameIn o j.lent → (a : ObjectType) × (fin.get w.types o ≡ Some a)

-- a change of t, which is of kin k, that leads from the world w to w1
pub record FineChange (p : Program) (y : Types) (w : World) (s : Config) (t : Name) (c : Change) (l : Thread) (k : Kin) (w1 : World) : Type 0 where
  pub grows : Grows w w1
  pub after : FineTerm y p.main t k.lent w1 no_types 0 c.thread.objects c.thread.term (Valued k.result)
  pub keeps : (b : ℕ) → PendTerm l.term b → PendTerm c.thread.term b ⊎ ((v : Value) × (fin.get s.threads (b ∷ t) ≡ Some (Ended v)))
  pub home : c.thread.home ≡ l.home
  pub asked : (made : ℕ) → c.thread.asked ≡ Some made → (j : Kin) × (fin.get w1.kin (made ∷ t) ≡ Some j)
      × ((line : ℕ) (q : Ask Name) (go : Answer Name → After Term) → next p c.thread.term ≡ Asks line q go → IsCallOf y q j.result)
  pub kid : (u : Name) (m : Thread) → IsEntry u m c.new → IsKid p y w s t c k w1 u m
  pub kin_case : (u : Name) (j : Kin) → fin.get w1.kin u ≡ Some j → (fin.get w.kin u ≡ Some j) ⊎ IsKey u c.new
  pub store : (o : Name) (a : ObjectType) → fin.get w1.types o ≡ Some a
      → (x : Object) × (fin.get (apply p t c s).objects o ≡ Some x) × CellsFit w1 y a x.cells
  pub homes : (o : Name) (x : Object) → IsEntry o x c.effect.objects → (x.home ≡ l.home) ⊎ IsKey x.home c.effect.objects

module _ (p : Program) (y : Types) (det : IsDeterminate p y) (w : World) (s : Config) (owned : IsOwned p y w s) (free : NamesAreFree s)
    (t : Name) (c : Change) (is : IsChange s t c) (k : Kin) (kin_t : fin.get w.kin t ≡ Some k) (w1 : World)
    (fc : FineChange p y w s t c is.l k w1) where
  abbrev r : Config
  r = apply p t c s

  -- a thread that there is then
  data Case (u : Name) (x : State) : Type 0 where
    Itself : u ≡ t → x ≡ settle p c.thread → Case u x
    NewOne : (m : Thread) → IsEntry u m c.new → x ≡ settle p m → Case u x
    Older : u ≢ t → fin.get s.threads u ≡ Some x → Case u x

  abbrev entries : List (Name × State)
  entries = (t, settle p c.thread) ∷ settle_all p c.new

  of_entry : (u : Name) (x z : State) → IsEntry u z entries → z ≡ x → Case u x
  of_entry u x z h e = ⊎_elim
      (λ (a : (u ≡ t) × (z ≡ settle p c.thread)). Itself a.0 (sym e ∙ a.1))
      (λ (b : IsEntry u z (settle_all p c.new)). let m = settled_entry p c.new u z b in NewOne m.0 m.1 (sym e ∙ m.2))
      h

  case : (u : Name) (x : State) → fin.get r.threads u ≡ Some x → Case u x
  case u x h = ⊎_elim
      (λ (e : u ≡ t). let z = puts_key entries s.threads u (inl e) in of_entry u x z.0 z.1 (same_some z.0 x (sym z.2 ∙ h)))
      (λ (ne : u ≢ t). ⊎_elim
      (λ (a : fin.get (puts entries s.threads) u ≡ fin.get s.threads u). Older ne (sym a ∙ h))
      (λ (z : (z : State) × IsEntry u z entries × (fin.get (puts entries s.threads) u ≡ Some z)).
      of_entry u x z.0 z.1 (same_some z.0 x (sym z.2 ∙ h)))
      (puts_case entries s.threads u))
      (cases_name u t)

  t_not_new : IsKey t (settle_all p c.new) → ⊥
  t_not_new h =
      let i = is.threads t (settled_key_is p c.new t h) in not_longer i.0 t (sym i.1)

  at_t : fin.get r.threads t ≡ Some (settle p c.thread)
  at_t = puts_other (settle_all p c.new) (fin.insert s.threads t (settle p c.thread)) t t_not_new ∙ get_same s.threads t (settle p c.thread)

  -- t is live where branches are pending
  live_pending : (b : ℕ) → PendTerm c.thread.term b → fin.get r.threads t ≡ Some (Live c.thread)
  live_pending b pend = at_t ∙ ap Some (from (next p c.thread.term) refl)
    where
      good : IsGood p y w1 t k.lent c.thread.objects 0 0 (PendTerm c.thread.term) (λ v. HasSort w1 y t k.lent v (Valued k.result))
          (λ v h x. FineTerm y p.main t k.lent v no_types 0 h x (Valued k.result)) PendTerm (next p c.thread.term)
      good = top_good p y det w1 t k.lent c.thread.objects 0 c.thread.term (Valued k.result) fc.after

      from : (n : Next Value Term) → next p c.thread.term ≡ n → settled n c.thread ≡ Live c.thread
      from (Ready v) e =
          let ready = subst (λ n. IsGood p y w1 t k.lent c.thread.objects 0 0 (PendTerm c.thread.term) (λ z. HasSort w1 y t k.lent z (Valued k.result))
          (λ z h x. FineTerm y p.main t k.lent z no_types 0 h x (Valued k.result)) PendTerm n) e good in
          absurd (ready.1 b pend)
      from (Asks line q go) e = refl

  -- the value of a thread that ends
  ended_value : (u : Name) (j : Kin) (m : Thread) (v : Value)
      → FineTerm y p.main u j.lent w1 no_types 0 m.objects m.term (Valued j.result) → settle p m ≡ Ended v → Fits w1 v j.result
  ended_value u j m v fine e =
      let ready = subst (λ n. IsGood p y w1 u j.lent m.objects 0 0 (PendTerm m.term) (λ z. HasSort w1 y u j.lent z (Valued j.result))
      (λ z h x. FineTerm y p.main u j.lent z no_types 0 h x (Valued j.result)) PendTerm n) (ended_is (next p m.term) m v e)
      (top_good p y det w1 u j.lent m.objects 0 m.term (Valued j.result) fine) in
      sort_fits w1 y u j.lent v j.result ready.0

  place_stays : (q : Name) → IsPlace s q → IsPlace r q
  place_stays q h = ⊎_elim
      (λ (a : q ≡ []). inl a)
      (λ (a : (a : Object) × (fin.get s.objects q ≡ Some a)).
      let b = object_stays p s t c free is q a.0 a.1 in inr (b.0, b.1))
      h

  was_there : (u : Name) (x : State) → fin.get s.threads u ≡ Some x → IsKey u c.new → ⊥
  was_there u x h key = some_not_none x (sym h ∙ new_absent p s t c free is u key)

  same_kin : (u : Name) (i j : Kin) → fin.get w1.kin u ≡ Some i → fin.get w1.kin u ≡ Some j → i ≡ j
  same_kin u i j e f = same_some i j (sym e ∙ f)

  -- what is lent stays lent
  lent_stays : (u : Name) (mark : ℕ) (o : Name) → ((v : Value) → fin.get s.threads u ≡ Some (Ended v) → ⊥) → IsLent s w u mark o
      → IsLent r w1 u mark o
  lent_stays u mark o alive x = ⊎_elim
      (λ (e : x.parent ≡ t).
      let live : x.l ≡ is.l = same_live x.l is.l (sym x.live ∙ (ap (fin.get s.threads) e ∙ is.live)) in
      ⊎_elim
      (λ (pend : PendTerm c.thread.term x.number). record {
        number = x.number;
        parent = x.parent;
        is = x.is;
        l = c.thread;
        live = ap (fin.get r.threads) e ∙ live_pending x.number pend;
        pending = pend;
        kin = x.kin;
        has_kin = fc.grows.kin x.parent x.kin x.has_kin;
        whose = x.whose;
      })
      (λ (d : (v : Value) × (fin.get s.threads (x.number ∷ t) ≡ Some (Ended v))).
      absurd (alive d.0 (ap (fin.get s.threads) (x.is ∙ ap (λ q. x.number ∷ q) e) ∙ d.1)))
      (fc.keeps x.number (subst (λ q. PendTerm q.term x.number) live x.pending)))
      (λ (ne : x.parent ≢ t). record {
        number = x.number;
        parent = x.parent;
        is = x.is;
        l = x.l;
        live = thread_stays p s t c free is x.parent (Live x.l) ne x.live;
        pending = x.pending;
        kin = x.kin;
        has_kin = fc.grows.kin x.parent x.kin x.has_kin;
        whose = x.whose;
      })
      (cases_name x.parent t)

  named_before : (o : Name) (u v : ObjectType) → fin.get w.types o ≡ Some u → fin.get w1.types o ≡ Some v → fin.get w.types o ≡ Some v
  named_before o u v a b = a ∙ (sym (fc.grows.types o u a) ∙ b)

  live_not_ended_at : (u : Name) (l : Thread) → fin.get s.threads u ≡ Some (Live l) → (v : Value) → fin.get s.threads u ≡ Some (Ended v) → ⊥
  live_not_ended_at u l a v b = live_not_ended l v (sym a ∙ b)

  kin_at : (u : Name) (l : Thread) → Case u (Live l) → (j : Kin) × (fin.get w1.kin u ≡ Some j)
  kin_at u l (Itself e f) = (k, ap (fin.get w1.kin) e ∙ fc.grows.kin t k kin_t)
  kin_at u l (NewOne m e f) = let z = fc.kid u m e in (z.j, z.kin)
  kin_at u l (Older ne live) = let z = owned.kin u l live in (z.0, fc.grows.kin u z.0 z.1)

  fine_at : (u : Name) (l : Thread) (j : Kin) → fin.get w1.kin u ≡ Some j → Case u (Live l)
      → FineTerm y p.main u j.lent w1 no_types 0 l.objects l.term (Valued j.result)
  fine_at u l j kin (Itself e f) =
      let same : k ≡ j = same_some k j (sym (fc.grows.kin t k kin_t) ∙ (ap (fin.get w1.kin) (sym e) ∙ kin)) in
      let thread : l ≡ c.thread = live_settled p c.thread l (sym f) in
      subst (λ q. FineTerm y p.main q j.lent w1 no_types 0 l.objects l.term (Valued j.result)) (sym e)
      (subst (λ (q : Thread). FineTerm y p.main t j.lent w1 no_types 0 q.objects q.term (Valued j.result)) (sym thread)
      (subst (λ (q : Kin). FineTerm y p.main t q.lent w1 no_types 0 c.thread.objects c.thread.term (Valued q.result)) same fc.after))
  fine_at u l j kin (NewOne m e f) =
      let z = fc.kid u m e in
      let same : z.j ≡ j = same_some z.j j (sym z.kin ∙ kin) in
      let thread : l ≡ m = live_settled p m l (sym f) in
      subst (λ (q : Thread). FineTerm y p.main u j.lent w1 no_types 0 q.objects q.term (Valued j.result)) (sym thread)
      (subst (λ (q : Kin). FineTerm y p.main u q.lent w1 no_types 0 m.objects m.term (Valued q.result)) same z.fine)
  fine_at u l j kin (Older ne live) =
      let z = owned.kin u l live in
      let same : z.0 ≡ j = same_some z.0 j (sym (fc.grows.kin u z.0 z.1) ∙ kin) in
      subst (λ (q : Kin). FineTerm y p.main u q.lent w1 no_types 0 l.objects l.term (Valued q.result)) same
      (term_more w w1 fc.grows y p.main u z.0.lent l.objects l.objects (omega arith) no_types 0 l.term (Valued z.0.result)
      (owned.fine u l z.0 live z.1))

  lent_at : (u : Name) (l : Thread) (j : Kin) (o : Name) (v : ValueType) → fin.get w1.kin u ≡ Some j → IsNameIn o j.lent
      → fin.get w1.types o ≡ Some (Named v) → Case u (Live l) → IsLent r w1 u j.mark o
  lent_at u l j o v kin among named (Itself e f) =
      let same : k ≡ j = same_some k j (sym (fc.grows.kin t k kin_t) ∙ (ap (fin.get w1.kin) (sym e) ∙ kin)) in
      let there = subst (λ (q : Kin). IsNameIn o q.lent) (sym same) among in
      let type = owned.typed t k o kin_t there in
      subst (λ q. IsLent r w1 q j.mark o) (sym e)
      (lent_stays t j.mark o (live_not_ended_at t is.l is.live)
      (subst (λ (q : Kin). IsLent s w t q.mark o) same
      (owned.lent t is.l k o v is.live kin_t there (named_before o type.0 (Named v) type.1 named))))
  lent_at u l j o v kin among named (NewOne m e f) =
      let z = fc.kid u m e in
      let same : z.j ≡ j = same_some z.j j (sym z.kin ∙ kin) in
      let there = subst (λ (q : Kin). IsNameIn o q.lent) (sym same) among in
      let type = z.typed o there in
      let lends = z.lends o v there (named_before o type.0 (Named v) type.1 named) in
      record {
        number = lends.0;
        parent = t;
        is = lends.1;
        l = c.thread;
        live = live_pending lends.0 lends.2;
        pending = lends.2;
        kin = k;
        has_kin = fc.grows.kin t k kin_t;
        whose = subst (λ (q : Kin). ((i : ℕ) × (o ≡ i ∷ t) × (i < q.mark)) ⊎ IsNameIn o k.lent) same lends.3;
      }
  lent_at u l j o v kin among named (Older ne live) =
      let z = owned.kin u l live in
      let same : z.0 ≡ j = same_some z.0 j (sym (fc.grows.kin u z.0 z.1) ∙ kin) in
      let there = subst (λ (q : Kin). IsNameIn o q.lent) (sym same) among in
      let type = owned.typed u z.0 o z.1 there in
      lent_stays u j.mark o (live_not_ended_at u l live)
      (subst (λ (q : Kin). IsLent s w u q.mark o) same
      (owned.lent u l z.0 o v live z.1 there (named_before o type.0 (Named v) type.1 named)))

  ended_at : (u : Name) (v : Value) (j : Kin) → fin.get w1.kin u ≡ Some j → Case u (Ended v) → Fits w1 v j.result
  ended_at u v j kin (Itself e f) =
      let same : k ≡ j = same_some k j (sym (fc.grows.kin t k kin_t) ∙ (ap (fin.get w1.kin) (sym e) ∙ kin)) in
      subst (λ (q : Kin). Fits w1 v q.result) same (ended_value t k c.thread v fc.after (sym f))
  ended_at u v j kin (NewOne m e f) =
      let z = fc.kid u m e in
      let same : z.j ≡ j = same_some z.j j (sym z.kin ∙ kin) in
      subst (λ (q : Kin). Fits w1 v q.result) same (ended_value u z.j m v z.fine (sym f))
  ended_at u v j kin (Older ne there) = ⊎_elim
      (λ (old : fin.get w.kin u ≡ Some j). fits_more w w1 fc.grows v j.result (owned.ended u v j there old))
      (λ (key : IsKey u c.new). absurd (was_there u (Ended v) there key))
      (fc.kin_case u j kin)

  abbrev AskedAt : Name → Thread → ℕ → Type 0
  AskedAt u l made = (j : Kin) × (fin.get w1.kin (made ∷ u) ≡ Some j)
      × ((line : ℕ) (q : Ask Name) (go : Answer Name → After Term) → next p l.term ≡ Asks line q go → IsCallOf y q j.result)

  asked_at : (u : Name) (l : Thread) (made : ℕ) → l.asked ≡ Some made → Case u (Live l) → AskedAt u l made
  asked_at u l made h (Itself e f) =
      let thread : l ≡ c.thread = live_settled p c.thread l (sym f) in
      subst (λ q. AskedAt q l made) (sym e)
      (subst (λ (q : Thread). AskedAt t q made) (sym thread) (fc.asked made (subst (λ (q : Thread). q.asked ≡ Some made) thread h)))
  asked_at u l made h (NewOne m e f) =
      let z = fc.kid u m e in
      let thread : l ≡ m = live_settled p m l (sym f) in
      absurd (some_not_none made (sym (subst (λ (q : Thread). q.asked ≡ Some made) thread h) ∙ z.not_asked))
  asked_at u l made h (Older ne live) = let z = owned.asked u l made live h in (z.0, fc.grows.kin (made ∷ u) z.0 z.1, z.2)

  placed_at : (u : Name) (l : Thread) → Case u (Live l) → IsPlace r l.home
  placed_at u l (Itself e f) =
      let thread : l ≡ c.thread = live_settled p c.thread l (sym f) in
      subst (IsPlace r) (sym (ap (λ (q : Thread). q.home) thread ∙ fc.home)) (place_stays is.l.home (owned.places t is.l is.live))
  placed_at u l (NewOne m e f) =
      let thread : l ≡ m = live_settled p m l (sym f) in
      subst (IsPlace r) (sym (ap (λ (q : Thread). q.home) thread)) (place_stays m.home (fc.kid u m e).placed)
  placed_at u l (Older ne live) = place_stays l.home (owned.places u l live)

  home_at : (o : Name) (x : Object) → fin.get r.objects o ≡ Some x → IsPlace r x.home
  home_at o x h = from (fin.get s.objects o) refl
    where
      entry : (z : Object) → IsEntry o z c.effect.objects → z ≡ x → IsPlace r x.home
      entry z e same = ⊎_elim
          (λ (a : z.home ≡ is.l.home).
          subst (IsPlace r) (sym a ∙ ap (λ (q : Object). q.home) same) (place_stays is.l.home (owned.places t is.l is.live)))
          (λ (a : IsKey z.home c.effect.objects).
          let q = puts_key c.effect.objects (write_all s.objects c.effect.writes) z.home a in
          subst (IsPlace r) (ap (λ (q : Object). q.home) same) (inr (q.0, q.2)))
          (fc.homes o z e)

      from : (a : Option Object) → fin.get s.objects o ≡ a → IsPlace r x.home
      from (Some a) e =
          let b = object_stays p s t c free is o a e in
          let same : b.0 ≡ x = same_some b.0 x (sym b.1 ∙ h) in
          subst (IsPlace r) (sym b.2 ∙ ap (λ (q : Object). q.home) same) (place_stays a.home (owned.homes o a e))
      from None e = ⊎_elim
          (λ (a : fin.get (puts c.effect.objects (write_all s.objects c.effect.writes)) o ≡ fin.get (write_all s.objects c.effect.writes) o).
          absurd (some_not_none x (sym h ∙ (a ∙ writes_none c.effect.writes s.objects o e))))
          (λ (z : (z : Object) × IsEntry o z c.effect.objects × (fin.get (puts c.effect.objects (write_all s.objects c.effect.writes)) o ≡ Some z)).
          entry z.0 z.1 (same_some z.0 x (sym z.2 ∙ h)))
          (puts_case c.effect.objects (write_all s.objects c.effect.writes) o)

  pub kept : IsOwned p y w1 r
  kept = record {
    kin = λ u l live. kin_at u l (case u (Live l) live);
    fine = λ u l j live kin. fine_at u l j kin (case u (Live l) live);
    lent = λ u l j o v live kin among named. lent_at u l j o v kin among named (case u (Live l) live);
    ended = λ u v j there kin. ended_at u v j kin (case u (Ended v) there);
    asked = λ u l made live h. asked_at u l made h (case u (Live l) live);
    typed = λ u j o kin among. ⊎_elim
        (λ (old : fin.get w.kin u ≡ Some j). let a = owned.typed u j o old among in (a.0, fc.grows.types o a.0 a.1))
        (λ (key : IsKey u c.new).
        let e = entry_of_key u c.new key in
        let z = fc.kid u e.0 e.1 in
        let same : z.j ≡ j = same_some z.j j (sym z.kin ∙ kin) in
        let a = z.typed o (subst (λ (q : Kin). IsNameIn o q.lent) (sym same) among) in
        (a.0, fc.grows.types o a.0 a.1))
        (fc.kin_case u j kin);
    known = λ u j kin none. ⊎_elim
        (λ (old : fin.get w.kin u ≡ Some j). owned.known u j old (puts_none entries s.threads u none))
        (λ (key : IsKey u c.new).
        let z = puts_key entries s.threads u (inr (settled_key p c.new u key)) in some_not_none z.0 (sym z.2 ∙ none))
        (fc.kin_case u j kin);
    store = fc.store;
    places = λ u l live. placed_at u l (case u (Live l) live);
    homes = home_at;
  }
