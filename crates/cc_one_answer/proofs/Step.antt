-- Each move leaves an owned configuration, in a world that goes on.
use Rattle.std.proofs.Common.{◌≡◌, ◌≢◌, ◌⊎◌, ℕ, ◌+◌, Bool, true, false, cond, List, [], ◌∷◌, ◌++◌, length, Some, None, refl, sym, ap, subst, ◌∙◌}
use Rattle.std.proofs.Common.{⊎_elim, inl, inr, arith}
use Rattle.std.specs.FinMap as fin
use Rattle.cc_ops.specs.Values.{Ptr}
use Rattle.cc_core.specs.Names.{Name, Value, puts}
use Rattle.cc_core.specs.Core.{Term}
use Rattle.cc_core.specs.Core.{Program, shapes}
use Rattle.cc_core.specs.Types.{ValueType, Cells, Types, no_types}
use Rattle.cc_one_answer.specs.Sorts.{Valued, ObjectType}
use Rattle.cc_one_answer.specs.Sorts.{Kin, World, Grows, IsNameIn, Fits, HasSort, cell_type, CellsFit}
use Rattle.cc_one_answer.specs.Owned.{PendTerm}
use Rattle.cc_one_answer.specs.Owned.{FineTerm}
use Rattle.cc_core.specs.Asks.{Ask, Answer, Reads, Writes, Copies, Indexes, Shifts, Computes, Tests, Makes, MakesWith, Builds, Enters}
use Rattle.cc_core.specs.Asks.{Leaves, ForksAll, ForksOne, Joins, Spawns, Prints, Calls, Casts, NewProcessor}
use Rattle.cc_core.specs.Next.{Next, Asks, After}
use Rattle.cc_core.specs.Effects.{branch_count, first_objects, numbers}
use Rattle.cc_one_answer.proofs.More.{grows_same, fits_more}
use Rattle.cc_one_answer.proofs.More.{term_more}
use Rattle.cc_one_answer.proofs.Fine.{Gift, IsJoined, own_of, ValuesOf, IsAnswer}
use Rattle.cc_one_answer.proofs.Fine.{IsFineAsk}
use Rattle.cc_core.specs.Next.{next}
use Rattle.cc_core.specs.Config.{Config, Thread, Ended, Object}
use Rattle.cc_core.specs.Needs.{Go, needs, check_all}
use Rattle.cc_core.specs.Laws.{NamesAreFree}
use Rattle.cc_core.proofs.Maps.{cases_name, get_same, get_other, IsKey, IsEntry, key_of_entry, puts_case, puts_other, puts_key}
use Rattle.cc_one_answer.specs.Apart.{IsAsking, IsPlace}
use Rattle.cc_one_answer.specs.Determinate.{IsDeterminate}
use Rattle.cc_one_answer.specs.Owned.{IsCallOf, IsOwned}
use Rattle.cc_one_answer.proofs.Distinct.{none_written, same_place, same_written, some_not_none, same_some}
use Rattle.std.proofs.Common.{length-append}
use Rattle.cc_core.specs.Config.{write_all}
use Rattle.cc_core.specs.Effects.{Effect, effect, answer, is_call, start_home}
use Rattle.cc_core.specs.Steps.{Change, change, apply, step, Moves, grown}
use Rattle.cc_core.proofs.Forks.{ForksAsAsked, forks_as_asked}
use Rattle.cc_core.proofs.Fresh.{new_thread_is}
use Rattle.cc_one_answer.proofs.Moves.{taken, IsWaiting, IsMove, Met, Taken, move_case}
use Rattle.cc_one_answer.proofs.Adds.{writes_are}
use Rattle.cc_one_answer.proofs.Swaps.{IsOne, write_is, with_cell}
use Rattle.cc_one_answer.proofs.After.{IsChange, made_absent, new_absent}
use Rattle.cc_one_answer.proofs.Commute.{change_met}
use Rattle.cc_one_answer.proofs.Owners.{good_asks, GoodAsk, cell_of_sort, apart_owned}
use Rattle.cc_one_answer.proofs.Kept.{IsKid, FineChange, kept}
use Rattle.cc_one_answer.proofs.Built.{cells_written, typed}
use Rattle.cc_one_answer.proofs.Made.{kinned, kinned_key, key_kinned, kinned_entry, typed_key, InStep, in_step, cells_more, among_numbers}
use Rattle.cc_one_answer.proofs.Made.{numbers_among, number_key, kid_at, own_is, h, values_of, objects_fit, kids_of, starts_or}
use Rattle.cc_one_answer.proofs.Made.{joined_ended, start_place, object_places, call_kin, call_starts}

same_ask : {V A : Type 0} (n m : ℕ) (q r : Ask Name) (f g : Answer Name → After A) → ◌≡◌ {A = Next V A} (Asks n q f) (Asks m r g) → q ≡ r
same_ask {V} {A} n m q r f g e = cc

-- a thread whose needs are met
module _ (p : Program) (y : Types) (det : IsDeterminate p y) (w : World) (s : Config) (owned : IsOwned p y w s) (free : NamesAreFree s)
    (t : Name) (a : IsAsking p s t) (found : List Value) (met : check_all (shapes p) s t a.l (needs (shapes p) a.ask) ≡ Go found) (k : Kin)
    (kin_t : fin.get w.kin t ≡ Some k) where
  abbrev e : Effect
  e = effect (shapes p) t a.l a.ask found

  abbrev x : Answer Name
  x = answer a.l a.ask e found

  abbrev c : Change
  c = change p t s a.l a.ask a.k found

  abbrev terms : List Term
  terms = e.starts ++ (a.k x).branches

  pub good : GoodAsk p y det w s owned t a.l k a.ask a.k
  good = good_asks p y det w s owned t a.l k a.live kin_t a.line a.ask a.k a.asks

  abbrev is : IsChange s t c
  is = change_met p s free (apart_owned p y det w s owned) t a found met

  abbrev w1 : World
  w1 = record { types = puts (typed e.objects good.gift.makes) w.types; kin = puts (kinned c.new good.gift.kin) w.kin }

  grows : Grows w w1
  grows = record {
    types = λ o b q. puts_other (typed e.objects good.gift.makes) w.types o (λ key.
        let z = owned.store o b q in
        some_not_none z.0 (sym z.1 ∙ made_absent p s t c free is o (is.objects o (typed_key e.objects good.gift.makes o key)))) ∙ q;
    kin = λ u j q. puts_other (kinned c.new good.gift.kin) w.kin u (λ key.
        owned.known u j q (new_absent p s t c free is u (kinned_key c.new good.gift.kin u key))) ∙ q;
  }

  many_branches : length (a.k x).branches ≡ branch_count a.ask
  many_branches = subst ForksAsAsked a.asks (forks_as_asked p a.l.term) x

  many_terms : length terms ≡ length e.starts + branch_count a.ask
  many_terms = length-append e.starts (a.k x).branches ∙ ap (λ n. length e.starts + n) many_branches

  kin_new : (u : Name) → IsKey u c.new → fin.get w1.kin u ≡ Some good.gift.kin
  kin_new u key =
      let z = puts_key (kinned c.new good.gift.kin) w.kin u (key_kinned c.new good.gift.kin u key) in
      z.2 ∙ ap Some (kinned_entry c.new good.gift.kin z.0 u z.1)

  ans : IsAnswer p y w t k.lent a.l.objects a.l.threads w1 good.gift a.ask x
  ans = record {
    values = values_of p y det w s owned free t a.l k a.live kin_t a.ask good.gift found good.ask met w1 refl grows;
    made = refl;
    kin = λ b i.
        let r = numbers_among a.l.threads (branch_count a.ask) b i in
        let low = r.0 in let high = r.1 in let many = many_terms in
        kin_new (b ∷ t) (number_key t a.l.threads (start_home s a.l a.ask) (first_objects a.ask) terms b low (omega (arith, high, many)));
  }

  abbrev Top : Thread → Type 0
  Top z = FineTerm y p.main t k.lent w1 no_types 0 z.objects z.term (Valued k.result)

  after_by : (b : Bool) → Top (cond b (grown a.l a.l.term (Some a.l.threads) c.new e) (grown a.l (a.k x).left None c.new e))
  after_by true = term_more w w1 grows y p.main t k.lent a.l.objects (a.l.objects + e.own) (omega arith) no_types 0 a.l.term (Valued k.result)
      (owned.fine t a.l k a.live kin_t)
  after_by false = subst (λ n. FineTerm y p.main t k.lent w1 no_types 0 (a.l.objects + n) (a.k x).left (Valued k.result))
      (sym (own_is (shapes p) t a.l a.ask found)) (good.fine w1 x grows ans)

  abbrev Ends : ℕ → Type 0
  Ends b = (v : Value) × (fin.get s.threads (b ∷ t) ≡ Some (Ended v))

  keeps_by : (q : Bool) (b : ℕ) → PendTerm a.l.term b
      → PendTerm (cond q (grown a.l a.l.term (Some a.l.threads) c.new e) (grown a.l (a.k x).left None c.new e)).term b ⊎ Ends b
  keeps_by true b pend = inl pend
  keeps_by false b pend = ⊎_elim
      (λ (z : PendTerm (a.k x).left b). inl z)
      (λ (z : IsJoined a.ask b). inr (joined_ended p y det w s owned free t a.l k a.live kin_t a.ask found met b z))
      (good.keeps x b pend)

  home_by : (q : Bool) → (cond q (grown a.l a.l.term (Some a.l.threads) c.new e) (grown a.l (a.k x).left None c.new e)).home ≡ a.l.home
  home_by true = refl
  home_by false = refl

  abbrev AskedBy : Thread → Type 0
  AskedBy z = (made : ℕ) → z.asked ≡ Some made → (j : Kin) × (fin.get w1.kin (made ∷ t) ≡ Some j)
      × ((line : ℕ) (q : Ask Name) (go : Answer Name → After Term) → next p z.term ≡ Asks line q go → IsCallOf y q j.result)

  asked_by : (q : Bool) → is_call a.ask ≡ q → AskedBy (cond q (grown a.l a.l.term (Some a.l.threads) c.new e) (grown a.l (a.k x).left None c.new e))
  asked_by true call made h =
      let number : a.l.threads ≡ made = same_some a.l.threads made h in
      let many = many_terms in
      let starts = call_starts p y det w s owned free t a.l k a.live kin_t a.ask found call in (
        good.gift.kin,
        kin_new (made ∷ t) (number_key t a.l.threads (start_home s a.l a.ask) (first_objects a.ask) terms made
            (omega (arith, number)) (omega (arith, number, many, starts))),
        λ line q go f. subst (λ z. IsCallOf y z good.gift.kin.result)
            (same_ask {V = Value} {A = Term} a.line line a.ask q a.k go (sym a.asks ∙ f))
            (call_kin p y det w s owned free t a.l k a.live kin_t a.ask good.gift good.ask call),
      )
  asked_by false call made h = absurd (some_not_none made (sym h))

  pend_by : (q : Bool) → is_call a.ask ≡ q → (b : ℕ) → length e.starts ≡ 0 → PendTerm (a.k x).left b
      → PendTerm (cond q (grown a.l a.l.term (Some a.l.threads) c.new e) (grown a.l (a.k x).left None c.new e)).term b
  pend_by true call b none pend =
      let starts = call_starts p y det w s owned free t a.l k a.live kin_t a.ask found call in absurd (omega (arith, starts, none))
  pend_by false call b none pend = pend

  kid : (u : Name) (m : Thread) → IsEntry u m c.new → IsKid p y w s t c k w1 u m
  kid u m entry =
      let fine = kid_at p y w t k.lent a.l.objects a.l.threads w1 (first_objects a.ask) good.gift.kin a.l.threads (start_home s a.l a.ask) terms u m
      (kids_of p y det w s owned free t a.l k a.live kin_t a.ask good.gift found (a.k x).branches good.ask many_branches w1 grows
      (good.kids w1 x grows ans)) entry in
      let i = new_thread_is t a.l.threads (start_home s a.l a.ask) (first_objects a.ask) terms u m entry in
      record {
        j = good.gift.kin;
        kin = kin_new u (key_of_entry u m c.new entry);
        fine = fine.0;
        not_asked = fine.1;
        placed = subst (IsPlace s) (sym fine.2) (start_place p y det w s owned free t a.l k a.live kin_t a.ask);
        lends = λ o v among named. ⊎_elim
            (λ (none : length e.starts ≡ 0).
            let low = i.low in let high = i.high in let many = many_terms in (
              i.number,
              i.named,
              pend_by (is_call a.ask) refl i.number none (good.pends x i.number refl
                  (among_numbers a.l.threads (branch_count a.ask) i.number low (omega (arith, high, many, none)))),
              good.lends o v among named,
            ))
            (λ (none : good.gift.kin.lent ≡ []). absurd (subst (IsNameIn o) none among))
            (starts_or p y det w s owned free t a.l k a.live kin_t a.ask good.gift found good.ask);
        typed = λ o among. good.known o among;
      }

  -- what a write leaves
  written_step : (o : Name) (b : ObjectType) → fin.get w.types o ≡ Some b → (z : Object) → fin.get s.objects o ≡ Some z
      → CellsFit w y b z.cells → (one : IsOne s.objects e.writes)
      → (q : Object) × (fin.get (write_all s.objects e.writes) o ≡ Some q) × CellsFit w1 y b q.cells
  written_step o b type z there fit one =
      let put : write_all s.objects e.writes ≡ fin.insert s.objects one.o (with_cell one.write.object one.x one.write.new) =
      ap (write_all s.objects) one.is ∙ write_is s.objects one.o one.x one.v one.write in
      ⊎_elim
      (λ (q : o ≡ one.o).
      let same : z ≡ one.write.object = same_some z one.write.object (sym there ∙ (ap (fin.get s.objects) q ∙ one.write.there)) in
      ⊎_elim
      (λ (none : e.writes ≡ []). absurd (none_written _ (sym none ∙ one.is)))
      (λ (i : (remote : Bool) × (a' : Value) × (v : Value) × (a.ask ≡ Writes remote a' v) × (e.writes ≡ (a', v) ∷ [])).
      let to : i.1 ≡ Ptr one.o one.x = same_place i.1 i.2 (Ptr one.o one.x) one.v (sym i.4 ∙ one.is) in
      let of : i.2 ≡ one.v = same_written i.1 i.2 (Ptr one.o one.x) one.v (sym i.4 ∙ one.is) in
      let wr = subst (IsFineAsk p y w t k.lent a.l.objects a.l.threads 0 (PendTerm a.l.term) good.gift) i.3 good.ask in
      let leads = subst (λ v. HasSort w y t k.lent v wr.0) to wr.3 in
      let cell_is = cell_of_sort p y det w s owned t k.lent one.o one.x wr.0 wr.1 wr.2 leads wr.4 in
      let kind : cell_is.0 ≡ b = same_some cell_is.0 b (sym cell_is.1 ∙ (ap (fin.get w.types) (sym q) ∙ type)) in (
        with_cell one.write.object one.x one.write.new,
        ap (λ m. fin.get m o) put
            ∙ (ap (fin.get (fin.insert s.objects one.o (with_cell one.write.object one.x one.write.new))) q
            ∙ get_same s.objects one.o (with_cell one.write.object one.x one.write.new)),
        cells_written w1 y b one.write.object.cells one.x one.write.old one.write.new one.v wr.1 wr.2
            (cells_more w w1 grows y b one.write.object.cells (subst (λ (v : Object). CellsFit w y b v.cells) same fit)) one.write.cell
            (subst (λ v. cell_type y v one.x ≡ Some (Cells wr.1 wr.2)) kind cell_is.2)
            (fits_more w w1 grows one.v wr.2 (subst (λ v. Fits w v wr.2) of wr.5)) one.write.fits,
      ))
      (writes_are (shapes p) t a.l a.ask found))
      (λ (q : o ≢ one.o). (
        z,
        ap (λ m. fin.get m o) put ∙ (get_other s.objects one.o (with_cell one.write.object one.x one.write.new) o q ∙ there),
        cells_more w w1 grows y b z.cells fit,
      ))
      (cases_name o one.o)

  before_new : InStep w1 y (write_all s.objects e.writes) w.types
  before_new o b type =
      let z = owned.store o b type in
      ⊎_elim
      (λ (none : e.writes ≡ []). (
        z.0,
        ap (λ ws. fin.get (write_all s.objects ws) o) none ∙ z.1,
        cells_more w w1 grows y b z.0.cells z.2,
      ))
      (λ (one : IsOne s.objects e.writes). written_step o b type z.0 z.1 z.2 one)
      is.writes

  fine_met : FineChange p y w s t c a.l k w1
  fine_met = record {
    grows = grows;
    after = after_by (is_call a.ask);
    keeps = keeps_by (is_call a.ask);
    home = home_by (is_call a.ask);
    asked = asked_by (is_call a.ask) refl;
    kid = kid;
    kin_case = λ u j q. ⊎_elim
        (λ (z : fin.get (puts (kinned c.new good.gift.kin) w.kin) u ≡ fin.get w.kin u). inl (sym z ∙ q))
        (λ (z : (v : Kin) × IsEntry u v (kinned c.new good.gift.kin) × (fin.get (puts (kinned c.new good.gift.kin) w.kin) u ≡ Some v)).
        inr (kinned_key c.new good.gift.kin u (key_of_entry u z.0 (kinned c.new good.gift.kin) z.1)))
        (puts_case (kinned c.new good.gift.kin) w.kin u);
    store = in_step w1 y e.objects good.gift.makes (write_all s.objects e.writes) w.types
        (objects_fit p y det w s owned free t a.l k a.live kin_t a.ask good.gift found good.ask met w1 grows) before_new;
    homes = object_places p y det w s owned free t a.l k a.live kin_t a.ask found;
  }

  pub met_owned : IsOwned p y w1 (apply p t c s)
  met_owned = kept p y det w s owned free t c is k kin_t w1 fine_met

-- a thread that takes the value of its call
module _ (p : Program) (y : Types) (det : IsDeterminate p y) (w : World) (s : Config) (owned : IsOwned p y w s) (free : NamesAreFree s)
    (t : Name) (a : IsWaiting p s t) (v : Value) (done : fin.get s.threads (a.made ∷ t) ≡ Some (Ended v)) (k : Kin)
    (kin_t : fin.get w.kin t ≡ Some k) where
  abbrev TakenAs : Gift → Ask Name → Type 0
  TakenAs g q = ValuesOf p y w t k.lent a.l.objects a.l.threads w g q (v ∷ []) × (branch_count q ≡ 0) × (own_of (shapes p) q ≡ 0)
      × ((b : ℕ) → IsJoined q b → ⊥)

  taken_as : (q : Ask Name) (g : Gift) (u : ValueType) → IsFineAsk p y w t k.lent a.l.objects a.l.threads 0 (PendTerm a.l.term) g q
      → IsCallOf y q u → Fits w v u → TakenAs g q
  taken_as (Reads remote a) g u f c fit = absurd c
  taken_as (Writes remote a b) g u f c fit = absurd c
  taken_as (Copies a n) g u f c fit = absurd c
  taken_as (Indexes a n i) g u f c fit = absurd c
  taken_as (Shifts a i) g u f c fit = absurd c
  taken_as (Computes op vs) g u f c fit = absurd c
  taken_as Tests g u f c fit = absurd c
  taken_as (Makes kind n) g u f c fit = absurd c
  taken_as (MakesWith kind b) g u f c fit = absurd c
  taken_as (Builds c' vs) g u f c fit = absurd c
  taken_as (Enters f' o vs) g u f c fit = absurd c
  taken_as Leaves g u f c fit = absurd c
  taken_as (ForksAll n) g u f c fit = absurd c
  taken_as (ForksOne b) g u f c fit = absurd c
  taken_as (Joins made) g u f c fit = absurd c
  taken_as (Spawns f' o vs) g u f c fit = absurd c
  taken_as (Prints parts vs) g u f c fit = absurd c
  taken_as (Calls f' o vs) g u f c fit = (subst (Fits w v) (c ∙ sym f.1) fit, refl, refl, λ b z. z)
  taken_as (Casts f' o vs) g u f c fit = absurd c
  taken_as (NewProcessor c' vs) g u f c fit = absurd c

  pub good_t : GoodAsk p y det w s owned t a.l k a.ask a.k
  good_t = good_asks p y det w s owned t a.l k a.live kin_t a.line a.ask a.k a.asks

  called : TakenAs good_t.gift a.ask
  called =
      let q = owned.asked t a.l a.made a.live a.asked in
      taken_as a.ask good_t.gift q.0.result good_t.ask (q.2 a.line a.ask a.k a.asks) (owned.ended (a.made ∷ t) v q.0 done q.1)

  abbrev answer_t : Answer Name
  answer_t = record { values = v ∷ []; made = [] }

  ans_t : IsAnswer p y w t k.lent a.l.objects a.l.threads w good_t.gift a.ask answer_t
  ans_t = record {
    values = called.0;
    made = ap (numbers a.l.threads) (sym called.1);
    kin = λ b i. absurd i;
  }

  fine_taken : FineChange p y w s t (taken a.l a.k v) a.l k w
  fine_taken = record {
    grows = grows_same w;
    after = subst (λ n. FineTerm y p.main t k.lent w no_types 0 n (a.k answer_t).left (Valued k.result)) (same called.2)
        (good_t.fine w answer_t (grows_same w) ans_t);
    keeps = λ b h. ⊎_elim
        (λ (z : PendTerm (a.k answer_t).left b). inl z)
        (λ (z : IsJoined a.ask b). absurd (called.3 b z))
        (good_t.keeps answer_t b h);
    home = refl;
    asked = λ made h. absurd (some_not_none made (sym h));
    kid = λ u m h. absurd h;
    kin_case = λ u j h. inl h;
    store = owned.store;
    homes = λ o x h. absurd h;
  }
    where
      same : own_of (shapes p) a.ask ≡ 0 → a.l.objects + own_of (shapes p) a.ask ≡ a.l.objects
      same e = omega (arith, e)

  abbrev is_taken : IsChange s t (taken a.l a.k v)
  is_taken = record { l = a.l; live = a.live; threads = λ u h. absurd h; objects = λ o h. absurd h; writes = inl refl }

  pub taken_owned : IsOwned p y w (apply p t (taken a.l a.k v) s)
  taken_owned = kept p y det w s owned free t (taken a.l a.k v) is_taken k kin_t w fine_taken

pub owned_step : (p : Program) (y : Types) → IsDeterminate p y → (w : World) (s s1 : Config) → IsOwned p y w s → NamesAreFree s → (t : Name)
    → step p t s ≡ Moves s1 → (w1 : World) × IsOwned p y w1 s1
owned_step p y det w s s1 owned free t move = from (move_case p t s s1 move)
  where
    from : IsMove p t s s1 → (w1 : World) × IsOwned p y w1 s1
    from (Met m) =
        let k = owned.kin t m.a.l m.a.live in
        let v = w1 p y det w s owned free t m.a m.found m.met k.0 k.1 in
        (v, subst (λ z. IsOwned p y v z) (sym m.is) (met_owned p y det w s owned free t m.a m.found m.met k.0 k.1))
    from (Taken m) =
        let k = owned.kin t m.a.l m.a.live in
        (w, subst (IsOwned p y w) (sym m.is) (taken_owned p y det w s owned free t m.a m.v m.ended k.0 k.1))
