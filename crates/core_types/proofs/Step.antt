-- Each step of a typed configuration is typed.
use Rattle.core_types.proofs.Cases.{AMet, AJoin, step_is}
use Rattle.std.proofs.Common.{◌≡◌, ℕ, suc, ◌<◌, Bool, true, false, List, [], ◌∷◌, ◌++◌, length, Some, None, refl, sym, ap, subst, ◌∙◌}
use Rattle.std.proofs.Common.{⊎_elim, inl, inr, arith}
use Rattle.std.specs.Prelude.{if◌then◌else◌}
use Rattle.std.specs.FinMap as fin
use Rattle.cc_core.specs.Names.{Name, Map, Value, puts}
use Rattle.cc_core.specs.Core.{Term, Program, Shapes, shapes}
use Rattle.cc_core.specs.Asks.{Ask, Answer, Reads, Writes, Copies, Indexes, Shifts, Computes, Tests, Makes, MakesWith, Builds, Enters}
use Rattle.cc_core.specs.Asks.{Leaves, ForksAll, ForksOne, Joins, Spawns, Prints, Calls, Casts, NewProcessor}
use Rattle.cc_core.specs.Next.{Next, Asks, After, next}
use Rattle.cc_core.specs.Config.{Config, Thread, Live, Ended, write_all}
use Rattle.cc_core.specs.Effects.{Effect, effect, answer, is_call, start_home, first_objects, branch_count}
use Rattle.cc_core.specs.Steps.{Moves, settle, new_threads, grown, change, step}
use Rattle.cc_core.specs.Laws.{NamesAreFree}
use Rattle.cc_core.proofs.Maps.{IsKey, IsEntry, puts_case, puts_key, puts_other, key_of_entry, entry_of_key}
use Rattle.cc_core.proofs.StepLaws.{IsMet}
use Rattle.cc_core.proofs.Fresh.{new_thread_is, new_object_is, Own, Copy, new_thread_key}
use Rattle.cc_core.proofs.Forks.{ForksAsAsked, forks_as_asked}
use Rattle.core_types.specs.Types.{ValueType, NoValue, Types, function_types}
use Rattle.core_types.specs.Values.{Content, ThreadEntry, World, Grows, Fits, AllFit}
use Rattle.core_types.specs.Typing.{nowhere, HasType}
use Rattle.core_types.specs.Asks.{IsAsk}
use Rattle.core_types.specs.Programs.{HasTypes}
use Rattle.core_types.specs.Runs.{InStep, IsKnown, IsTypedAt}
use Rattle.core_types.proofs.Basics.{same_some, some_not_none, comes_back}
use Rattle.core_types.proofs.More.{type_more}
use Rattle.core_types.proofs.Next.{NextIs, AreBranches, thread_typed}
use Rattle.core_types.proofs.Made.{known, known_key, in_step, is_known, step_more, start_result, AreKids, contents_of, answer_fits, objects_fit, no_kids, kids_fit, writes_fit, writes_known}
use Rattle.core_types.proofs.Kept.{Becomes, IsAfter, kept}

-- new threads, which all have one entry

abbrev entries : List (Name × Thread) → ThreadEntry → List (Name × ThreadEntry)
entries [] k = []
entries (e ∷ es) k = (e.0, k) ∷ entries es k

entries_key : (es : List (Name × Thread)) (k : ThreadEntry) (u : Name) → IsKey u (entries es k) → IsKey u es
entries_key [] k u h = h
entries_key (e ∷ es) k u h = ⊎_elim (λ (a : u ≡ e.0). inl a) (λ (b : IsKey u (entries es k)). inr (entries_key es k u b)) h

key_entries : (es : List (Name × Thread)) (k : ThreadEntry) (u : Name) → IsKey u es → IsKey u (entries es k)
key_entries [] k u h = h
key_entries (e ∷ es) k u h = ⊎_elim (λ (a : u ≡ e.0). inl a) (λ (b : IsKey u es). inr (key_entries es k u b)) h

same_entry : (es : List (Name × Thread)) (k j : ThreadEntry) (u : Name) → IsEntry u j (entries es k) → j ≡ k
same_entry [] k j u h = absurd h
same_entry (e ∷ es) k j u h = ⊎_elim (λ (a : (u ≡ e.0) × (j ≡ k)). a.1) (λ (b : IsEntry u j (entries es k)). same_entry es k j u b) h

entry_at : (es : List (Name × Thread)) (k : ThreadEntry) (m : Map ThreadEntry) (u : Name) → IsKey u es → fin.get (puts (entries es k) m) u ≡ Some k
entry_at es k m u h =
    let z = puts_key (entries es k) m u (key_entries es k u h) in z.2 ∙ ap Some (same_entry es k z.0 u z.1)

kid_at : (p : Program) (y : Types) (v : World) (j : ThreadEntry) (t : Name) (k : ℕ) (q : Name) (own : ℕ) (terms : List Term) (u : Name) (m : Thread)
    → AreKids p y v j terms → IsEntry u m (new_threads t k q own terms)
    → HasType p y v j.home nowhere m.term j.result × (m.asked ≡ None) × (m.home ≡ q)
kid_at p y v j t k q own [] u m fine h = absurd h
kid_at p y v j t k q own (term ∷ terms) u m fine h = ⊎_elim
    (λ (a : (u ≡ k ∷ t) × (m ≡ record { home = q; term = term; asked = None; threads = 0; objects = own; inside = [] })). (
      subst (λ (z : Thread). HasType p y v j.home nowhere z.term j.result) (sym a.1) fine.0,
      ap (λ (z : Thread). z.asked) a.1,
      ap (λ (z : Thread). z.home) a.1,
    ))
    (λ (b : IsEntry u m (new_threads t (suc k) q own terms)). kid_at p y v j t (suc k) q own terms u m fine.1 b)
    h

kids_of_branches : (p : Program) (y : Types) (ok : HasTypes p y) (w : World) (q : Name) (v : World) (es : List Term) → AreBranches p y ok w q v es
    → AreKids p y v (record { home = q; result = NoValue }) es
kids_of_branches p y ok w q v [] h = tt
kids_of_branches p y ok w q v (e ∷ es) h = (h.0, kids_of_branches p y ok w q v es h.1)

-- a call through a global pointer

abbrev IsCalls : Ask Name → Type 0
IsCalls ask = (f : ℕ) × (o : Value) × (vs : List Value) × (ask ≡ Calls f o vs)

call_is : (ask : Ask Name) → is_call ask ≡ true → IsCalls ask
call_is (Reads remote x) e = let z : false ≡ true = e in cc
call_is (Writes remote x v) e = let z : false ≡ true = e in cc
call_is (Copies x n) e = let z : false ≡ true = e in cc
call_is (Indexes x n i) e = let z : false ≡ true = e in cc
call_is (Shifts x i) e = let z : false ≡ true = e in cc
call_is (Computes op vs) e = let z : false ≡ true = e in cc
call_is Tests e = let z : false ≡ true = e in cc
call_is (Makes kind n) e = let z : false ≡ true = e in cc
call_is (MakesWith kind v) e = let z : false ≡ true = e in cc
call_is (Builds c vs) e = let z : false ≡ true = e in cc
call_is (Enters f o vs) e = let z : false ≡ true = e in cc
call_is Leaves e = let z : false ≡ true = e in cc
call_is (ForksAll n) e = let z : false ≡ true = e in cc
call_is (ForksOne x) e = let z : false ≡ true = e in cc
call_is (Joins made) e = let z : false ≡ true = e in cc
call_is (Spawns f o vs) e = let z : false ≡ true = e in cc
call_is (Prints parts vs) e = let z : false ≡ true = e in cc
call_is (Calls f o vs) e = (f, o, vs, refl)
call_is (Casts f o vs) e = let z : false ≡ true = e in cc
call_is (NewProcessor c vs) e = let z : false ≡ true = e in cc

call_result : (y : Types) (ask : Ask Name) (f : ℕ) (o : Value) (vs : List Value) → ask ≡ Calls f o vs
    → start_result y ask ≡ (function_types y f).result
call_result y ask f o vs e = ap (start_result y) e

if_true : {A : Type 0} (b : Bool) (x z : A) → b ≡ true → (if b then x else z) ≡ x
if_true true x z e = refl
if_true false x z e = let f : false ≡ true = e in cc

if_false : {A : Type 0} (b : Bool) (x z : A) → b ≡ false → (if b then x else z) ≡ z
if_false true x z e = let f : true ≡ false = e in cc
if_false false x z e = refl

module _ (p : Program) (y : Types) (ok : HasTypes p y) (w : World) (s r : Config) (typed : IsTypedAt p y w s) (free : NamesAreFree s) (t : Name) where
  -- an ask that is met

  module _ (m : IsMet p t s r) where
    abbrev l : Thread
    l = m.l

    abbrev q : Name
    q = m.l.home

    abbrev h : Shapes
    h = shapes p

    abbrev entry : ThreadEntry
    entry = (typed.threads t m.l m.live).0

    abbrev at_home : m.l.home ≡ entry.home
    at_home = (typed.threads t m.l m.live).2

    term_typed : HasType p y w q nowhere m.l.term entry.result
    term_typed = subst (λ z. HasType p y w z nowhere m.l.term entry.result) (sym at_home) (typed.threads t m.l m.live).3

    abbrev N : Next Value Term → Type 0
    N = NextIs p y ok w q true (λ x. Fits y w q x entry.result) (λ v e. HasType p y v q nowhere e entry.result)

    asked : N (Asks m.line m.ask m.k)
    asked = subst N m.asks (thread_typed p y ok w q m.l.term entry.result term_typed)

    module _ (us : List ValueType) (f : IsAsk p y w q true m.ask us)
        (after : (v : World) → Grows w v → (x : Answer Name) → AllFit y v q x.values us
        → HasType p y v q nowhere (m.k x).left entry.result × AreBranches p y ok w q v (m.k x).branches) where
      abbrev e : Effect
      e = effect h t m.l m.ask m.found

      abbrev x : After Term
      x = m.k (answer m.l m.ask e m.found)

      abbrev g : Becomes p s r t
      g = record {
        after = (change p t s m.l m.ask m.k m.found).thread;
        new = (change p t s m.l m.ask m.k m.found).new;
        threads_are = ap (λ (z : Config). z.threads) m.is;
      }

      abbrev kid : ThreadEntry
      kid = record { home = start_home s m.l m.ask; result = start_result y m.ask }

      abbrev ks : List Content
      ks = contents_of p y ok w s typed.objects t m.l m.ask us f

      abbrev v : World
      v = record { objects = puts (known e.objects ks) w.objects; threads = puts (entries g.new kid) w.threads }

      fresh : (o : Name) → IsKey o e.objects → fin.get s.objects o ≡ None
      fresh o k = elim (new_object_is h t m.l m.ask m.found o k) [
        | Own i ↦ ap (fin.get s.objects) i.named ∙ free.objects t m.l m.live i.number i.low
        | Copy i ↦ ap (fin.get s.objects) i.named
            ∙ free.no_objects (m.l.threads ∷ t) (free.threads t m.l m.live m.l.threads (omega arith)) 0
      ]

      fresh_thread : (u : Name) → IsKey u g.new → fin.get s.threads u ≡ None
      fresh_thread u k =
          let i = entry_of_key u g.new k in
          let n = new_thread_is t m.l.threads (start_home s m.l m.ask) (first_objects m.ask) (e.starts ++ x.branches) u i.0 i.1 in
          ap (fin.get s.threads) n.named ∙ free.threads t m.l m.live n.number n.low

      more : Grows w v
      more = record {
        objects = λ o a i.
            let b = typed.objects o a i in
            puts_other (known e.objects ks) w.objects o
            (λ k. some_not_none b.0 (sym b.1 ∙ fresh o (known_key e.objects ks o k))) ∙ i;
        threads = λ u k i.
            let b = typed.kept u k i in
            puts_other (entries g.new kid) w.threads u
            (λ z. some_not_none b.0 (sym b.1 ∙ fresh_thread u (entries_key g.new kid u z))) ∙ i;
      }

      branches : length x.branches ≡ branch_count m.ask
      branches = subst ForksAsAsked m.asks (forks_as_asked p m.l.term) (answer m.l m.ask e m.found)

      abbrev terms : List Term
      terms = e.starts ++ x.branches

      abbrev call_thread : Thread
      call_thread = grown m.l m.l.term (Some m.l.threads) g.new e

      abbrev next_thread : Thread
      next_thread = grown m.l x.left None g.new e

      to_home : (term : Term) → HasType p y v q nowhere term entry.result → HasType p y v entry.home nowhere term entry.result
      to_home term = subst (λ z. HasType p y v z nowhere term entry.result) at_home

      finish : IsAfter p y v t entry g.after → AreKids p y v (record { home = q; result = NoValue }) x.branches → IsTypedAt p y v r
      finish a b =
          let kids = kids_fit p y ok w s typed.objects t m.l v more m.ask us f m.found x.branches branches b in
          kept p y ok w v s r t g typed (record {
            more = more;
            objects = subst (λ (z : Config). InStep y v z.objects v.objects) (sym m.is)
                (in_step y v e.objects ks (write_all s.objects e.writes) w.objects
                (objects_fit p y ok w s typed.objects t m.l v more m.ask us f m.found m.met)
                (step_more y w v more (write_all s.objects e.writes) w.objects (writes_fit p y ok w s typed.objects t m.l m.ask us f m.found)));
            known = subst (λ (z : Config). IsKnown z.objects v.objects) (sym m.is)
                (is_known y v e.objects ks (write_all s.objects e.writes) w.objects
                (objects_fit p y ok w s typed.objects t m.l v more m.ask us f m.found m.met)
                (writes_known s.objects w.objects e.writes typed.known));
            entry = entry;
            entry_there = (typed.threads t m.l m.live).1;
            after = a;
            new = λ u n i.
                let k = kid_at p y v kid t m.l.threads (start_home s m.l m.ask) (first_objects m.ask) terms u n kids i in
                (kid, entry_at g.new kid w.threads u (key_of_entry u n g.new i), k.2, k.0, k.1);
            entry_case = λ u j i. ⊎_elim
                (λ (a : fin.get (puts (entries g.new kid) w.threads) u ≡ fin.get w.threads u). inl (sym a ∙ i))
                (λ (z : (z : ThreadEntry) × IsEntry u z (entries g.new kid) × (fin.get (puts (entries g.new kid) w.threads) u ≡ Some z)).
                inr (entries_key g.new kid u (key_of_entry u z.0 (entries g.new kid) z.1)))
                (puts_case (entries g.new kid) w.threads u);
          })

      -- a call through a global pointer: the thread stays at it
      called : is_call m.ask ≡ true → IsTypedAt p y v r
      called c = finish
          (subst (IsAfter p y v t entry) (sym (if_true (is_call m.ask) call_thread next_thread c)) (
            at_home,
            to_home m.l.term (type_more y w v more q p nowhere m.l.term entry.result term_typed),
            λ made i.
                let same : m.l.threads ≡ made = same_some m.l.threads made i in
                record {
                  line = m.line;
                  f = is.0;
                  object = is.1;
                  values = is.2;
                  go = m.k;
                  asks = m.asks ∙ ap (λ z. Asks m.line z m.k) is.3;
                  entry = kid;
                  there = subst (λ z. fin.get v.threads (z ∷ t) ≡ Some kid) same
                      (entry_at g.new kid w.threads (m.l.threads ∷ t)
                      (new_thread_key t m.l.threads (start_home s m.l m.ask) (first_objects m.ask) terms some_term));
                  gives = call_result y m.ask is.0 is.1 is.2 is.3;
                },
          ))
          (no_kids p y ok w s typed.objects t m.l v more (record { home = q; result = NoValue }) x.branches (branches ∙ ap branch_count is.3))
        where
          is : IsCalls m.ask
          is = call_is m.ask c

          some_term : 0 < length terms
          some_term = subst (λ z. 0 < length ((effect h t m.l z m.found).starts ++ x.branches)) (sym is.3) (omega arith)

      -- any other ask
      went : is_call m.ask ≡ false → IsTypedAt p y v r
      went c =
          let a = after v more (answer m.l m.ask e m.found)
          (answer_fits p y ok w s typed.objects t m.l v more m.ask us f m.found m.met refl c) in
          finish
          (subst (IsAfter p y v t entry) (sym (if_false (is_call m.ask) call_thread next_thread c)) (
            at_home,
            to_home x.left a.0,
            λ made i. absurd (some_not_none made (sym i)),
          ))
          (kids_of_branches p y ok w q v x.branches a.1)

      pub met_by : IsTypedAt p y v r
      met_by = from (is_call m.ask) refl
        where
          from : (b : Bool) → is_call m.ask ≡ b → IsTypedAt p y v r
          from true c = called c
          from false c = went c

    pub met_typed : (v : World) × IsTypedAt p y v r
    met_typed = (_, met_by asked.0 asked.1 asked.2)

  -- the join of a call through a global pointer

  same_ask : (line line' : ℕ) (a b : Ask Name) (k j : Answer Name → After Term) → ◌≡◌ {A = Next Value Term} (Asks line a k) (Asks line' b j) → a ≡ b
  same_ask line line' a b k j e = cc

  module _ (l : Thread) (live : fin.get s.threads t ≡ Some (Live l)) (line : ℕ) (ask : Ask Name) (k : Answer Name → After Term)
      (asks : next p l.term ≡ Asks line ask k) (made : ℕ) (was : l.asked ≡ Some made) (x : Value)
      (ended : fin.get s.threads (made ∷ t) ≡ Some (Ended x)) where
    abbrev joined_term : Term
    joined_term = (k (record { values = x ∷ []; made = [] })).left

    pub joined_typed : r ≡ record s { threads = fin.insert s.threads t (settle p (record l { term = joined_term; asked = None })) }
        → IsTypedAt p y w r
    joined_typed is =
        let g : Becomes p s r t = record {
          after = record l { term = joined_term; asked = None };
          new = [];
          threads_are = ap (λ (z : Config). z.threads) is;
        } in
        let z = typed.threads t l live in
        let wait = typed.waiting t l made live was in
        let kid = typed.ended (made ∷ t) x ended in
        let same : wait.entry ≡ kid.0 = same_some wait.entry kid.0 (sym wait.there ∙ kid.1) in
        let term = subst (λ h. HasType p y w h nowhere l.term z.0.result) (sym z.2) z.3 in
        let n = subst (NextIs p y ok w l.home true (λ x. Fits y w l.home x z.0.result) (λ v e. HasType p y v l.home nowhere e z.0.result)) asks
        (thread_typed p y ok w l.home l.term z.0.result term) in
        let call : IsAsk p y w l.home true (Calls wait.f wait.object wait.values) n.0 =
        subst (λ a. IsAsk p y w l.home true a n.0) (same_ask line wait.line ask (Calls wait.f wait.object wait.values) k wait.go (sym asks ∙ wait.asks)) n.1 in
        let result : kid.0.result ≡ (function_types y wait.f).result = ap (λ (j : ThreadEntry). j.result) (sym same) ∙ wait.gives in
        let value : Fits y w l.home x (function_types y wait.f).result =
        comes_back y w kid.0.home l.home x (function_types y wait.f).result call.0.5 (subst (Fits y w kid.0.home x) result kid.2) in
        let after = n.2 w (record { objects = λ o e i. i; threads = λ u j i. i }) (record { values = x ∷ []; made = [] })
        (subst (AllFit y w l.home (x ∷ [])) (sym call.2) (value, refl)) in
        kept p y ok w w s r t g typed (record {
          more = record { objects = λ o e i. i; threads = λ u j i. i };
          objects = subst (λ (c : Config). InStep y w c.objects w.objects) (sym is) typed.objects;
          known = subst (λ (c : Config). IsKnown c.objects w.objects) (sym is) typed.known;
          entry = z.0;
          entry_there = z.1;
          after = (z.2, subst (λ h. HasType p y w h nowhere joined_term z.0.result) z.2 after.0, λ made i. absurd (some_not_none made (sym i)));
          new = λ u m i. absurd i;
          entry_case = λ u j i. inl i;
        })

  -- each step

  pub step_typed : step p t s ≡ Moves r → (v : World) × IsTypedAt p y v r
  step_typed e = elim (step_is p t s r e) [
    | AMet m ↦ met_typed m
    | AJoin j ↦ (w, joined_typed j.l j.live j.line j.ask j.k j.asks j.made j.asked j.value j.ended j.is)
  ]
