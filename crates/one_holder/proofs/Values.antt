-- The threads of a map, one after another: whether one of them holds an object, and how many go on.
use Rattle.std.proofs.Common.{◌≡◌, ⊎_elim, ℕ, ◌+◌, Bool, true, false, cond, ◌&&◌, ◌||◌, T, List, [], ◌∷◌, map, Option, Some, None, refl, sym, ap, ◌∙◌, subst, arith, is_eq, is_lt, Ordering, Less, Equal, Greater}
use Rattle.std.proofs.lemmas.Bool.{cases_Bool}
use Rattle.std.specs.Cmp.{Equal-is, tied_itself}
use Rattle.std.specs.Cmp.Lexicographic.{nat_list_cmp_total}
use Rattle.std.specs.Ordering.{eq_by_cmp}
use Rattle.std.specs.FinMap as fin
use Rattle.std.specs.FinMap.Entries.{by_order, find, put, below_all, is_sorted}
use Rattle.cc_core.specs.Names.{Name, name_cmp, Map, Value}
use Rattle.cc_core.specs.Core.{Shapes}
use Rattle.cc_core.specs.Config.{Thread, State, Live, Ended}
use Rattle.cc_core.specs.Needs.{is_inside, holds, any_holds}
use Rattle.cc_core.specs.Steps.{live}

-- ---- entries in the order of their names

abbrev Entries : Type 0
Entries = List (Name × State)

abbrev states : Entries → List State
states es = map (λ e. e.1) es

abbrev at : Name → Entries → Option State
at q es = find name_cmp q es

both : (a b : Bool) → T (a && b) → T a × T b
both true b h = (tt, h)
both false b h = absurd h

is_less : (o : Ordering) → T (is_lt o) → o ≡ Less
is_less Less h = refl
is_less Equal h = absurd h
is_less Greater h = absurd h

-- a name that is below all is not there
below_absent : (k : Name) (es : Entries) → T (below_all name_cmp k es) → at k es ≡ None
below_absent k [] h = refl
below_absent k (e ∷ es) h =
    let parts = both (is_lt (name_cmp k e.0)) (below_all name_cmp k es) h in
    ap (λ (o : Ordering). cond (is_eq o) (Some e.1) (at k es)) (is_less (name_cmp k e.0) parts.0) ∙ below_absent k es parts.1

below_more : (k j : Name) (es : Entries) → name_cmp k j ≡ Less → T (below_all name_cmp j es) → T (below_all name_cmp k es)
below_more k j [] less h = tt
below_more k j (e ∷ es) less h =
    let parts = both (is_lt (name_cmp j e.0)) (below_all name_cmp j es) h in
    let first : name_cmp k e.0 ≡ Less = nat_list_cmp_total.trans k j e.0 less (is_less (name_cmp j e.0) parts.0) in
    subst (λ (o : Ordering). T (is_lt o && below_all name_cmp k es)) (sym first) (below_more k j es less parts.1)

tied : (q k : Name) → eq_by_cmp name_cmp q k ≡ true → q ≡ k
tied q k h = fin.slice_cmp-IsAntisymmetric fin.nat_cmp-IsAntisymmetric q k ((Equal-is (name_cmp q k)).0 h)

-- what is there behind the first entry is there
at_behind : (e : Name × State) (es : Entries) (q : Name) (a : State) → T (below_all name_cmp e.0 es) → at q es ≡ Some a → at q (e ∷ es) ≡ Some a
at_behind e es q a below h = ⊎_elim
    (λ (same : eq_by_cmp name_cmp q e.0 ≡ true).
    let none : at q es ≡ None = ap (λ (u : Name). at u es) (tied q e.0 same) ∙ below_absent e.0 es below in
    let f : None ≡ Some a = sym none ∙ h in
    cc)
    (λ (other : eq_by_cmp name_cmp q e.0 ≡ false). ap (λ (b : Bool). cond b (Some e.1) (at q es)) other ∙ h)
    (cases_Bool (eq_by_cmp name_cmp q e.0))

at_first : (e : Name × State) (es : Entries) → at e.0 (e ∷ es) ≡ Some e.1
at_first e es = ap (λ (o : Ordering). cond (is_eq o) (Some e.1) (at e.0 es)) (tied_itself nat_list_cmp_total e.0)

-- ---- who holds an object

pub or_true : (a : Bool) → a || true ≡ true
or_true true = refl
or_true false = refl

module _ (h : Shapes) (o : Value) where
  abbrev Holder : (Name → Option State) → Type 0
  Holder found = (x : Name) × (l : Thread) × (found x ≡ Some (Live l)) × (is_inside h o l.inside ≡ true)

  first_holds : (a : State) → holds h o a ≡ true → (l : Thread) × (a ≡ Live l) × (is_inside h o l.inside ≡ true)
  first_holds (Live l) is = (l, refl, is)
  first_holds (Ended v) is = let f : false ≡ true = is in cc

  holder_among : (es : Entries) → T (is_sorted name_cmp es) → any_holds h o (states es) ≡ true → Holder (λ q. at q es)
  holder_among [] sorted is = let f : false ≡ true = is in cc
  holder_among (e ∷ es) sorted is =
      ⊎_elim
      (λ (b : holds h o e.1 ≡ true).
      let l = first_holds e.1 b in
      (e.0, l.0, at_first e es ∙ ap (λ (a : State). Some a) l.1, l.2))
      (λ (b : holds h o e.1 ≡ false).
      let parts = both (below_all name_cmp e.0 es) (is_sorted name_cmp es) sorted in
      let rest : any_holds h o (states es) ≡ true = sym (ap (λ (c : Bool). c || any_holds h o (states es)) b) ∙ is in
      let w = holder_among es parts.1 rest in
      (w.0, w.1, at_behind e es w.0 (Live w.1) parts.0 w.2, w.3))
      (cases_Bool (holds h o e.1))

  among_holds : (es : Entries) (x : Name) (l : Thread) → at x es ≡ Some (Live l) → is_inside h o l.inside ≡ true
      → any_holds h o (states es) ≡ true
  among_holds [] x l there is = let f : None ≡ Some (Live l) = there in cc
  among_holds (e ∷ es) x l there is = ⊎_elim
      (λ (same : eq_by_cmp name_cmp x e.0 ≡ true).
      let first : Some e.1 ≡ Some (Live l) = sym (ap (λ (b : Bool). cond b (Some e.1) (at x es)) same) ∙ there in
      let a : e.1 ≡ Live l = cc in
      ap (λ (b : Bool). b || any_holds h o (states es)) (ap (λ (s : State). holds h o s) a ∙ is))
      (λ (other : eq_by_cmp name_cmp x e.0 ≡ false).
      let behind : at x es ≡ Some (Live l) = sym (ap (λ (b : Bool). cond b (Some e.1) (at x es)) other) ∙ there in
      ap (λ (b : Bool). holds h o e.1 || b) (among_holds es x l behind is) ∙ or_true (holds h o e.1))
      (cases_Bool (eq_by_cmp name_cmp x e.0))

  pub holds_found : (m : Map State) → any_holds h o (fin.values m) ≡ true → Holder (λ q. fin.get m q)
  holds_found m is =
      let w = holder_among (fin.entries m) (fin.entries_sorted m) is in
      (w.0, w.1, fin.get-entries m w.0 ∙ w.2, w.3)

  pub found_holds : (m : Map State) (x : Name) (l : Thread) → fin.get m x ≡ Some (Live l) → is_inside h o l.inside ≡ true
      → any_holds h o (fin.values m) ≡ true
  found_holds m x l there is = among_holds (fin.entries m) x l (sym (fin.get-entries m x) ∙ there) is

-- ---- how many threads go on

live_more : (a : State) (xs : List State) → live (a ∷ xs) ≡ live (a ∷ []) + live xs
live_more (Live l) xs = omega arith
live_more (Ended v) xs = omega arith

abbrev live_at : Option State → ℕ
live_at None = 0
live_at (Some a) = live (a ∷ [])

-- a put adds the new state and takes away the one that was there
abbrev Counted : (k : Name) → (a : State) → (before after : Entries) → Type 0
Counted k a before after = live (states after) + live_at (at k before) ≡ live (a ∷ []) + live (states before)

module _ (k : Name) (a : State) (e : Name × State) (es : Entries) (below : T (below_all name_cmp e.0 es))
    (behind : Counted k a es (put name_cmp k a es)) where
  live_put_first : (o : Ordering) → name_cmp k e.0 ≡ o
      → live (states (by_order o ((k, a) ∷ e ∷ es) ((e.0, a) ∷ es) (e ∷ put name_cmp k a es))) + live_at (cond (is_eq o) (Some e.1) (at k es))
      ≡ live (a ∷ []) + live (states (e ∷ es))
  live_put_first Less is =
      let none : live_at (at k es) ≡ 0 = ap live_at (below_absent k es (below_more k e.0 es is below)) in
      let new = live_more a (e.1 ∷ states es) in
      omega (arith, none, new)
  live_put_first Equal is =
      let new = live_more a (states es) in
      let old = live_more e.1 (states es) in
      omega (arith, new, old)
  live_put_first Greater is =
      let new = live_more e.1 (states (put name_cmp k a es)) in
      let old = live_more e.1 (states es) in
      omega (arith, behind, new, old)

live_put : (k : Name) (a : State) (es : Entries) → T (is_sorted name_cmp es) → Counted k a es (put name_cmp k a es)
live_put k a [] sorted = refl
live_put k a (e ∷ es) sorted =
    let parts = both (below_all name_cmp e.0 es) (is_sorted name_cmp es) sorted in
    live_put_first k a e es parts.0 (live_put k a es parts.1) (name_cmp k e.0) refl

live_put_in : (m : Map State) (x : Name) (a : State)
    → live (fin.values (fin.insert m x a)) + live_at (fin.get m x) ≡ live (a ∷ []) + live (fin.values m)
live_put_in m x a =
    let put_is = ap (λ (es : Entries). live (states es)) (fin.entries-insert nat_list_cmp_total m x a) in
    let there = ap live_at (fin.get-entries m x) in
    let all = live_put x a (fin.entries m) (fin.entries_sorted m) in
    omega (arith, put_is, there, all)

pub live_inserted : (m : Map State) (x : Name) (a : State) → fin.get m x ≡ None
    → live (fin.values (fin.insert m x a)) ≡ live (a ∷ []) + live (fin.values m)
live_inserted m x a none =
    let nothing : live_at (fin.get m x) ≡ 0 = ap live_at none in
    let all = live_put_in m x a in
    omega (arith, nothing, all)

pub live_replaced : (m : Map State) (x : Name) (a b : State) → fin.get m x ≡ Some b
    → live (fin.values (fin.insert m x a)) + live (b ∷ []) ≡ live (a ∷ []) + live (fin.values m)
live_replaced m x a b there =
    let old : live_at (fin.get m x) ≡ live (b ∷ []) = ap live_at there in
    let all = live_put_in m x a in
    omega (arith, old, all)
