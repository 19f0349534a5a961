-- In every configuration of a run each thread is inside what its term shows.
use Rattle.std.proofs.Common.{◌≡◌, ◌≢◌, ℕ, suc, Bool, true, false, List, [], ◌∷◌, ◌++◌, length, Some, None, refl, sym, ap, subst, ◌∙◌, ⊎_elim}
use Rattle.std.specs.Prelude.{ℤ, if◌then◌else◌}
use Rattle.std.specs.FinMap as fin
use Rattle.cc_ops.specs.Values.{Void}
use Rattle.cc_core.specs.Names.{Name, name_cmp, Value}
use Rattle.cc_core.specs.Core.{Term, Program, function, Shapes, shapes}
use Rattle.cc_core.specs.Asks.{Ask, Answer, Reads, Writes, Copies, Indexes, Shifts, Computes, Tests, Makes, MakesWith, Builds, Enters}
use Rattle.cc_core.specs.Asks.{Leaves, ForksAll, ForksOne, Joins, Spawns, Prints, Calls, Casts, NewProcessor}
use Rattle.cc_core.specs.Next.{Next, Asks, After, next, entered}
use Rattle.cc_core.specs.Config.{Config, Thread, Live, Object}
use Rattle.cc_core.specs.Effects.{effect, answer, addresses, parameters, is_call, start_home, first_objects}
use Rattle.cc_core.specs.Steps.{Moves, settle, new_threads, change, grown, step, ints, start, Run}
use Rattle.cc_core.specs.Laws.{NamesAreFree}
use Rattle.cc_core.proofs.Maps.{cases_name, get_same, get_other, IsEntry}
use Rattle.cc_core.proofs.StepLaws.{IsMet, step_case}
use Rattle.cc_core.proofs.Fresh.{live_settled, grows, free_after, free_at_start}
use Rattle.core_types.specs.Types.{Types}
use Rattle.core_types.specs.Programs.{HasTypes}
use Rattle.core_types.specs.Runs.{IsTypedConfig, IsReachedFrom}
use Rattle.core_types.specs.Atomic.{Entered}
use Rattle.core_types.proofs.Inside.{IsInside, IsPlainProgram}
use Rattle.core_types.proofs.Basics.{same_some, some_not_none}
use Rattle.core_types.proofs.Insides.{NextIn, Same, TermInside, Begin, after_ask, plain_stmts, thread_inside}
use Rattle.core_types.proofs.Kept.{Becomes}
use Rattle.core_types.proofs.Step.{step_typed}
use Rattle.core_types.proofs.Start.{start_has_types}
use Rattle.core_types.proofs.Cases.{IsJoin, AMet, AJoin, step_is, IsBusy, busy, Itself, NewOne, Older, there}

-- of a thread
abbrev pub IsInsideAs : Program → Thread → Type 0
IsInsideAs p l = IsInside l.term [] l.inside × IsBusy (next p l.term)

abbrev pub AreInsideAs : Program → Config → Type 0
AreInsideAs p s = (t : Name) (l : Thread) → fin.get s.threads t ≡ Some (Live l) → IsInsideAs p l

inside_is : (h : Shapes) (t : Name) (l : Thread) (ask : Ask Name) (found : List Value) → (effect h t l ask found).inside ≡ after_ask ask l.inside
inside_is h t l (Reads remote x) found = refl
inside_is h t l (Writes remote x v) found = refl
inside_is h t l (Copies x n) found = refl
inside_is h t l (Indexes x n i) found = refl
inside_is h t l (Shifts x i) found = refl
inside_is h t l (Computes op vs) found = refl
inside_is h t l Tests found = refl
inside_is h t l (Makes kind n) found = refl
inside_is h t l (MakesWith kind v) found = refl
inside_is h t l (Builds c vs) found = refl
inside_is h t l (Enters f o vs) found = refl
inside_is h t l Leaves found = refl
inside_is h t l (ForksAll n) found = refl
inside_is h t l (ForksOne x) found = refl
inside_is h t l (Joins made) found = refl
inside_is h t l (Spawns f o vs) found = refl
inside_is h t l (Prints parts vs) found = refl
inside_is h t l (Calls f o vs) found = refl
inside_is h t l (Casts f o vs) found = refl
inside_is h t l (NewProcessor c vs) found = refl

call_stays : (ask : Ask Name) (gs : Entered) → is_call ask ≡ true → after_ask ask gs ≡ gs
call_stays (Reads remote x) gs e = refl
call_stays (Writes remote x v) gs e = refl
call_stays (Copies x n) gs e = refl
call_stays (Indexes x n i) gs e = refl
call_stays (Shifts x i) gs e = refl
call_stays (Computes op vs) gs e = refl
call_stays Tests gs e = refl
call_stays (Makes kind n) gs e = refl
call_stays (MakesWith kind v) gs e = refl
call_stays (Builds c vs) gs e = refl
call_stays (Enters f o vs) gs e = let z : false ≡ true = e in cc
call_stays Leaves gs e = let z : false ≡ true = e in cc
call_stays (ForksAll n) gs e = refl
call_stays (ForksOne x) gs e = refl
call_stays (Joins made) gs e = refl
call_stays (Spawns f o vs) gs e = refl
call_stays (Prints parts vs) gs e = refl
call_stays (Calls f o vs) gs e = refl
call_stays (Casts f o vs) gs e = refl
call_stays (NewProcessor c vs) gs e = refl

starts_begin : (h : Shapes) (t : Name) (l : Thread) (ask : Ask Name) (found : List Value) (es : List Term) → Begin es
    → Begin ((effect h t l ask found).starts ++ es)
starts_begin h t l (Reads remote x) found es b = b
starts_begin h t l (Writes remote x v) found es b = b
starts_begin h t l (Copies x n) found es b = b
starts_begin h t l (Indexes x n i) found es b = b
starts_begin h t l (Shifts x i) found es b = b
starts_begin h t l (Computes op vs) found es b = b
starts_begin h t l Tests found es b = b
starts_begin h t l (Makes kind n) found es b = b
starts_begin h t l (MakesWith kind v) found es b = b
starts_begin h t l (Builds c vs) found es b = b
starts_begin h t l (Enters f o vs) found es b = b
starts_begin h t l Leaves found es b = b
starts_begin h t l (ForksAll n) found es b = b
starts_begin h t l (ForksOne x) found es b = b
starts_begin h t l (Joins made) found es b = b
starts_begin h t l (Spawns f o vs) found es b = (refl, b)
starts_begin h t l (Prints parts vs) found es b = b
starts_begin h t l (Calls f o vs) found es b = (refl, b)
starts_begin h t l (Casts f o vs) found es b = (refl, b)
starts_begin h t l (NewProcessor c vs) found es b = b

new_inside : (t : Name) (k : ℕ) (q : Name) (own : ℕ) (terms : List Term) (u : Name) (m : Thread) → Begin terms
    → IsEntry u m (new_threads t k q own terms) → IsInside m.term [] m.inside
new_inside t k q own [] u m b h = absurd h
new_inside t k q own (term ∷ terms) u m b h = ⊎_elim
    (λ (a : (u ≡ k ∷ t) × (m ≡ record { home = q; term = term; asked = None; threads = 0; objects = own; inside = [] })).
    subst (λ (z : Thread). IsInside z.term [] z.inside) (sym a.1) b.0)
    (λ (i : IsEntry u m (new_threads t (suc k) q own terms)). new_inside t (suc k) q own terms u m b.1 i)
    h

if_case : {A : Type 0} (P : A → Type 0) (b : Bool) (x z : A) → (b ≡ true → P x) → (b ≡ false → P z) → P (if b then x else z)
if_case P true x z f g = f refl
if_case P false x z f g = g refl

module _ (p : Program) (plain : IsPlainProgram p) (s r : Config) (t : Name) (inside : AreInsideAs p s) where
  all_there : (g : Becomes p s r t) → IsInside g.after.term [] g.after.inside
      → ((u : Name) (m : Thread) → IsEntry u m g.new → IsInside m.term [] m.inside) → AreInsideAs p r
  all_there g a new = λ u m h. elim (there p s r t g u m h) [
    | Itself same b ↦ (subst (λ (z : Thread). IsInside z.term [] z.inside) (sym same) a, b)
    | NewOne i b ↦ (new u m i, b)
    | Older live ↦ inside u m live
  ]

  met : IsMet p t s r → AreInsideAs p r
  met m =
      let l = m.l in
      let h = shapes p in
      let e = effect h t l m.ask m.found in
      let x = m.k (answer l m.ask e m.found) in
      let q = start_home s l m.ask in
      let new = new_threads t l.threads q (first_objects m.ask) (e.starts ++ x.branches) in
      let i = inside t l m.live in
      let n = subst (NextIn (Same p plain [] l.inside) (TermInside p plain [] l.inside) l.inside) m.asks (thread_inside p plain l.term l.inside i.0)
      (answer l m.ask e m.found) in
      let g : Becomes p s r t = record {
        after = (change p t s l m.ask m.k m.found).thread;
        new = (change p t s l m.ask m.k m.found).new;
        threads_are = ap (λ (z : Config). z.threads) m.is;
      } in
      all_there g
      (if_case (λ (z : Thread). IsInside z.term [] z.inside) (is_call m.ask) (grown l l.term (Some l.threads) new e) (grown l x.left None new e)
      (λ c. subst (IsInside l.term []) (sym (inside_is h t l m.ask m.found ∙ call_stays m.ask l.inside c)) i.0)
      (λ c. subst (IsInside x.left []) (sym (inside_is h t l m.ask m.found)) n.0))
      (λ u z k. new_inside t l.threads q (first_objects m.ask) (e.starts ++ x.branches) u z
      (starts_begin h t l m.ask m.found x.branches n.1) k)

  -- a call's ask changes nothing of it
  joined : (j : IsJoin p t s r) → after_ask j.ask j.l.inside ≡ j.l.inside → AreInsideAs p r
  joined j same =
      let i = inside t j.l j.live in
      let n = subst (NextIn (Same p plain [] j.l.inside) (TermInside p plain [] j.l.inside) j.l.inside) j.asks
      (thread_inside p plain j.l.term j.l.inside i.0) (record { values = j.value ∷ []; made = [] }) in
      let left = (j.k (record { values = j.value ∷ []; made = [] })).left in
      let g : Becomes p s r t = record {
        after = record j.l { term = left; asked = None };
        new = [];
        threads_are = ap (λ (z : Config). z.threads) j.is;
      } in
      all_there g (subst (IsInside left []) same n.0) (λ u m k. absurd k)

  pub step_inside : ((j : IsJoin p t s r) → after_ask j.ask j.l.inside ≡ j.l.inside) → step p t s ≡ Moves r → AreInsideAs p r
  step_inside same e = elim (step_is p t s r e) [ AMet m ↦ met m | AJoin j ↦ joined j (same j) ]

module _ (p : Program) (plain : IsPlainProgram p) (ns : List ℤ) where
  abbrev made : List (Name × Object)
  made = parameters [] 0 [] (function p p.main).shape.params (ints ns)

  abbrev main : Thread
  main = record {
    home = [];
    term = entered p p.main Void (addresses made);
    asked = None;
    threads = 0;
    objects = length made;
    inside = (p.main, Void) ∷ [];
  }

  pub start_inside : AreInsideAs p (start p ns)
  start_inside = λ u l h. ⊎_elim
      (λ (e : u ≡ []).
      let f : settle p main ≡ Live l =
      same_some (settle p main) (Live l) (sym (get_same fin.empty [] (settle p main)) ∙ (ap (fin.get (start p ns).threads) (sym e) ∙ h)) in
      let same : l ≡ main = live_settled p main l f in
      subst (IsInsideAs p) (sym same)
      (plain_stmts true (function p p.main).body ((p.main, Void) ∷ []) ((p.main, Void) ∷ []) refl (plain p.main), busy p main l f))
      (λ (ne : u ≢ []).
      absurd (some_not_none (Live l) (sym h ∙ (get_other fin.empty [] (settle p main) u ne ∙ fin.get-empty name_cmp u))))
      (cases_name u [])

-- a thread that waits for the value of its call has the call's ask
waits_at_call : (p : Program) (y : Types) (s r : Config) (t : Name) → IsTypedConfig p y s → (j : IsJoin p t s r)
    → after_ask j.ask j.l.inside ≡ j.l.inside
waits_at_call p y s r t typed j =
    let wait = typed.1.waiting t j.l j.made j.live j.asked in
    ap (λ a. after_ask a j.l.inside) (same_ask _ _ _ _ _ _ (sym j.asks ∙ wait.asks))
  where
    same_ask : (a b : ℕ) (x z : Ask Name) (k g : Answer Name → After Term) → ◌≡◌ {A = Next Value Term} (Asks a x k) (Asks b z g) → x ≡ z
    same_ask a b x z k g e = cc

run_inside : (p : Program) (y : Types) → HasTypes p y → IsPlainProgram p → (ts : List Name) (s r : Config) → NamesAreFree s
    → IsTypedConfig p y s → AreInsideAs p s → Run p ts s r → AreInsideAs p r
run_inside p y ok plain [] s r free typed inside h = subst (AreInsideAs p) h inside
run_inside p y ok plain (t ∷ ts) s r free typed inside h =
    run_inside p y ok plain ts h.0 r (free_after p t s h.0 free (grows p t s h.0 (step_case p t s h.0 h.1)))
    (step_typed p y ok typed.0 s h.0 typed.1 free t h.1) (step_inside p plain s h.0 t inside (waits_at_call p y s h.0 t typed) h.1) h.2

pub reached_inside : (p : Program) (y : Types) → HasTypes p y → IsPlainProgram p → (ns : List ℤ) (s : Config) → IsReachedFrom p ns s
    → AreInsideAs p s
reached_inside p y ok plain ns s h =
    run_inside p y ok plain h.1.0 (start p ns) s (free_at_start p ns) (start_has_types p y ok ns h.0) (start_inside p plain ns) h.1.1
