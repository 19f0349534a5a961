-- The start of a well-typed program is typed, and so is all that a run comes to.
use Rattle.std.proofs.Common.{◌≡◌, ◌≢◌, true, List, [], ◌∷◌, length, Some, None, refl, sym, ap, subst, ◌∙◌}
use Rattle.std.proofs.Common.{⊎_elim, arith}
use Rattle.std.specs.Prelude.{ℤ, map}
use Rattle.std.specs.FinMap as fin
use Rattle.cc_ops.specs.Values.{Void, Int}
use Rattle.cc_ops.specs.declared.kind.Kind.{Kind}
use Rattle.cc_core.specs.Names.{Name, name_cmp, Map, Value, puts}
use Rattle.cc_core.specs.Core.{Program, function}
use Rattle.cc_core.specs.Next.{next, entered}
use Rattle.cc_core.specs.Config.{Config, Thread, State, Live, Ended, Object}
use Rattle.cc_core.specs.Effects.{parameters, addresses}
use Rattle.cc_core.specs.Steps.{Moves, settle, step, ints, start, Run}
use Rattle.cc_core.specs.Laws.{NamesAreFree}
use Rattle.cc_core.proofs.Maps.{cases_name, get_same, get_other}
use Rattle.cc_core.proofs.StepLaws.{step_case}
use Rattle.cc_core.proofs.Fresh.{grows, free_after, free_at_start, live_settled}
use Rattle.core_types.specs.Types.{ValueType, AnInt, Types, function_types}
use Rattle.core_types.specs.Values.{Content, ThreadEntry, World, Fits, AllFit, IsObject}
use Rattle.core_types.specs.Typing.{nowhere, HasType}
use Rattle.core_types.specs.Programs.{HasTypes}
use Rattle.core_types.specs.Runs.{InStep, IsKnown, IsTypedAt, IsTypedConfig, IsReachedFrom}
use Rattle.core_types.proofs.Basics.{some_not_none, same_some, is_int}
use Rattle.core_types.proofs.Next.{NextIs, thread_typed, entered_typed, anywhere}
use Rattle.core_types.proofs.Made.{contents, known, in_step, is_known, parameters_fit, made_parameters}
use Rattle.core_types.proofs.Kept.{ended_is}
use Rattle.core_types.proofs.Step.{step_typed}

an_int_each : (y : Types) (v : World) (q : Name) (ns : List ℤ) (kinds : List (List Kind)) → length ns ≡ length kinds
    → AllFit y v q (ints ns) (map (λ (k : List Kind). AnInt) kinds)
an_int_each y v q [] [] e = refl
an_int_each y v q (n ∷ ns) [] e = absurd (omega (arith, e))
an_int_each y v q [] (k ∷ kinds) e = absurd (omega (arith, e))
an_int_each y v q (n ∷ ns) (k ∷ kinds) e = (refl, an_int_each y v q ns kinds (omega (arith, e)))

ints_fit : (y : Types) (v : World) (q : Name) (ns : List ℤ) (kinds : List (List Kind)) (us : List ValueType)
    → us ≡ map (λ (k : List Kind). AnInt) kinds → length ns ≡ length kinds → AllFit y v q (ints ns) us
ints_fit y v q ns kinds us i e = subst (AllFit y v q (ints ns)) (sym i) (an_int_each y v q ns kinds e)

module _ (p : Program) (y : Types) (ok : HasTypes p y) (ns : List ℤ) (many : length ns ≡ length (function p p.main).shape.params) where
  abbrev params : List (List Kind)
  params = (function p p.main).shape.params

  abbrev made : List (Name × Object)
  made = parameters [] 0 [] params (ints ns)

  abbrev ks : List Content
  ks = contents params (function_types y p.main).vars

  abbrev entry : ThreadEntry
  entry = record { home = []; result = AnInt }

  abbrev first : World
  first = record { objects = puts (known made ks) fin.empty; threads = fin.insert fin.empty [] entry }

  abbrev main : Thread
  main = record {
    home = [];
    term = entered p p.main Void (addresses made);
    asked = None;
    threads = 0;
    objects = length made;
    inside = (p.main, Void) ∷ [];
  }

  abbrev s : Config
  s = start p ns

  term_typed : HasType p y first [] nowhere main.term AnInt
  term_typed =
      subst (HasType p y first [] nowhere main.term) ok.main_result
      (entered_typed p y ok first [] p.main first nowhere Void (addresses made) (anywhere p y ok first [] true (function_types y p.main).waits refl)
      (subst (λ z. IsObject y first [] z Void) (sym ok.main_alone) refl)
      (made_parameters y first [] 0 [] params (function_types y p.main).params (function_types y p.main).vars (ints ns) fin.empty (ok.parameters p.main) refl))

  nothing : {X : Type 0} (o : Name) (x : X) → (let m : Map X = fin.empty in fin.get m o ≡ Some x) → ⊥
  nothing o x e = some_not_none x (sym e ∙ fin.get-empty name_cmp o)

  objects_typed : InStep y first s.objects first.objects
  objects_typed = in_step y first made ks fin.empty fin.empty
      (parameters_fit y first [] 0 [] params (function_types y p.main).params (function_types y p.main).vars (ints ns) (ok.parameters p.main)
      (ints_fit y first [] ns params (function_types y p.main).params ok.main_params many))
      (λ o e f. absurd (nothing o e f))

  objects_known : IsKnown s.objects first.objects
  objects_known = is_known y first made ks fin.empty fin.empty
      (parameters_fit y first [] 0 [] params (function_types y p.main).params (function_types y p.main).vars (ints ns) (ok.parameters p.main)
      (ints_fit y first [] ns params (function_types y p.main).params ok.main_params many))
      (λ o x f. absurd (nothing o x f))

  first_there : (u : Name) (x : State) → fin.get s.threads u ≡ Some x → (u ≡ []) × (x ≡ settle p main)
  first_there u x h = ⊎_elim
      (λ (e : u ≡ []). (
        e,
        same_some x (settle p main) (sym h ∙ (ap (fin.get s.threads) e ∙ get_same fin.empty [] (settle p main))),
      ))
      (λ (ne : u ≢ []). absurd (nothing u x (sym (get_other fin.empty [] (settle p main) u ne) ∙ h)))
      (cases_name u [])

  entry_there : (u : Name) → u ≡ [] → fin.get first.threads u ≡ Some entry
  entry_there u e = ap (fin.get first.threads) e ∙ get_same fin.empty [] entry

  pub start_typed : IsTypedAt p y first s
  start_typed = record {
    objects = objects_typed;
    known = objects_known;
    threads = λ u l h.
        let a = first_there u (Live l) h in
        let same : l ≡ main = live_settled p main l (sym a.1) in (
          entry,
          entry_there u a.0,
          ap (λ (z : Thread). z.home) same,
          subst (λ (z : Thread). HasType p y first [] nowhere z.term AnInt) (sym same) term_typed,
        );
    ended = λ u v h.
        let a = first_there u (Ended v) h in (
          entry,
          entry_there u a.0,
          subst (NextIs p y ok first [] true (λ z. Fits y first [] z AnInt) (λ z e. HasType p y z [] nowhere e AnInt))
              (ended_is (next p main.term) main v (sym a.1)) (thread_typed p y ok first [] main.term AnInt term_typed),
        );
    kept = λ u k h. ⊎_elim
        (λ (e : u ≡ []). (settle p main, ap (fin.get s.threads) e ∙ get_same fin.empty [] (settle p main)))
        (λ (ne : u ≢ []). absurd (nothing u k (sym (get_other fin.empty [] entry u ne) ∙ h)))
        (cases_name u []);
    waiting = λ u l made h a.
        let b = first_there u (Live l) h in
        let same : l ≡ main = live_settled p main l (sym b.1) in
        absurd (some_not_none made (sym (subst (λ (z : Thread). z.asked ≡ Some made) same a)));
    main = (entry, get_same fin.empty [] entry, refl);
  }

-- runs

run_typed : (p : Program) (y : Types) → HasTypes p y → (ts : List Name) (s r : Config) → NamesAreFree s → IsTypedConfig p y s → Run p ts s r
    → IsTypedConfig p y r
run_typed p y ok [] s r free typed h = subst (IsTypedConfig p y) h typed
run_typed p y ok (t ∷ ts) s r free typed h =
    run_typed p y ok ts h.0 r (free_after p t s h.0 free (grows p t s h.0 (step_case p t s h.0 h.1)))
    (step_typed p y ok typed.0 s h.0 typed.1 free t h.1) h.2

pub start_has_types : (p : Program) (y : Types) → HasTypes p y → (ns : List ℤ) → length ns ≡ length (function p p.main).shape.params
    → IsTypedConfig p y (start p ns)
start_has_types p y ok ns many = (_, start_typed p y ok ns many)

pub step_keeps_types : (p : Program) (y : Types) → HasTypes p y → (t : Name) (s r : Config) → NamesAreFree s → IsTypedConfig p y s
    → step p t s ≡ Moves r → IsTypedConfig p y r
step_keeps_types p y ok t s r free typed e = step_typed p y ok typed.0 s r typed.1 free t e

pub reached_has_types : (p : Program) (y : Types) → HasTypes p y → (ns : List ℤ) (s : Config) → IsReachedFrom p ns s → IsTypedConfig p y s
reached_has_types p y ok ns s h = run_typed p y ok h.1.0 (start p ns) s (free_at_start p ns) (start_has_types p y ok ns h.0) h.1.1

-- main gives an int

pub main_is_int : (p : Program) (y : Types) → HasTypes p y → (ns : List ℤ) (s : Config) (v : Value) → IsReachedFrom p ns s
    → fin.get s.threads [] ≡ Some (Ended v) → (n : ℤ) × (v ≡ Int n)
main_is_int p y ok ns s v h e =
    let typed = reached_has_types p y ok ns s h in
    let a = typed.1.ended [] v e in
    let m = typed.1.main in
    let same : a.0 ≡ m.0 = same_some a.0 m.0 (sym a.1 ∙ m.1) in
    is_int y typed.0 a.0.home v (subst (Fits y typed.0 a.0.home v) (ap (λ (k : ThreadEntry). k.result) same ∙ m.2) a.2)
