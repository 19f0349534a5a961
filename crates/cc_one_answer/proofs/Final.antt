-- A determinate program is owned where it starts, and has one answer.
use Rattle.std.proofs.Common.{◌≡◌, ◌≢◌, ℕ, suc, ◌+◌, Bool, true, false, List, [], ◌∷◌, length, Option, Some, None, refl, sym, ap, subst, ◌∙◌}
use Rattle.std.proofs.Common.{⊎_elim, inl, arith}
use Rattle.std.specs.Prelude.{slice_get, drop, ℤ}
use Rattle.std.specs.FinMap as fin
use Rattle.cc_ops.specs.Values.{Void, Null, first, resized}
use Rattle.cc_ops.specs.declared.kind.Kind.{Kind}
use Rattle.cc_core.specs.Names.{Name, Value, puts}
use Rattle.cc_core.specs.Core.{Program, function}
use Rattle.cc_core.specs.Next.{variable}
use Rattle.cc_core.specs.Types.{ValueType, Target, Cells, Types, function_types, no_types}
use Rattle.cc_one_answer.specs.Sorts.{Valued, is_sync}
use Rattle.cc_one_answer.specs.Sorts.{Kin, World, IsNameIn, Fits, CellFits, HasSort, cell_type}
use Rattle.cc_one_answer.specs.Owned.{IsOwnAt, OwnVars, IsOwnHere, PendTerm, PendTerms, PendStmt, PendStmts, IsDeclared, IsMarked}
use Rattle.cc_one_answer.specs.Owned.{FineEnv, IsThis, IsDone, IsWritable, IsToCome, IsLoop, FineTerm, FineTerms, FineStmt, FineStmts, FineHeader}
use Rattle.cc_core.specs.Effects.{numbers}
use Rattle.cc_one_answer.proofs.More.{stmts_of}
use Rattle.cc_one_answer.proofs.Fine.{type_of, parameter_types, IsNumber, AreMade}
use Rattle.cc_one_answer.proofs.Fine.{IsGood}
use Rattle.cc_core.specs.Next.{next}
use Rattle.cc_core.specs.Config.{Config, Thread, State, Live, Ended, Object}
use Rattle.cc_core.proofs.Maps.{cases_name, get_same, get_other, IsEntry, puts_case}
use Rattle.cc_one_answer.specs.Determinate.{IsDeterminate}
use Rattle.cc_one_answer.specs.Owned.{IsLent, IsCallOf, IsOwned}
use Rattle.cc_one_answer.specs.Owned as owned
use Rattle.cc_one_answer.proofs.Distinct.{some_not_none, same_some}
use Rattle.cc_one_answer.proofs.Values.{sort_fits}
use Rattle.cc_ops.specs.Values.{started}
use Rattle.cc_core.specs.Names.{name_cmp}
use Rattle.cc_core.specs.Next.{entered}
use Rattle.cc_core.specs.Effects.{addresses, parameters, cells_with}
use Rattle.cc_core.specs.Steps.{settle, start, ints, Run, IsAtRest}
use Rattle.cc_core.specs.Laws.{IsReached}
use Rattle.cc_core.proofs.Fresh.{free_reached, live_settled}
use Rattle.cc_core.proofs.StepLaws.{run_joined}
use Rattle.cc_one_answer.specs.Answer.{HasOneAnswer}
use Rattle.cc_one_answer.specs.Determinate.{AreParameters}
use Rattle.cc_one_answer.proofs.Law.{commuting}
use Rattle.cc_one_answer.proofs.Commute.{apart_commute}
use Rattle.cc_one_answer.proofs.Values.{resized_case, parameters_are, parameters_own}
use Rattle.cc_one_answer.proofs.Owners.{apart_owned}
use Rattle.cc_one_answer.proofs.Kept.{top_good, ended_is}
use Rattle.cc_one_answer.proofs.Built.{one_cell, started_fits, number_fits, typed, AreFineObjects}
use Rattle.cc_one_answer.proofs.Made.{made_parameters, length_types, length_addresses, length_parameters, in_step}
use Rattle.cc_one_answer.proofs.Step.{owned_step}

abbrev Numbers : List Value → Type 0
Numbers [] = Unit {0}
Numbers (v ∷ vs) = IsNumber v × Numbers vs

ints_are : (ns : List ℤ) → Numbers (ints ns)
ints_are [] = tt
ints_are (n ∷ ns) = (tt, ints_are ns)

first_number : (vs : List Value) → Numbers vs → IsNumber (first vs)
first_number [] h = tt
first_number (v ∷ vs) h = h.0

rest_numbers : (vs : List Value) → Numbers vs → Numbers (drop 1 vs)
rest_numbers [] h = tt
rest_numbers (v ∷ vs) h = h.1

numbers_fit : (w : World) (y : Types) (vars : List Target) (n : ℕ) (t : Name) (k : ℕ) (q : Name) (params : List (List Kind))
    (vs : List Value) (us : List ValueType) → AreParameters vars n params us → Numbers vs
    → AreFineObjects w y (parameters t k q params vs) (parameter_types params us)
numbers_fit w y vars n t k q [] vs us a h = tt
numbers_fit w y vars n t k q ([] ∷ more) vs us a h = absurd a
numbers_fit w y vars n t k q ((kind ∷ other ∷ kinds) ∷ more) vs us a h = absurd a
numbers_fit w y vars n t k q ((kind ∷ []) ∷ more) vs us a h =
    subst (λ z. AreFineObjects w y (parameters t k q ((kind ∷ []) ∷ more) vs) (parameter_types ((kind ∷ []) ∷ more) z)) (sym a.2) (
      one_cell w y (type_of (Cells (is_sync kind) a.0)) (started kind (first vs))
          (λ x. by_sync (is_sync kind) x (started_fits w kind (first vs) a.0 (number_fits w (first vs) a.0 (first_number vs h)))),
      numbers_fit w y vars (suc n) t (suc k) q more (drop 1 vs) a.1 a.4 (rest_numbers vs h),
    )
  where
    by_sync : (b : Bool) (x : ℕ) → CellFits w (started kind (first vs)) (Some (Cells b a.0))
        → CellFits w (started kind (first vs)) (cell_type y (type_of (Cells b a.0)) x)
    by_sync true x f = f
    by_sync false x f = f

parameter_home : (t : Name) (n : ℕ) (q : Name) (params : List (List Kind)) (vs : List Value) (o : Name) (x : Object)
    → IsEntry o x (parameters t n q params vs) → x.home ≡ q
parameter_home t n q [] vs o x e = absurd e
parameter_home t n q (kinds ∷ more) vs o x e = ⊎_elim
    (λ (a : (o ≡ n ∷ t) × (x ≡ record { home = q; cells = cells_with kinds vs })). ap (λ (z : Object). z.home) a.1)
    (λ (b : IsEntry o x (parameters t (suc n) q more (drop (length kinds) vs))). parameter_home t (suc n) q more (drop (length kinds) vs) o x b)
    e

from_zero : (j : ℕ) → 0 + j ≡ j
from_zero j = omega arith

module _ (p : Program) (y : Types) (det : IsDeterminate p y) (ns : List ℤ) where
  abbrev params : List (List Kind)
  params = (function p p.main).shape.params

  abbrev us : List ValueType
  us = (function_types y p.main).params

  abbrev made : List (Name × Object)
  made = parameters [] 0 [] params (ints ns)

  abbrev main_thread : Thread
  main_thread = record {
    home = [];
    term = entered p p.main Void (addresses made);
    asked = None;
    threads = 0;
    objects = length made;
    inside = (p.main, Void) ∷ [];
  }

  abbrev main_kin : Kin
  main_kin = record { mark = 0; lent = []; result = (function_types y p.main).result }

  abbrev w0 : World
  w0 = record { types = puts (typed made (parameter_types params us)) fin.empty; kin = puts (([], main_kin) ∷ []) fin.empty }

  abbrev s0 : Config
  s0 = start p ns

  ok : AreParameters (function_types y p.main).vars 0 params us
  ok = det.parameters p.main

  addresses_made : AreMade w0 [] 0 (parameter_types params us) (addresses made)
  addresses_made = made_parameters w0 [] 0 [] params (ints ns) (parameter_types params us) fin.empty refl
      (length_types (function_types y p.main).vars 0 params us ok)

  many : length made ≡ length params
  many = length_parameters [] 0 [] params (ints ns)

  many_addresses : length (addresses made) ≡ length (parameter_types params us)
  many_addresses = length_addresses made ∙ (many ∙ sym (length_types (function_types y p.main).vars 0 params us ok))

  abbrev IsEntryValue : Value → Option Target → Type 0
  IsEntryValue z a = owned.IsEntry y p.main [] [] w0 0 (length made) z a

  main_fine : FineTerm y p.main [] [] w0 no_types 0 (length made) (entered p p.main Void (addresses made)) (Valued main_kin.result)
  main_fine =
      let here = function_types y p.main in
      let vars = (function p p.main).shape.vars in
      let top = length made in
      let xs = addresses made in
      let count = many in (
        true,
        (λ e. refl),
        refl,
        (λ c e. tt),
        (λ j. ⊎_elim
            (λ (e : variable (resized vars xs) j Null ≡ variable xs j Null).
            subst (λ z. IsEntryValue z (slice_get here.vars j)) (sym e)
            (subst (λ i. IsEntryValue (variable xs j Null) (slice_get here.vars i)) (from_zero j)
            (parameters_are y p.main [] [] w0 0 top here.vars 0 0 (omega arith) params us xs (omega (arith, count)) ok addresses_made many_addresses j)))
            (λ (e : variable (resized vars xs) j Null ≡ Null). subst (λ z. IsEntryValue z (slice_get here.vars j)) (sym e) tt)
            (resized_case vars xs j)),
        stmts_of y p.main [] [] w0 here 0 top true (numbers 0 (length params)) (resized vars xs) (function p p.main).body
            (λ j i. ⊎_elim
            (λ (e : variable (resized vars xs) j Null ≡ variable xs j Null). subst (IsOwnAt [] 0) (sym e)
            (parameters_own y p.main [] [] w0 0 top 0 (omega arith) (parameter_types params us) xs addresses_made many_addresses j))
            (λ (e : variable (resized vars xs) j Null ≡ Null). subst (IsOwnAt [] 0) (sym e) tt)
            (resized_case vars xs j))
            det.main,
      )

  first_thread : (u : Name) (x : State) → fin.get s0.threads u ≡ Some x → (u ≡ []) × (x ≡ settle p main_thread)
  first_thread u x h = ⊎_elim
      (λ (e : u ≡ []). (
        e,
        sym (same_some (settle p main_thread) x
            (sym (get_same fin.empty [] (settle p main_thread)) ∙ (ap (fin.get s0.threads) (sym e) ∙ h))),
      ))
      (λ (ne : u ≢ []). absurd (some_not_none x (sym h ∙ (get_other fin.empty [] (settle p main_thread) u ne ∙ fin.get-empty name_cmp u))))
      (cases_name u [])

  first_kin : (u : Name) (k : Kin) → fin.get w0.kin u ≡ Some k → (u ≡ []) × (k ≡ main_kin)
  first_kin u k h = ⊎_elim
      (λ (e : u ≡ []). (e, sym (same_some main_kin k (sym (get_same fin.empty [] main_kin) ∙ (ap (fin.get w0.kin) (sym e) ∙ h)))))
      (λ (ne : u ≢ []). absurd (some_not_none k (sym h ∙ (get_other fin.empty [] main_kin u ne ∙ fin.get-empty name_cmp u))))
      (cases_name u [])

  main_live : (u : Name) (l : Thread) → fin.get s0.threads u ≡ Some (Live l) → (u ≡ []) × (l ≡ main_thread)
  main_live u l h = let a = first_thread u (Live l) h in (a.0, live_settled p main_thread l (sym a.1))

  not_lent : (k : Kin) (o : Name) → k ≡ main_kin → IsNameIn o k.lent → ⊥
  not_lent k o e h = subst (λ (z : Kin). IsNameIn o z.lent) e h

  pub owned_start : IsOwned p y w0 s0
  owned_start = record {
    kin = λ u l h. let a = main_live u l h in (main_kin, ap (fin.get w0.kin) a.0 ∙ get_same fin.empty [] main_kin);
    fine = λ u l k h kin.
        let a = main_live u l h in
        let b = first_kin u k kin in
        subst (λ z. FineTerm y p.main z k.lent w0 no_types 0 l.objects l.term (Valued k.result)) (sym a.0)
        (subst (λ (z : Thread). FineTerm y p.main [] k.lent w0 no_types 0 z.objects z.term (Valued k.result)) (sym a.1)
        (subst (λ (z : Kin). FineTerm y p.main [] z.lent w0 no_types 0 main_thread.objects main_thread.term (Valued z.result)) (sym b.1) main_fine));
    lent = λ u l k o v h kin among named. absurd (not_lent k o (first_kin u k kin).1 among);
    ended = λ u v k h kin.
        let a = first_thread u (Ended v) h in
        let b = first_kin u k kin in
        let ready = subst (λ n. IsGood p y w0 [] [] main_thread.objects 0 0 (PendTerm main_thread.term) (λ z. HasSort w0 y [] [] z (Valued main_kin.result))
        (λ z i x. FineTerm y p.main [] [] z no_types 0 i x (Valued main_kin.result)) PendTerm n)
        (ended_is (next p main_thread.term) main_thread v (sym a.1))
        (top_good p y det w0 [] [] main_thread.objects 0 main_thread.term (Valued main_kin.result) main_fine) in
        subst (λ (z : Kin). Fits w0 v z.result) (sym b.1) (sort_fits w0 y [] [] v main_kin.result ready.0);
    asked = λ u l made' h e.
        let a = main_live u l h in
        absurd (some_not_none made' (sym e ∙ ap (λ (z : Thread). z.asked) a.1));
    typed = λ u k o kin among. absurd (not_lent k o (first_kin u k kin).1 among);
    known = λ u k kin none.
        let b = first_kin u k kin in
        some_not_none (settle p main_thread) (sym (get_same fin.empty [] (settle p main_thread)) ∙ (ap (fin.get s0.threads) (sym b.0) ∙ none));
    store = in_step w0 y made (parameter_types params us) fin.empty fin.empty
        (numbers_fit w0 y (function_types y p.main).vars 0 [] 0 [] params (ints ns) us ok (ints_are ns))
        (λ o a h. absurd (some_not_none a (sym h ∙ fin.get-empty name_cmp o)));
    places = λ u l h. let a = main_live u l h in inl (ap (λ (z : Thread). z.home) a.1);
    homes = λ o x h. ⊎_elim
        (λ (a : fin.get (puts made fin.empty) o ≡ fin.get fin.empty o). absurd (some_not_none x (sym h ∙ (a ∙ fin.get-empty name_cmp o))))
        (λ (a : (z : Object) × IsEntry o z made × (fin.get (puts made fin.empty) o ≡ Some z)).
        let same : a.0 ≡ x = same_some a.0 x (sym a.2 ∙ h) in
        inl (sym (ap (λ (z : Object). z.home) same) ∙ parameter_home [] 0 [] params (ints ns) o a.0 a.1))
        (puts_case made fin.empty o);
  }

  owned_run : (ts : List Name) (s r : Config) → IsReached p ns s → (w : World) → IsOwned p y w s → Run p ts s r
      → (v : World) × IsOwned p y v r
  owned_run [] s r at w owned run = (w, subst (IsOwned p y w) run owned)
  owned_run (t ∷ ts) s r at w owned run =
      let next_world = owned_step p y det w s run.0 owned (free_reached p ns s at) t run.1 in
      owned_run ts run.0 r (_, run_joined p at.0 (t ∷ []) s0 s run.0 at.1 (run.0, run.1, refl)) next_world.0 next_world.1 run.2

  pub determinate : (ts : List Name) (r : Config) → Run p ts s0 r → IsAtRest p r → HasOneAnswer p s0 (length ts) r
  determinate = commuting p ns (λ s at.
      let o = owned_run at.0 s0 s ([], refl) w0 owned_start at.1 in
      apart_commute p s (free_reached p ns s at) (apart_owned p y det o.0 s o.1))
