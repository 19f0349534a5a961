-- The program that the front end leaves is determinate, where its constructors put what their classes' types say.
use Rattle.std.proofs.Common.{◌≡◌, ◌≢◌, ℕ, zero, suc, Bool, true, false, List, [], ◌∷◌, length, map, Some, None, refl, sym, ap, subst, ◌∙◌, zero-add, arith}
use Rattle.std.specs.Prelude.{slice_get, get_or}
use Rattle.std.proofs.lemmas.Option.{none-some}
use Rattle.cc_core.specs.Core.{function, shapes, class_shape, no_function, no_class}
use Rattle.cc_core.specs.Effects.{numbers}
use Rattle.cc_core.specs.Types.{Types, function_types}
use Rattle.cc_core.specs.View.{function_of, program_of}
use Rattle.cc_core.specs.declared.program.Function.{Function as CoreFunction}
use Rattle.cc_one_answer.specs.Determinate.{DetStmts, AreParameters, AreRuns, AreSets, IsDeterminate}
use Rattle.cc_ops.specs.Shapes.{shape_of}
use Rattle.cc_functions.specs.Items.{nothing_done, items}
use Rattle.cc_names.specs.Names.{names_of}
use Rattle.cc_scopes.specs.declared.tables.Signature.{Signature}
use Rattle.cc_scopes.specs.Elab.{nothing_yet}
use Rattle.cc_tables.specs.Tables.{constants_of, classes_from, functions_of, tables_of}
use Rattle.cc_tree.specs.declared.declarations.Program as tree
use Rattle.cc_types.specs.Elaboration.{read, main_of, elaboration_of}
use Rattle.cc_types.specs.Program.{IsSpelled, IsWellFormed, core_program, rules_shared}
use Rattle.cc_source.proofs.MainLaws.{main_has_its_number}
use Rattle.cc_source.proofs.RuleLaws.{rules_of_file}
use Rattle.cc_shared.proofs.ItemLaws.{constant_count, items_functions}
use Rattle.cc_shared.proofs.TypeTables.{class_targets, types_of, typed_functions, with_vars}
use Rattle.cc_shared.proofs.WholeLaws.{plain, proper, quiet_reading, quiet_items, known, called, vars_all, types_all, matches_all, below, functions_fit}
use Rattle.cc_shared.proofs.Assembly.{items_done, body_at, parameters_at, plain_at}
use Rattle.cc_shared.proofs.CellLaws.{items_shapes, shapes_done, cells_all, runs_at}

some_inside : {A : Type 0} (x y : A) → Some x ≡ Some y → x ≡ y
some_inside {A = A} x y is = ap (λ o. elim o as (λ z. A) [ None ↦ x | Some z ↦ z ]) is

pub mapped_at : {A B : Type 0} (f : A → B) (xs : List A) (k : ℕ) (x : A) (d : B) → slice_get xs k ≡ Some x → get_or (map f xs) k d ≡ f x
mapped_at f [] k x d is = absurd (none-some x is)
mapped_at f (z ∷ xs) zero x d is = ap f (some_inside z x is)
mapped_at f (z ∷ xs) (suc k) x d is = mapped_at f xs k x d is

must_be_true : (b : Bool) → (b ≡ false → ⊥) → b ≡ true
must_be_true true f = refl
must_be_true false f = absurd (f refl)

must_be_false : (b : Bool) → (b ≡ true → ⊥) → b ≡ false
must_be_false true f = absurd (f refl)
must_be_false false f = refl

module _ (p : tree.Program) (spelled : IsSpelled p) (well : IsWellFormed p) (none : rules_shared p ≡ []) where
  abbrev y : Types
  y = types_all p spelled well none

  abbrev gs : List Signature
  gs = functions_of (plain p spelled well none) p.items

  abbrev fs : List CoreFunction
  fs = items_functions (names_of p.items) (tables_of (names_of p.items) p.items) 0 0 nothing_done p.items nothing_yet

  abbrev main : ℕ
  main = main_of (names_of p.items)

  functions_are : (core_program p).functions ≡ fs
  unfolding elaboration_of read items
  functions_are = items_done (names_of p.items) (tables_of (names_of p.items) p.items) 0 0 nothing_done p.items nothing_yet

  pub classes_are : (core_program p).classes ≡ items_shapes (names_of p.items) (tables_of (names_of p.items) p.items) 0 0 nothing_done p.items nothing_yet
  unfolding elaboration_of read items
  classes_are = shapes_done (names_of p.items) (tables_of (names_of p.items) p.items) 0 0 nothing_done p.items nothing_yet

  main_is : (core_program p).main ≡ main
  unfolding elaboration_of
  main_is = refl

  is_the_main : (g : Signature) → slice_get gs main ≡ Some g → g.is_main ≡ true
  unfolding tables_of
  is_the_main g got = must_be_true g.is_main (λ is. called p spelled well none main g got is refl)

  is_no_main : (f : ℕ) → f ≢ main → (g : Signature) → slice_get gs f ≡ Some g → g.is_main ≡ false
  is_no_main f ne g got = must_be_false g.is_main (λ is.
      ne (sym (main_has_its_number p.items (rules_of_file p.items (quiet_reading p well none).0).names (plain p spelled well none) f g got is)))

  body : (f : ℕ) (prints : Bool) → ((g : Signature) → slice_get gs f ≡ Some g → g.is_main ≡ prints)
      → DetStmts y main (function_types y f) prints (numbers 0 (length (function (program_of (core_program p)) f).shape.params)) (function (program_of (core_program p)) f).body
  unfolding types_of
  body f prints same = subst (λ zs. DetStmts y main (function_types y f) prints (numbers 0 (length (get_or (map function_of zs) f no_function).shape.params))
      (get_or (map function_of zs) f no_function).body) (sym functions_are)
      (body_at y main gs (with_vars (typed_functions (plain p spelled well none) 0 p.items) (vars_all p spelled well none)) fs (functions_fit p spelled well none) f prints same)

  params : (f : ℕ) → AreParameters (function_types y f).vars 0 (function (program_of (core_program p)) f).shape.params (function_types y f).params
  unfolding types_of
  params f = subst (λ zs. AreParameters (function_types y f).vars 0 (get_or (map function_of zs) f no_function).shape.params (function_types y f).params) (sym functions_are)
      (parameters_at y main gs (with_vars (typed_functions (plain p spelled well none) 0 p.items) (vars_all p spelled well none)) fs (functions_fit p spelled well none) f)

  atomic : (f : ℕ) → (function (program_of (core_program p)) f).shape.atomic ≡ false
  atomic f = subst (λ zs. (get_or (map function_of zs) f no_function).shape.atomic ≡ false) (sym functions_are)
      (plain_at y main gs (with_vars (typed_functions (plain p spelled well none) 0 p.items) (vars_all p spelled well none)) fs (functions_fit p spelled well none) f)

  cells : (c : ℕ) → AreRuns y c 0 (class_shape (shapes (program_of (core_program p))) c).cells
  unfolding tables_of types_of
  cells c =
      let all = cells_all (names_of p.items) (tables_of (names_of p.items) p.items) (constants_of (names_of p.items) p.items) refl refl y main
      (matches_all p spelled well none) (constant_count p.items) (below p spelled well none) 0 0 0 nothing_done p.items nothing_yet (omega arith)
      (proper p spelled well none) (quiet_items p spelled well none) in
      let runs = runs_at y (classes_from (names_of p.items) (constants_of (names_of p.items) p.items) 0 0 0 p.items) _ c 0 all (λ i k got. (
        (known p spelled well none).members i k got,
        ap (λ m. get_or y.classes m []) (zero-add i) ∙ mapped_at class_targets _ i k [] got,
      )) in
      subst (λ zs. AreRuns y c 0 (get_or (map shape_of zs) c no_class).cells) (sym classes_are)
      (subst (λ m. AreRuns y m 0 (get_or (map shape_of (items_shapes (names_of p.items) (tables_of (names_of p.items) p.items) 0 0 nothing_done p.items nothing_yet)) c no_class).cells)
      (zero-add c) runs)

  -- all but what constructors assign
  pub determinate_but_sets : ((c : ℕ) → AreSets y c (class_shape (shapes (program_of (core_program p))) c).sets) → IsDeterminate (program_of (core_program p)) y
  unfolding elaboration_of
  determinate_but_sets sets = record {
    main = body main true is_the_main;
    functions = λ f ne. body f false (is_no_main f ne);
    parameters = params;
    not_atomic = atomic;
    runs = cells;
    sets = sets;
  }
