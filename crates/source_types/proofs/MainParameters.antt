-- The function that a run begins with takes as many values as `main` has parameters.
use Rattle.std.proofs.Common.{◌≡◌, ℕ, zero, suc, ◌+◌, ◌<◌, Bool, true, false, List, [], ◌∷◌, ◌++◌, length, map, Some, None, refl, sym, ap, subst, ◌∙◌, arith, zero-add}
use Rattle.std.proofs.Math.Nat.{suc-add}
use Rattle.std.specs.Prelude.{slice_get, get_or, bytes_eq, codes, if◌then◌else◌, ◌||◌}
use Rattle.std.specs.List.{AllByRecursion, list_any}
use Rattle.std.proofs.lemmas.Bool.{false≢true}
use Rattle.std.proofs.lemmas.List.{length-map}
use Rattle.cc_ops.specs.Classes.{arity}
use Rattle.cc_core.specs.Core as core
use Rattle.cc_core.specs.Core.{Shapes, no_function}
use Rattle.cc_core.specs.View.{function_of, program_of}
use Rattle.cc_core.specs.declared.program.Function.{Function as TextFunction}
use Rattle.cc_core.specs.declared.program.Program.{Program as TextProgram}
use Rattle.cc_functions.specs.Functions.{kinds_of}
use Rattle.cc_functions.specs.Items.{nothing_done}
use Rattle.cc_names.specs.Group.{is_main}
use Rattle.cc_names.specs.Names.{names_of}
use Rattle.cc_scopes.specs.Elab.{nothing_yet}
use Rattle.cc_scopes.specs.Scope.{Context}
use Rattle.cc_scopes.specs.declared.tables.Signature.{Signature}
use Rattle.cc_source.proofs.CountLaws.{arity_of, functions_counted, items_arities}
use Rattle.cc_source.proofs.FunctionLaws.{arity_is}
use Rattle.cc_source.proofs.ItemLaws.{FunctionIsFine}
use Rattle.cc_source.proofs.MainLaws.{main_has_its_number}
use Rattle.cc_source.proofs.ProgramLaws.{file_keeps, done_of, core_is, shapes_of, functions_fine}
use Rattle.cc_source.proofs.TableLaws.{got_below, got_mapped, same_length}
use Rattle.cc_tables.specs.Tables.{outside, param_types, signature, methods, functions_of, tables_of}
use Rattle.cc_tree.specs.declared.declarations.Function.{Function}
use Rattle.cc_tree.specs.declared.declarations.Item.{Item}
use Rattle.cc_tree.specs.declared.declarations.Item.TheVariants as item
use Rattle.cc_tree.specs.declared.declarations.Param.{Param}
use Rattle.cc_tree.specs.declared.declarations.Program.{Program}
use Rattle.cc_types.specs.Elaboration.{main_of}
use Rattle.cc_types.specs.Program.{IsWellFormed, core_program, main_params}

-- ---- in the tables

-- one of some functions is called main, and has so many parameters
record HasMain (functions : List Signature) (parameters : ℕ) : Type 0 where
  number : ℕ
  found : Signature
  is : slice_get functions number ≡ Some found
  main : found.is_main ≡ true
  counted : length found.params ≡ parameters

got_behind : {A : Type 0} (xs ys : List A) (i : ℕ) (x : A) → slice_get ys i ≡ Some x → slice_get (xs ++ ys) (length xs + i) ≡ Some x
got_behind [] ys i x is = ap (λ n. slice_get ys n) (zero-add i) ∙ is
got_behind (y ∷ xs) ys i x is = ap (λ n. slice_get (y ∷ xs ++ ys) n) (suc-add (length xs) i) ∙ got_behind xs ys i x is

module _ (cx : Context) where
  types_counted : (ps : List Param) → length (param_types cx ps) ≡ length ps
  types_counted [] = refl
  types_counted (p ∷ ps) = ap suc (types_counted ps)

  this_or_later : (b : Bool) (f : Function) (xs : List Item) → (list_any is_main xs ≡ true → HasMain (functions_of cx xs) (main_params xs))
      → (b || list_any is_main xs) ≡ true
      → HasMain (signature cx b f ∷ functions_of cx xs) (if b then length f.params else main_params xs)
  this_or_later true f xs later any = record { number = 0; found = signature cx true f; is = refl; main = refl; counted = types_counted f.params }
  this_or_later false f xs later any =
      let m = later any in record { number = suc m.number; found = m.found; is = m.is; main = m.main; counted = m.counted }

  main_found : (xs : List Item) → list_any is_main xs ≡ true → HasMain (functions_of cx xs) (main_params xs)
  main_found [] any = absurd (false≢true any)
  main_found (item.Const name value line ∷ xs) any = main_found xs any
  main_found (item.Class c ∷ xs) any =
      let m = main_found xs any in
      record {
        number = length (methods cx c.members) + m.number;
        found = m.found;
        is = got_behind (methods cx c.members) (functions_of cx xs) m.number m.found m.is;
        main = m.main;
        counted = m.counted;
      }
  main_found (item.Func f ∷ xs) any = this_or_later (bytes_eq f.name (codes "main")) f xs (main_found xs) any

-- ---- in the core

-- a function has a cell for each parameter
one_each : (h : Shapes) (f : TextFunction) → FunctionIsFine h f → length f.shape.params ≡ arity f.shape.params
one_each h f x =
    ap (λ ps. length ps) x.params ∙ (length-map x.declared kinds_of ∙ (sym (arity_is x.declared) ∙ ap arity (sym x.params)))

parameters_at : (h : Shapes) (fs : List TextFunction) (k n : ℕ) → AllByRecursion (FunctionIsFine h) fs → k < length fs
    → get_or (map arity_of fs) k 0 ≡ n → length (get_or (map function_of fs) k no_function).shape.params ≡ n
parameters_at h [] k n all lt is = let e : k < 0 = lt in absurd (omega arith)
parameters_at h (f ∷ fs) zero n all lt is = one_each h f all.0 ∙ is
parameters_at h (f ∷ fs) (suc k) n all lt is = parameters_at h fs k n all.1 (omega arith) is

module _ (p : Program) (well : IsWellFormed p) where
  -- where functions are looked at does not count
  here : Context
  here = outside (names_of p.items) (tables_of (names_of p.items) p.items) 0 None 0

  counts_are : map arity_of (done_of p).functions ≡ map (λ (g : Signature). length g.params) (functions_of here p.items)
  unfolding done_of
  counts_are =
      items_arities (names_of p.items) (tables_of (names_of p.items) p.items) 0 0 nothing_done p.items nothing_yet
      ∙ sym (functions_counted here p.items)

  main_counted : length (get_or (map function_of (done_of p).functions) (main_of (names_of p.items)) no_function).shape.params ≡ main_params p.items
  main_counted =
      let fs = (done_of p).functions in
      let m = main_found here p.items (file_keeps p well).main in
      let number : main_of (names_of p.items) ≡ m.number =
      main_has_its_number p.items (file_keeps p well).names here m.number m.found m.is m.main in
      let as_many : length fs ≡ length (functions_of here p.items) =
      same_length arity_of (λ (g : Signature). length g.params) fs (functions_of here p.items) counts_are in
      let below : m.number < length fs =
      subst (λ k. m.number < k) (sym as_many) (got_below (functions_of here p.items) m.number m.found m.is) in
      let count : get_or (map arity_of fs) m.number 0 ≡ main_params p.items =
      ap (λ ks. get_or ks m.number 0) counts_are
      ∙ (got_mapped (λ (g : Signature). length g.params) (functions_of here p.items) m.number m.found m.is ∙ m.counted) in
      subst (λ k. length (get_or (map function_of fs) k no_function).shape.params ≡ main_params p.items) (sym number)
      (parameters_at (shapes_of p) fs m.number (main_params p.items) (functions_fine p well) below count)

  pub main_takes_its_parameters : main_params p.items
      ≡ length (core.function (program_of (core_program p)) (program_of (core_program p)).main).shape.params
  main_takes_its_parameters =
      subst (λ (text : TextProgram). main_params p.items ≡ length (core.function (program_of text) (program_of text).main).shape.params)
      (sym (core_is p)) (sym main_counted)
