-- The core of a well-formed program is a program, and its variables, classes and counts are in range.
use Rattle.std.proofs.Common.{◌≡◌, ℕ, zero, suc, ◌<◌, ◌≤◌, List, [], ◌∷◌, length, map, refl, sym, ap, subst, ◌∙◌, arith}
use Rattle.std.proofs.lemmas.List.{length-map}
use Rattle.std.specs.Prelude.{get_or}
use Rattle.std.specs.List.{AllByRecursion}
use Rattle.cc_ops.specs.Classes.{arity, ClassShape}
use Rattle.cc_ops.specs.Shapes.{shape_of}
use Rattle.cc_ops.specs.declared.shape.FunShape.{FunShape}
use Rattle.cc_ops.specs.declared.shape.ClassShape.{ClassShape as TextShape}
use Rattle.cc_core.specs.declared.program.Function.{Function as TextFunction}
use Rattle.cc_core.specs.declared.program.Program.{Program as TextProgram}
use Rattle.cc_core.specs.Core.{Shapes, shapes, Function, no_function}
use Rattle.cc_core.specs.Source.{IsProgram}
use Rattle.cc_core.specs.View.{function_of, program_of}
use Rattle.cc_names.specs.Group.{first_group}
use Rattle.cc_names.specs.Names.{names_of}
use Rattle.cc_names.specs.declared.broken.Broken.{Broken}
use Rattle.cc_scopes.specs.declared.state.State.{State}
use Rattle.cc_scopes.specs.Elab.{nothing_yet}
use Rattle.cc_tables.specs.Tables.{tables_of}
use Rattle.cc_tree.specs.declared.declarations.Program.{Program}
use Rattle.cc_functions.specs.declared.done.Done.{Done}
use Rattle.cc_functions.specs.Items.{nothing_done, items, items_from, start}
use Rattle.cc_functions.specs.Functions.{kinds_of}
use Rattle.cc_types.specs.Elaboration.{read, elaboration_of, core_of}
use Rattle.cc_types.specs.Program.{first_or, IsWellFormed, core_program}
use Rattle.cc_source.proofs.Fits.{Clean, BodyFits}
use Rattle.cc_source.proofs.Sound.{Agree}
use Rattle.cc_source.proofs.RuleLaws.{not_empty, empty_before, FileKeeps, rules_of_file}
use Rattle.cc_source.proofs.CountLaws.{arity_of, maker_of, items_arities, items_makers, counts_agree}
use Rattle.cc_source.proofs.ItemLaws.{FunctionIsFine, items_fine}
use Rattle.cc_source.proofs.TableLaws.{tables_agree}

-- ---- each function of the core

abbrev CoreFits : Shapes → Function → Type 0
CoreFits h f = BodyFits h f.shape.vars f.body × (length f.shape.params ≤ f.shape.vars)

fine_fits : (h : Shapes) (f : TextFunction) → FunctionIsFine h f → CoreFits h (function_of f)
fine_fits h f x =
    let same : length f.shape.params ≡ length x.declared = ap (λ ps. length ps) x.params ∙ length-map x.declared kinds_of in
    let few : length x.declared ≤ f.shape.vars = x.variables in
    (x.body, omega (arith, same, few))

each_fits : (h : Shapes) (fs : List TextFunction) (g : ℕ) → AllByRecursion (FunctionIsFine h) fs → g < length (map function_of fs)
    → CoreFits h (get_or (map function_of fs) g no_function)
each_fits h [] g all below = let e : g < 0 = below in absurd (omega arith)
each_fits h (f ∷ fs) zero all below = fine_fits h f all.0
each_fits h (f ∷ fs) (suc g) all below = each_fits h fs g all.1 (omega arith)

-- ---- the shapes of the core

same_arities : (fs : List TextFunction)
    → map (λ (s : FunShape). arity s.params) (map (λ (f : Function). f.shape) (map function_of fs)) ≡ map arity_of fs
same_arities [] = refl
same_arities (f ∷ fs) = ap (λ ks. arity f.shape.params ∷ ks) (same_arities fs)

same_makers : (cs : List TextShape) → map (λ (c : ClassShape). c.params) (map shape_of cs) ≡ map maker_of cs
same_makers [] = refl
same_makers (c ∷ cs) = ap (λ ks. c.params ∷ ks) (same_makers cs)

first_kept : (a b : List Broken) → first_or a b ≡ [] → a ≡ []
first_kept [] b e = refl
first_kept (x ∷ a) b e = e

second_kept : (a b : List Broken) → first_or a b ≡ [] → b ≡ []
second_kept [] b e = e
second_kept (x ∷ a) b e = absurd (not_empty x a e)

-- ---- the program

pub file_keeps : (p : Program) → IsWellFormed p → FileKeeps p.items
file_keeps p well = rules_of_file p.items (first_kept (first_group p.items) _ well)

-- the parts of the core, as the items of a program leave them
unfoldable pub done_of : Program → Done
done_of p = (items_from (names_of p.items) (tables_of (names_of p.items) p.items) start p.items nothing_yet).0.done

pub core_is : (p : Program) → core_program p ≡ core_of (names_of p.items) (done_of p)
unfolding elaboration_of read items done_of
core_is p = refl

unfoldable pub shapes_of : Program → Shapes
shapes_of p = shapes (program_of (core_of (names_of p.items) (done_of p)))

pub tables_fit : (p : Program) → IsWellFormed p → Agree (shapes_of p) (tables_of (names_of p.items) p.items)
unfolding done_of shapes_of
tables_fit p well =
    let names = names_of p.items in
    let tables = tables_of names p.items in
    tables_agree (shapes_of p) names p.items
    (same_arities (done_of p).functions ∙ items_arities names tables 0 0 nothing_done p.items nothing_yet)
    (same_makers (done_of p).classes ∙ (items_makers names tables 0 0 nothing_done p.items nothing_yet ∙ counts_agree p.items (file_keeps p well).items))

-- where the last item ends
abbrev end_of : Program → State
end_of p = (items_from (names_of p.items) (tables_of (names_of p.items) p.items) start p.items nothing_yet).1

none_broken : (p : Program) → IsWellFormed p → Clean (end_of p)
unfolding elaboration_of read items
none_broken p well = empty_before (end_of p).broken _ (second_kept (first_group p.items) _ well)

pub functions_fine : (p : Program) → IsWellFormed p → AllByRecursion (FunctionIsFine (shapes_of p)) (done_of p).functions
unfolding done_of
functions_fine p well =
    items_fine (shapes_of p) (names_of p.items) (tables_of (names_of p.items) p.items) (tables_fit p well) 0 0 nothing_done p.items nothing_yet
    (file_keeps p well).items (none_broken p well) tt

abbrev AllFit : TextProgram → Type 0
AllFit core = (g : ℕ) → g < length (program_of core).functions → CoreFits (shapes (program_of core)) (get_or (program_of core).functions g no_function)

all_fit : (p : Program) → IsWellFormed p → AllFit (core_of (names_of p.items) (done_of p))
unfolding shapes_of
all_fit p well g below = each_fits (shapes_of p) (done_of p).functions g (functions_fine p well) below

pub core_fits : (p : Program) → IsWellFormed p → AllFit (core_program p)
core_fits p well = subst AllFit (sym (core_is p)) (all_fit p well)

pub core_is_a_program : (p : Program) → IsWellFormed p → IsProgram (program_of (core_program p))
core_is_a_program p well g below = (core_fits p well g below).0.0
