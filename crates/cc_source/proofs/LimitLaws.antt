-- The functions and classes of the core of a well-formed program, and how many there are.
use Rattle.std.proofs.Common.{◌≡◌, ◌≤◌, List, [], ◌∷◌, length, sym, ap, subst, ◌∙◌}
use Rattle.std.proofs.lemmas.List.{length-map}
use Rattle.std.specs.List.{AllByRecursion}
use Rattle.cc_ops.specs.Shapes.{shape_of}
use Rattle.cc_ops.specs.declared.shape.ClassShape.{ClassShape as TextShape}
use Rattle.cc_core.specs.declared.program.Function.{Function as TextFunction}
use Rattle.cc_core.specs.declared.program.Program.{Program as TextProgram}
use Rattle.cc_names.specs.Group.{class_lines, function_lines}
use Rattle.cc_names.specs.Names.{names_of}
use Rattle.cc_scopes.specs.Elab.{nothing_yet}
use Rattle.cc_tables.specs.Tables.{tables_of}
use Rattle.cc_tree.specs.declared.declarations.Program.{Program}
use Rattle.cc_functions.specs.Items.{nothing_done}
use Rattle.cc_types.specs.Program.{IsWellFormed, core_program}
use Rattle.stack_code.specs.Kept.{IsFunShape, IsClassShape}
use Rattle.cc_source.proofs.CountLaws.{arity_of, maker_of, items_arities, items_makers}
use Rattle.cc_source.proofs.ItemLaws.{FunctionIsFine}
use Rattle.cc_source.proofs.ShapeLaws.{ClassIsFine, items_shapes, class_shape_fits, fun_shape_fits, functions_listed, classes_listed}
use Rattle.cc_source.proofs.ProgramLaws.{file_keeps, done_of, core_is, shapes_of, tables_fit, functions_fine}

each_is : {A : Type 0} (P Q : A → Type 0) → ((x : A) → P x → Q x) → (xs : List A) → AllByRecursion P xs → AllByRecursion Q xs
each_is P Q f [] all = tt
each_is P Q f (x ∷ xs) all = (f x all.0, each_is P Q f xs all.1)

classes_fine : (p : Program) → IsWellFormed p → AllByRecursion ClassIsFine (done_of p).classes
unfolding done_of
classes_fine p well =
    items_shapes (shapes_of p) (names_of p.items) (tables_of (names_of p.items) p.items) (tables_fit p well) 0 0 nothing_done p.items nothing_yet
    (file_keeps p well).items tt

pub core_functions_fit : (p : Program) → IsWellFormed p → AllByRecursion (λ f. IsFunShape f.shape) (core_program p).functions
core_functions_fit p well =
    subst (λ (core : TextProgram). AllByRecursion (λ (f : TextFunction). IsFunShape f.shape) core.functions) (sym (core_is p))
    (each_is (FunctionIsFine (shapes_of p)) (λ (f : TextFunction). IsFunShape f.shape) (fun_shape_fits (shapes_of p)) (done_of p).functions (functions_fine p well))

pub core_classes_fit : (p : Program) → IsWellFormed p → AllByRecursion (λ c. IsClassShape (shape_of c)) (core_program p).classes
core_classes_fit p well =
    subst (λ (core : TextProgram). AllByRecursion (λ (c : TextShape). IsClassShape (shape_of c)) core.classes) (sym (core_is p))
    (each_is ClassIsFine (λ (c : TextShape). IsClassShape (shape_of c)) class_shape_fits (done_of p).classes (classes_fine p well))

functions_counted : (p : Program) → length (done_of p).functions ≡ length (function_lines p.items)
unfolding done_of
functions_counted p =
    sym (length-map (done_of p).functions arity_of)
    ∙ (ap (λ ks. length ks) (items_arities (names_of p.items) (tables_of (names_of p.items) p.items) 0 0 nothing_done p.items nothing_yet)
    ∙ functions_listed p.items)

classes_counted : (p : Program) → length (done_of p).classes ≡ length (class_lines p.items)
unfolding done_of
classes_counted p =
    sym (length-map (done_of p).classes maker_of)
    ∙ (ap (λ ks. length ks) (items_makers (names_of p.items) (tables_of (names_of p.items) p.items) 0 0 nothing_done p.items nothing_yet)
    ∙ classes_listed p.items)

pub few_functions : (p : Program) → IsWellFormed p → length (core_program p).functions ≤ 1024
few_functions p well =
    subst (λ (core : TextProgram). length core.functions ≤ 1024) (sym (core_is p))
    (subst (λ k. k ≤ 1024) (sym (functions_counted p)) (file_keeps p well).functions)

pub few_classes : (p : Program) → IsWellFormed p → length (core_program p).classes ≤ 256
few_classes p well =
    subst (λ (core : TextProgram). length core.classes ≤ 256) (sym (core_is p))
    (subst (λ k. k ≤ 256) (sym (classes_counted p)) (file_keeps p well).classes)
