-- The shapes of classes and functions.
use Rattle.std.proofs.Common.{◌≡◌, ℕ, zero, suc, ◌+◌, ◌*◌, ◌<◌, ◌≤◌, false, List, [], ◌∷◌, ◌++◌, length, map, Some, refl, sym, ap, subst, ◌∙◌, arith, length-append}
use Rattle.std.proofs.lemmas.List.{length-map}
use Rattle.std.specs.Prelude.{All}
use Rattle.std.specs.List.{AllByRecursion}
use Rattle.cc_ops.specs.Classes.{arity, size}
use Rattle.cc_ops.specs.Shapes.{shape_of}
use Rattle.cc_ops.specs.declared.kind.Kind.{Kind}
use Rattle.cc_ops.specs.declared.shape.CellRun.{CellRun}
use Rattle.cc_ops.specs.declared.shape.ClassShape.{ClassShape as TextShape}
use Rattle.cc_core.specs.declared.program.Function.{Function as TextFunction}
use Rattle.cc_core.specs.Core.{Shapes}
use Rattle.cc_names.specs.Group.{parameter_rules, member_rules, class_rules, item_rules, member_lines, class_lines, method_lines, function_lines}
use Rattle.cc_names.specs.Names.{NameTables}
use Rattle.cc_scopes.specs.declared.state.State.{State}
use Rattle.cc_scopes.specs.declared.tables.Tables.{Tables}
use Rattle.cc_scopes.specs.declared.types.Declared.{Declared}
use Rattle.cc_scopes.specs.declared.types.Shape.{Shape}
use Rattle.cc_scopes.specs.declared.types.Shape.TheVariants as shape
use Rattle.cc_scopes.specs.Scope.{Context}
use Rattle.cc_tree.specs.declared.declarations.ClassDecl.{ClassDecl}
use Rattle.cc_tree.specs.declared.declarations.Item.{Item}
use Rattle.cc_tree.specs.declared.declarations.Item.TheVariants as item
use Rattle.cc_tree.specs.declared.declarations.Member.{Member}
use Rattle.cc_tree.specs.declared.declarations.Member.TheVariants as member
use Rattle.cc_tree.specs.declared.statements.Decl.{Decl}
use Rattle.cc_declared.specs.Slots.{field}
use Rattle.cc_elaboration.specs.Declarations.{cells}
use Rattle.cc_elaboration.specs.Statements.{at_line}
use Rattle.cc_tables.specs.Tables.{outside}
use Rattle.cc_functions.specs.declared.done.Done.{Done}
use Rattle.cc_functions.specs.Functions.{begin, kinds_of, function}
use Rattle.cc_functions.specs.Constructors.{constructor_at}
use Rattle.cc_functions.specs.Items.{with_function, no_members, run_of, with_run, filled_runs, filled, member_name, field_member, function_member, member_by, members_from, class_item}
use Rattle.cc_functions.specs.Items.{constant_item, function_item, class_id, after_constant, after_class, after_function, items_from}
use Rattle.stack_code.specs.Kept.{IsFunShape, IsClassShape}
use Rattle.cc_source.proofs.Sound.{IsLength, HasCells, Agree, itself}
use Rattle.cc_source.proofs.RuleLaws.{empty_before, empty_behind, few_params, rules_of_class}
use Rattle.cc_source.proofs.DeclaredLaws.{DeclaredFits, field_runs}
use Rattle.cc_source.proofs.FunctionLaws.{arity_is}
use Rattle.cc_source.proofs.CountLaws.{function_counts, last_counts, method_counts, members_classes}
use Rattle.cc_source.proofs.ItemLaws.{FunctionIsFine, all_and_one}

-- ---- fields, before which nothing is in scope

field_has_cells : (h : Shapes) (cx : Context) → Agree h cx.tables → (d : Decl) (s : State) → DeclaredFits (field cx d (begin s).1).0
field_has_cells h cx agree d s =
    let last = (field cx d (begin s).1).1 in (((field_runs h last cx d {P = Unit {0}}).run (begin s).1 (itself last)).1 tt (tt, agree)).1

-- ---- a class so far

record SoFar (b : ℕ) (c : TextShape) : Type 0 where
  runs : AllByRecursion (λ (r : CellRun). IsLength r.count) c.cells
  many : length c.cells ≤ b
  few : c.params ≤ 8

-- a class: at most 8 values make an object, which has 1 to 256 runs of 1 to 65,536 cells
pub record ClassIsFine (c : TextShape) : Type 0 where
  pub runs : AllByRecursion (λ (r : CellRun). IsLength r.count) c.cells
  pub some : 0 < length c.cells
  pub many : length c.cells ≤ 256
  pub few : c.params ≤ 8

cells_within : (s : Shape) → HasCells s → IsLength (cells s)
cells_within shape.Cell p = (omega arith, omega arith)
cells_within (shape.Array m) p = p
cells_within (shape.Object class) p = (omega arith, omega arith)

some_runs : (rs : List CellRun) → AllByRecursion (λ (r : CellRun). IsLength r.count) rs → length rs ≤ 256
    → AllByRecursion (λ (r : CellRun). IsLength r.count) (filled_runs rs) × (0 < length (filled_runs rs)) × (length (filled_runs rs) ≤ 256)
some_runs [] p many = (((omega arith, omega arith), tt), omega arith, omega arith)
some_runs (r ∷ rs) p many = (p, omega arith, many)

filled_fine : (c : TextShape) → SoFar 256 c → ClassIsFine (filled c)
filled_fine c p = let q = some_runs c.cells p.runs p.many in record { runs = q.0; some = q.1; many = q.2; few = p.few }

module _ (h : Shapes) where
  members_shape : (cx : Context) → Agree h cx.tables → (class : ClassDecl) (d : Done) (c : TextShape) (ms : List Member) (s : State) (b : ℕ)
      → member_rules ms ≡ [] → AllByRecursion (λ (r : CellRun). IsLength r.count) c.cells → length c.cells + length (member_lines ms) ≤ b
      → c.params ≤ 8 → SoFar b (members_from cx class d c ms s).0.1
  unfolding field_member function_member constructor_at
  members_shape cx agree class d c [] s b rules runs many few = record { runs = runs; many = omega (arith, many); few = few }
  members_shape cx agree class d c (member.Field f ∷ ms) s b rules runs many few =
      let here = at_line cx f.line in
      let r = field here f (begin s).1 in
      let l : length (c.cells ++ run_of r.0 ∷ []) ≡ length c.cells + 1 = length-append c.cells (run_of r.0 ∷ []) in
      members_shape cx agree class d (with_run c r.0) ms r.1 b rules
      (all_and_one (λ (r : CellRun). IsLength r.count) c.cells (run_of r.0) runs (cells_within r.0.shape (field_has_cells h here agree f s)))
      (omega (arith, many, l)) few
  members_shape cx agree class d c (member.Func f ∷ ms) s b rules runs many few =
      let r = function cx false (member_name class.name f.name) f s in
      members_shape cx agree class (with_function d r.0) c ms r.1 b (empty_behind (parameter_rules f.params) (member_rules ms) rules)
      runs (omega (arith, many)) few
  members_shape cx agree class d c (member.Build name params body line ∷ ms) s b rules runs many few =
      let r = member_by (member.Build name params body line) cx class d c s in
      members_shape cx agree class d r.0.1 ms r.1 b (empty_behind (parameter_rules params) (member_rules ms) rules)
      runs many (few_params params (empty_before (parameter_rules params) (member_rules ms) rules))

  module _ (names : NameTables) (tables : Tables) (agree : Agree h tables) where
    pub items_shapes : (k c : ℕ) (d : Done) (xs : List Item) (s : State) → item_rules xs ≡ [] → AllByRecursion ClassIsFine d.classes
        → AllByRecursion ClassIsFine (items_from names tables (record { constants = k; classes = c; done = d }) xs s).0.done.classes
    unfolding after_constant after_class after_function class_item function_item constant_item
    items_shapes k c d [] s rules all = all
    items_shapes k c d (item.Const name value line ∷ xs) s rules all =
        let r = after_constant names tables (record { constants = k; classes = c; done = d }) value line s in
        items_shapes r.0.constants r.0.classes r.0.done xs r.1 rules all
    items_shapes k c d (item.Class class ∷ xs) s rules all =
        let r = after_class names tables (record { constants = k; classes = c; done = d }) class s in
        let cx = outside names tables k (Some (class_id c)) class.line in
        let keeps = rules_of_class class.members (empty_before (class_rules class.members) (item_rules xs) rules) in
        let few : length (member_lines class.members) ≤ 256 = keeps.few in
        let zero : 0 ≤ 8 = omega arith in
        let p = (members_from cx class d no_members class.members s).0 in
        let q = members_shape cx agree class d no_members class.members s 256 keeps.members tt (omega (arith, few)) zero in
        items_shapes r.0.constants r.0.classes r.0.done xs r.1 (empty_behind (class_rules class.members) (item_rules xs) rules)
        (all_and_one ClassIsFine p.0.classes (filled p.1)
        (subst (λ cs. AllByRecursion ClassIsFine cs) (sym (members_classes cx class d no_members class.members s)) all) (filled_fine p.1 q))
    items_shapes k c d (item.Func f ∷ xs) s rules all =
        let r = after_function names tables (record { constants = k; classes = c; done = d }) f s in
        items_shapes r.0.constants r.0.classes r.0.done xs r.1 (empty_behind (parameter_rules f.params) (item_rules xs) rules) all

-- ---- the shapes that a compiler wants

each : {A : Type 0} (P : A → Type 0) (xs : List A) → AllByRecursion P xs → All P xs
each P [] all k d lt = let e : k < 0 = lt in absurd (omega arith)
each P (x ∷ xs) all zero d lt = all.0
each P (x ∷ xs) all (suc k) d lt = each P xs all.1 k d (omega arith)

size_within : (rs : List CellRun) → AllByRecursion (λ (r : CellRun). IsLength r.count) rs → size rs ≤ 65536 * length rs
size_within [] all = omega arith
size_within (r ∷ rs) all =
    let one : r.count ≤ 65536 = all.0.1 in
    let rest : size rs ≤ 65536 * length rs = size_within rs all.1 in
    omega (arith, one, rest)

some_cells : (rs : List CellRun) → AllByRecursion (λ (r : CellRun). IsLength r.count) rs → AllByRecursion (λ (r : CellRun). 0 < r.count) rs
some_cells [] all = tt
some_cells (r ∷ rs) all = let one : 1 ≤ r.count = all.0.0 in (omega (arith, one), some_cells rs all.1)

pub class_shape_fits : (c : TextShape) → ClassIsFine c → IsClassShape (shape_of c)
class_shape_fits c p =
    let many : length c.cells ≤ 256 = p.many in
    let within : size c.cells ≤ 65536 * length c.cells = size_within c.cells p.runs in
    record { few = p.few; some = p.some; runs = each (λ (r : CellRun). 0 < r.count) c.cells (some_cells c.cells p.runs); small = omega (arith, many, within) }

one_cell : (ds : List Declared) → AllByRecursion (λ (kinds : List Kind). 0 < length kinds) (map kinds_of ds)
one_cell [] = tt
one_cell (d ∷ ds) = (omega arith, one_cell ds)

pub fun_shape_fits : (h : Shapes) (f : TextFunction) → FunctionIsFine h f → IsFunShape f.shape
fun_shape_fits h f p =
    let same : length f.shape.params ≡ length p.declared = ap (λ ps. length ps) p.params ∙ length-map p.declared kinds_of in
    let cells : arity f.shape.params ≡ length p.declared = ap arity p.params ∙ arity_is p.declared in
    let few : length p.declared ≤ 8 = p.few in
    let variables : length p.declared ≤ f.shape.vars = p.variables in
    record {
      cells = subst (λ ps. All (λ (kinds : List Kind). 0 < length kinds) ps) (sym p.params) (each (λ (kinds : List Kind). 0 < length kinds) (map kinds_of p.declared) (one_cell p.declared));
      few = omega (arith, cells, few);
      variables = omega (arith, same, variables);
    }

-- ---- how many there are

methods_listed : (ms : List Member) → length (method_counts ms) ≡ length (method_lines ms)
methods_listed [] = refl
methods_listed (member.Field f ∷ ms) = methods_listed ms
methods_listed (member.Func f ∷ ms) = ap suc (methods_listed ms)
methods_listed (member.Build name params body line ∷ ms) = methods_listed ms

pub functions_listed : (xs : List Item) → length (function_counts xs) ≡ length (function_lines xs)
functions_listed [] = refl
functions_listed (item.Const name value line ∷ xs) = functions_listed xs
functions_listed (item.Class c ∷ xs) =
    let a : length (method_counts c.members ++ function_counts xs) ≡ length (method_counts c.members) + length (function_counts xs) =
    length-append (method_counts c.members) (function_counts xs) in
    let b : length (method_lines c.members ++ function_lines xs) ≡ length (method_lines c.members) + length (function_lines xs) =
    length-append (method_lines c.members) (function_lines xs) in
    let m : length (method_counts c.members) ≡ length (method_lines c.members) = methods_listed c.members in
    let r : length (function_counts xs) ≡ length (function_lines xs) = functions_listed xs in
    omega (arith, a, b, m, r)
functions_listed (item.Func f ∷ xs) = ap suc (functions_listed xs)

pub classes_listed : (xs : List Item) → length (last_counts xs) ≡ length (class_lines xs)
classes_listed [] = refl
classes_listed (item.Const name value line ∷ xs) = classes_listed xs
classes_listed (item.Class c ∷ xs) = ap suc (classes_listed xs)
classes_listed (item.Func f ∷ xs) = classes_listed xs
