-- Items: each function of the core fits.
use Rattle.std.proofs.Common.{◌≡◌, ℕ, ◌≤◌, Bool, false, List, [], ◌∷◌, ◌++◌, length, map, Some, None, arith}
use Rattle.std.specs.List.{AllByRecursion}
use Rattle.cc_ops.specs.declared.shape.ClassShape.{ClassShape}
use Rattle.cc_core.specs.declared.program.Function.{Function as CoreFunction}
use Rattle.cc_core.specs.Core.{Shapes}
use Rattle.cc_core.specs.View.{stmts_of}
use Rattle.cc_names.specs.Group.{parameter_rules, member_rules, class_rules, item_rules}
use Rattle.cc_names.specs.Names.{NameTables}
use Rattle.cc_scopes.specs.declared.state.State.{State}
use Rattle.cc_scopes.specs.declared.tables.Tables.{Tables}
use Rattle.cc_scopes.specs.declared.types.Declared.{Declared}
use Rattle.cc_scopes.specs.Scope.{Context}
use Rattle.cc_tree.specs.declared.declarations.ClassDecl.{ClassDecl}
use Rattle.cc_tree.specs.declared.declarations.Function.{Function}
use Rattle.cc_tree.specs.declared.declarations.Item.{Item}
use Rattle.cc_tree.specs.declared.declarations.Item.TheVariants as item
use Rattle.cc_tree.specs.declared.declarations.Member.{Member}
use Rattle.cc_tree.specs.declared.declarations.Member.TheVariants as member
use Rattle.cc_tables.specs.Tables.{outside}
use Rattle.cc_functions.specs.declared.done.Done.{Done}
use Rattle.cc_functions.specs.Functions.{kinds_of, function}
use Rattle.cc_functions.specs.Items.{with_function, no_members, member_name, field_member, function_member, member_by, members_from, class_item}
use Rattle.cc_functions.specs.Items.{is_main, function_item, class_id, after_constant, after_class, after_function, items_from}
use Rattle.cc_source.proofs.Fits.{Clean, BodyFits}
use Rattle.cc_source.proofs.Sound.{Agree}
use Rattle.cc_source.proofs.RuleLaws.{empty_before, empty_behind, few_params, rules_of_class}
use Rattle.cc_source.proofs.FunctionLaws.{function_shape_of, function_fits}
use Rattle.cc_source.proofs.CleanLaws.{members_clean, items_clean}

-- a function of the core: its body fits, its parameters have a cell each, and are at most 8 of its variables
pub record FunctionIsFine (h : Shapes) (f : CoreFunction) : Type 0 where
  pub body : BodyFits h f.shape.vars (stmts_of f.body)
  pub declared : List Declared
  pub params : f.shape.params ≡ map kinds_of declared
  pub few : length declared ≤ 8
  pub variables : length declared ≤ f.shape.vars

pub all_and_one : {A : Type 0} (P : A → Type 0) (xs : List A) (x : A) → AllByRecursion P xs → P x → AllByRecursion P (xs ++ x ∷ [])
all_and_one P [] x p q = (q, tt)
all_and_one P (y ∷ xs) x p q = (p.0, all_and_one P xs x p.1 q)

module _ (h : Shapes) where
  function_is_fine : (cx : Context) → Agree h cx.tables → (m : Bool) (name : List ℕ) (f : Function) (s : State) → length f.params ≤ 8
      → Clean (function cx m name f s).1 → FunctionIsFine h (function cx m name f s).0.function
  function_is_fine cx agree m name f s few clean =
      let x = function_shape_of cx m name f s in
      let y = function_fits cx m name f s h agree clean in
      let same : length x.declared ≡ length f.params = x.counted in
      let variables : length f.params ≤ (function cx m name f s).0.function.shape.vars = y.variables in
      record { body = y.body; declared = x.declared; params = x.params; few = omega (arith, same, few); variables = omega (arith, same, variables) }

  members_fine : (cx : Context) → Agree h cx.tables → (class : ClassDecl) (d : Done) (shape : ClassShape) (ms : List Member) (s : State)
      → member_rules ms ≡ [] → Clean (members_from cx class d shape ms s).1 → AllByRecursion (FunctionIsFine h) d.functions
      → AllByRecursion (FunctionIsFine h) (members_from cx class d shape ms s).0.0.functions
  unfolding field_member function_member
  members_fine cx agree class d shape [] s rules clean all = all
  members_fine cx agree class d shape (member.Field f ∷ ms) s rules clean all =
      let r = field_member cx f d shape s in members_fine cx agree class d r.0.1 ms r.1 rules clean all
  members_fine cx agree class d shape (member.Func f ∷ ms) s rules clean all =
      let name = member_name class.name f.name in
      let r = function cx false name f s in
      let few = few_params f.params (empty_before (parameter_rules f.params) (member_rules ms) rules) in
      members_fine cx agree class (with_function d r.0) shape ms r.1 (empty_behind (parameter_rules f.params) (member_rules ms) rules) clean
      (all_and_one (FunctionIsFine h) d.functions r.0.function all (function_is_fine cx agree false name f s few
      (members_clean cx class (with_function d r.0) shape ms r.1 clean)))
  members_fine cx agree class d shape (member.Build name params body line ∷ ms) s rules clean all =
      let r = member_by (member.Build name params body line) cx class d shape s in
      members_fine cx agree class d r.0.1 ms r.1 (empty_behind (parameter_rules params) (member_rules ms) rules) clean all

  module _ (names : NameTables) (tables : Tables) (agree : Agree h tables) where
    pub items_fine : (k c : ℕ) (d : Done) (xs : List Item) (s : State) → item_rules xs ≡ []
        → Clean (items_from names tables (record { constants = k; classes = c; done = d }) xs s).1 → AllByRecursion (FunctionIsFine h) d.functions
        → AllByRecursion (FunctionIsFine h) (items_from names tables (record { constants = k; classes = c; done = d }) xs s).0.done.functions
    unfolding after_constant after_class after_function class_item function_item
    items_fine k c d [] s rules clean all = all
    items_fine k c d (item.Const name value line ∷ xs) s rules clean all =
        let r = after_constant names tables (record { constants = k; classes = c; done = d }) value line s in items_fine r.0.constants r.0.classes r.0.done xs r.1 rules clean all
    items_fine k c d (item.Class class ∷ xs) s rules clean all =
        let r = after_class names tables (record { constants = k; classes = c; done = d }) class s in
        let keeps = rules_of_class class.members (empty_before (class_rules class.members) (item_rules xs) rules) in
        items_fine r.0.constants r.0.classes r.0.done xs r.1 (empty_behind (class_rules class.members) (item_rules xs) rules) clean
        (members_fine (outside names tables k (Some (class_id c)) class.line) agree class d no_members class.members s keeps.members
        (items_clean names tables r.0.constants r.0.classes r.0.done xs r.1 clean) all)
    items_fine k c d (item.Func f ∷ xs) s rules clean all =
        let r = after_function names tables (record { constants = k; classes = c; done = d }) f s in
        let few = few_params f.params (empty_before (parameter_rules f.params) (item_rules xs) rules) in
        items_fine r.0.constants r.0.classes r.0.done xs r.1 (empty_behind (parameter_rules f.params) (item_rules xs) rules) clean
        (all_and_one (FunctionIsFine h) d.functions _ all
        (function_is_fine (outside names tables k None f.line) agree (is_main f.name) f.name f s few
        (items_clean names tables r.0.constants r.0.classes r.0.done xs r.1 clean)))
