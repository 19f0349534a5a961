-- How many parameters functions have, and how many values constructors take: in the text, in the tables and in the core.
use Rattle.std.proofs.Common.{◌≡◌, ℕ, suc, ◌+◌, Bool, false, List, [], ◌∷◌, ◌++◌, length, map, Some, None, refl, sym, ap, ◌∙◌}
use Rattle.std.proofs.lemmas.List.{map-append, append_assoc, append-nil}
use Rattle.cc_ops.specs.Classes.{arity}
use Rattle.cc_ops.specs.declared.shape.ClassShape.{ClassShape}
use Rattle.cc_core.specs.declared.program.Function.{Function as CoreFunction}
use Rattle.cc_names.specs.Declarations.{after_methods}
use Rattle.cc_names.specs.Group.{constructor_lines, second_constructors, parameter_rules, class_rules, item_rules}
use Rattle.cc_names.specs.Names.{NameTables}
use Rattle.cc_names.specs.declared.broken.Broken.TheVariants.{Rule}
use Rattle.cc_names.specs.declared.rule.StaticRule.TheVariants.{NameTwice}
use Rattle.cc_scopes.specs.declared.state.State.{State}
use Rattle.cc_scopes.specs.declared.tables.Class.{Class}
use Rattle.cc_scopes.specs.declared.tables.Signature.{Signature}
use Rattle.cc_scopes.specs.declared.tables.Tables.{Tables}
use Rattle.cc_scopes.specs.Scope.{Context}
use Rattle.cc_tree.specs.declared.declarations.ClassDecl.{ClassDecl}
use Rattle.cc_tree.specs.declared.declarations.Function.{Function}
use Rattle.cc_tree.specs.declared.declarations.Item.{Item}
use Rattle.cc_tree.specs.declared.declarations.Item.TheVariants as item
use Rattle.cc_tree.specs.declared.declarations.Member.{Member}
use Rattle.cc_tree.specs.declared.declarations.Member.TheVariants as member
use Rattle.cc_tree.specs.declared.declarations.Param.{Param}
use Rattle.cc_tables.specs.Tables.{outside, param_types, constructor_types, classes_from, methods, functions_of}
use Rattle.cc_functions.specs.declared.done.Done.{Done}
use Rattle.cc_functions.specs.Functions.{function}
use Rattle.cc_functions.specs.Constructors.{constructor_at}
use Rattle.cc_functions.specs.Items.{with_function, no_members, filled, member_name, field_member, function_member, member_by, members_from, class_item}
use Rattle.cc_functions.specs.Items.{is_main, function_item, class_id, after_constant, after_class, after_function, items_from}
use Rattle.cc_source.proofs.RuleLaws.{not_empty, empty_before, empty_behind, rules_of_class}
use Rattle.cc_source.proofs.FunctionLaws.{function_shape_of, arity_is}

-- ---- in the text

abbrev pub method_counts : List Member → List ℕ
method_counts [] = []
method_counts (member.Field d ∷ ms) = method_counts ms
method_counts (member.Func f ∷ ms) = length f.params ∷ method_counts ms
method_counts (member.Build name params body line ∷ ms) = method_counts ms

abbrev pub function_counts : List Item → List ℕ
function_counts [] = []
function_counts (item.Const name value line ∷ xs) = function_counts xs
function_counts (item.Class c ∷ xs) = method_counts c.members ++ function_counts xs
function_counts (item.Func f ∷ xs) = length f.params ∷ function_counts xs

-- of the first constructor, and of the last one after one with so many
abbrev pub first_count : List Member → ℕ
first_count [] = 0
first_count (member.Field d ∷ ms) = first_count ms
first_count (member.Func f ∷ ms) = first_count ms
first_count (member.Build name params body line ∷ ms) = length params

abbrev pub last_count : ℕ → List Member → ℕ
last_count k [] = k
last_count k (member.Field d ∷ ms) = last_count k ms
last_count k (member.Func f ∷ ms) = last_count k ms
last_count k (member.Build name params body line ∷ ms) = last_count (length params) ms

abbrev pub first_counts : List Item → List ℕ
first_counts [] = []
first_counts (item.Const name value line ∷ xs) = first_counts xs
first_counts (item.Class c ∷ xs) = first_count c.members ∷ first_counts xs
first_counts (item.Func f ∷ xs) = first_counts xs

abbrev pub last_counts : List Item → List ℕ
last_counts [] = []
last_counts (item.Const name value line ∷ xs) = last_counts xs
last_counts (item.Class c ∷ xs) = last_count 0 c.members ∷ last_counts xs
last_counts (item.Func f ∷ xs) = last_counts xs

-- ---- in the tables

types_counted : (cx : Context) (ps : List Param) → length (param_types cx ps) ≡ length ps
types_counted cx [] = refl
types_counted cx (p ∷ ps) = ap suc (types_counted cx ps)

abbrev params_of : Signature → ℕ
params_of g = length g.params

methods_counted : (cx : Context) (ms : List Member) → map params_of (methods cx ms) ≡ method_counts ms
methods_counted cx [] = refl
methods_counted cx (member.Field d ∷ ms) = methods_counted cx ms
methods_counted cx (member.Func f ∷ ms) =
    ap (λ k. k ∷ map params_of (methods cx ms)) (types_counted cx f.params) ∙ ap (λ ks. length f.params ∷ ks) (methods_counted cx ms)
methods_counted cx (member.Build name params body line ∷ ms) = methods_counted cx ms

pub functions_counted : (cx : Context) (xs : List Item) → map (λ (g : Signature). length g.params) (functions_of cx xs) ≡ function_counts xs
functions_counted cx [] = refl
functions_counted cx (item.Const name value line ∷ xs) = functions_counted cx xs
functions_counted cx (item.Class c ∷ xs) =
    map-append params_of (methods cx c.members) (functions_of cx xs)
    ∙ (ap (λ ks. ks ++ map params_of (functions_of cx xs)) (methods_counted cx c.members) ∙ ap (λ ks. method_counts c.members ++ ks) (functions_counted cx xs))
functions_counted cx (item.Func f ∷ xs) =
    ap (λ k. k ∷ map params_of (functions_of cx xs)) (types_counted cx f.params) ∙ ap (λ ks. length f.params ∷ ks) (functions_counted cx xs)

constructor_counted : (cx : Context) (ms : List Member) → length (constructor_types cx ms) ≡ first_count ms
constructor_counted cx [] = refl
constructor_counted cx (member.Field d ∷ ms) = constructor_counted cx ms
constructor_counted cx (member.Func f ∷ ms) = constructor_counted cx ms
constructor_counted cx (member.Build name params body line ∷ ms) = types_counted cx params

abbrev makers_of : Class → ℕ
makers_of k = length k.constructor

pub classes_counted : (names : NameTables) (tables : Tables) (k c f : ℕ) (xs : List Item)
    → map (λ (k : Class). length k.constructor) (classes_from names tables k c f xs) ≡ first_counts xs
classes_counted names tables k c f [] = refl
classes_counted names tables k c f (item.Const name value line ∷ xs) = classes_counted names tables (k + 1) c f xs
classes_counted names tables k c f (item.Class class ∷ xs) =
    ap (λ m. m ∷ map makers_of (classes_from names tables k (c + 1) (after_methods f class.members) xs))
    (constructor_counted (outside names tables k _ class.line) class.members)
    ∙ ap (λ ms. first_count class.members ∷ ms) (classes_counted names tables k (c + 1) (after_methods f class.members) xs)
classes_counted names tables k c f (item.Func function ∷ xs) = classes_counted names tables k c (f + 1) xs

-- ---- in the core

abbrev pub arity_of : CoreFunction → ℕ
arity_of f = arity f.shape.params

abbrev pub maker_of : ClassShape → ℕ
maker_of c = c.params

abbrev pub arities : Done → List ℕ
arities d = map arity_of d.functions

abbrev pub makers : Done → List ℕ
makers d = map maker_of d.classes

function_arity : (cx : Context) (m : Bool) (name : List ℕ) (f : Function) (s : State)
    → arity (function cx m name f s).0.function.shape.params ≡ length f.params
function_arity cx m name f s =
    let h = function_shape_of cx m name f s in
    ap arity h.params ∙ (arity_is h.declared ∙ h.counted)

-- one more function, with so many parameters, and then more
then_more : (fs : List CoreFunction) (f : CoreFunction) (k : ℕ) (ks : List ℕ) → arity f.shape.params ≡ k
    → map arity_of (fs ++ f ∷ []) ++ ks ≡ map arity_of fs ++ k ∷ ks
then_more fs f k ks is =
    ap (λ zs. zs ++ ks) (map-append arity_of fs (f ∷ []))
    ∙ (append_assoc (map arity_of fs) (arity f.shape.params ∷ []) ks ∙ ap (λ z. map arity_of fs ++ z ∷ ks) is)

members_arities : (cx : Context) (class : ClassDecl) (d : Done) (shape : ClassShape) (ms : List Member) (s : State)
    → arities (members_from cx class d shape ms s).0.0 ≡ arities d ++ method_counts ms
unfolding field_member function_member
members_arities cx class d shape [] s = sym (append-nil (arities d))
members_arities cx class d shape (member.Field f ∷ ms) s =
    let r = field_member cx f d shape s in members_arities cx class d r.0.1 ms r.1
members_arities cx class d shape (member.Func f ∷ ms) s =
    let r = function cx false (member_name class.name f.name) f s in
    members_arities cx class (with_function d r.0) shape ms r.1
    ∙ then_more d.functions r.0.function (length f.params) (method_counts ms) (function_arity cx false (member_name class.name f.name) f s)
members_arities cx class d shape (member.Build name params body line ∷ ms) s =
    let r = member_by (member.Build name params body line) cx class d shape s in members_arities cx class d r.0.1 ms r.1

pub members_classes : (cx : Context) (class : ClassDecl) (d : Done) (shape : ClassShape) (ms : List Member) (s : State)
    → (members_from cx class d shape ms s).0.0.classes ≡ d.classes
unfolding field_member function_member
members_classes cx class d shape [] s = refl
members_classes cx class d shape (member.Field f ∷ ms) s =
    let r = field_member cx f d shape s in members_classes cx class d r.0.1 ms r.1
members_classes cx class d shape (member.Func f ∷ ms) s =
    let r = function cx false (member_name class.name f.name) f s in members_classes cx class (with_function d r.0) shape ms r.1
members_classes cx class d shape (member.Build name params body line ∷ ms) s =
    let r = member_by (member.Build name params body line) cx class d shape s in members_classes cx class d r.0.1 ms r.1

members_params : (cx : Context) (class : ClassDecl) (d : Done) (shape : ClassShape) (ms : List Member) (s : State)
    → (members_from cx class d shape ms s).0.1.params ≡ last_count shape.params ms
unfolding field_member function_member constructor_at
members_params cx class d shape [] s = refl
members_params cx class d shape (member.Field f ∷ ms) s =
    let r = field_member cx f d shape s in members_params cx class d r.0.1 ms r.1
members_params cx class d shape (member.Func f ∷ ms) s =
    let r = function cx false (member_name class.name f.name) f s in members_params cx class (with_function d r.0) shape ms r.1
members_params cx class d shape (member.Build name params body line ∷ ms) s =
    let r = member_by (member.Build name params body line) cx class d shape s in members_params cx class d r.0.1 ms r.1

module _ (names : NameTables) (tables : Tables) where
  pub items_arities : (k c : ℕ) (d : Done) (xs : List Item) (s : State) → arities (items_from names tables (record { constants = k; classes = c; done = d }) xs s).0.done ≡ arities d ++ function_counts xs
  unfolding after_constant after_class after_function class_item function_item
  items_arities k c d [] s = sym (append-nil (arities d))
  items_arities k c d (item.Const name value line ∷ xs) s =
      let r = after_constant names tables (record { constants = k; classes = c; done = d }) value line s in items_arities r.0.constants r.0.classes r.0.done xs r.1
  items_arities k c d (item.Class class ∷ xs) s =
      let r = after_class names tables (record { constants = k; classes = c; done = d }) class s in
      items_arities r.0.constants r.0.classes r.0.done xs r.1
      ∙ (ap (λ ks. ks ++ function_counts xs)
      (members_arities (outside names tables k (Some (class_id c)) class.line) class d no_members class.members s)
      ∙ append_assoc (arities d) (method_counts class.members) (function_counts xs))
  items_arities k c d (item.Func f ∷ xs) s =
      let r = after_function names tables (record { constants = k; classes = c; done = d }) f s in
      items_arities r.0.constants r.0.classes r.0.done xs r.1 ∙ then_more d.functions _ (length f.params) (function_counts xs)
      (function_arity (outside names tables k None f.line) (is_main f.name) f.name f s)

  pub items_makers : (k c : ℕ) (d : Done) (xs : List Item) (s : State)
      → makers (items_from names tables (record { constants = k; classes = c; done = d }) xs s).0.done ≡ makers d ++ last_counts xs
  unfolding after_constant after_class after_function class_item function_item
  items_makers k c d [] s = sym (append-nil (makers d))
  items_makers k c d (item.Const name value line ∷ xs) s =
      let r = after_constant names tables (record { constants = k; classes = c; done = d }) value line s in items_makers r.0.constants r.0.classes r.0.done xs r.1
  items_makers k c d (item.Class class ∷ xs) s =
      let r = after_class names tables (record { constants = k; classes = c; done = d }) class s in
      let cx = outside names tables k (Some (class_id c)) class.line in
      let p = (members_from cx class d no_members class.members s).0 in
      items_makers r.0.constants r.0.classes r.0.done xs r.1
      ∙ (ap (λ ks. ks ++ last_counts xs) (map-append maker_of p.0.classes (filled p.1 ∷ []))
      ∙ (append_assoc (map maker_of p.0.classes) (p.1.params ∷ []) (last_counts xs)
      ∙ (ap (λ cs. map maker_of cs ++ p.1.params ∷ last_counts xs) (members_classes cx class d no_members class.members s)
      ∙ ap (λ k. makers d ++ k ∷ last_counts xs) (members_params cx class d no_members class.members s))))
  items_makers k c d (item.Func f ∷ xs) s =
      let r = after_function names tables (record { constants = k; classes = c; done = d }) f s in items_makers r.0.constants r.0.classes r.0.done xs r.1

-- ---- one constructor, which is the first and the last

unchanged : (k : ℕ) (ms : List Member) → constructor_lines ms ≡ [] → last_count k ms ≡ k
unchanged k [] none = refl
unchanged k (member.Field d ∷ ms) none = unchanged k ms none
unchanged k (member.Func f ∷ ms) none = unchanged k ms none
unchanged k (member.Build name params body line ∷ ms) none = absurd (not_empty line (constructor_lines ms) none)

no_more : (ls : List ℕ) → map (Rule NameTwice) ls ≡ [] → ls ≡ []
no_more [] none = refl
no_more (l ∷ ls) none = absurd (not_empty (Rule NameTwice l) (map (Rule NameTwice) ls) none)

pub one_constructor : (ms : List Member) → second_constructors (constructor_lines ms) ≡ [] → last_count 0 ms ≡ first_count ms
one_constructor [] none = refl
one_constructor (member.Field d ∷ ms) none = one_constructor ms none
one_constructor (member.Func f ∷ ms) none = one_constructor ms none
one_constructor (member.Build name params body line ∷ ms) none = unchanged (length params) ms (no_more (constructor_lines ms) none)

pub counts_agree : (xs : List Item) → item_rules xs ≡ [] → last_counts xs ≡ first_counts xs
counts_agree [] none = refl
counts_agree (item.Const name value line ∷ xs) none = counts_agree xs none
counts_agree (item.Func f ∷ xs) none = counts_agree xs (empty_behind (parameter_rules f.params) (item_rules xs) none)
counts_agree (item.Class c ∷ xs) none =
    let one = (rules_of_class c.members (empty_before (class_rules c.members) (item_rules xs) none)).constructors in
    ap (λ k. k ∷ last_counts xs) (one_constructor c.members one)
    ∙ ap (λ ks. first_count c.members ∷ ks) (counts_agree xs (empty_behind (class_rules c.members) (item_rules xs) none))
