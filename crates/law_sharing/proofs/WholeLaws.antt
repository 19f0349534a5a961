-- Functions, constructors and items: what they break by where they stand is what the tree says.
use Rattle.std.proofs.Common.{◌≡◌, ℕ, ◌+◌, Bool, true, false, not, ◌&&◌, List, [], ◌∷◌, ◌++◌, length, Option, Some, None, refl, sym, ap, ◌∙◌}
use Rattle.std.proofs.Common.{append-nil}
use Rattle.std.specs.Prelude.{bytes_eq}
use Rattle.cc_names.specs.Names.{NameTables, names_of}
use Rattle.cc_names.specs.Table.{Name}
use Rattle.cc_names.specs.declared.rule.StaticRule.TheVariants as r
use Rattle.cc_ops.specs.declared.build.BuildSet.{BuildSet}
use Rattle.cc_ops.specs.declared.shape.ClassShape.{ClassShape}
use Rattle.cc_elaboration.specs.declared.assignments.Assignment.{Assignment}
use Rattle.cc_elaboration.specs.Statements.{at_line}
use Rattle.cc_functions.specs.Builds.{names_own}
use Rattle.cc_functions.specs.Constructors.{set_or_refused, set_if, assigned_set, assigned, other, refused, set_by, set, with_set, sets_from}
use Rattle.cc_functions.specs.Constructors.{param_in, params_in, in_constructor}
use Rattle.cc_functions.specs.Constructors.{constructor_at, constructor}
use Rattle.cc_functions.specs.Functions.{begin, is_plain_int, param_at, param, params_from, result_of, in_function, parts, finish, share_atomic}
use Rattle.cc_functions.specs.Functions.{function_at, function}
use Rattle.cc_functions.specs.Items.{with_function, with_class, with_run, with_constructor, no_members, filled, member_name, field_member}
use Rattle.cc_functions.specs.Items.{function_member}
use Rattle.cc_functions.specs.Items.{members_from, class_item, is_main, constant_item, function_item, class_id, start, after_constant, after_class}
use Rattle.cc_functions.specs.Items.{after_function}
use Rattle.cc_functions.specs.Items.{items_from, items}
use Rattle.cc_functions.specs.declared.done.Done.{Done}
use Rattle.cc_scopes.specs.declared.sharing.ShareRule.TheVariants.{AtomicUsed}
use Rattle.cc_scopes.specs.declared.tables.Tables.{Tables}
use Rattle.cc_scopes.specs.declared.types.Declared.{Declared}
use Rattle.cc_scopes.specs.Elab.{Elab, nothing_yet}
use Rattle.cc_scopes.specs.Scope.{Context}
use Rattle.cc_scopes.specs.Types.{is_local_pointer}
use Rattle.cc_declared.specs.Slots.{value_type}
use Rattle.cc_tables.specs.Tables.{outside, tables_of}
use Rattle.cc_tree.specs.declared.declarations.ClassDecl.{ClassDecl}
use Rattle.cc_tree.specs.declared.declarations.Function.{Function}
use Rattle.cc_tree.specs.declared.declarations.Item.{Item}
use Rattle.cc_tree.specs.declared.declarations.Item.TheVariants as item
use Rattle.cc_tree.specs.declared.declarations.Member.{Member}
use Rattle.cc_tree.specs.declared.declarations.Member.TheVariants as member
use Rattle.cc_tree.specs.declared.declarations.Param.{Param}
use Rattle.cc_tree.specs.declared.declarations.Program.{Program}
use Rattle.cc_tree.specs.declared.expressions.Expr.{Expr}
use Rattle.cc_tree.specs.declared.statements.AssignOp.{AssignOp}
use Rattle.cc_tree.specs.declared.statements.Stmt.{Stmt, out-Stmt}
use Rattle.cc_tree.specs.declared.statements.StmtKind.TheOpen.{StmtKind-F}
use Rattle.cc_tree.specs.declared.statements.TypeName.{TypeName}
use Rattle.cc_types.specs.Elaboration.{read, elaboration_of}
use Rattle.cc_types.specs.Program.{rules_shared}
use Rattle.law_sharing.specs.Placed.{Layer, layer, each, unless_assigned, atomic_share, placed as placed_of}
use Rattle.law_sharing.specs.Placed as placed
use Rattle.law_sharing.proofs.Leaves.{Leaves, next, done}
use Rattle.law_sharing.proofs.Adds.{Adds, placed_append, leaves_adds, bind_a, skip, skip_n, last, last_n, done_a, declare_a}
use Rattle.law_sharing.proofs.ScopeLaws.{note_rule_leaves}
use Rattle.law_sharing.proofs.ExpressionLaws.{constant_leaves}
use Rattle.law_sharing.proofs.DeclaredLaws.{parameter_leaves, returned_leaves, field_leaves}
use Rattle.law_sharing.proofs.SimpleLaws.{assignment_a, note_if_leaves}
use Rattle.law_sharing.proofs.StatementLaws.{statement_a, function_body_a}

begin_a : Adds [] begin
begin_a = record { adds = λ s. sym (append-nil (placed_of s.shared)) }

-- ---- functions

param_at_a : (cx : Context) (m : Bool) (p : Param) → Adds [] (param_at cx m p)
unfolding param_at
param_at_a cx m p = skip (leaves_adds (parameter_leaves cx p.ty)) (λ d. skip_n (leaves_adds (note_if_leaves cx (m && not (is_plain_int d)) r.BadMain))
    (skip_n (declare_a cx p.name d) (done_a d)))

param_a : (cx : Context) (m : Bool) (p : Param) → Adds [] (param cx m p)
param_a cx m p = param_at_a (at_line cx p.line) m p

params_from_a : (cx : Context) (m : Bool) (ds : List Declared) (ps : List Param) → Adds [] (params_from cx m ds ps)
params_from_a cx m ds [] = done_a ds
params_from_a cx m ds (p ∷ ps) = skip (param_a cx m p) (λ d. params_from_a cx m (ds ++ d ∷ []) ps)

result_of_a : (cx : Context) (m : Bool) (t : TypeName) → Adds [] (result_of cx m t)
unfolding result_of
result_of_a cx m t =
    skip (leaves_adds (returned_leaves cx t))
    (λ d. skip_n (leaves_adds (note_if_leaves cx (m && not (is_plain_int d)) r.BadMain)) (done_a (value_type d)))

parts_a : (cx : Context) (m : Bool) (f : Function) → Adds (each m (placed.statement m) false f.body) (parts cx m f)
unfolding parts
parts_a cx m f = skip (result_of_a cx m f.result) (λ t. skip (params_from_a (in_function cx t m) m [] f.params) (λ ds.
    last (function_body_a m (in_function cx t m) refl f.body) (λ body. done_a (record { result = t; params = ds; body = body }))))

share_atomic_a : (cx : Context) (atomic : Bool) → Adds (atomic_share atomic cx.line) (share_atomic atomic cx)
share_atomic_a cx true = record { adds = λ s. placed_append s.shared (record { rule = AtomicUsed; line = cx.line } ∷ []) }
share_atomic_a cx false = done_a tt

finish_a : (name : Name) (f : Function) (p : _) → Adds [] (finish name f p)
finish_a name f p = record { adds = λ s. sym (append-nil (placed_of s.shared)) }

pub function_a : (cx : Context) (m : Bool) (name : Name) (f : Function) → Adds (placed.function m f) (function cx m name f)
unfolding function_at
function_a cx m name f = skip_n begin_a (bind_a (share_atomic_a (at_line cx f.line) f.atomic) (λ u.
    last (parts_a (at_line cx f.line) m f) (λ p. finish_a name f p)))

-- ---- constructors

refused_leaves : (cx : Context) → Leaves cx.line (refused cx)
unfolding refused
refused_leaves cx = next (note_rule_leaves cx _) (done None)

set_or_refused_a : (o : Option BuildSet) (cx : Context) → Adds [] (set_or_refused o cx)
set_or_refused_a None cx = leaves_adds (refused_leaves cx)
set_or_refused_a (Some x) cx = done_a (Some x)

assigned_set_a : (a : Option Assignment) (b : Bool) (cx : Context) → Adds [] (assigned_set a b cx)
assigned_set_a None b cx = done_a None
assigned_set_a (Some a) b cx = set_or_refused_a (set_if b a) cx

assigned_a : (cx : Context) (target : Expr) (op : AssignOp) (e : Expr) → Adds [] (assigned cx target op e)
unfolding assigned
assigned_a cx target op e = skip (assignment_a cx target op e) (λ a. assigned_set_a a (names_own target) cx)

-- a constructor stands in no branch, and outside of `main`
abbrev IsBuilding : Context → Type 0
IsBuilding cx = (cx.in_main ≡ false) × (cx.in_branch ≡ false)

unbranched : {A : Type 0} {p : Elab A} (b : Stmt) (x : Bool) → x ≡ false → Adds (placed.statement false x b) p
    → Adds (placed.statement false false b) p
unbranched b x is l = record { adds = λ s. l.adds s ∙ ap (λ z. placed_of s.shared ++ placed.statement false z b) is }

other_a : (cx : Context) → IsBuilding cx → (b : Stmt) → Adds (placed.statement false false b) (other cx b)
unfolding other
other_a cx is b = last_n (unbranched b cx.in_branch is.1 (statement_a false cx is.0 b)) (leaves_adds (refused_leaves (at_line cx (out-Stmt b).line)))

set_by_a : (cx : Context) → IsBuilding cx → (l : Layer) (b : Stmt) → Adds (unless_assigned false (placed.statement false) l false b) (set_by l cx b)
set_by_a cx is (StmtKind-F.Assign target op e) b = assigned_a (at_line cx (out-Stmt b).line) target op e
set_by_a cx is (StmtKind-F.Block ss) b = other_a cx is b
set_by_a cx is StmtKind-F.Empty b = other_a cx is b
set_by_a cx is (StmtKind-F.Declare d) b = other_a cx is b
set_by_a cx is (StmtKind-F.Call e) b = other_a cx is b
set_by_a cx is (StmtKind-F.Print xs) b = other_a cx is b
set_by_a cx is (StmtKind-F.If c first more) b = other_a cx is b
set_by_a cx is (StmtKind-F.While c x) b = other_a cx is b
set_by_a cx is (StmtKind-F.For first c after x) b = other_a cx is b
set_by_a cx is StmtKind-F.Break b = other_a cx is b
set_by_a cx is StmtKind-F.Continue b = other_a cx is b
set_by_a cx is (StmtKind-F.Par bs) b = other_a cx is b
set_by_a cx is (StmtKind-F.ParFor name first c after x) b = other_a cx is b
set_by_a cx is (StmtKind-F.Spawn e) b = other_a cx is b
set_by_a cx is (StmtKind-F.Return e) b = other_a cx is b

set_a : (cx : Context) → IsBuilding cx → (b : Stmt) → Adds (unless_assigned false (placed.statement false) (layer b) false b) (set cx b)
unfolding set
set_a cx is b = set_by_a cx is (layer b) b

sets_from_a : (cx : Context) → IsBuilding cx → (xs : List BuildSet) (bs : List Stmt) → Adds (placed.constructor bs) (sets_from cx xs bs)
sets_from_a cx is xs [] = done_a xs
sets_from_a cx is xs (b ∷ bs) = bind_a (set_a cx is b) (λ x. sets_from_a cx is (with_set xs x) bs)

param_in_a : (cx : Context) (remote : Bool) (p : Param) → Adds [] (param_in cx remote p)
unfolding param_in
param_in_a cx remote p =
    skip (param_a cx false p) (λ d. leaves_adds (note_if_leaves (at_line cx p.line) (remote && is_local_pointer (value_type d)) r.RemoteLocal))

params_in_a : (cx : Context) (remote : Bool) (ps : List Param) → Adds [] (params_in cx remote ps)
params_in_a cx remote [] = done_a tt
params_in_a cx remote (p ∷ ps) = skip_n (param_in_a cx remote p) (params_in_a cx remote ps)

constructor_a : (cx : Context) (class : ClassDecl) (name : Name) (params : List Param) (body : List Stmt) (line : ℕ)
    → Adds (placed.constructor body) (constructor cx class name params body line)
unfolding constructor_at
constructor_a cx class name params body line =
    let here = at_line (in_constructor cx) line in
    skip_n begin_a (skip_n (leaves_adds (note_if_leaves here (not (bytes_eq name class.name)) r.Constructor))
    (skip_n (params_in_a here class.remote params)
    (last (sets_from_a here (refl, refl) [] body) (λ sets. done_a (record { params = length params; sets = sets })))))

-- ---- members and items

module _ (cx : Context) (class : ClassDecl) where
  members_from_a : (d : Done) (shape : ClassShape) (ms : List Member) → Adds (placed.members ms) (members_from cx class d shape ms)
  unfolding field_member function_member
  members_from_a d shape [] = done_a (d, shape)
  members_from_a d shape (member.Field x ∷ ms) =
      skip {A = Done × ClassShape} (skip_n begin_a (skip (leaves_adds (field_leaves (at_line cx x.line) x))
      (λ t. done_a (d, with_run shape t)))) (λ p. members_from_a p.0 p.1 ms)
  members_from_a d shape (member.Func f ∷ ms) =
      bind_a {A = Done × ClassShape} (last (function_a cx false (member_name class.name f.name) f)
      (λ x. done_a (with_function d x, shape))) (λ p. members_from_a p.0 p.1 ms)
  members_from_a d shape (member.Build name params body line ∷ ms) =
      bind_a {A = Done × ClassShape} (last (constructor_a cx class name params body line) (λ b. done_a (d, with_constructor shape b)))
      (λ p. members_from_a p.0 p.1 ms)

  class_item_a : (d : Done) → Adds (placed.members class.members) (class_item cx class d)
  unfolding class_item
  class_item_a d = last (members_from_a d no_members class.members) (λ p. done_a (with_class p.0 (filled p.1)))

constant_item_a : (cx : Context) (value : Expr) → Adds [] (constant_item cx value)
unfolding constant_item
constant_item_a cx value = skip_n begin_a (skip_n (leaves_adds (constant_leaves cx value)) (done_a {A = Unit {0}} tt))

module _ (names : NameTables) (tables : Tables) where
  items_from_a : (k c : ℕ) (d : Done) (xs : List Item)
      → Adds (placed.items xs) (items_from names tables (record { constants = k; classes = c; done = d }) xs)
  unfolding after_constant after_class after_function function_item
  items_from_a k c d [] = done_a _
  items_from_a k c d (item.Const name value line ∷ xs) =
      skip {p = after_constant names tables (record { constants = k; classes = c; done = d }) value line}
      (skip_n (constant_item_a (outside names tables k None line) value) (done_a _))
      (λ so. items_from_a so.constants so.classes so.done xs)
  items_from_a k c d (item.Class class ∷ xs) =
      let cx = outside names tables k (Some (class_id c)) class.line in
      bind_a {p = after_class names tables (record { constants = k; classes = c; done = d }) class}
      (last (class_item_a cx class d) (λ x. done_a (record { constants = k; classes = c + 1; done = x })))
      (λ so. items_from_a so.constants so.classes so.done xs)
  items_from_a k c d (item.Func f ∷ xs) =
      let cx = outside names tables k None f.line in
      bind_a {p = after_function names tables (record { constants = k; classes = c; done = d }) f}
      (last (last (function_a cx (is_main f.name) f.name f) (λ x. done_a (with_function d x)))
      (λ x. done_a (record { constants = k; classes = c; done = x })))
      (λ so. items_from_a so.constants so.classes so.done xs)

-- ---- the program

pub placed_shared : (p : Program) → placed_of (rules_shared p) ≡ placed.items p.items
unfolding elaboration_of read items
placed_shared p = (items_from_a (names_of p.items) (tables_of (names_of p.items) p.items) 0 0 (start.done) p.items).adds nothing_yet
