-- Where no rule is broken behind a part of a program, none is broken before it.
use Rattle.std.proofs.Common.{ℕ, Bool, true, false, not, List, [], ◌∷◌, Option, Some, None}
use Rattle.std.specs.Prelude.{◌&&◌, bytes_eq}
use Rattle.cc_names.specs.Names.{NameTables}
use Rattle.cc_names.specs.Table.{Name}
use Rattle.cc_names.specs.declared.rule.StaticRule.TheVariants as r
use Rattle.cc_ops.specs.declared.build.BuildSet.{BuildSet}
use Rattle.cc_ops.specs.declared.shape.ClassShape.{ClassShape}
use Rattle.cc_tree.specs.declared.declarations.ClassDecl.{ClassDecl}
use Rattle.cc_tree.specs.declared.declarations.Function.{Function}
use Rattle.cc_tree.specs.declared.declarations.Item.{Item}
use Rattle.cc_tree.specs.declared.declarations.Item.TheVariants as item
use Rattle.cc_tree.specs.declared.declarations.Member.{Member}
use Rattle.cc_tree.specs.declared.declarations.Member.TheVariants as member
use Rattle.cc_tree.specs.declared.declarations.Param.{Param}
use Rattle.cc_tree.specs.declared.statements.Stmt.{Stmt, out-Stmt}
use Rattle.cc_tree.specs.declared.statements.StmtKind.{out-StmtKind}
use Rattle.cc_tree.specs.declared.statements.StmtKind.TheOpen.{StmtKind-F}
use Rattle.cc_scopes.specs.declared.state.State.{State}
use Rattle.cc_scopes.specs.declared.tables.Tables.{Tables}
use Rattle.cc_scopes.specs.Elab.{Elab}
use Rattle.cc_scopes.specs.Scope.{Context}
use Rattle.cc_scopes.specs.Types.{is_local_pointer}
use Rattle.cc_declared.specs.Slots.{value_type}
use Rattle.cc_tables.specs.Tables.{outside}
use Rattle.cc_elaboration.specs.declared.assignments.Assignment.{Assignment}
use Rattle.cc_elaboration.specs.Statements.{Layer, at_line}
use Rattle.cc_functions.specs.declared.done.Done.{Done}
use Rattle.cc_functions.specs.Builds.{names_own}
use Rattle.cc_functions.specs.Constructors.{refused, set_or_refused, set_if, assigned_set, assigned, other, set_by, set, with_set, sets_from}
use Rattle.cc_functions.specs.Constructors.{param_in, params_in, in_constructor, constructor_at, constructor}
use Rattle.cc_functions.specs.Functions.{begin, share_atomic, function_at, function}
use Rattle.cc_functions.specs.Items.{no_members, member_name, field_member, function_member, member_by, members_from, class_item}
use Rattle.cc_functions.specs.Items.{is_main, constant_item, function_item, class_id, after_constant, after_class, after_function, items_from}
use Rattle.cc_source.proofs.Runs.{Anything, always, gives, bind, next, done}
use Rattle.cc_source.proofs.Fits.{Clean}
use Rattle.cc_source.proofs.Sound.{itself, Reads, no_shapes}
use Rattle.cc_source.proofs.StateLaws.{share_runs}
use Rattle.cc_source.proofs.ScopeLaws.{note_rule_runs}
use Rattle.cc_source.proofs.ExpressionLaws.{constant_runs}
use Rattle.cc_source.proofs.DeclaredLaws.{field_runs}
use Rattle.cc_source.proofs.AssignmentLaws.{assignment_runs}
use Rattle.cc_source.proofs.SimpleLaws.{note_if_runs}
use Rattle.cc_source.proofs.StatementLaws.{statement_runs}
use Rattle.cc_source.proofs.FunctionLaws.{param_runs, parts_runs}

clean_before : (cx : Context) {A : Type 0} {p : Elab A} {Q : State → A → Type 0} → ((last : State) → Reads no_shapes last cx (Unit {0}) p (Q last))
    → (s : State) → Clean (p s).1 → Clean s
clean_before cx {p = p} r s clean = ((r (p s).1).run s (itself (p s).1)).0.1 clean

-- ---- constructors

module _ (last : State) (cx : Context) {P : Type 0} where
  refused_runs : Reads no_shapes last cx P (refused cx) Anything
  unfolding refused
  refused_runs = next (note_rule_runs no_shapes last cx r.Constructor) (done None (λ x. tt))

  set_or_refused_runs : (o : Option BuildSet) → Reads no_shapes last cx P (set_or_refused o cx) Anything
  set_or_refused_runs None = refused_runs
  set_or_refused_runs (Some x) = done (Some x) (λ p. tt)

  assigned_set_runs : (a : Option Assignment) (own : Bool) → Reads no_shapes last cx P (assigned_set a own cx) Anything
  assigned_set_runs None own = done None (λ p. tt)
  assigned_set_runs (Some a) own = set_or_refused_runs (set_if own a)

module _ (last : State) (cx : Context) where
  other_runs : (b : Stmt) → Reads no_shapes last cx (Unit {0}) (other cx b) Anything
  unfolding other
  other_runs b = next (statement_runs no_shapes last cx b) (refused_runs last (at_line cx (out-Stmt b).line))

  set_by_runs : (l : Layer) (b : Stmt) → Reads no_shapes last cx (Unit {0}) (set_by l cx b) Anything
  unfolding assigned
  set_by_runs (StmtKind-F.Assign target op e) b = let here = at_line cx (out-Stmt b).line in
      bind (assignment_runs no_shapes last here target op e) (λ a. assigned_set_runs last here a (names_own target))
  set_by_runs (StmtKind-F.Block ss) b = other_runs b
  set_by_runs StmtKind-F.Empty b = other_runs b
  set_by_runs (StmtKind-F.Declare d) b = other_runs b
  set_by_runs (StmtKind-F.Call e) b = other_runs b
  set_by_runs (StmtKind-F.Print xs) b = other_runs b
  set_by_runs (StmtKind-F.If c first other) b = other_runs b
  set_by_runs (StmtKind-F.While c x) b = other_runs b
  set_by_runs (StmtKind-F.For first c after x) b = other_runs b
  set_by_runs StmtKind-F.Break b = other_runs b
  set_by_runs StmtKind-F.Continue b = other_runs b
  set_by_runs (StmtKind-F.Par bs) b = other_runs b
  set_by_runs (StmtKind-F.ParFor name start c after x) b = other_runs b
  set_by_runs (StmtKind-F.Spawn e) b = other_runs b
  set_by_runs (StmtKind-F.Return e) b = other_runs b

  sets_from_runs : (sets : List BuildSet) (bs : List Stmt) → Reads no_shapes last cx (Unit {0}) (sets_from cx sets bs) Anything
  unfolding set
  sets_from_runs sets [] = done sets (λ x. tt)
  sets_from_runs sets (b ∷ bs) = bind (set_by_runs (out-StmtKind (out-Stmt b).kind) b) (λ x. always (sets_from_runs (with_set sets x) bs))

  param_in_runs : (remote : Bool) (p : Param) → Reads no_shapes last cx (Unit {0}) (param_in cx remote p) Anything
  unfolding param_in
  param_in_runs remote p = bind (param_runs no_shapes last cx false p) (λ d. gives (λ u x. tt)
      (note_if_runs no_shapes last (at_line cx p.line) (remote && is_local_pointer (value_type d)) r.RemoteLocal))

  params_in_runs : (remote : Bool) (ps : List Param) → Reads no_shapes last cx (Unit {0}) (params_in cx remote ps) Anything
  params_in_runs remote [] = done tt (λ x. tt)
  params_in_runs remote (p ∷ ps) = next (param_in_runs remote p) (params_in_runs remote ps)

  atomic_runs : (atomic : Bool) → Reads no_shapes last cx (Unit {0}) (share_atomic atomic cx) Anything
  atomic_runs true = share_runs no_shapes last cx _ cx.line
  atomic_runs false = done tt (λ x. tt)

module _ (cx : Context) where
  pub sets_clean : (sets : List BuildSet) (bs : List Stmt) (s : State) → Clean (sets_from cx sets bs s).1 → Clean s
  sets_clean sets bs s clean = clean_before cx (λ last. sets_from_runs last cx sets bs) s clean

  pub params_in_clean : (remote : Bool) (ps : List Param) (s : State) → Clean (params_in cx remote ps s).1 → Clean s
  params_in_clean remote ps s clean = clean_before cx (λ last. params_in_runs last cx remote ps) s clean

  constructor_clean : (class : ClassDecl) (name : Name) (params : List Param) (body : List Stmt) (line : ℕ) (s : State)
      → Clean (constructor cx class name params body line s).1 → Clean s
  unfolding constructor_at
  constructor_clean class name params body line s clean = let here = at_line (in_constructor cx) line in
      clean_before here (λ last. next (note_if_runs no_shapes last here (not (bytes_eq name class.name)) r.Constructor)
      (next (params_in_runs last here class.remote params) (sets_from_runs last here [] body))) (begin s).1 clean

  -- ---- functions and classes

  function_clean : (m : Bool) (name : Name) (f : Function) (s : State) → Clean (function cx m name f s).1 → Clean s
  unfolding function_at
  function_clean m name f s clean = let here = at_line cx f.line in
      clean_before here (λ last. next (atomic_runs last here f.atomic) (parts_runs here no_shapes last m f)) (begin s).1 clean

  member_clean : (class : ClassDecl) (d : Done) (shape : ClassShape) (m : Member) (s : State) → Clean (member_by m cx class d shape s).1 → Clean s
  unfolding field_member function_member
  member_clean class d shape (member.Field f) s clean =
      clean_before cx (λ last. field_runs no_shapes last (at_line cx f.line) f) (begin s).1 clean
  member_clean class d shape (member.Func f) s clean = function_clean false (member_name class.name f.name) f s clean
  member_clean class d shape (member.Build name params body line) s clean = constructor_clean class name params body line s clean

  pub members_clean : (class : ClassDecl) (d : Done) (shape : ClassShape) (ms : List Member) (s : State)
      → Clean (members_from cx class d shape ms s).1 → Clean s
  members_clean class d shape [] s clean = clean
  members_clean class d shape (m ∷ ms) s clean =
      let x = member_by m cx class d shape s in member_clean class d shape m s (members_clean class x.0.0 x.0.1 ms x.1 clean)

-- ---- items

module _ (names : NameTables) (tables : Tables) where
  pub items_clean : (k c : ℕ) (d : Done) (xs : List Item) (s : State)
      → Clean (items_from names tables (record { constants = k; classes = c; done = d }) xs s).1 → Clean s
  unfolding after_constant after_class after_function class_item function_item constant_item
  items_clean k c d [] s clean = clean
  items_clean k c d (item.Const name value line ∷ xs) s clean =
      let x = after_constant names tables (record { constants = k; classes = c; done = d }) value line s in
      let here = outside names tables k None line in
      clean_before here (λ last. constant_runs no_shapes last here value) (begin s).1 (items_clean x.0.constants x.0.classes x.0.done xs x.1 clean)
  items_clean k c d (item.Class class ∷ xs) s clean =
      let x = after_class names tables (record { constants = k; classes = c; done = d }) class s in
      members_clean (outside names tables k (Some (class_id c)) class.line) class d no_members class.members s
      (items_clean x.0.constants x.0.classes x.0.done xs x.1 clean)
  items_clean k c d (item.Func f ∷ xs) s clean =
      let x = after_function names tables (record { constants = k; classes = c; done = d }) f s in
      function_clean (outside names tables k None f.line) (is_main f.name) f.name f s
      (items_clean x.0.constants x.0.classes x.0.done xs x.1 clean)
