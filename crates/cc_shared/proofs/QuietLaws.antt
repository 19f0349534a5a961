-- What was collected before an item is read is as clean as what is collected behind it.
use Rattle.std.proofs.Common.{◌≡◌, ℕ, Bool, false, List, [], ◌∷◌, Option, Some, None, refl, sym, ap, subst, ◌∙◌, append-nil}
use Rattle.cc_core.specs.Types.{Types, no_types}
use Rattle.cc_names.specs.Names.{NameTables}
use Rattle.cc_names.specs.Table.{Name}
use Rattle.cc_ops.specs.declared.build.BuildSet.{BuildSet}
use Rattle.cc_ops.specs.declared.shape.ClassShape.{ClassShape}
use Rattle.cc_elaboration.specs.declared.assignments.Assignment.{Assignment}
use Rattle.cc_elaboration.specs.Assignments.{assignment}
use Rattle.cc_elaboration.specs.Statements.{at_line}
use Rattle.cc_declared.specs.Slots.{field}
use Rattle.cc_functions.specs.declared.done.Done.{Done}
use Rattle.cc_functions.specs.Builds.{names_own}
use Rattle.cc_functions.specs.Constructors.{set_or_refused, set_if, assigned_set, assigned, other, refused, set_by, set, with_set, sets_from, param_in, params_in, in_constructor, constructor_at, constructor}
use Rattle.cc_functions.specs.Functions.{begin, param, share_atomic, parts, function_at, function}
use Rattle.cc_functions.specs.Items.{no_members, member_name, field_member, function_member, member_by, members_from, class_item}
use Rattle.cc_functions.specs.Items.{is_main, constant_item, function_item, class_id, after_constant, after_class, after_function, items_from}
use Rattle.cc_scopes.specs.declared.state.State.{State}
use Rattle.cc_scopes.specs.declared.tables.Tables.{Tables}
use Rattle.cc_scopes.specs.Scope.{Context}
use Rattle.cc_tables.specs.Tables.{outside}
use Rattle.cc_tree.specs.declared.declarations.ClassDecl.{ClassDecl}
use Rattle.cc_tree.specs.declared.declarations.Function.{Function}
use Rattle.cc_tree.specs.declared.declarations.Item.{Item}
use Rattle.cc_tree.specs.declared.declarations.Item.TheVariants as item
use Rattle.cc_tree.specs.declared.declarations.Member.{Member}
use Rattle.cc_tree.specs.declared.declarations.Member.TheVariants as member
use Rattle.cc_tree.specs.declared.declarations.Param.{Param}
use Rattle.cc_tree.specs.declared.expressions.Expr.{Expr}
use Rattle.cc_tree.specs.declared.statements.AssignOp.{AssignOp}
use Rattle.cc_tree.specs.declared.statements.Decl.{Decl}
use Rattle.cc_tree.specs.declared.statements.Stmt.{Stmt, out-Stmt}
use Rattle.cc_tree.specs.declared.statements.StmtKind.TheOpen.{StmtKind-F}
use Rattle.cc_typing.specs.Whole.{constant}
use Rattle.cc_source.proofs.Fits.{Clean}
use Rattle.cc_shared.proofs.Det.{Ends}
use Rattle.cc_shared.proofs.StateLaws.{not_empty}
use Rattle.cc_shared.proofs.ExpressionLaws.{constant_runs}
use Rattle.cc_shared.proofs.DeclaredLaws.{field_runs}
use Rattle.cc_shared.proofs.AssignmentLaws.{assignment_runs}
use Rattle.cc_shared.proofs.Proper.{Layer, layer, EachOf}
use Rattle.cc_shared.proofs.GrammarLaws.{ProperFunction, ProperMember, ProperItem}
use Rattle.cc_shared.proofs.CleanLaws.{note_kept, param_is}
use Rattle.cc_shared.proofs.FunctionLaws.{none_atomic, atomic_kept, parts_ends}

-- no rule is broken
abbrev pub Quiet : State → Type 0
Quiet s = (s.broken ≡ []) × (s.shared ≡ [])

pub quiet_ends : (s : State) → Quiet s → Ends s.made s
quiet_ends s q = (q.0, q.1, [], sym (append-nil s.made))

pub no_functions : Types
no_functions = record { functions = []; classes = []; makers = [] }

-- ---- constants and fields

pub constant_quiet : (cx : Context) (e : Expr) (s : State) → Quiet (constant cx e s).1 → Quiet s
constant_quiet cx e s q =
    let ends = ((constant_runs no_functions 0 no_types ⊥ (constant cx e s).1.made (constant cx e s).1.made 0 [] [] cx (λ x. absurd x) (λ x. absurd x) e).run s
    (quiet_ends (constant cx e s).1 q)).0 in
    (ends.0, ends.1)

pub field_quiet : (cx : Context) (d : Decl) (s : State) → Quiet (field cx d s).1 → Quiet s
field_quiet cx d s q =
    let ends = ((field_runs ⊥ (field cx d s).1.made (field cx d s).1.made 0 [] [] cx no_functions 0 no_types (λ x. absurd x) (λ x. absurd x) d {P = ⊥}).run s
    (quiet_ends (field cx d s).1 q)).0 in
    (ends.0, ends.1)

-- ---- functions

pub function_quiet : (cx : Context) (m : Bool) (name : Name) (f : Function) (s : State) → ProperFunction f → Quiet (function cx m name f s).1
    → Quiet s × (f.atomic ≡ false) × Quiet (share_atomic f.atomic (at_line cx f.line) (begin s).1).1
unfolding function_at parts
function_quiet cx m name f s proper q =
    let here = at_line cx f.line in
    let before = (share_atomic f.atomic here (begin s).1).1 in
    let quiet = parts_ends here m f proper before q.0 q.1 in
    let no = none_atomic f.atomic here (begin s).1 quiet.1 in
    let same = atomic_kept f.atomic here (begin s).1 no in
    ((ap (λ z. z.broken) (sym same) ∙ quiet.0, ap (λ z. z.shared) (sym same) ∙ quiet.1), no, (quiet.0, quiet.1))

-- ---- constructors

module _ (cx : Context) where
  set_or_kept : (o : Option BuildSet) (s : State) → Clean (set_or_refused o cx s).1 → (set_or_refused o cx s).1 ≡ s
  unfolding refused
  set_or_kept None s e = absurd (not_empty s.broken _ e)
  set_or_kept (Some x) s e = refl

  pub assigned_set_kept : (a : Option Assignment) (b : Bool) (s : State) → Clean (assigned_set a b cx s).1 → (assigned_set a b cx s).1 ≡ s
  assigned_set_kept None b s e = refl
  assigned_set_kept (Some a) b s e = set_or_kept (set_if b a) s e

  assigned_quiet : (target : Expr) (op : AssignOp) (e : Expr) (s : State) → Quiet (assigned cx target op e s).1 → Quiet s
  unfolding assigned
  assigned_quiet target op e s q =
      let a = assignment cx target op e s in
      let same = assigned_set_kept a.0 (names_own target) a.1 q.0 in
      let quiet : Quiet a.1 = subst Quiet same q in
      let ends = ((assignment_runs no_functions 0 no_types ⊥ (a.1).made (a.1).made 0 [] [] cx (λ x. absurd x) (λ x. absurd x) target op e).run s
      (quiet_ends a.1 quiet)).0 in
      (ends.0, ends.1)

  pub other_never : (b : Stmt) (s : State) → Quiet (other cx b s).1 → ⊥
  unfolding other refused
  other_never b s q = not_empty _ _ q.0

set_quiet_by : (cx : Context) (w : Layer) (b : Stmt) (s : State) → Quiet (set_by w cx b s).1 → Quiet s
set_quiet_by cx (StmtKind-F.Assign target op e) b s q = assigned_quiet (at_line cx (out-Stmt b).line) target op e s q
set_quiet_by cx (StmtKind-F.Block ss) b s q = absurd (other_never cx b s q)
set_quiet_by cx StmtKind-F.Empty b s q = absurd (other_never cx b s q)
set_quiet_by cx (StmtKind-F.Declare d) b s q = absurd (other_never cx b s q)
set_quiet_by cx (StmtKind-F.Call e) b s q = absurd (other_never cx b s q)
set_quiet_by cx (StmtKind-F.Print xs) b s q = absurd (other_never cx b s q)
set_quiet_by cx (StmtKind-F.If c first other) b s q = absurd (other_never cx b s q)
set_quiet_by cx (StmtKind-F.While c x) b s q = absurd (other_never cx b s q)
set_quiet_by cx (StmtKind-F.For first c after x) b s q = absurd (other_never cx b s q)
set_quiet_by cx StmtKind-F.Break b s q = absurd (other_never cx b s q)
set_quiet_by cx StmtKind-F.Continue b s q = absurd (other_never cx b s q)
set_quiet_by cx (StmtKind-F.Par bs) b s q = absurd (other_never cx b s q)
set_quiet_by cx (StmtKind-F.ParFor name start c after x) b s q = absurd (other_never cx b s q)
set_quiet_by cx (StmtKind-F.Spawn e) b s q = absurd (other_never cx b s q)
set_quiet_by cx (StmtKind-F.Return e) b s q = absurd (other_never cx b s q)

pub set_quiet : (cx : Context) (b : Stmt) (s : State) → Quiet (set cx b s).1 → Quiet s
unfolding set
set_quiet cx b s q = set_quiet_by cx (layer b) b s q

pub sets_quiet : (cx : Context) (done : List BuildSet) (bs : List Stmt) (s : State) → Quiet (sets_from cx done bs s).1 → Quiet s
sets_quiet cx done [] s q = q
sets_quiet cx done (b ∷ bs) s q = let x = set cx b s in set_quiet cx b s (sets_quiet cx (with_set done x.0) bs x.1 q)

param_in_quiet : (cx : Context) (remote : Bool) (p : Param) (s : State) → Quiet (param_in cx remote p s).1 → Quiet s
unfolding param_in
param_in_quiet cx remote p s q =
    let d = param cx false p s in
    let same = note_kept (at_line cx p.line) _ _ d.1 q.0 in
    let quiet : Quiet d.1 = subst Quiet same q in
    let is = param_is cx false p s quiet.0 in
    (ap (λ z. z.broken) (sym is) ∙ quiet.0, ap (λ z. z.shared) (sym is) ∙ quiet.1)

pub params_in_quiet : (cx : Context) (remote : Bool) (ps : List Param) (s : State) → Quiet (params_in cx remote ps s).1 → Quiet s
params_in_quiet cx remote [] s q = q
params_in_quiet cx remote (p ∷ ps) s q = param_in_quiet cx remote p s (params_in_quiet cx remote ps (param_in cx remote p s).1 q)

pub constructor_quiet : (cx : Context) (class : ClassDecl) (name : Name) (params : List Param) (body : List Stmt) (line : ℕ) (s : State)
    → Quiet (constructor cx class name params body line s).1 → Quiet s
unfolding constructor_at
constructor_quiet cx class name params body line s q =
    let here = at_line (in_constructor cx) line in
    let started = params_in_quiet here class.remote params _ (sets_quiet here [] body _ q) in
    let same = note_kept here _ _ (begin s).1 started.0 in
    subst Quiet same started

-- ---- members and classes

pub member_quiet : (cx : Context) (class : ClassDecl) (d : Done) (shape : ClassShape) (m : Member) (s : State) → ProperMember m
    → Quiet (member_by m cx class d shape s).1 → Quiet s
unfolding field_member function_member
member_quiet cx class d shape (member.Field f) s p q = let w = field_quiet (at_line cx f.line) f (begin s).1 q in (w.0, w.1)
member_quiet cx class d shape (member.Func f) s p q = (function_quiet cx false (member_name class.name f.name) f s p q).0
member_quiet cx class d shape (member.Build name params body line) s p q = constructor_quiet cx class name params body line s q

pub members_quiet : (cx : Context) (class : ClassDecl) (d : Done) (shape : ClassShape) (ms : List Member) (s : State) → EachOf ProperMember ms
    → Quiet (members_from cx class d shape ms s).1 → Quiet s
members_quiet cx class d shape [] s p q = q
members_quiet cx class d shape (m ∷ ms) s p q =
    let x = member_by m cx class d shape s in
    member_quiet cx class d shape m s p.0 (members_quiet cx class (x.0).0 (x.0).1 ms x.1 p.1 q)

-- ---- items

module _ (names : NameTables) (tables : Tables) where
  pub items_quiet : (k c : ℕ) (d : Done) (xs : List Item) (s : State) → EachOf ProperItem xs
      → Quiet (items_from names tables (record { constants = k; classes = c; done = d }) xs s).1 → Quiet s
  unfolding after_constant after_class after_function class_item function_item constant_item
  items_quiet k c d [] s p q = q
  items_quiet k c d (item.Const name value line ∷ xs) s p q =
      let x = after_constant names tables (record { constants = k; classes = c; done = d }) value line s in
      let w = constant_quiet (outside names tables k None line) value (begin s).1
      (items_quiet x.0.constants x.0.classes x.0.done xs x.1 p.1 q) in
      (w.0, w.1)
  items_quiet k c d (item.Class class ∷ xs) s p q =
      let x = after_class names tables (record { constants = k; classes = c; done = d }) class s in
      members_quiet (outside names tables k (Some (class_id c)) class.line) class d no_members class.members s p.0
      (items_quiet x.0.constants x.0.classes x.0.done xs x.1 p.1 q)
  items_quiet k c d (item.Func f ∷ xs) s p q =
      let x = after_function names tables (record { constants = k; classes = c; done = d }) f s in
      (function_quiet (outside names tables k None f.line) (is_main f.name) f.name f s p.0
      (items_quiet x.0.constants x.0.classes x.0.done xs x.1 p.1 q)).0
