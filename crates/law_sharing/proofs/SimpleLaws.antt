-- Statements that hold none.
use Rattle.std.proofs.Common.{◌≡◌, Bool, true, false, cond, List, [], ◌∷◌, ◌++◌, Option, Some, None, refl, sym}
use Rattle.std.specs.Prelude.{not}
use Rattle.cc_core.specs.declared.expression.Constant.TheVariants as constant
use Rattle.cc_core.specs.declared.expression.Expression.TheVariants as e
use Rattle.cc_core.specs.declared.expression.Expression.{Expression}
use Rattle.cc_core.specs.declared.expression.PrintPart.{PrintPart}
use Rattle.cc_core.specs.declared.statement.Statement.{Statement}
use Rattle.cc_core.specs.declared.statement.Statement.TheVariants as s
use Rattle.cc_elaboration.specs.Assignments.{operator, combined, term_of, combined_value, value_by, assigned, assignment_to, no_assignment}
use Rattle.cc_elaboration.specs.Assignments.{assignment_at, assignment, stored, assign}
use Rattle.cc_elaboration.specs.Declarations.{built_unless, built_as, built, misplaced, misplaced_value, misplaced_args, with_value, started_cell}
use Rattle.cc_elaboration.specs.Declarations.{started_object}
use Rattle.cc_elaboration.specs.Declarations.{cell_start, array_start, object_start, started_by, made, declaration}
use Rattle.cc_elaboration.specs.Simple.{term_or_none, int_value, dropped, call, spawned, spawn, with_number, printed_value}
use Rattle.cc_elaboration.specs.Simple.{printed_item, printed_from, share_print, prints_alone, print, note_if, is_void, return_value}
use Rattle.cc_elaboration.specs.Simple.{return_from_void, return_some, return_nothing, returned, give, jump}
use Rattle.cc_scopes.specs.Typed.{note_rule}
use Rattle.cc_names.specs.declared.declarations.ClassId.{ClassId}
use Rattle.cc_names.specs.declared.rule.StaticRule.{StaticRule}
use Rattle.cc_scopes.specs.Meaning.{class_at}
use Rattle.cc_scopes.specs.Scope.{Context}
use Rattle.cc_scopes.specs.declared.tables.Class.{Class}
use Rattle.cc_scopes.specs.declared.typed.Place.{Place}
use Rattle.cc_scopes.specs.declared.types.Declared.{Declared}
use Rattle.cc_scopes.specs.declared.types.Shape.TheVariants as shape
use Rattle.cc_scopes.specs.declared.types.Shape.{Shape}
use Rattle.cc_scopes.specs.declared.types.Ty.TheVariants as ty
use Rattle.cc_scopes.specs.declared.types.Ty.{Ty}
use Rattle.cc_tree.specs.declared.expressions.BinaryOp.{BinaryOp}
use Rattle.cc_tree.specs.declared.expressions.Expr.{Expr}
use Rattle.cc_tree.specs.declared.statements.AssignOp.{AssignOp}
use Rattle.cc_tree.specs.declared.statements.Decl.{Decl}
use Rattle.cc_tree.specs.declared.statements.PrintItem.TheVariants as item'
use Rattle.cc_tree.specs.declared.statements.PrintItem.{PrintItem}
use Rattle.cc_tree.specs.declared.statements.Start.TheVariants as start
use Rattle.cc_tree.specs.declared.statements.Start.{Start}
use Rattle.cc_typing.specs.Calls.{no_args, args_rule}
use Rattle.cc_typing.specs.declared.calls.Args.{Args}
use Rattle.law_sharing.proofs.Leaves.{Leaves, bind, next, done, block_leaves, block_if_leaves}
use Rattle.law_sharing.proofs.Adds.{Adds, placed_append, leaves_adds, skip, skip_n, last_n, done_a, declare_a}
use Rattle.law_sharing.specs.Placed.{is_placed, placed, print_share}
use Rattle.law_sharing.proofs.ScopeLaws.{note_rule_leaves, decay_leaves}
use Rattle.law_sharing.proofs.OperatorLaws.{joined_leaves}
use Rattle.law_sharing.proofs.DeclaredLaws.{variable_leaves}
use Rattle.law_sharing.proofs.ExpressionLaws.{expr_leaves, operand_leaves, args_leaves, fitting_leaves, place_leaves}
use Rattle.std.proofs.Common.{ap, ◌∙◌}
use Rattle.std.specs.Prelude.{◌==◌}
use Rattle.std.proofs.lemmas.Option.{none-some}
use Rattle.cc_scopes.specs.declared.sharing.ShareRule.{ShareRule}
use Rattle.cc_scopes.specs.declared.sharing.ShareRule.TheVariants.{PlainAddress, PlainThroughPointer, PlainMember, OuterPlainWritten, PrintInBranch}
use Rattle.cc_scopes.specs.declared.typed.Root.{Root}
use Rattle.cc_scopes.specs.declared.typed.Root.TheVariants as root
use Rattle.cc_typing.specs.Whole.{written_rule, share_some, share_write, written}
use Rattle.cc_scopes.specs.Elab.{◌>>◌, pure, share}

module _ (cx : Context) where
  -- ---- assignments

  combined_leaves : (op : BinaryOp) (p e : Expr) → Leaves cx.line (combined cx op p e)
  unfolding combined
  combined_leaves op p e = bind (expr_leaves cx p) (λ a. bind (expr_leaves cx e) (λ b. joined_leaves cx op a b))

  combined_value_leaves : (op : BinaryOp) (p e : Expr) → Leaves cx.line (combined_value cx op p e)
  unfolding combined_value
  combined_value_leaves op p e = bind (combined_leaves op p e) (λ t. bind (decay_leaves cx t) (λ v. done (term_of v)))

  value_by_leaves : (o : Option BinaryOp) (wanted : Ty) (p e : Expr) → Leaves cx.line (value_by o cx wanted p e)
  value_by_leaves None wanted p e = fitting_leaves cx wanted e
  value_by_leaves (Some op) wanted p e = combined_value_leaves op p e

  share_a : (rule : ShareRule) → is_placed rule ≡ false → Adds [] (share rule cx.line)
  share_a rule other = record {
    adds = λ s. placed_append s.shared (record { rule = rule; line = cx.line } ∷ [])
        ∙ ap (λ b. placed s.shared ++ cond b (record { rule = rule; line = cx.line } ∷ []) []) other;
  }

  share_some_a : (o : Option ShareRule) → ((rule : ShareRule) → o ≡ Some rule → is_placed rule ≡ false) → Adds [] (share_some o cx)
  share_some_a None f = done_a tt
  share_some_a (Some rule) f = share_a rule (f rule refl)

  unplaced : (b : Bool) (x rule : ShareRule) → is_placed x ≡ false → cond b None (Some x) ≡ Some rule → is_placed rule ≡ false
  unplaced true x rule other is = absurd (none-some rule is)
  unplaced false x rule other is = ap (λ o. is_placed (get o)) (sym is) ∙ other
    where
      get : Option ShareRule → ShareRule
      get None = PlainAddress
      get (Some r) = r

  written_rule_unplaced : (root : Root) (rule : ShareRule) → written_rule cx root ≡ Some rule → is_placed rule ≡ false
  written_rule_unplaced (root.Variable part) rule is = unplaced (part == cx.part) OuterPlainWritten rule refl is
  written_rule_unplaced root.Member rule is = unplaced cx.in_constructor PlainMember rule refl is
  written_rule_unplaced root.Pointer rule is = unplaced false PlainThroughPointer rule refl is

  share_write_a : (sync : Bool) (root : Root) → Adds [] (share_write sync cx root)
  share_write_a true root = done_a tt
  share_write_a false root = share_some_a (written_rule cx root) (written_rule_unplaced root)

  written_a : (p : Place) → Adds [] (written cx p)
  unfolding written
  written_a p = skip_n (share_write_a p.sync p.root) (leaves_adds (block_if_leaves {line = cx.line} p.remote cx.line))

  assignment_to_a : (p : Place) (op : AssignOp) (target e : Expr) → Adds [] (assignment_to p cx op target e)
  unfolding assignment_to
  assignment_to_a p op target e = skip (leaves_adds (value_by_leaves (operator op) p.ty target e)) (λ v. skip_n (written_a p) (done_a (assigned p v)))

  no_assignment_a : (e : Expr) → Adds [] (no_assignment cx e)
  unfolding no_assignment
  no_assignment_a e = skip_n (leaves_adds (operand_leaves cx e)) (done_a None)

  assignment_at_a : (p : Option Place) (op : AssignOp) (target e : Expr) → Adds [] (assignment_at p cx op target e)
  assignment_at_a None op target e = no_assignment_a e
  assignment_at_a (Some p) op target e = assignment_to_a p op target e

  pub assignment_a : (target : Expr) (op : AssignOp) (e : Expr) → Adds [] (assignment cx target op e)
  unfolding assignment
  assignment_a target op e = skip (leaves_adds (place_leaves cx target)) (λ p. assignment_at_a p op target e)

  pub assign_a : (target : Expr) (op : AssignOp) (e : Expr) → Adds [] (assign cx target op e)
  unfolding assign
  assign_a target op e = skip (assignment_a target op e) (λ a. done_a (stored a))

  -- ---- declarations

  rule_then_leaves : {A : Type 0} (rule : StaticRule) (b : A) → Leaves cx.line (note_rule cx rule >> pure b)
  rule_then_leaves rule b = next (note_rule_leaves cx rule) (done b)

  built_unless_leaves : (r : Option StaticRule) (class : ClassId) (es : List Expression) → Leaves cx.line (built_unless r cx class es)
  built_unless_leaves (Some rule) class es = rule_then_leaves rule _
  built_unless_leaves None class es = done _

  built_as_leaves : (o : Option Class) (class : ClassId) (a : Args) → Leaves cx.line (built_as o cx class a)
  built_as_leaves None class a = rule_then_leaves _ _
  built_as_leaves (Some k) class a = built_unless_leaves (args_rule k.constructor a.types) class a.terms

  built_leaves : (class : ClassId) (a : Option Args) → Leaves cx.line (built cx class a)
  built_leaves class None = done _
  built_leaves class (Some a) = built_as_leaves (class_at cx class) class a

  misplaced_leaves : Leaves cx.line (misplaced cx)
  misplaced_leaves = rule_then_leaves _ _

  misplaced_value_leaves : (e : Expr) → Leaves cx.line (misplaced_value cx e)
  unfolding misplaced_value
  misplaced_value_leaves e = next (operand_leaves cx e) misplaced_leaves

  misplaced_args_leaves : (es : List Expr) → Leaves cx.line (misplaced_args cx es)
  unfolding misplaced_args
  misplaced_args_leaves es = next (args_leaves cx es) misplaced_leaves

  started_cell_leaves : (d : Declared) (e : Expr) → Leaves cx.line (started_cell cx d e)
  unfolding started_cell
  started_cell_leaves d e = bind (fitting_leaves cx d.ty e) (λ v. done (with_value v))

  started_object_leaves : (class : ClassId) (es : List Expr) → Leaves cx.line (started_object cx class es)
  unfolding started_object
  started_object_leaves class es = bind (args_leaves cx es) (λ a. built_leaves class a)

  cell_start_leaves : (at : Start) (d : Declared) → Leaves cx.line (cell_start at cx d)
  cell_start_leaves start.Nothing d = done _
  cell_start_leaves (start.Value e) d = started_cell_leaves d e
  cell_start_leaves (start.Args es) d = misplaced_args_leaves es

  array_start_leaves : (at : Start) → Leaves cx.line (array_start at cx)
  array_start_leaves start.Nothing = done _
  array_start_leaves (start.Value e) = misplaced_value_leaves e
  array_start_leaves (start.Args es) = misplaced_args_leaves es

  object_start_leaves : (at : Start) (class : ClassId) → Leaves cx.line (object_start at cx class)
  object_start_leaves start.Nothing class = built_leaves class (Some no_args)
  object_start_leaves (start.Value e) class = misplaced_value_leaves e
  object_start_leaves (start.Args es) class = started_object_leaves class es

  started_by_leaves : (x : Shape) (d : Declared) (at : Start) → Leaves cx.line (started_by x cx d at)
  started_by_leaves shape.Cell d at = cell_start_leaves at d
  started_by_leaves (shape.Array m) d at = array_start_leaves at
  started_by_leaves (shape.Object class) d at = object_start_leaves at class

  pub declaration_a : (d : Decl) → Adds [] (declaration cx d)
  unfolding declaration
  declaration_a d = skip (leaves_adds (variable_leaves cx d)) (λ t. skip (leaves_adds (started_by_leaves t.shape t d.start)) (λ b.
      skip (declare_a cx d.name t) (λ k. done_a (made k t b))))

  -- ---- values, calls and spawns

  pub int_value_leaves : (e : Expr) → Leaves cx.line (int_value cx e)
  unfolding int_value
  int_value_leaves e = bind (fitting_leaves cx ty.Int e) (λ t. done (term_or_none t))

  pub call_statement_leaves : (e : Expr) → Leaves cx.line (call cx e)
  unfolding call
  call_statement_leaves e = bind (expr_leaves cx e) (λ t. done (dropped t))

  pub spawn_leaves : (e : Expr) → Leaves cx.line (spawn cx e)
  unfolding spawn
  spawn_leaves e = next (block_leaves cx.line) (bind (expr_leaves cx e) (λ t. done (spawned t)))

  -- ---- cout

  printed_value_leaves : (parts : List PrintPart) (es : List Expression) (e : Expr)
      → Leaves cx.line (printed_value cx (record { parts = parts; values = es }) e)
  unfolding printed_value
  printed_value_leaves parts es e = bind (int_value_leaves e) (λ v. done (with_number (record { parts = parts; values = es }) v))

  printed_item_leaves : (parts : List PrintPart) (es : List Expression) (i : PrintItem)
      → Leaves cx.line (printed_item cx (record { parts = parts; values = es }) i)
  printed_item_leaves parts es (item'.Value e) = printed_value_leaves parts es e
  printed_item_leaves parts es (item'.Str bytes) = done _
  printed_item_leaves parts es item'.Endl = done _

  printed_from_leaves : (parts : List PrintPart) (es : List Expression) (xs : List PrintItem)
      → Leaves cx.line (printed_from cx (record { parts = parts; values = es }) xs)
  printed_from_leaves parts es [] = done _
  printed_from_leaves parts es (x ∷ xs) = bind (printed_item_leaves parts es x) (λ q. printed_from_leaves q.parts q.values xs)

  share_print_a : (alone : Bool) → Adds (print_share alone cx.line) (share_print alone cx)
  share_print_a true = done_a tt
  share_print_a false = record { adds = λ s. placed_append s.shared (record { rule = PrintInBranch; line = cx.line } ∷ []) }

  pub print_a : (xs : List PrintItem) → Adds (print_share (prints_alone cx) cx.line) (print cx xs)
  unfolding print
  print_a xs = last_n (share_print_a (prints_alone cx)) (leaves_adds (bind (printed_from_leaves [] [] xs) (λ p. done (s.Print p.parts p.values))))

  -- ---- return

  pub note_if_leaves : (b : Bool) (rule : StaticRule) → Leaves cx.line (note_if b cx rule)
  note_if_leaves true rule = note_rule_leaves cx rule
  note_if_leaves false rule = done tt

  return_value_leaves : (e : Expr) → Leaves cx.line (return_value cx e)
  unfolding return_value
  return_value_leaves e = bind (fitting_leaves cx cx.result e) (λ v. done (s.Return (term_or_none v)))

  return_from_void_leaves : (e : Expr) → Leaves cx.line (return_from_void cx e)
  unfolding return_from_void
  return_from_void_leaves e = next (operand_leaves cx e) (next (note_rule_leaves cx _) (done s.Empty))

  return_some_leaves : (b : Bool) (e : Expr) → Leaves cx.line (return_some b cx e)
  return_some_leaves true e = return_from_void_leaves e
  return_some_leaves false e = return_value_leaves e

  return_nothing_leaves : Leaves cx.line (return_nothing cx)
  return_nothing_leaves = next (note_if_leaves (not (is_void cx.result)) _) (done (s.Return (e.Push constant.Void)))

  returned_leaves : (o : Option Expr) → Leaves cx.line (returned cx o)
  returned_leaves None = return_nothing_leaves
  returned_leaves (Some e) = return_some_leaves (is_void cx.result) e

  pub give_leaves : (o : Option Expr) → Leaves cx.line (give cx o)
  unfolding give
  give_leaves o = next (note_if_leaves cx.in_branch _) (returned_leaves o)

  pub jump_leaves : (x : Statement) → Leaves cx.line (jump cx x)
  unfolding jump
  jump_leaves x = next (note_if_leaves (not cx.in_loop) _) (done x)
