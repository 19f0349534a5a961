-- Assignments and declarations of variables.
use Rattle.std.proofs.Common.{◌≡◌, ℕ, ◌<◌, ◌≤◌, ◌∙◌, sym, Bool, List, length, Option, Some, None, refl, arith}
use Rattle.std.specs.Prelude.{slice_get}
use Rattle.cc_core.specs.declared.expression.Expression.{Expression}
use Rattle.cc_core.specs.declared.statement.Statement.{Statement}
use Rattle.cc_core.specs.declared.statement.Statement.TheVariants as s
use Rattle.cc_core.specs.Core.{Shapes}
use Rattle.cc_names.specs.declared.declarations.ClassId.{ClassId}
use Rattle.cc_names.specs.declared.rule.StaticRule.{StaticRule}
use Rattle.cc_tree.specs.declared.expressions.BinaryOp.{BinaryOp}
use Rattle.cc_tree.specs.declared.expressions.Expr.{Expr}
use Rattle.cc_tree.specs.declared.statements.AssignOp.{AssignOp}
use Rattle.cc_tree.specs.declared.statements.Decl.{Decl}
use Rattle.cc_tree.specs.declared.statements.Start.{Start}
use Rattle.cc_tree.specs.declared.statements.Start.TheVariants as start
use Rattle.cc_scopes.specs.declared.state.State.{State}
use Rattle.cc_scopes.specs.declared.tables.Class.{Class}
use Rattle.cc_scopes.specs.declared.typed.Operand.{Operand}
use Rattle.cc_scopes.specs.declared.typed.Place.{Place}
use Rattle.cc_scopes.specs.declared.types.Declared.{Declared}
use Rattle.cc_scopes.specs.declared.types.Shape.{Shape}
use Rattle.cc_scopes.specs.declared.types.Shape.TheVariants as shape
use Rattle.cc_scopes.specs.declared.types.Ty.{Ty}
use Rattle.cc_scopes.specs.Scope.{Context}
use Rattle.cc_scopes.specs.Types.{cell_kind}
use Rattle.cc_scopes.specs.Meaning.{class_at}
use Rattle.cc_typing.specs.declared.calls.Args.{Args}
use Rattle.cc_typing.specs.Calls.{no_args, args_rule}
use Rattle.cc_elaboration.specs.declared.assignments.Assignment.{Assignment}
use Rattle.cc_elaboration.specs.Assignments.{operator, combined, term_of, combined_value, value_by, assigned, assignment_to, no_assignment, assignment_at, assignment, stored, assign}
use Rattle.cc_elaboration.specs.Declarations.{built_unless, built_as, built, misplaced, misplaced_value, misplaced_args, with_value, started_cell, started_object}
use Rattle.cc_elaboration.specs.Declarations.{cell_start, array_start, object_start, started_by, cells, made, declaration}
use Rattle.cc_source.proofs.Runs.{IfThere, given, always, bind, next, done}
use Rattle.cc_source.proofs.FitLaws.{width_of, empty_fits, assign_fits, make_fits, set_fits, build_fits}
use Rattle.cc_source.proofs.Fits.{ExpressionFits, StatementFits}
use Rattle.cc_source.proofs.Sound.{HasCells, HasMaker, Reads, knowing, OperandFits, TypedFits}
use Rattle.cc_source.proofs.StateLaws.{declare_runs}
use Rattle.cc_source.proofs.ScopeLaws.{note_rule_runs, decay_runs}
use Rattle.cc_source.proofs.OperatorLaws.{joined_runs}
use Rattle.cc_source.proofs.CallLaws.{ArgsFit, no_args_fit, args_counted}
use Rattle.cc_source.proofs.ExpressionLaws.{expr_runs, operand_runs, args_runs, fitting_runs, place_runs, written_runs}
use Rattle.cc_source.proofs.DeclaredLaws.{DeclaredFits, variable_runs}

module _ (h : Shapes) (last : State) where
  abbrev pub AssignmentFits : Assignment → Type 0
  AssignmentFits a = ExpressionFits h last a.place.address × ExpressionFits h last a.value

  -- a declaration of a variable that starts so
  abbrev Declares : (ℕ → Declared → Statement) → Type 0
  Declares s = (l : Bool) (k : ℕ) (d : Declared) → k < length last.made → DeclaredFits d → StatementFits h last l (s k d)

module _ (h : Shapes) (last : State) (cx : Context) where
  -- ---- assignments

  combined_runs : (op : BinaryOp) (p e : Expr) → Reads h last cx (Unit {0}) (combined cx op p e) (TypedFits h last)
  unfolding combined
  combined_runs op p e = bind (expr_runs h last cx p) (λ a. bind (always (expr_runs h last cx e)) (λ b.
      given (λ x. (x.0.1, x.1)) (joined_runs h last cx op a b)))

  term_of_fits : (v : Option Operand) → IfThere (OperandFits h last) v → IfThere (ExpressionFits h last) (term_of v)
  term_of_fits None p = tt
  term_of_fits (Some v) p = p

  combined_value_runs : (op : BinaryOp) (p e : Expr) → Reads h last cx (Unit {0}) (combined_value cx op p e) (IfThere (ExpressionFits h last))
  unfolding combined_value
  combined_value_runs op p e = bind (combined_runs op p e) (λ t. bind (given (λ x. x.1) (decay_runs h last cx t)) (λ v.
      done (term_of v) (λ x. term_of_fits v x.1)))

  value_by_runs : (o : Option BinaryOp) (wanted : Ty) (p e : Expr)
      → Reads h last cx (Unit {0}) (value_by o cx wanted p e) (IfThere (ExpressionFits h last))
  value_by_runs None wanted p e = fitting_runs h last cx wanted e
  value_by_runs (Some op) wanted p e = combined_value_runs op p e

  assigned_fits : (p : Place) (v : Option Expression) → ExpressionFits h last p.address → IfThere (ExpressionFits h last) v
      → IfThere (AssignmentFits h last) (assigned p v)
  assigned_fits p None a b = tt
  assigned_fits p (Some v) a b = (a, b)

  assignment_to_runs : (p : Place) (op : AssignOp) (target e : Expr)
      → Reads h last cx (ExpressionFits h last p.address) (assignment_to p cx op target e) (IfThere (AssignmentFits h last))
  unfolding assignment_to
  assignment_to_runs p op target e = bind (always (value_by_runs (operator op) p.ty target e)) (λ v.
      next (written_runs h last cx p) (done (assigned p v) (λ x. assigned_fits p v x.0 x.1)))

  no_assignment_runs : (e : Expr) → Reads h last cx (Unit {0}) (no_assignment cx e) (IfThere (AssignmentFits h last))
  unfolding no_assignment
  no_assignment_runs e = next (operand_runs h last cx e) (done None (λ x. tt))

  assignment_at_runs : (p : Option Place) (op : AssignOp) (target e : Expr)
      → Reads h last cx (IfThere (λ q. ExpressionFits h last q.address) p) (assignment_at p cx op target e) (IfThere (AssignmentFits h last))
  assignment_at_runs None op target e = no_assignment_runs e
  assignment_at_runs (Some p) op target e = assignment_to_runs p op target e

  pub assignment_runs : (target : Expr) (op : AssignOp) (e : Expr)
      → Reads h last cx (Unit {0}) (assignment cx target op e) (IfThere (AssignmentFits h last))
  unfolding assignment
  assignment_runs target op e = bind (place_runs h last cx target) (λ p. given (λ x. x.1) (assignment_at_runs p op target e))

  stored_fits : (a : Option Assignment) → IfThere (AssignmentFits h last) a → StatementFits h last cx.in_loop (stored a)
  stored_fits None p = empty_fits h last cx.in_loop
  stored_fits (Some a) p = assign_fits h last cx.in_loop a.place.remote a.place.address a.value p.0 p.1

  pub assign_runs : (target : Expr) (op : AssignOp) (e : Expr) → Reads h last cx (Unit {0}) (assign cx target op e) (StatementFits h last cx.in_loop)
  unfolding assign
  assign_runs target op e = bind (assignment_runs target op e) (λ a. done (stored a) (λ x. stored_fits a x.1))

  -- ---- how a variable starts

  cells_above : (s : Shape) → HasCells s → 1 ≤ cells s
  cells_above shape.Cell p = omega arith
  cells_above (shape.Array m) p = p.0
  cells_above (shape.Object class) p = omega arith

  makes_cells : (l : Bool) (k : ℕ) (d : Declared) → k < length last.made → DeclaredFits d
      → StatementFits h last l (s.Make k (cell_kind d.ty d.sync) (cells d.shape))
  makes_cells l k d p q = make_fits h last l k (cell_kind d.ty d.sync) (cells d.shape) p (cells_above d.shape q)

  built_unless_runs : (r : Option StaticRule) (class : ClassId) (k : Class) (a : Args) → args_rule k.constructor a.types ≡ r
      → Reads h last cx (ArgsFit h last a × HasMaker h class.0 k) (built_unless r cx class a.terms) (λ b. Declares h last (λ k d. made k d b))
  built_unless_runs (Some rule) class k a is = next (note_rule_runs h last cx rule) (done _ (λ x. makes_cells))
  built_unless_runs None class k a is = done _ (λ x l i d p q. build_fits h last l i class.0 a.terms p x.0.0
      (x.1.0, width_of a.terms ∙ (sym x.0.1 ∙ (args_counted k.constructor a.types is ∙ sym x.1.1))))

  built_as_runs : (o : Option Class) (class : ClassId) (a : Args) → slice_get cx.tables.classes class.0 ≡ o
      → Reads h last cx (ArgsFit h last a) (built_as o cx class a) (λ b. Declares h last (λ k d. made k d b))
  built_as_runs None class a is = next (note_rule_runs h last cx _) (done _ (λ x. makes_cells))
  built_as_runs (Some k) class a is = knowing h last cx (λ agree x. (x, agree.classes class.0 k is))
      (built_unless_runs (args_rule k.constructor a.types) class k a refl)

  built_runs : (class : ClassId) (a : Option Args)
      → Reads h last cx (IfThere (ArgsFit h last) a) (built cx class a) (λ b. Declares h last (λ k d. made k d b))
  built_runs class None = done _ (λ x. makes_cells)
  built_runs class (Some a) = built_as_runs (class_at cx class) class a refl

  misplaced_runs : {P : Type 0} → Reads h last cx P (misplaced cx) (λ b. Declares h last (λ k d. made k d b))
  misplaced_runs = next (note_rule_runs h last cx _) (done _ (λ x. makes_cells))

  misplaced_value_runs : (e : Expr) → Reads h last cx (Unit {0}) (misplaced_value cx e) (λ b. Declares h last (λ k d. made k d b))
  unfolding misplaced_value
  misplaced_value_runs e = next (operand_runs h last cx e) misplaced_runs

  misplaced_args_runs : (es : List Expr) → Reads h last cx (Unit {0}) (misplaced_args cx es) (λ b. Declares h last (λ k d. made k d b))
  unfolding misplaced_args
  misplaced_args_runs es = next (args_runs h last cx es) misplaced_runs

  with_value_fits : (v : Option Expression) → IfThere (ExpressionFits h last) v → Declares h last (λ k d. made k d (with_value v))
  with_value_fits None p = makes_cells
  with_value_fits (Some v) p = λ l k d q r. set_fits h last l k (cell_kind d.ty d.sync) v q p

  started_cell_runs : (d : Declared) (e : Expr) → Reads h last cx (Unit {0}) (started_cell cx d e) (λ b. Declares h last (λ k d. made k d b))
  unfolding started_cell
  started_cell_runs d e = bind (fitting_runs h last cx d.ty e) (λ v. done (with_value v) (λ x. with_value_fits v x.1))

  started_object_runs : (class : ClassId) (es : List Expr)
      → Reads h last cx (Unit {0}) (started_object cx class es) (λ b. Declares h last (λ k d. made k d b))
  unfolding started_object
  started_object_runs class es = bind (args_runs h last cx es) (λ a. given (λ x. x.1) (built_runs class a))

  cell_start_runs : (s : Start) (d : Declared) → Reads h last cx (Unit {0}) (cell_start s cx d) (λ b. Declares h last (λ k d. made k d b))
  cell_start_runs start.Nothing d = done _ (λ x. makes_cells)
  cell_start_runs (start.Value e) d = started_cell_runs d e
  cell_start_runs (start.Args es) d = misplaced_args_runs es

  array_start_runs : (s : Start) → Reads h last cx (Unit {0}) (array_start s cx) (λ b. Declares h last (λ k d. made k d b))
  array_start_runs start.Nothing = done _ (λ x. makes_cells)
  array_start_runs (start.Value e) = misplaced_value_runs e
  array_start_runs (start.Args es) = misplaced_args_runs es

  object_start_runs : (s : Start) (class : ClassId) → Reads h last cx (Unit {0}) (object_start s cx class) (λ b. Declares h last (λ k d. made k d b))
  object_start_runs start.Nothing class = given (λ x. no_args_fit h last) (built_runs class (Some no_args))
  object_start_runs (start.Value e) class = misplaced_value_runs e
  object_start_runs (start.Args es) class = started_object_runs class es

  started_by_runs : (s : Shape) (d : Declared) (at : Start)
      → Reads h last cx (Unit {0}) (started_by s cx d at) (λ b. Declares h last (λ k d. made k d b))
  started_by_runs shape.Cell d at = cell_start_runs at d
  started_by_runs (shape.Array m) d at = array_start_runs at
  started_by_runs (shape.Object class) d at = object_start_runs at class

  -- ---- declarations

  pub declaration_runs : (d : Decl) → Reads h last cx (Unit {0}) (declaration cx d) (StatementFits h last cx.in_loop)
  unfolding declaration
  declaration_runs d = bind (variable_runs h last cx d) (λ t. bind (always (started_by_runs t.shape t d.start)) (λ b.
      bind (declare_runs h last cx d.name t (λ x. x.0.1)) (λ k. done (made k t b) (λ x. x.0.1 cx.in_loop k t x.1 x.0.0.1))))
