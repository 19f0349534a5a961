-- What leaves the variables in scope, and makes none: types, starts, and statements that hold no statement and declare nothing.
use Rattle.std.proofs.Common.{◌≡◌, ℕ, Bool, true, false, not, List, [], ◌∷◌, Option, Some, None, refl, ◌∙◌}
use Rattle.cc_core.specs.declared.expression.Expression.{Expression}
use Rattle.cc_core.specs.declared.statement.Statement.{Statement}
use Rattle.cc_core.specs.declared.statement.Statement.TheVariants as s
use Rattle.cc_names.specs.Names.{class_named}
use Rattle.cc_names.specs.Table.{Name}
use Rattle.cc_names.specs.declared.declarations.ClassId.{ClassId}
use Rattle.cc_names.specs.declared.rule.StaticRule.{StaticRule}
use Rattle.cc_names.specs.declared.rule.StaticRule.TheVariants as r
use Rattle.cc_tree.specs.declared.expressions.BinaryOp.{BinaryOp}
use Rattle.cc_tree.specs.declared.expressions.Expr.{Expr}
use Rattle.cc_tree.specs.declared.statements.AssignOp.{AssignOp}
use Rattle.cc_tree.specs.declared.statements.Base.{Base}
use Rattle.cc_tree.specs.declared.statements.Base.TheVariants as base
use Rattle.cc_tree.specs.declared.statements.Decl.{Decl}
use Rattle.cc_tree.specs.declared.statements.PrintItem.{PrintItem}
use Rattle.cc_tree.specs.declared.statements.PrintItem.TheVariants as item
use Rattle.cc_tree.specs.declared.statements.Start.{Start}
use Rattle.cc_tree.specs.declared.statements.Start.TheVariants as start
use Rattle.cc_tree.specs.declared.statements.TypeName.{TypeName}
use Rattle.cc_scopes.specs.declared.state.State.{State}
use Rattle.cc_scopes.specs.declared.tables.Class.{Class}
use Rattle.cc_scopes.specs.declared.typed.Place.{Place}
use Rattle.cc_scopes.specs.declared.types.Declared.{Declared}
use Rattle.cc_scopes.specs.declared.types.Shape.{Shape}
use Rattle.cc_scopes.specs.declared.types.Shape.TheVariants as shape
use Rattle.cc_scopes.specs.declared.types.Ty.{Ty}
use Rattle.cc_scopes.specs.declared.types.Ty.TheVariants as ty
use Rattle.cc_scopes.specs.Elab.{Elab, ◌>>=◌, ◌>>◌, pure, block}
use Rattle.cc_scopes.specs.Meaning.{class_at}
use Rattle.cc_scopes.specs.Scope.{Context}
use Rattle.cc_scopes.specs.Typed.{note_rule}
use Rattle.cc_typing.specs.Calls.{args_rule, no_args}
use Rattle.cc_typing.specs.declared.calls.Args.{Args}
use Rattle.cc_typing.specs.Expr.{expr}
use Rattle.cc_typing.specs.Whole.{operand, args, array_length, fitting, place, written}
use Rattle.cc_declared.specs.declared.role.Role.{Role}
use Rattle.cc_declared.specs.Allowed.{is_allowed}
use Rattle.cc_declared.specs.Slots.{checked, typed_as, arrayed_by, arrayed, with_length, slot}
use Rattle.cc_declared.specs.Written as written_type
use Rattle.cc_core.specs.declared.expression.PrintPart.{PrintPart}
use Rattle.cc_elaboration.specs.Assignments.{operator, combined, term_of, assigned, stored, combined_value, value_by, assignment_to, no_assignment, assignment_at, assignment, assign}
use Rattle.cc_elaboration.specs.Declarations.{with_value, built_unless, built_as, built, misplaced, misplaced_value, misplaced_args, started_cell, started_object}
use Rattle.cc_elaboration.specs.Declarations.{cell_start, array_start, object_start, started_by}
use Rattle.cc_elaboration.specs.Simple.{with_number, term_or_none, dropped, spawned, int_value, call, spawn, printed_value, printed_item, printed_from, share_print, prints_alone, print, note_if}
use Rattle.cc_elaboration.specs.Simple.{is_void, return_value, return_from_void, return_some, returned, give, jump}
use Rattle.law_scopes.specs.Uses.{names_to, names_in}
use Rattle.law_scopes.specs.Variables.{TypedNames}
use Rattle.law_scopes.proofs.Runs.{Anything, always, given, bind, done}
use Rattle.law_scopes.proofs.Reading.{Reads}
use Rattle.law_scopes.proofs.ScopeLaws.{decay_runs}
use Rattle.law_scopes.proofs.OperatorLaws.{joined_runs}
use Rattle.law_scopes.proofs.PartLaws.{Covers}
use Rattle.law_scopes.proofs.ExpressionLaws.{expr_runs, operand_runs, args_runs, array_length_runs, fitting_runs, place_runs, written_runs}

pub record Leaves {A : Type 0} (p : Elab A) : Type 0 where
  pub leaves : (s : State) → ((p s).1.locals ≡ s.locals) × ((p s).1.made ≡ s.made)

pub bind_l : {A B : Type 0} {p : Elab A} {f : A → Elab B} → Leaves p → ((a : A) → Leaves (f a)) → Leaves (p >>= f)
bind_l {p = p} r q = record {
  leaves = λ s. let x = r.leaves s in let y = (q (p s).0).leaves (p s).1 in (y.0 ∙ x.0, y.1 ∙ x.1);
}

pub next_l : {A B : Type 0} {p : Elab A} {q : Elab B} → Leaves p → Leaves q → Leaves (p >> q)
next_l r q = bind_l r (λ a. q)

pub done_l : {A : Type 0} (a : A) → Leaves (pure a)
done_l a = record { leaves = λ s. (refl, refl) }

pub block_l : (line : ℕ) → Leaves (block line)
block_l line = record { leaves = λ s. (refl, refl) }

-- ---- expressions, whatever their names mean

abbrev Any : ℕ → Type 0
Any k = Unit {0}

any : (s : State) (xs : List Name) → Covers Any s xs
any s [] = tt
any s (x ∷ xs) = ((λ found is. tt), any s xs)

read : {A : Type 0} {P : Type 0} {p : Elab A} {Q : A → Type 0} → P → ((s : State) → Reads s P p Q) → Leaves p
read x r = record { leaves = λ s. (((r s).run s tt).1 x (refl, refl)).0 }

module _ (cx : Context) where
  pub expr_l : (e : Expr) → Leaves (expr cx e)
  expr_l e = read tt (λ s. expr_runs Any s cx e (any s (names_to 1000 e)))

  pub operand_l : (e : Expr) → Leaves (operand cx e)
  operand_l e = read tt (λ s. operand_runs Any s cx e (any s (names_to 1000 e)))

  pub args_l : (es : List Expr) → Leaves (args cx es)
  args_l es = read tt (λ s. args_runs Any s cx es (any s (names_in (names_to 1000) es)))

  length_l : (e : Expr) → Leaves (array_length cx e)
  length_l e = read tt (λ s. array_length_runs Any s cx e (any s (names_to 1000 e)))

  pub fitting_l : (wanted : Ty) (e : Expr) → Leaves (fitting cx wanted e)
  fitting_l wanted e = read tt (λ s. fitting_runs Any s cx wanted e (any s (names_to 1000 e)))

  place_l : (e : Expr) → Leaves (place cx e)
  place_l e = read tt (λ s. place_runs Any s cx e (any s (names_to 1000 e)))

  written_l : (p : Place) → Leaves (written cx p)
  written_l p = read tt (λ s. written_runs Any s cx p {P = Unit {0}})

  pub note_l : (rule : StaticRule) → Leaves (note_rule cx rule)
  note_l rule = record { leaves = λ s. (refl, refl) }

  -- ---- types

  no_type_l : (rule : StaticRule) → Leaves (written_type.no_type cx rule)
  no_type_l rule = next_l (note_l rule) (done_l written_type.unknown)

  void_type_l : (star : Bool) → Leaves (written_type.void_type star cx)
  void_type_l true = no_type_l _
  void_type_l false = done_l _

  class_or_none_l : (o : Option ClassId) (t : TypeName) → Leaves (written_type.class_or_none o cx t)
  class_or_none_l None t = no_type_l _
  class_or_none_l (Some class) t = done_l _

  written_by_l : (b : Base) (t : TypeName) → Leaves (written_type.written_by b cx t)
  written_by_l base.Void t = void_type_l t.star
  written_by_l base.Int t = done_l _
  written_by_l base.SyncInt t = done_l _
  written_by_l (base.Named name) t = class_or_none_l (class_named cx.names name) t

  checked_l : (b : Bool) (d : Declared) → Leaves (checked b cx d)
  checked_l true d = done_l d
  checked_l false d = next_l (note_l _) (done_l _)

  pub typed_as_l : (r : Role) (t : TypeName) → Leaves (typed_as r cx t)
  unfolding typed_as
  typed_as_l kind t = bind_l (written_by_l t.base t) (λ d. checked_l (is_allowed kind cx d) d)

  arrayed_by_l : (s : Shape) (d : Declared) (k : Option ℕ) → Leaves (arrayed_by s cx d k)
  arrayed_by_l (shape.Object class) d k = no_type_l _
  arrayed_by_l shape.Cell d k = done_l _
  arrayed_by_l (shape.Array m) d k = done_l _

  arrayed_l : (d : Declared) (e : Expr) → Leaves (arrayed cx d e)
  unfolding arrayed
  arrayed_l d e = bind_l (length_l e) (λ k. arrayed_by_l d.shape d k)

  with_length_l : (d : Declared) (o : Option Expr) → Leaves (with_length cx d o)
  with_length_l d None = done_l d
  with_length_l d (Some e) = arrayed_l d e

  pub slot_l : (r : Role) (d : Decl) → Leaves (slot r cx d)
  unfolding slot
  slot_l r d = bind_l (typed_as_l r d.ty) (λ t. with_length_l t d.length)

  -- ---- assignments

  combined_reads : (s : State) (op : BinaryOp) (p e : Expr) → Reads s (Unit {0}) (combined cx op p e) (TypedNames Any)
  unfolding combined
  combined_reads s op p e = bind (expr_runs Any s cx p (any s (names_to 1000 p))) (λ a.
      bind (always (expr_runs Any s cx e (any s (names_to 1000 e)))) (λ b. given (λ x. (x.0.1, x.1)) (joined_runs Any s cx op a b)))

  combined_value_reads : (s : State) (op : BinaryOp) (p e : Expr) → Reads s (Unit {0}) (combined_value cx op p e) Anything
  unfolding combined_value
  combined_value_reads s op p e = bind (combined_reads s op p e) (λ t. bind (given (λ x. x.1) (decay_runs Any s cx t)) (λ v.
      done (term_of v) (λ x. tt)))

  value_by_l : (o : Option BinaryOp) (wanted : Ty) (p e : Expr) → Leaves (value_by o cx wanted p e)
  value_by_l None wanted p e = fitting_l wanted e
  value_by_l (Some op) wanted p e = read tt (λ s. combined_value_reads s op p e)

  assignment_to_l : (p : Place) (op : AssignOp) (target e : Expr) → Leaves (assignment_to p cx op target e)
  unfolding assignment_to
  assignment_to_l p op target e = bind_l (value_by_l (operator op) p.ty target e) (λ v. next_l (written_l p) (done_l (assigned p v)))

  no_assignment_l : (e : Expr) → Leaves (no_assignment cx e)
  unfolding no_assignment
  no_assignment_l e = next_l (operand_l e) (done_l None)

  assignment_at_l : (p : Option Place) (op : AssignOp) (target e : Expr) → Leaves (assignment_at p cx op target e)
  assignment_at_l None op target e = no_assignment_l e
  assignment_at_l (Some p) op target e = assignment_to_l p op target e

  pub assignment_l : (target : Expr) (op : AssignOp) (e : Expr) → Leaves (assignment cx target op e)
  unfolding assignment
  assignment_l target op e = bind_l (place_l target) (λ p. assignment_at_l p op target e)

  pub assign_l : (target : Expr) (op : AssignOp) (e : Expr) → Leaves (assign cx target op e)
  unfolding assign
  assign_l target op e = bind_l (assignment_l target op e) (λ a. done_l (stored a))

  -- ---- how a variable starts

  built_unless_l : (r : Option StaticRule) (class : ClassId) (es : List Expression) → Leaves (built_unless r cx class es)
  built_unless_l (Some rule) class es = next_l (note_l rule) (done_l _)
  built_unless_l None class es = done_l _

  built_as_l : (o : Option Class) (class : ClassId) (a : Args) → Leaves (built_as o cx class a)
  built_as_l None class a = next_l (note_l _) (done_l _)
  built_as_l (Some k) class a = built_unless_l (args_rule k.constructor a.types) class a.terms

  built_l : (class : ClassId) (a : Option Args) → Leaves (built cx class a)
  built_l class None = done_l _
  built_l class (Some a) = built_as_l (class_at cx class) class a

  misplaced_l : Leaves (misplaced cx)
  misplaced_l = next_l (note_l _) (done_l _)

  misplaced_value_l : (e : Expr) → Leaves (misplaced_value cx e)
  unfolding misplaced_value
  misplaced_value_l e = next_l (operand_l e) misplaced_l

  misplaced_args_l : (es : List Expr) → Leaves (misplaced_args cx es)
  unfolding misplaced_args
  misplaced_args_l es = next_l (args_l es) misplaced_l

  started_cell_l : (d : Declared) (e : Expr) → Leaves (started_cell cx d e)
  unfolding started_cell
  started_cell_l d e = bind_l (fitting_l d.ty e) (λ v. done_l (with_value v))

  started_object_l : (class : ClassId) (es : List Expr) → Leaves (started_object cx class es)
  unfolding started_object
  started_object_l class es = bind_l (args_l es) (λ a. built_l class a)

  cell_start_l : (s : Start) (d : Declared) → Leaves (cell_start s cx d)
  cell_start_l start.Nothing d = done_l _
  cell_start_l (start.Value e) d = started_cell_l d e
  cell_start_l (start.Args es) d = misplaced_args_l es

  array_start_l : (s : Start) → Leaves (array_start s cx)
  array_start_l start.Nothing = done_l _
  array_start_l (start.Value e) = misplaced_value_l e
  array_start_l (start.Args es) = misplaced_args_l es

  object_start_l : (s : Start) (class : ClassId) → Leaves (object_start s cx class)
  object_start_l start.Nothing class = built_l class (Some no_args)
  object_start_l (start.Value e) class = misplaced_value_l e
  object_start_l (start.Args es) class = started_object_l class es

  pub started_l : (s : Shape) (d : Declared) (at : Start) → Leaves (started_by s cx d at)
  started_l shape.Cell d at = cell_start_l at d
  started_l (shape.Array m) d at = array_start_l at
  started_l (shape.Object class) d at = object_start_l at class

  -- ---- statements that hold no statement

  pub int_value_l : (e : Expr) → Leaves (int_value cx e)
  unfolding int_value
  int_value_l e = bind_l (fitting_l ty.Int e) (λ t. done_l (term_or_none t))

  pub call_l : (e : Expr) → Leaves (call cx e)
  unfolding call
  call_l e = bind_l (expr_l e) (λ t. done_l (dropped t))

  pub spawn_l : (e : Expr) → Leaves (spawn cx e)
  unfolding spawn
  spawn_l e = next_l (block_l cx.line) (bind_l (expr_l e) (λ t. done_l (spawned t)))

  module _ (parts : List PrintPart) (es : List Expression) where
    printed_value_l : (e : Expr) → Leaves (printed_value cx (record { parts = parts; values = es }) e)
    unfolding printed_value
    printed_value_l e = bind_l (int_value_l e) (λ v. done_l (with_number (record { parts = parts; values = es }) v))

    printed_item_l : (x : PrintItem) → Leaves (printed_item cx (record { parts = parts; values = es }) x)
    printed_item_l (item.Value e) = printed_value_l e
    printed_item_l (item.Str bytes) = done_l _
    printed_item_l item.Endl = done_l _

  printed_from_l : (parts : List PrintPart) (es : List Expression) (xs : List PrintItem)
      → Leaves (printed_from cx (record { parts = parts; values = es }) xs)
  printed_from_l parts es [] = done_l _
  printed_from_l parts es (x ∷ xs) = bind_l (printed_item_l parts es x) (λ q. printed_from_l q.parts q.values xs)

  share_print_l : (b : Bool) → Leaves (share_print b cx)
  share_print_l true = done_l _
  share_print_l false = record { leaves = λ s. (refl, refl) }

  pub print_l : (xs : List PrintItem) → Leaves (print cx xs)
  unfolding print
  print_l xs = next_l (share_print_l (prints_alone cx)) (bind_l (printed_from_l [] [] xs) (λ p. done_l (s.Print p.parts p.values)))

  note_if_l : (b : Bool) (rule : StaticRule) → Leaves (note_if b cx rule)
  note_if_l true rule = note_l rule
  note_if_l false rule = done_l _

  return_value_l : (e : Expr) → Leaves (return_value cx e)
  unfolding return_value
  return_value_l e = bind_l (fitting_l cx.result e) (λ v. done_l (s.Return (term_or_none v)))

  return_from_void_l : (e : Expr) → Leaves (return_from_void cx e)
  unfolding return_from_void
  return_from_void_l e = next_l (operand_l e) (next_l (note_l r.ReturnValue) (done_l s.Empty))

  return_some_l : (b : Bool) (e : Expr) → Leaves (return_some b cx e)
  return_some_l true e = return_from_void_l e
  return_some_l false e = return_value_l e

  returned_l : (o : Option Expr) → Leaves (returned cx o)
  returned_l None = next_l (note_if_l (not (is_void cx.result)) _) (done_l _)
  returned_l (Some e) = return_some_l (is_void cx.result) e

  pub give_l : (o : Option Expr) → Leaves (give cx o)
  unfolding give
  give_l o = next_l (note_if_l cx.in_branch _) (returned_l o)

  pub jump_l : (x : Statement) → Leaves (jump cx x)
  unfolding jump
  jump_l x = next_l (note_if_l (not cx.in_loop) _) (done_l x)
