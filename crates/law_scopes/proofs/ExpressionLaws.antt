-- Expressions, where each name in them finds a variable among these.
use Rattle.std.proofs.Common.{ℕ, zero, suc, Bool, true, false, List, Option, Some, None, if◌then◌else◌}
use Rattle.cc_core.specs.declared.expression.Constant.TheVariants as constant
use Rattle.cc_names.specs.declared.rule.StaticRule.{StaticRule}
use Rattle.cc_names.specs.declared.rule.StaticRule.TheVariants as r
use Rattle.cc_names.specs.Table.{Name}
use Rattle.cc_tree.specs.declared.expressions.Expr.{Expr, out-Expr}
use Rattle.cc_tree.specs.declared.expressions.ExprKind.{out-ExprKind}
use Rattle.cc_tree.specs.declared.expressions.ExprKind.TheOpen.{ExprKind-F}
use Rattle.cc_scopes.specs.declared.sharing.ShareRule.{ShareRule}
use Rattle.cc_scopes.specs.declared.state.State.{State}
use Rattle.cc_scopes.specs.declared.typed.Root.{Root}
use Rattle.cc_scopes.specs.declared.typed.Operand.{Operand}
use Rattle.cc_scopes.specs.declared.typed.Place.{Place}
use Rattle.cc_scopes.specs.declared.typed.Typed.{Typed}
use Rattle.cc_scopes.specs.declared.typed.Typed.TheVariants as typed
use Rattle.cc_scopes.specs.declared.types.Ty.{Ty}
use Rattle.cc_scopes.specs.Elab.{Elab, ◌>>◌, pure}
use Rattle.cc_scopes.specs.Scope.{Context}
use Rattle.cc_scopes.specs.Types.{accepts}
use Rattle.cc_scopes.specs.Typed.{literal, note_rule, is_far_local}
use Rattle.cc_typing.specs.Expr.{null, Layer, kind, node, expr_to, expr}
use Rattle.cc_typing.specs.Whole.{operand, args, array_length, fitted, fitting, no_place, place_unless, as_place, place, written_rule, share_some, share_write, written}
use Rattle.law_scopes.specs.Uses.{names_in, kind_names, names_to}
use Rattle.law_scopes.specs.Variables.{Names, TypedNames}
use Rattle.law_scopes.proofs.Runs.{IfThere, Anything, given, bind, next, done}
use Rattle.law_scopes.proofs.TermLaws.{push_fits}
use Rattle.law_scopes.proofs.Reading.{Reads, OperandFits}
use Rattle.law_scopes.proofs.ScopeLaws.{share_runs, block_if_runs, broken_runs, note_rule_runs, literal_fits, this_runs, name_runs, length_of_runs}
use Rattle.law_scopes.proofs.CallLaws.{ArgsFit}
use Rattle.law_scopes.proofs.PartLaws.{Covers}
use Rattle.law_scopes.proofs.PartLaws as parts

module _ (V : ℕ → Type 0) (from : State) (cx : Context) where
  -- ---- one level, and so each depth

  module _ (expr : Context → Expr → Elab Typed) (names : Expr → List Name)
      (reads : (e : Expr) → Covers V from (names e) → Reads from (Unit {0}) (expr cx e) (TypedNames V)) where
    kind_runs : (l : Layer) → Covers V from (kind_names names l) → Reads from (Unit {0}) (kind expr cx l) (TypedNames V)
    kind_runs (ExprKind-F.Int z) c = done (literal z) (λ x. literal_fits V from z)
    kind_runs ExprKind-F.Null c = done (typed.Value null) (λ x. push_fits V constant.Null)
    kind_runs ExprKind-F.This c = this_runs V from cx
    kind_runs (ExprKind-F.Name text) c = name_runs V from cx text c.0
    kind_runs (ExprKind-F.Call text es) c = parts.call_of_runs V from cx expr names reads text es c
    kind_runs (ExprKind-F.Paren e) c = reads e c
    kind_runs (ExprKind-F.Post e tail) c = parts.post_runs V from cx expr names reads e tail c
    kind_runs (ExprKind-F.Unary op e) c = parts.prefixed_runs V from cx expr names reads op e c
    kind_runs (ExprKind-F.Chain e rest) c = parts.chain_runs V from cx expr names reads e rest c
    kind_runs (ExprKind-F.NewInt sync length) c = parts.new_int_runs V from cx expr names reads sync length c
    kind_runs (ExprKind-F.NewClass text es) c = parts.new_class_runs V from cx expr names reads text es c

    node_runs : (e : Expr) → Covers V from (kind_names names (out-ExprKind (out-Expr e).kind)) → Reads from (Unit {0}) (node expr cx e) (TypedNames V)
    unfolding node
    node_runs e c = kind_runs (out-ExprKind (out-Expr e).kind) c

  pub expr_to_runs : (depth : ℕ) (e : Expr) → Covers V from (names_to depth e) → Reads from (Unit {0}) (expr_to depth cx e) (TypedNames V)
  unfolding expr_to names_to
  expr_to_runs zero e c = broken_runs V from cx _
  expr_to_runs (suc depth) e c = node_runs (expr_to depth) (names_to depth) (expr_to_runs depth) e c

  abbrev names : Expr → List Name
  names = names_to 1000

  pub expr_runs : (e : Expr) → Covers V from (names_to 1000 e) → Reads from (Unit {0}) (expr cx e) (TypedNames V)
  expr_runs e c = expr_to_runs 1000 e c

  -- ---- whole expressions

  pub operand_runs : (e : Expr) → Covers V from (names e) → Reads from (Unit {0}) (operand cx e) (IfThere (OperandFits V from))
  operand_runs e c = parts.operand_runs V from cx expr names expr_runs e c

  pub args_runs : (es : List Expr) → Covers V from (names_in names es) → Reads from (Unit {0}) (args cx es) (IfThere (ArgsFit V from))
  args_runs es c = parts.args_runs V from cx expr names expr_runs es c

  pub array_length_runs : (e : Expr) → Covers V from (names e) → Reads from (Unit {0}) (array_length cx e) Anything
  unfolding array_length
  array_length_runs e c = bind (expr_runs e c) (λ t. length_of_runs V from cx t)

  fits_or_not : (b : Bool) (v : Operand)
      → Reads from (OperandFits V from v) (if b then pure (Some v.term) else note_rule cx r.BadType >> pure None) (IfThere (Names V))
  fits_or_not true v = done (Some v.term) (λ x. x)
  fits_or_not false v = next (note_rule_runs V from cx _) (done None (λ x. tt))

  fitted_runs : (wanted : Ty) (v : Option Operand) → Reads from (IfThere (OperandFits V from) v) (fitted cx wanted v) (IfThere (Names V))
  fitted_runs wanted None = done None (λ x. tt)
  fitted_runs wanted (Some v) = fits_or_not (accepts wanted v.ty) v

  pub fitting_runs : (wanted : Ty) (e : Expr) → Covers V from (names e) → Reads from (Unit {0}) (fitting cx wanted e) (IfThere (Names V))
  unfolding fitting
  fitting_runs wanted e c = bind (operand_runs e c) (λ v. given (λ x. x.1) (fitted_runs wanted v))

  -- ---- places

  abbrev PlaceFits : Place → Type 0
  PlaceFits p = Names V p.address

  no_place_runs : (rule : StaticRule) {P : Type 0} → Reads from P (no_place cx rule) (IfThere PlaceFits)
  no_place_runs rule = next (note_rule_runs V from cx rule) (done None (λ x. tt))

  place_unless_runs : (b : Bool) (p : Place) → Reads from (PlaceFits p) (place_unless b cx p) (IfThere PlaceFits)
  place_unless_runs true p = no_place_runs _
  place_unless_runs false p = done (Some p) (λ x. x)

  as_place_runs : (t : Typed) → Reads from (TypedNames V t) (as_place cx t) (IfThere PlaceFits)
  as_place_runs typed.Broken = done None (λ x. tt)
  as_place_runs typed.Spoiled = done None (λ x. tt)
  as_place_runs (typed.Value v) = no_place_runs _
  as_place_runs (typed.This class remote) = no_place_runs _
  as_place_runs (typed.Constant term value) = no_place_runs _
  as_place_runs (typed.Place p) = place_unless_runs (is_far_local p) p
  as_place_runs (typed.Array p k) = no_place_runs _
  as_place_runs (typed.Object o) = no_place_runs _

  pub place_runs : (e : Expr) → Covers V from (names e) → Reads from (Unit {0}) (place cx e) (IfThere PlaceFits)
  unfolding place
  place_runs e c = bind (expr_runs e c) (λ t. given (λ x. x.1) (as_place_runs t))

  share_some_runs : (o : Option ShareRule) {P : Type 0} → Reads from P (share_some o cx) Anything
  share_some_runs None = done tt (λ x. tt)
  share_some_runs (Some rule) = share_runs from rule cx.line

  share_write_runs : (sync : Bool) (root : Root) {P : Type 0} → Reads from P (share_write sync cx root) Anything
  share_write_runs true root = done tt (λ x. tt)
  share_write_runs false root = share_some_runs (written_rule cx root)

  pub written_runs : (p : Place) {P : Type 0} → Reads from P (written cx p) Anything
  unfolding written
  written_runs p = next (share_write_runs p.sync p.root) (block_if_runs from p.remote cx.line)
