-- Expressions, and what statements and declarations read of them.
use Rattle.std.proofs.Common.{ℕ, zero, suc, Bool, true, false, List, Option, Some, None}
use Rattle.std.specs.Prelude.{if◌then◌else◌}
use Rattle.cc_core.specs.declared.expression.Constant.TheVariants as constant
use Rattle.cc_core.specs.Core.{Shapes}
use Rattle.cc_names.specs.declared.rule.StaticRule.{StaticRule}
use Rattle.cc_names.specs.declared.rule.StaticRule.TheVariants as r
use Rattle.cc_tree.specs.declared.expressions.Expr.{Expr, out-Expr}
use Rattle.cc_tree.specs.declared.expressions.ExprKind.{out-ExprKind}
use Rattle.cc_tree.specs.declared.expressions.ExprKind.TheOpen.{ExprKind-F}
use Rattle.cc_scopes.specs.declared.sharing.ShareRule.{ShareRule}
use Rattle.cc_scopes.specs.declared.state.State.{State}
use Rattle.cc_scopes.specs.declared.typed.Root.{Root}
use Rattle.cc_scopes.specs.declared.typed.Operand.{Operand}
use Rattle.cc_scopes.specs.declared.typed.Place.{Place}
use Rattle.cc_scopes.specs.declared.typed.Typed.{Typed}
use Rattle.cc_scopes.specs.declared.typed.Typed.TheVariants as typed
use Rattle.cc_scopes.specs.declared.types.Ty.{Ty}
use Rattle.cc_scopes.specs.Elab.{Elab, ◌>>◌, pure}
use Rattle.cc_scopes.specs.Scope.{Context}
use Rattle.cc_scopes.specs.Types.{accepts}
use Rattle.cc_scopes.specs.Typed.{literal, note_rule, is_far_local}
use Rattle.cc_typing.specs.Expr.{null, Layer, kind, node, expr_to, expr}
use Rattle.cc_typing.specs.Whole.{operand, args, array_length, constant, fitted, fitting, no_place, place_unless, as_place, place, written_rule, share_some, share_write, written}
use Rattle.cc_source.proofs.Runs.{IfThere, Anything, given, bind, next, done}
use Rattle.cc_source.proofs.FitLaws.{push_fits}
use Rattle.cc_source.proofs.Fits.{ExpressionFits}
use Rattle.cc_source.proofs.Sound.{IsLength, Reads, OperandFits, TypedFits}
use Rattle.cc_source.proofs.StateLaws.{share_runs, block_if_runs}
use Rattle.cc_source.proofs.ScopeLaws.{broken_runs, note_rule_runs, literal_fits, this_runs, name_runs, length_of_runs, constant_of_runs}
use Rattle.cc_source.proofs.CallLaws.{ArgsFit}
use Rattle.cc_source.proofs.PartLaws as parts

module _ (h : Shapes) (last : State) (cx : Context) where
  -- ---- one level, and so each depth

  module _ (expr : Context → Expr → Elab Typed) (reads : (e : Expr) → Reads h last cx (Unit {0}) (expr cx e) (TypedFits h last)) where
    kind_runs : (l : Layer) → Reads h last cx (Unit {0}) (kind expr cx l) (TypedFits h last)
    kind_runs (ExprKind-F.Int z) = done (literal z) (λ x. literal_fits h last z)
    kind_runs ExprKind-F.Null = done (typed.Value null) (λ x. push_fits h last constant.Null)
    kind_runs ExprKind-F.This = this_runs h last cx
    kind_runs (ExprKind-F.Name text) = name_runs h last cx text
    kind_runs (ExprKind-F.Call text es) = parts.call_of_runs h last cx expr reads text es
    kind_runs (ExprKind-F.Paren e) = reads e
    kind_runs (ExprKind-F.Post e tail) = parts.post_runs h last cx expr reads e tail
    kind_runs (ExprKind-F.Unary op e) = parts.prefixed_runs h last cx expr reads op e
    kind_runs (ExprKind-F.Chain e rest) = parts.chain_runs h last cx expr reads e rest
    kind_runs (ExprKind-F.NewInt sync length) = parts.new_int_runs h last cx expr reads sync length
    kind_runs (ExprKind-F.NewClass text es) = parts.new_class_runs h last cx expr reads text es

    node_runs : (e : Expr) → Reads h last cx (Unit {0}) (node expr cx e) (TypedFits h last)
    unfolding node
    node_runs e = kind_runs (out-ExprKind (out-Expr e).kind)

  expr_to_runs : (depth : ℕ) (e : Expr) → Reads h last cx (Unit {0}) (expr_to depth cx e) (TypedFits h last)
  unfolding expr_to
  expr_to_runs zero e = broken_runs h last cx _
  expr_to_runs (suc depth) e = node_runs (expr_to depth) (expr_to_runs depth) e

  pub expr_runs : (e : Expr) → Reads h last cx (Unit {0}) (expr cx e) (TypedFits h last)
  expr_runs e = expr_to_runs 1000 e

  -- ---- whole expressions

  pub operand_runs : (e : Expr) → Reads h last cx (Unit {0}) (operand cx e) (IfThere (OperandFits h last))
  operand_runs e = parts.operand_runs h last cx expr expr_runs e

  pub args_runs : (es : List Expr) → Reads h last cx (Unit {0}) (args cx es) (IfThere (ArgsFit h last))
  args_runs es = parts.args_runs h last cx expr expr_runs es

  pub array_length_runs : (e : Expr) → Reads h last cx (Unit {0}) (array_length cx e) (IfThere IsLength)
  unfolding array_length
  array_length_runs e = bind (expr_runs e) (λ t. length_of_runs h last cx t)

  pub constant_runs : (e : Expr) → Reads h last cx (Unit {0}) (constant cx e) Anything
  unfolding constant
  constant_runs e = bind (expr_runs e) (λ t. constant_of_runs h last cx t)

  fits_or_not : (b : Bool) (v : Operand)
      → Reads h last cx (OperandFits h last v) (if b then pure (Some v.term) else note_rule cx r.BadType >> pure None) (IfThere (ExpressionFits h last))
  fits_or_not true v = done (Some v.term) (λ x. x)
  fits_or_not false v = next (note_rule_runs h last cx _) (done None (λ x. tt))

  fitted_runs : (wanted : Ty) (v : Option Operand)
      → Reads h last cx (IfThere (OperandFits h last) v) (fitted cx wanted v) (IfThere (ExpressionFits h last))
  fitted_runs wanted None = done None (λ x. tt)
  fitted_runs wanted (Some v) = fits_or_not (accepts wanted v.ty) v

  pub fitting_runs : (wanted : Ty) (e : Expr) → Reads h last cx (Unit {0}) (fitting cx wanted e) (IfThere (ExpressionFits h last))
  unfolding fitting
  fitting_runs wanted e = bind (operand_runs e) (λ v. given (λ x. x.1) (fitted_runs wanted v))

  -- ---- places

  abbrev PlaceFits : Place → Type 0
  PlaceFits p = ExpressionFits h last p.address

  no_place_runs : (rule : StaticRule) {P : Type 0} → Reads h last cx P (no_place cx rule) (IfThere PlaceFits)
  no_place_runs rule = next (note_rule_runs h last cx rule) (done None (λ x. tt))

  place_unless_runs : (b : Bool) (p : Place) → Reads h last cx (PlaceFits p) (place_unless b cx p) (IfThere PlaceFits)
  place_unless_runs true p = no_place_runs _
  place_unless_runs false p = done (Some p) (λ x. x)

  as_place_runs : (t : Typed) → Reads h last cx (TypedFits h last t) (as_place cx t) (IfThere PlaceFits)
  as_place_runs typed.Broken = done None (λ x. tt)
  as_place_runs typed.Spoiled = done None (λ x. tt)
  as_place_runs (typed.Value v) = no_place_runs _
  as_place_runs (typed.This class remote) = no_place_runs _
  as_place_runs (typed.Constant term value) = no_place_runs _
  as_place_runs (typed.Place p) = place_unless_runs (is_far_local p) p
  as_place_runs (typed.Array p k) = no_place_runs _
  as_place_runs (typed.Object o) = no_place_runs _

  pub place_runs : (e : Expr) → Reads h last cx (Unit {0}) (place cx e) (IfThere PlaceFits)
  unfolding place
  place_runs e = bind (expr_runs e) (λ t. given (λ x. x.1) (as_place_runs t))

  share_some_runs : (o : Option ShareRule) {P : Type 0} → Reads h last cx P (share_some o cx) Anything
  share_some_runs None = done tt (λ x. tt)
  share_some_runs (Some rule) = share_runs h last cx rule cx.line

  share_write_runs : (sync : Bool) (root : Root) {P : Type 0} → Reads h last cx P (share_write sync cx root) Anything
  share_write_runs true root = done tt (λ x. tt)
  share_write_runs false root = share_some_runs (written_rule cx root)

  pub written_runs : (p : Place) {P : Type 0} → Reads h last cx P (written cx p) Anything
  unfolding written
  written_runs p = next (share_write_runs p.sync p.root) (block_if_runs h last cx p.remote cx.line)
