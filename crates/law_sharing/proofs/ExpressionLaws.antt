-- Expressions, and what is read of them where statements hold them.
use Rattle.std.proofs.Common.{ℕ, zero, suc, Bool, true, false, List, Option, Some, None}
use Rattle.std.specs.Prelude.{if◌then◌else◌}
use Rattle.std.specs.Prelude.{if◌then◌else◌}
use Rattle.cc_names.specs.declared.rule.StaticRule.{StaticRule}
use Rattle.cc_names.specs.declared.rule.StaticRule.TheVariants as r
use Rattle.cc_tree.specs.declared.expressions.Expr.{Expr, out-Expr}
use Rattle.cc_tree.specs.declared.expressions.ExprKind.{out-ExprKind}
use Rattle.cc_tree.specs.declared.expressions.ExprKind.TheOpen.{ExprKind-F}
use Rattle.cc_scopes.specs.declared.typed.Operand.{Operand}
use Rattle.cc_scopes.specs.declared.typed.Place.{Place}
use Rattle.cc_scopes.specs.declared.typed.Typed.{Typed}
use Rattle.cc_scopes.specs.declared.typed.Typed.TheVariants as typed
use Rattle.cc_scopes.specs.declared.types.Ty.{Ty}
use Rattle.cc_scopes.specs.Elab.{Elab, ◌>>◌, pure}
use Rattle.cc_scopes.specs.Scope.{Context}
use Rattle.cc_scopes.specs.Types.{accepts}
use Rattle.cc_scopes.specs.Typed.{literal, note_rule, is_far_local}
use Rattle.cc_typing.specs.Expr.{null, Layer, kind, node, expr_to, expr}
use Rattle.cc_typing.specs.Whole.{operand, args, array_length, constant, fitted, fitting, no_place, place_unless, as_place, place}
use Rattle.law_sharing.proofs.Leaves.{Leaves, bind, next, done}
use Rattle.law_sharing.proofs.ScopeLaws.{note_rule_leaves, broken_leaves, this_leaves, name_leaves, length_of_leaves, constant_of_leaves}
use Rattle.law_sharing.proofs.PartLaws as parts

module _ (cx : Context) where
  -- ---- one level, and so each depth

  module _ (expr : Context → Expr → Elab Typed) (reads : (e : Expr) → Leaves cx.line (expr cx e)) where
    kind_leaves : (l : Layer) → Leaves cx.line (kind expr cx l)
    kind_leaves (ExprKind-F.Int z) = done (literal z)
    kind_leaves ExprKind-F.Null = done (typed.Value null)
    kind_leaves ExprKind-F.This = this_leaves cx
    kind_leaves (ExprKind-F.Name text) = name_leaves cx text
    kind_leaves (ExprKind-F.Call text es) = parts.call_of_leaves cx expr reads text es
    kind_leaves (ExprKind-F.Paren e) = reads e
    kind_leaves (ExprKind-F.Post e tail) = parts.post_leaves cx expr reads e tail
    kind_leaves (ExprKind-F.Unary op e) = parts.prefixed_leaves cx expr reads op e
    kind_leaves (ExprKind-F.Chain e rest) = parts.chain_leaves cx expr reads e rest
    kind_leaves (ExprKind-F.NewInt sync length) = parts.new_int_leaves cx expr reads sync length
    kind_leaves (ExprKind-F.NewClass text es) = parts.new_class_leaves cx expr reads text es

    node_leaves : (e : Expr) → Leaves cx.line (node expr cx e)
    unfolding node
    node_leaves e = kind_leaves (out-ExprKind (out-Expr e).kind)

  expr_to_leaves : (depth : ℕ) (e : Expr) → Leaves cx.line (expr_to depth cx e)
  unfolding expr_to
  expr_to_leaves zero e = broken_leaves cx _
  expr_to_leaves (suc depth) e = node_leaves (expr_to depth) (expr_to_leaves depth) e

  pub expr_leaves : (e : Expr) → Leaves cx.line (expr cx e)
  expr_leaves e = expr_to_leaves 1000 e

  -- ---- whole expressions

  pub operand_leaves : (e : Expr) → Leaves cx.line (operand cx e)
  operand_leaves e = parts.operand_leaves cx expr expr_leaves e

  pub args_leaves : (es : List Expr) → Leaves cx.line (args cx es)
  args_leaves es = parts.args_leaves cx expr expr_leaves es

  pub array_length_leaves : (e : Expr) → Leaves cx.line (array_length cx e)
  unfolding array_length
  array_length_leaves e = bind (expr_leaves e) (λ t. length_of_leaves cx t)

  pub constant_leaves : (e : Expr) → Leaves cx.line (constant cx e)
  unfolding constant
  constant_leaves e = bind (expr_leaves e) (λ t. constant_of_leaves cx t)

  fits_or_not : (b : Bool) (v : Operand)
      → Leaves cx.line (if b then pure (Some v.term) else note_rule cx r.BadType >> pure None)
  fits_or_not true v = done (Some v.term)
  fits_or_not false v = next (note_rule_leaves cx _) (done None)

  fitted_leaves : (wanted : Ty) (v : Option Operand) → Leaves cx.line (fitted cx wanted v)
  fitted_leaves wanted None = done None
  fitted_leaves wanted (Some v) = fits_or_not (accepts wanted v.ty) v

  pub fitting_leaves : (wanted : Ty) (e : Expr) → Leaves cx.line (fitting cx wanted e)
  unfolding fitting
  fitting_leaves wanted e = bind (operand_leaves e) (λ v. (fitted_leaves wanted v))

  -- ---- places

  no_place_leaves : (rule : StaticRule) → Leaves cx.line (no_place cx rule)
  no_place_leaves rule = next (note_rule_leaves cx rule) (done None)

  place_unless_leaves : (b : Bool) (p : Place) → Leaves cx.line (place_unless b cx p)
  place_unless_leaves true p = no_place_leaves _
  place_unless_leaves false p = done (Some p)

  as_place_leaves : (t : Typed) → Leaves cx.line (as_place cx t)
  as_place_leaves typed.Broken = done None
  as_place_leaves typed.Spoiled = done None
  as_place_leaves (typed.Value v) = no_place_leaves _
  as_place_leaves (typed.This class remote) = no_place_leaves _
  as_place_leaves (typed.Constant term value) = no_place_leaves _
  as_place_leaves (typed.Place p) = place_unless_leaves (is_far_local p) p
  as_place_leaves (typed.Array p k) = no_place_leaves _
  as_place_leaves (typed.Object o) = no_place_leaves _

  pub place_leaves : (e : Expr) → Leaves cx.line (place cx e)
  unfolding place
  place_leaves e = bind (expr_leaves e) (λ t. (as_place_leaves t))
