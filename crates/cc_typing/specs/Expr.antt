-- Expressions: what each is, and the rules that are broken in it.
use Rattle.std.specs.Prelude.{ℕ, zero, suc}
use Rattle.cc_core.specs.declared.expression.Constant.TheVariants as constant
use Rattle.cc_core.specs.declared.expression.Expression.TheVariants as e
use Rattle.cc_names.specs.declared.rule.StaticRule.TheVariants as r
use Rattle.cc_tree.specs.declared.expressions.Expr.{Expr, out-Expr}
use Rattle.cc_tree.specs.declared.expressions.ExprKind.{ExprKind, out-ExprKind}
use Rattle.cc_tree.specs.declared.expressions.ExprKind.TheOpen.{ExprKind-F}
use Rattle.cc_tree.specs.declared.expressions.Suffix.{Suffix}
use Rattle.cc_tree.specs.declared.expressions.Link.{Link}
use Rattle.cc_scopes.specs.declared.typed.Operand.{Operand}
use Rattle.cc_scopes.specs.declared.typed.Typed.{Typed}
use Rattle.cc_scopes.specs.declared.typed.Typed.TheVariants as typed
use Rattle.cc_scopes.specs.declared.types.Ty.TheVariants as ty
use Rattle.cc_scopes.specs.Elab.{Elab, pure}
use Rattle.cc_scopes.specs.Scope.{Context}
use Rattle.cc_scopes.specs.Typed.{broken, literal}
use Rattle.cc_scopes.specs.Meaning.{name, this}
use Rattle.cc_typing.specs.Parts.{call, post, prefixed, chain, new_int, new_class}

abbrev pub null : Operand
null = record { ty = ty.Null; term = e.Push constant.Null }

abbrev pub Layer : Type 0
Layer = ExprKind-F ExprKind Suffix Expr Link

module _ (expr : Context → Expr → Elab Typed) where
  abbrev pub kind : Context → Layer → Elab Typed
  kind cx (ExprKind-F.Int n) = pure (literal n)
  kind cx ExprKind-F.Null = pure (typed.Value null)
  kind cx ExprKind-F.This = this cx
  kind cx (ExprKind-F.Name text) = name cx text
  kind cx (ExprKind-F.Call text es) = call expr cx text es
  kind cx (ExprKind-F.Paren e) = expr cx e
  kind cx (ExprKind-F.Post e tail) = post expr cx e tail
  kind cx (ExprKind-F.Unary op e) = prefixed expr cx op e
  kind cx (ExprKind-F.Chain e rest) = chain expr cx e rest
  kind cx (ExprKind-F.NewInt sync length) = new_int expr cx sync length
  kind cx (ExprKind-F.NewClass text es) = new_class expr cx text es

  -- one level of an expression, from what its parts are
  unfoldable pub node : Context → Expr → Elab Typed
  node cx e = kind cx (out-ExprKind (out-Expr e).kind)

-- to a depth. What lies deeper counts as broken; the parser gives no tree that deep
unfoldable pub expr_to : ℕ → Context → Expr → Elab Typed
expr_to zero cx e = broken cx r.BadType
expr_to (suc depth) cx e = node (expr_to depth) cx e

abbrev pub expr : Context → Expr → Elab Typed
expr = expr_to 1000
