-- The expressions of constructors, and what their assignments put where.
use Rattle.std.specs.Prelude.{ℕ, zero, suc, Bool, true, false, if◌then◌else◌, [], ◌∷◌, Option, Some, None}
use Rattle.cc_core.specs.declared.expression.Constant.{Constant}
use Rattle.cc_core.specs.declared.expression.Constant.TheVariants as constant
use Rattle.cc_core.specs.declared.expression.Expression.{Expression, out-Expression}
use Rattle.cc_core.specs.declared.expression.Expression.TheOpen.{Expression-F}
use Rattle.global_ptr.specs.declared.values.Value.{Value}
use Rattle.global_ptr.specs.declared.values.Value.TheVariants as value
use Rattle.cc_ops.specs.declared.build.BuildExpr.{BuildExpr}
use Rattle.cc_ops.specs.declared.build.BuildExpr.TheVariants as build
use Rattle.cc_ops.specs.declared.build.BuildSet.{BuildSet}
use Rattle.cc_ops.specs.declared.operator.Op.{Op}
use Rattle.cc_tree.specs.declared.expressions.Expr.{Expr, out-Expr}
use Rattle.cc_tree.specs.declared.expressions.ExprKind.{ExprKind, out-ExprKind}
use Rattle.cc_tree.specs.declared.expressions.ExprKind.TheOpen.{ExprKind-F}
use Rattle.cc_tree.specs.declared.expressions.Suffix.{Suffix}
use Rattle.cc_tree.specs.declared.expressions.Link.{Link}
use Rattle.cc_elaboration.specs.declared.assignments.Assignment.{Assignment}

-- ---- an expression of constants, parameters and operators

abbrev pub literal : Constant → Value
literal constant.Void = value.Void
literal (constant.Int n) = value.Int n
literal constant.Null = value.Null

abbrev pub param_by : Expression-F Expression → Option BuildExpr
param_by (Expression-F.Variable k) = Some (build.Param k)
param_by _ = None

-- the value of a variable: a constructor has none but its parameters
abbrev pub param_at : (remote : Bool) → Expression → Option BuildExpr
param_at true place = None
param_at false place = param_by (out-Expression place)

abbrev pub applied : Op → Option BuildExpr → Option BuildExpr
applied op None = None
applied op (Some a) = Some (build.Op op (a ∷ []))

abbrev pub applied_both : Op → Option BuildExpr → Option BuildExpr → Option BuildExpr
applied_both op (Some a) (Some b) = Some (build.Op op (a ∷ b ∷ []))
applied_both op _ _ = None

abbrev pub both : Option BuildExpr → Option BuildExpr → Option BuildExpr
both (Some a) (Some b) = Some (build.And a b)
both _ _ = None

abbrev pub either : Option BuildExpr → Option BuildExpr → Option BuildExpr
either (Some a) (Some b) = Some (build.Or a b)
either _ _ = None

module _ (part : Expression → Option BuildExpr) where
  abbrev pub built_by : Expression-F Expression → Option BuildExpr
  built_by (Expression-F.Push c) = Some (build.Value (literal c))
  built_by (Expression-F.Load remote place) = param_at remote place
  built_by (Expression-F.Unary op a) = applied op (part a)
  built_by (Expression-F.Binary op a b) = applied_both op (part a) (part b)
  built_by (Expression-F.And a b) = both (part a) (part b)
  built_by (Expression-F.Or a b) = either (part a) (part b)
  built_by _ = None

  -- one level of an expression, from what its parts are
  unfoldable pub built : Expression → Option BuildExpr
  built e = built_by (out-Expression e)

-- to a depth; a text of a program is too short for an expression that deep
unfoldable pub built_to : ℕ → Expression → Option BuildExpr
built_to zero e = None
built_to (suc depth) e = built (built_to depth) e

abbrev pub build_of : Expression → Option BuildExpr
build_of = built_to 1048576

-- ---- the own members that are assigned

abbrev pub is_this_by : Expression-F Expression → Bool
is_this_by Expression-F.This = true
is_this_by _ = false

abbrev pub is_this : Expression → Bool
is_this e = is_this_by (out-Expression e)

abbrev pub own_offset_by : Expression-F Expression → Option ℕ
own_offset_by (Expression-F.Member object offset) = if is_this object then Some offset else None
own_offset_by _ = None

-- how many cells lie before an own member
abbrev pub own_offset : Expression → Option ℕ
own_offset e = own_offset_by (out-Expression e)

abbrev pub member_set : Option ℕ → Option BuildExpr → Option BuildSet
member_set (Some offset) (Some v) = Some (record { offset = offset; length = 1; index = None; value = v })
member_set _ _ = None

abbrev pub element_set : Option ℕ → (length : ℕ) → (index value : Option BuildExpr) → Option BuildSet
element_set (Some offset) n (Some i) (Some v) = Some (record { offset = offset; length = n; index = Some i; value = v })
element_set _ n _ _ = None

abbrev pub set_by : Expression-F Expression → Expression → Option BuildExpr → Option BuildSet
set_by (Expression-F.Index array n index) place v = element_set (own_offset array) n (build_of index) v
set_by _ place v = member_set (own_offset place) v

-- what an assignment puts into a new object, and none where it is not one of a constructor
abbrev pub set_of : Assignment → Option BuildSet
set_of a = set_by (out-Expression a.place.address) a.place.address (build_of a.value)

-- ---- the own object is named by a member's name or by `this->`, and not by `(*this).`

module _ (part : Expr → Bool) where
  abbrev pub is_own_by : ExprKind-F ExprKind Suffix Expr Link → Bool
  is_own_by (ExprKind-F.Name text) = true
  is_own_by ExprKind-F.This = true
  is_own_by (ExprKind-F.Paren e) = part e
  is_own_by (ExprKind-F.Post e tail) = part e
  is_own_by _ = false

  unfoldable pub is_own : Expr → Bool
  is_own e = is_own_by (out-ExprKind (out-Expr e).kind)

unfoldable pub is_own_to : ℕ → Expr → Bool
is_own_to zero e = false
is_own_to (suc depth) e = is_own (is_own_to depth) e

abbrev pub names_own : Expr → Bool
names_own = is_own_to 1000
