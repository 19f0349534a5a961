-- Operators, and the address of a place.
use Rattle.std.proofs.Common.{Bool, true, false, Option, Some, None}
use Rattle.std.specs.Prelude.{ℤ}
use Rattle.cc_core.specs.declared.expression.Expression.{Expression}
use Rattle.cc_names.specs.declared.rule.StaticRule.{StaticRule}
use Rattle.cc_ops.specs.declared.operator.Op.{Op}
use Rattle.cc_ops.specs.declared.operator.Op.TheVariants as op
use Rattle.cc_tree.specs.declared.expressions.BinaryOp.{BinaryOp}
use Rattle.cc_tree.specs.declared.expressions.UnaryOp.{UnaryOp}
use Rattle.cc_tree.specs.declared.expressions.UnaryOp.TheVariants as prefix
use Rattle.cc_scopes.specs.declared.typed.Object.{Object}
use Rattle.cc_scopes.specs.declared.typed.Operand.{Operand}
use Rattle.cc_scopes.specs.declared.typed.Place.{Place}
use Rattle.cc_scopes.specs.declared.typed.Typed.{Typed}
use Rattle.cc_scopes.specs.declared.typed.Typed.TheVariants as typed
use Rattle.cc_scopes.specs.declared.types.Ty.{Ty}
use Rattle.cc_scopes.specs.declared.types.Ty.TheVariants as ty
use Rattle.cc_scopes.specs.Scope.{Context}
use Rattle.cc_scopes.specs.Types.{is_int}
use Rattle.cc_scopes.specs.Typed.{int, pointer_to, object_pointer}
use Rattle.cc_operators.specs.Folding.{negated_value, computed}
use Rattle.cc_operators.specs.Operators.{unary_term, operated_by, operated, negated, at_target, led_by, led, dereferenced}
use Rattle.cc_operators.specs.Operators.{address_rule, address_of, address_unless, object_address, value_address, address, unary}
use Rattle.cc_operators.specs.Operators.{arithmetic, joined_term, joined_operands, joined_values, joined_constant, joined_numbers, joined_as, joined}
use Rattle.law_sharing.proofs.Leaves.{Leaves, bind, next, done, either_leaves}
use Rattle.law_sharing.proofs.ScopeLaws.{broken_leaves, share_address_leaves, decay_leaves}
use Rattle.cc_operators.specs.Operators.{takes}

module _ (cx : Context) where
  -- ---- - and !

  operated_by_leaves : (o : Op) → (v : Option Operand) → Leaves cx.line (operated_by cx o v)
  operated_by_leaves o None = done typed.Spoiled
  operated_by_leaves o (Some v) = either_leaves (is_int v.ty) _ _
      (done (typed.Value (int (unary_term o v.term)))) (broken_leaves cx _)

  operated_leaves : (o : Op) → (t : Typed) → Leaves cx.line (operated cx o t)
  unfolding operated
  operated_leaves o t = bind (decay_leaves cx t) (λ v. (operated_by_leaves o v))

  negated_leaves : (t : Typed) → Leaves cx.line (negated cx t)
  negated_leaves (typed.Constant term value) =
      done (typed.Constant (unary_term op.Neg term) (negated_value value))
  negated_leaves typed.Broken = operated_leaves op.Neg typed.Broken
  negated_leaves typed.Spoiled = operated_leaves op.Neg typed.Spoiled
  negated_leaves (typed.Value v) = operated_leaves op.Neg (typed.Value v)
  negated_leaves (typed.This class remote) = operated_leaves op.Neg (typed.This class remote)
  negated_leaves (typed.Place p) = operated_leaves op.Neg (typed.Place p)
  negated_leaves (typed.Array p m) = operated_leaves op.Neg (typed.Array p m)
  negated_leaves (typed.Object o) = operated_leaves op.Neg (typed.Object o)

  -- ---- what a pointer leads to

  led_by_leaves : (t : Ty) (x : Expression) → Leaves cx.line (led_by t cx x)
  led_by_leaves (ty.Pointer to remote) x = done (at_target to remote x)
  led_by_leaves ty.Int x = broken_leaves cx _
  led_by_leaves ty.Null x = broken_leaves cx _
  led_by_leaves ty.Void x = broken_leaves cx _
  led_by_leaves ty.Unknown x = broken_leaves cx _

  led_leaves : (v : Option Operand) → Leaves cx.line (led cx v)
  led_leaves None = done typed.Spoiled
  led_leaves (Some v) = led_by_leaves v.ty v.term

  dereferenced_leaves : (t : Typed) → Leaves cx.line (dereferenced cx t)
  unfolding dereferenced
  dereferenced_leaves t = bind (decay_leaves cx t) (λ v. (led_leaves v))

  -- ---- &

  address_of_leaves : (p : Place) → Leaves cx.line (address_of cx p)
  unfolding address_of
  address_of_leaves p = next (share_address_leaves cx p.sync) (done (typed.Value (pointer_to p)))

  address_unless_leaves : (r : Option StaticRule) (p : Place) → Leaves cx.line (address_unless r cx p)
  address_unless_leaves (Some rule) p = broken_leaves cx rule
  address_unless_leaves None p = address_of_leaves p

  object_address_leaves : (b : Bool) (o : Object) → Leaves cx.line (object_address b cx o)
  object_address_leaves true o = done (typed.Value (object_pointer o))
  object_address_leaves false o = broken_leaves cx _

  value_address_leaves : (t : Ty) → Leaves cx.line (value_address t cx)
  value_address_leaves ty.Void = broken_leaves cx _
  value_address_leaves ty.Int = broken_leaves cx _
  value_address_leaves ty.Null = broken_leaves cx _
  value_address_leaves (ty.Pointer to remote) = broken_leaves cx _
  value_address_leaves ty.Unknown = broken_leaves cx _

  address_leaves : (t : Typed) → Leaves cx.line (address cx t)
  address_leaves typed.Broken = done typed.Spoiled
  address_leaves typed.Spoiled = done typed.Spoiled
  address_leaves (typed.Value v) = value_address_leaves v.ty
  address_leaves (typed.This class remote) = broken_leaves cx _
  address_leaves (typed.Constant term value) = broken_leaves cx _
  address_leaves (typed.Place p) = address_unless_leaves (address_rule p.ty p.root p.is_element) p
  address_leaves (typed.Array p m) = broken_leaves cx _
  address_leaves (typed.Object o) = object_address_leaves o.is_variable o

  pub unary_leaves : (o : UnaryOp) (t : Typed) → Leaves cx.line (unary cx o t)
  unary_leaves prefix.Neg t = negated_leaves t
  unary_leaves prefix.Not t = operated_leaves op.Not t
  unary_leaves prefix.Deref t = dereferenced_leaves t
  unary_leaves prefix.Address t = address_leaves t

  -- ---- operators between two operands

  joined_operands_leaves : (o : BinaryOp) (a b : Option Operand)
      → Leaves cx.line (joined_operands cx o a b)
  joined_operands_leaves o None b = done typed.Spoiled
  joined_operands_leaves o (Some a) None = done typed.Spoiled
  joined_operands_leaves o (Some a) (Some b) = either_leaves (takes o a.ty b.ty) _ _
      (done (typed.Value (int (joined_term o a.term b.term)))) (broken_leaves cx _)

  joined_values_leaves : (o : BinaryOp) (a b : Typed) → Leaves cx.line (joined_values cx o a b)
  unfolding joined_values
  joined_values_leaves o a b = bind (decay_leaves cx a) (λ v.
      bind (decay_leaves cx b) (λ w. (joined_operands_leaves o v w)))

  joined_constant_leaves : (o : BinaryOp) (sum : Op) (a : Expression) (z : Option ℤ) (b : Typed)
      → Leaves cx.line (joined_constant cx o sum a z b)
  joined_constant_leaves o sum a z (typed.Constant b w) =
      done (typed.Constant (joined_term o a b) (computed sum z w))
  joined_constant_leaves o sum a z typed.Broken = joined_values_leaves o (typed.Constant a z) typed.Broken
  joined_constant_leaves o sum a z typed.Spoiled = joined_values_leaves o (typed.Constant a z) typed.Spoiled
  joined_constant_leaves o sum a z (typed.Value v) = joined_values_leaves o (typed.Constant a z) (typed.Value v)
  joined_constant_leaves o sum a z (typed.This class remote) = joined_values_leaves o (typed.Constant a z) (typed.This class remote)
  joined_constant_leaves o sum a z (typed.Place p) = joined_values_leaves o (typed.Constant a z) (typed.Place p)
  joined_constant_leaves o sum a z (typed.Array p m) = joined_values_leaves o (typed.Constant a z) (typed.Array p m)
  joined_constant_leaves o sum a z (typed.Object b) = joined_values_leaves o (typed.Constant a z) (typed.Object b)

  joined_numbers_leaves : (o : BinaryOp) (sum : Op) (a b : Typed) → Leaves cx.line (joined_numbers cx o sum a b)
  joined_numbers_leaves o sum (typed.Constant a z) b = joined_constant_leaves o sum a z b
  joined_numbers_leaves o sum typed.Broken b = joined_values_leaves o typed.Broken b
  joined_numbers_leaves o sum typed.Spoiled b = joined_values_leaves o typed.Spoiled b
  joined_numbers_leaves o sum (typed.Value v) b = joined_values_leaves o (typed.Value v) b
  joined_numbers_leaves o sum (typed.This class remote) b = joined_values_leaves o (typed.This class remote) b
  joined_numbers_leaves o sum (typed.Place p) b = joined_values_leaves o (typed.Place p) b
  joined_numbers_leaves o sum (typed.Array p m) b = joined_values_leaves o (typed.Array p m) b
  joined_numbers_leaves o sum (typed.Object a) b = joined_values_leaves o (typed.Object a) b

  joined_as_leaves : (sum : Option Op) (o : BinaryOp) (a b : Typed) → Leaves cx.line (joined_as sum cx o a b)
  joined_as_leaves None o a b = joined_values_leaves o a b
  joined_as_leaves (Some sum) o a b = joined_numbers_leaves o sum a b

  pub joined_leaves : (o : BinaryOp) (a b : Typed) → Leaves cx.line (joined cx o a b)
  unfolding joined
  joined_leaves o a b = joined_as_leaves (arithmetic o) o a b
