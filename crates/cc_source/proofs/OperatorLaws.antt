-- Operators, and the addresses of places.
use Rattle.std.proofs.Common.{◌≡◌, ℤ, Bool, true, false, cond, Option, Some, None, refl}
use Rattle.cc_core.specs.declared.expression.Expression.{Expression}
use Rattle.cc_core.specs.Core.{Shapes}
use Rattle.cc_names.specs.declared.rule.StaticRule.{StaticRule}
use Rattle.cc_ops.specs.Operators.{takes}
use Rattle.cc_ops.specs.declared.operator.Op.{Op}
use Rattle.cc_ops.specs.declared.operator.Op.TheVariants as op
use Rattle.cc_tree.specs.declared.expressions.BinaryOp.{BinaryOp}
use Rattle.cc_tree.specs.declared.expressions.BinaryOp.TheVariants as binary
use Rattle.cc_tree.specs.declared.expressions.UnaryOp.{UnaryOp}
use Rattle.cc_tree.specs.declared.expressions.UnaryOp.TheVariants as prefix
use Rattle.cc_scopes.specs.declared.state.State.{State}
use Rattle.cc_scopes.specs.declared.typed.Object.{Object}
use Rattle.cc_scopes.specs.declared.typed.Operand.{Operand}
use Rattle.cc_scopes.specs.declared.typed.Place.{Place}
use Rattle.cc_scopes.specs.declared.typed.Typed.{Typed}
use Rattle.cc_scopes.specs.declared.typed.Typed.TheVariants as typed
use Rattle.cc_scopes.specs.declared.types.Target.{Target}
use Rattle.cc_scopes.specs.declared.types.Target.TheVariants as target
use Rattle.cc_scopes.specs.declared.types.Ty.{Ty}
use Rattle.cc_scopes.specs.declared.types.Ty.TheVariants as ty
use Rattle.cc_scopes.specs.Elab.{Elab}
use Rattle.cc_scopes.specs.Scope.{Context}
use Rattle.cc_scopes.specs.Types.{is_int}
use Rattle.cc_scopes.specs.Typed.{int, pointer_to, object_pointer}
use Rattle.cc_operators.specs.Folding.{negated_value, computed}
use Rattle.cc_operators.specs.Operators as operators
use Rattle.cc_operators.specs.Operators.{unary_term, operated_by, operated, negated, int_at, object_at, at_target, led_by, led, dereferenced}
use Rattle.cc_operators.specs.Operators.{address_rule, address_of, address_unless, place_address, object_address, value_address, address, unary}
use Rattle.cc_operators.specs.Operators.{arithmetic, joined_term, joined_operands, joined_values, joined_constant, joined_numbers, joined_as, joined}
use Rattle.cc_source.proofs.Runs.{IfThere, given, bind, next, done}
use Rattle.cc_source.proofs.FitLaws.{unary_fits, binary_fits, and_fits, or_fits}
use Rattle.cc_source.proofs.Fits.{ExpressionFits}
use Rattle.cc_source.proofs.Sound.{Reads, OperandFits, TypedFits}
use Rattle.cc_source.proofs.ScopeLaws.{broken_runs, decay_runs, share_address_runs}

module _ (h : Shapes) (last : State) (cx : Context) where
  if_runs : {P : Type 0} (b : Bool) (p q : Elab Typed) → Reads h last cx P p (TypedFits h last) → Reads h last cx P q (TypedFits h last)
      → Reads h last cx P (cond b p q) (TypedFits h last)
  if_runs true p q x y = x
  if_runs false p q x y = y

  -- ---- - and !

  operated_by_runs : (o : Op) → takes o ≡ 1 → (v : Option Operand)
      → Reads h last cx (IfThere (OperandFits h last) v) (operated_by cx o v) (TypedFits h last)
  operated_by_runs o one None = done typed.Spoiled (λ x. tt)
  operated_by_runs o one (Some v) = if_runs (is_int v.ty) _ _
      (done (typed.Value (int (unary_term o v.term))) (λ x. unary_fits h last o v.term one x)) (broken_runs h last cx _)

  operated_runs : (o : Op) → takes o ≡ 1 → (t : Typed) → Reads h last cx (TypedFits h last t) (operated cx o t) (TypedFits h last)
  unfolding operated
  operated_runs o one t = bind (decay_runs h last cx t) (λ v. given (λ x. x.1) (operated_by_runs o one v))

  negated_runs : (t : Typed) → Reads h last cx (TypedFits h last t) (negated cx t) (TypedFits h last)
  negated_runs (typed.Constant term value) =
      done (typed.Constant (unary_term op.Neg term) (negated_value value)) (λ x. unary_fits h last op.Neg term refl x)
  negated_runs typed.Broken = operated_runs op.Neg refl typed.Broken
  negated_runs typed.Spoiled = operated_runs op.Neg refl typed.Spoiled
  negated_runs (typed.Value v) = operated_runs op.Neg refl (typed.Value v)
  negated_runs (typed.This class remote) = operated_runs op.Neg refl (typed.This class remote)
  negated_runs (typed.Place p) = operated_runs op.Neg refl (typed.Place p)
  negated_runs (typed.Array p m) = operated_runs op.Neg refl (typed.Array p m)
  negated_runs (typed.Object o) = operated_runs op.Neg refl (typed.Object o)

  -- ---- what a pointer leads to

  at_target_fits : (t : Target) (remote : Bool) (x : Expression) → ExpressionFits h last x → TypedFits h last (at_target t remote x)
  at_target_fits target.Int remote x p = p
  at_target_fits target.SyncInt remote x p = p
  at_target_fits (target.Class class) remote x p = p

  led_by_runs : (t : Ty) (x : Expression) → Reads h last cx (ExpressionFits h last x) (led_by t cx x) (TypedFits h last)
  led_by_runs (ty.Pointer to remote) x = done (at_target to remote x) (λ p. at_target_fits to remote x p)
  led_by_runs ty.Int x = broken_runs h last cx _
  led_by_runs ty.Null x = broken_runs h last cx _
  led_by_runs ty.Void x = broken_runs h last cx _
  led_by_runs ty.Unknown x = broken_runs h last cx _

  led_runs : (v : Option Operand) → Reads h last cx (IfThere (OperandFits h last) v) (led cx v) (TypedFits h last)
  led_runs None = done typed.Spoiled (λ x. tt)
  led_runs (Some v) = led_by_runs v.ty v.term

  dereferenced_runs : (t : Typed) → Reads h last cx (TypedFits h last t) (dereferenced cx t) (TypedFits h last)
  unfolding dereferenced
  dereferenced_runs t = bind (decay_runs h last cx t) (λ v. given (λ x. x.1) (led_runs v))

  -- ---- &

  address_of_runs : (p : Place) → Reads h last cx (ExpressionFits h last p.address) (address_of cx p) (TypedFits h last)
  unfolding address_of
  address_of_runs p = next (share_address_runs h last cx p.sync) (done (typed.Value (pointer_to p)) (λ x. x))

  address_unless_runs : (r : Option StaticRule) (p : Place)
      → Reads h last cx (ExpressionFits h last p.address) (address_unless r cx p) (TypedFits h last)
  address_unless_runs (Some rule) p = broken_runs h last cx rule
  address_unless_runs None p = address_of_runs p

  object_address_runs : (b : Bool) (o : Object) → Reads h last cx (ExpressionFits h last o.address) (object_address b cx o) (TypedFits h last)
  object_address_runs true o = done (typed.Value (object_pointer o)) (λ x. x)
  object_address_runs false o = broken_runs h last cx _

  value_address_runs : (t : Ty) {P : Type 0} → Reads h last cx P (value_address t cx) (TypedFits h last)
  value_address_runs ty.Void = broken_runs h last cx _
  value_address_runs ty.Int = broken_runs h last cx _
  value_address_runs ty.Null = broken_runs h last cx _
  value_address_runs (ty.Pointer to remote) = broken_runs h last cx _
  value_address_runs ty.Unknown = broken_runs h last cx _

  address_runs : (t : Typed) → Reads h last cx (TypedFits h last t) (address cx t) (TypedFits h last)
  address_runs typed.Broken = done typed.Spoiled (λ x. tt)
  address_runs typed.Spoiled = done typed.Spoiled (λ x. tt)
  address_runs (typed.Value v) = value_address_runs v.ty
  address_runs (typed.This class remote) = broken_runs h last cx _
  address_runs (typed.Constant term value) = broken_runs h last cx _
  address_runs (typed.Place p) = address_unless_runs (address_rule p.ty p.root p.is_element) p
  address_runs (typed.Array p m) = broken_runs h last cx _
  address_runs (typed.Object o) = object_address_runs o.is_variable o

  pub unary_runs : (o : UnaryOp) (t : Typed) → Reads h last cx (TypedFits h last t) (unary cx o t) (TypedFits h last)
  unary_runs prefix.Neg t = negated_runs t
  unary_runs prefix.Not t = operated_runs op.Not refl t
  unary_runs prefix.Deref t = dereferenced_runs t
  unary_runs prefix.Address t = address_runs t

  -- ---- operators between two operands

  joined_term_fits : (o : BinaryOp) (a b : Expression) → ExpressionFits h last a → ExpressionFits h last b → ExpressionFits h last (joined_term o a b)
  joined_term_fits binary.Or a b p q = or_fits h last a b p q
  joined_term_fits binary.And a b p q = and_fits h last a b p q
  joined_term_fits binary.Eq a b p q = binary_fits h last op.Eq a b refl p q
  joined_term_fits binary.Ne a b p q = binary_fits h last op.Ne a b refl p q
  joined_term_fits binary.Lt a b p q = binary_fits h last op.Lt a b refl p q
  joined_term_fits binary.Le a b p q = binary_fits h last op.Le a b refl p q
  joined_term_fits binary.Gt a b p q = binary_fits h last op.Gt a b refl p q
  joined_term_fits binary.Ge a b p q = binary_fits h last op.Ge a b refl p q
  joined_term_fits binary.Add a b p q = binary_fits h last op.Add a b refl p q
  joined_term_fits binary.Sub a b p q = binary_fits h last op.Sub a b refl p q
  joined_term_fits binary.Mul a b p q = binary_fits h last op.Mul a b refl p q
  joined_term_fits binary.Div a b p q = binary_fits h last op.Div a b refl p q
  joined_term_fits binary.Rem a b p q = binary_fits h last op.Rem a b refl p q

  joined_operands_runs : (o : BinaryOp) (a b : Option Operand)
      → Reads h last cx (IfThere (OperandFits h last) a × IfThere (OperandFits h last) b) (joined_operands cx o a b) (TypedFits h last)
  joined_operands_runs o None b = done typed.Spoiled (λ x. tt)
  joined_operands_runs o (Some a) None = done typed.Spoiled (λ x. tt)
  joined_operands_runs o (Some a) (Some b) = if_runs (operators.takes o a.ty b.ty) _ _
      (done (typed.Value (int (joined_term o a.term b.term))) (λ x. joined_term_fits o a.term b.term x.0 x.1)) (broken_runs h last cx _)

  joined_values_runs : (o : BinaryOp) (a b : Typed)
      → Reads h last cx (TypedFits h last a × TypedFits h last b) (joined_values cx o a b) (TypedFits h last)
  unfolding joined_values
  joined_values_runs o a b = bind (given (λ x. x.0) (decay_runs h last cx a)) (λ v.
      bind (given (λ x. x.0.1) (decay_runs h last cx b)) (λ w. given (λ x. (x.0.1, x.1)) (joined_operands_runs o v w)))

  joined_constant_runs : (o : BinaryOp) (sum : Op) (a : Expression) (z : Option ℤ) (b : Typed)
      → Reads h last cx (ExpressionFits h last a × TypedFits h last b) (joined_constant cx o sum a z b) (TypedFits h last)
  joined_constant_runs o sum a z (typed.Constant b w) =
      done (typed.Constant (joined_term o a b) (computed sum z w)) (λ x. joined_term_fits o a b x.0 x.1)
  joined_constant_runs o sum a z typed.Broken = joined_values_runs o (typed.Constant a z) typed.Broken
  joined_constant_runs o sum a z typed.Spoiled = joined_values_runs o (typed.Constant a z) typed.Spoiled
  joined_constant_runs o sum a z (typed.Value v) = joined_values_runs o (typed.Constant a z) (typed.Value v)
  joined_constant_runs o sum a z (typed.This class remote) = joined_values_runs o (typed.Constant a z) (typed.This class remote)
  joined_constant_runs o sum a z (typed.Place p) = joined_values_runs o (typed.Constant a z) (typed.Place p)
  joined_constant_runs o sum a z (typed.Array p m) = joined_values_runs o (typed.Constant a z) (typed.Array p m)
  joined_constant_runs o sum a z (typed.Object b) = joined_values_runs o (typed.Constant a z) (typed.Object b)

  joined_numbers_runs : (o : BinaryOp) (sum : Op) (a b : Typed)
      → Reads h last cx (TypedFits h last a × TypedFits h last b) (joined_numbers cx o sum a b) (TypedFits h last)
  joined_numbers_runs o sum (typed.Constant a z) b = joined_constant_runs o sum a z b
  joined_numbers_runs o sum typed.Broken b = joined_values_runs o typed.Broken b
  joined_numbers_runs o sum typed.Spoiled b = joined_values_runs o typed.Spoiled b
  joined_numbers_runs o sum (typed.Value v) b = joined_values_runs o (typed.Value v) b
  joined_numbers_runs o sum (typed.This class remote) b = joined_values_runs o (typed.This class remote) b
  joined_numbers_runs o sum (typed.Place p) b = joined_values_runs o (typed.Place p) b
  joined_numbers_runs o sum (typed.Array p m) b = joined_values_runs o (typed.Array p m) b
  joined_numbers_runs o sum (typed.Object a) b = joined_values_runs o (typed.Object a) b

  joined_as_runs : (sum : Option Op) (o : BinaryOp) (a b : Typed)
      → Reads h last cx (TypedFits h last a × TypedFits h last b) (joined_as sum cx o a b) (TypedFits h last)
  joined_as_runs None o a b = joined_values_runs o a b
  joined_as_runs (Some sum) o a b = joined_numbers_runs o sum a b

  pub joined_runs : (o : BinaryOp) (a b : Typed) → Reads h last cx (TypedFits h last a × TypedFits h last b) (joined cx o a b) (TypedFits h last)
  unfolding joined
  joined_runs o a b = joined_as_runs (arithmetic o) o a b
