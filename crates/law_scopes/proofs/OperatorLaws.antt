-- Operators, and the addresses of places.
use Rattle.std.proofs.Common.{ℕ, ℤ, Bool, true, false, cond, Option, Some, None}
use Rattle.cc_core.specs.declared.expression.Expression.{Expression}
use Rattle.cc_names.specs.declared.rule.StaticRule.{StaticRule}
use Rattle.cc_ops.specs.declared.operator.Op.{Op}
use Rattle.cc_ops.specs.declared.operator.Op.TheVariants as op
use Rattle.cc_tree.specs.declared.expressions.BinaryOp.{BinaryOp}
use Rattle.cc_tree.specs.declared.expressions.BinaryOp.TheVariants as binary
use Rattle.cc_tree.specs.declared.expressions.UnaryOp.{UnaryOp}
use Rattle.cc_tree.specs.declared.expressions.UnaryOp.TheVariants as prefix
use Rattle.cc_scopes.specs.declared.typed.Object.{Object}
use Rattle.cc_scopes.specs.declared.typed.Operand.{Operand}
use Rattle.cc_scopes.specs.declared.typed.Place.{Place}
use Rattle.cc_scopes.specs.declared.typed.Typed.{Typed}
use Rattle.cc_scopes.specs.declared.typed.Typed.TheVariants as typed
use Rattle.cc_scopes.specs.declared.types.Target.{Target}
use Rattle.cc_scopes.specs.declared.types.Target.TheVariants as target
use Rattle.cc_scopes.specs.declared.types.Ty.{Ty}
use Rattle.cc_scopes.specs.declared.types.Ty.TheVariants as ty
use Rattle.cc_scopes.specs.Elab.{Elab}
use Rattle.cc_scopes.specs.Scope.{Context}
use Rattle.cc_scopes.specs.Types.{is_int}
use Rattle.cc_scopes.specs.Typed.{int, pointer_to, object_pointer}
use Rattle.cc_operators.specs.Folding.{negated_value, computed}
use Rattle.cc_operators.specs.Operators as operators
use Rattle.cc_operators.specs.Operators.{unary_term, operated_by, operated, negated, int_at, object_at, at_target, led_by, led, dereferenced}
use Rattle.cc_operators.specs.Operators.{address_rule, address_of, address_unless, place_address, object_address, value_address, address, unary}
use Rattle.cc_operators.specs.Operators.{arithmetic, joined_term, joined_operands, joined_values, joined_constant, joined_numbers, joined_as, joined}
use Rattle.law_scopes.proofs.Runs.{IfThere, given, bind, next, done}
use Rattle.law_scopes.proofs.TermLaws.{unary_fits, binary_fits, and_fits, or_fits}
use Rattle.cc_scopes.specs.declared.state.State.{State}
use Rattle.law_scopes.specs.Variables.{Names, TypedNames}
use Rattle.law_scopes.proofs.Reading.{Reads, OperandFits}
use Rattle.law_scopes.proofs.ScopeLaws.{broken_runs, decay_runs, share_address_runs}

module _ (V : ℕ → Type 0) (from : State) (cx : Context) where
  if_runs : {P : Type 0} (b : Bool) (p q : Elab Typed) → Reads from P p (TypedNames V) → Reads from P q (TypedNames V) → Reads from P (cond b p q) (TypedNames V)
  if_runs true p q x y = x
  if_runs false p q x y = y

  -- ---- - and !

  operated_by_runs : (o : Op) → (v : Option Operand) → Reads from (IfThere (OperandFits V from) v) (operated_by cx o v) (TypedNames V)
  operated_by_runs o None = done typed.Spoiled (λ x. tt)
  operated_by_runs o (Some v) = if_runs (is_int v.ty) _ _
      (done (typed.Value (int (unary_term o v.term))) (λ x. unary_fits V o v.term x)) (broken_runs V from cx _)

  operated_runs : (o : Op) → (t : Typed) → Reads from (TypedNames V t) (operated cx o t) (TypedNames V)
  unfolding operated
  operated_runs o t = bind (decay_runs V from cx t) (λ v. given (λ x. x.1) (operated_by_runs o v))

  negated_runs : (t : Typed) → Reads from (TypedNames V t) (negated cx t) (TypedNames V)
  negated_runs (typed.Constant term value) =
      done (typed.Constant (unary_term op.Neg term) (negated_value value)) (λ x. unary_fits V op.Neg term x)
  negated_runs typed.Broken = operated_runs op.Neg typed.Broken
  negated_runs typed.Spoiled = operated_runs op.Neg typed.Spoiled
  negated_runs (typed.Value v) = operated_runs op.Neg (typed.Value v)
  negated_runs (typed.This class remote) = operated_runs op.Neg (typed.This class remote)
  negated_runs (typed.Place p) = operated_runs op.Neg (typed.Place p)
  negated_runs (typed.Array p m) = operated_runs op.Neg (typed.Array p m)
  negated_runs (typed.Object o) = operated_runs op.Neg (typed.Object o)

  -- ---- what a pointer leads to

  at_target_fits : (t : Target) (remote : Bool) (x : Expression) → Names V x → TypedNames V (at_target t remote x)
  at_target_fits target.Int remote x p = p
  at_target_fits target.SyncInt remote x p = p
  at_target_fits (target.Class class) remote x p = p

  led_by_runs : (t : Ty) (x : Expression) → Reads from (Names V x) (led_by t cx x) (TypedNames V)
  led_by_runs (ty.Pointer to remote) x = done (at_target to remote x) (λ p. at_target_fits to remote x p)
  led_by_runs ty.Int x = broken_runs V from cx _
  led_by_runs ty.Null x = broken_runs V from cx _
  led_by_runs ty.Void x = broken_runs V from cx _
  led_by_runs ty.Unknown x = broken_runs V from cx _

  led_runs : (v : Option Operand) → Reads from (IfThere (OperandFits V from) v) (led cx v) (TypedNames V)
  led_runs None = done typed.Spoiled (λ x. tt)
  led_runs (Some v) = led_by_runs v.ty v.term

  dereferenced_runs : (t : Typed) → Reads from (TypedNames V t) (dereferenced cx t) (TypedNames V)
  unfolding dereferenced
  dereferenced_runs t = bind (decay_runs V from cx t) (λ v. given (λ x. x.1) (led_runs v))

  -- ---- &

  address_of_runs : (p : Place) → Reads from (Names V p.address) (address_of cx p) (TypedNames V)
  unfolding address_of
  address_of_runs p = next (share_address_runs V from cx p.sync) (done (typed.Value (pointer_to p)) (λ x. x))

  address_unless_runs : (r : Option StaticRule) (p : Place) → Reads from (Names V p.address) (address_unless r cx p) (TypedNames V)
  address_unless_runs (Some rule) p = broken_runs V from cx rule
  address_unless_runs None p = address_of_runs p

  object_address_runs : (b : Bool) (o : Object) → Reads from (Names V o.address) (object_address b cx o) (TypedNames V)
  object_address_runs true o = done (typed.Value (object_pointer o)) (λ x. x)
  object_address_runs false o = broken_runs V from cx _

  value_address_runs : (t : Ty) {P : Type 0} → Reads from P (value_address t cx) (TypedNames V)
  value_address_runs ty.Void = broken_runs V from cx _
  value_address_runs ty.Int = broken_runs V from cx _
  value_address_runs ty.Null = broken_runs V from cx _
  value_address_runs (ty.Pointer to remote) = broken_runs V from cx _
  value_address_runs ty.Unknown = broken_runs V from cx _

  address_runs : (t : Typed) → Reads from (TypedNames V t) (address cx t) (TypedNames V)
  address_runs typed.Broken = done typed.Spoiled (λ x. tt)
  address_runs typed.Spoiled = done typed.Spoiled (λ x. tt)
  address_runs (typed.Value v) = value_address_runs v.ty
  address_runs (typed.This class remote) = broken_runs V from cx _
  address_runs (typed.Constant term value) = broken_runs V from cx _
  address_runs (typed.Place p) = address_unless_runs (address_rule p.ty p.root p.is_element) p
  address_runs (typed.Array p m) = broken_runs V from cx _
  address_runs (typed.Object o) = object_address_runs o.is_variable o

  pub unary_runs : (o : UnaryOp) (t : Typed) → Reads from (TypedNames V t) (unary cx o t) (TypedNames V)
  unary_runs prefix.Neg t = negated_runs t
  unary_runs prefix.Not t = operated_runs op.Not t
  unary_runs prefix.Deref t = dereferenced_runs t
  unary_runs prefix.Address t = address_runs t

  -- ---- operators between two operands

  joined_term_fits : (o : BinaryOp) (a b : Expression) → Names V a → Names V b → Names V (joined_term o a b)
  joined_term_fits binary.Or a b p q = or_fits V a b p q
  joined_term_fits binary.And a b p q = and_fits V a b p q
  joined_term_fits binary.Eq a b p q = binary_fits V op.Eq a b p q
  joined_term_fits binary.Ne a b p q = binary_fits V op.Ne a b p q
  joined_term_fits binary.Lt a b p q = binary_fits V op.Lt a b p q
  joined_term_fits binary.Le a b p q = binary_fits V op.Le a b p q
  joined_term_fits binary.Gt a b p q = binary_fits V op.Gt a b p q
  joined_term_fits binary.Ge a b p q = binary_fits V op.Ge a b p q
  joined_term_fits binary.Add a b p q = binary_fits V op.Add a b p q
  joined_term_fits binary.Sub a b p q = binary_fits V op.Sub a b p q
  joined_term_fits binary.Mul a b p q = binary_fits V op.Mul a b p q
  joined_term_fits binary.Div a b p q = binary_fits V op.Div a b p q
  joined_term_fits binary.Rem a b p q = binary_fits V op.Rem a b p q

  joined_operands_runs : (o : BinaryOp) (a b : Option Operand)
      → Reads from (IfThere (OperandFits V from) a × IfThere (OperandFits V from) b) (joined_operands cx o a b) (TypedNames V)
  joined_operands_runs o None b = done typed.Spoiled (λ x. tt)
  joined_operands_runs o (Some a) None = done typed.Spoiled (λ x. tt)
  joined_operands_runs o (Some a) (Some b) = if_runs (operators.takes o a.ty b.ty) _ _
      (done (typed.Value (int (joined_term o a.term b.term))) (λ x. joined_term_fits o a.term b.term x.0 x.1)) (broken_runs V from cx _)

  joined_values_runs : (o : BinaryOp) (a b : Typed) → Reads from (TypedNames V a × TypedNames V b) (joined_values cx o a b) (TypedNames V)
  unfolding joined_values
  joined_values_runs o a b = bind (given (λ x. x.0) (decay_runs V from cx a)) (λ v.
      bind (given (λ x. x.0.1) (decay_runs V from cx b)) (λ w. given (λ x. (x.0.1, x.1)) (joined_operands_runs o v w)))

  joined_constant_runs : (o : BinaryOp) (sum : Op) (a : Expression) (z : Option ℤ) (b : Typed)
      → Reads from (Names V a × TypedNames V b) (joined_constant cx o sum a z b) (TypedNames V)
  joined_constant_runs o sum a z (typed.Constant b w) =
      done (typed.Constant (joined_term o a b) (computed sum z w)) (λ x. joined_term_fits o a b x.0 x.1)
  joined_constant_runs o sum a z typed.Broken = joined_values_runs o (typed.Constant a z) typed.Broken
  joined_constant_runs o sum a z typed.Spoiled = joined_values_runs o (typed.Constant a z) typed.Spoiled
  joined_constant_runs o sum a z (typed.Value v) = joined_values_runs o (typed.Constant a z) (typed.Value v)
  joined_constant_runs o sum a z (typed.This class remote) = joined_values_runs o (typed.Constant a z) (typed.This class remote)
  joined_constant_runs o sum a z (typed.Place p) = joined_values_runs o (typed.Constant a z) (typed.Place p)
  joined_constant_runs o sum a z (typed.Array p m) = joined_values_runs o (typed.Constant a z) (typed.Array p m)
  joined_constant_runs o sum a z (typed.Object b) = joined_values_runs o (typed.Constant a z) (typed.Object b)

  joined_numbers_runs : (o : BinaryOp) (sum : Op) (a b : Typed) → Reads from (TypedNames V a × TypedNames V b) (joined_numbers cx o sum a b) (TypedNames V)
  joined_numbers_runs o sum (typed.Constant a z) b = joined_constant_runs o sum a z b
  joined_numbers_runs o sum typed.Broken b = joined_values_runs o typed.Broken b
  joined_numbers_runs o sum typed.Spoiled b = joined_values_runs o typed.Spoiled b
  joined_numbers_runs o sum (typed.Value v) b = joined_values_runs o (typed.Value v) b
  joined_numbers_runs o sum (typed.This class remote) b = joined_values_runs o (typed.This class remote) b
  joined_numbers_runs o sum (typed.Place p) b = joined_values_runs o (typed.Place p) b
  joined_numbers_runs o sum (typed.Array p m) b = joined_values_runs o (typed.Array p m) b
  joined_numbers_runs o sum (typed.Object a) b = joined_values_runs o (typed.Object a) b

  joined_as_runs : (sum : Option Op) (o : BinaryOp) (a b : Typed) → Reads from (TypedNames V a × TypedNames V b) (joined_as sum cx o a b) (TypedNames V)
  joined_as_runs None o a b = joined_values_runs o a b
  joined_as_runs (Some sum) o a b = joined_numbers_runs o sum a b

  pub joined_runs : (o : BinaryOp) (a b : Typed) → Reads from (TypedNames V a × TypedNames V b) (joined cx o a b) (TypedNames V)
  unfolding joined
  joined_runs o a b = joined_as_runs (arithmetic o) o a b
