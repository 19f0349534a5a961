-- Operators, and the addresses of places.
use Rattle.std.proofs.Common.{◌≡◌, ◌≢◌, ℕ, ℤ, Bool, true, false, cond, List, Option, Some, None, refl, sym, ap, subst, ◌∙◌}
use Rattle.std.specs.Prelude.{◌&&◌}
use Rattle.cc_core.specs.declared.expression.Expression.{Expression}
use Rattle.cc_core.specs.Types.{ValueType, NoValue, AnInt, AnAddress, Cells, FunctionTypes, Types}
use Rattle.cc_one_answer.specs.Sorts.{Valued}
use Rattle.std.proofs.lemmas.Bool.{true≢false}
use Rattle.std.proofs.lemmas.Option.{none-some}
use Rattle.cc_scopes.specs.declared.state.Local.{Local}
use Rattle.cc_scopes.specs.declared.types.Declared.{Declared}
use Rattle.cc_scopes.specs.declared.typed.Root.{Root}
use Rattle.cc_scopes.specs.declared.typed.Root.TheVariants as root
use Rattle.cc_names.specs.declared.rule.StaticRule.{StaticRule}
use Rattle.cc_ops.specs.declared.operator.Op.{Op}
use Rattle.cc_ops.specs.declared.operator.Op.TheVariants as op
use Rattle.cc_tree.specs.declared.expressions.BinaryOp.{BinaryOp}
use Rattle.cc_tree.specs.declared.expressions.BinaryOp.TheVariants as binary
use Rattle.cc_tree.specs.declared.expressions.UnaryOp.{UnaryOp}
use Rattle.cc_tree.specs.declared.expressions.UnaryOp.TheVariants as prefix
use Rattle.cc_scopes.specs.declared.typed.Object.{Object}
use Rattle.cc_scopes.specs.declared.typed.Operand.{Operand}
use Rattle.cc_scopes.specs.declared.typed.Place.{Place}
use Rattle.cc_scopes.specs.declared.typed.Typed.{Typed}
use Rattle.cc_scopes.specs.declared.typed.Typed.TheVariants as typed
use Rattle.cc_scopes.specs.declared.types.Target.{Target}
use Rattle.cc_scopes.specs.declared.types.Target.TheVariants as target
use Rattle.cc_scopes.specs.declared.types.Ty.{Ty}
use Rattle.cc_scopes.specs.declared.types.Ty.TheVariants as ty
use Rattle.cc_scopes.specs.Elab.{Elab}
use Rattle.cc_scopes.specs.Scope.{Context}
use Rattle.cc_scopes.specs.Types.{is_int, comparable}
use Rattle.cc_scopes.specs.Typed.{int, not_void_by, decay, pointer_to, object_pointer}
use Rattle.cc_operators.specs.Folding.{negated_value, computed}
use Rattle.cc_operators.specs.Operators as operators
use Rattle.cc_operators.specs.Operators.{unary_term, operated_by, operated, negated, int_at, object_at, at_target, led_by, led, dereferenced}
use Rattle.cc_operators.specs.Operators.{address_rule, address_of, address_unless, place_address, object_address, value_address, address, unary}
use Rattle.cc_operators.specs.Operators.{arithmetic, joined_term, joined_operands, joined_values, joined_constant, joined_numbers, joined_as, joined}
use Rattle.cc_shared.proofs.Runs.{IsThere, given, bind, after, done}
use Rattle.cc_shared.proofs.Forms.{unary_values, binary_values, and_values, or_values}
use Rattle.cc_shared.proofs.TypesOf.{target_type, value_type}
use Rattle.cc_shared.proofs.Det.{Reads, Sorted, Values, OperandBy, OperandFits, ObjectFits, PlaceFits, TypedFits}
use Rattle.cc_shared.proofs.ScopeLaws.{never, decay_runs, share_address_runs, sync_pointer}

pub left_true : (a b : Bool) → (a && b) ≡ true → a ≡ true
left_true true b is = refl
left_true false b is = is

pub right_true : (a b : Bool) → (a && b) ≡ true → b ≡ true
right_true true b is = is
right_true false b is = absurd (true≢false (sym is))

module _ (y : Types) (main : ℕ) (here : FunctionTypes) (F : Type 0) (grown ds : List Declared) (part : ℕ) (own : List ℕ) (ls : List Local) (cx : Context) where
  if_runs : {P : Type 0} (b : Bool) (p q : Elab Typed) → (b ≡ true → Reads F grown ds part own ls P p (TypedFits y main here part own))
      → Reads F grown ds part own ls P q (TypedFits y main here part own) → Reads F grown ds part own ls P (cond b p q) (TypedFits y main here part own)
  if_runs true p q x z = x refl
  if_runs false p q x z = z

  -- ---- values of known types

  pub int_values : (t : Ty) (x : Expression) → is_int t ≡ true → OperandBy y main here t x → Values y main here x AnInt
  int_values ty.Int x is v = v
  int_values ty.Null x is v = v AnInt
  int_values ty.Void x is v = absurd (true≢false (sym is))
  int_values (ty.Pointer to remote) x is v = absurd (true≢false (sym is))
  int_values ty.Unknown x is v = absurd (true≢false (sym is))

  abbrev HasValue : Expression → Type 0
  HasValue x = (u : ValueType) × Values y main here x u

  left_value : (a b : Ty) (x : Expression) → comparable a b ≡ true → OperandBy y main here a x → HasValue x
  left_value ty.Int b x is v = (AnInt, v)
  left_value ty.Null b x is v = (AnInt, v AnInt)
  left_value ty.Void b x is v = (NoValue, v)
  left_value (ty.Pointer to remote) b x is v = (AnAddress (target_type to), v)
  left_value ty.Unknown b x is v = absurd (true≢false (sym is))

  unknown_right : (a : Ty) → comparable a ty.Unknown ≡ false
  unknown_right ty.Int = refl
  unknown_right ty.Null = refl
  unknown_right ty.Void = refl
  unknown_right (ty.Pointer to remote) = refl
  unknown_right ty.Unknown = refl

  right_value : (a b : Ty) (x : Expression) → comparable a b ≡ true → OperandBy y main here b x → HasValue x
  right_value a ty.Int x is v = (AnInt, v)
  right_value a ty.Null x is v = (AnInt, v AnInt)
  right_value a ty.Void x is v = (NoValue, v)
  right_value a (ty.Pointer to remote) x is v = (AnAddress (target_type to), v)
  right_value a ty.Unknown x is v = absurd (true≢false (sym is ∙ unknown_right a))

  -- the values of both sides of an operator
  abbrev Both : Expression → Expression → Type 0
  Both a b = HasValue a × HasValue b

  compared : (s t : Ty) (a b : Expression) → comparable s t ≡ true → OperandBy y main here s a → OperandBy y main here t b → Both a b
  compared s t a b is v w = (left_value s t a is v, right_value s t b is w)

  counted : (s t : Ty) (a b : Expression) → (is_int s && is_int t) ≡ true → OperandBy y main here s a → OperandBy y main here t b → Both a b
  counted s t a b is v w = (
    (AnInt, int_values s a (left_true (is_int s) (is_int t) is) v),
    (AnInt, int_values t b (right_true (is_int s) (is_int t) is) w),
  )

  both_values : (o : BinaryOp) (s t : Ty) (a b : Expression) → operators.takes o s t ≡ true → OperandBy y main here s a → OperandBy y main here t b → Both a b
  both_values binary.Eq s t a b is v w = compared s t a b is v w
  both_values binary.Ne s t a b is v w = compared s t a b is v w
  both_values binary.Or s t a b is v w = counted s t a b is v w
  both_values binary.And s t a b is v w = counted s t a b is v w
  both_values binary.Lt s t a b is v w = counted s t a b is v w
  both_values binary.Le s t a b is v w = counted s t a b is v w
  both_values binary.Gt s t a b is v w = counted s t a b is v w
  both_values binary.Ge s t a b is v w = counted s t a b is v w
  both_values binary.Add s t a b is v w = counted s t a b is v w
  both_values binary.Sub s t a b is v w = counted s t a b is v w
  both_values binary.Mul s t a b is v w = counted s t a b is v w
  both_values binary.Div s t a b is v w = counted s t a b is v w
  both_values binary.Rem s t a b is v w = counted s t a b is v w

  -- ---- - and !

  operated_by_runs : (o : Op) → (v : Option Operand) → Reads F grown ds part own ls (IsThere (OperandFits y main here) v) (operated_by cx o v) (TypedFits y main here part own)
  operated_by_runs o None = done typed.Spoiled (λ x. x)
  operated_by_runs o (Some v) = if_runs (is_int v.ty) _ _
      (λ is. done (typed.Value (int (unary_term o v.term))) (λ x. unary_values y main here o v.term AnInt AnInt (int_values v.ty v.term is x))) (never F grown ds part own ls cx _ typed.Broken)

  operated_runs : (o : Op) → (t : Typed) → Reads F grown ds part own ls (TypedFits y main here part own t) (operated cx o t) (TypedFits y main here part own)
  unfolding operated
  operated_runs o t = bind (decay_runs y main here F grown ds part own ls cx t) (λ v. given (λ x. x.1) (operated_by_runs o v))

  negated_runs : (t : Typed) → Reads F grown ds part own ls (TypedFits y main here part own t) (negated cx t) (TypedFits y main here part own)
  negated_runs (typed.Constant term value) =
      done (typed.Constant (unary_term op.Neg term) (negated_value value)) (λ x. unary_values y main here op.Neg term AnInt AnInt x)
  negated_runs typed.Broken = operated_runs op.Neg typed.Broken
  negated_runs typed.Spoiled = operated_runs op.Neg typed.Spoiled
  negated_runs (typed.Value v) = operated_runs op.Neg (typed.Value v)
  negated_runs (typed.This class remote) = operated_runs op.Neg (typed.This class remote)
  negated_runs (typed.Place p) = operated_runs op.Neg (typed.Place p)
  negated_runs (typed.Array p m) = operated_runs op.Neg (typed.Array p m)
  negated_runs (typed.Object o) = operated_runs op.Neg (typed.Object o)

  -- ---- what a pointer leads to

  pointed_place : (sync remote : Bool) (x : Expression) → Values y main here x (AnAddress (Cells sync AnInt)) → PlaceFits y main here part own
      (record { address = x; ty = ty.Int; sync = sync; remote = remote; root = root.Pointer; is_element = false })
  pointed_place sync remote x v = record {
    sort = Valued (AnAddress (Cells sync AnInt));
    sorted = v;
    cell = refl;
    known = tt;
    owned = tt;
    lends = λ outside is. ap (λ b. Valued (AnAddress (Cells b AnInt))) is;
  }

  at_target_fits : (t : Target) (remote : Bool) (x : Expression) → OperandBy y main here (ty.Pointer t remote) x
      → TypedFits y main here part own (at_target t remote x)
  at_target_fits target.Int remote x v = pointed_place false remote x v
  at_target_fits target.SyncInt remote x v = pointed_place true remote x v
  at_target_fits (target.Class class) remote x v = v

  led_by_runs : (t : Ty) (x : Expression) → Reads F grown ds part own ls (OperandBy y main here t x) (led_by t cx x) (TypedFits y main here part own)
  led_by_runs (ty.Pointer to remote) x = done (at_target to remote x) (λ p. at_target_fits to remote x p)
  led_by_runs ty.Int x = never F grown ds part own ls cx _ typed.Broken
  led_by_runs ty.Null x = never F grown ds part own ls cx _ typed.Broken
  led_by_runs ty.Void x = never F grown ds part own ls cx _ typed.Broken
  led_by_runs ty.Unknown x = never F grown ds part own ls cx _ typed.Broken

  led_runs : (v : Option Operand) → Reads F grown ds part own ls (IsThere (OperandFits y main here) v) (led cx v) (TypedFits y main here part own)
  led_runs None = done typed.Spoiled (λ x. x)
  led_runs (Some v) = led_by_runs v.ty v.term

  dereferenced_runs : (t : Typed) → Reads F grown ds part own ls (TypedFits y main here part own t) (dereferenced cx t) (TypedFits y main here part own)
  unfolding dereferenced
  dereferenced_runs t = bind (decay_runs y main here F grown ds part own ls cx t) (λ v. given (λ x. x.1) (led_runs v))

  -- ---- &

  int_of_rule : (t : Ty) (r : Root) (is_element : Bool) → address_rule t r is_element ≡ None → t ≡ ty.Int
  int_of_rule ty.Int r b none = refl
  int_of_rule ty.Null r b none = absurd (none-some _ (sym none))
  int_of_rule ty.Void r b none = absurd (none-some _ (sym none))
  int_of_rule (ty.Pointer to remote) r b none = absurd (none-some _ (sym none))
  int_of_rule ty.Unknown r b none = absurd (none-some _ (sym none))

  -- what `&` is taken of is no member: of one it breaks a rule
  outside_of_rule : (t : Ty) (r : Root) (is_element : Bool) → address_rule t r is_element ≡ None → r ≢ root.Member
  outside_of_rule t r b none member =
      let int : t ≡ ty.Int = int_of_rule t r b none in
      none-some _ (sym none ∙ ap (λ u. address_rule u r b) int ∙ ap (λ q. address_rule ty.Int q b) member)

  -- a sync int that may be pointed to: a variable, or an element of one or of what a pointer leads to
  address_fits : (p : Place) → address_rule p.ty p.root p.is_element ≡ None → p.sync ≡ true → PlaceFits y main here part own p
      → OperandFits y main here (pointer_to p)
  address_fits p none is f =
      let int : value_type p.ty ≡ AnInt = ap value_type (int_of_rule p.ty p.root p.is_element none) in
      sync_pointer y main here F grown ds part own ls cx p.sync p.remote p.address is
      (subst (λ q. Sorted y main here p.address q) (f.lends (outside_of_rule p.ty p.root p.is_element none) is ∙ ap (λ u. Valued (AnAddress (Cells true u))) int) f.sorted)

  address_of_runs : (p : Place) → address_rule p.ty p.root p.is_element ≡ None
      → Reads F grown ds part own ls (PlaceFits y main here part own p) (address_of cx p) (TypedFits y main here part own)
  unfolding address_of
  address_of_runs p none = after (share_address_runs y main here F grown ds part own ls cx p.sync) (λ u x. x)
      (done (typed.Value (pointer_to p)) (λ x. address_fits p none x.1 x.0))

  address_unless_runs : (r : Option StaticRule) (p : Place) → address_rule p.ty p.root p.is_element ≡ r
      → Reads F grown ds part own ls (PlaceFits y main here part own p) (address_unless r cx p) (TypedFits y main here part own)
  address_unless_runs (Some rule) p is = never F grown ds part own ls cx rule typed.Broken
  address_unless_runs None p is = address_of_runs p is

  object_address_runs : (b : Bool) (o : Object) → Reads F grown ds part own ls (ObjectFits y main here o) (object_address b cx o) (TypedFits y main here part own)
  object_address_runs true o = done (typed.Value (object_pointer o)) (λ x. x)
  object_address_runs false o = never F grown ds part own ls cx _ typed.Broken

  value_address_runs : (t : Ty) {P : Type 0} → Reads F grown ds part own ls P (value_address t cx) (TypedFits y main here part own)
  value_address_runs ty.Void = never F grown ds part own ls cx _ typed.Broken
  value_address_runs ty.Int = never F grown ds part own ls cx _ typed.Broken
  value_address_runs ty.Null = never F grown ds part own ls cx _ typed.Broken
  value_address_runs (ty.Pointer to remote) = never F grown ds part own ls cx _ typed.Broken
  value_address_runs ty.Unknown = never F grown ds part own ls cx _ typed.Broken

  address_runs : (t : Typed) → Reads F grown ds part own ls (TypedFits y main here part own t) (address cx t) (TypedFits y main here part own)
  address_runs typed.Broken = done typed.Spoiled (λ x. x)
  address_runs typed.Spoiled = done typed.Spoiled (λ x. x)
  address_runs (typed.Value v) = value_address_runs v.ty
  address_runs (typed.This class remote) = never F grown ds part own ls cx _ typed.Broken
  address_runs (typed.Constant term value) = never F grown ds part own ls cx _ typed.Broken
  address_runs (typed.Place p) = address_unless_runs (address_rule p.ty p.root p.is_element) p refl
  address_runs (typed.Array p m) = never F grown ds part own ls cx _ typed.Broken
  address_runs (typed.Object o) = object_address_runs o.is_variable o

  pub unary_runs : (o : UnaryOp) (t : Typed) → Reads F grown ds part own ls (TypedFits y main here part own t) (unary cx o t) (TypedFits y main here part own)
  unary_runs prefix.Neg t = negated_runs t
  unary_runs prefix.Not t = operated_runs op.Not t
  unary_runs prefix.Deref t = dereferenced_runs t
  unary_runs prefix.Address t = address_runs t

  -- ---- operators between two operands

  -- what an operator gives counts as any type, since it is no pointer
  abbrev pub EachType : Typed → Type 0
  EachType typed.Broken = ⊥
  EachType typed.Spoiled = ⊥
  EachType (typed.Value v) = (v.ty ≡ ty.Int) × ((u : ValueType) → Values y main here v.term u)
  EachType (typed.This class remote) = ⊥
  EachType (typed.Constant term value) = (u : ValueType) → Values y main here term u
  EachType (typed.Place p) = ⊥
  EachType (typed.Array p n) = ⊥
  EachType (typed.Object o) = ⊥

  joined_term_values : (o : BinaryOp) (a b : Expression) → Both a b → (u : ValueType) → Values y main here (joined_term o a b) u
  joined_term_values binary.Or a b p u = or_values y main here a b p.0.0 p.1.0 u p.0.1 p.1.1
  joined_term_values binary.And a b p u = and_values y main here a b p.0.0 p.1.0 u p.0.1 p.1.1
  joined_term_values binary.Eq a b p u = binary_values y main here op.Eq a b p.0.0 p.1.0 u p.0.1 p.1.1
  joined_term_values binary.Ne a b p u = binary_values y main here op.Ne a b p.0.0 p.1.0 u p.0.1 p.1.1
  joined_term_values binary.Lt a b p u = binary_values y main here op.Lt a b p.0.0 p.1.0 u p.0.1 p.1.1
  joined_term_values binary.Le a b p u = binary_values y main here op.Le a b p.0.0 p.1.0 u p.0.1 p.1.1
  joined_term_values binary.Gt a b p u = binary_values y main here op.Gt a b p.0.0 p.1.0 u p.0.1 p.1.1
  joined_term_values binary.Ge a b p u = binary_values y main here op.Ge a b p.0.0 p.1.0 u p.0.1 p.1.1
  joined_term_values binary.Add a b p u = binary_values y main here op.Add a b p.0.0 p.1.0 u p.0.1 p.1.1
  joined_term_values binary.Sub a b p u = binary_values y main here op.Sub a b p.0.0 p.1.0 u p.0.1 p.1.1
  joined_term_values binary.Mul a b p u = binary_values y main here op.Mul a b p.0.0 p.1.0 u p.0.1 p.1.1
  joined_term_values binary.Div a b p u = binary_values y main here op.Div a b p.0.0 p.1.0 u p.0.1 p.1.1
  joined_term_values binary.Rem a b p u = binary_values y main here op.Rem a b p.0.0 p.1.0 u p.0.1 p.1.1

  each_if_runs : {P : Type 0} (b : Bool) (p q : Elab Typed) → (b ≡ true → Reads F grown ds part own ls P p EachType)
      → Reads F grown ds part own ls P q EachType → Reads F grown ds part own ls P (cond b p q) EachType
  each_if_runs true p q x z = x refl
  each_if_runs false p q x z = z

  joined_operands_runs : (o : BinaryOp) (a b : Option Operand)
      → Reads F grown ds part own ls (IsThere (OperandFits y main here) a × IsThere (OperandFits y main here) b) (joined_operands cx o a b) (EachType)
  joined_operands_runs o None b = done typed.Spoiled (λ x. x.0)
  joined_operands_runs o (Some a) None = done typed.Spoiled (λ x. x.1)
  joined_operands_runs o (Some a) (Some b) = each_if_runs (operators.takes o a.ty b.ty) _ _
      (λ is. done (typed.Value (int (joined_term o a.term b.term))) (λ x.
      (refl, joined_term_values o a.term b.term (both_values o a.ty b.ty a.term b.term is x.0 x.1))))
      (never F grown ds part own ls cx _ typed.Broken)

  joined_values_runs : (o : BinaryOp) (a b : Typed) → Reads F grown ds part own ls (TypedFits y main here part own a × TypedFits y main here part own b) (joined_values cx o a b) (EachType)
  unfolding joined_values
  joined_values_runs o a b = bind (given (λ x. x.0) (decay_runs y main here F grown ds part own ls cx a)) (λ v.
      bind (given (λ x. x.0.1) (decay_runs y main here F grown ds part own ls cx b)) (λ w. given (λ x. (x.0.1, x.1)) (joined_operands_runs o v w)))

  joined_constant_runs : (o : BinaryOp) (sum : Op) (a : Expression) (z : Option ℤ) (b : Typed)
      → Reads F grown ds part own ls (Values y main here a AnInt × TypedFits y main here part own b) (joined_constant cx o sum a z b) (EachType)
  joined_constant_runs o sum a z (typed.Constant b w) =
      done (typed.Constant (joined_term o a b) (computed sum z w)) (λ x. joined_term_values o a b ((AnInt, x.0), (AnInt, x.1)))
  joined_constant_runs o sum a z typed.Broken = joined_values_runs o (typed.Constant a z) typed.Broken
  joined_constant_runs o sum a z typed.Spoiled = joined_values_runs o (typed.Constant a z) typed.Spoiled
  joined_constant_runs o sum a z (typed.Value v) = joined_values_runs o (typed.Constant a z) (typed.Value v)
  joined_constant_runs o sum a z (typed.This class remote) = joined_values_runs o (typed.Constant a z) (typed.This class remote)
  joined_constant_runs o sum a z (typed.Place p) = joined_values_runs o (typed.Constant a z) (typed.Place p)
  joined_constant_runs o sum a z (typed.Array p m) = joined_values_runs o (typed.Constant a z) (typed.Array p m)
  joined_constant_runs o sum a z (typed.Object b) = joined_values_runs o (typed.Constant a z) (typed.Object b)

  joined_numbers_runs : (o : BinaryOp) (sum : Op) (a b : Typed) → Reads F grown ds part own ls (TypedFits y main here part own a × TypedFits y main here part own b) (joined_numbers cx o sum a b) (EachType)
  joined_numbers_runs o sum (typed.Constant a z) b = joined_constant_runs o sum a z b
  joined_numbers_runs o sum typed.Broken b = joined_values_runs o typed.Broken b
  joined_numbers_runs o sum typed.Spoiled b = joined_values_runs o typed.Spoiled b
  joined_numbers_runs o sum (typed.Value v) b = joined_values_runs o (typed.Value v) b
  joined_numbers_runs o sum (typed.This class remote) b = joined_values_runs o (typed.This class remote) b
  joined_numbers_runs o sum (typed.Place p) b = joined_values_runs o (typed.Place p) b
  joined_numbers_runs o sum (typed.Array p m) b = joined_values_runs o (typed.Array p m) b
  joined_numbers_runs o sum (typed.Object a) b = joined_values_runs o (typed.Object a) b

  joined_as_runs : (sum : Option Op) (o : BinaryOp) (a b : Typed) → Reads F grown ds part own ls (TypedFits y main here part own a × TypedFits y main here part own b) (joined_as sum cx o a b) (EachType)
  joined_as_runs None o a b = joined_values_runs o a b
  joined_as_runs (Some sum) o a b = joined_numbers_runs o sum a b

  pub joined_runs : (o : BinaryOp) (a b : Typed) → Reads F grown ds part own ls (TypedFits y main here part own a × TypedFits y main here part own b) (joined cx o a b) (EachType)
  unfolding joined
  joined_runs o a b = joined_as_runs (arithmetic o) o a b

  pub each_typed : (t : Typed) → EachType t → TypedFits y main here part own t
  each_typed (typed.Value v) p = subst (λ z. OperandBy y main here z v.term) (sym p.0) (p.1 AnInt)
  each_typed (typed.Constant term value) p = p AnInt
  each_typed typed.Broken p = p
  each_typed typed.Spoiled p = p
  each_typed (typed.This class remote) p = absurd p
  each_typed (typed.Place q) p = absurd p
  each_typed (typed.Array q n) p = absurd p
  each_typed (typed.Object o) p = absurd p

  each_not_void : (t : Ty) (v : Operand) → Reads F grown ds part own ls ((u : ValueType) → Values y main here v.term u) (not_void_by t cx v)
      (IsThere (λ (w : Operand). (u : ValueType) → Values y main here w.term u))
  each_not_void ty.Void v = never F grown ds part own ls cx _ None
  each_not_void ty.Int v = done (Some v) (λ x. x)
  each_not_void ty.Null v = done (Some v) (λ x. x)
  each_not_void ty.Unknown v = done (Some v) (λ x. x)
  each_not_void (ty.Pointer to remote) v = done (Some v) (λ x. x)

  never_decays : (t : Typed) {Q : Option Operand → Type 0} → Reads F grown ds part own ls ⊥ (decay cx t) Q
  never_decays t = record { run = λ s e. let q = (decay_runs y main here F grown ds part own ls cx t).run s e in (q.0, λ x k. absurd x) }

  -- its value
  pub each_value_runs : (t : Typed) → Reads F grown ds part own ls (EachType t) (decay cx t) (IsThere (λ (w : Operand). (u : ValueType) → Values y main here w.term u))
  each_value_runs (typed.Value v) = given (λ x. x.1) (each_not_void v.ty v)
  each_value_runs (typed.Constant term value) = done (Some (int term)) (λ x. x)
  each_value_runs typed.Broken = done None (λ x. x)
  each_value_runs typed.Spoiled = done None (λ x. x)
  each_value_runs (typed.This class remote) = given (λ x. absurd x) (never_decays (typed.This class remote))
  each_value_runs (typed.Place q) = given (λ x. absurd x) (never_decays (typed.Place q))
  each_value_runs (typed.Array q n) = given (λ x. absurd x) (never_decays (typed.Array q n))
  each_value_runs (typed.Object o) = given (λ x. absurd x) (never_decays (typed.Object o))
