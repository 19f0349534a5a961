-- Operators, and the addresses of places.
use Rattle.cc_core.specs.Core as core
use Rattle.cc_core.specs.Names as names
use Rattle.core_types.specs.Types.{ValueType, AnInt, Pointer, Cells, ObjectOf, Types}
use Rattle.core_types.specs.Types.{member, AreComparable, AreOperands}
use Rattle.core_types.specs.Values.{World}
use Rattle.core_types.specs.Typing.{Scope}
use Rattle.std.proofs.Common.{◌≡◌, ◌≢◌, ℤ, Bool, true, false, cond, List, Option, Some, None, refl, sym, ap, subst, ◌∙◌, eqb-true, ◌∷◌, []}
use Rattle.std.specs.Prelude.{◌&&◌}
use Rattle.cc_core.specs.declared.expression.Expression.{Expression}
use Rattle.std.proofs.lemmas.Bool.{true≢false}
use Rattle.std.proofs.lemmas.Option.{none-some}
use Rattle.cc_scopes.specs.declared.state.Local.{Local}
use Rattle.cc_scopes.specs.declared.types.Declared.{Declared}
use Rattle.cc_scopes.specs.declared.typed.Root.{Root}
use Rattle.cc_scopes.specs.declared.typed.Root.TheVariants as root
use Rattle.cc_names.specs.declared.rule.StaticRule.{StaticRule}
use Rattle.cc_ops.specs.declared.operator.Op.{Op}
use Rattle.cc_ops.specs.declared.operator.Op.TheVariants as op
use Rattle.cc_tree.specs.declared.expressions.BinaryOp.{BinaryOp}
use Rattle.cc_tree.specs.declared.expressions.BinaryOp.TheVariants as binary
use Rattle.cc_tree.specs.declared.expressions.UnaryOp.{UnaryOp}
use Rattle.cc_tree.specs.declared.expressions.UnaryOp.TheVariants as prefix
use Rattle.cc_scopes.specs.declared.typed.Object.{Object}
use Rattle.cc_scopes.specs.declared.typed.Operand.{Operand}
use Rattle.cc_scopes.specs.declared.typed.Place.{Place}
use Rattle.cc_scopes.specs.declared.typed.Typed.{Typed}
use Rattle.cc_scopes.specs.declared.typed.Typed.TheVariants as typed
use Rattle.cc_scopes.specs.declared.types.Target.{Target}
use Rattle.cc_scopes.specs.declared.types.Target.TheVariants as target
use Rattle.cc_scopes.specs.declared.types.Ty.{Ty}
use Rattle.cc_scopes.specs.declared.types.Ty.TheVariants as ty
use Rattle.cc_scopes.specs.Elab.{Elab}
use Rattle.cc_scopes.specs.Scope.{Context}
use Rattle.cc_scopes.specs.Types.{is_int, comparable, same_target}
use Rattle.cc_scopes.specs.Typed.{int, pointer_to, object_pointer}
use Rattle.cc_operators.specs.Folding.{negated_value, computed}
use Rattle.cc_operators.specs.Operators as operators
use Rattle.cc_operators.specs.Operators.{unary_term, operated_by, operated, negated, int_at, object_at, at_target, led_by, led, dereferenced}
use Rattle.cc_operators.specs.Operators.{address_rule, address_of, address_unless, place_address, object_address, value_address, address, unary}
use Rattle.cc_operators.specs.Operators.{arithmetic, joined_term, joined_operands, joined_values, joined_constant, joined_numbers, joined_as, joined}
use Rattle.source_types.specs.Reading.{IsThere}
use Rattle.source_types.proofs.Runs.{given, bind, done, next}
use Rattle.source_types.proofs.Forms.{unary_values, binary_values, and_values, or_values}
use Rattle.source_types.specs.TypesOf.{target_type, value_type}
use Rattle.source_types.specs.Reading.{Grown}
use Rattle.source_types.proofs.Fits.{Reads, Values, OperandBy, OperandFits, ObjectFits, PlaceFits, TypedFits}
use Rattle.source_types.proofs.ScopeLaws.{never, decay_runs, share_address_runs, int_pointer}

pub left_true : (a b : Bool) → (a && b) ≡ true → a ≡ true
left_true true b is = refl
left_true false b is = is

pub right_true : (a b : Bool) → (a && b) ≡ true → b ≡ true
right_true true b is = is
right_true false b is = absurd (true≢false (sym is))

module _ (program : core.Program) (y : Types) (world : World) (home : names.Name) (here : Scope) (F : Type 0) (grown : Grown) (ds : List Declared) (ls : List Local) (cx : Context) (same : F → grown.waits ≡ here.waits) where
  if_runs : {P : Type 0} (b : Bool) (p q : Elab Typed) → (b ≡ true → Reads F grown ds ls P p (TypedFits program y world home here))
      → Reads F grown ds ls P q (TypedFits program y world home here) → Reads F grown ds ls P (cond b p q) (TypedFits program y world home here)
  if_runs true p q x z = x refl
  if_runs false p q x z = z

  -- ---- values of known types

  pub int_values : (t : Ty) (x : Expression) → is_int t ≡ true → OperandBy program y world home here t x → Values program y world home here x AnInt
  int_values ty.Int x is v = v
  int_values ty.Null x is v = absurd (true≢false (sym is))
  int_values ty.Void x is v = absurd (true≢false (sym is))
  int_values (ty.Pointer to remote) x is v = absurd (true≢false (sym is))
  int_values ty.Unknown x is v = absurd (true≢false (sym is))

  -- two ints, or pointers to one target
  abbrev Alike : Expression → Expression → Type 0
  Alike a b = (u : ValueType) × (v : ValueType) × Values program y world home here a u × Values program y world home here b v × AreComparable u v

  abbrev Ints : Expression → Expression → Type 0
  Ints a b = Values program y world home here a AnInt × Values program y world home here b AnInt

  one_target : (b : Bool) (x z : Target) → same_target x z ≡ true → target_type x ≡ target_type z
  one_target b target.Int target.Int is = refl
  one_target b target.SyncInt target.SyncInt is = refl
  one_target b (target.Class k) (target.Class l) is = ap ObjectOf (eqb-true k.0 l.0 is)
  one_target b target.Int target.SyncInt is = absurd (true≢false (sym is))
  one_target b target.Int (target.Class l) is = absurd (true≢false (sym is))
  one_target b target.SyncInt target.Int is = absurd (true≢false (sym is))
  one_target b target.SyncInt (target.Class l) is = absurd (true≢false (sym is))
  one_target b (target.Class k) target.Int is = absurd (true≢false (sym is))
  one_target b (target.Class k) target.SyncInt is = absurd (true≢false (sym is))

  compared : (s t : Ty) (a b : Expression) → comparable s t ≡ true → OperandBy program y world home here s a → OperandBy program y world home here t b → Alike a b
  compared ty.Int ty.Int a b is v w = (AnInt, AnInt, v, w, refl)
  compared ty.Null ty.Null a b is v w =
      (Pointer false (ObjectOf 0), Pointer false (ObjectOf 0), v false (ObjectOf 0), w false (ObjectOf 0), (false, refl))
  compared ty.Null (ty.Pointer to remote) a b is v w =
      (Pointer remote (target_type to), Pointer remote (target_type to), v remote (target_type to), w, (remote, refl))
  compared (ty.Pointer to remote) ty.Null a b is v w =
      (Pointer remote (target_type to), Pointer remote (target_type to), v, w remote (target_type to), (remote, refl))
  compared (ty.Pointer to remote) (ty.Pointer other elsewhere) a b is v w =
      (Pointer remote (target_type to), Pointer elsewhere (target_type other), v, w, (elsewhere, ap (Pointer elsewhere) (sym (one_target true to other is))))
  compared ty.Int ty.Null a b is v w = absurd (true≢false (sym is))
  compared ty.Int ty.Void a b is v w = absurd (true≢false (sym is))
  compared ty.Int (ty.Pointer to remote) a b is v w = absurd (true≢false (sym is))
  compared ty.Int ty.Unknown a b is v w = absurd (true≢false (sym is))
  compared ty.Null ty.Int a b is v w = absurd (true≢false (sym is))
  compared ty.Null ty.Void a b is v w = absurd (true≢false (sym is))
  compared ty.Null ty.Unknown a b is v w = absurd (true≢false (sym is))
  compared (ty.Pointer to remote) ty.Int a b is v w = absurd (true≢false (sym is))
  compared (ty.Pointer to remote) ty.Void a b is v w = absurd (true≢false (sym is))
  compared (ty.Pointer to remote) ty.Unknown a b is v w = absurd (true≢false (sym is))
  compared ty.Void t a b is v w = absurd (true≢false (sym is))
  compared ty.Unknown t a b is v w = absurd (true≢false (sym is))

  counted : (s t : Ty) (a b : Expression) → (is_int s && is_int t) ≡ true → OperandBy program y world home here s a → OperandBy program y world home here t b → Ints a b
  counted s t a b is v w = (
    int_values s a (left_true (is_int s) (is_int t) is) v,
    int_values t b (right_true (is_int s) (is_int t) is) w,
  )

  pub joined_value : (o : BinaryOp) (s t : Ty) (a b : Expression) → operators.takes o s t ≡ true → OperandBy program y world home here s a → OperandBy program y world home here t b
      → Values program y world home here (joined_term o a b) AnInt
  joined_value binary.Eq s t a b is v w = let z = compared s t a b is v w in binary_values program y world home here op.Eq a b z.0 z.1 (z.0, z.1, refl, z.4) z.2 z.3
  joined_value binary.Ne s t a b is v w = let z = compared s t a b is v w in binary_values program y world home here op.Ne a b z.0 z.1 (z.0, z.1, refl, z.4) z.2 z.3
  joined_value binary.Or s t a b is v w = let z = counted s t a b is v w in or_values program y world home here a b z.0 z.1
  joined_value binary.And s t a b is v w = let z = counted s t a b is v w in and_values program y world home here a b z.0 z.1
  joined_value binary.Lt s t a b is v w = let z = counted s t a b is v w in binary_values program y world home here op.Lt a b AnInt AnInt refl z.0 z.1
  joined_value binary.Le s t a b is v w = let z = counted s t a b is v w in binary_values program y world home here op.Le a b AnInt AnInt refl z.0 z.1
  joined_value binary.Gt s t a b is v w = let z = counted s t a b is v w in binary_values program y world home here op.Gt a b AnInt AnInt refl z.0 z.1
  joined_value binary.Ge s t a b is v w = let z = counted s t a b is v w in binary_values program y world home here op.Ge a b AnInt AnInt refl z.0 z.1
  joined_value binary.Add s t a b is v w = let z = counted s t a b is v w in binary_values program y world home here op.Add a b AnInt AnInt refl z.0 z.1
  joined_value binary.Sub s t a b is v w = let z = counted s t a b is v w in binary_values program y world home here op.Sub a b AnInt AnInt refl z.0 z.1
  joined_value binary.Mul s t a b is v w = let z = counted s t a b is v w in binary_values program y world home here op.Mul a b AnInt AnInt refl z.0 z.1
  joined_value binary.Div s t a b is v w = let z = counted s t a b is v w in binary_values program y world home here op.Div a b AnInt AnInt refl z.0 z.1
  joined_value binary.Rem s t a b is v w = let z = counted s t a b is v w in binary_values program y world home here op.Rem a b AnInt AnInt refl z.0 z.1

  -- ---- - and !

  operated_by_runs : (o : Op) → AreOperands o (AnInt ∷ []) → (v : Option Operand) → Reads F grown ds ls (IsThere (OperandFits program y world home here) v) (operated_by cx o v) (TypedFits program y world home here)
  operated_by_runs o fine None = done typed.Spoiled (λ x. x)
  operated_by_runs o fine (Some v) = if_runs (is_int v.ty) _ _
      (λ is. done (typed.Value (int (unary_term o v.term))) (λ x. unary_values program y world home here o v.term fine (int_values v.ty v.term is x))) (never F grown ds ls cx _ typed.Broken)

  operated_runs : (o : Op) → AreOperands o (AnInt ∷ []) → (t : Typed) → Reads F grown ds ls (TypedFits program y world home here t) (operated cx o t) (TypedFits program y world home here)
  unfolding operated
  operated_runs o fine t = bind (decay_runs program y world home here F grown ds ls cx same t) (λ v. given (λ x. x.1) (operated_by_runs o fine v))

  negated_runs : (t : Typed) → Reads F grown ds ls (TypedFits program y world home here t) (negated cx t) (TypedFits program y world home here)
  negated_runs (typed.Constant term value) =
      done (typed.Constant (unary_term op.Neg term) (negated_value value)) (λ x. unary_values program y world home here op.Neg term refl x)
  negated_runs typed.Broken = operated_runs op.Neg refl typed.Broken
  negated_runs typed.Spoiled = operated_runs op.Neg refl typed.Spoiled
  negated_runs (typed.Value v) = operated_runs op.Neg refl (typed.Value v)
  negated_runs (typed.This class remote) = operated_runs op.Neg refl (typed.This class remote)
  negated_runs (typed.Place p) = operated_runs op.Neg refl (typed.Place p)
  negated_runs (typed.Array p m) = operated_runs op.Neg refl (typed.Array p m)
  negated_runs (typed.Object o) = operated_runs op.Neg refl (typed.Object o)

  -- ---- what a pointer leads to

  pointed_place : (sync remote : Bool) (x : Expression) → Values program y world home here x (Pointer remote (Cells sync AnInt)) → PlaceFits program y world home here
      (record { address = x; ty = ty.Int; sync = sync; remote = remote; root = root.Pointer; is_element = false })
  pointed_place sync remote x v = record {
    target = Cells sync AnInt;
    leads = v;
    cell = (refl, refl);
    known = tt;
    row = λ outside. refl;
  }

  at_target_fits : (t : Target) (remote : Bool) (x : Expression) → OperandBy program y world home here (ty.Pointer t remote) x
      → TypedFits program y world home here (at_target t remote x)
  at_target_fits target.Int remote x v = pointed_place false remote x v
  at_target_fits target.SyncInt remote x v = pointed_place true remote x v
  at_target_fits (target.Class class) remote x v = (v, λ b. absurd (true≢false (sym b)))

  led_by_runs : (t : Ty) (x : Expression) → Reads F grown ds ls (OperandBy program y world home here t x) (led_by t cx x) (TypedFits program y world home here)
  led_by_runs (ty.Pointer to remote) x = done (at_target to remote x) (λ p. at_target_fits to remote x p)
  led_by_runs ty.Int x = never F grown ds ls cx _ typed.Broken
  led_by_runs ty.Null x = never F grown ds ls cx _ typed.Broken
  led_by_runs ty.Void x = never F grown ds ls cx _ typed.Broken
  led_by_runs ty.Unknown x = never F grown ds ls cx _ typed.Broken

  led_runs : (v : Option Operand) → Reads F grown ds ls (IsThere (OperandFits program y world home here) v) (led cx v) (TypedFits program y world home here)
  led_runs None = done typed.Spoiled (λ x. x)
  led_runs (Some v) = led_by_runs v.ty v.term

  dereferenced_runs : (t : Typed) → Reads F grown ds ls (TypedFits program y world home here t) (dereferenced cx t) (TypedFits program y world home here)
  unfolding dereferenced
  dereferenced_runs t = bind (decay_runs program y world home here F grown ds ls cx same t) (λ v. given (λ x. x.1) (led_runs v))

  -- ---- &

  int_of_rule : (t : Ty) (r : Root) (is_element : Bool) → address_rule t r is_element ≡ None → t ≡ ty.Int
  int_of_rule ty.Int r b none = refl
  int_of_rule ty.Null r b none = absurd (none-some _ (sym none))
  int_of_rule ty.Void r b none = absurd (none-some _ (sym none))
  int_of_rule (ty.Pointer to remote) r b none = absurd (none-some _ (sym none))
  int_of_rule ty.Unknown r b none = absurd (none-some _ (sym none))

  -- what `&` is taken of is no member: of one it breaks a rule
  outside_of_rule : (t : Ty) (r : Root) (is_element : Bool) → address_rule t r is_element ≡ None → r ≢ root.Member
  outside_of_rule t r b none member =
      let int : t ≡ ty.Int = int_of_rule t r b none in
      none-some _ (sym none ∙ ap (λ u. address_rule u r b) int ∙ ap (λ q. address_rule ty.Int q b) member)

  -- an int that may be pointed to: a variable, or an element of one or of what a pointer leads to
  address_fits : (p : Place) → address_rule p.ty p.root p.is_element ≡ None → PlaceFits program y world home here p
      → OperandFits program y world home here (pointer_to p)
  address_fits p none f =
      let int : value_type p.ty ≡ AnInt = ap value_type (int_of_rule p.ty p.root p.is_element none) in
      int_pointer program y world home here F grown ds ls cx p.sync p.remote p.address
      (subst (λ a. Values program y world home here p.address (Pointer p.remote a))
      (f.row (outside_of_rule p.ty p.root p.is_element none) ∙ ap (λ u. Cells p.sync u) int) f.leads)

  address_of_runs : (p : Place) → address_rule p.ty p.root p.is_element ≡ None
      → Reads F grown ds ls (PlaceFits program y world home here p) (address_of cx p) (TypedFits program y world home here)
  unfolding address_of
  address_of_runs p none = next (share_address_runs program y world home here F grown ds ls cx p.sync)
      (done (typed.Value (pointer_to p)) (λ x. address_fits p none x))

  address_unless_runs : (r : Option StaticRule) (p : Place) → address_rule p.ty p.root p.is_element ≡ r
      → Reads F grown ds ls (PlaceFits program y world home here p) (address_unless r cx p) (TypedFits program y world home here)
  address_unless_runs (Some rule) p is = never F grown ds ls cx rule typed.Broken
  address_unless_runs None p is = address_of_runs p is

  object_address_runs : (b : Bool) (o : Object) → o.is_variable ≡ b
      → Reads F grown ds ls (ObjectFits program y world home here o) (object_address b cx o) (TypedFits program y world home here)
  object_address_runs true o is = done (typed.Value (object_pointer o)) (λ x.
      subst (λ b. Values program y world home here o.address (Pointer b (ObjectOf o.class.0))) (x.1 is) x.0)
  object_address_runs false o is = never F grown ds ls cx _ typed.Broken

  value_address_runs : (t : Ty) {P : Type 0} → Reads F grown ds ls P (value_address t cx) (TypedFits program y world home here)
  value_address_runs ty.Void = never F grown ds ls cx _ typed.Broken
  value_address_runs ty.Int = never F grown ds ls cx _ typed.Broken
  value_address_runs ty.Null = never F grown ds ls cx _ typed.Broken
  value_address_runs (ty.Pointer to remote) = never F grown ds ls cx _ typed.Broken
  value_address_runs ty.Unknown = never F grown ds ls cx _ typed.Broken

  address_runs : (t : Typed) → Reads F grown ds ls (TypedFits program y world home here t) (address cx t) (TypedFits program y world home here)
  address_runs typed.Broken = done typed.Spoiled (λ x. x)
  address_runs typed.Spoiled = done typed.Spoiled (λ x. x)
  address_runs (typed.Value v) = value_address_runs v.ty
  address_runs (typed.This class remote) = never F grown ds ls cx _ typed.Broken
  address_runs (typed.Constant term value) = never F grown ds ls cx _ typed.Broken
  address_runs (typed.Place p) = address_unless_runs (address_rule p.ty p.root p.is_element) p refl
  address_runs (typed.Array p m) = never F grown ds ls cx _ typed.Broken
  address_runs (typed.Object o) = object_address_runs o.is_variable o refl

  pub unary_runs : (o : UnaryOp) (t : Typed) → Reads F grown ds ls (TypedFits program y world home here t) (unary cx o t) (TypedFits program y world home here)
  unary_runs prefix.Neg t = negated_runs t
  unary_runs prefix.Not t = operated_runs op.Not refl t
  unary_runs prefix.Deref t = dereferenced_runs t
  unary_runs prefix.Address t = address_runs t

  -- ---- operators between two operands

  abbrev IsOne : Typed → Type 0
  IsOne t = TypedFits program y world home here t

  joined_operands_runs : (o : BinaryOp) (a b : Option Operand)
      → Reads F grown ds ls (IsThere (OperandFits program y world home here) a × IsThere (OperandFits program y world home here) b) (joined_operands cx o a b) (TypedFits program y world home here)
  joined_operands_runs o None b = done typed.Spoiled (λ x. x.0)
  joined_operands_runs o (Some a) None = done typed.Spoiled (λ x. x.1)
  joined_operands_runs o (Some a) (Some b) = if_runs (operators.takes o a.ty b.ty) _ _
      (λ is. done (typed.Value (int (joined_term o a.term b.term))) (λ x. joined_value o a.ty b.ty a.term b.term is x.0 x.1))
      (never F grown ds ls cx _ typed.Broken)

  joined_values_runs : (o : BinaryOp) (a b : Typed) → Reads F grown ds ls (TypedFits program y world home here a × TypedFits program y world home here b) (joined_values cx o a b) (TypedFits program y world home here)
  unfolding joined_values
  joined_values_runs o a b = bind (given (λ x. x.0) (decay_runs program y world home here F grown ds ls cx same a)) (λ v.
      bind (given (λ x. x.0.1) (decay_runs program y world home here F grown ds ls cx same b)) (λ w. given (λ x. (x.0.1, x.1)) (joined_operands_runs o v w)))

  constants_joined : (o : BinaryOp) (a b : Expression) → Values program y world home here a AnInt → Values program y world home here b AnInt
      → Values program y world home here (joined_term o a b) AnInt
  constants_joined o a b v w = from o
    where
      eq : AreComparable AnInt AnInt
      eq = refl

      from : (o : BinaryOp) → Values program y world home here (joined_term o a b) AnInt
      from binary.Eq = binary_values program y world home here op.Eq a b AnInt AnInt (AnInt, AnInt, refl, eq) v w
      from binary.Ne = binary_values program y world home here op.Ne a b AnInt AnInt (AnInt, AnInt, refl, eq) v w
      from binary.Or = or_values program y world home here a b v w
      from binary.And = and_values program y world home here a b v w
      from binary.Lt = binary_values program y world home here op.Lt a b AnInt AnInt refl v w
      from binary.Le = binary_values program y world home here op.Le a b AnInt AnInt refl v w
      from binary.Gt = binary_values program y world home here op.Gt a b AnInt AnInt refl v w
      from binary.Ge = binary_values program y world home here op.Ge a b AnInt AnInt refl v w
      from binary.Add = binary_values program y world home here op.Add a b AnInt AnInt refl v w
      from binary.Sub = binary_values program y world home here op.Sub a b AnInt AnInt refl v w
      from binary.Mul = binary_values program y world home here op.Mul a b AnInt AnInt refl v w
      from binary.Div = binary_values program y world home here op.Div a b AnInt AnInt refl v w
      from binary.Rem = binary_values program y world home here op.Rem a b AnInt AnInt refl v w

  joined_constant_runs : (o : BinaryOp) (sum : Op) (a : Expression) (z : Option ℤ) (b : Typed)
      → Reads F grown ds ls (Values program y world home here a AnInt × TypedFits program y world home here b) (joined_constant cx o sum a z b) (TypedFits program y world home here)
  joined_constant_runs o sum a z (typed.Constant b w) =
      done (typed.Constant (joined_term o a b) (computed sum z w)) (λ x. constants_joined o a b x.0 x.1)
  joined_constant_runs o sum a z typed.Broken = joined_values_runs o (typed.Constant a z) typed.Broken
  joined_constant_runs o sum a z typed.Spoiled = joined_values_runs o (typed.Constant a z) typed.Spoiled
  joined_constant_runs o sum a z (typed.Value v) = joined_values_runs o (typed.Constant a z) (typed.Value v)
  joined_constant_runs o sum a z (typed.This class remote) = joined_values_runs o (typed.Constant a z) (typed.This class remote)
  joined_constant_runs o sum a z (typed.Place p) = joined_values_runs o (typed.Constant a z) (typed.Place p)
  joined_constant_runs o sum a z (typed.Array p m) = joined_values_runs o (typed.Constant a z) (typed.Array p m)
  joined_constant_runs o sum a z (typed.Object b) = joined_values_runs o (typed.Constant a z) (typed.Object b)

  joined_numbers_runs : (o : BinaryOp) (sum : Op) (a b : Typed) → Reads F grown ds ls (TypedFits program y world home here a × TypedFits program y world home here b) (joined_numbers cx o sum a b) (TypedFits program y world home here)
  joined_numbers_runs o sum (typed.Constant a z) b = joined_constant_runs o sum a z b
  joined_numbers_runs o sum typed.Broken b = joined_values_runs o typed.Broken b
  joined_numbers_runs o sum typed.Spoiled b = joined_values_runs o typed.Spoiled b
  joined_numbers_runs o sum (typed.Value v) b = joined_values_runs o (typed.Value v) b
  joined_numbers_runs o sum (typed.This class remote) b = joined_values_runs o (typed.This class remote) b
  joined_numbers_runs o sum (typed.Place p) b = joined_values_runs o (typed.Place p) b
  joined_numbers_runs o sum (typed.Array p m) b = joined_values_runs o (typed.Array p m) b
  joined_numbers_runs o sum (typed.Object a) b = joined_values_runs o (typed.Object a) b

  joined_as_runs : (sum : Option Op) (o : BinaryOp) (a b : Typed) → Reads F grown ds ls (TypedFits program y world home here a × TypedFits program y world home here b) (joined_as sum cx o a b) (TypedFits program y world home here)
  joined_as_runs None o a b = joined_values_runs o a b
  joined_as_runs (Some sum) o a b = joined_numbers_runs o sum a b

  pub joined_runs : (o : BinaryOp) (a b : Typed) → Reads F grown ds ls (TypedFits program y world home here a × TypedFits program y world home here b) (joined cx o a b) (TypedFits program y world home here)
  unfolding joined
  joined_runs o a b = joined_as_runs (arithmetic o) o a b
