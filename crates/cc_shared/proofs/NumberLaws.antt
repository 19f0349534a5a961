-- Which expressions are constants: a constant expression is one wherever names mean the same, and no other form is one.
use Rattle.std.proofs.Common.{ℕ, Bool, true, false, cond, List, Option, Some, None}
use Rattle.std.specs.Prelude.{slice_get}
use Rattle.cc_core.specs.declared.expression.Expression.{Expression}
use Rattle.cc_names.specs.Table.{Name}
use Rattle.cc_names.specs.declared.declarations.ClassId.{ClassId}
use Rattle.cc_names.specs.declared.declarations.FunId.{FunId}
use Rattle.cc_names.specs.declared.rule.StaticRule.{StaticRule}
use Rattle.cc_ops.specs.declared.operator.Op.{Op}
use Rattle.cc_scopes.specs.declared.meaning.Meaning.{Meaning}
use Rattle.cc_scopes.specs.declared.meaning.Meaning.TheVariants as m
use Rattle.cc_scopes.specs.declared.state.State.{State}
use Rattle.cc_scopes.specs.declared.tables.Class.{Class}
use Rattle.cc_scopes.specs.declared.tables.Signature.{Signature}
use Rattle.cc_scopes.specs.declared.typed.Object.{Object}
use Rattle.cc_scopes.specs.declared.typed.Operand.{Operand}
use Rattle.cc_scopes.specs.declared.typed.Place.{Place}
use Rattle.cc_scopes.specs.declared.typed.Typed.{Typed}
use Rattle.cc_scopes.specs.declared.typed.Typed.TheVariants as typed
use Rattle.cc_scopes.specs.declared.types.Shape.{Shape}
use Rattle.cc_scopes.specs.declared.types.Shape.TheVariants as shape
use Rattle.cc_scopes.specs.declared.types.Target.{Target}
use Rattle.cc_scopes.specs.declared.types.Target.TheVariants as target
use Rattle.cc_scopes.specs.declared.types.Ty.{Ty}
use Rattle.cc_scopes.specs.declared.types.Ty.TheVariants as ty
use Rattle.cc_scopes.specs.Elab.{Elab}
use Rattle.cc_scopes.specs.Scope.{Context}
use Rattle.cc_scopes.specs.Types.{is_int}
use Rattle.cc_scopes.specs.Typed.{placed_by, placed_as, decay}
use Rattle.cc_scopes.specs.Meaning.{class_at, member_of, meant_in, this_in, this_by, this}
use Rattle.cc_operators.specs.Operators.{operated_by, operated, at_target, led_by, led, dereferenced, address_unless, address_rule, object_address, value_address, address_of, address}
use Rattle.cc_operators.specs.Operators.{takes, joined_operands, joined_values}
use Rattle.cc_typing.specs.declared.calls.Args.{Args}
use Rattle.cc_typing.specs.declared.calls.Callee.{Callee}
use Rattle.cc_typing.specs.Calls.{given, call_term, entered, entered_unless, call_rule, is_remote, called_as, called, called_name, call_named}
use Rattle.cc_typing.specs.Objects.{indexed_array, indexed_target, indexed_pointer, indexed_value, field_as, field_of, call_as, call_member}
use Rattle.cc_typing.specs.New.{made, made_unless, made_of, new_named, new_array, new_object}
use Rattle.cc_tree.specs.declared.expressions.BinaryOp.{BinaryOp}

-- ---- no constant

abbrev pub IsOther : Typed → Type 0
IsOther (typed.Constant term value) = ⊥
IsOther typed.Broken = Unit {0}
IsOther typed.Spoiled = Unit {0}
IsOther (typed.Value v) = Unit {0}
IsOther (typed.This class remote) = Unit {0}
IsOther (typed.Place p) = Unit {0}
IsOther (typed.Array p n) = Unit {0}
IsOther (typed.Object o) = Unit {0}

-- what a reading gives is no constant
abbrev pub Never : Elab Typed → Type 0
Never p = (s : State) → IsOther (p s).0

if_never : (b : Bool) (p q : Elab Typed) → Never p → Never q → Never (cond b p q)
if_never true p q x y = x
if_never false p q x y = y

placed_by_never : (s : Shape) (p : Place) → IsOther (placed_by s p)
placed_by_never shape.Cell p = tt
placed_by_never (shape.Array n) p = tt
placed_by_never (shape.Object class) p = tt

pub placed_never : (t : Ty) (s : Shape) (p : Place) → IsOther (placed_as t s p)
placed_never ty.Unknown s p = tt
placed_never ty.Int s p = placed_by_never s p
placed_never ty.Null s p = placed_by_never s p
placed_never ty.Void s p = placed_by_never s p
placed_never (ty.Pointer to remote) s p = placed_by_never s p

module _ (cx : Context) where
  this_in_never : (k : Option Class) (class : ClassId) → Never (this_in k cx class)
  this_in_never None class = λ s. tt
  this_in_never (Some k) class = λ s. tt

  this_by_never : (o : Option ClassId) → Never (this_by o cx)
  this_by_never None = λ s. tt
  this_by_never (Some class) = this_in_never (class_at cx class) class

  pub this_never : Never (this cx)
  this_never = this_by_never cx.class

  -- ---- operators

  operated_by_never : (o : Op) (v : Option Operand) → Never (operated_by cx o v)
  operated_by_never o None = λ s. tt
  operated_by_never o (Some v) = if_never (is_int v.ty) _ _ (λ s. tt) (λ s. tt)

  pub operated_never : (o : Op) (t : Typed) → Never (operated cx o t)
  unfolding operated
  operated_never o t = λ s. operated_by_never o (decay cx t s).0 (decay cx t s).1

  at_target_never : (t : Target) (remote : Bool) (x : Expression) → IsOther (at_target t remote x)
  at_target_never target.Int remote x = tt
  at_target_never target.SyncInt remote x = tt
  at_target_never (target.Class class) remote x = tt

  led_by_never : (t : Ty) (x : Expression) → Never (led_by t cx x)
  led_by_never (ty.Pointer to remote) x = λ s. at_target_never to remote x
  led_by_never ty.Int x = λ s. tt
  led_by_never ty.Null x = λ s. tt
  led_by_never ty.Void x = λ s. tt
  led_by_never ty.Unknown x = λ s. tt

  led_never : (v : Option Operand) → Never (led cx v)
  led_never None = λ s. tt
  led_never (Some v) = led_by_never v.ty v.term

  pub dereferenced_never : (t : Typed) → Never (dereferenced cx t)
  unfolding dereferenced
  dereferenced_never t = λ s. led_never (decay cx t s).0 (decay cx t s).1

  address_unless_never : (r : Option StaticRule) (p : Place) → Never (address_unless r cx p)
  unfolding address_of
  address_unless_never (Some rule) p = λ s. tt
  address_unless_never None p = λ s. tt

  object_address_never : (b : Bool) (o : Object) → Never (object_address b cx o)
  object_address_never true o = λ s. tt
  object_address_never false o = λ s. tt

  value_address_never : (t : Ty) → Never (value_address t cx)
  value_address_never ty.Void = λ s. tt
  value_address_never ty.Int = λ s. tt
  value_address_never ty.Null = λ s. tt
  value_address_never (ty.Pointer to remote) = λ s. tt
  value_address_never ty.Unknown = λ s. tt

  pub address_never : (t : Typed) → Never (address cx t)
  address_never typed.Broken = λ s. tt
  address_never typed.Spoiled = λ s. tt
  address_never (typed.Value v) = value_address_never v.ty
  address_never (typed.This class remote) = λ s. tt
  address_never (typed.Constant term value) = λ s. tt
  address_never (typed.Place p) = address_unless_never (address_rule p.ty p.root p.is_element) p
  address_never (typed.Array p n) = λ s. tt
  address_never (typed.Object o) = object_address_never o.is_variable o

  joined_operands_never : (o : BinaryOp) (a b : Option Operand) → Never (joined_operands cx o a b)
  joined_operands_never o None b = λ s. tt
  joined_operands_never o (Some a) None = λ s. tt
  joined_operands_never o (Some a) (Some b) = if_never (takes o a.ty b.ty) _ _ (λ s. tt) (λ s. tt)

  pub joined_values_never : (o : BinaryOp) (a b : Typed) → Never (joined_values cx o a b)
  unfolding joined_values
  joined_values_never o a b = λ s.
      let x = decay cx a s in let y = decay cx b x.1 in joined_operands_never o x.0 y.0 y.1

  -- ---- calls

  given_never : (t : Ty) (x : Expression) → IsOther (given t x)
  given_never ty.Unknown x = tt
  given_never ty.Int x = tt
  given_never ty.Null x = tt
  given_never ty.Void x = tt
  given_never (ty.Pointer to remote) x = tt

  entered_unless_never : (r : Option StaticRule) (f : FunId) (result : Ty) (c : Callee) (es : List Expression) → Never (entered_unless r cx f result c es)
  unfolding entered
  entered_unless_never (Some rule) f result c es = λ s. tt
  entered_unless_never None f result c es = λ s. given_never result (call_term f c es)

  called_as_never : (o : Option Signature) (f : FunId) (c : Callee) (a : Args) → Never (called_as o cx f c a)
  called_as_never None f c a = λ s. tt
  called_as_never (Some g) f c a = entered_unless_never (call_rule g (is_remote c) a.types) f g.result c a.terms

  called_never : (f : FunId) (c : Callee) (a : Args) → Never (called cx f c a)
  called_never f c a = called_as_never (slice_get cx.tables.functions f.0) f c a

  called_name_never : (x : Meaning) (a : Args) → Never (called_name cx x a)
  called_name_never (m.Variable found) a = λ s. tt
  called_name_never (m.Field declared offset) a = λ s. tt
  called_name_never (m.Method f) a = called_never f _ a
  called_name_never (m.Constant b z) a = λ s. tt
  called_name_never (m.Function f) a = called_never f _ a
  called_name_never m.Nothing a = λ s. tt

  pub call_named_never : (x : Meaning) (a : Option Args) → Never (call_named cx x a)
  call_named_never x None = λ s. tt
  call_named_never x (Some a) = called_name_never x a

  -- ---- elements and members

  pub indexed_array_never : (p : Place) (n : ℕ) (i : Option Operand) → Never (indexed_array cx p n i)
  indexed_array_never p n None = λ s. tt
  indexed_array_never p n (Some i) = if_never (is_int i.ty) _ _ (λ s. tt) (λ s. tt)

  indexed_target_never : (t : Target) (remote : Bool) (a i : Expression) → Never (indexed_target t cx remote a i)
  indexed_target_never target.Int remote a i = λ s. tt
  indexed_target_never target.SyncInt remote a i = λ s. tt
  indexed_target_never (target.Class class) remote a i = λ s. tt

  indexed_pointer_never : (t : Ty) (a i : Expression) → Never (indexed_pointer t cx a i)
  indexed_pointer_never (ty.Pointer to remote) a i = indexed_target_never to remote a i
  indexed_pointer_never ty.Int a i = λ s. tt
  indexed_pointer_never ty.Null a i = λ s. tt
  indexed_pointer_never ty.Void a i = λ s. tt
  indexed_pointer_never ty.Unknown a i = λ s. tt

  pub indexed_value_never : (a i : Option Operand) → Never (indexed_value cx a i)
  indexed_value_never None i = λ s. tt
  indexed_value_never (Some a) None = λ s. tt
  indexed_value_never (Some a) (Some i) = if_never (is_int i.ty) _ _ (indexed_pointer_never a.ty a.term i.term) (λ s. tt)

  field_as_never : (x : Meaning) (o : Object) → Never (field_as x cx o)
  field_as_never (m.Field declared offset) o = λ s. placed_never declared.ty declared.shape _
  field_as_never m.Nothing o = λ s. tt
  field_as_never (m.Variable found) o = λ s. tt
  field_as_never (m.Method f) o = λ s. tt
  field_as_never (m.Constant b z) o = λ s. tt
  field_as_never (m.Function f) o = λ s. tt

  pub field_of_never : (text : Name) (o : Option Object) → Never (field_of cx text o)
  field_of_never text None = λ s. tt
  field_of_never text (Some o) = field_as_never (meant_in (member_of cx o.class text)) o

  call_as_never : (x : Meaning) (o : Object) (a : Args) → Never (call_as x cx o a)
  call_as_never (m.Method f) o a = called_never f _ a
  call_as_never m.Nothing o a = λ s. tt
  call_as_never (m.Variable found) o a = λ s. tt
  call_as_never (m.Field declared offset) o a = λ s. tt
  call_as_never (m.Constant b z) o a = λ s. tt
  call_as_never (m.Function f) o a = λ s. tt

  pub call_member_never : (text : Name) (o : Option Object) (a : Option Args) → Never (call_member cx text o a)
  call_member_never text None a = λ s. tt
  call_member_never text (Some o) None = λ s. tt
  call_member_never text (Some o) (Some a) = call_as_never (meant_in (member_of cx o.class text)) o a

  -- ---- new objects

  pub new_array_never : (sync : Bool) (k : Option ℕ) → IsOther (new_array sync k)
  new_array_never sync None = tt
  new_array_never sync (Some k) = tt

  made_unless_never : (r : Option StaticRule) (class : ClassId) (remote : Bool) (es : List Expression) → Never (made_unless r cx class remote es)
  unfolding made
  made_unless_never (Some rule) class remote es = λ s. tt
  made_unless_never None class remote es = λ s. tt

  made_of_never : (o : Option Class) (class : ClassId) (a : Args) → Never (made_of o cx class a)
  made_of_never None class a = λ s. tt
  made_of_never (Some k) class a = made_unless_never _ class k.remote a.terms

  new_named_never : (o : Option ClassId) (a : Args) → Never (new_named o cx a)
  new_named_never None a = λ s. tt
  new_named_never (Some class) a = made_of_never (class_at cx class) class a

  pub new_object_never : (o : Option ClassId) (a : Option Args) → Never (new_object cx o a)
  new_object_never o None = λ s. tt
  new_object_never o (Some a) = new_named_never o a
