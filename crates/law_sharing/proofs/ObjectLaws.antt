-- Elements, members, calls on objects, and new objects.
use Rattle.std.proofs.Common.{ℕ, Bool, true, false, Option, Some, None}
use Rattle.cc_core.specs.declared.expression.Expression.{Expression}
use Rattle.cc_core.specs.declared.expression.Expression.TheVariants as e
use Rattle.cc_names.specs.Table.{Name}
use Rattle.cc_names.specs.declared.declarations.ClassId.{ClassId}
use Rattle.cc_names.specs.declared.rule.StaticRule.{StaticRule}
use Rattle.cc_typing.specs.declared.calls.Args.{Args}
use Rattle.cc_scopes.specs.declared.meaning.Meaning.{Meaning}
use Rattle.cc_scopes.specs.declared.meaning.Meaning.TheVariants as m
use Rattle.cc_scopes.specs.declared.tables.Class.{Class}
use Rattle.cc_scopes.specs.declared.typed.Object.{Object}
use Rattle.cc_scopes.specs.declared.typed.Operand.{Operand}
use Rattle.cc_scopes.specs.declared.typed.Place.{Place}
use Rattle.cc_scopes.specs.declared.typed.Typed.{Typed}
use Rattle.cc_scopes.specs.declared.typed.Typed.TheVariants as typed
use Rattle.cc_scopes.specs.declared.types.Target.{Target}
use Rattle.cc_scopes.specs.declared.types.Target.TheVariants as target
use Rattle.cc_scopes.specs.declared.types.Ty.{Ty}
use Rattle.cc_scopes.specs.declared.types.Ty.TheVariants as ty
use Rattle.cc_scopes.specs.Scope.{Context}
use Rattle.cc_scopes.specs.Types.{is_int}
use Rattle.cc_scopes.specs.Meaning.{class_at, member_of, meant_in}
use Rattle.cc_typing.specs.Calls.{args_rule}
use Rattle.cc_typing.specs.Objects.{element, indexed_array, element_behind, indexed_target, indexed_pointer, indexed_value, no_object}
use Rattle.cc_typing.specs.Objects.{object_behind, before_dot}
use Rattle.cc_typing.specs.Objects.{target_object, pointed_by, pointed_object, value_before_arrow, before_arrow, object_of, field_at, field_as}
use Rattle.cc_typing.specs.Objects.{field_of}
use Rattle.cc_typing.specs.Objects.{callee_at, call_as, call_member}
use Rattle.cc_typing.specs.New.{object_made, made, made_unless, made_of, new_named, new_object}
use Rattle.law_sharing.proofs.Leaves.{Leaves, bind, next, done, block_if_leaves, either_leaves}
use Rattle.law_sharing.proofs.ScopeLaws.{note_rule_leaves, broken_leaves, decay_leaves}
use Rattle.law_sharing.proofs.CallLaws.{called_leaves}

module _ (cx : Context) where
  -- ---- elements

  pub indexed_array_leaves : (p : Place) (k : ℕ) (i : Option Operand)
      → Leaves cx.line (indexed_array cx p k i)
  indexed_array_leaves p k None = done typed.Spoiled
  indexed_array_leaves p k (Some i) = either_leaves (is_int i.ty) _ _
      (done (element p k i.term)) (broken_leaves cx _)

  indexed_target_leaves : (t : Target) (remote : Bool) (a i : Expression)
      → Leaves cx.line (indexed_target t cx remote a i)
  indexed_target_leaves target.Int remote a i = done (element_behind a i false remote)
  indexed_target_leaves target.SyncInt remote a i = done (element_behind a i true remote)
  indexed_target_leaves (target.Class class) remote a i = broken_leaves cx _

  indexed_pointer_leaves : (t : Ty) (a i : Expression)
      → Leaves cx.line (indexed_pointer t cx a i)
  indexed_pointer_leaves (ty.Pointer to remote) a i = indexed_target_leaves to remote a i
  indexed_pointer_leaves ty.Int a i = broken_leaves cx _
  indexed_pointer_leaves ty.Null a i = broken_leaves cx _
  indexed_pointer_leaves ty.Void a i = broken_leaves cx _
  indexed_pointer_leaves ty.Unknown a i = broken_leaves cx _

  pub indexed_value_leaves : (a i : Option Operand)
      → Leaves cx.line (indexed_value cx a i)
  indexed_value_leaves None i = done typed.Spoiled
  indexed_value_leaves (Some a) None = done typed.Spoiled
  indexed_value_leaves (Some a) (Some i) = either_leaves (is_int i.ty) _ _ (indexed_pointer_leaves a.ty a.term i.term) (broken_leaves cx _)

  -- ---- the object before a dot or an arrow

  no_object_leaves : Leaves cx.line (no_object cx)
  no_object_leaves = next (note_rule_leaves cx _) (done None)

  before_dot_leaves : (t : Typed) → Leaves cx.line (before_dot cx t)
  before_dot_leaves typed.Broken = done None
  before_dot_leaves typed.Spoiled = done None
  before_dot_leaves (typed.Value v) = no_object_leaves
  before_dot_leaves (typed.This class remote) = no_object_leaves
  before_dot_leaves (typed.Constant term value) = no_object_leaves
  before_dot_leaves (typed.Place p) = no_object_leaves
  before_dot_leaves (typed.Array p k) = no_object_leaves
  before_dot_leaves (typed.Object o) = done (Some o)

  target_object_leaves : (t : Target) (x : Expression) (remote : Bool) → Leaves cx.line (target_object t cx x remote)
  target_object_leaves target.Int x remote = no_object_leaves
  target_object_leaves target.SyncInt x remote = no_object_leaves
  target_object_leaves (target.Class class) x remote = done (Some (object_behind class x remote))

  pointed_by_leaves : (t : Ty) (x : Expression) → Leaves cx.line (pointed_by t cx x)
  pointed_by_leaves (ty.Pointer to remote) x = target_object_leaves to x remote
  pointed_by_leaves ty.Int x = no_object_leaves
  pointed_by_leaves ty.Null x = no_object_leaves
  pointed_by_leaves ty.Void x = no_object_leaves
  pointed_by_leaves ty.Unknown x = no_object_leaves

  pointed_object_leaves : (v : Option Operand) → Leaves cx.line (pointed_object cx v)
  pointed_object_leaves None = done None
  pointed_object_leaves (Some v) = pointed_by_leaves v.ty v.term

  value_before_arrow_leaves : (t : Typed) → Leaves cx.line (value_before_arrow cx t)
  unfolding value_before_arrow
  value_before_arrow_leaves t = bind (decay_leaves cx t) (λ v. (pointed_object_leaves v))

  before_arrow_leaves : (t : Typed) → Leaves cx.line (before_arrow cx t)
  before_arrow_leaves (typed.This class remote) = done (Some (object_behind class e.This false))
  before_arrow_leaves typed.Broken = value_before_arrow_leaves typed.Broken
  before_arrow_leaves typed.Spoiled = value_before_arrow_leaves typed.Spoiled
  before_arrow_leaves (typed.Value v) = value_before_arrow_leaves (typed.Value v)
  before_arrow_leaves (typed.Constant term value) = value_before_arrow_leaves (typed.Constant term value)
  before_arrow_leaves (typed.Place p) = value_before_arrow_leaves (typed.Place p)
  before_arrow_leaves (typed.Array p k) = value_before_arrow_leaves (typed.Array p k)
  before_arrow_leaves (typed.Object o) = value_before_arrow_leaves (typed.Object o)

  pub object_of_leaves : (arrow : Bool) (t : Typed) → Leaves cx.line (object_of cx arrow t)
  object_of_leaves true t = before_arrow_leaves t
  object_of_leaves false t = before_dot_leaves t

  -- ---- members

  field_as_leaves : (x : Meaning) (o : Object) → Leaves cx.line (field_as x cx o)
  field_as_leaves (m.Field declared offset) o = done (field_at o declared offset)
  field_as_leaves m.Nothing o = broken_leaves cx _
  field_as_leaves (m.Variable found) o = broken_leaves cx _
  field_as_leaves (m.Method f) o = broken_leaves cx _
  field_as_leaves (m.Constant b z) o = broken_leaves cx _
  field_as_leaves (m.Function f) o = broken_leaves cx _

  pub field_of_leaves : (text : Name) (o : Option Object) → Leaves cx.line (field_of cx text o)
  field_of_leaves text None = done typed.Spoiled
  field_of_leaves text (Some o) = field_as_leaves (meant_in (member_of cx o.class text)) o

  call_as_leaves : (x : Meaning) (o : Object) (a : Args) → Leaves cx.line (call_as x cx o a)
  call_as_leaves (m.Method f) o a = (called_leaves cx f (callee_at o.remote o.address) a)
  call_as_leaves m.Nothing o a = broken_leaves cx _
  call_as_leaves (m.Variable found) o a = broken_leaves cx _
  call_as_leaves (m.Field declared offset) o a = broken_leaves cx _
  call_as_leaves (m.Constant b z) o a = broken_leaves cx _
  call_as_leaves (m.Function f) o a = broken_leaves cx _

  pub call_member_leaves : (text : Name) (o : Option Object) (a : Option Args)
      → Leaves cx.line (call_member cx text o a)
  call_member_leaves text None a = done typed.Spoiled
  call_member_leaves text (Some o) None = done typed.Spoiled
  call_member_leaves text (Some o) (Some a) = call_as_leaves (meant_in (member_of cx o.class text)) o a

  made_leaves : (class : ClassId) (k : Class) (a : Args) → Leaves cx.line (made cx class k.remote a.terms)
  unfolding made
  made_leaves class k a = next (block_if_leaves k.remote cx.line) (done (typed.Value (object_made class k.remote a.terms)))

  made_unless_leaves : (r : Option StaticRule) (class : ClassId) (k : Class) (a : Args) → Leaves cx.line (made_unless r cx class k.remote a.terms)
  made_unless_leaves (Some rule) class k a = broken_leaves cx rule
  made_unless_leaves None class k a = made_leaves class k a

  made_of_leaves : (o : Option Class) (class : ClassId) (a : Args) → Leaves cx.line (made_of o cx class a)
  made_of_leaves None class a = broken_leaves cx _
  made_of_leaves (Some k) class a = made_unless_leaves (args_rule k.constructor a.types) class k a

  new_named_leaves : (o : Option ClassId) (a : Args) → Leaves cx.line (new_named o cx a)
  new_named_leaves None a = broken_leaves cx _
  new_named_leaves (Some class) a = made_of_leaves (class_at cx class) class a

  pub new_object_leaves : (o : Option ClassId) (a : Option Args) → Leaves cx.line (new_object cx o a)
  new_object_leaves o None = done typed.Spoiled
  new_object_leaves o (Some a) = new_named_leaves o a
