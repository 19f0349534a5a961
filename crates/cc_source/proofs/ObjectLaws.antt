-- Elements, members, calls on objects, and new objects.
use Rattle.std.proofs.Common.{◌≡◌, ℕ, ◌∙◌, sym, Bool, true, false, cond, length, Option, Some, None, refl}
use Rattle.std.specs.Prelude.{slice_get}
use Rattle.cc_core.specs.declared.expression.Expression.{Expression}
use Rattle.cc_core.specs.declared.expression.Expression.TheVariants as e
use Rattle.cc_core.specs.Core.{Shapes}
use Rattle.cc_names.specs.Table.{Name}
use Rattle.cc_names.specs.declared.declarations.ClassId.{ClassId}
use Rattle.cc_names.specs.declared.rule.StaticRule.{StaticRule}
use Rattle.cc_typing.specs.declared.calls.Args.{Args}
use Rattle.cc_scopes.specs.declared.meaning.Meaning.{Meaning}
use Rattle.cc_scopes.specs.declared.meaning.Meaning.TheVariants as m
use Rattle.cc_scopes.specs.declared.state.State.{State}
use Rattle.cc_scopes.specs.declared.tables.Class.{Class}
use Rattle.cc_scopes.specs.declared.typed.Object.{Object}
use Rattle.cc_scopes.specs.declared.typed.Operand.{Operand}
use Rattle.cc_scopes.specs.declared.typed.Place.{Place}
use Rattle.cc_scopes.specs.declared.typed.Root.TheVariants as root
use Rattle.cc_scopes.specs.declared.typed.Typed.{Typed}
use Rattle.cc_scopes.specs.declared.typed.Typed.TheVariants as typed
use Rattle.cc_scopes.specs.declared.types.Target.{Target}
use Rattle.cc_scopes.specs.declared.types.Target.TheVariants as target
use Rattle.cc_scopes.specs.declared.types.Ty.{Ty}
use Rattle.cc_scopes.specs.declared.types.Ty.TheVariants as ty
use Rattle.cc_scopes.specs.Elab.{Elab}
use Rattle.cc_scopes.specs.Scope.{Context}
use Rattle.cc_scopes.specs.Types.{is_int, int_kind}
use Rattle.cc_scopes.specs.Meaning.{class_at, member_of, meant_in}
use Rattle.cc_typing.specs.Calls.{args_rule}
use Rattle.cc_typing.specs.Objects.{element, indexed_array, element_behind, indexed_target, indexed_pointer, indexed_value, no_object, object_behind, before_dot}
use Rattle.cc_typing.specs.Objects.{target_object, pointed_by, pointed_object, value_before_arrow, before_arrow, object_of, field_at, field_as, field_of}
use Rattle.cc_typing.specs.Objects.{callee_at, call_as, call_member}
use Rattle.cc_typing.specs.New.{new_array, object_made, made, made_unless, made_of, new_named, new_object}
use Rattle.cc_source.proofs.Runs.{IfThere, given, bind, next, done}
use Rattle.cc_source.proofs.FitLaws.{width_of, this_fits, index_fits, at_fits, member_fits, new_fits, new_object_fits}
use Rattle.cc_source.proofs.Fits.{ExpressionFits}
use Rattle.cc_source.proofs.Sound.{IsLength, HasMaker, MeaningFits, Reads, knowing, OperandFits, TypedFits}
use Rattle.cc_source.proofs.StateLaws.{block_if_runs}
use Rattle.cc_source.proofs.ScopeLaws.{meant_in_fits, broken_runs, note_rule_runs, decay_runs, placed_fits}
use Rattle.cc_source.proofs.CallLaws.{ArgsFit, CalleeFits, args_counted, called_runs}

abbrev pub ObjectFits : Shapes → State → Object → Type 0
ObjectFits h last o = ExpressionFits h last o.address

module _ (h : Shapes) (last : State) (cx : Context) where
  if_runs : {P : Type 0} (b : Bool) (p q : Elab Typed) → Reads h last cx P p (TypedFits h last) → Reads h last cx P q (TypedFits h last)
      → Reads h last cx P (cond b p q) (TypedFits h last)
  if_runs true p q x y = x
  if_runs false p q x y = y

  -- ---- elements

  pub indexed_array_runs : (p : Place) (k : ℕ) (i : Option Operand)
      → Reads h last cx (TypedFits h last (typed.Array p k) × IfThere (OperandFits h last) i) (indexed_array cx p k i) (TypedFits h last)
  indexed_array_runs p k None = done typed.Spoiled (λ x. tt)
  indexed_array_runs p k (Some i) = if_runs (is_int i.ty) _ _
      (done (element p k i.term) (λ x. index_fits h last p.address k i.term x.0.0 x.1 x.0.1)) (broken_runs h last cx _)

  indexed_target_runs : (t : Target) (remote : Bool) (a i : Expression)
      → Reads h last cx (ExpressionFits h last a × ExpressionFits h last i) (indexed_target t cx remote a i) (TypedFits h last)
  indexed_target_runs target.Int remote a i = done (element_behind a i false remote) (λ x. at_fits h last a i x.0 x.1)
  indexed_target_runs target.SyncInt remote a i = done (element_behind a i true remote) (λ x. at_fits h last a i x.0 x.1)
  indexed_target_runs (target.Class class) remote a i = broken_runs h last cx _

  indexed_pointer_runs : (t : Ty) (a i : Expression)
      → Reads h last cx (ExpressionFits h last a × ExpressionFits h last i) (indexed_pointer t cx a i) (TypedFits h last)
  indexed_pointer_runs (ty.Pointer to remote) a i = indexed_target_runs to remote a i
  indexed_pointer_runs ty.Int a i = broken_runs h last cx _
  indexed_pointer_runs ty.Null a i = broken_runs h last cx _
  indexed_pointer_runs ty.Void a i = broken_runs h last cx _
  indexed_pointer_runs ty.Unknown a i = broken_runs h last cx _

  pub indexed_value_runs : (a i : Option Operand)
      → Reads h last cx (IfThere (OperandFits h last) a × IfThere (OperandFits h last) i) (indexed_value cx a i) (TypedFits h last)
  indexed_value_runs None i = done typed.Spoiled (λ x. tt)
  indexed_value_runs (Some a) None = done typed.Spoiled (λ x. tt)
  indexed_value_runs (Some a) (Some i) = if_runs (is_int i.ty) _ _ (indexed_pointer_runs a.ty a.term i.term) (broken_runs h last cx _)

  -- ---- the object before a dot or an arrow

  no_object_runs : {P : Type 0} → Reads h last cx P (no_object cx) (IfThere (ObjectFits h last))
  no_object_runs = next (note_rule_runs h last cx _) (done None (λ x. tt))

  before_dot_runs : (t : Typed) → Reads h last cx (TypedFits h last t) (before_dot cx t) (IfThere (ObjectFits h last))
  before_dot_runs typed.Broken = done None (λ x. tt)
  before_dot_runs typed.Spoiled = done None (λ x. tt)
  before_dot_runs (typed.Value v) = no_object_runs
  before_dot_runs (typed.This class remote) = no_object_runs
  before_dot_runs (typed.Constant term value) = no_object_runs
  before_dot_runs (typed.Place p) = no_object_runs
  before_dot_runs (typed.Array p k) = no_object_runs
  before_dot_runs (typed.Object o) = done (Some o) (λ x. x)

  target_object_runs : (t : Target) (x : Expression) (remote : Bool)
      → Reads h last cx (ExpressionFits h last x) (target_object t cx x remote) (IfThere (ObjectFits h last))
  target_object_runs target.Int x remote = no_object_runs
  target_object_runs target.SyncInt x remote = no_object_runs
  target_object_runs (target.Class class) x remote = done (Some (object_behind class x remote)) (λ p. p)

  pointed_by_runs : (t : Ty) (x : Expression) → Reads h last cx (ExpressionFits h last x) (pointed_by t cx x) (IfThere (ObjectFits h last))
  pointed_by_runs (ty.Pointer to remote) x = target_object_runs to x remote
  pointed_by_runs ty.Int x = no_object_runs
  pointed_by_runs ty.Null x = no_object_runs
  pointed_by_runs ty.Void x = no_object_runs
  pointed_by_runs ty.Unknown x = no_object_runs

  pointed_object_runs : (v : Option Operand) → Reads h last cx (IfThere (OperandFits h last) v) (pointed_object cx v) (IfThere (ObjectFits h last))
  pointed_object_runs None = done None (λ x. tt)
  pointed_object_runs (Some v) = pointed_by_runs v.ty v.term

  value_before_arrow_runs : (t : Typed) → Reads h last cx (TypedFits h last t) (value_before_arrow cx t) (IfThere (ObjectFits h last))
  unfolding value_before_arrow
  value_before_arrow_runs t = bind (decay_runs h last cx t) (λ v. given (λ x. x.1) (pointed_object_runs v))

  before_arrow_runs : (t : Typed) → Reads h last cx (TypedFits h last t) (before_arrow cx t) (IfThere (ObjectFits h last))
  before_arrow_runs (typed.This class remote) = done (Some (object_behind class e.This false)) (λ x. this_fits h last)
  before_arrow_runs typed.Broken = value_before_arrow_runs typed.Broken
  before_arrow_runs typed.Spoiled = value_before_arrow_runs typed.Spoiled
  before_arrow_runs (typed.Value v) = value_before_arrow_runs (typed.Value v)
  before_arrow_runs (typed.Constant term value) = value_before_arrow_runs (typed.Constant term value)
  before_arrow_runs (typed.Place p) = value_before_arrow_runs (typed.Place p)
  before_arrow_runs (typed.Array p k) = value_before_arrow_runs (typed.Array p k)
  before_arrow_runs (typed.Object o) = value_before_arrow_runs (typed.Object o)

  pub object_of_runs : (arrow : Bool) (t : Typed) → Reads h last cx (TypedFits h last t) (object_of cx arrow t) (IfThere (ObjectFits h last))
  object_of_runs true t = before_arrow_runs t
  object_of_runs false t = before_dot_runs t

  -- ---- members

  field_as_runs : (x : Meaning) (o : Object) → Reads h last cx (ObjectFits h last o × MeaningFits last x) (field_as x cx o) (TypedFits h last)
  field_as_runs (m.Field declared offset) o = done (field_at o declared offset) (λ x.
      placed_fits h last (e.Member o.address offset) declared o.remote root.Member x.1 (member_fits h last o.address offset x.0))
  field_as_runs m.Nothing o = broken_runs h last cx _
  field_as_runs (m.Variable found) o = broken_runs h last cx _
  field_as_runs (m.Method f) o = broken_runs h last cx _
  field_as_runs (m.Constant b z) o = broken_runs h last cx _
  field_as_runs (m.Function f) o = broken_runs h last cx _

  pub field_of_runs : (text : Name) (o : Option Object) → Reads h last cx (IfThere (ObjectFits h last) o) (field_of cx text o) (TypedFits h last)
  field_of_runs text None = done typed.Spoiled (λ x. tt)
  field_of_runs text (Some o) = knowing h last cx (λ agree x. (x, meant_in_fits h cx agree last o.class text))
      (field_as_runs (meant_in (member_of cx o.class text)) o)

  -- ---- calls on objects

  callee_at_fits : (b : Bool) (x : Expression) → ExpressionFits h last x → CalleeFits h last (callee_at b x)
  callee_at_fits true x p = p
  callee_at_fits false x p = p

  call_as_runs : (x : Meaning) (o : Object) (a : Args)
      → Reads h last cx (ObjectFits h last o × ArgsFit h last a) (call_as x cx o a) (TypedFits h last)
  call_as_runs (m.Method f) o a = given (λ x. (callee_at_fits o.remote o.address x.0, x.1)) (called_runs h last cx f (callee_at o.remote o.address) a)
  call_as_runs m.Nothing o a = broken_runs h last cx _
  call_as_runs (m.Variable found) o a = broken_runs h last cx _
  call_as_runs (m.Field declared offset) o a = broken_runs h last cx _
  call_as_runs (m.Constant b z) o a = broken_runs h last cx _
  call_as_runs (m.Function f) o a = broken_runs h last cx _

  pub call_member_runs : (text : Name) (o : Option Object) (a : Option Args)
      → Reads h last cx (IfThere (ObjectFits h last) o × IfThere (ArgsFit h last) a) (call_member cx text o a) (TypedFits h last)
  call_member_runs text None a = done typed.Spoiled (λ x. tt)
  call_member_runs text (Some o) None = done typed.Spoiled (λ x. tt)
  call_member_runs text (Some o) (Some a) = call_as_runs (meant_in (member_of cx o.class text)) o a

  -- ---- new objects

  made_runs : (class : ClassId) (k : Class) (a : Args) → length a.types ≡ length k.constructor
      → Reads h last cx (ArgsFit h last a × HasMaker h class.0 k) (made cx class k.remote a.terms) (TypedFits h last)
  unfolding made
  made_runs class k a is = next (block_if_runs h last cx k.remote cx.line) (done (typed.Value (object_made class k.remote a.terms)) (λ x.
      new_object_fits h last k.remote class.0 a.terms x.0.0 (x.1.0, width_of a.terms ∙ (sym x.0.1 ∙ (is ∙ sym x.1.1)))))

  made_unless_runs : (r : Option StaticRule) (class : ClassId) (k : Class) (a : Args) → args_rule k.constructor a.types ≡ r
      → Reads h last cx (ArgsFit h last a × HasMaker h class.0 k) (made_unless r cx class k.remote a.terms) (TypedFits h last)
  made_unless_runs (Some rule) class k a is = broken_runs h last cx rule
  made_unless_runs None class k a is = made_runs class k a (args_counted k.constructor a.types is)

  made_of_runs : (o : Option Class) (class : ClassId) (a : Args) → slice_get cx.tables.classes class.0 ≡ o
      → Reads h last cx (ArgsFit h last a) (made_of o cx class a) (TypedFits h last)
  made_of_runs None class a is = broken_runs h last cx _
  made_of_runs (Some k) class a is = knowing h last cx (λ agree x. (x, agree.classes class.0 k is))
      (made_unless_runs (args_rule k.constructor a.types) class k a refl)

  new_named_runs : (o : Option ClassId) (a : Args) → Reads h last cx (ArgsFit h last a) (new_named o cx a) (TypedFits h last)
  new_named_runs None a = broken_runs h last cx _
  new_named_runs (Some class) a = made_of_runs (class_at cx class) class a refl

  pub new_object_runs : (o : Option ClassId) (a : Option Args) → Reads h last cx (IfThere (ArgsFit h last) a) (new_object cx o a) (TypedFits h last)
  new_object_runs o None = done typed.Spoiled (λ x. tt)
  new_object_runs o (Some a) = new_named_runs o a

pub new_array_fits : (h : Shapes) (last : State) (sync : Bool) (k : Option ℕ) → IfThere IsLength k → TypedFits h last (new_array sync k)
new_array_fits h last sync None p = tt
new_array_fits h last sync (Some k) p = new_fits h last (int_kind sync) k p.0
