-- Elements, members, calls on objects, and new objects.
use Rattle.std.proofs.Common.{List, ℕ, Bool, true, false, cond, Option, Some, None}
use Rattle.cc_core.specs.declared.expression.Expression.{Expression}
use Rattle.cc_core.specs.declared.expression.Expression.TheVariants as e
use Rattle.cc_names.specs.Table.{Name}
use Rattle.cc_names.specs.declared.declarations.ClassId.{ClassId}
use Rattle.cc_names.specs.declared.rule.StaticRule.{StaticRule}
use Rattle.cc_typing.specs.declared.calls.Args.{Args}
use Rattle.cc_scopes.specs.declared.meaning.Meaning.{Meaning}
use Rattle.cc_scopes.specs.declared.meaning.Meaning.TheVariants as m
use Rattle.cc_scopes.specs.declared.tables.Class.{Class}
use Rattle.cc_scopes.specs.declared.typed.Object.{Object}
use Rattle.cc_scopes.specs.declared.typed.Operand.{Operand}
use Rattle.cc_scopes.specs.declared.typed.Place.{Place}
use Rattle.cc_scopes.specs.declared.typed.Root.TheVariants as root
use Rattle.cc_scopes.specs.declared.typed.Typed.{Typed}
use Rattle.cc_scopes.specs.declared.typed.Typed.TheVariants as typed
use Rattle.cc_scopes.specs.declared.types.Target.{Target}
use Rattle.cc_scopes.specs.declared.types.Target.TheVariants as target
use Rattle.cc_scopes.specs.declared.types.Ty.{Ty}
use Rattle.cc_scopes.specs.declared.types.Ty.TheVariants as ty
use Rattle.cc_scopes.specs.Elab.{Elab}
use Rattle.cc_scopes.specs.Scope.{Context}
use Rattle.cc_scopes.specs.Types.{is_int, int_kind}
use Rattle.cc_scopes.specs.Meaning.{class_at, member_of, meant_in}
use Rattle.cc_typing.specs.Calls.{args_rule}
use Rattle.cc_typing.specs.Objects.{element, indexed_array, element_behind, indexed_target, indexed_pointer, indexed_value, no_object, object_behind, before_dot}
use Rattle.cc_typing.specs.Objects.{target_object, pointed_by, pointed_object, value_before_arrow, before_arrow, object_of, field_at, field_as, field_of}
use Rattle.cc_typing.specs.Objects.{callee_at, call_as, call_member}
use Rattle.cc_typing.specs.New.{new_array, object_made, made, made_unless, made_of, new_named, new_object}
use Rattle.law_scopes.proofs.Runs.{IfThere, given, bind, next, done}
use Rattle.law_scopes.proofs.TermLaws.{this_fits, index_fits, at_fits, member_fits, new_fits, new_object_fits}
use Rattle.cc_scopes.specs.declared.state.State.{State}
use Rattle.law_scopes.specs.Variables.{Names, AllName, TypedNames}
use Rattle.law_scopes.proofs.Reading.{Reads, OperandFits}
use Rattle.law_scopes.proofs.ScopeLaws.{block_if_runs}
use Rattle.law_scopes.proofs.ScopeLaws.{broken_runs, note_rule_runs, decay_runs, placed_fits}
use Rattle.law_scopes.proofs.CallLaws.{ArgsFit, CalleeFits, called_runs}

abbrev pub ObjectFits : (ℕ → Type 0) → State → Object → Type 0
ObjectFits V from o = Names V o.address

module _ (V : ℕ → Type 0) (from : State) (cx : Context) where
  if_runs : {P : Type 0} (b : Bool) (p q : Elab Typed) → Reads from P p (TypedNames V) → Reads from P q (TypedNames V) → Reads from P (cond b p q) (TypedNames V)
  if_runs true p q x y = x
  if_runs false p q x y = y

  -- ---- elements

  pub indexed_array_runs : (p : Place) (k : ℕ) (i : Option Operand)
      → Reads from (TypedNames V (typed.Array p k) × IfThere (OperandFits V from) i) (indexed_array cx p k i) (TypedNames V)
  indexed_array_runs p k None = done typed.Spoiled (λ x. tt)
  indexed_array_runs p k (Some i) = if_runs (is_int i.ty) _ _
      (done (element p k i.term) (λ x. index_fits V p.address k i.term x.0 x.1)) (broken_runs V from cx _)

  indexed_target_runs : (t : Target) (remote : Bool) (a i : Expression)
      → Reads from (Names V a × Names V i) (indexed_target t cx remote a i) (TypedNames V)
  indexed_target_runs target.Int remote a i = done (element_behind a i false remote) (λ x. at_fits V a i x.0 x.1)
  indexed_target_runs target.SyncInt remote a i = done (element_behind a i true remote) (λ x. at_fits V a i x.0 x.1)
  indexed_target_runs (target.Class class) remote a i = broken_runs V from cx _

  indexed_pointer_runs : (t : Ty) (a i : Expression)
      → Reads from (Names V a × Names V i) (indexed_pointer t cx a i) (TypedNames V)
  indexed_pointer_runs (ty.Pointer to remote) a i = indexed_target_runs to remote a i
  indexed_pointer_runs ty.Int a i = broken_runs V from cx _
  indexed_pointer_runs ty.Null a i = broken_runs V from cx _
  indexed_pointer_runs ty.Void a i = broken_runs V from cx _
  indexed_pointer_runs ty.Unknown a i = broken_runs V from cx _

  pub indexed_value_runs : (a i : Option Operand)
      → Reads from (IfThere (OperandFits V from) a × IfThere (OperandFits V from) i) (indexed_value cx a i) (TypedNames V)
  indexed_value_runs None i = done typed.Spoiled (λ x. tt)
  indexed_value_runs (Some a) None = done typed.Spoiled (λ x. tt)
  indexed_value_runs (Some a) (Some i) = if_runs (is_int i.ty) _ _ (indexed_pointer_runs a.ty a.term i.term) (broken_runs V from cx _)

  -- ---- the object before a dot or an arrow

  no_object_runs : {P : Type 0} → Reads from P (no_object cx) (IfThere (ObjectFits V from))
  no_object_runs = next (note_rule_runs V from cx _) (done None (λ x. tt))

  before_dot_runs : (t : Typed) → Reads from (TypedNames V t) (before_dot cx t) (IfThere (ObjectFits V from))
  before_dot_runs typed.Broken = done None (λ x. tt)
  before_dot_runs typed.Spoiled = done None (λ x. tt)
  before_dot_runs (typed.Value v) = no_object_runs
  before_dot_runs (typed.This class remote) = no_object_runs
  before_dot_runs (typed.Constant term value) = no_object_runs
  before_dot_runs (typed.Place p) = no_object_runs
  before_dot_runs (typed.Array p k) = no_object_runs
  before_dot_runs (typed.Object o) = done (Some o) (λ x. x)

  target_object_runs : (t : Target) (x : Expression) (remote : Bool) → Reads from (Names V x) (target_object t cx x remote) (IfThere (ObjectFits V from))
  target_object_runs target.Int x remote = no_object_runs
  target_object_runs target.SyncInt x remote = no_object_runs
  target_object_runs (target.Class class) x remote = done (Some (object_behind class x remote)) (λ p. p)

  pointed_by_runs : (t : Ty) (x : Expression) → Reads from (Names V x) (pointed_by t cx x) (IfThere (ObjectFits V from))
  pointed_by_runs (ty.Pointer to remote) x = target_object_runs to x remote
  pointed_by_runs ty.Int x = no_object_runs
  pointed_by_runs ty.Null x = no_object_runs
  pointed_by_runs ty.Void x = no_object_runs
  pointed_by_runs ty.Unknown x = no_object_runs

  pointed_object_runs : (v : Option Operand) → Reads from (IfThere (OperandFits V from) v) (pointed_object cx v) (IfThere (ObjectFits V from))
  pointed_object_runs None = done None (λ x. tt)
  pointed_object_runs (Some v) = pointed_by_runs v.ty v.term

  value_before_arrow_runs : (t : Typed) → Reads from (TypedNames V t) (value_before_arrow cx t) (IfThere (ObjectFits V from))
  unfolding value_before_arrow
  value_before_arrow_runs t = bind (decay_runs V from cx t) (λ v. given (λ x. x.1) (pointed_object_runs v))

  before_arrow_runs : (t : Typed) → Reads from (TypedNames V t) (before_arrow cx t) (IfThere (ObjectFits V from))
  before_arrow_runs (typed.This class remote) = done (Some (object_behind class e.This false)) (λ x. this_fits V)
  before_arrow_runs typed.Broken = value_before_arrow_runs typed.Broken
  before_arrow_runs typed.Spoiled = value_before_arrow_runs typed.Spoiled
  before_arrow_runs (typed.Value v) = value_before_arrow_runs (typed.Value v)
  before_arrow_runs (typed.Constant term value) = value_before_arrow_runs (typed.Constant term value)
  before_arrow_runs (typed.Place p) = value_before_arrow_runs (typed.Place p)
  before_arrow_runs (typed.Array p k) = value_before_arrow_runs (typed.Array p k)
  before_arrow_runs (typed.Object o) = value_before_arrow_runs (typed.Object o)

  pub object_of_runs : (arrow : Bool) (t : Typed) → Reads from (TypedNames V t) (object_of cx arrow t) (IfThere (ObjectFits V from))
  object_of_runs true t = before_arrow_runs t
  object_of_runs false t = before_dot_runs t

  -- ---- members

  field_as_runs : (x : Meaning) (o : Object) → Reads from (ObjectFits V from o) (field_as x cx o) (TypedNames V)
  field_as_runs (m.Field declared offset) o = done (field_at o declared offset) (λ x.
      placed_fits V from (e.Member o.address offset) declared o.remote root.Member (member_fits V o.address offset x))
  field_as_runs m.Nothing o = broken_runs V from cx _
  field_as_runs (m.Variable found) o = broken_runs V from cx _
  field_as_runs (m.Method f) o = broken_runs V from cx _
  field_as_runs (m.Constant b z) o = broken_runs V from cx _
  field_as_runs (m.Function f) o = broken_runs V from cx _

  pub field_of_runs : (text : Name) (o : Option Object) → Reads from (IfThere (ObjectFits V from) o) (field_of cx text o) (TypedNames V)
  field_of_runs text None = done typed.Spoiled (λ x. tt)
  field_of_runs text (Some o) = field_as_runs (meant_in (member_of cx o.class text)) o

  -- ---- calls on objects

  callee_at_fits : (b : Bool) (x : Expression) → Names V x → CalleeFits V from (callee_at b x)
  callee_at_fits true x p = p
  callee_at_fits false x p = p

  call_as_runs : (x : Meaning) (o : Object) (a : Args) → Reads from (ObjectFits V from o × ArgsFit V from a) (call_as x cx o a) (TypedNames V)
  call_as_runs (m.Method f) o a = given (λ x. (callee_at_fits o.remote o.address x.0, x.1)) (called_runs V from cx f (callee_at o.remote o.address) a)
  call_as_runs m.Nothing o a = broken_runs V from cx _
  call_as_runs (m.Variable found) o a = broken_runs V from cx _
  call_as_runs (m.Field declared offset) o a = broken_runs V from cx _
  call_as_runs (m.Constant b z) o a = broken_runs V from cx _
  call_as_runs (m.Function f) o a = broken_runs V from cx _

  pub call_member_runs : (text : Name) (o : Option Object) (a : Option Args)
      → Reads from (IfThere (ObjectFits V from) o × IfThere (ArgsFit V from) a) (call_member cx text o a) (TypedNames V)
  call_member_runs text None a = done typed.Spoiled (λ x. tt)
  call_member_runs text (Some o) None = done typed.Spoiled (λ x. tt)
  call_member_runs text (Some o) (Some a) = call_as_runs (meant_in (member_of cx o.class text)) o a

  -- ---- new objects

  made_runs : (class : ClassId) (remote : Bool) (es : List Expression) → Reads from (AllName V es) (made cx class remote es) (TypedNames V)
  unfolding made
  made_runs class remote es = next (block_if_runs from remote cx.line) (done (typed.Value (object_made class remote es)) (λ x.
      new_object_fits V remote class.0 es x))

  made_unless_runs : (r : Option StaticRule) (class : ClassId) (remote : Bool) (es : List Expression)
      → Reads from (AllName V es) (made_unless r cx class remote es) (TypedNames V)
  made_unless_runs (Some rule) class remote es = broken_runs V from cx rule
  made_unless_runs None class remote es = made_runs class remote es

  made_of_runs : (o : Option Class) (class : ClassId) (a : Args) → Reads from (ArgsFit V from a) (made_of o cx class a) (TypedNames V)
  made_of_runs None class a = broken_runs V from cx _
  made_of_runs (Some k) class a = made_unless_runs (args_rule k.constructor a.types) class k.remote a.terms

  new_named_runs : (o : Option ClassId) (a : Args) → Reads from (ArgsFit V from a) (new_named o cx a) (TypedNames V)
  new_named_runs None a = broken_runs V from cx _
  new_named_runs (Some class) a = made_of_runs (class_at cx class) class a

  pub new_object_runs : (o : Option ClassId) (a : Option Args) → Reads from (IfThere (ArgsFit V from) a) (new_object cx o a) (TypedNames V)
  new_object_runs o None = done typed.Spoiled (λ x. tt)
  new_object_runs o (Some a) = new_named_runs o a

pub new_array_fits : (V : ℕ → Type 0) (sync : Bool) (k : Option ℕ) → TypedNames V (new_array sync k)
new_array_fits V sync None = tt
new_array_fits V sync (Some k) = new_fits V (int_kind sync) k
