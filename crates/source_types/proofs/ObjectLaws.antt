-- Elements, members, calls on objects, and new objects.
use Rattle.cc_core.specs.Core as core
use Rattle.cc_core.specs.Names as names
use Rattle.core_types.specs.Types.{ValueType, AnInt, Pointer, Cells, ObjectOf, MemberOf, PartOf, Types}
use Rattle.core_types.specs.Types.{function_types, class_types, AllCross, Allowed}
use Rattle.core_types.specs.Values.{World}
use Rattle.core_types.specs.Typing.{Scope, PassAll}
use Rattle.std.proofs.Common.{◌≡◌, ℕ, subst, sym, Bool, true, false, cond, List, Option, Some, None, refl}
use Rattle.std.specs.Prelude.{slice_get}
use Rattle.cc_core.specs.declared.expression.Expression.{Expression}
use Rattle.cc_core.specs.declared.expression.Expression.TheVariants as e
use Rattle.cc_core.specs.Core.{Term, Variable, Index}
use Rattle.std.proofs.lemmas.Bool.{true≢false}
use Rattle.cc_scopes.specs.declared.state.Local.{Local}
use Rattle.cc_scopes.specs.declared.types.Declared.{Declared}
use Rattle.cc_scopes.specs.declared.typed.Root.{Root}
use Rattle.cc_names.specs.Table.{Name}
use Rattle.cc_names.specs.declared.declarations.ClassId.{ClassId}
use Rattle.cc_names.specs.declared.rule.StaticRule.{StaticRule}
use Rattle.cc_typing.specs.declared.calls.Args.{Args}
use Rattle.cc_names.specs.declared.declarations.FunId.{FunId}
use Rattle.cc_scopes.specs.declared.meaning.Meaning.{Meaning}
use Rattle.cc_scopes.specs.declared.meaning.Meaning.TheVariants as m
use Rattle.cc_scopes.specs.declared.tables.Class.{Class}
use Rattle.cc_scopes.specs.declared.typed.Object.{Object}
use Rattle.cc_scopes.specs.declared.typed.Operand.{Operand}
use Rattle.cc_scopes.specs.declared.typed.Place.{Place}
use Rattle.cc_scopes.specs.declared.typed.Root.TheVariants as root
use Rattle.cc_scopes.specs.declared.typed.Typed.{Typed}
use Rattle.cc_scopes.specs.declared.typed.Typed.TheVariants as typed
use Rattle.cc_scopes.specs.declared.types.Target.{Target}
use Rattle.cc_scopes.specs.declared.types.Target.TheVariants as target
use Rattle.cc_scopes.specs.declared.types.Ty.{Ty}
use Rattle.cc_scopes.specs.declared.types.Ty.TheVariants as ty
use Rattle.cc_scopes.specs.Elab.{Elab}
use Rattle.cc_scopes.specs.Scope.{Context}
use Rattle.cc_scopes.specs.Types.{is_int, int_kind}
use Rattle.cc_scopes.specs.Meaning.{class_at, member_of, meant_in}
use Rattle.cc_typing.specs.Calls.{args_rule}
use Rattle.cc_typing.specs.Objects.{element, indexed_array, element_behind, indexed_target, indexed_pointer, indexed_value, no_object, object_behind, before_dot}
use Rattle.cc_typing.specs.Objects.{target_object, pointed_by, pointed_object, value_before_arrow, before_arrow, object_of, field_at, field_as, field_of}
use Rattle.cc_typing.specs.Objects.{callee_at, call_as, call_member}
use Rattle.cc_typing.specs.New.{new_cells, new_array, object_made, made, made_unless, made_of, new_named, new_object}
use Rattle.source_types.specs.Reading.{IsThere}
use Rattle.source_types.proofs.Runs.{given, bind, done}
use Rattle.source_types.proofs.Forms.{this_values, new_values, new_object_values, index_values, at_values}
use Rattle.source_types.specs.TypesOf.{value_type}
use Rattle.source_types.specs.Reading.{Stands, MakerFits, Grown}
use Rattle.source_types.proofs.Fits.{Reads, Values, OperandBy, OperandFits, ObjectFits, MeaningIn, PlaceFits, MemberArray, VariableArray, ArrayBy, TypedFits}
use Rattle.source_types.proofs.StateLaws.{block_if_runs}
use Rattle.source_types.proofs.LengthLaws.{IsLength}
use Rattle.source_types.proofs.ScopeLaws.{meant_in_fits, never, decay_runs, field_fits}
use Rattle.source_types.proofs.OperatorLaws.{int_values}
use Rattle.source_types.proofs.CallLaws.{ArgsFit, CalleeFits, make_fits, called_runs}

module _ (program : core.Program) (y : Types) (world : World) (home : names.Name) (here : Scope) (F : Type 0) (grown : Grown) (ds : List Declared) (ls : List Local) (cx : Context) (same : F → grown.waits ≡ here.waits) where
  if_runs : {P : Type 0} (b : Bool) (p q : Elab Typed) → (b ≡ true → Reads F grown ds ls P p (TypedFits program y world home here))
      → Reads F grown ds ls P q (TypedFits program y world home here) → Reads F grown ds ls P (cond b p q) (TypedFits program y world home here)
  if_runs true p q x z = x refl
  if_runs false p q x z = z

  -- ---- elements

  -- of an array that is a variable
  variable_element : (k : ℕ) (p : Place) (n : ℕ) (i : Expression) → p.root ≡ root.Variable k → VariableArray program y world home here k p
      → Values program y world home here i AnInt → PlaceFits program y world home here (record p { address = e.Index p.address n i; is_element = true })
  variable_element k p n i is f v = record {
    target = Cells p.sync (value_type p.ty);
    leads = index_values program y world home here p.address n i p.remote (Cells p.sync (value_type p.ty)) (Cells p.sync (value_type p.ty)) refl f.leads v;
    cell = (refl, refl);
    known = f.known;
    row = λ outside. refl;
  }

  -- of one that is a member
  member_array_element : (p : Place) (n : ℕ) (i : Expression) → p.root ≡ root.Member → MemberArray program y world home here p n
      → Values program y world home here i AnInt → PlaceFits program y world home here (record p { address = e.Index p.address n i; is_element = true })
  member_array_element p n i is f v = record {
    target = PartOf f.class p.sync (value_type p.ty);
    leads = index_values program y world home here p.address n i p.remote (MemberOf f.class f.offset) (PartOf f.class p.sync (value_type p.ty))
        (p.sync, value_type p.ty, f.within, f.cells, refl) f.leads v;
    cell = (refl, refl);
    known = f.known;
    row = λ outside. absurd (outside is);
  }

  element_by : (r : Root) (p : Place) (n : ℕ) (i : Expression) → p.root ≡ r → ArrayBy program y world home here r p n → Values program y world home here i AnInt
      → PlaceFits program y world home here (record p { address = e.Index p.address n i; is_element = true })
  element_by (root.Variable k) p n i is f v = variable_element k p n i is f v
  element_by root.Member p n i is f v = member_array_element p n i is f v
  element_by root.Pointer p n i is f v = absurd f

  pub indexed_array_runs : (p : Place) (k : ℕ) (i : Option Operand)
      → Reads F grown ds ls (TypedFits program y world home here (typed.Array p k) × IsThere (OperandFits program y world home here) i) (indexed_array cx p k i)
      (TypedFits program y world home here)
  indexed_array_runs p k None = done typed.Spoiled (λ x. x.1)
  indexed_array_runs p k (Some i) = if_runs (is_int i.ty) _ _
      (λ is. done (element p k i.term) (λ x. element_by p.root p k i.term refl x.0 (int_values program y world home here F grown ds ls cx same i.ty i.term is x.1)))
      (never F grown ds ls cx _ typed.Broken)

  -- ---- elements behind a pointer

  behind : (a i : Expression) (sync remote : Bool) → Values program y world home here a (Pointer remote (Cells sync AnInt)) → Values program y world home here i AnInt
      → TypedFits program y world home here (element_behind a i sync remote)
  behind a i sync remote v w = record {
    target = Cells sync AnInt;
    leads = at_values program y world home here a i remote sync AnInt v w;
    cell = (refl, refl);
    known = tt;
    row = λ outside. refl;
  }

  indexed_target_runs : (t : Target) (remote : Bool) (a i : Expression)
      → Reads F grown ds ls (OperandBy program y world home here (ty.Pointer t remote) a × Values program y world home here i AnInt) (indexed_target t cx remote a i)
      (TypedFits program y world home here)
  indexed_target_runs target.Int remote a i = done (element_behind a i false remote) (λ x. behind a i false remote x.0 x.1)
  indexed_target_runs target.SyncInt remote a i = done (element_behind a i true remote) (λ x. behind a i true remote x.0 x.1)
  indexed_target_runs (target.Class class) remote a i = never F grown ds ls cx _ typed.Broken

  indexed_pointer_runs : (t : Ty) (a i : Expression)
      → Reads F grown ds ls (OperandBy program y world home here t a × Values program y world home here i AnInt) (indexed_pointer t cx a i) (TypedFits program y world home here)
  indexed_pointer_runs (ty.Pointer to remote) a i = indexed_target_runs to remote a i
  indexed_pointer_runs ty.Int a i = never F grown ds ls cx _ typed.Broken
  indexed_pointer_runs ty.Null a i = never F grown ds ls cx _ typed.Broken
  indexed_pointer_runs ty.Void a i = never F grown ds ls cx _ typed.Broken
  indexed_pointer_runs ty.Unknown a i = never F grown ds ls cx _ typed.Broken

  pub indexed_value_runs : (a i : Option Operand)
      → Reads F grown ds ls (IsThere (OperandFits program y world home here) a × IsThere (OperandFits program y world home here) i) (indexed_value cx a i) (TypedFits program y world home here)
  indexed_value_runs None i = done typed.Spoiled (λ x. x.0)
  indexed_value_runs (Some a) None = done typed.Spoiled (λ x. x.1)
  indexed_value_runs (Some a) (Some i) = if_runs (is_int i.ty) _ _
      (λ is. given (λ x. (x.0, int_values program y world home here F grown ds ls cx same i.ty i.term is x.1)) (indexed_pointer_runs a.ty a.term i.term))
      (never F grown ds ls cx _ typed.Broken)

  -- ---- the object before a dot or an arrow

  no_object_runs : {P : Type 0} → Reads F grown ds ls P (no_object cx) (IsThere (ObjectFits program y world home here))
  no_object_runs = never F grown ds ls cx _ None

  before_dot_runs : (t : Typed) → Reads F grown ds ls (TypedFits program y world home here t) (before_dot cx t) (IsThere (ObjectFits program y world home here))
  before_dot_runs typed.Broken = done None (λ x. x)
  before_dot_runs typed.Spoiled = done None (λ x. x)
  before_dot_runs (typed.Value v) = no_object_runs
  before_dot_runs (typed.This class remote) = no_object_runs
  before_dot_runs (typed.Constant term value) = no_object_runs
  before_dot_runs (typed.Place p) = no_object_runs
  before_dot_runs (typed.Array p k) = no_object_runs
  before_dot_runs (typed.Object o) = done (Some o) (λ x. x)

  target_object_runs : (t : Target) (x : Expression) (remote : Bool)
      → Reads F grown ds ls (OperandBy program y world home here (ty.Pointer t remote) x) (target_object t cx x remote) (IsThere (ObjectFits program y world home here))
  target_object_runs target.Int x remote = no_object_runs
  target_object_runs target.SyncInt x remote = no_object_runs
  target_object_runs (target.Class class) x remote = done (Some (object_behind class x remote)) (λ v. (v, λ b. absurd (true≢false (sym b))))

  pointed_by_runs : (t : Ty) (x : Expression) → Reads F grown ds ls (OperandBy program y world home here t x) (pointed_by t cx x) (IsThere (ObjectFits program y world home here))
  pointed_by_runs (ty.Pointer to remote) x = target_object_runs to x remote
  pointed_by_runs ty.Int x = no_object_runs
  pointed_by_runs ty.Null x = no_object_runs
  pointed_by_runs ty.Void x = no_object_runs
  pointed_by_runs ty.Unknown x = no_object_runs

  pointed_object_runs : (v : Option Operand) → Reads F grown ds ls (IsThere (OperandFits program y world home here) v) (pointed_object cx v) (IsThere (ObjectFits program y world home here))
  pointed_object_runs None = done None (λ x. x)
  pointed_object_runs (Some v) = pointed_by_runs v.ty v.term

  value_before_arrow_runs : (t : Typed) → Reads F grown ds ls (TypedFits program y world home here t) (value_before_arrow cx t) (IsThere (ObjectFits program y world home here))
  unfolding value_before_arrow
  value_before_arrow_runs t = bind (decay_runs program y world home here F grown ds ls cx same t) (λ v. given (λ x. x.1) (pointed_object_runs v))

  before_arrow_runs : (t : Typed) → Reads F grown ds ls (TypedFits program y world home here t) (before_arrow cx t) (IsThere (ObjectFits program y world home here))
  before_arrow_runs (typed.This class remote) = done (Some (object_behind class e.This false)) (λ x. (this_values program y world home here class.0 false x, λ b. refl))
  before_arrow_runs typed.Broken = value_before_arrow_runs typed.Broken
  before_arrow_runs typed.Spoiled = value_before_arrow_runs typed.Spoiled
  before_arrow_runs (typed.Value v) = value_before_arrow_runs (typed.Value v)
  before_arrow_runs (typed.Constant term value) = value_before_arrow_runs (typed.Constant term value)
  before_arrow_runs (typed.Place p) = value_before_arrow_runs (typed.Place p)
  before_arrow_runs (typed.Array p k) = value_before_arrow_runs (typed.Array p k)
  before_arrow_runs (typed.Object o) = value_before_arrow_runs (typed.Object o)

  pub object_of_runs : (arrow : Bool) (t : Typed) → Reads F grown ds ls (TypedFits program y world home here t) (object_of cx arrow t) (IsThere (ObjectFits program y world home here))
  object_of_runs true t = before_arrow_runs t
  object_of_runs false t = before_dot_runs t

  -- ---- members

  field_as_runs : (x : Meaning) (o : Object) → (F → MeaningIn program y world home here o.class.0 x)
      → Reads F grown ds ls (ObjectFits program y world home here o × F) (field_as x cx o) (TypedFits program y world home here)
  field_as_runs (m.Field declared offset) o c = done (field_at o declared offset) (λ x.
      field_fits program y world home here o.class.0 offset o.address declared o.remote (c x.1) x.0.0)
  field_as_runs m.Nothing o c = never F grown ds ls cx _ typed.Broken
  field_as_runs (m.Variable found) o c = never F grown ds ls cx _ typed.Broken
  field_as_runs (m.Method f) o c = never F grown ds ls cx _ typed.Broken
  field_as_runs (m.Constant b z) o c = never F grown ds ls cx _ typed.Broken
  field_as_runs (m.Function f) o c = never F grown ds ls cx _ typed.Broken

  module _ (stands : F → Stands program y here grown cx) where
    pub field_of_runs : (text : Name) (o : Option Object)
        → Reads F grown ds ls (IsThere (ObjectFits program y world home here) o × F) (field_of cx text o) (TypedFits program y world home here)
    field_of_runs text None = done typed.Spoiled (λ x. x.0)
    field_of_runs text (Some o) = field_as_runs (meant_in (member_of cx o.class text)) o (λ f. meant_in_fits program y world home here grown cx (stands f) o.class text)

    -- ---- calls on objects

    callee_at_fits : (b : Bool) (f : FunId) (c : ℕ) (x : Expression) → (function_types y f.0).this ≡ Some c → Values program y world home here x (Pointer b (ObjectOf c))
        → CalleeFits program y world home here F grown ds ls cx same f (callee_at b x)
    callee_at_fits true f c x is p = (c, is, p)
    callee_at_fits false f c x is p = (c, is, p)

    call_as_runs : (x : Meaning) (o : Object) (a : Args) → (F → MeaningIn program y world home here o.class.0 x)
        → Reads F grown ds ls (ObjectFits program y world home here o × ArgsFit program y world home here a × F) (call_as x cx o a) (TypedFits program y world home here)
    call_as_runs (m.Method f) o a is = given (λ x. (callee_at_fits o.remote f o.class.0 o.address (is x.2) x.0.0, x.1, x.2))
        (called_runs program y world home here F grown ds ls cx same stands f (callee_at o.remote o.address) a)
    call_as_runs m.Nothing o a is = never F grown ds ls cx _ typed.Broken
    call_as_runs (m.Variable found) o a is = never F grown ds ls cx _ typed.Broken
    call_as_runs (m.Field declared offset) o a is = never F grown ds ls cx _ typed.Broken
    call_as_runs (m.Constant b z) o a is = never F grown ds ls cx _ typed.Broken
    call_as_runs (m.Function f) o a is = never F grown ds ls cx _ typed.Broken

    pub call_member_runs : (text : Name) (o : Option Object) (a : Option Args)
        → Reads F grown ds ls (IsThere (ObjectFits program y world home here) o × IsThere (ArgsFit program y world home here) a × F) (call_member cx text o a) (TypedFits program y world home here)
    call_member_runs text None a = done typed.Spoiled (λ x. x.0)
    call_member_runs text (Some o) None = done typed.Spoiled (λ x. x.1)
    call_member_runs text (Some o) (Some a) =
        call_as_runs (meant_in (member_of cx o.class text)) o a (λ f. meant_in_fits program y world home here grown cx (stands f) o.class text)

    -- ---- new objects

    passes_all : (remote : Bool) (us : List ValueType) → (remote ≡ true → AllCross us) → PassAll remote us
    passes_all false us f = tt
    passes_all true us f = f refl

    made_fits : (class : ClassId) (k : Class) (a : Args) → MakerFits y class.0 k → args_rule k.constructor a.types ≡ None → ArgsFit program y world home here a
        → Allowed here.waits k.remote → OperandFits program y world home here (object_made class k.remote a.terms)
    made_fits class k a has is v w = new_object_values program y world home here k.remote class.0 a.terms (make_fits program y world home here class.0 k a has is v)
        (passes_all k.remote (class_types y class.0).params has.crossing) w

    made_runs : (class : ClassId) (k : Class) (a : Args) → (F → MakerFits y class.0 k) → args_rule k.constructor a.types ≡ None
        → Reads F grown ds ls (ArgsFit program y world home here a × F) (made cx class k.remote a.terms) (TypedFits program y world home here)
    unfolding made
    made_runs class k a has is = bind (block_if_runs F grown ds ls k.remote cx.line) (λ u.
        done (typed.Value (object_made class k.remote a.terms)) (λ x.
        made_fits class k a (has x.0.1) is x.0.0 (subst (λ b. Allowed b k.remote) (same x.0.1) x.1)))

    made_unless_runs : (r : Option StaticRule) (class : ClassId) (k : Class) (a : Args) → (F → MakerFits y class.0 k) → args_rule k.constructor a.types ≡ r
        → Reads F grown ds ls (ArgsFit program y world home here a × F) (made_unless r cx class k.remote a.terms) (TypedFits program y world home here)
    made_unless_runs (Some rule) class k a has is = never F grown ds ls cx rule typed.Broken
    made_unless_runs None class k a has is = made_runs class k a has is

    made_of_runs : (o : Option Class) (class : ClassId) (a : Args) → slice_get cx.tables.classes class.0 ≡ o
        → Reads F grown ds ls (ArgsFit program y world home here a × F) (made_of o cx class a) (TypedFits program y world home here)
    made_of_runs None class a is = never F grown ds ls cx _ typed.Broken
    made_of_runs (Some k) class a is =
        made_unless_runs (args_rule k.constructor a.types) class k a (λ x. (stands x).matches.classes class.0 k is) refl

    new_named_runs : (o : Option ClassId) (a : Args) → Reads F grown ds ls (ArgsFit program y world home here a × F) (new_named o cx a) (TypedFits program y world home here)
    new_named_runs None a = never F grown ds ls cx _ typed.Broken
    new_named_runs (Some class) a = made_of_runs (class_at cx class) class a refl

    pub new_object_runs : (o : Option ClassId) (a : Option Args)
        → Reads F grown ds ls (IsThere (ArgsFit program y world home here) a × F) (new_object cx o a) (TypedFits program y world home here)
    new_object_runs o None = done typed.Spoiled (λ x. x.0)
    new_object_runs o (Some a) = new_named_runs o a

  -- ---- new ints

  pub new_cells_fits : (sync : Bool) (k : ℕ) → TypedFits program y world home here (new_cells sync k)
  new_cells_fits true k = new_values program y world home here (int_kind true) k AnInt refl
  new_cells_fits false k = new_values program y world home here (int_kind false) k AnInt refl

  pub new_array_fits : (sync : Bool) (k : Option ℕ) → IsThere IsLength k → TypedFits program y world home here (new_array sync k)
  new_array_fits sync None p = absurd p
  new_array_fits sync (Some k) p = new_cells_fits sync k
