-- Elements, members, calls on objects, and new objects.
use Rattle.std.proofs.Common.{◌≡◌, ℕ, subst, ap, sym, Bool, true, false, cond, List, Option, Some, None, refl}
use Rattle.std.specs.Prelude.{slice_get}
use Rattle.cc_core.specs.declared.expression.Expression.{Expression}
use Rattle.cc_core.specs.declared.expression.Expression.TheVariants as e
use Rattle.cc_core.specs.Types.{ValueType, AnInt, AnAddress, Cells, ObjectOf, FunctionTypes, Types, function_types, IsOwnPlace}
use Rattle.cc_core.specs.Core.{Term, Variable, Index}
use Rattle.cc_core.specs.View.{term_of}
use Rattle.cc_core.proofs.ViewLaws.{index_is}
use Rattle.cc_one_answer.specs.Sorts.{Valued, NamedCell, MemberAt, MemberCell, variable_sort, IsCell, IsElement}
use Rattle.std.proofs.lemmas.Bool.{true≢false}
use Rattle.cc_scopes.specs.declared.state.Local.{Local}
use Rattle.cc_scopes.specs.declared.types.Declared.{Declared}
use Rattle.cc_scopes.specs.declared.typed.Root.{Root}
use Rattle.cc_names.specs.Table.{Name}
use Rattle.cc_names.specs.declared.declarations.ClassId.{ClassId}
use Rattle.cc_names.specs.declared.rule.StaticRule.{StaticRule}
use Rattle.cc_typing.specs.declared.calls.Args.{Args}
use Rattle.cc_names.specs.declared.declarations.FunId.{FunId}
use Rattle.cc_scopes.specs.declared.meaning.Meaning.{Meaning}
use Rattle.cc_scopes.specs.declared.meaning.Meaning.TheVariants as m
use Rattle.cc_scopes.specs.declared.tables.Class.{Class}
use Rattle.cc_scopes.specs.declared.typed.Object.{Object}
use Rattle.cc_scopes.specs.declared.typed.Operand.{Operand}
use Rattle.cc_scopes.specs.declared.typed.Place.{Place}
use Rattle.cc_scopes.specs.declared.typed.Root.TheVariants as root
use Rattle.cc_scopes.specs.declared.typed.Typed.{Typed}
use Rattle.cc_scopes.specs.declared.typed.Typed.TheVariants as typed
use Rattle.cc_scopes.specs.declared.types.Target.{Target}
use Rattle.cc_scopes.specs.declared.types.Target.TheVariants as target
use Rattle.cc_scopes.specs.declared.types.Ty.{Ty}
use Rattle.cc_scopes.specs.declared.types.Ty.TheVariants as ty
use Rattle.cc_scopes.specs.Elab.{Elab}
use Rattle.cc_scopes.specs.Scope.{Context}
use Rattle.cc_scopes.specs.Types.{is_int, int_kind}
use Rattle.cc_scopes.specs.Meaning.{class_at, member_of, meant_in}
use Rattle.cc_typing.specs.Calls.{args_rule}
use Rattle.cc_typing.specs.Objects.{element, indexed_array, element_behind, indexed_target, indexed_pointer, indexed_value, no_object, object_behind, before_dot}
use Rattle.cc_typing.specs.Objects.{target_object, pointed_by, pointed_object, value_before_arrow, before_arrow, object_of, field_at, field_as, field_of}
use Rattle.cc_typing.specs.Objects.{callee_at, call_as, call_member}
use Rattle.cc_typing.specs.New.{new_cells, new_array, object_made, made, made_unless, made_of, new_named, new_object}
use Rattle.cc_shared.proofs.Runs.{IsThere, given, bind, next, done}
use Rattle.cc_shared.proofs.Forms.{this_values, index_sorts, at_sorts, new_values, new_object_values}
use Rattle.cc_shared.proofs.TypesOf.{value_type}
use Rattle.cc_shared.proofs.Det.{Stands, MakerFits, Reads, Values, OperandBy, OperandFits, ObjectFits, MeaningIn, IsOwnVariable, OwnBy, PlaceFits, MemberArray, VariableArray, ArrayBy, TypedFits}
use Rattle.cc_shared.proofs.StateLaws.{block_if_runs}
use Rattle.cc_shared.proofs.LengthLaws.{IsLength}
use Rattle.cc_shared.proofs.ScopeLaws.{meant_in_fits, never, decay_runs, field_fits}
use Rattle.cc_shared.proofs.OperatorLaws.{int_values}
use Rattle.cc_shared.proofs.CallLaws.{ArgsFit, CalleeFits, make_fits, called_runs}

-- ---- terms

-- an element of an own variable is one
own_element : (y : Types) (main : ℕ) (here : FunctionTypes) (own : List ℕ) (t : Term) (n : ℕ) (i : Term) → IsOwnVariable y main here own t → IsOwnPlace own (Index t n i)
own_element y main here own (Variable k) n i p = p
own_element y main here own t n i p = absurd p

module _ (y : Types) (main : ℕ) (here : FunctionTypes) (F : Type 0) (grown ds : List Declared) (part : ℕ) (own : List ℕ) (ls : List Local) (cx : Context) where
  if_runs : {P : Type 0} (b : Bool) (p q : Elab Typed) → (b ≡ true → Reads F grown ds part own ls P p (TypedFits y main here part own))
      → Reads F grown ds part own ls P q (TypedFits y main here part own) → Reads F grown ds part own ls P (cond b p q) (TypedFits y main here part own)
  if_runs true p q x z = x refl
  if_runs false p q x z = z

  -- ---- elements

  cell_of : (sync : Bool) (u : ValueType) → IsCell y (variable_sort (Cells sync u)) sync u
  cell_of true u = refl
  cell_of false u = (refl, refl)

  element_of : (n : ℕ) (sync : Bool) (u : ValueType) → IsElement y n (variable_sort (Cells sync u)) (variable_sort (Cells sync u))
  element_of n true u = (true, u, refl, refl)
  element_of n false u = refl

  plain_sort : (sync : Bool) (u : ValueType) → sync ≡ false → variable_sort (Cells sync u) ≡ NamedCell u
  plain_sort true u is = absurd (true≢false is)
  plain_sort false u is = refl

  sync_sort : (sync : Bool) (u : ValueType) → sync ≡ true → variable_sort (Cells sync u) ≡ Valued (AnAddress (Cells true u))
  sync_sort true u is = refl
  sync_sort false u is = absurd (true≢false (sym is))

  -- of an array that is a variable
  variable_element : (k : ℕ) (p : Place) (n : ℕ) (i : Expression) → p.root ≡ root.Variable k → VariableArray y main here part own k p
      → Values y main here i AnInt → PlaceFits y main here part own (record p { address = e.Index p.address n i; is_element = true })
  variable_element k p n i is f v = record {
    sort = variable_sort (Cells p.sync (value_type p.ty));
    sorted = index_sorts y main here p.address n i _ _ AnInt (element_of n p.sync (value_type p.ty)) f.sorted v;
    cell = cell_of p.sync (value_type p.ty);
    known = f.known;
    owned = subst (λ r. OwnBy y main here part own r p.sync (value_type p.ty) (variable_sort (Cells p.sync (value_type p.ty))) (term_of (e.Index p.address n i)))
        (sym is) (λ plain. (
          plain_sort p.sync (value_type p.ty) plain,
          λ q.
              subst (λ t. IsOwnPlace own t) (sym (index_is p.address n i)) (own_element y main here own (term_of p.address) n (term_of i) (f.owned q)),
        ));
    lends = λ outside shared. sync_sort p.sync (value_type p.ty) shared;
  }

  -- of one that is a member
  member_array_element : (p : Place) (n : ℕ) (i : Expression) → p.root ≡ root.Member → MemberArray y main here part own p n
      → Values y main here i AnInt → PlaceFits y main here part own (record p { address = e.Index p.address n i; is_element = true })
  member_array_element p n i is f v = record {
    sort = MemberCell p.sync (value_type p.ty);
    sorted = index_sorts y main here p.address n i (MemberAt f.class f.offset) _ AnInt
        (p.sync, value_type p.ty, f.within, f.cells, refl) f.sorted v;
    cell = (refl, refl);
    known = f.known;
    owned = subst (λ r. OwnBy y main here part own r p.sync (value_type p.ty) (MemberCell p.sync (value_type p.ty)) (term_of (e.Index p.address n i)))
        (sym is) tt;
    lends = λ outside. absurd (outside is);
  }

  element_by : (r : Root) (p : Place) (n : ℕ) (i : Expression) → p.root ≡ r → ArrayBy y main here part own r p n → Values y main here i AnInt
      → PlaceFits y main here part own (record p { address = e.Index p.address n i; is_element = true })
  element_by (root.Variable k) p n i is f v = variable_element k p n i is f v
  element_by root.Member p n i is f v = member_array_element p n i is f v
  element_by root.Pointer p n i is f v = absurd f

  pub indexed_array_runs : (p : Place) (k : ℕ) (i : Option Operand)
      → Reads F grown ds part own ls (TypedFits y main here part own (typed.Array p k) × IsThere (OperandFits y main here) i) (indexed_array cx p k i)
      (TypedFits y main here part own)
  indexed_array_runs p k None = done typed.Spoiled (λ x. x.1)
  indexed_array_runs p k (Some i) = if_runs (is_int i.ty) _ _
      (λ is. done (element p k i.term) (λ x. element_by p.root p k i.term refl x.0 (int_values y main here F grown ds part own ls cx i.ty i.term is x.1)))
      (never F grown ds part own ls cx _ typed.Broken)

  -- ---- elements behind a pointer

  behind : (a i : Expression) (sync remote : Bool) → Values y main here a (AnAddress (Cells sync AnInt)) → Values y main here i AnInt
      → TypedFits y main here part own (element_behind a i sync remote)
  behind a i sync remote v w = record {
    sort = Valued (AnAddress (Cells sync AnInt));
    sorted = at_sorts y main here a i sync AnInt AnInt v w;
    cell = refl;
    known = tt;
    owned = tt;
    lends = λ outside shared. ap (λ b. Valued (AnAddress (Cells b AnInt))) shared;
  }

  indexed_target_runs : (t : Target) (remote : Bool) (a i : Expression)
      → Reads F grown ds part own ls (OperandBy y main here (ty.Pointer t remote) a × Values y main here i AnInt) (indexed_target t cx remote a i)
      (TypedFits y main here part own)
  indexed_target_runs target.Int remote a i = done (element_behind a i false remote) (λ x. behind a i false remote x.0 x.1)
  indexed_target_runs target.SyncInt remote a i = done (element_behind a i true remote) (λ x. behind a i true remote x.0 x.1)
  indexed_target_runs (target.Class class) remote a i = never F grown ds part own ls cx _ typed.Broken

  indexed_pointer_runs : (t : Ty) (a i : Expression)
      → Reads F grown ds part own ls (OperandBy y main here t a × Values y main here i AnInt) (indexed_pointer t cx a i) (TypedFits y main here part own)
  indexed_pointer_runs (ty.Pointer to remote) a i = indexed_target_runs to remote a i
  indexed_pointer_runs ty.Int a i = never F grown ds part own ls cx _ typed.Broken
  indexed_pointer_runs ty.Null a i = never F grown ds part own ls cx _ typed.Broken
  indexed_pointer_runs ty.Void a i = never F grown ds part own ls cx _ typed.Broken
  indexed_pointer_runs ty.Unknown a i = never F grown ds part own ls cx _ typed.Broken

  pub indexed_value_runs : (a i : Option Operand)
      → Reads F grown ds part own ls (IsThere (OperandFits y main here) a × IsThere (OperandFits y main here) i) (indexed_value cx a i) (TypedFits y main here part own)
  indexed_value_runs None i = done typed.Spoiled (λ x. x.0)
  indexed_value_runs (Some a) None = done typed.Spoiled (λ x. x.1)
  indexed_value_runs (Some a) (Some i) = if_runs (is_int i.ty) _ _
      (λ is. given (λ x. (x.0, int_values y main here F grown ds part own ls cx i.ty i.term is x.1)) (indexed_pointer_runs a.ty a.term i.term))
      (never F grown ds part own ls cx _ typed.Broken)

  -- ---- the object before a dot or an arrow

  no_object_runs : {P : Type 0} → Reads F grown ds part own ls P (no_object cx) (IsThere (ObjectFits y main here))
  no_object_runs = never F grown ds part own ls cx _ None

  before_dot_runs : (t : Typed) → Reads F grown ds part own ls (TypedFits y main here part own t) (before_dot cx t) (IsThere (ObjectFits y main here))
  before_dot_runs typed.Broken = done None (λ x. x)
  before_dot_runs typed.Spoiled = done None (λ x. x)
  before_dot_runs (typed.Value v) = no_object_runs
  before_dot_runs (typed.This class remote) = no_object_runs
  before_dot_runs (typed.Constant term value) = no_object_runs
  before_dot_runs (typed.Place p) = no_object_runs
  before_dot_runs (typed.Array p k) = no_object_runs
  before_dot_runs (typed.Object o) = done (Some o) (λ x. x)

  target_object_runs : (t : Target) (x : Expression) (remote : Bool)
      → Reads F grown ds part own ls (OperandBy y main here (ty.Pointer t remote) x) (target_object t cx x remote) (IsThere (ObjectFits y main here))
  target_object_runs target.Int x remote = no_object_runs
  target_object_runs target.SyncInt x remote = no_object_runs
  target_object_runs (target.Class class) x remote = done (Some (object_behind class x remote)) (λ v. v)

  pointed_by_runs : (t : Ty) (x : Expression) → Reads F grown ds part own ls (OperandBy y main here t x) (pointed_by t cx x) (IsThere (ObjectFits y main here))
  pointed_by_runs (ty.Pointer to remote) x = target_object_runs to x remote
  pointed_by_runs ty.Int x = no_object_runs
  pointed_by_runs ty.Null x = no_object_runs
  pointed_by_runs ty.Void x = no_object_runs
  pointed_by_runs ty.Unknown x = no_object_runs

  pointed_object_runs : (v : Option Operand) → Reads F grown ds part own ls (IsThere (OperandFits y main here) v) (pointed_object cx v) (IsThere (ObjectFits y main here))
  pointed_object_runs None = done None (λ x. x)
  pointed_object_runs (Some v) = pointed_by_runs v.ty v.term

  value_before_arrow_runs : (t : Typed) → Reads F grown ds part own ls (TypedFits y main here part own t) (value_before_arrow cx t) (IsThere (ObjectFits y main here))
  unfolding value_before_arrow
  value_before_arrow_runs t = bind (decay_runs y main here F grown ds part own ls cx t) (λ v. given (λ x. x.1) (pointed_object_runs v))

  before_arrow_runs : (t : Typed) → Reads F grown ds part own ls (TypedFits y main here part own t) (before_arrow cx t) (IsThere (ObjectFits y main here))
  before_arrow_runs (typed.This class remote) = done (Some (object_behind class e.This false)) (λ x. this_values y main here class.0 x)
  before_arrow_runs typed.Broken = value_before_arrow_runs typed.Broken
  before_arrow_runs typed.Spoiled = value_before_arrow_runs typed.Spoiled
  before_arrow_runs (typed.Value v) = value_before_arrow_runs (typed.Value v)
  before_arrow_runs (typed.Constant term value) = value_before_arrow_runs (typed.Constant term value)
  before_arrow_runs (typed.Place p) = value_before_arrow_runs (typed.Place p)
  before_arrow_runs (typed.Array p k) = value_before_arrow_runs (typed.Array p k)
  before_arrow_runs (typed.Object o) = value_before_arrow_runs (typed.Object o)

  pub object_of_runs : (arrow : Bool) (t : Typed) → Reads F grown ds part own ls (TypedFits y main here part own t) (object_of cx arrow t) (IsThere (ObjectFits y main here))
  object_of_runs true t = before_arrow_runs t
  object_of_runs false t = before_dot_runs t

  -- ---- members

  field_as_runs : (x : Meaning) (o : Object) → (F → MeaningIn y main here o.class.0 x)
      → Reads F grown ds part own ls (ObjectFits y main here o × F) (field_as x cx o) (TypedFits y main here part own)
  field_as_runs (m.Field declared offset) o c = done (field_at o declared offset) (λ x.
      field_fits y main here part own o.class.0 offset o.address declared o.remote (c x.1) x.0)
  field_as_runs m.Nothing o c = never F grown ds part own ls cx _ typed.Broken
  field_as_runs (m.Variable found) o c = never F grown ds part own ls cx _ typed.Broken
  field_as_runs (m.Method f) o c = never F grown ds part own ls cx _ typed.Broken
  field_as_runs (m.Constant b z) o c = never F grown ds part own ls cx _ typed.Broken
  field_as_runs (m.Function f) o c = never F grown ds part own ls cx _ typed.Broken

  module _ (stands : F → Stands y main here cx) where
    pub field_of_runs : (text : Name) (o : Option Object)
        → Reads F grown ds part own ls (IsThere (ObjectFits y main here) o × F) (field_of cx text o) (TypedFits y main here part own)
    field_of_runs text None = done typed.Spoiled (λ x. x.0)
    field_of_runs text (Some o) = field_as_runs (meant_in (member_of cx o.class text)) o (λ f. meant_in_fits y main here cx (stands f) o.class text)

    -- ---- calls on objects

    callee_at_fits : (b : Bool) (f : FunId) (c : ℕ) (x : Expression) → (function_types y f.0).this ≡ Some c → Values y main here x (AnAddress (ObjectOf c))
        → CalleeFits y main here F grown ds part own ls cx f (callee_at b x)
    callee_at_fits true f c x is p = (c, is, p)
    callee_at_fits false f c x is p = (c, is, p)

    call_as_runs : (x : Meaning) (o : Object) (a : Args) → (F → MeaningIn y main here o.class.0 x)
        → Reads F grown ds part own ls (ObjectFits y main here o × ArgsFit y main here a × F) (call_as x cx o a) (TypedFits y main here part own)
    call_as_runs (m.Method f) o a is = given (λ x. (callee_at_fits o.remote f o.class.0 o.address (is x.2) x.0, x.1, x.2))
        (called_runs y main here F grown ds part own ls cx stands f (callee_at o.remote o.address) a)
    call_as_runs m.Nothing o a is = never F grown ds part own ls cx _ typed.Broken
    call_as_runs (m.Variable found) o a is = never F grown ds part own ls cx _ typed.Broken
    call_as_runs (m.Field declared offset) o a is = never F grown ds part own ls cx _ typed.Broken
    call_as_runs (m.Constant b z) o a is = never F grown ds part own ls cx _ typed.Broken
    call_as_runs (m.Function f) o a is = never F grown ds part own ls cx _ typed.Broken

    pub call_member_runs : (text : Name) (o : Option Object) (a : Option Args)
        → Reads F grown ds part own ls (IsThere (ObjectFits y main here) o × IsThere (ArgsFit y main here) a × F) (call_member cx text o a) (TypedFits y main here part own)
    call_member_runs text None a = done typed.Spoiled (λ x. x.0)
    call_member_runs text (Some o) None = done typed.Spoiled (λ x. x.1)
    call_member_runs text (Some o) (Some a) =
        call_as_runs (meant_in (member_of cx o.class text)) o a (λ f. meant_in_fits y main here cx (stands f) o.class text)

    -- ---- new objects

    made_fits : (class : ClassId) (k : Class) (a : Args) → MakerFits y class.0 k → args_rule k.constructor a.types ≡ None → ArgsFit y main here a
        → OperandFits y main here (object_made class k.remote a.terms)
    made_fits class k a has is v = new_object_values y main here k.remote class.0 a.terms (make_fits y main here class.0 k a has is v)

    made_runs : (class : ClassId) (k : Class) (a : Args) → (F → MakerFits y class.0 k) → args_rule k.constructor a.types ≡ None
        → Reads F grown ds part own ls (ArgsFit y main here a × F) (made cx class k.remote a.terms) (TypedFits y main here part own)
    unfolding made
    made_runs class k a has is = next (block_if_runs F grown ds part own ls k.remote cx.line)
        (done (typed.Value (object_made class k.remote a.terms)) (λ x. made_fits class k a (has x.1) is x.0))

    made_unless_runs : (r : Option StaticRule) (class : ClassId) (k : Class) (a : Args) → (F → MakerFits y class.0 k) → args_rule k.constructor a.types ≡ r
        → Reads F grown ds part own ls (ArgsFit y main here a × F) (made_unless r cx class k.remote a.terms) (TypedFits y main here part own)
    made_unless_runs (Some rule) class k a has is = never F grown ds part own ls cx rule typed.Broken
    made_unless_runs None class k a has is = made_runs class k a has is

    made_of_runs : (o : Option Class) (class : ClassId) (a : Args) → slice_get cx.tables.classes class.0 ≡ o
        → Reads F grown ds part own ls (ArgsFit y main here a × F) (made_of o cx class a) (TypedFits y main here part own)
    made_of_runs None class a is = never F grown ds part own ls cx _ typed.Broken
    made_of_runs (Some k) class a is =
        made_unless_runs (args_rule k.constructor a.types) class k a (λ x. (stands x).matches.classes class.0 k is) refl

    new_named_runs : (o : Option ClassId) (a : Args) → Reads F grown ds part own ls (ArgsFit y main here a × F) (new_named o cx a) (TypedFits y main here part own)
    new_named_runs None a = never F grown ds part own ls cx _ typed.Broken
    new_named_runs (Some class) a = made_of_runs (class_at cx class) class a refl

    pub new_object_runs : (o : Option ClassId) (a : Option Args)
        → Reads F grown ds part own ls (IsThere (ArgsFit y main here) a × F) (new_object cx o a) (TypedFits y main here part own)
    new_object_runs o None = done typed.Spoiled (λ x. x.0)
    new_object_runs o (Some a) = new_named_runs o a

  -- ---- new ints

  pub new_cells_fits : (sync : Bool) (k : ℕ) → TypedFits y main here part own (new_cells sync k)
  new_cells_fits true k = new_values y main here (int_kind true) k AnInt
  new_cells_fits false k = new_values y main here (int_kind false) k AnInt

  pub new_array_fits : (sync : Bool) (k : Option ℕ) → IsThere IsLength k → TypedFits y main here part own (new_array sync k)
  new_array_fits sync None p = absurd p
  new_array_fits sync (Some k) p = new_cells_fits sync k
