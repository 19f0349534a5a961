-- Values, names and lengths.
use Rattle.std.proofs.Common.{◌≡◌, ℕ, ℤ, pos, Bool, true, false, List, Option, Some, None, refl, sym, ap, ◌∙◌, subst, arith}
use Rattle.std.specs.Prelude.{slice_get, nat_lt}
use Rattle.cc_core.specs.declared.expression.Constant.TheVariants as constant
use Rattle.cc_core.specs.declared.expression.Expression.{Expression}
use Rattle.cc_core.specs.declared.expression.Expression.TheVariants as e
use Rattle.cc_core.specs.Types.{ValueType, AnInt, AnAddress, Target, Cells, ObjectOf, FunctionTypes, Types, IsAmong, IsOwnPlace}
use Rattle.cc_core.proofs.ViewLaws.{variable_is}
use Rattle.std.proofs.lemmas.Bool.{true≢false}
use Rattle.cc_one_answer.specs.Sorts.{Valued, NamedCell, MemberAt, variable_sort, IsCell}
use Rattle.cc_names.specs.Names.{entity_named, member_named}
use Rattle.cc_names.specs.Table.{Name}
use Rattle.cc_names.specs.declared.broken.Broken.TheVariants.{Rule}
use Rattle.cc_names.specs.declared.declarations.ClassId.{ClassId}
use Rattle.cc_names.specs.declared.declarations.MemberId.{MemberId}
use Rattle.cc_names.specs.declared.declarations.Entity.{Entity}
use Rattle.cc_names.specs.declared.declarations.Entity.TheVariants as entity
use Rattle.cc_names.specs.declared.rule.StaticRule.{StaticRule}
use Rattle.cc_scopes.specs.declared.meaning.Meaning.{Meaning}
use Rattle.cc_scopes.specs.declared.meaning.Meaning.TheVariants as m
use Rattle.cc_scopes.specs.declared.scope.Found.{Found}
use Rattle.cc_scopes.specs.declared.state.Local.{Local}
use Rattle.cc_scopes.specs.declared.state.State.{State}
use Rattle.cc_scopes.specs.declared.tables.Class.{Class}
use Rattle.cc_scopes.specs.declared.tables.Member as table
use Rattle.cc_scopes.specs.declared.tables.Member.TheVariants as member
use Rattle.cc_scopes.specs.declared.typed.Operand.{Operand}
use Rattle.cc_scopes.specs.declared.typed.Place.{Place}
use Rattle.cc_scopes.specs.declared.typed.Root.{Root}
use Rattle.cc_scopes.specs.declared.typed.Root.TheVariants as root
use Rattle.cc_scopes.specs.declared.typed.Typed.{Typed}
use Rattle.cc_scopes.specs.declared.typed.Typed.TheVariants as typed
use Rattle.cc_scopes.specs.declared.types.Declared.{Declared}
use Rattle.cc_scopes.specs.declared.types.Shape.{Shape}
use Rattle.cc_scopes.specs.declared.types.Shape.TheVariants as shape
use Rattle.cc_scopes.specs.declared.types.Ty.{Ty}
use Rattle.cc_scopes.specs.declared.types.Ty.TheVariants as ty
use Rattle.cc_scopes.specs.Elab.{◌>>◌, pure}
use Rattle.cc_scopes.specs.Scope.{Context, variable}
use Rattle.cc_scopes.specs.Typed.{note_rule, placed_by, placed_as, place_of, placed, int, literal, is_far_local, loaded, may_wait, load, load_unless}
use Rattle.cc_scopes.specs.Typed.{share_address, pointer_to, pointed, array_rule, first_unless, not_void_by, own as own_pointer, decay}
use Rattle.cc_scopes.specs.Types.{int_target}
use Rattle.cc_scopes.specs.Meaning.{class_at, member_in, member_at, member_of, constant_value, of_member, of_entity, of_file, member_or_file, outside_by, variable_or, meant, meant_in}
use Rattle.cc_scopes.specs.Meaning.{of_constant, of_variable, own_field, of_meaning, name, this_in, this_by, this}
use Rattle.cc_shared.proofs.Runs.{IsThere, given, next, after, done, looking}
use Rattle.cc_shared.proofs.Forms.{push_values, this_values, variable_sorts, member_sorts, load_values}
use Rattle.cc_shared.proofs.TypesOf.{value_type, target_by, target_of, IsCellType, FieldBy, FieldFits, MemberFits}
use Rattle.cc_shared.proofs.Det.{Stands, FoundFits, LocalsFit, Keeps, Reads, having, Sorted, Values, OperandBy, OperandFits}
use Rattle.cc_shared.proofs.Det.{MeaningIn, ConstantFits, MeaningFits, IsOwnVariable, PlaceFits, VariableArray, ArrayBy, TypedFits}
use Rattle.cc_shared.proofs.StateLaws.{IfThere, found_fits, note_runs, share_runs, block_if_runs}

-- ---- members and names

pub there : {A : Type 0} (o : Option A) (Q : A → Type 0) → ((a : A) → o ≡ Some a → Q a) → IfThere Q o
there None Q f = tt
there (Some a) Q f = f a refl

module _ (y : Types) (main : ℕ) (here : FunctionTypes) (cx : Context) (stands : Stands y main here cx) where
  member_in_class : (c : ℕ) (k : Option Class) → slice_get cx.tables.classes c ≡ k → (id : MemberId) → IfThere (MemberFits y c) (member_in k id)
  member_in_class c None is id = tt
  member_in_class c (Some k) is id = there (slice_get k.members id.0) (MemberFits y c) (λ x q. stands.matches.members c k is id.0 x q)

  member_by_id : (class : ClassId) (id : Option MemberId) → IfThere (MemberFits y class.0) (member_at cx class id)
  member_by_id class None = tt
  member_by_id class (Some id) = member_in_class class.0 (class_at cx class) refl id

  pub member_fits : (class : ClassId) (text : Name) → IfThere (MemberFits y class.0) (member_of cx class text)
  member_fits class text = member_by_id class (member_named cx.names class text)

  meaning_in : (c : ℕ) (x : Option table.Member) → IfThere (MemberFits y c) x → MeaningIn y main here c (meant_in x)
  meaning_in c None p = tt
  meaning_in c (Some (member.Field declared offset)) p = p
  meaning_in c (Some (member.Method f)) p = p

  pub meant_in_fits : (class : ClassId) (text : Name) → MeaningIn y main here class.0 (meant_in (member_of cx class text))
  meant_in_fits class text = meaning_in class.0 (member_of cx class text) (member_fits class text)

  constant_fits : (b : Bool) (k : ℕ) → nat_lt k cx.known ≡ b → ConstantFits y main here b (constant_value cx k)
  constant_fits true k is = stands.constants k is
  constant_fits false k is = tt

  module _ (ds : List Declared) (part : ℕ) (own : List ℕ) where
    of_member_fits : (c : ℕ) (x : table.Member) → here.this ≡ Some c → MemberFits y c x → MeaningFits y main here ds part own (of_member x)
    of_member_fits c (member.Field declared offset) is p = (c, is, p)
    of_member_fits c (member.Method f) is p = (c, is, p)

    of_entity_fits : (x : Option Entity) → MeaningFits y main here ds part own (of_entity cx x)
    of_entity_fits None = tt
    of_entity_fits (Some (entity.Constant k)) = constant_fits (nat_lt k cx.known) k refl
    of_entity_fits (Some (entity.Class class)) = tt
    of_entity_fits (Some (entity.Function f)) = tt

    of_file_fits : (text : Name) → MeaningFits y main here ds part own (of_file cx text)
    of_file_fits text = of_entity_fits (entity_named cx.names text)

    member_or_file_fits : (c : ℕ) (x : Option table.Member) (text : Name) → here.this ≡ Some c → IfThere (MemberFits y c) x
        → MeaningFits y main here ds part own (member_or_file x cx text)
    member_or_file_fits c None text is p = of_file_fits text
    member_or_file_fits c (Some x) text is p = of_member_fits c x is p

    outside_fits : (class : Option ClassId) (text : Name) → cx.class ≡ class → MeaningFits y main here ds part own (outside_by class cx text)
    outside_fits None text is = of_file_fits text
    outside_fits (Some class) text is = member_or_file_fits class.0 (member_of cx class text) text (stands.this class is) (member_fits class text)

    variable_or_fits : (x : Option Found) (text : Name) → IfThere (FoundFits ds part own) x → MeaningFits y main here ds part own (variable_or x cx text)
    variable_or_fits None text p = outside_fits cx.class text refl
    variable_or_fits (Some x) text p = p

    pub meant_fits : (F : Type 0) (text : Name) (ls : List Local) (s : State) → Keeps F ds part own ls s → MeaningFits y main here ds part own (meant cx text s)
    meant_fits F text ls s k = variable_or_fits (variable text s.locals) text
        (found_fits ds part own text s.locals (subst (λ l. LocalsFit ds part own l) (sym k.0) k.1))

-- ---- rules that are broken

module _ (F : Type 0) (grown ds : List Declared) (part : ℕ) (own : List ℕ) (ls : List Local) (cx : Context) {P : Type 0} where
  pub note_rule_runs : (rule : StaticRule) {Q : Unit {0} → Type 0} → Reads F grown ds part own ls P (note_rule cx rule) Q
  note_rule_runs rule = note_runs F grown ds part own ls (Rule rule cx.line)

  -- what follows a broken rule is nowhere
  pub never : {A : Type 0} (rule : StaticRule) (a : A) {Q : A → Type 0} → Reads F grown ds part own ls P (note_rule cx rule >> pure a) Q
  never rule a {Q = Q} = after {X = ⊥} (note_rule_runs rule {Q = λ u. ⊥}) (λ u x. x) (done a (λ x. absurd x.1))

-- ---- what stands at an address

module _ (y : Types) (main : ℕ) (here : FunctionTypes) (part : ℕ) (own : List ℕ) where
  pub literal_fits : (z : ℤ) → TypedFits y main here part own (literal z)
  literal_fits z = push_values y main here (constant.Int z) AnInt

  -- ---- fields

  field_place : (c o : ℕ) (x : Expression) (d : Declared) (remote : Bool) → IsCellType d.ty → FieldBy y c shape.Cell d o
      → Values y main here x (AnAddress (ObjectOf c)) → PlaceFits y main here part own (place_of (e.Member x o) d remote root.Member)
  field_place c o x d remote known f v = record {
    sort = MemberAt c o;
    sorted = member_sorts y main here x o c f.0 v;
    cell = f.1;
    known = known;
    owned = tt;
    lends = λ outside. absurd (outside refl);
  }

  field_by : (s : Shape) (c o : ℕ) (x : Expression) (d : Declared) (remote : Bool) → IsCellType d.ty → FieldBy y c s d o
      → Values y main here x (AnAddress (ObjectOf c)) → TypedFits y main here part own (placed_by s (place_of (e.Member x o) d remote root.Member))
  field_by shape.Cell c o x d remote known f v = field_place c o x d remote known f v
  field_by (shape.Array n) c o x d remote known f v = record {
    class = c;
    offset = o;
    sorted = member_sorts y main here x o c (omega (arith, f.0)) v;
    within = f.0;
    cells = f.1;
    known = known;
  }
  field_by (shape.Object class) c o x d remote known f v = absurd f

  placed_known : (t : Ty) (s : Shape) (p : Place) → IsCellType t → TypedFits y main here part own (placed_by s p) → TypedFits y main here part own (placed_as t s p)
  placed_known ty.Int s p known f = f
  placed_known (ty.Pointer to remote) s p known f = f
  placed_known ty.Null s p known f = absurd known
  placed_known ty.Void s p known f = absurd known
  placed_known ty.Unknown s p known f = absurd known

  pub field_fits : (c o : ℕ) (x : Expression) (d : Declared) (remote : Bool) → FieldFits y c d o → Values y main here x (AnAddress (ObjectOf c))
      → TypedFits y main here part own (placed (e.Member x o) d remote root.Member)
  field_fits c o x d remote f v = placed_known d.ty d.shape _ f.0 (field_by d.shape c o x d remote f.0 f.1 v)

  -- ---- variables

  module _ (k : ℕ) (p : ℕ) (d : Declared) (has : slice_get here.vars k ≡ Some (target_of d)) (among : p ≡ part → IsAmong k own) where
    address : (a : Target) → target_of d ≡ a → Sorted y main here (e.Variable k) (variable_sort a)
    address a is = variable_sorts y main here k a (has ∙ ap Some is)

    cell_sort : (sync : Bool) (u : ValueType) → IsCell y (variable_sort (Cells sync u)) sync u
    cell_sort true u = refl
    cell_sort false u = (refl, refl)

    own_sort : (sync : Bool) (u : ValueType) → sync ≡ false → variable_sort (Cells sync u) ≡ NamedCell u
    own_sort true u is = absurd (true≢false is)
    own_sort false u is = refl

    lent_sort : (sync : Bool) (u : ValueType) → sync ≡ true → variable_sort (Cells sync u) ≡ Valued (AnAddress (Cells true u))
    lent_sort true u is = refl
    lent_sort false u is = absurd (true≢false (sym is))

    variable_by : (s : Shape) → d.shape ≡ s → IsCellType d.ty → TypedFits y main here part own (placed_by s (place_of (e.Variable k) d false (root.Variable p)))
    variable_by shape.Cell is known = record {
      sort = variable_sort (Cells d.sync (value_type d.ty));
      sorted = address _ (ap (λ z. target_by z d) is);
      cell = cell_sort d.sync (value_type d.ty);
      known = known;
      owned = λ plain. (own_sort d.sync (value_type d.ty) plain, λ q. subst (λ t. IsOwnPlace own t) (sym (variable_is k)) (among q));
      lends = λ outside shared. lent_sort d.sync (value_type d.ty) shared;
    }
    variable_by (shape.Array n) is known = record {
      sorted = address _ (ap (λ z. target_by z d) is);
      known = known;
      owned = λ q. subst (λ t. IsOwnVariable y main here own t) (sym (variable_is k)) (among q);
    }
    variable_by (shape.Object class) is known = address (ObjectOf class.0) (ap (λ z. target_by z d) is)

    pub variable_typed : IsCellType d.ty → TypedFits y main here part own (placed (e.Variable k) d false (root.Variable p))
    variable_typed known = placed_known d.ty d.shape _ known (variable_by d.shape refl known)

-- ---- values

module _ (y : Types) (main : ℕ) (here : FunctionTypes) (F : Type 0) (grown ds : List Declared) (part : ℕ) (own : List ℕ) (ls : List Local) (cx : Context) where
  abbrev OperandIs : Option Operand → Type 0
  OperandIs = IsThere (OperandFits y main here)

  -- of a known type
  pub operand_of : (t : Ty) (x : Expression) → IsCellType t → Values y main here x (value_type t) → OperandBy y main here t x
  operand_of ty.Int x known v = v
  operand_of (ty.Pointer to remote) x known v = v
  operand_of ty.Null x known v = absurd known
  operand_of ty.Void x known v = absurd known
  operand_of ty.Unknown x known v = absurd known

  load_fits : (p : Place) → PlaceFits y main here part own p → OperandFits y main here (loaded p)
  load_fits p f = operand_of p.ty _ f.known (load_values y main here p.remote p.address p.sync (value_type p.ty) (f.sort, f.sorted, f.cell))

  load_runs : (p : Place) → Reads F grown ds part own ls (PlaceFits y main here part own p) (load cx p) OperandIs
  unfolding load
  load_runs p = next (block_if_runs F grown ds part own ls (may_wait p) cx.line) (done (Some (loaded p)) (λ f. load_fits p f))

  load_unless_runs : (b : Bool) (p : Place) → Reads F grown ds part own ls (PlaceFits y main here part own p) (load_unless b cx p) OperandIs
  load_unless_runs true p = never F grown ds part own ls cx _ None
  load_unless_runs false p = load_runs p

  pub share_address_runs : (sync : Bool) {P : Type 0} → Reads F grown ds part own ls P (share_address sync cx) (λ u. sync ≡ true)
  share_address_runs true = done tt (λ x. refl)
  share_address_runs false = share_runs F grown ds part own ls _ _

  -- the pointer to a sync int
  pub sync_pointer : (sync : Bool) (remote : Bool) (x : Expression) → sync ≡ true → Values y main here x (AnAddress (Cells true AnInt))
      → OperandBy y main here (ty.Pointer (int_target sync) remote) x
  sync_pointer true remote x is v = v
  sync_pointer false remote x is v = absurd (true≢false (sym is))

  -- ---- the first element of an array

  variable_first : (k : ℕ) (p : Place) → VariableArray y main here part own k p → p.sync ≡ true → p.ty ≡ ty.Int → OperandFits y main here (pointer_to p)
  variable_first k p f is int = sync_pointer p.sync p.remote p.address is
      (subst (λ u. Values y main here p.address (AnAddress (Cells true u))) (ap value_type int)
      (subst (λ b. Sorted y main here p.address (variable_sort (Cells b (value_type p.ty)))) is f.sorted))

  pointed_runs : (k : ℕ) (p : Place) → p.ty ≡ ty.Int → Reads F grown ds part own ls (VariableArray y main here part own k p) (pointed cx p) OperandIs
  unfolding pointed
  pointed_runs k p int = after (share_address_runs p.sync) (λ u x. x) (done (Some (pointer_to p)) (λ x. variable_first k p x.0 x.1 int))

  nothing : (p : Place) → Reads F grown ds part own ls ⊥ (pointed cx p) OperandIs
  unfolding pointed
  nothing p = next (share_address_runs p.sync) (done (Some (pointer_to p)) (λ x. absurd x))

  first_by : (t : Ty) (r : Root) (p : Place) (n : ℕ) → p.ty ≡ t → p.root ≡ r
      → Reads F grown ds part own ls (ArrayBy y main here part own r p n) (first_unless (array_rule t r) cx p) OperandIs
  first_by ty.Int (root.Variable k) p n is on = pointed_runs k p is
  first_by ty.Int root.Member p n is on = never F grown ds part own ls cx _ None
  first_by ty.Int root.Pointer p n is on = nothing p
  first_by ty.Null r p n is on = never F grown ds part own ls cx _ None
  first_by ty.Void r p n is on = never F grown ds part own ls cx _ None
  first_by (ty.Pointer to remote) r p n is on = never F grown ds part own ls cx _ None
  first_by ty.Unknown r p n is on = never F grown ds part own ls cx _ None

  not_void_runs : (t : Ty) (v : Operand) → Reads F grown ds part own ls (OperandFits y main here v) (not_void_by t cx v) OperandIs
  not_void_runs ty.Void v = never F grown ds part own ls cx _ None
  not_void_runs ty.Int v = done (Some v) (λ x. x)
  not_void_runs ty.Null v = done (Some v) (λ x. x)
  not_void_runs ty.Unknown v = done (Some v) (λ x. x)
  not_void_runs (ty.Pointer to remote) v = done (Some v) (λ x. x)

  pub decay_runs : (t : Typed) → Reads F grown ds part own ls (TypedFits y main here part own t) (decay cx t) OperandIs
  decay_runs typed.Broken = done None (λ x. x)
  decay_runs typed.Spoiled = done None (λ x. x)
  decay_runs (typed.Value v) = not_void_runs v.ty v
  decay_runs (typed.This class remote) = done (Some (own_pointer class remote)) (λ x. this_values y main here class.0 x)
  decay_runs (typed.Constant term value) = done (Some (int term)) (λ x. x)
  decay_runs (typed.Place p) = load_unless_runs (is_far_local p) p
  decay_runs (typed.Array p n) = first_by p.ty p.root p n refl refl
  decay_runs (typed.Object o) = never F grown ds part own ls cx _ None

  -- ---- names

  of_constant_fits : (b : Bool) (z : Option ℤ) → ConstantFits y main here b z → TypedFits y main here part own (of_constant b z)
  of_constant_fits true None p = p
  of_constant_fits true (Some z) p = literal_fits y main here part own z
  of_constant_fits false None p = push_values y main here (constant.Int (pos 0)) AnInt
  of_constant_fits false (Some z) p = push_values y main here (constant.Int z) AnInt

  module _ (vars : F → (k : ℕ) (d : Declared) → slice_get ds k ≡ Some d → slice_get here.vars k ≡ Some (target_of d)) where
    pub of_meaning_runs : (x : Meaning) → Reads F grown ds part own ls (MeaningFits y main here ds part own x × F) (of_meaning cx x) (TypedFits y main here part own)
    of_meaning_runs (m.Variable f) =
        done (of_variable f) (λ x. variable_typed y main here part own f.number f.part f.declared (vars x.1 f.number f.declared x.0.0) x.0.2 x.0.1)
    of_meaning_runs (m.Field declared offset) =
        done (own_field declared offset) (λ x. field_fits y main here part own x.0.0 offset e.This declared false x.0.2 (this_values y main here x.0.0 x.0.1))
    of_meaning_runs (m.Method f) = never F grown ds part own ls cx _ typed.Broken
    of_meaning_runs (m.Constant b z) = done (of_constant b z) (λ x. of_constant_fits b z x.0)
    of_meaning_runs (m.Function f) = never F grown ds part own ls cx _ typed.Broken
    of_meaning_runs m.Nothing = never F grown ds part own ls cx _ typed.Broken

  module _ (stands : F → Stands y main here cx) where
    this_in_runs : (k : Option Class) (class : ClassId) → cx.class ≡ Some class
        → Reads F grown ds part own ls F (this_in k cx class) (TypedFits y main here part own)
    this_in_runs None class is = never F grown ds part own ls cx _ typed.Broken
    this_in_runs (Some k) class is = done (typed.This class k.remote) (λ x. (stands x).this class is)

    this_by_runs : (o : Option ClassId) → cx.class ≡ o → Reads F grown ds part own ls F (this_by o cx) (TypedFits y main here part own)
    this_by_runs None is = never F grown ds part own ls cx _ typed.Broken
    this_by_runs (Some class) is = this_in_runs (class_at cx class) class is

    pub this_runs : {P : Type 0} → Reads F grown ds part own ls P (this cx) (TypedFits y main here part own)
    this_runs = having F grown ds part own ls (given (λ x. x.1) (this_by_runs cx.class refl))

    -- a name
    pub name_runs : (F → (k : ℕ) (d : Declared) → slice_get ds k ≡ Some d → slice_get here.vars k ≡ Some (target_of d)) → (text : Name) {P : Type 0}
        → Reads F grown ds part own ls P (name cx text) (TypedFits y main here part own)
    name_runs vars text = looking (λ s. of_meaning cx (meant cx text s)) (λ s.
        given (λ x. (meant_fits y main here cx (stands x.1.2) ds part own F text ls s x.1, x.1.2)) (of_meaning_runs vars (meant cx text s)))
