-- Values, names and lengths.
use Rattle.cc_core.specs.Core as core
use Rattle.cc_core.specs.Names as names
use Rattle.core_types.specs.Types.{AnInt, Pointer, Target, Cells, ObjectOf, MemberOf, Types}
use Rattle.core_types.specs.Types.{Passes, Allowed}
use Rattle.core_types.specs.Values.{World}
use Rattle.core_types.specs.Typing.{Scope}
use Rattle.std.proofs.Common.{◌≡◌, ℕ, ℤ, pos, Bool, true, false, List, Option, Some, None, refl, sym, ap, ◌∙◌, subst, arith}
use Rattle.std.specs.Prelude.{slice_get, nat_lt, ◌&&◌}
use Rattle.cc_core.specs.declared.expression.Expression.{Expression}
use Rattle.cc_core.specs.declared.expression.Expression.TheVariants as e
use Rattle.std.proofs.lemmas.Bool.{true≢false}
use Rattle.cc_names.specs.Names.{entity_named, member_named}
use Rattle.cc_names.specs.Table.{Name}
use Rattle.cc_names.specs.declared.broken.Broken.TheVariants.{Rule}
use Rattle.cc_names.specs.declared.declarations.ClassId.{ClassId}
use Rattle.cc_names.specs.declared.declarations.MemberId.{MemberId}
use Rattle.cc_names.specs.declared.declarations.Entity.{Entity}
use Rattle.cc_names.specs.declared.declarations.Entity.TheVariants as entity
use Rattle.cc_names.specs.declared.rule.StaticRule.{StaticRule}
use Rattle.cc_scopes.specs.declared.meaning.Meaning.{Meaning}
use Rattle.cc_scopes.specs.declared.meaning.Meaning.TheVariants as m
use Rattle.cc_scopes.specs.declared.scope.Found.{Found}
use Rattle.cc_scopes.specs.declared.state.Local.{Local}
use Rattle.cc_scopes.specs.declared.state.State.{State}
use Rattle.cc_scopes.specs.declared.tables.Class.{Class}
use Rattle.cc_scopes.specs.declared.tables.Member as table
use Rattle.cc_scopes.specs.declared.tables.Member.TheVariants as member
use Rattle.cc_scopes.specs.declared.typed.Operand.{Operand}
use Rattle.cc_scopes.specs.declared.typed.Place.{Place}
use Rattle.cc_scopes.specs.declared.typed.Root.{Root}
use Rattle.cc_scopes.specs.declared.typed.Root.TheVariants as root
use Rattle.cc_scopes.specs.declared.typed.Typed.{Typed}
use Rattle.cc_scopes.specs.declared.typed.Typed.TheVariants as typed
use Rattle.cc_scopes.specs.declared.types.Declared.{Declared}
use Rattle.cc_scopes.specs.declared.types.Shape.{Shape}
use Rattle.cc_scopes.specs.declared.types.Shape.TheVariants as shape
use Rattle.cc_scopes.specs.declared.types.Ty.{Ty}
use Rattle.cc_scopes.specs.declared.types.Ty.TheVariants as ty
use Rattle.cc_scopes.specs.Elab.{◌>>◌, pure}
use Rattle.cc_scopes.specs.Scope.{Context, variable}
use Rattle.cc_scopes.specs.Typed.{note_rule, placed_by, placed_as, place_of, placed, int, literal, is_far_local, loaded, may_wait, load, load_unless}
use Rattle.cc_scopes.specs.Typed.{share_address, pointer_to, pointed, array_rule, first_unless, not_void_by, own as own_pointer, decay}
use Rattle.cc_scopes.specs.Types.{int_target, is_local_pointer}
use Rattle.cc_scopes.specs.Meaning.{class_at, member_in, member_at, member_of, constant_value, of_member, of_entity, of_file, member_or_file, outside_by, variable_or, meant, meant_in}
use Rattle.cc_scopes.specs.Meaning.{of_constant, of_variable, own_field, of_meaning, name, this_in, this_by, this}
use Rattle.source_types.specs.Reading.{IsThere, Anything}
use Rattle.source_types.proofs.Runs.{given, next, after, done, looking, bind}
use Rattle.source_types.proofs.Forms.{this_values, load_values, int_literal, variable_values, member_values}
use Rattle.source_types.specs.TypesOf.{value_type, target_by, target_of, IsCellType, FieldBy, FieldFits, MemberFits}
use Rattle.source_types.specs.Reading.{Stands, FoundFits, LocalsFit, Grown}
use Rattle.source_types.proofs.Fits.{Keeps, Reads, having, Values, OperandBy, OperandFits}
use Rattle.source_types.proofs.Fits.{MeaningIn, ConstantFits, MeaningFits, PlaceFits, VariableArray, ArrayBy, TypedFits}
use Rattle.source_types.proofs.StateLaws.{IfThere, found_fits, note_runs, share_runs, block_if_runs}

-- ---- members and names

pub there : {A : Type 0} (o : Option A) (Q : A → Type 0) → ((a : A) → o ≡ Some a → Q a) → IfThere Q o
there None Q f = tt
there (Some a) Q f = f a refl

module _ (program : core.Program) (y : Types) (world : World) (home : names.Name) (here : Scope) (grown : Grown) (cx : Context) (stands : Stands program y here grown cx) where
  member_in_class : (c : ℕ) (k : Option Class) → slice_get cx.tables.classes c ≡ k → (id : MemberId) → IfThere (MemberFits y c) (member_in k id)
  member_in_class c None is id = tt
  member_in_class c (Some k) is id = there (slice_get k.members id.0) (MemberFits y c) (λ x q. stands.matches.members c k is id.0 x q)

  member_by_id : (class : ClassId) (id : Option MemberId) → IfThere (MemberFits y class.0) (member_at cx class id)
  member_by_id class None = tt
  member_by_id class (Some id) = member_in_class class.0 (class_at cx class) refl id

  pub member_fits : (class : ClassId) (text : Name) → IfThere (MemberFits y class.0) (member_of cx class text)
  member_fits class text = member_by_id class (member_named cx.names class text)

  meaning_in : (c : ℕ) (x : Option table.Member) → IfThere (MemberFits y c) x → MeaningIn program y world home here c (meant_in x)
  meaning_in c None p = tt
  meaning_in c (Some (member.Field declared offset)) p = p
  meaning_in c (Some (member.Method f)) p = p

  pub meant_in_fits : (class : ClassId) (text : Name) → MeaningIn program y world home here class.0 (meant_in (member_of cx class text))
  meant_in_fits class text = meaning_in class.0 (member_of cx class text) (member_fits class text)

  constant_fits : (b : Bool) (k : ℕ) → nat_lt k cx.known ≡ b → ConstantFits program y world home here b (constant_value cx k)
  constant_fits true k is = stands.constants k is
  constant_fits false k is = tt

  module _ (ds : List Declared) where
    of_member_fits : (c : ℕ) (x : table.Member) → here.this ≡ Some c → MemberFits y c x → MeaningFits program y world home here ds (of_member x)
    of_member_fits c (member.Field declared offset) is p = (c, is, p)
    of_member_fits c (member.Method f) is p = (c, is, p)

    of_entity_fits : (text : Name) (x : Option Entity) → entity_named cx.names text ≡ x → MeaningFits program y world home here ds (of_entity cx x)
    of_entity_fits text None is = tt
    of_entity_fits text (Some (entity.Constant k)) is = constant_fits (nat_lt k cx.known) k refl
    of_entity_fits text (Some (entity.Class class)) is = tt
    of_entity_fits text (Some (entity.Function f)) is = stands.functions text f is

    of_file_fits : (text : Name) → MeaningFits program y world home here ds (of_file cx text)
    of_file_fits text = of_entity_fits text (entity_named cx.names text) refl

    member_or_file_fits : (c : ℕ) (x : Option table.Member) (text : Name) → here.this ≡ Some c → IfThere (MemberFits y c) x
        → MeaningFits program y world home here ds (member_or_file x cx text)
    member_or_file_fits c None text is p = of_file_fits text
    member_or_file_fits c (Some x) text is p = of_member_fits c x is p

    outside_fits : (class : Option ClassId) (text : Name) → cx.class ≡ class → MeaningFits program y world home here ds (outside_by class cx text)
    outside_fits None text is = of_file_fits text
    outside_fits (Some class) text is = member_or_file_fits class.0 (member_of cx class text) text (stands.this class is) (member_fits class text)

    variable_or_fits : (x : Option Found) (text : Name) → IfThere (FoundFits ds) x → MeaningFits program y world home here ds (variable_or x cx text)
    variable_or_fits None text p = outside_fits cx.class text refl
    variable_or_fits (Some x) text p = p

    pub meant_fits : (F : Type 0) (text : Name) (ls : List Local) (s : State) → Keeps F ds ls s → MeaningFits program y world home here ds (meant cx text s)
    meant_fits F text ls s k = variable_or_fits (variable text s.locals) text
        (found_fits ds text s.locals (subst (λ l. LocalsFit ds l) (sym k.0) k.1))

-- ---- rules that are broken

module _ (F : Type 0) (grown : Grown) (ds : List Declared) (ls : List Local) (cx : Context) {P : Type 0} where
  pub note_rule_runs : (rule : StaticRule) {Q : Unit {0} → Type 0} → Reads F grown ds ls P (note_rule cx rule) Q
  note_rule_runs rule = note_runs F grown ds ls (Rule rule cx.line)

  -- what follows a broken rule is nowhere
  pub never : {A : Type 0} (rule : StaticRule) (a : A) {Q : A → Type 0} → Reads F grown ds ls P (note_rule cx rule >> pure a) Q
  never rule a {Q = Q} = after {X = ⊥} (note_rule_runs rule {Q = λ u. ⊥}) (λ u x. x) (done a (λ x. absurd x.1))

-- ---- what stands at an address

module _ (program : core.Program) (y : Types) (world : World) (home : names.Name) (here : Scope) where
  pub literal_fits : (z : ℤ) → TypedFits program y world home here (literal z)
  literal_fits z = int_literal program y world home here z

  -- ---- fields

  field_place : (c o : ℕ) (x : Expression) (d : Declared) (remote : Bool) → IsCellType d.ty → FieldBy y c shape.Cell d o
      → Values program y world home here x (Pointer remote (ObjectOf c)) → PlaceFits program y world home here (place_of (e.Member x o) d remote root.Member)
  field_place c o x d remote known f v = record {
    target = MemberOf c o;
    leads = member_values program y world home here x o c remote f.0 v;
    cell = f.1;
    known = known;
    row = λ outside. absurd (outside refl);
  }

  field_by : (s : Shape) (c o : ℕ) (x : Expression) (d : Declared) (remote : Bool) → IsCellType d.ty → FieldBy y c s d o
      → Values program y world home here x (Pointer remote (ObjectOf c)) → TypedFits program y world home here (placed_by s (place_of (e.Member x o) d remote root.Member))
  field_by shape.Cell c o x d remote known f v = field_place c o x d remote known f v
  field_by (shape.Array n) c o x d remote known f v = record {
    class = c;
    offset = o;
    leads = member_values program y world home here x o c remote (omega (arith, f.0)) v;
    within = f.0;
    cells = f.1;
    known = known;
  }
  field_by (shape.Object class) c o x d remote known f v = absurd f

  placed_known : (t : Ty) (s : Shape) (p : Place) → IsCellType t → TypedFits program y world home here (placed_by s p) → TypedFits program y world home here (placed_as t s p)
  placed_known ty.Int s p known f = f
  placed_known (ty.Pointer to remote) s p known f = f
  placed_known ty.Null s p known f = absurd known
  placed_known ty.Void s p known f = absurd known
  placed_known ty.Unknown s p known f = absurd known

  pub field_fits : (c o : ℕ) (x : Expression) (d : Declared) (remote : Bool) → FieldFits y c d o → Values program y world home here x (Pointer remote (ObjectOf c))
      → TypedFits program y world home here (placed (e.Member x o) d remote root.Member)
  field_fits c o x d remote f v = placed_known d.ty d.shape _ f.0 (field_by d.shape c o x d remote f.0 f.1 v)

  -- ---- variables

  module _ (k : ℕ) (p : ℕ) (d : Declared) (has : slice_get here.vars k ≡ Some (target_of d)) where
    address : (a : Target) → target_of d ≡ a → Values program y world home here (e.Variable k) (Pointer false a)
    address a is = variable_values program y world home here k a (has ∙ ap Some is)

    variable_by : (s : Shape) → d.shape ≡ s → IsCellType d.ty → TypedFits program y world home here (placed_by s (place_of (e.Variable k) d false (root.Variable p)))
    variable_by shape.Cell is known = record {
      target = Cells d.sync (value_type d.ty);
      leads = address _ (ap (λ z. target_by z d) is);
      cell = (refl, refl);
      known = known;
      row = λ outside. refl;
    }
    variable_by (shape.Array n) is known = record { leads = address _ (ap (λ z. target_by z d) is); known = known }
    variable_by (shape.Object class) is known = (address (ObjectOf class.0) (ap (λ z. target_by z d) is), λ v. refl)

    pub variable_typed : IsCellType d.ty → TypedFits program y world home here (placed (e.Variable k) d false (root.Variable p))
    variable_typed known = placed_known d.ty d.shape _ known (variable_by d.shape refl known)

-- ---- values

module _ (program : core.Program) (y : Types) (world : World) (home : names.Name) (here : Scope) (F : Type 0) (grown : Grown) (ds : List Declared) (ls : List Local) (cx : Context) where
  abbrev OperandIs : Option Operand → Type 0
  OperandIs = IsThere (OperandFits program y world home here)

  -- of a known type
  pub operand_of : (t : Ty) (x : Expression) → IsCellType t → Values program y world home here x (value_type t) → OperandBy program y world home here t x
  operand_of ty.Int x known v = v
  operand_of (ty.Pointer to remote) x known v = v
  operand_of ty.Null x known v = absurd known
  operand_of ty.Void x known v = absurd known
  operand_of ty.Unknown x known v = absurd known

  pub passes : (remote : Bool) (t : Ty) → IsCellType t → (remote && is_local_pointer t) ≡ false → Passes remote (value_type t)
  passes false t known is = tt
  passes true ty.Int known is = tt
  passes true (ty.Pointer to true) known is = refl
  passes true (ty.Pointer to false) known is = absurd (true≢false is)
  passes true ty.Null known is = absurd known
  passes true ty.Void known is = absurd known
  passes true ty.Unknown known is = absurd known

  module _ (same : F → grown.waits ≡ here.waits) where
    pub load_fits : (p : Place) → PlaceFits program y world home here p → is_far_local p ≡ false → Allowed here.waits (may_wait p) → OperandFits program y world home here (loaded p)
    load_fits p f near w = operand_of p.ty _ f.known
        (load_values program y world home here p.remote p.address f.target p.sync (value_type p.ty) f.leads f.cell (passes p.remote p.ty f.known near) w)

    load_runs : (p : Place) → is_far_local p ≡ false → Reads F grown ds ls (PlaceFits program y world home here p × F) (load cx p) OperandIs
    unfolding load
    load_runs p near = bind (block_if_runs F grown ds ls (may_wait p) cx.line) (λ u.
        done (Some (loaded p)) (λ x. load_fits p x.0.0 near (subst (λ b. Allowed b (may_wait p)) (same x.0.1) x.1)))

    load_unless_runs : (b : Bool) (p : Place) → is_far_local p ≡ b
        → Reads F grown ds ls (PlaceFits program y world home here p × F) (load_unless b cx p) OperandIs
    load_unless_runs true p is = never F grown ds ls cx _ None
    load_unless_runs false p is = load_runs p is

  pub share_address_runs : (sync : Bool) {P : Type 0} → Reads F grown ds ls P (share_address sync cx) Anything
  share_address_runs true = done tt (λ x. tt)
  share_address_runs false = share_runs F grown ds ls _ _

  -- the pointer to an int
  pub int_pointer : (sync : Bool) (remote : Bool) (x : Expression) → Values program y world home here x (Pointer remote (Cells sync AnInt))
      → OperandBy program y world home here (ty.Pointer (int_target sync) remote) x
  int_pointer true remote x v = v
  int_pointer false remote x v = v

  -- ---- the first element of an array

  variable_first : (k : ℕ) (p : Place) → VariableArray program y world home here k p → p.ty ≡ ty.Int → OperandFits program y world home here (pointer_to p)
  variable_first k p f int = int_pointer p.sync p.remote p.address
      (subst (λ u. Values program y world home here p.address (Pointer p.remote (Cells p.sync u))) (ap value_type int) f.leads)

  pointed_runs : (k : ℕ) (p : Place) → p.ty ≡ ty.Int → Reads F grown ds ls (VariableArray program y world home here k p) (pointed cx p) OperandIs
  unfolding pointed
  pointed_runs k p int = next (share_address_runs p.sync) (done (Some (pointer_to p)) (λ x. variable_first k p x int))

  nothing : (p : Place) → Reads F grown ds ls ⊥ (pointed cx p) OperandIs
  unfolding pointed
  nothing p = next (share_address_runs p.sync) (done (Some (pointer_to p)) (λ x. absurd x))

  first_by : (t : Ty) (r : Root) (p : Place) (n : ℕ) → p.ty ≡ t → p.root ≡ r
      → Reads F grown ds ls (ArrayBy program y world home here r p n) (first_unless (array_rule t r) cx p) OperandIs
  first_by ty.Int (root.Variable k) p n is on = pointed_runs k p is
  first_by ty.Int root.Member p n is on = never F grown ds ls cx _ None
  first_by ty.Int root.Pointer p n is on = nothing p
  first_by ty.Null r p n is on = never F grown ds ls cx _ None
  first_by ty.Void r p n is on = never F grown ds ls cx _ None
  first_by (ty.Pointer to remote) r p n is on = never F grown ds ls cx _ None
  first_by ty.Unknown r p n is on = never F grown ds ls cx _ None

  not_void_runs : (t : Ty) (v : Operand) → Reads F grown ds ls (OperandFits program y world home here v) (not_void_by t cx v) OperandIs
  not_void_runs ty.Void v = never F grown ds ls cx _ None
  not_void_runs ty.Int v = done (Some v) (λ x. x)
  not_void_runs ty.Null v = done (Some v) (λ x. x)
  not_void_runs ty.Unknown v = done (Some v) (λ x. x)
  not_void_runs (ty.Pointer to remote) v = done (Some v) (λ x. x)

  pub decay_runs : (F → grown.waits ≡ here.waits) → (t : Typed) → Reads F grown ds ls (TypedFits program y world home here t) (decay cx t) OperandIs
  decay_runs same typed.Broken = done None (λ x. x)
  decay_runs same typed.Spoiled = done None (λ x. x)
  decay_runs same (typed.Value v) = not_void_runs v.ty v
  decay_runs same (typed.This class remote) = done (Some (own_pointer class remote)) (λ x. this_values program y world home here class.0 remote x)
  decay_runs same (typed.Constant term value) = done (Some (int term)) (λ x. x)
  decay_runs same (typed.Place p) = having F grown ds ls (load_unless_runs same (is_far_local p) p refl)
  decay_runs same (typed.Array p n) = first_by p.ty p.root p n refl refl
  decay_runs same (typed.Object o) = never F grown ds ls cx _ None

  -- ---- names

  of_constant_fits : (b : Bool) (z : Option ℤ) → ConstantFits program y world home here b z → TypedFits program y world home here (of_constant b z)
  of_constant_fits true None p = p
  of_constant_fits true (Some z) p = literal_fits program y world home here z
  of_constant_fits false None p = int_literal program y world home here (pos 0)
  of_constant_fits false (Some z) p = int_literal program y world home here z

  module _ (vars : F → (k : ℕ) (d : Declared) → slice_get ds k ≡ Some d → slice_get here.vars k ≡ Some (target_of d)) where
    pub of_meaning_runs : (x : Meaning) → Reads F grown ds ls (MeaningFits program y world home here ds x × F) (of_meaning cx x) (TypedFits program y world home here)
    of_meaning_runs (m.Variable f) =
        done (of_variable f) (λ x. variable_typed program y world home here f.number f.part f.declared (vars x.1 f.number f.declared x.0.0) x.0.1)
    of_meaning_runs (m.Field declared offset) =
        done (own_field declared offset) (λ x. field_fits program y world home here x.0.0 offset e.This declared false x.0.2 (this_values program y world home here x.0.0 false x.0.1))
    of_meaning_runs (m.Method f) = never F grown ds ls cx _ typed.Broken
    of_meaning_runs (m.Constant b z) = done (of_constant b z) (λ x. of_constant_fits b z x.0)
    of_meaning_runs (m.Function f) = never F grown ds ls cx _ typed.Broken
    of_meaning_runs m.Nothing = never F grown ds ls cx _ typed.Broken

  module _ (stands : F → Stands program y here grown cx) where
    this_in_runs : (k : Option Class) (class : ClassId) → cx.class ≡ Some class
        → Reads F grown ds ls F (this_in k cx class) (TypedFits program y world home here)
    this_in_runs None class is = never F grown ds ls cx _ typed.Broken
    this_in_runs (Some k) class is = done (typed.This class k.remote) (λ x. (stands x).this class is)

    this_by_runs : (o : Option ClassId) → cx.class ≡ o → Reads F grown ds ls F (this_by o cx) (TypedFits program y world home here)
    this_by_runs None is = never F grown ds ls cx _ typed.Broken
    this_by_runs (Some class) is = this_in_runs (class_at cx class) class is

    pub this_runs : {P : Type 0} → Reads F grown ds ls P (this cx) (TypedFits program y world home here)
    this_runs = having F grown ds ls (given (λ x. x.1) (this_by_runs cx.class refl))

    -- a name
    pub name_runs : (F → (k : ℕ) (d : Declared) → slice_get ds k ≡ Some d → slice_get here.vars k ≡ Some (target_of d)) → (text : Name) {P : Type 0}
        → Reads F grown ds ls P (name cx text) (TypedFits program y world home here)
    name_runs vars text = looking (λ s. of_meaning cx (meant cx text s)) (λ s.
        given (λ x. (meant_fits program y world home here grown cx (stands x.1.2) ds F text ls s x.1, x.1.2)) (of_meaning_runs vars (meant cx text s)))
