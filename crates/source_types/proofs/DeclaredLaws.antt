-- What is declared has a type, where no rule is broken.
use Rattle.std.proofs.Common.{◌≡◌, ℕ, Bool, true, false, List, Option, Some, None, refl, sym, subst}
use Rattle.std.specs.Prelude.{slice_get}
use Rattle.std.proofs.lemmas.Bool.{true≢false}
use Rattle.cc_core.specs.Core as core
use Rattle.cc_core.specs.Names as names
use Rattle.core_types.specs.Values.{World}
use Rattle.core_types.specs.Typing.{Scope}
use Rattle.core_types.specs.Types.{Types}
use Rattle.cc_names.specs.Names.{class_named}
use Rattle.cc_names.specs.declared.declarations.ClassId.{ClassId}
use Rattle.cc_names.specs.declared.rule.StaticRule.{StaticRule}
use Rattle.cc_declared.specs.declared.role.Role.{Role}
use Rattle.cc_declared.specs.declared.role.Role.TheVariants as role
use Rattle.cc_tree.specs.declared.expressions.Expr.{Expr}
use Rattle.cc_tree.specs.declared.statements.Base.{Base}
use Rattle.cc_tree.specs.declared.statements.Base.TheVariants as base
use Rattle.cc_tree.specs.declared.statements.Decl.{Decl}
use Rattle.cc_tree.specs.declared.statements.TypeName.{TypeName}
use Rattle.cc_scopes.specs.declared.state.Local.{Local}
use Rattle.cc_scopes.specs.declared.types.Declared.{Declared}
use Rattle.cc_scopes.specs.declared.types.Shape.{Shape}
use Rattle.cc_scopes.specs.declared.types.Shape.TheVariants as shape
use Rattle.cc_scopes.specs.declared.types.Target.TheVariants as target
use Rattle.cc_scopes.specs.declared.types.Ty.{Ty}
use Rattle.cc_scopes.specs.declared.types.Ty.TheVariants as ty
use Rattle.cc_scopes.specs.Types.{int_target}
use Rattle.cc_scopes.specs.Scope.{Context}
use Rattle.cc_declared.specs.Allowed.{is_variable, may_be, is_allowed_by, is_allowed}
use Rattle.cc_declared.specs.Slots.{kept_by, checked, typed_as, known_length, array_of, arrayed_by, arrayed, with_length, slot, variable, field, parameter, returned}
use Rattle.cc_declared.specs.Written.{cell, unknown, object, pointer, int_type, class_type, no_type, void_type, class_or_none, written_by}
use Rattle.source_types.specs.Reading.{IsThere}
use Rattle.source_types.proofs.Runs.{given, always, bind, done, either}
use Rattle.source_types.specs.TypesOf.{target_of, IsCellType, IsResultType}
use Rattle.source_types.specs.Reading.{Grown, Stands}
use Rattle.source_types.proofs.Fits.{Reads}
use Rattle.source_types.proofs.ScopeLaws.{never}
use Rattle.source_types.proofs.LengthLaws.{IsLength}
use Rattle.source_types.proofs.ExpressionLaws.{array_length_runs}
use Rattle.source_types.proofs.OperatorLaws.{left_true}

-- arrays have a length, and what is no variable is no object
abbrev pub ShapeFits : Role → Shape → Type 0
ShapeFits role shape.Cell = Unit {0}
ShapeFits role (shape.Array n) = IsLength n
ShapeFits role (shape.Object class) = is_variable role ≡ true

abbrev pub RoleType : Role → Ty → Type 0
RoleType role.Variable t = IsCellType t
RoleType role.Field t = IsCellType t
RoleType role.Parameter t = IsCellType t
RoleType role.Result t = IsResultType t

abbrev pub DeclaredFits : Role → Declared → Type 0
DeclaredFits role d = RoleType role d.ty × ShapeFits role d.shape

-- as it is written
abbrev pub WrittenBy : Shape → Ty → Type 0
WrittenBy shape.Cell t = IsResultType t
WrittenBy (shape.Array n) t = ⊥
WrittenBy (shape.Object class) t = t ≡ ty.Int

abbrev pub WrittenFits : Declared → Type 0
WrittenFits d = WrittenBy d.shape d.ty

allowed_type : (role : Role) (cx : Context) (t : Ty) (sync : Bool) → may_be role cx t sync ≡ true → IsResultType t → RoleType role t
allowed_type role.Variable cx ty.Int sync is r = tt
allowed_type role.Variable cx (ty.Pointer to remote) sync is r = tt
allowed_type role.Variable cx ty.Void sync is r = absurd (true≢false (sym is))
allowed_type role.Variable cx ty.Null sync is r = r
allowed_type role.Variable cx ty.Unknown sync is r = r
allowed_type role.Field cx ty.Int sync is r = tt
allowed_type role.Field cx (ty.Pointer to remote) sync is r = tt
allowed_type role.Field cx ty.Void sync is r = absurd (true≢false (sym is))
allowed_type role.Field cx ty.Null sync is r = r
allowed_type role.Field cx ty.Unknown sync is r = r
allowed_type role.Parameter cx ty.Int sync is r = tt
allowed_type role.Parameter cx (ty.Pointer to remote) sync is r = tt
allowed_type role.Parameter cx ty.Void sync is r = absurd (true≢false (sym is))
allowed_type role.Parameter cx ty.Null sync is r = r
allowed_type role.Parameter cx ty.Unknown sync is r = r
allowed_type role.Result cx t sync is r = r

int_role : (role : Role) → RoleType role ty.Int
int_role role.Variable = tt
int_role role.Field = tt
int_role role.Parameter = tt
int_role role.Result = tt

pub allowed_fits : (s : Shape) (role : Role) (cx : Context) (d : Declared) → d.shape ≡ s → is_allowed_by s role cx d ≡ true → WrittenBy s d.ty → DeclaredFits role d
allowed_fits shape.Cell role cx d same is w = (allowed_type role cx d.ty d.sync is w, subst (λ z. ShapeFits role z) (sym same) tt)
allowed_fits (shape.Array n) role cx d same is w = absurd w
allowed_fits (shape.Object class) role cx d same is w =
    (subst (λ z. RoleType role z) (sym w) (int_role role), subst (λ z. ShapeFits role z) (sym same) (left_true (is_variable role) _ is))

pub int_type_fits : (sync : Bool) (t : TypeName) → WrittenFits (int_type sync t)
int_type_fits sync t = either WrittenFits t.star (pointer (int_target sync) t) (cell ty.Int sync) tt tt

pub class_type_fits : (class : ClassId) (t : TypeName) → WrittenFits (class_type class t)
class_type_fits class t = either WrittenFits t.star (pointer (target.Class class) t) (object class) tt refl

module _ (F : Type 0) (grown : Grown) (ds : List Declared) (ls : List Local) (cx : Context) where
  no_type_runs : (rule : StaticRule) {P : Type 0} {Q : Declared → Type 0} → Reads F grown ds ls P (no_type cx rule) Q
  no_type_runs rule = never F grown ds ls cx rule unknown

  void_type_runs : (b : Bool) {P : Type 0} → Reads F grown ds ls P (void_type b cx) WrittenFits
  void_type_runs true = no_type_runs _
  void_type_runs false = done (cell ty.Void false) (λ x. tt)

  class_or_none_runs : (o : Option ClassId) (t : TypeName) {P : Type 0} → Reads F grown ds ls P (class_or_none o cx t) WrittenFits
  class_or_none_runs None t = no_type_runs _
  class_or_none_runs (Some class) t = done (class_type class t) (λ x. class_type_fits class t)

  written_by_runs : (b : Base) (t : TypeName) {P : Type 0} → Reads F grown ds ls P (written_by b cx t) WrittenFits
  written_by_runs base.Void t = void_type_runs t.star
  written_by_runs base.Int t = done (int_type false t) (λ x. int_type_fits false t)
  written_by_runs base.SyncInt t = done (int_type true t) (λ x. int_type_fits true t)
  written_by_runs (base.Named name) t = class_or_none_runs (class_named cx.names name) t

  checked_runs : (b : Bool) (role : Role) (d : Declared) → is_allowed role cx d ≡ b
      → Reads F grown ds ls (WrittenFits d) (checked b cx d) (DeclaredFits role)
  checked_runs true role d is = done d (λ w. allowed_fits d.shape role cx d refl is w)
  checked_runs false role d is = never F grown ds ls cx _ (kept_by d.ty d)

  pub typed_as_runs : (role : Role) (t : TypeName) {P : Type 0} → Reads F grown ds ls P (typed_as role cx t) (DeclaredFits role)
  unfolding typed_as
  typed_as_runs role t = bind (written_by_runs t.base t) (λ d. given (λ x. x.1) (checked_runs (is_allowed role cx d) role d refl))

  -- ---- arrays

  known_above : (k : Option ℕ) → IsThere IsLength k → IsLength (known_length k)
  known_above None p = absurd p
  known_above (Some k) p = p

  arrayed_by_runs : (s : Shape) (role : Role) (d : Declared) (k : Option ℕ)
      → Reads F grown ds ls (DeclaredFits role d × IsThere IsLength k) (arrayed_by s cx d k) (DeclaredFits role)
  arrayed_by_runs (shape.Object class) role d k = no_type_runs _
  arrayed_by_runs shape.Cell role d k = done (array_of k d) (λ x. (x.0.0, known_above k x.1))
  arrayed_by_runs (shape.Array m) role d k = done (array_of k d) (λ x. (x.0.0, known_above k x.1))

  module _ (program : core.Program) (y : Types) (world : World) (home : names.Name) (here : Scope) (stands : F → Stands program y here grown cx)
      (vars : F → (k : ℕ) (d : Declared) → slice_get ds k ≡ Some d → slice_get here.vars k ≡ Some (target_of d)) where
    arrayed_runs : (role : Role) (d : Declared) (e : Expr) → Reads F grown ds ls (DeclaredFits role d) (arrayed cx d e) (DeclaredFits role)
    unfolding arrayed
    arrayed_runs role d e = bind (always (array_length_runs program y world home here F grown ds ls cx stands vars e)) (λ k. arrayed_by_runs d.shape role d k)

    with_length_runs : (role : Role) (d : Declared) (o : Option Expr) → Reads F grown ds ls (DeclaredFits role d) (with_length cx d o) (DeclaredFits role)
    with_length_runs role d None = done d (λ x. x)
    with_length_runs role d (Some e) = arrayed_runs role d e

    pub slot_runs : (role : Role) (d : Decl) {P : Type 0} → Reads F grown ds ls P (slot role cx d) (DeclaredFits role)
    unfolding slot
    slot_runs role d = bind (typed_as_runs role d.ty) (λ t. given (λ x. x.1) (with_length_runs role t d.length))

    pub variable_runs : (d : Decl) {P : Type 0} → Reads F grown ds ls P (variable cx d) (DeclaredFits role.Variable)
    variable_runs d = slot_runs role.Variable d

    pub field_runs : (d : Decl) {P : Type 0} → Reads F grown ds ls P (field cx d) (DeclaredFits role.Field)
    field_runs d = slot_runs role.Field d

  pub parameter_runs : (t : TypeName) {P : Type 0} → Reads F grown ds ls P (parameter cx t) (DeclaredFits role.Parameter)
  parameter_runs t = typed_as_runs role.Parameter t

  pub returned_runs : (t : TypeName) {P : Type 0} → Reads F grown ds ls P (returned cx t) (DeclaredFits role.Result)
  returned_runs t = typed_as_runs role.Result t
