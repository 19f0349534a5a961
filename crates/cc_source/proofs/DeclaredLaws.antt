-- Declared things: an array has an element.
use Rattle.std.proofs.Common.{ℕ, Bool, true, false, Option, Some, None, arith}
use Rattle.cc_core.specs.Core.{Shapes}
use Rattle.cc_names.specs.Names.{class_named}
use Rattle.cc_names.specs.declared.declarations.ClassId.{ClassId}
use Rattle.cc_names.specs.declared.rule.StaticRule.{StaticRule}
use Rattle.cc_declared.specs.declared.role.Role.{Role}
use Rattle.cc_declared.specs.declared.role.Role.TheVariants as role
use Rattle.cc_tree.specs.declared.expressions.Expr.{Expr}
use Rattle.cc_tree.specs.declared.statements.Base.{Base}
use Rattle.cc_tree.specs.declared.statements.Base.TheVariants as base
use Rattle.cc_tree.specs.declared.statements.Decl.{Decl}
use Rattle.cc_tree.specs.declared.statements.TypeName.{TypeName}
use Rattle.cc_scopes.specs.declared.state.State.{State}
use Rattle.cc_scopes.specs.declared.types.Declared.{Declared}
use Rattle.cc_scopes.specs.declared.types.Shape.{Shape}
use Rattle.cc_scopes.specs.declared.types.Shape.TheVariants as shape
use Rattle.cc_scopes.specs.declared.types.Target.TheVariants as target
use Rattle.cc_scopes.specs.declared.types.Ty.{Ty}
use Rattle.cc_scopes.specs.declared.types.Ty.TheVariants as ty
use Rattle.cc_scopes.specs.Types.{int_target}
use Rattle.cc_scopes.specs.Scope.{Context}
use Rattle.cc_declared.specs.Allowed.{is_allowed}
use Rattle.cc_declared.specs.Slots.{kept_by, checked, typed_as, known_length, array_of, arrayed_by, arrayed, with_length, slot, variable, field, parameter, returned}
use Rattle.cc_declared.specs.Written.{cell, unknown, object, pointer, int_type, class_type, no_type, void_type, class_or_none, written_by}
use Rattle.cc_source.proofs.Runs.{IfThere, given, always, bind, next, done, either}
use Rattle.cc_source.proofs.Sound.{IsLength, HasCells, Reads}
use Rattle.cc_source.proofs.ScopeLaws.{note_rule_runs}
use Rattle.cc_source.proofs.ExpressionLaws.{array_length_runs}

-- what is declared so has a cell
abbrev pub DeclaredFits : Declared → Type 0
DeclaredFits d = HasCells d.shape

module _ (h : Shapes) (last : State) (cx : Context) where
  no_type_runs : (rule : StaticRule) {P : Type 0} → Reads h last cx P (no_type cx rule) DeclaredFits
  no_type_runs rule = next (note_rule_runs h last cx rule) (done unknown (λ x. tt))

  void_type_runs : (b : Bool) {P : Type 0} → Reads h last cx P (void_type b cx) DeclaredFits
  void_type_runs true = no_type_runs _
  void_type_runs false = done (cell ty.Void false) (λ x. tt)

  int_type_fits : (sync : Bool) (t : TypeName) → DeclaredFits (int_type sync t)
  int_type_fits sync t = either DeclaredFits t.star (pointer (int_target sync) t) (cell ty.Int sync) tt tt

  class_type_fits : (class : ClassId) (t : TypeName) → DeclaredFits (class_type class t)
  class_type_fits class t = either DeclaredFits t.star (pointer (target.Class class) t) (object class) tt tt

  class_or_none_runs : (o : Option ClassId) (t : TypeName) {P : Type 0} → Reads h last cx P (class_or_none o cx t) DeclaredFits
  class_or_none_runs None t = no_type_runs _
  class_or_none_runs (Some class) t = done (class_type class t) (λ x. class_type_fits class t)

  written_by_runs : (b : Base) (t : TypeName) {P : Type 0} → Reads h last cx P (written_by b cx t) DeclaredFits
  written_by_runs base.Void t = void_type_runs t.star
  written_by_runs base.Int t = done (int_type false t) (λ x. int_type_fits false t)
  written_by_runs base.SyncInt t = done (int_type true t) (λ x. int_type_fits true t)
  written_by_runs (base.Named name) t = class_or_none_runs (class_named cx.names name) t

  kept_by_fits : (t : Ty) (d : Declared) → DeclaredFits d → DeclaredFits (kept_by t d)
  kept_by_fits ty.Void d p = tt
  kept_by_fits ty.Int d p = p
  kept_by_fits ty.Null d p = p
  kept_by_fits (ty.Pointer to remote) d p = p
  kept_by_fits ty.Unknown d p = p

  checked_runs : (b : Bool) (d : Declared) → Reads h last cx (DeclaredFits d) (checked b cx d) DeclaredFits
  checked_runs true d = done d (λ x. x)
  checked_runs false d = next (note_rule_runs h last cx _) (done (kept_by d.ty d) (λ x. kept_by_fits d.ty d x))

  pub typed_as_runs : (role : Role) (t : TypeName) {P : Type 0} → Reads h last cx P (typed_as role cx t) DeclaredFits
  unfolding typed_as
  typed_as_runs role t = bind (written_by_runs t.base t) (λ d. given (λ x. x.1) (checked_runs (is_allowed role cx d) d))

  -- ---- arrays

  known_above : (k : Option ℕ) → IfThere IsLength k → IsLength (known_length k)
  known_above None p = (omega arith, omega arith)
  known_above (Some k) p = p

  arrayed_by_runs : (s : Shape) (d : Declared) (k : Option ℕ) → Reads h last cx (IfThere IsLength k) (arrayed_by s cx d k) DeclaredFits
  arrayed_by_runs (shape.Object class) d k = no_type_runs _
  arrayed_by_runs shape.Cell d k = done (array_of k d) (λ x. known_above k x)
  arrayed_by_runs (shape.Array m) d k = done (array_of k d) (λ x. known_above k x)

  arrayed_runs : (d : Declared) (e : Expr) → Reads h last cx (Unit {0}) (arrayed cx d e) DeclaredFits
  unfolding arrayed
  arrayed_runs d e = bind (array_length_runs h last cx e) (λ k. given (λ x. x.1) (arrayed_by_runs d.shape d k))

  with_length_runs : (d : Declared) (o : Option Expr) → Reads h last cx (DeclaredFits d) (with_length cx d o) DeclaredFits
  with_length_runs d None = done d (λ x. x)
  with_length_runs d (Some e) = always (arrayed_runs d e)

  pub slot_runs : (role : Role) (d : Decl) {P : Type 0} → Reads h last cx P (slot role cx d) DeclaredFits
  unfolding slot
  slot_runs role d = bind (typed_as_runs role d.ty) (λ t. given (λ x. x.1) (with_length_runs t d.length))

  pub variable_runs : (d : Decl) {P : Type 0} → Reads h last cx P (variable cx d) DeclaredFits
  variable_runs d = slot_runs role.Variable d

  pub field_runs : (d : Decl) {P : Type 0} → Reads h last cx P (field cx d) DeclaredFits
  field_runs d = slot_runs role.Field d

  pub parameter_runs : (t : TypeName) {P : Type 0} → Reads h last cx P (parameter cx t) DeclaredFits
  parameter_runs t = typed_as_runs role.Parameter t

  pub returned_runs : (t : TypeName) {P : Type 0} → Reads h last cx P (returned cx t) DeclaredFits
  returned_runs t = typed_as_runs role.Result t
