-- What variables, fields, parameters and results are declared as.
use Rattle.std.proofs.Common.{ℕ, Bool, true, false, Option, Some, None}
use Rattle.cc_names.specs.Names.{class_named}
use Rattle.cc_names.specs.declared.declarations.ClassId.{ClassId}
use Rattle.cc_names.specs.declared.rule.StaticRule.{StaticRule}
use Rattle.cc_declared.specs.declared.role.Role.{Role}
use Rattle.cc_declared.specs.declared.role.Role.TheVariants as role
use Rattle.cc_tree.specs.declared.expressions.Expr.{Expr}
use Rattle.cc_tree.specs.declared.statements.Base.{Base}
use Rattle.cc_tree.specs.declared.statements.Base.TheVariants as base
use Rattle.cc_tree.specs.declared.statements.Decl.{Decl}
use Rattle.cc_tree.specs.declared.statements.TypeName.{TypeName}
use Rattle.cc_scopes.specs.declared.types.Declared.{Declared}
use Rattle.cc_scopes.specs.declared.types.Shape.{Shape}
use Rattle.cc_scopes.specs.declared.types.Shape.TheVariants as shape
use Rattle.cc_scopes.specs.declared.types.Ty.TheVariants as ty
use Rattle.cc_scopes.specs.Scope.{Context}
use Rattle.cc_declared.specs.Allowed.{is_allowed}
use Rattle.cc_declared.specs.Slots.{kept_by, checked, typed_as, array_of, arrayed_by, arrayed, with_length, slot, variable, field, parameter}
use Rattle.cc_declared.specs.Slots.{returned}
use Rattle.cc_declared.specs.Written.{cell, unknown, int_type, class_type, no_type, void_type, class_or_none, written_by}
use Rattle.law_sharing.proofs.Leaves.{Leaves, bind, next, done}
use Rattle.law_sharing.proofs.ScopeLaws.{note_rule_leaves}
use Rattle.law_sharing.proofs.ExpressionLaws.{array_length_leaves}

module _ (cx : Context) where
  no_type_leaves : (rule : StaticRule) → Leaves cx.line (no_type cx rule)
  no_type_leaves rule = next (note_rule_leaves cx rule) (done unknown)

  void_type_leaves : (b : Bool) → Leaves cx.line (void_type b cx)
  void_type_leaves true = no_type_leaves _
  void_type_leaves false = done (cell ty.Void false)

  class_or_none_leaves : (o : Option ClassId) (t : TypeName) → Leaves cx.line (class_or_none o cx t)
  class_or_none_leaves None t = no_type_leaves _
  class_or_none_leaves (Some class) t = done (class_type class t)

  written_by_leaves : (b : Base) (t : TypeName) → Leaves cx.line (written_by b cx t)
  written_by_leaves base.Void t = void_type_leaves t.star
  written_by_leaves base.Int t = done (int_type false t)
  written_by_leaves base.SyncInt t = done (int_type true t)
  written_by_leaves (base.Named name) t = class_or_none_leaves (class_named cx.names name) t

  checked_leaves : (b : Bool) (d : Declared) → Leaves cx.line (checked b cx d)
  checked_leaves true d = done d
  checked_leaves false d = next (note_rule_leaves cx _) (done (kept_by d.ty d))

  pub typed_as_leaves : (role : Role) (t : TypeName) → Leaves cx.line (typed_as role cx t)
  unfolding typed_as
  typed_as_leaves role t = bind (written_by_leaves t.base t) (λ d. (checked_leaves (is_allowed role cx d) d))

  -- ---- arrays

  arrayed_by_leaves : (s : Shape) (d : Declared) (k : Option ℕ) → Leaves cx.line (arrayed_by s cx d k)
  arrayed_by_leaves (shape.Object class) d k = no_type_leaves _
  arrayed_by_leaves shape.Cell d k = done (array_of k d)
  arrayed_by_leaves (shape.Array m) d k = done (array_of k d)

  arrayed_leaves : (d : Declared) (e : Expr) → Leaves cx.line (arrayed cx d e)
  unfolding arrayed
  arrayed_leaves d e = bind (array_length_leaves cx e) (λ k. (arrayed_by_leaves d.shape d k))

  with_length_leaves : (d : Declared) (o : Option Expr) → Leaves cx.line (with_length cx d o)
  with_length_leaves d None = done d
  with_length_leaves d (Some e) = (arrayed_leaves d e)

  pub slot_leaves : (role : Role) (d : Decl) → Leaves cx.line (slot role cx d)
  unfolding slot
  slot_leaves role d = bind (typed_as_leaves role d.ty) (λ t. (with_length_leaves t d.length))

  pub variable_leaves : (d : Decl) → Leaves cx.line (variable cx d)
  variable_leaves d = slot_leaves role.Variable d

  pub field_leaves : (d : Decl) → Leaves cx.line (field cx d)
  field_leaves d = slot_leaves role.Field d

  pub parameter_leaves : (t : TypeName) → Leaves cx.line (parameter cx t)
  parameter_leaves t = typed_as_leaves role.Parameter t

  pub returned_leaves : (t : TypeName) → Leaves cx.line (returned cx t)
  returned_leaves t = typed_as_leaves role.Result t
