-- Expressions, and what statements and declarations read of them.
use Rattle.cc_core.specs.Core as core
use Rattle.cc_core.specs.Names as names
use Rattle.core_types.specs.Types.{Types}
use Rattle.core_types.specs.Types.{Allowed}
use Rattle.core_types.specs.Values.{World}
use Rattle.core_types.specs.Typing.{Scope}
use Rattle.std.proofs.Common.{◌≡◌, ℕ, zero, suc, Bool, true, false, List, Option, Some, None, refl}
use Rattle.std.specs.Prelude.{slice_get, if◌then◌else◌}
use Rattle.cc_core.specs.declared.expression.Expression.{Expression}
use Rattle.cc_scopes.specs.declared.state.Local.{Local}
use Rattle.cc_scopes.specs.declared.types.Declared.{Declared}
use Rattle.cc_names.specs.declared.rule.StaticRule.{StaticRule}
use Rattle.cc_names.specs.declared.rule.StaticRule.TheVariants as r
use Rattle.cc_tree.specs.declared.expressions.Expr.{Expr, out-Expr}
use Rattle.cc_tree.specs.declared.expressions.ExprKind.{out-ExprKind}
use Rattle.cc_tree.specs.declared.expressions.ExprKind.TheOpen.{ExprKind-F}
use Rattle.cc_scopes.specs.declared.sharing.ShareRule.{ShareRule}
use Rattle.cc_scopes.specs.declared.typed.Root.{Root}
use Rattle.cc_scopes.specs.declared.typed.Operand.{Operand}
use Rattle.cc_scopes.specs.declared.typed.Place.{Place}
use Rattle.cc_scopes.specs.declared.typed.Typed.{Typed}
use Rattle.cc_scopes.specs.declared.typed.Typed.TheVariants as typed
use Rattle.cc_scopes.specs.declared.types.Ty.{Ty}
use Rattle.cc_scopes.specs.Elab.{Elab, ◌>>◌, pure}
use Rattle.cc_scopes.specs.Scope.{Context}
use Rattle.cc_scopes.specs.Types.{accepts}
use Rattle.cc_scopes.specs.Typed.{literal, note_rule, is_far_local}
use Rattle.cc_typing.specs.Expr.{null, Layer, kind, node, expr_to, expr}
use Rattle.cc_typing.specs.Whole.{operand, args, array_length, constant, fitted, fitting, no_place, place_unless, as_place, place, written_rule, share_some, share_write, written}
use Rattle.source_types.specs.Reading.{IsThere, Anything}
use Rattle.source_types.proofs.Runs.{given, always, bind, done, next}
use Rattle.source_types.proofs.Forms.{null_literal}
use Rattle.source_types.specs.TypesOf.{value_type, target_of, IsCellType}
use Rattle.source_types.specs.Reading.{Stands, Grown}
use Rattle.source_types.proofs.Fits.{Reads, argument_by, OperandFits, PlaceFits, TypedFits}
use Rattle.source_types.proofs.StateLaws.{share_runs, block_if_runs}
use Rattle.source_types.proofs.LengthLaws.{IsLength, length_of_runs, constant_of_runs}
use Rattle.source_types.proofs.ScopeLaws.{never, literal_fits, this_runs, name_runs}
use Rattle.source_types.proofs.CallLaws.{ArgsFit, accepted, Fitting}
use Rattle.source_types.proofs.PartLaws as parts

module _ (program : core.Program) (y : Types) (world : World) (home : names.Name) (here : Scope) (F : Type 0) (grown : Grown) (ds : List Declared) (ls : List Local) (cx : Context) (stands : F → Stands program y here grown cx)
    (vars : F → (k : ℕ) (d : Declared) → slice_get ds k ≡ Some d → slice_get here.vars k ≡ Some (target_of d)) where
  -- ---- one level, and so each depth

  module _ (expr : Context → Expr → Elab Typed) (reads : (e : Expr) → Reads F grown ds ls (Unit {0}) (expr cx e) (TypedFits program y world home here)) where
    kind_runs : (l : Layer) → Reads F grown ds ls (Unit {0}) (kind expr cx l) (TypedFits program y world home here)
    kind_runs (ExprKind-F.Int z) = done (literal z) (λ x. literal_fits program y world home here z)
    kind_runs ExprKind-F.Null = done (typed.Value null) (λ x remote a. null_literal program y world home here remote a)
    kind_runs ExprKind-F.This = this_runs program y world home here F grown ds ls cx stands
    kind_runs (ExprKind-F.Name text) = name_runs program y world home here F grown ds ls cx stands vars text
    kind_runs (ExprKind-F.Call text es) = parts.call_of_runs program y world home here F grown ds ls cx stands expr reads text es
    kind_runs (ExprKind-F.Paren e) = reads e
    kind_runs (ExprKind-F.Post e tail) = parts.post_runs program y world home here F grown ds ls cx stands expr reads e tail
    kind_runs (ExprKind-F.Unary op e) = parts.prefixed_runs program y world home here F grown ds ls cx stands expr reads op e
    kind_runs (ExprKind-F.Chain e rest) = parts.chain_runs program y world home here F grown ds ls cx stands expr reads e rest
    kind_runs (ExprKind-F.NewInt sync length) = parts.new_int_runs program y world home here F grown ds ls cx stands expr reads sync length
    kind_runs (ExprKind-F.NewClass text es) = parts.new_class_runs program y world home here F grown ds ls cx stands expr reads text es

    node_runs : (e : Expr) → Reads F grown ds ls (Unit {0}) (node expr cx e) (TypedFits program y world home here)
    unfolding node
    node_runs e = kind_runs (out-ExprKind (out-Expr e).kind)

  expr_to_runs : (depth : ℕ) (e : Expr) → Reads F grown ds ls (Unit {0}) (expr_to depth cx e) (TypedFits program y world home here)
  unfolding expr_to
  expr_to_runs zero e = never F grown ds ls cx _ typed.Broken
  expr_to_runs (suc depth) e = node_runs (expr_to depth) (expr_to_runs depth) e

  pub expr_runs : (e : Expr) → Reads F grown ds ls (Unit {0}) (expr cx e) (TypedFits program y world home here)
  expr_runs e = expr_to_runs 1000 e

  -- ---- whole expressions

  pub operand_runs : (e : Expr) → Reads F grown ds ls (Unit {0}) (operand cx e) (IsThere (OperandFits program y world home here))
  operand_runs e = parts.operand_runs program y world home here F grown ds ls cx stands expr expr_runs e

  pub args_runs : (es : List Expr) → Reads F grown ds ls (Unit {0}) (args cx es) (IsThere (ArgsFit program y world home here))
  args_runs es = parts.args_runs program y world home here F grown ds ls cx stands expr expr_runs es

  pub array_length_runs : (e : Expr) → Reads F grown ds ls (Unit {0}) (array_length cx e) (IsThere IsLength)
  unfolding array_length
  array_length_runs e = bind (expr_runs e) (λ t. given (λ x. x.1) (length_of_runs program y world home here F grown ds ls cx t))

  pub constant_runs : (e : Expr) → Reads F grown ds ls (Unit {0}) (constant cx e) (IsThere Anything)
  unfolding constant
  constant_runs e = bind (expr_runs e) (λ t. given (λ x. x.1) (constant_of_runs program y world home here F grown ds ls cx t))

  abbrev Fitted : Ty → Option Expression → Type 0
  Fitted wanted = IsThere (λ x. Fitting program y world home here x (value_type wanted))

  fits_or_not : (b : Bool) (wanted : Ty) (v : Operand) → accepts wanted v.ty ≡ b
      → Reads F grown ds ls (OperandFits program y world home here v × IsCellType wanted) (if b then pure (Some v.term) else note_rule cx r.BadType >> pure None) (Fitted wanted)
  fits_or_not true wanted v is = done (Some v.term) (λ x. accepted program y world home here wanted v.ty v.term x.1 is (argument_by program y world home here v.ty v.term x.0))
  fits_or_not false wanted v is = never F grown ds ls cx _ None

  fitted_runs : (wanted : Ty) (v : Option Operand)
      → Reads F grown ds ls (IsThere (OperandFits program y world home here) v × IsCellType wanted) (fitted cx wanted v) (Fitted wanted)
  fitted_runs wanted None = done None (λ x. x.0)
  fitted_runs wanted (Some v) = fits_or_not (accepts wanted v.ty) wanted v refl

  pub fitting_runs : (wanted : Ty) (e : Expr) → Reads F grown ds ls (IsCellType wanted) (fitting cx wanted e) (Fitted wanted)
  unfolding fitting
  fitting_runs wanted e = bind (always (operand_runs e)) (λ v. given (λ x. (x.1, x.0)) (fitted_runs wanted v))

  -- ---- places

  abbrev pub PlaceIs : Place → Type 0
  PlaceIs p = PlaceFits program y world home here p × (is_far_local p ≡ false)

  no_place_runs : (rule : StaticRule) {P : Type 0} → Reads F grown ds ls P (no_place cx rule) (IsThere PlaceIs)
  no_place_runs rule = never F grown ds ls cx rule None

  place_unless_runs : (b : Bool) (p : Place) → is_far_local p ≡ b
      → Reads F grown ds ls (PlaceFits program y world home here p) (place_unless b cx p) (IsThere PlaceIs)
  place_unless_runs true p is = never F grown ds ls cx _ None
  place_unless_runs false p is = done (Some p) (λ x. (x, is))

  as_place_runs : (t : Typed) → Reads F grown ds ls (TypedFits program y world home here t) (as_place cx t) (IsThere PlaceIs)
  as_place_runs typed.Broken = done None (λ x. x)
  as_place_runs typed.Spoiled = done None (λ x. x)
  as_place_runs (typed.Value v) = no_place_runs _
  as_place_runs (typed.This class remote) = no_place_runs _
  as_place_runs (typed.Constant term value) = no_place_runs _
  as_place_runs (typed.Place p) = place_unless_runs (is_far_local p) p refl
  as_place_runs (typed.Array p k) = no_place_runs _
  as_place_runs (typed.Object o) = no_place_runs _

  pub place_runs : (e : Expr) → Reads F grown ds ls (Unit {0}) (place cx e) (IsThere PlaceIs)
  unfolding place
  place_runs e = bind (expr_runs e) (λ t. given (λ x. x.1) (as_place_runs t))

  -- ---- a write; what is remote is done where one may wait

  share_some_runs : (o : Option ShareRule) {P : Type 0} → Reads F grown ds ls P (share_some o cx) Anything
  share_some_runs None = done tt (λ x. tt)
  share_some_runs (Some rule) = share_runs F grown ds ls rule cx.line

  share_write_runs : (sync : Bool) (r : Root) {P : Type 0} → Reads F grown ds ls P (share_write sync cx r) Anything
  share_write_runs true r = done tt (λ x. tt)
  share_write_runs false r = share_some_runs (written_rule cx r)

  pub written_runs : (p : Place) {P : Type 0} → Reads F grown ds ls P (written cx p) (λ u. Allowed grown.waits p.remote)
  unfolding written
  written_runs p = next (share_write_runs p.sync p.root) (block_if_runs F grown ds ls p.remote cx.line)
