-- Expressions, and what statements and declarations read of them.
use Rattle.std.proofs.Common.{◌≡◌, ℕ, zero, suc, Bool, true, false, List, Option, Some, None, refl, ◌⊎◌, inl, inr}
use Rattle.std.specs.Prelude.{slice_get, if◌then◌else◌}
use Rattle.cc_core.specs.declared.expression.Constant.TheVariants as constant
use Rattle.cc_core.specs.declared.expression.Expression.{Expression}
use Rattle.cc_core.specs.Types.{FunctionTypes, Types}
use Rattle.cc_scopes.specs.declared.state.Local.{Local}
use Rattle.cc_scopes.specs.declared.types.Declared.{Declared}
use Rattle.cc_names.specs.declared.rule.StaticRule.{StaticRule}
use Rattle.cc_names.specs.declared.rule.StaticRule.TheVariants as r
use Rattle.cc_tree.specs.declared.expressions.Expr.{Expr, out-Expr}
use Rattle.cc_tree.specs.declared.expressions.ExprKind.{out-ExprKind}
use Rattle.cc_tree.specs.declared.expressions.ExprKind.TheOpen.{ExprKind-F}
use Rattle.cc_scopes.specs.declared.sharing.ShareRule.{ShareRule}
use Rattle.cc_scopes.specs.declared.typed.Root.{Root}
use Rattle.cc_scopes.specs.declared.typed.Operand.{Operand}
use Rattle.cc_scopes.specs.declared.typed.Place.{Place}
use Rattle.cc_scopes.specs.declared.typed.Typed.{Typed}
use Rattle.cc_scopes.specs.declared.typed.Typed.TheVariants as typed
use Rattle.cc_scopes.specs.declared.types.Ty.{Ty}
use Rattle.cc_scopes.specs.Elab.{Elab, ◌>>◌, pure}
use Rattle.cc_scopes.specs.Scope.{Context}
use Rattle.cc_scopes.specs.Types.{accepts}
use Rattle.cc_scopes.specs.Typed.{literal, note_rule, is_far_local}
use Rattle.cc_typing.specs.Expr.{null, Layer, kind, node, expr_to, expr}
use Rattle.cc_typing.specs.Whole.{operand, args, array_length, constant, fitted, fitting, no_place, place_unless, as_place, place, written_rule, share_some, share_write, written}
use Rattle.cc_shared.proofs.Runs.{IsThere, Anything, given, always, gives, bind, keeping, done}
use Rattle.cc_shared.proofs.Forms.{push_values}
use Rattle.cc_shared.proofs.TypesOf.{value_type, target_of, IsCellType}
use Rattle.cc_shared.proofs.Det.{Stands, Reads, Values, argument_by, OperandFits, PlaceFits, TypedFits}
use Rattle.cc_shared.proofs.StateLaws.{share_runs, block_if_runs}
use Rattle.cc_shared.proofs.LengthLaws.{IsLength, length_of_runs, constant_of_runs}
use Rattle.cc_shared.proofs.ScopeLaws.{never, literal_fits, this_runs, name_runs}
use Rattle.cc_shared.proofs.CallLaws.{ArgsFit, accepted}
use Rattle.cc_shared.proofs.PartLaws as parts

module _ (y : Types) (main : ℕ) (here : FunctionTypes) (F : Type 0) (grown ds : List Declared) (part : ℕ) (own : List ℕ) (ls : List Local) (cx : Context) (stands : F → Stands y main here cx)
    (vars : F → (k : ℕ) (d : Declared) → slice_get ds k ≡ Some d → slice_get here.vars k ≡ Some (target_of d)) where
  -- ---- one level, and so each depth

  module _ (expr : Context → Expr → Elab Typed) (reads : (e : Expr) → Reads F grown ds part own ls (Unit {0}) (expr cx e) (TypedFits y main here part own)) where
    kind_runs : (l : Layer) → Reads F grown ds part own ls (Unit {0}) (kind expr cx l) (TypedFits y main here part own)
    kind_runs (ExprKind-F.Int z) = done (literal z) (λ x. literal_fits y main here part own z)
    kind_runs ExprKind-F.Null = done (typed.Value null) (λ x u. push_values y main here constant.Null u)
    kind_runs ExprKind-F.This = this_runs y main here F grown ds part own ls cx stands
    kind_runs (ExprKind-F.Name text) = name_runs y main here F grown ds part own ls cx stands vars text
    kind_runs (ExprKind-F.Call text es) = parts.call_of_runs y main here F grown ds part own ls cx stands expr reads text es
    kind_runs (ExprKind-F.Paren e) = reads e
    kind_runs (ExprKind-F.Post e tail) = parts.post_runs y main here F grown ds part own ls cx stands expr reads e tail
    kind_runs (ExprKind-F.Unary op e) = parts.prefixed_runs y main here F grown ds part own ls cx stands expr reads op e
    kind_runs (ExprKind-F.Chain e rest) = parts.chain_runs y main here F grown ds part own ls cx stands expr reads e rest
    kind_runs (ExprKind-F.NewInt sync length) = parts.new_int_runs y main here F grown ds part own ls cx stands expr reads sync length
    kind_runs (ExprKind-F.NewClass text es) = parts.new_class_runs y main here F grown ds part own ls cx stands expr reads text es

    node_runs : (e : Expr) → Reads F grown ds part own ls (Unit {0}) (node expr cx e) (TypedFits y main here part own)
    unfolding node
    node_runs e = kind_runs (out-ExprKind (out-Expr e).kind)

  expr_to_runs : (depth : ℕ) (e : Expr) → Reads F grown ds part own ls (Unit {0}) (expr_to depth cx e) (TypedFits y main here part own)
  unfolding expr_to
  expr_to_runs zero e = never F grown ds part own ls cx _ typed.Broken
  expr_to_runs (suc depth) e = node_runs (expr_to depth) (expr_to_runs depth) e

  pub expr_runs : (e : Expr) → Reads F grown ds part own ls (Unit {0}) (expr cx e) (TypedFits y main here part own)
  expr_runs e = expr_to_runs 1000 e

  -- ---- whole expressions

  pub operand_runs : (e : Expr) → Reads F grown ds part own ls (Unit {0}) (operand cx e) (IsThere (OperandFits y main here))
  operand_runs e = parts.operand_runs y main here F grown ds part own ls cx stands expr expr_runs e

  pub args_runs : (es : List Expr) → Reads F grown ds part own ls (Unit {0}) (args cx es) (IsThere (ArgsFit y main here))
  args_runs es = parts.args_runs y main here F grown ds part own ls cx stands expr expr_runs es

  pub array_length_runs : (e : Expr) → Reads F grown ds part own ls (Unit {0}) (array_length cx e) (IsThere IsLength)
  unfolding array_length
  array_length_runs e = bind (expr_runs e) (λ t. given (λ x. x.1) (length_of_runs y main here F grown ds part own ls cx t))

  pub constant_runs : (e : Expr) → Reads F grown ds part own ls (Unit {0}) (constant cx e) (IsThere Anything)
  unfolding constant
  constant_runs e = bind (expr_runs e) (λ t. given (λ x. x.1) (constant_of_runs y main here F grown ds part own ls cx t))

  abbrev Fitted : Ty → Option Expression → Type 0
  Fitted wanted = IsThere (λ x. Values y main here x (value_type wanted))

  fits_or_not : (b : Bool) (wanted : Ty) (v : Operand) → accepts wanted v.ty ≡ b
      → Reads F grown ds part own ls (OperandFits y main here v × IsCellType wanted) (if b then pure (Some v.term) else note_rule cx r.BadType >> pure None) (Fitted wanted)
  fits_or_not true wanted v is = done (Some v.term) (λ x. accepted y main here wanted v.ty v.term x.1 is (argument_by y main here v.ty v.term x.0))
  fits_or_not false wanted v is = never F grown ds part own ls cx _ None

  fitted_runs : (wanted : Ty) (v : Option Operand)
      → Reads F grown ds part own ls (IsThere (OperandFits y main here) v × IsCellType wanted) (fitted cx wanted v) (Fitted wanted)
  fitted_runs wanted None = done None (λ x. x.0)
  fitted_runs wanted (Some v) = fits_or_not (accepts wanted v.ty) wanted v refl

  pub fitting_runs : (wanted : Ty) (e : Expr) → Reads F grown ds part own ls (IsCellType wanted) (fitting cx wanted e) (Fitted wanted)
  unfolding fitting
  fitting_runs wanted e = bind (always (operand_runs e)) (λ v. given (λ x. (x.1, x.0)) (fitted_runs wanted v))

  -- ---- places

  no_place_runs : (rule : StaticRule) {P : Type 0} → Reads F grown ds part own ls P (no_place cx rule) (IsThere (PlaceFits y main here part own))
  no_place_runs rule = never F grown ds part own ls cx rule None

  place_unless_runs : (b : Bool) (p : Place)
      → Reads F grown ds part own ls (PlaceFits y main here part own p) (place_unless b cx p) (IsThere (PlaceFits y main here part own))
  place_unless_runs true p = no_place_runs _
  place_unless_runs false p = done (Some p) (λ x. x)

  as_place_runs : (t : Typed) → Reads F grown ds part own ls (TypedFits y main here part own t) (as_place cx t) (IsThere (PlaceFits y main here part own))
  as_place_runs typed.Broken = done None (λ x. x)
  as_place_runs typed.Spoiled = done None (λ x. x)
  as_place_runs (typed.Value v) = no_place_runs _
  as_place_runs (typed.This class remote) = no_place_runs _
  as_place_runs (typed.Constant term value) = no_place_runs _
  as_place_runs (typed.Place p) = place_unless_runs (is_far_local p) p
  as_place_runs (typed.Array p k) = no_place_runs _
  as_place_runs (typed.Object o) = no_place_runs _

  pub place_runs : (e : Expr) → Reads F grown ds part own ls (Unit {0}) (place cx e) (IsThere (PlaceFits y main here part own))
  unfolding place
  place_runs e = bind (expr_runs e) (λ t. given (λ x. x.1) (as_place_runs t))

  -- ---- a write that breaks no rule of sharing

  share_some_runs : (o : Option ShareRule) {P : Type 0} → Reads F grown ds part own ls P (share_some o cx) (λ u. o ≡ None)
  share_some_runs None = done tt (λ x. refl)
  share_some_runs (Some rule) = share_runs F grown ds part own ls rule cx.line

  abbrev pub MayBeWritten : Bool → Root → Type 0
  MayBeWritten sync root = (sync ≡ true) ⊎ ((sync ≡ false) × (written_rule cx root ≡ None))

  share_write_runs : (sync : Bool) (root : Root) {P : Type 0} → Reads F grown ds part own ls P (share_write sync cx root) (λ u. MayBeWritten sync root)
  share_write_runs true root = done tt (λ x. inl refl)
  share_write_runs false root = gives (λ u x. inr (refl, x)) (share_some_runs (written_rule cx root))

  pub written_runs : (p : Place) {P : Type 0} → Reads F grown ds part own ls P (written cx p) (λ u. MayBeWritten p.sync p.root)
  unfolding written
  written_runs p = bind (share_write_runs p.sync p.root) (λ u. gives (λ v x. x) (keeping (block_if_runs F grown ds part own ls p.remote cx.line)))
