-- A type that breaks no rule is the same in a function and among the constants alone: as it is read and as the tables have it.
use Rattle.std.proofs.Common.{◌≡◌, Bool, true, false, not, [], Option, Some, None, refl, ap, ◌∙◌}
use Rattle.std.specs.Prelude.{slice_get, ◌&&◌, ◌||◌}
use Rattle.std.proofs.lemmas.Bool.{false≢true}
use Rattle.cc_names.specs.Names.{class_named}
use Rattle.cc_names.specs.declared.broken.Broken.TheVariants.{Rule}
use Rattle.cc_names.specs.declared.rule.StaticRule.TheVariants as r
use Rattle.cc_names.specs.declared.declarations.ClassId.{ClassId}
use Rattle.cc_declared.specs.declared.role.Role.{Role}
use Rattle.cc_scopes.specs.declared.state.State.{State}
use Rattle.cc_scopes.specs.declared.types.Declared.{Declared}
use Rattle.cc_scopes.specs.declared.types.Shape.{Shape}
use Rattle.cc_scopes.specs.declared.types.Shape.TheVariants as shape
use Rattle.cc_scopes.specs.declared.types.Target.{Target}
use Rattle.cc_scopes.specs.declared.types.Target.TheVariants as target
use Rattle.cc_scopes.specs.declared.types.Ty.{Ty}
use Rattle.cc_scopes.specs.declared.types.Ty.TheVariants as ty
use Rattle.cc_scopes.specs.Scope.{Context}
use Rattle.cc_declared.specs.Allowed.{is_global_class, is_global, has_cells, is_variable, reaches, may_be, is_allowed_by, is_allowed}
use Rattle.cc_declared.specs.Slots.{checked, typed_as}
use Rattle.cc_declared.specs.Written.{void_type, class_or_none, written_by, written}
use Rattle.cc_tree.specs.declared.statements.Base.{Base}
use Rattle.cc_tree.specs.declared.statements.Base.TheVariants as base
use Rattle.cc_tree.specs.declared.statements.TypeName.{TypeName}
use Rattle.cc_shared.proofs.StateLaws.{not_empty}

left_true' : (x y : Bool) → (x && y) ≡ true → x ≡ true
left_true' true y is = refl
left_true' false y is = is

both_true : (x y : Bool) → x ≡ true → y ≡ true → (x && y) ≡ true
both_true true y p q = q
both_true false y p q = p

or_true : (x : Bool) → (x || true) ≡ true
or_true true = refl
or_true false = refl

module _ (a b : Context) (names : a.names ≡ b.names) (no_classes : b.tables.classes ≡ []) where
  -- ---- the type that is written

  void_same : (star : Bool) (s u : State) → (void_type star a s).0 ≡ (void_type star b u).0
  void_same true s u = refl
  void_same false s u = refl

  class_same : (o : Option ClassId) (t : TypeName) (s u : State) → (class_or_none o a t s).0 ≡ (class_or_none o b t u).0
  class_same None t s u = refl
  class_same (Some class) t s u = refl

  written_by_same : (x : Base) (t : TypeName) (s u : State) → (written_by x a t s).0 ≡ (written_by x b t u).0
  written_by_same base.Void t s u = void_same t.star s u
  written_by_same base.Int t s u = refl
  written_by_same base.SyncInt t s u = refl
  written_by_same (base.Named name) t s u =
      class_same (class_named a.names name) t s u ∙ ap (λ ns. (class_or_none (class_named ns name) b t u).0) names

  pub written_same : (t : TypeName) (s u : State) → (written a t s).0 ≡ (written b t u).0
  written_same t s u = written_by_same t.base t s u

  -- ---- whether it is allowed

  none_is_global : (class : ClassId) → is_global b class ≡ false
  none_is_global class = ap (λ cs. is_global_class (slice_get cs class.0)) no_classes

  reaches_same : (to : Target) (remote : Bool) → reaches b to remote ≡ true
  reaches_same target.Int remote = refl
  reaches_same target.SyncInt remote = refl
  reaches_same (target.Class class) remote = ap (λ g. remote || not g) (none_is_global class) ∙ or_true remote

  may_be_same : (role : Role) (t : Ty) (sync : Bool) → may_be role a t sync ≡ true → may_be role b t sync ≡ true
  may_be_same role ty.Int sync is = is
  may_be_same role ty.Void sync is = is
  may_be_same role ty.Null sync is = is
  may_be_same role ty.Unknown sync is = is
  may_be_same role (ty.Pointer to remote) sync is =
      both_true (has_cells role || not sync) (reaches b to remote) (left_true' (has_cells role || not sync) (reaches a to remote) is)
      (reaches_same to remote)

  allowed_by_same : (x : Shape) (role : Role) (d : Declared) → is_allowed_by x role a d ≡ true → is_allowed_by x role b d ≡ true
  allowed_by_same (shape.Object class) role d is =
      both_true (is_variable role) (not (is_global b class)) (left_true' (is_variable role) (not (is_global a class)) is)
      (ap (λ g. not g) (none_is_global class))
  allowed_by_same shape.Cell role d is = may_be_same role d.ty d.sync is
  allowed_by_same (shape.Array n) role d is = may_be_same role d.ty d.sync is

  pub allowed_same : (role : Role) (d : Declared) → is_allowed role a d ≡ true → is_allowed role b d ≡ true
  allowed_same role d is = allowed_by_same d.shape role d is

  allowed_where : (x : Bool) (d : Declared) (s : State) → (checked x a d s).1.broken ≡ [] → x ≡ true
  allowed_where true d s none = refl
  allowed_where false d s none = absurd (not_empty s.broken (Rule r.BadDeclared a.line) none)

  checked_same : (x y : Bool) (d : Declared) (s u : State) → x ≡ true → y ≡ true → (checked x a d s).0 ≡ (checked y b d u).0
  checked_same true true d s u p q = refl
  checked_same true false d s u p q = absurd (false≢true q)
  checked_same false y d s u p q = absurd (false≢true p)

  -- ---- the type, where no rule is broken

  pub typed_same : (role : Role) (t : TypeName) (s u : State) → (typed_as role a t s).1.broken ≡ [] → (typed_as role a t s).0 ≡ (typed_as role b t u).0
  unfolding typed_as
  typed_same role t s u none =
      let x = written a t s in
      let y = written b t u in
      let allowed = allowed_where (is_allowed role a x.0) x.0 x.1 none in
      checked_same (is_allowed role a x.0) (is_allowed role b x.0) x.0 x.1 y.1 allowed (allowed_same role x.0 allowed)
      ∙ ap (λ d. (checked (is_allowed role b d) b d y.1).0) (written_same t s u)
