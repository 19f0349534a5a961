-- A type that breaks no rule is the same in a class and among the constants alone: as the tables have it and as its declaration is read.
use Rattle.std.proofs.Common.{◌≡◌, ℕ, Bool, true, false, not, [], ◌∷◌, Option, Some, None, refl, sym, ap, ◌∙◌}
use Rattle.std.specs.Prelude.{slice_get, ◌&&◌, ◌||◌}
use Rattle.std.proofs.lemmas.Bool.{false≢true}
use Rattle.cc_names.specs.Names.{class_named}
use Rattle.cc_names.specs.declared.broken.Broken.TheVariants.{Rule}
use Rattle.cc_names.specs.declared.rule.StaticRule.TheVariants as r
use Rattle.cc_names.specs.declared.declarations.ClassId.{ClassId}
use Rattle.cc_declared.specs.declared.role.Role.{Role}
use Rattle.cc_scopes.specs.declared.state.State.{State}
use Rattle.cc_scopes.specs.declared.types.Declared.{Declared}
use Rattle.cc_scopes.specs.declared.types.Shape.{Shape}
use Rattle.cc_scopes.specs.declared.types.Shape.TheVariants as shape
use Rattle.cc_scopes.specs.declared.types.Target.{Target}
use Rattle.cc_scopes.specs.declared.types.Target.TheVariants as target
use Rattle.cc_scopes.specs.declared.types.Ty.{Ty}
use Rattle.cc_scopes.specs.declared.types.Ty.TheVariants as ty
use Rattle.cc_scopes.specs.Scope.{Context}
use Rattle.cc_declared.specs.Allowed.{is_global_class, is_global, has_cells, is_variable, reaches, may_be, is_allowed_by, is_allowed}
use Rattle.cc_declared.specs.Slots.{checked, typed_as, arrayed_by, arrayed, with_length, slot}
use Rattle.cc_declared.specs.Written.{void_type, class_or_none, written_by, written}
use Rattle.cc_tree.specs.declared.expressions.Expr.{Expr}
use Rattle.cc_tree.specs.declared.statements.Base.{Base}
use Rattle.cc_tree.specs.declared.statements.Base.TheVariants as base
use Rattle.cc_tree.specs.declared.statements.Decl.{Decl}
use Rattle.cc_tree.specs.declared.statements.TypeName.{TypeName}
use Rattle.cc_typing.specs.Whole.{array_length}
use Rattle.cc_source.proofs.RuleLaws.{not_empty, empty_behind}
use Rattle.cc_shared.proofs.ConstantLaws.{HasNoMembers, IsBare, array_length_same}

left_true : (x y : Bool) → (x && y) ≡ true → x ≡ true
left_true true y is = refl
left_true false y is = is

right_true : (x y : Bool) → (x && y) ≡ true → y ≡ true
right_true true y is = is
right_true false y is = absurd (false≢true is)

both_true : (x y : Bool) → x ≡ true → y ≡ true → (x && y) ≡ true
both_true true y p q = q
both_true false y p q = p

or_true : (x : Bool) → (x || true) ≡ true
or_true true = refl
or_true false = refl

-- where a declaration has a length, it is one
abbrev pub HasLength : Context → Option Expr → State → Type 0
HasLength a None s = Unit {0}
HasLength a (Some e) s = (k : ℕ) × ((array_length a e s).0 ≡ Some k)

module _ (a b : Context) (plain : HasNoMembers a b) where
  -- ---- the type that is written

  void_same : (star : Bool) (s u : State) → (void_type star a s).0 ≡ (void_type star b u).0
  void_same true s u = refl
  void_same false s u = refl

  class_same : (o : Option ClassId) (t : TypeName) (s u : State) → (class_or_none o a t s).0 ≡ (class_or_none o b t u).0
  class_same None t s u = refl
  class_same (Some class) t s u = refl

  written_by_same : (x : Base) (t : TypeName) (s u : State) → (written_by x a t s).0 ≡ (written_by x b t u).0
  written_by_same base.Void t s u = void_same t.star s u
  written_by_same base.Int t s u = refl
  written_by_same base.SyncInt t s u = refl
  written_by_same (base.Named name) t s u =
      class_same (class_named a.names name) t s u ∙ ap (λ ns. (class_or_none (class_named ns name) b t u).0) plain.names

  pub written_same : (t : TypeName) (s u : State) → (written a t s).0 ≡ (written b t u).0
  written_same t s u = written_by_same t.base t s u

  -- ---- whether it is allowed

  none_is_global : (class : ClassId) → is_global b class ≡ false
  none_is_global class = ap (λ cs. is_global_class (slice_get cs class.0)) plain.classes

  reaches_same : (to : Target) (remote : Bool) → reaches b to remote ≡ true
  reaches_same target.Int remote = refl
  reaches_same target.SyncInt remote = refl
  reaches_same (target.Class class) remote = ap (λ g. remote || not g) (none_is_global class) ∙ or_true remote

  may_be_same : (role : Role) (t : Ty) (sync : Bool) → may_be role a t sync ≡ true → may_be role b t sync ≡ true
  may_be_same role ty.Int sync is = is
  may_be_same role ty.Void sync is = is
  may_be_same role ty.Null sync is = is
  may_be_same role ty.Unknown sync is = is
  may_be_same role (ty.Pointer to remote) sync is =
      both_true (has_cells role || not sync) (reaches b to remote) (left_true (has_cells role || not sync) (reaches a to remote) is)
      (reaches_same to remote)

  allowed_by_same : (x : Shape) (role : Role) (d : Declared) → is_allowed_by x role a d ≡ true → is_allowed_by x role b d ≡ true
  allowed_by_same (shape.Object class) role d is =
      both_true (is_variable role) (not (is_global b class)) (left_true (is_variable role) (not (is_global a class)) is)
      (ap (λ g. not g) (none_is_global class))
  allowed_by_same shape.Cell role d is = may_be_same role d.ty d.sync is
  allowed_by_same (shape.Array n) role d is = may_be_same role d.ty d.sync is

  pub allowed_same : (role : Role) (d : Declared) → is_allowed role a d ≡ true → is_allowed role b d ≡ true
  allowed_same role d is = allowed_by_same d.shape role d is

  allowed_where : (x : Bool) (d : Declared) (s : State) → (checked x a d s).1.broken ≡ [] → x ≡ true
  allowed_where true d s none = refl
  allowed_where false d s none = absurd (not_empty (Rule r.BadDeclared a.line) [] (empty_behind s.broken (Rule r.BadDeclared a.line ∷ []) none))

  checked_same : (x y : Bool) (d : Declared) (s u : State) → x ≡ true → y ≡ true → (checked x a d s).0 ≡ (checked y b d u).0
  checked_same true true d s u p q = refl
  checked_same true false d s u p q = absurd (false≢true q)
  checked_same false y d s u p q = absurd (false≢true p)

  -- ---- the type, where no rule is broken

  pub typed_same : (role : Role) (t : TypeName) (s u : State) → (typed_as role a t s).1.broken ≡ [] → (typed_as role a t s).0 ≡ (typed_as role b t u).0
  unfolding typed_as
  typed_same role t s u none =
      let x = written a t s in
      let y = written b t u in
      let allowed = allowed_where (is_allowed role a x.0) x.0 x.1 none in
      checked_same (is_allowed role a x.0) (is_allowed role b x.0) x.0 x.1 y.1 allowed (allowed_same role x.0 allowed)
      ∙ ap (λ d. (checked (is_allowed role b d) b d y.1).0) (written_same t s u)

  -- ---- nothing comes into scope

  void_locals : (star : Bool) (u : State) → (void_type star b u).1.locals ≡ u.locals
  void_locals true u = refl
  void_locals false u = refl

  class_locals : (o : Option ClassId) (t : TypeName) (u : State) → (class_or_none o b t u).1.locals ≡ u.locals
  class_locals None t u = refl
  class_locals (Some class) t u = refl

  written_locals : (x : Base) (t : TypeName) (u : State) → (written_by x b t u).1.locals ≡ u.locals
  written_locals base.Void t u = void_locals t.star u
  written_locals base.Int t u = refl
  written_locals base.SyncInt t u = refl
  written_locals (base.Named name) t u = class_locals (class_named b.names name) t u

  checked_locals : (x : Bool) (d : Declared) (u : State) → (checked x b d u).1.locals ≡ u.locals
  checked_locals true d u = refl
  checked_locals false d u = refl

  typed_locals : (role : Role) (t : TypeName) (u : State) → (typed_as role b t u).1.locals ≡ u.locals
  unfolding typed_as
  typed_locals role t u =
      let y = written b t u in checked_locals (is_allowed role b y.0) y.0 y.1 ∙ written_locals t.base t u

  -- ---- with a length

  arrayed_by_same : (x : Shape) (d : Declared) (n : Option ℕ) (s u : State) → (arrayed_by x a d n s).0 ≡ (arrayed_by x b d n u).0
  arrayed_by_same shape.Cell d n s u = refl
  arrayed_by_same (shape.Array m) d n s u = refl
  arrayed_by_same (shape.Object class) d n s u = refl

module _ (a b : Context) (bare : IsBare a b) where
  with_length_same : (d : Declared) (o : Option Expr) (s u : State) → u.locals ≡ [] → HasLength a o s → (with_length a d o s).0 ≡ (with_length b d o u).0
  unfolding arrayed
  with_length_same d None s u none has = refl
  with_length_same d (Some e) s u none has =
      let x = array_length a e s in
      let y = array_length b e u in
      arrayed_by_same a b bare.plain d.shape d x.0 x.1 y.1
      ∙ ap (λ n. (arrayed_by d.shape b d n y.1).0) (has.1 ∙ sym (array_length_same a b bare e s u has.0 none has.1))

  -- what is declared is the same
  pub slot_same : (role : Role) (d : Decl) (s u : State) → u.locals ≡ [] → (typed_as role a d.ty s).1.broken ≡ []
      → HasLength a d.length (typed_as role a d.ty s).1 → (slot role a d s).0 ≡ (slot role b d u).0
  unfolding slot
  slot_same role d s u none clean has =
      let x = typed_as role a d.ty s in
      let y = typed_as role b d.ty u in
      with_length_same x.0 d.length x.1 y.1 (typed_locals a b bare.plain role d.ty u ∙ none) has
      ∙ ap (λ t. (with_length b t d.length y.1).0) (typed_same a b bare.plain role d.ty s u clean)
