-- Declarations of variables.
use Rattle.std.proofs.Common.{◌≡◌, ℕ, Bool, true, false, cond, ◌∙◌, sym, ap, subst, List, [], ◌∷◌, ◌++◌, length, Option, Some, None, refl}
use Rattle.std.specs.Prelude.{slice_get}
use Rattle.cc_core.specs.declared.expression.Expression.{Expression}
use Rattle.cc_core.specs.declared.statement.Statement.{Statement}
use Rattle.cc_core.specs.declared.statement.Statement.TheVariants as s
use Rattle.cc_core.specs.Core as core
use Rattle.cc_core.specs.Names as names
use Rattle.core_types.specs.Values.{World}
use Rattle.core_types.specs.Typing.{Scope}
use Rattle.core_types.specs.Types.{Cells, ObjectOf, Types, is_sync, IsKind}
use Rattle.cc_names.specs.Table.{Name}
use Rattle.cc_names.specs.declared.broken.Broken.TheVariants.{Rule}
use Rattle.cc_names.specs.declared.declarations.ClassId.{ClassId}
use Rattle.cc_names.specs.declared.rule.StaticRule.{StaticRule}
use Rattle.cc_names.specs.declared.rule.StaticRule.TheVariants as r
use Rattle.cc_tree.specs.declared.expressions.Expr.{Expr}
use Rattle.cc_tree.specs.declared.statements.Start.{Start}
use Rattle.cc_tree.specs.declared.statements.Start.TheVariants as start
use Rattle.cc_scopes.specs.declared.state.Local.{Local}
use Rattle.cc_scopes.specs.declared.state.State.{State}
use Rattle.cc_scopes.specs.declared.tables.Class.{Class}
use Rattle.cc_scopes.specs.declared.types.Declared.{Declared}
use Rattle.cc_scopes.specs.declared.types.Shape.{Shape}
use Rattle.cc_scopes.specs.declared.types.Shape.TheVariants as shape
use Rattle.cc_scopes.specs.declared.types.Ty.{Ty}
use Rattle.cc_scopes.specs.declared.types.Ty.TheVariants as ty
use Rattle.cc_scopes.specs.Elab.{note}
use Rattle.cc_scopes.specs.Scope.{Context, is_here, twice, bring, number, declare}
use Rattle.cc_scopes.specs.Types.{cell_kind}
use Rattle.cc_scopes.specs.Meaning.{class_at}
use Rattle.cc_typing.specs.declared.calls.Args.{Args}
use Rattle.cc_typing.specs.Calls.{no_args, args_rule}
use Rattle.cc_elaboration.specs.Declarations.{built_unless, built_as, built, misplaced, misplaced_value, misplaced_args, with_value, started_cell, started_object}
use Rattle.cc_elaboration.specs.Declarations.{cell_start, array_start, object_start, started_by, started, cells, made}
use Rattle.source_types.specs.Reading.{IsThere}
use Rattle.source_types.proofs.Runs.{given, always, bind, next, done}
use Rattle.source_types.proofs.StmtForms.{StmtFits, make_fits, set_fits, build_fits}
use Rattle.source_types.specs.TypesOf.{target_type, value_type, target_by, target_of, IsCellType}
use Rattle.source_types.specs.Reading.{Grown, Ends, MakerFits, Stands, VariableFits, LocalsFit}
use Rattle.source_types.proofs.Fits.{Reads}
use Rattle.source_types.proofs.StateLaws.{not_empty}
use Rattle.source_types.proofs.ScopeLaws.{never}
use Rattle.source_types.proofs.CallLaws as calls
use Rattle.source_types.proofs.CallLaws.{ArgsFit, no_args_fit, Fitting}
use Rattle.source_types.proofs.ExpressionLaws.{operand_runs, args_runs, fitting_runs}
use Rattle.source_types.proofs.Goes.{Goes, given_g, bind_g, next_g, done_g, frame_g}

pub kind_sync : (t : Ty) (sync : Bool) → is_sync (cell_kind t sync) ≡ sync
kind_sync ty.Int true = refl
kind_sync ty.Int false = refl
kind_sync ty.Null true = refl
kind_sync ty.Null false = refl
kind_sync ty.Void true = refl
kind_sync ty.Void false = refl
kind_sync (ty.Pointer to remote) true = refl
kind_sync (ty.Pointer to remote) false = refl
kind_sync ty.Unknown true = refl
kind_sync ty.Unknown false = refl

-- a cell of the kind holds values of the type
pub kind_is : (t : Ty) (sync : Bool) → IsCellType t → IsKind (cell_kind t sync) (value_type t)
kind_is ty.Int true c = refl
kind_is ty.Int false c = refl
kind_is (ty.Pointer to remote) true c = (remote, target_type to, refl)
kind_is (ty.Pointer to remote) false c = (remote, target_type to, refl)
kind_is ty.Null sync c = absurd c
kind_is ty.Void sync c = absurd c
kind_is ty.Unknown sync c = absurd c

module _ (program : core.Program) (y : Types) (world : World) (home : names.Name) (here : Scope) where
  -- statements that make such a variable, whatever its number
  abbrev pub Makes : Declared → (ℕ → Statement) → Type 0
  Makes d f = (k : ℕ) → slice_get here.vars k ≡ Some (target_of d) → StmtFits program y world home here (f k)

  cell_type : (k : ℕ) (d : Declared) → target_of d ≡ Cells d.sync (value_type d.ty) → slice_get here.vars k ≡ Some (target_of d)
      → slice_get here.vars k ≡ Some (Cells (is_sync (cell_kind d.ty d.sync)) (value_type d.ty))
  cell_type k d cell has = has ∙ ap Some (cell ∙ ap (λ b. Cells b (value_type d.ty)) (sym (kind_sync d.ty d.sync)))

  makes_cells : (d : Declared) → IsCellType d.ty → target_of d ≡ Cells d.sync (value_type d.ty) → Makes d (λ k. s.Make k (cell_kind d.ty d.sync) (cells d.shape))
  makes_cells d c cell k has = make_fits program y world home here k (cell_kind d.ty d.sync) (cells d.shape) (value_type d.ty) (kind_is d.ty d.sync c) (cell_type k d cell has)

  sets_cell : (d : Declared) (x : Expression) → IsCellType d.ty → target_of d ≡ Cells d.sync (value_type d.ty) → Fitting program y world home here x (value_type d.ty)
      → Makes d (λ k. s.Set k (cell_kind d.ty d.sync) x)
  sets_cell d x c cell v k has = set_fits program y world home here k (cell_kind d.ty d.sync) x (value_type d.ty) (kind_is d.ty d.sync c) (cell_type k d cell has) v

  builds_object : (d : Declared) (class : ClassId) (k : Class) (a : Args) → target_of d ≡ ObjectOf class.0 → MakerFits y class.0 k
      → args_rule k.constructor a.types ≡ None → ArgsFit program y world home here a → Makes d (λ i. s.Build i class.0 a.terms)
  builds_object d class k a object fits none v i has =
      build_fits program y world home here i class.0 a.terms (has ∙ ap Some object) (calls.make_fits program y world home here class.0 k a fits none v)

module _ (program : core.Program) (y : Types) (world : World) (home : names.Name) (here : Scope) (F : Type 0) (grown : Grown) (ds : List Declared) (ls : List Local) (cx : Context)
    (stands : F → Stands program y here grown cx)
    (vars : F → (k : ℕ) (d : Declared) → slice_get ds k ≡ Some d → slice_get here.vars k ≡ Some (target_of d)) (d : Declared) where
  -- ---- how a variable starts

  built_unless_runs : (r : Option StaticRule) (class : ClassId) (k : Class) (a : Args) → (F → MakerFits y class.0 k) → args_rule k.constructor a.types ≡ r
      → target_of d ≡ ObjectOf class.0
      → Reads F grown ds ls (ArgsFit program y world home here a × F) (built_unless r cx class a.terms) (λ b. Makes program y world home here d (λ i. made i d b))
  built_unless_runs (Some rule) class k a fits is object = never F grown ds ls cx rule _
  built_unless_runs None class k a fits is object = done _ (λ x. builds_object program y world home here d class k a object (fits x.1) is x.0)

  built_as_runs : (o : Option Class) (class : ClassId) (a : Args) → slice_get cx.tables.classes class.0 ≡ o → target_of d ≡ ObjectOf class.0
      → Reads F grown ds ls (ArgsFit program y world home here a × F) (built_as o cx class a) (λ b. Makes program y world home here d (λ i. made i d b))
  built_as_runs None class a is object = never F grown ds ls cx _ _
  built_as_runs (Some k) class a is object =
      built_unless_runs (args_rule k.constructor a.types) class k a (λ f. (stands f).matches.classes class.0 k is) refl object

  built_runs : (class : ClassId) (a : Option Args) → target_of d ≡ ObjectOf class.0
      → Reads F grown ds ls (IsThere (ArgsFit program y world home here) a × F) (built cx class a) (λ b. Makes program y world home here d (λ i. made i d b))
  built_runs class None object = done _ (λ x. absurd x.0)
  built_runs class (Some a) object = built_as_runs (class_at cx class) class a refl object

  misplaced_runs : {P : Type 0} → Reads F grown ds ls P (misplaced cx) (λ b. Makes program y world home here d (λ i. made i d b))
  misplaced_runs = never F grown ds ls cx _ _

  misplaced_value_runs : (e : Expr) → Reads F grown ds ls (Unit {0}) (misplaced_value cx e) (λ b. Makes program y world home here d (λ i. made i d b))
  unfolding misplaced_value
  misplaced_value_runs e = next (operand_runs program y world home here F grown ds ls cx stands vars e) misplaced_runs

  misplaced_args_runs : (es : List Expr) → Reads F grown ds ls (Unit {0}) (misplaced_args cx es) (λ b. Makes program y world home here d (λ i. made i d b))
  unfolding misplaced_args
  misplaced_args_runs es = next (args_runs program y world home here F grown ds ls cx stands vars es) misplaced_runs

  with_value_fits : (v : Option Expression) → IsCellType d.ty → target_of d ≡ Cells d.sync (value_type d.ty) → IsThere (λ x. Fitting program y world home here x (value_type d.ty)) v
      → Makes program y world home here d (λ i. made i d (with_value v))
  with_value_fits None c cell p = absurd p
  with_value_fits (Some v) c cell p = sets_cell program y world home here d v c cell p

  started_cell_runs : target_of d ≡ Cells d.sync (value_type d.ty) → (e : Expr)
      → Reads F grown ds ls (IsCellType d.ty) (started_cell cx d e) (λ b. Makes program y world home here d (λ i. made i d b))
  unfolding started_cell
  started_cell_runs cell e = bind (fitting_runs program y world home here F grown ds ls cx stands vars d.ty e) (λ v. done (with_value v) (λ x. with_value_fits v x.0 cell x.1))

  started_object_runs : (class : ClassId) → target_of d ≡ ObjectOf class.0 → (es : List Expr)
      → Reads F grown ds ls F (started_object cx class es) (λ b. Makes program y world home here d (λ i. made i d b))
  unfolding started_object
  started_object_runs class object es = bind (always (args_runs program y world home here F grown ds ls cx stands vars es)) (λ a.
      given (λ x. (x.1, x.0)) (built_runs class a object))

  cell_start_runs : (at : Start) → target_of d ≡ Cells d.sync (value_type d.ty)
      → Reads F grown ds ls (IsCellType d.ty) (cell_start at cx d) (λ b. Makes program y world home here d (λ i. made i d b))
  cell_start_runs start.Nothing cell = done _ (λ x. makes_cells program y world home here d x cell)
  cell_start_runs (start.Value e) cell = started_cell_runs cell e
  cell_start_runs (start.Args es) cell = always (misplaced_args_runs es)

  array_start_runs : (at : Start) → target_of d ≡ Cells d.sync (value_type d.ty)
      → Reads F grown ds ls (IsCellType d.ty) (array_start at cx) (λ b. Makes program y world home here d (λ i. made i d b))
  array_start_runs start.Nothing cell = done _ (λ x. makes_cells program y world home here d x cell)
  array_start_runs (start.Value e) cell = always (misplaced_value_runs e)
  array_start_runs (start.Args es) cell = always (misplaced_args_runs es)

  object_start_runs : (at : Start) (class : ClassId) → target_of d ≡ ObjectOf class.0
      → Reads F grown ds ls F (object_start at cx class) (λ b. Makes program y world home here d (λ i. made i d b))
  object_start_runs start.Nothing class object = given (λ x. (no_args_fit program y world home here, x)) (built_runs class (Some no_args) object)
  object_start_runs (start.Value e) class object = always (misplaced_value_runs e)
  object_start_runs (start.Args es) class object = started_object_runs class object es

  started_by_runs : (sh : Shape) (at : Start) → d.shape ≡ sh
      → Reads F grown ds ls (IsCellType d.ty × F) (started_by sh cx d at) (λ b. Makes program y world home here d (λ i. made i d b))
  started_by_runs shape.Cell at is = given (λ x. x.0) (cell_start_runs at (ap (λ z. target_by z d) is))
  started_by_runs (shape.Array m) at is = given (λ x. x.0) (array_start_runs at (ap (λ z. target_by z d) is))
  started_by_runs (shape.Object class) at is = given (λ x. x.1) (object_start_runs at class (ap (λ z. target_by z d) is))

  pub started_runs : (at : Start) → Reads F grown ds ls (IsCellType d.ty × F) (started cx d at) (λ b. Makes program y world home here d (λ i. made i d b))
  started_runs at = started_by_runs d.shape at refl

-- ---- a new variable

slice_middle : {A : Type 0} (xs : List A) (x : A) (zs : List A) → slice_get ((xs ++ x ∷ []) ++ zs) (length xs) ≡ Some x
slice_middle [] x zs = refl
slice_middle (z ∷ xs) x zs = slice_middle xs x zs

made_append : (xs : List Declared) (x : Declared) (zs : List Declared) → (xs ++ x ∷ []) ++ zs ≡ xs ++ (x ∷ zs)
made_append [] x zs = refl
made_append (z ∷ xs) x zs = ap (λ l. z ∷ l) (made_append xs x zs)

module _ (grown : Grown) where
  noted_or_not : (b : Bool) (x : _) (s : State) (P : List Local → Type 0) → Ends grown (cond b (note x s) (tt, s)).1
      → Ends grown s × (P s.locals → P (cond b (note x s) (tt, s)).1.locals)
  noted_or_not true x s P e = absurd (not_empty s.broken x e.0)
  noted_or_not false x s P e = (e, λ p. p)

  twice_g : {P : List Local → Type 0} (cx : Context) (name : Name) → Goes grown P (twice cx name) (λ u. P)
  unfolding twice
  twice_g {P = P} cx name = record { go = λ s e. noted_or_not (is_here cx name s) (Rule r.LocalTwice cx.line) s P e }

  number_g : {P : List Local → Type 0} (d : Declared) → Goes grown P (number d) (λ k ls. P ls × (slice_get grown.made k ≡ Some d))
  number_g d = record {
    go = λ s e. (
      (e.0, e.1, d ∷ e.2, e.3 ∙ made_append s.made d e.2),
      λ x. (x, ap (λ l. slice_get l (length s.made)) e.3 ∙ slice_middle s.made d e.2),
    );
  }

  fits_more : (ls : List Local) (l : Local) → LocalsFit grown.made ls → VariableFits grown.made l.number l.declared
      → LocalsFit grown.made (ls ++ l ∷ [])
  fits_more [] l a b = (b, tt)
  fits_more (x ∷ ls) l a b = (a.0, fits_more ls l a.1 b)

  -- a variable comes into scope
  pub bring_g : (ls : List Local) (cx : Context) (name : Name) (k : ℕ) (d : Declared)
      → Goes grown (λ l. (l ≡ ls) × LocalsFit grown.made ls × VariableFits grown.made k d) (bring cx name k d)
      (λ u l. (l ≡ ls ++ record { name = name; number = k; declared = d; part = cx.part } ∷ []) × LocalsFit grown.made l)
  bring_g ls cx name k d = record {
    go = λ s e. (
      e,
      λ x. (
        ap (λ z. z ++ record { name = name; number = k; declared = d; part = cx.part } ∷ []) x.0,
        subst (λ z. LocalsFit grown.made (z ++ record { name = name; number = k; declared = d; part = cx.part } ∷ [])) (sym x.0)
            (fits_more ls (record { name = name; number = k; declared = d; part = cx.part }) x.1 x.2),
      ),
    );
  }

  pub declare_g : (ls : List Local) (cx : Context) (name : Name) (d : Declared)
      → Goes grown (λ l. (l ≡ ls) × LocalsFit grown.made ls × IsCellType d.ty) (declare cx name d)
      (λ k l. (slice_get grown.made k ≡ Some d) × LocalsFit grown.made l
      × (l ≡ ls ++ record { name = name; number = k; declared = d; part = cx.part } ∷ []))
  unfolding declare
  declare_g ls cx name d = next_g (twice_g cx name) (bind_g (number_g d) (λ k. bind_g
      (given_g (λ l x. ((x.0.0, x.0.1, (x.1, x.0.2)), x.1))
      (frame_g {X = slice_get grown.made k ≡ Some d} (bring_g ls cx name k d)))
      (λ u. done_g k (λ l x. (x.1, x.0.1, x.0.0)))))
