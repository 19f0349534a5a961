-- Declarations of variables.
use Rattle.std.proofs.Common.{◌≡◌, ℕ, ◌≤◌, Bool, true, false, cond, ◌∙◌, sym, ap, subst, List, [], ◌∷◌, ◌++◌, length, Option, Some, None, refl, inl}
use Rattle.std.specs.Prelude.{slice_get}
use Rattle.cc_core.specs.declared.expression.Expression.{Expression}
use Rattle.cc_core.specs.declared.statement.Statement.{Statement}
use Rattle.cc_core.specs.declared.statement.Statement.TheVariants as s
use Rattle.cc_core.specs.Core.{Stmt}
use Rattle.cc_core.specs.Types.{Cells, ObjectOf, FunctionTypes, Types, declares}
use Rattle.cc_core.specs.View.{stmt_of}
use Rattle.cc_core.proofs.ViewLaws.{make_is, set_is, build_is}
use Rattle.cc_one_answer.specs.Sorts.{is_sync}
use Rattle.cc_names.specs.Table.{Name}
use Rattle.cc_names.specs.declared.broken.Broken.TheVariants.{Rule}
use Rattle.cc_names.specs.declared.declarations.ClassId.{ClassId}
use Rattle.cc_names.specs.declared.rule.StaticRule.{StaticRule}
use Rattle.cc_names.specs.declared.rule.StaticRule.TheVariants as r
use Rattle.cc_tree.specs.declared.expressions.Expr.{Expr}
use Rattle.cc_tree.specs.declared.statements.Start.{Start}
use Rattle.cc_tree.specs.declared.statements.Start.TheVariants as start
use Rattle.cc_scopes.specs.declared.state.Local.{Local}
use Rattle.cc_scopes.specs.declared.state.State.{State}
use Rattle.cc_scopes.specs.declared.tables.Class.{Class}
use Rattle.cc_scopes.specs.declared.types.Declared.{Declared}
use Rattle.cc_scopes.specs.declared.types.Shape.{Shape}
use Rattle.cc_scopes.specs.declared.types.Shape.TheVariants as shape
use Rattle.cc_scopes.specs.declared.types.Ty.{Ty}
use Rattle.cc_scopes.specs.declared.types.Ty.TheVariants as ty
use Rattle.cc_scopes.specs.Elab.{note}
use Rattle.cc_scopes.specs.Scope.{Context, is_here, twice, bring, number, declare}
use Rattle.cc_scopes.specs.Types.{cell_kind}
use Rattle.cc_scopes.specs.Meaning.{class_at}
use Rattle.cc_typing.specs.declared.calls.Args.{Args}
use Rattle.cc_typing.specs.Calls.{no_args, args_rule}
use Rattle.cc_elaboration.specs.Declarations.{built_unless, built_as, built, misplaced, misplaced_value, misplaced_args, with_value, started_cell, started_object}
use Rattle.cc_elaboration.specs.Declarations.{cell_start, array_start, object_start, started_by, started, cells, made}
use Rattle.cc_shared.proofs.Runs.{IsThere, given, always, bind, next, done}
use Rattle.cc_shared.proofs.Forms.{StmtFits, make_fits, set_fits, build_fits}
use Rattle.cc_shared.proofs.TypesOf.{value_type, target_by, target_of, IsCellType}
use Rattle.cc_shared.proofs.Det.{Ends, MakerFits, Stands, VariableFits, Reads, Values}
use Rattle.cc_shared.proofs.StateLaws.{not_empty}
use Rattle.cc_shared.proofs.ScopeLaws.{never}
use Rattle.cc_shared.proofs.CallLaws as calls
use Rattle.cc_shared.proofs.CallLaws.{ArgsFit, no_args_fit}
use Rattle.cc_shared.proofs.ExpressionLaws.{operand_runs, args_runs, fitting_runs}
use Rattle.cc_shared.proofs.Goes.{Goes, given_g, bind_g, next_g, done_g, frame_g, Good, good_more, good_wider}

pub kind_sync : (t : Ty) (sync : Bool) → is_sync (cell_kind t sync) ≡ sync
kind_sync ty.Int true = refl
kind_sync ty.Int false = refl
kind_sync ty.Null true = refl
kind_sync ty.Null false = refl
kind_sync ty.Void true = refl
kind_sync ty.Void false = refl
kind_sync (ty.Pointer to remote) true = refl
kind_sync (ty.Pointer to remote) false = refl
kind_sync ty.Unknown true = refl
kind_sync ty.Unknown false = refl

module _ (y : Types) (main : ℕ) (here : FunctionTypes) (prints : Bool) (own : List ℕ) where
  -- a statement that declares variable k
  abbrev pub Declares : ℕ → Statement → Type 0
  Declares k x = StmtFits y main here prints own x × (declares (stmt_of x) own ≡ k ∷ own)

  -- statements that declare such a variable, whatever its number
  abbrev pub Makes : Declared → (ℕ → Statement) → Type 0
  Makes d f = (k : ℕ) → slice_get here.vars k ≡ Some (target_of d) → Declares k (f k)

  declares_by : (x : Statement) (t : Stmt) (k : ℕ) → stmt_of x ≡ t → declares t own ≡ k ∷ own → declares (stmt_of x) own ≡ k ∷ own
  declares_by x t k is d = ap (λ z. declares z own) is ∙ d

  cell_type : (k : ℕ) (d : Declared) → target_of d ≡ Cells d.sync (value_type d.ty) → slice_get here.vars k ≡ Some (target_of d)
      → slice_get here.vars k ≡ Some (Cells (is_sync (cell_kind d.ty d.sync)) (value_type d.ty))
  cell_type k d cell has = has ∙ ap Some (cell ∙ ap (λ b. Cells b (value_type d.ty)) (sym (kind_sync d.ty d.sync)))

  makes_cells : (d : Declared) → target_of d ≡ Cells d.sync (value_type d.ty) → Makes d (λ k. s.Make k (cell_kind d.ty d.sync) (cells d.shape))
  makes_cells d cell k has = (
    make_fits y main here prints own k (cell_kind d.ty d.sync) (cells d.shape) (value_type d.ty) (cell_type k d cell has),
    declares_by _ _ k (make_is k (cell_kind d.ty d.sync) (cells d.shape)) refl,
  )

  sets_cell : (d : Declared) (x : Expression) → target_of d ≡ Cells d.sync (value_type d.ty) → Values y main here x (value_type d.ty)
      → Makes d (λ k. s.Set k (cell_kind d.ty d.sync) x)
  sets_cell d x cell v k has = (
    set_fits y main here prints own k (cell_kind d.ty d.sync) x (value_type d.ty) (cell_type k d cell has) v,
    declares_by _ _ k (set_is k (cell_kind d.ty d.sync) x) refl,
  )

  builds_object : (d : Declared) (class : ClassId) (k : Class) (a : Args) → target_of d ≡ ObjectOf class.0 → MakerFits y class.0 k
      → args_rule k.constructor a.types ≡ None → ArgsFit y main here a → Makes d (λ i. s.Build i class.0 a.terms)
  builds_object d class k a object fits none v i has = (
    build_fits y main here prints own i class.0 a.terms (has ∙ ap Some object) (calls.make_fits y main here class.0 k a fits none v),
    declares_by _ _ i (build_is i class.0 a.terms) refl,
  )

module _ (y : Types) (main : ℕ) (here : FunctionTypes) (F : Type 0) (grown ds : List Declared) (part : ℕ) (own : List ℕ) (ls : List Local) (cx : Context)
    (stands : F → Stands y main here cx)
    (vars : F → (k : ℕ) (d : Declared) → slice_get ds k ≡ Some d → slice_get here.vars k ≡ Some (target_of d)) (prints : Bool) (d : Declared) where
  -- ---- how a variable starts

  built_unless_runs : (r : Option StaticRule) (class : ClassId) (k : Class) (a : Args) → (F → MakerFits y class.0 k) → args_rule k.constructor a.types ≡ r
      → target_of d ≡ ObjectOf class.0
      → Reads F grown ds part own ls (ArgsFit y main here a × F) (built_unless r cx class a.terms) (λ b. Makes y main here prints own d (λ i. made i d b))
  built_unless_runs (Some rule) class k a fits is object = never F grown ds part own ls cx rule _
  built_unless_runs None class k a fits is object = done _ (λ x. builds_object y main here prints own d class k a object (fits x.1) is x.0)

  built_as_runs : (o : Option Class) (class : ClassId) (a : Args) → slice_get cx.tables.classes class.0 ≡ o → target_of d ≡ ObjectOf class.0
      → Reads F grown ds part own ls (ArgsFit y main here a × F) (built_as o cx class a) (λ b. Makes y main here prints own d (λ i. made i d b))
  built_as_runs None class a is object = never F grown ds part own ls cx _ _
  built_as_runs (Some k) class a is object =
      built_unless_runs (args_rule k.constructor a.types) class k a (λ f. (stands f).matches.classes class.0 k is) refl object

  built_runs : (class : ClassId) (a : Option Args) → target_of d ≡ ObjectOf class.0
      → Reads F grown ds part own ls (IsThere (ArgsFit y main here) a × F) (built cx class a) (λ b. Makes y main here prints own d (λ i. made i d b))
  built_runs class None object = done _ (λ x. absurd x.0)
  built_runs class (Some a) object = built_as_runs (class_at cx class) class a refl object

  misplaced_runs : {P : Type 0} → Reads F grown ds part own ls P (misplaced cx) (λ b. Makes y main here prints own d (λ i. made i d b))
  misplaced_runs = never F grown ds part own ls cx _ _

  misplaced_value_runs : (e : Expr) → Reads F grown ds part own ls (Unit {0}) (misplaced_value cx e) (λ b. Makes y main here prints own d (λ i. made i d b))
  unfolding misplaced_value
  misplaced_value_runs e = next (operand_runs y main here F grown ds part own ls cx stands vars e) misplaced_runs

  misplaced_args_runs : (es : List Expr) → Reads F grown ds part own ls (Unit {0}) (misplaced_args cx es) (λ b. Makes y main here prints own d (λ i. made i d b))
  unfolding misplaced_args
  misplaced_args_runs es = next (args_runs y main here F grown ds part own ls cx stands vars es) misplaced_runs

  with_value_fits : (v : Option Expression) → target_of d ≡ Cells d.sync (value_type d.ty) → IsThere (λ x. Values y main here x (value_type d.ty)) v
      → Makes y main here prints own d (λ i. made i d (with_value v))
  with_value_fits None cell p = absurd p
  with_value_fits (Some v) cell p = sets_cell y main here prints own d v cell p

  started_cell_runs : target_of d ≡ Cells d.sync (value_type d.ty) → (e : Expr)
      → Reads F grown ds part own ls (IsCellType d.ty) (started_cell cx d e) (λ b. Makes y main here prints own d (λ i. made i d b))
  unfolding started_cell
  started_cell_runs cell e = bind (fitting_runs y main here F grown ds part own ls cx stands vars d.ty e) (λ v. done (with_value v) (λ x. with_value_fits v cell x.1))

  started_object_runs : (class : ClassId) → target_of d ≡ ObjectOf class.0 → (es : List Expr)
      → Reads F grown ds part own ls F (started_object cx class es) (λ b. Makes y main here prints own d (λ i. made i d b))
  unfolding started_object
  started_object_runs class object es = bind (always (args_runs y main here F grown ds part own ls cx stands vars es)) (λ a.
      given (λ x. (x.1, x.0)) (built_runs class a object))

  cell_start_runs : (at : Start) → target_of d ≡ Cells d.sync (value_type d.ty)
      → Reads F grown ds part own ls (IsCellType d.ty) (cell_start at cx d) (λ b. Makes y main here prints own d (λ i. made i d b))
  cell_start_runs start.Nothing cell = done _ (λ x. makes_cells y main here prints own d cell)
  cell_start_runs (start.Value e) cell = started_cell_runs cell e
  cell_start_runs (start.Args es) cell = always (misplaced_args_runs es)

  array_start_runs : (at : Start) → target_of d ≡ Cells d.sync (value_type d.ty)
      → Reads F grown ds part own ls (Unit {0}) (array_start at cx) (λ b. Makes y main here prints own d (λ i. made i d b))
  array_start_runs start.Nothing cell = done _ (λ x. makes_cells y main here prints own d cell)
  array_start_runs (start.Value e) cell = misplaced_value_runs e
  array_start_runs (start.Args es) cell = misplaced_args_runs es

  object_start_runs : (at : Start) (class : ClassId) → target_of d ≡ ObjectOf class.0
      → Reads F grown ds part own ls F (object_start at cx class) (λ b. Makes y main here prints own d (λ i. made i d b))
  object_start_runs start.Nothing class object = given (λ x. (no_args_fit y main here, x)) (built_runs class (Some no_args) object)
  object_start_runs (start.Value e) class object = always (misplaced_value_runs e)
  object_start_runs (start.Args es) class object = started_object_runs class object es

  started_by_runs : (sh : Shape) (at : Start) → d.shape ≡ sh
      → Reads F grown ds part own ls (IsCellType d.ty × F) (started_by sh cx d at) (λ b. Makes y main here prints own d (λ i. made i d b))
  started_by_runs shape.Cell at is = given (λ x. x.0) (cell_start_runs at (ap (λ z. target_by z d) is))
  started_by_runs (shape.Array m) at is = always (array_start_runs at (ap (λ z. target_by z d) is))
  started_by_runs (shape.Object class) at is = given (λ x. x.1) (object_start_runs at class (ap (λ z. target_by z d) is))

  pub started_runs : (at : Start) → Reads F grown ds part own ls (IsCellType d.ty × F) (started cx d at) (λ b. Makes y main here prints own d (λ i. made i d b))
  started_runs at = started_by_runs d.shape at refl

-- ---- a new variable

slice_middle : {A : Type 0} (xs : List A) (x : A) (zs : List A) → slice_get ((xs ++ x ∷ []) ++ zs) (length xs) ≡ Some x
slice_middle [] x zs = refl
slice_middle (z ∷ xs) x zs = slice_middle xs x zs

made_append : (xs : List Declared) (x : Declared) (zs : List Declared) → (xs ++ x ∷ []) ++ zs ≡ xs ++ (x ∷ zs)
made_append [] x zs = refl
made_append (z ∷ xs) x zs = ap (λ l. z ∷ l) (made_append xs x zs)

module _ (ds : List Declared) where
  noted_or_not : (b : Bool) (x : _) (s : State) (P : List Local → Type 0) → Ends ds (cond b (note x s) (tt, s)).1
      → Ends ds s × (P s.locals → P (cond b (note x s) (tt, s)).1.locals)
  noted_or_not true x s P e = absurd (not_empty s.broken x e.0)
  noted_or_not false x s P e = (e, λ p. p)

  twice_g : {P : List Local → Type 0} (cx : Context) (name : Name) → Goes ds P (twice cx name) (λ u. P)
  unfolding twice
  twice_g {P = P} cx name = record { go = λ s e. noted_or_not (is_here cx name s) (Rule r.LocalTwice cx.line) s P e }

  number_g : {P : List Local → Type 0} (d : Declared) → Goes ds P (number d) (λ k ls. P ls × (slice_get ds k ≡ Some d))
  number_g d = record {
    go = λ s e. (
      (e.0, e.1, d ∷ e.2, e.3 ∙ made_append s.made d e.2),
      λ x. (x, ap (λ l. slice_get l (length s.made)) e.3 ∙ slice_middle s.made d e.2),
    );
  }

  -- a variable of this part comes into scope
  pub bring_g : (part : ℕ) (own : List ℕ) (ls : List Local) (cx : Context) (name : Name) (k : ℕ) (d : Declared) → cx.part ≡ part
      → Goes ds (λ l. (l ≡ ls) × Good ds part own ls × VariableFits ds part own k d cx.part × (cx.part ≤ length ls)) (bring cx name k d)
      (λ u l. (l ≡ ls ++ record { name = name; number = k; declared = d; part = cx.part } ∷ []) × Good ds part own l)
  bring_g part own ls cx name k d same = record {
    go = λ s e. (
      e,
      λ x. (
        ap (λ z. z ++ record { name = name; number = k; declared = d; part = cx.part } ∷ []) x.0,
        subst (λ z. Good ds part own (z ++ record { name = name; number = k; declared = d; part = cx.part } ∷ [])) (sym x.0)
            (good_more ds part own ls (record { name = name; number = k; declared = d; part = cx.part }) x.1 x.2 x.3),
      ),
    );
  }

  pub declare_g : (part : ℕ) (own : List ℕ) (ls : List Local) (cx : Context) (name : Name) (d : Declared) → cx.part ≡ part
      → Goes ds (λ l. (l ≡ ls) × Good ds part own ls × IsCellType d.ty × (part ≤ length ls)) (declare cx name d)
      (λ k l. (slice_get ds k ≡ Some d) × Good ds part (k ∷ own) l
      × (l ≡ ls ++ record { name = name; number = k; declared = d; part = cx.part } ∷ []))
  unfolding declare
  declare_g part own ls cx name d same = next_g (twice_g cx name) (bind_g (number_g d) (λ k. bind_g
      (given_g (λ l x. ((x.0.0, good_wider ds part k own ls x.0.1, (x.1, x.0.2, λ q. inl refl), subst (λ n. n ≤ length ls) (sym same) x.0.3), x.1))
      (frame_g {X = slice_get ds k ≡ Some d} (bring_g part (k ∷ own) ls cx name k d same)))
      (λ u. done_g k (λ l x. (x.1, x.0.1, x.0.0)))))
