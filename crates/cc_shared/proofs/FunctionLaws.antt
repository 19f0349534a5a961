-- Functions: what the front end leaves of one is determinate.
use Rattle.std.proofs.Common.{◌≡◌, ℕ, zero, suc, ◌+◌, ◌<◌, ◌≤◌, Bool, true, false, not, List, [], ◌∷◌, ◌++◌, length, map, Option, Some, None, refl, sym, ap, subst, ◌∙◌, arith, append-nil, ◌⊎◌, inl, inr, ⊎_elim}
use Rattle.std.specs.Prelude.{slice_get, ◌&&◌}
use Rattle.std.proofs.lemmas.Bool.{true≢false}
use Rattle.std.proofs.lemmas.Option.{none-some}
use Rattle.cc_core.specs.declared.statement.Statement.{Statement}
use Rattle.cc_core.specs.Effects.{numbers}
use Rattle.cc_core.specs.Types.{Cells, Target, FunctionTypes, Types, IsAmong, no_types}
use Rattle.cc_core.specs.View.{stmts_of}
use Rattle.cc_one_answer.specs.Determinate.{DetStmts, AreParameters}
use Rattle.cc_one_answer.specs.Sorts.{is_sync}
use Rattle.cc_core.specs.declared.program.Function.{Function as CoreFunction}
use Rattle.cc_names.specs.declared.rule.StaticRule.TheVariants as r
use Rattle.cc_declared.specs.declared.role.Role.TheVariants as role
use Rattle.cc_declared.specs.Slots.{returned, value_type_by, value_type as declared_type}
use Rattle.cc_elaboration.specs.Statements.{function_body}
use Rattle.cc_functions.specs.Functions.{is_plain_int, params_from, result_of, in_function, kinds_of, share_atomic}
use Rattle.cc_scopes.specs.declared.state.Local.{Local}
use Rattle.cc_scopes.specs.declared.state.State.{State}
use Rattle.cc_scopes.specs.declared.types.Declared.{Declared}
use Rattle.cc_scopes.specs.declared.types.Shape.{Shape}
use Rattle.cc_scopes.specs.declared.types.Shape.TheVariants as shape
use Rattle.cc_scopes.specs.declared.types.Ty.{Ty}
use Rattle.cc_scopes.specs.Scope.{Context}
use Rattle.cc_scopes.specs.Types.{cell_kind}
use Rattle.cc_tree.specs.declared.declarations.Function.{Function}
use Rattle.cc_tree.specs.declared.statements.TypeName.{TypeName}
use Rattle.cc_source.proofs.Fits.{Clean}
use Rattle.cc_shared.proofs.TypesOf.{value_type, target_by, target_of, IsCellType, IsResultType}
use Rattle.cc_shared.proofs.Det.{Ends, Stands, LocalsFit}
use Rattle.cc_shared.proofs.Forms.{StmtsFit}
use Rattle.cc_shared.proofs.StateLaws.{not_empty}
use Rattle.cc_shared.proofs.DeclaredLaws.{DeclaredFits, ShapeFits}
use Rattle.cc_shared.proofs.DeclarationLaws.{kind_sync}
use Rattle.cc_shared.proofs.Goes.{PartsFrom, Good}
use Rattle.cc_shared.proofs.Proper.{EachOf, AlwaysProper}
use Rattle.cc_shared.proofs.StatementLaws.{function_body_g}
use Rattle.cc_shared.proofs.CleanLaws.{typed_kept, typed_fits, note_kept, AllParameters, AreNumbered, ParamsDone, params_done, params_fit}

-- ---- lists

slice_front : {A : Type 0} (xs ys : List A) (k : ℕ) (x : A) → slice_get xs k ≡ Some x → slice_get (xs ++ ys) k ≡ Some x
slice_front [] ys k x is = absurd (none-some x is)
slice_front (z ∷ xs) ys zero x is = is
slice_front (z ∷ xs) ys (suc k) x is = slice_front xs ys k x is

pub slice_mapped : {A B : Type 0} (f : A → B) (xs : List A) (k : ℕ) (x : A) → slice_get xs k ≡ Some x → slice_get (map f xs) k ≡ Some (f x)
slice_mapped f [] k x is = absurd (none-some x is)
slice_mapped {B = B} f (z ∷ xs) zero x is = ap (λ o. elim o as (λ w. Option B) [ None ↦ None | Some w ↦ Some (f w) ]) is
slice_mapped f (z ∷ xs) (suc k) x is = slice_mapped f xs k x is

same_or_more : (k i : ℕ) → k ≤ i → (i ≡ k) ⊎ (suc k ≤ i)
same_or_more zero zero le = inl refl
same_or_more zero (suc i) le = inr (omega arith)
same_or_more (suc k) zero le = absurd (omega (arith, le))
same_or_more (suc k) (suc i) le = ⊎_elim (λ is. inl (ap suc is)) (λ more. inr (omega (arith, more))) (same_or_more k i (omega (arith, le)))

among_from : (k i n : ℕ) → k ≤ i → i < k + n → IsAmong i (numbers k n)
among_from k i zero le lt = absurd (omega (arith, le, lt))
among_from k i (suc n) le lt = ⊎_elim (λ is. inl is) (λ more. inr (among_from (suc k) i n more (omega (arith, lt)))) (same_or_more k i le)

-- ---- the parameters are the first variables, and this part's own

module _ (ds : List Declared) (own : List ℕ) where
  pub params_known : (k : ℕ) (new : List Declared) (ls : List Local) → AllParameters new → AreNumbered 0 k new ls
      → ((i : ℕ) (d : Declared) → slice_get new i ≡ Some d → slice_get ds (k + i) ≡ Some d) → ((i : ℕ) → i < k + length new → k ≤ i → IsAmong i own)
      → LocalsFit ds 0 own ls
  params_known k [] [] fits are has among = tt
  params_known k [] (l ∷ ls) fits are has among = absurd (nothing_more are)
    where
      nothing_more : l ∷ ls ≡ [] → ⊥
      nothing_more is = let n : suc (length ls) ≡ 0 = ap (λ z. length z) is in omega (arith, n)
  params_known k (d ∷ new) [] fits are has among = absurd are
  params_known k (d ∷ new) (l ∷ ls) fits are has among = (
    (
      ap (λ i. slice_get ds i) are.0 ∙ (at_k (has 0 d refl) ∙ ap Some (sym are.1)),
      subst (λ z. IsCellType z.ty) (sym are.1) (fits.0).0,
      λ q. subst (λ i. IsAmong i own) (sym are.0) (among k (omega arith) (omega arith)),
    ),
    params_known (suc k) new ls fits.1 are.3 (λ i x is. at_next i x (has (suc i) x is)) (λ i lt le. among i (omega (arith, lt)) (omega (arith, le))),
  )
    where
      at_k : slice_get ds (k + 0) ≡ Some d → slice_get ds k ≡ Some d
      at_k is = let same : k + 0 ≡ k = omega arith in subst (λ n. slice_get ds n ≡ Some d) same is

      at_next : (i : ℕ) (x : Declared) → slice_get ds (k + suc i) ≡ Some x → slice_get ds (suc k + i) ≡ Some x
      at_next i x is = let same : k + suc i ≡ suc k + i = omega arith in subst (λ n. slice_get ds n ≡ Some x) same is

  params_parts : (k i : ℕ) (new : List Declared) (ls : List Local) → AreNumbered 0 k new ls → PartsFrom i ls
  params_parts k i new [] are = tt
  params_parts k i [] (l ∷ ls) are = absurd (nothing_more are)
    where
      nothing_more : l ∷ ls ≡ [] → ⊥
      nothing_more is = let n : suc (length ls) ≡ 0 = ap (λ z. length z) is in omega (arith, n)
  params_parts k i (d ∷ new) (l ∷ ls) are = let is : l.part ≡ 0 = are.2 in (omega (arith, is), params_parts (suc k) (suc i) new ls are.3)

-- ---- a parameter is one plain or sync cell of the type of its value

pub parameter_target : (d : Declared) → DeclaredFits role.Parameter d → target_of d ≡ Cells d.sync (value_type d.ty)
parameter_target d f = by_shape d.shape f.1
  where
    by_shape : (s : Shape) → ShapeFits role.Parameter s → target_by s d ≡ Cells d.sync (value_type d.ty)
    by_shape shape.Cell p = refl
    by_shape (shape.Array n) p = refl
    by_shape (shape.Object class) p = absurd (true≢false (sym p))

pub parameter_value : (d : Declared) → DeclaredFits role.Parameter d → declared_type d ≡ d.ty
parameter_value d f = by_shape d.shape f.1
  where
    by_shape : (s : Shape) → ShapeFits role.Parameter s → value_type_by s d ≡ d.ty
    by_shape shape.Cell p = refl
    by_shape (shape.Array n) p = refl
    by_shape (shape.Object class) p = absurd (true≢false (sym p))

are_parameters : (vars : List Target) (k : ℕ) (new : List Declared) → AllParameters new
    → ((i : ℕ) (d : Declared) → slice_get new i ≡ Some d → slice_get vars (k + i) ≡ Some (target_of d))
    → AreParameters vars k (map kinds_of new) (map (λ d. value_type (declared_type d)) new)
are_parameters vars k [] fits has = refl
are_parameters vars k (d ∷ new) fits has = (
  value_type (declared_type d),
  map (λ d. value_type (declared_type d)) new,
  refl,
  at_k (has 0 d refl) ∙ ap Some (parameter_target d fits.0
      ∙ (ap (λ b. Cells b (value_type d.ty)) (sym (kind_sync d.ty d.sync))
      ∙ ap (λ t. Cells (is_sync (cell_kind d.ty d.sync)) (value_type t)) (sym (parameter_value d fits.0)))),
  are_parameters vars (suc k) new fits.1 (λ i x is. at_next i x (has (suc i) x is)),
)
  where
    at_k : slice_get vars (k + 0) ≡ Some (target_of d) → slice_get vars k ≡ Some (target_of d)
    at_k is = let same : k + 0 ≡ k = omega arith in subst (λ n. slice_get vars n ≡ Some (target_of d)) same is

    at_next : (i : ℕ) (x : Declared) → slice_get vars (k + suc i) ≡ Some (target_of x) → slice_get vars (suc k + i) ≡ Some (target_of x)
    at_next i x is = let same : k + suc i ≡ suc k + i = omega arith in subst (λ n. slice_get vars n ≡ Some (target_of x)) same is

-- ---- the function

-- what is known of a function that is read without a broken rule
pub record FunctionFits (y : Types) (main : ℕ) (prints : Bool) (here : FunctionTypes) (x : CoreFunction) : Type 0 where
  pub body : DetStmts y main here prints (numbers 0 (length x.shape.params)) (stmts_of x.body)
  pub parameters : AreParameters here.vars 0 x.shape.params here.params
  pub not_atomic : x.shape.atomic ≡ false

-- its types, from its result, its parameters and its variables
abbrev pub types_in : Option ℕ → Ty → (params variables : List Declared) → FunctionTypes
types_in this t params variables = record {
  this = this;
  result = value_type t;
  params = map (λ d. value_type (declared_type d)) params;
  vars = map target_of variables;
}

pub none_atomic : (a : Bool) (cx : Context) (s : State) → (share_atomic a cx s).1.shared ≡ [] → a ≡ false
none_atomic true cx s e = absurd (not_empty s.shared _ e)
none_atomic false cx s e = refl

pub atomic_kept : (a : Bool) (cx : Context) (s : State) → a ≡ false → (share_atomic a cx s).1 ≡ s
atomic_kept true cx s e = absurd (true≢false e)
atomic_kept false cx s e = refl

module _ (cx : Context) (m : Bool) (f : Function) where
  -- ---- the result

  pub result_kept : (t : TypeName) (s : State) → Clean (result_of cx m t s).1 → (result_of cx m t s).1 ≡ s
  unfolding result_of
  result_kept t s e =
      let d = returned cx t s in
      let same = note_kept cx (m && not (is_plain_int d.0)) r.BadMain d.1 e in
      same ∙ typed_kept cx role.Result t s (subst Clean same e)

  result_type_by : (x : Shape) (d : Declared) → IsResultType d.ty → ShapeFits role.Result x → IsResultType (value_type_by x d)
  result_type_by shape.Cell d p q = p
  result_type_by (shape.Array n) d p q = p
  result_type_by (shape.Object class) d p q = absurd (true≢false (sym q))

  pub result_fits : (t : TypeName) (s : State) → Clean (result_of cx m t s).1 → IsResultType (result_of cx m t s).0
  unfolding result_of
  result_fits t s e =
      let d = returned cx t s in
      let fits = typed_fits cx role.Result t s (subst Clean (note_kept cx (m && not (is_plain_int d.0)) r.BadMain d.1 e) e) in
      result_type_by (d.0).shape d.0 fits.0 fits.1

  -- ---- the parts, in order

  abbrev pub after_result : State → Ty × State
  after_result s = result_of cx m f.result s

  abbrev pub inner : State → Context
  inner s = in_function cx (after_result s).0 m

  abbrev pub after_params : State → List Declared × State
  after_params s = params_from (inner s) m [] f.params (after_result s).1

  abbrev pub after_body : State → List Statement × State
  after_body s = function_body (inner s) f.body (after_params s).1

  pub no_functions : Types
  no_functions = record { functions = []; classes = []; makers = [] }

  -- in any function, so that what is known at the end is known before the body
  pub body_ends : EachOf AlwaysProper f.body → (s : State) → Ends (after_body s).1.made (after_body s).1 → Ends (after_body s).1.made (after_params s).1
  body_ends proper s e = ((function_body_g no_functions 0 no_types ⊥ (after_body s).1.made (λ x. absurd x) true (inner s) [] []
      (record { stands = λ x. absurd x; alone = λ is. refl; outside = refl }) f.body proper).go (after_params s).1 e).0

  -- what was collected before the function is as clean
  pub parts_ends : EachOf AlwaysProper f.body → (s : State) → (after_body s).1.broken ≡ [] → (after_body s).1.shared ≡ []
      → Clean s × (s.shared ≡ [])
  parts_ends proper s e sh =
      let ends = body_ends proper s (e, sh, [], sym (append-nil (after_body s).1.made)) in
      let params = params_done (inner s) m [] f.params (after_result s).1 ends.0 in
      let clean : Clean (after_result s).1 = sym params.broken ∙ ends.0 in
      let same = result_kept f.result s clean in
      (subst Clean same clean, ap (λ z. z.shared) (sym same) ∙ (sym params.shared ∙ ends.1))

  module _ (proper : EachOf AlwaysProper f.body) (s : State) (e : (after_body s).1.broken ≡ []) (sh : (after_body s).1.shared ≡ [])
      (nothing_made : s.made ≡ []) (nothing_here : s.locals ≡ []) where
    abbrev ends_all : Ends (after_body s).1.made (after_params s).1
    ends_all = body_ends proper s (e, sh, [], sym (append-nil (after_body s).1.made))

    abbrev params_all : ParamsDone 0 (after_result s).1 (after_params s).1 [] (after_params s).0
    params_all = params_done (inner s) m [] f.params (after_result s).1 ends_all.0

    pub same_result : (after_result s).1 ≡ s
    same_result = result_kept f.result s (sym params_all.broken ∙ ends_all.0)

    pub made_are : (after_params s).1.made ≡ params_all.new
    made_are = params_all.made ∙ ap (λ l. l ++ params_all.new) (ap (λ z. z.made) same_result ∙ nothing_made)

    -- the parameters are the first of the variables
    pub first_variables : (i : ℕ) (d : Declared) → slice_get params_all.new i ≡ Some d → slice_get (after_body s).1.made i ≡ Some d
    first_variables i d is =
        ap (λ l. slice_get l i) (ends_all.3 ∙ ap (λ l. l ++ ends_all.2) made_are) ∙ slice_front params_all.new ends_all.2 i d is

    -- what is declared, as the tables may have it
    pub declared_params : (after_params s).0 ≡ params_all.new
    declared_params = params_all.given

    pub params_are_cells : AllParameters params_all.new
    params_are_cells = params_fit (inner s) m [] f.params (after_result s).1 ends_all.0

    pub from_zero : AreNumbered 0 0 params_all.new params_all.variables
    from_zero = subst (λ k. AreNumbered 0 k params_all.new params_all.variables) (ap (λ z. length z.made) same_result ∙ ap (λ l. length l) nothing_made)
        params_all.numbered

    pub here_locals : (after_params s).1.locals ≡ params_all.variables
    here_locals = params_all.locals ∙ ap (λ l. l ++ params_all.variables) (ap (λ z. z.locals) same_result ∙ nothing_here)

    good : Good (after_body s).1.made 0 (numbers 0 (length params_all.new)) params_all.variables
    good = (
      params_known (after_body s).1.made (numbers 0 (length params_all.new)) 0 params_all.new params_all.variables params_are_cells from_zero
          (λ i d is. at_zero i d (first_variables i d is)) (λ i lt le. among_from 0 i (length params_all.new) le lt),
      params_parts (after_body s).1.made [] 0 0 params_all.new params_all.variables from_zero,
    )
      where
        at_zero : (i : ℕ) (d : Declared) → slice_get (after_body s).1.made i ≡ Some d → slice_get (after_body s).1.made (0 + i) ≡ Some d
        at_zero i d is = let same : 0 + i ≡ i = omega arith in subst (λ n. slice_get (after_body s).1.made n ≡ Some d) (sym same) is

    module _ (y : Types) (main : ℕ) (prints : Bool) (this : Option ℕ) (alone : m ≡ true → prints ≡ true) where
      abbrev types_here : FunctionTypes
      types_here = types_in this (after_result s).0 (after_params s).0 (after_body s).1.made

      vars_here : (k : ℕ) (d : Declared) → slice_get (after_body s).1.made k ≡ Some d → slice_get types_here.vars k ≡ Some (target_of d)
      vars_here k d is = slice_mapped target_of (after_body s).1.made k d is

      in_main_alone : (a : Bool) → (a && true) ≡ true → a ≡ true
      in_main_alone true is = refl
      in_main_alone false is = is

      -- where the tables stand, the body is determinate
      pub body_fits : Stands y main types_here (inner s)
          → DetStmts y main types_here prints (numbers 0 (length (after_params s).0)) (stmts_of (after_body s).0)
      body_fits stands =
          let law = function_body_g y main types_here (Unit {0}) (after_body s).1.made (λ u k d is. vars_here k d is) prints (inner s)
          (numbers 0 (length params_all.new)) params_all.variables
          (record { stands = λ u. stands; alone = λ is. alone (in_main_alone m is); outside = refl }) f.body proper in
          let fits : StmtsFit y main types_here prints (numbers 0 (length params_all.new)) (after_body s).0 =
          (law.go (after_params s).1 (e, sh, [], sym (append-nil (after_body s).1.made))).1 (here_locals, (good, tt, omega arith)) in
          subst (λ l. DetStmts y main types_here prints (numbers 0 (length l)) (stmts_of (after_body s).0)) (sym declared_params) fits

      pub parameters_fit : AreParameters types_here.vars 0 (map kinds_of (after_params s).0) types_here.params
      parameters_fit = subst (λ l. AreParameters types_here.vars 0 (map kinds_of l) (map (λ d. value_type (declared_type d)) l)) (sym declared_params)
          (are_parameters types_here.vars 0 params_all.new params_are_cells (λ i d is. at_zero i d (vars_here i d (first_variables i d is))))
        where
          at_zero : (i : ℕ) (d : Declared) → slice_get types_here.vars i ≡ Some (target_of d) → slice_get types_here.vars (0 + i) ≡ Some (target_of d)
          at_zero i d is = let same : 0 + i ≡ i = omega arith in subst (λ n. slice_get types_here.vars n ≡ Some (target_of d)) (sym same) is
