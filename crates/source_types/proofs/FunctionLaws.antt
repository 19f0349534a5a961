-- Functions: what the front end leaves of one is well typed.
use Rattle.std.proofs.Common.{◌≡◌, ℕ, zero, suc, ◌+◌, Bool, true, false, not, cond, List, [], ◌∷◌, ◌++◌, length, map, Option, Some, None, refl, sym, ap, subst, ◌∙◌, arith, append-nil, ◌⊎◌}
use Rattle.std.specs.Prelude.{slice_get, nat_lt, ℤ, ◌&&◌}
use Rattle.std.proofs.lemmas.Bool.{true≢false, false≢true}
use Rattle.std.proofs.lemmas.Option.{none-some}
use Rattle.cc_blocking.specs.declared.conduct.Conduct.{Conduct}
use Rattle.cc_core.specs.Core as core
use Rattle.cc_core.specs.Names as core_names
use Rattle.cc_core.specs.View.{constant_of, stmts_of}
use Rattle.cc_declared.specs.declared.role.Role.TheVariants as role
use Rattle.cc_declared.specs.Allowed.{may_be, is_allowed_by, is_allowed, reaches}
use Rattle.cc_declared.specs.Slots.{checked, typed_as, parameter, returned, value_type as declared_type, value_type_by}
use Rattle.cc_declared.specs.Written.{written}
use Rattle.cc_elaboration.specs.Simple.{note_if}
use Rattle.cc_elaboration.specs.Statements.{at_line}
use Rattle.cc_core.specs.declared.program.Function.{Function as CoreFunction}
use Rattle.cc_functions.specs.Functions.{begin, is_plain_int, is_int_by, is_plain, param_at, param, params_from, result_of, default_of, kinds_of, share_atomic, parts, function_at, function}
use Rattle.cc_names.specs.declared.broken.Broken.{Broken}
use Rattle.cc_names.specs.declared.broken.Broken.TheVariants.{Rule}
use Rattle.cc_names.specs.declared.declarations.ClassId.{ClassId}
use Rattle.cc_names.specs.declared.declarations.Entity.TheVariants as entity
use Rattle.cc_names.specs.declared.declarations.FunId.{FunId}
use Rattle.cc_names.specs.declared.rule.StaticRule.TheVariants as r
use Rattle.cc_names.specs.Names.{entity_named}
use Rattle.cc_names.specs.Table.{Name}
use Rattle.cc_scopes.specs.declared.state.Local.{Local}
use Rattle.cc_scopes.specs.declared.state.State.{State}
use Rattle.cc_scopes.specs.declared.tables.Signature.{Signature}
use Rattle.cc_scopes.specs.declared.types.Declared.{Declared}
use Rattle.cc_scopes.specs.declared.types.Shape.{Shape}
use Rattle.cc_scopes.specs.declared.types.Shape.TheVariants as shape
use Rattle.cc_scopes.specs.declared.types.Ty.{Ty}
use Rattle.cc_scopes.specs.declared.types.Ty.TheVariants as ty
use Rattle.cc_scopes.specs.Meaning.{constant_value}
use Rattle.cc_scopes.specs.Elab.{note}
use Rattle.cc_scopes.specs.Scope.{Context, is_here, twice, declare}
use Rattle.cc_scopes.specs.Types.{cell_kind}
use Rattle.cc_source.proofs.Fits.{Clean}
use Rattle.cc_shared.proofs.CleanLaws.{type_clean, AllParameters, AreNumbered, ParamsDone, params_done, params_fit, typed_fits}
use Rattle.cc_shared.proofs.DeclaredLaws as declared
use Rattle.cc_shared.proofs.FunctionLaws.{slice_mapped, parameter_value, result_kept, result_fits, after_result, inner, after_params, after_body}
use Rattle.cc_shared.proofs.ItemLaws.{before_parts}
use Rattle.cc_shared.proofs.TypesOf as shared_types
use Rattle.cc_ops.specs.declared.kind.Kind.{Kind}
use Rattle.cc_tree.specs.declared.declarations.Function.{Function}
use Rattle.cc_tree.specs.declared.declarations.Param.{Param}
use Rattle.cc_tree.specs.declared.statements.TypeName.{TypeName}
use Rattle.core_types.specs.Programs.{IsParameter, AreParameters}
use Rattle.core_types.specs.Types.{AnInt, Cells, FunctionTypes, Types, function_types, IsKind, IsConstant}
use Rattle.core_types.specs.Typing.{scope_of, AreTyped}
use Rattle.core_types.specs.Values.{World}
use Rattle.source_types.specs.TypesOf.{value_type, target_by, target_of, IsCellType, IsResultType}
use Rattle.source_types.specs.Reading.{IsThere, Anything, Matches, CalmCall, Grown, AllCalls, Ends, LocalsFit}
use Rattle.source_types.proofs.CleanEnds.{free, clean_ends, body_ends}
use Rattle.source_types.proofs.DeclarationLaws.{kind_sync, kind_is}
use Rattle.source_types.proofs.StateLaws.{not_empty}
use Rattle.source_types.proofs.StatementLaws.{body_is_typed}

-- ---- types, as the laws of sharing have them too

pub cell_type : (t : Ty) → shared_types.IsCellType t → IsCellType t
cell_type ty.Int p = p
cell_type ty.Null p = p
cell_type ty.Void p = p
cell_type (ty.Pointer to remote) p = p
cell_type ty.Unknown p = p

pub result_type : (t : Ty) → shared_types.IsResultType t → IsResultType t
result_type ty.Int p = p
result_type ty.Null p = p
result_type ty.Void p = p
result_type (ty.Pointer to remote) p = p
result_type ty.Unknown p = p

-- ---- lists

slice_front : {A : Type 0} (xs ys : List A) (k : ℕ) (x : A) → slice_get xs k ≡ Some x → slice_get (xs ++ ys) k ≡ Some x
slice_front [] ys k x is = absurd (none-some x is)
slice_front (z ∷ xs) ys zero x is = is
slice_front (z ∷ xs) ys (suc k) x is = slice_front xs ys k x is

no_more : {A : Type 0} (x : A) (xs : List A) → x ∷ xs ≡ [] → ⊥
no_more x xs is = let n : suc (length xs) ≡ 0 = ap (λ z. length z) is in omega (arith, n)

-- ---- a parameter is one plain cell

not_sync : (b : Bool) → not b ≡ true → b ≡ false
not_sync true is = absurd (false≢true is)
not_sync false is = refl

left_true : (a b : Bool) → (a && b) ≡ true → a ≡ true
left_true true b is = refl
left_true false b is = is

plain_type : (cx : Context) (t : Ty) (sync : Bool) → shared_types.IsCellType t → may_be role.Parameter cx t sync ≡ true → sync ≡ false
plain_type cx ty.Int sync c is = not_sync sync is
plain_type cx (ty.Pointer to remote) sync c is = not_sync sync (left_true (not sync) (reaches cx to remote) is)
plain_type cx ty.Void sync c is = absurd c
plain_type cx ty.Null sync c is = absurd c
plain_type cx ty.Unknown sync c is = absurd c

plain_by : (cx : Context) (x : Shape) (d : Declared) → shared_types.IsCellType d.ty → is_allowed_by x role.Parameter cx d ≡ true → d.sync ≡ false
plain_by cx shape.Cell d c is = plain_type cx d.ty d.sync c is
plain_by cx (shape.Array n) d c is = plain_type cx d.ty d.sync c is
plain_by cx (shape.Object class) d c is = absurd (false≢true is)

checked_plain : (cx : Context) (b : Bool) (d : Declared) (s : State) → is_allowed role.Parameter cx d ≡ b → Clean (checked b cx d s).1
    → shared_types.IsCellType (checked b cx d s).0.ty → (checked b cx d s).0.sync ≡ false
checked_plain cx true d s is q c = plain_by cx d.shape d c is
checked_plain cx false d s is q c = absurd (not_empty s.broken _ q)

param_plain : (cx : Context) (m : Bool) (p : Param) (s : State) → Clean (param_at cx m p s).1 → (param_at cx m p s).0.sync ≡ false
unfolding param_at typed_as
param_plain cx m p s e =
    let w = written cx p.ty s in
    let clean = type_clean cx m p s e in
    checked_plain cx (is_allowed role.Parameter cx w.0) w.0 w.1 refl clean (typed_fits cx role.Parameter p.ty s clean).0

abbrev pub ArePlain : List Declared → Type 0
ArePlain [] = Unit {0}
ArePlain (d ∷ ds) = (d.sync ≡ false) × ArePlain ds

params_plain : (cx : Context) (m : Bool) (done : List Declared) (ps : List Param) (s : State) → (e : Clean (params_from cx m done ps s).1)
    → ArePlain (params_done cx m done ps s e).new
unfolding params_done
params_plain cx m done [] s e = tt
params_plain cx m done (p ∷ ps) s e =
    let q = param cx m p s in
    let rest = params_done cx m (done ++ q.0 ∷ []) ps q.1 e in
    (param_plain (at_line cx p.line) m p s (sym rest.broken ∙ e), params_plain cx m (done ++ q.0 ∷ []) ps q.1 e)

-- ---- what `main` takes and gives is a plain int

plain_is : (t : Ty) (sync : Bool) → is_plain t sync ≡ true → t ≡ ty.Int
plain_is ty.Int sync is = refl
plain_is ty.Null sync is = absurd (false≢true is)
plain_is ty.Void sync is = absurd (false≢true is)
plain_is (ty.Pointer to remote) sync is = absurd (false≢true is)
plain_is ty.Unknown sync is = absurd (false≢true is)

int_value : (x : Shape) (d : Declared) → is_int_by x d ≡ true → value_type_by x d ≡ ty.Int
int_value shape.Cell d is = plain_is d.ty d.sync is
int_value (shape.Array n) d is = absurd (false≢true is)
int_value (shape.Object class) d is = absurd (false≢true is)

none_noted : (cx : Context) (b : Bool) (s : State) → Clean (note_if b cx r.BadMain s).1 → b ≡ false
none_noted cx true s e = absurd (not_empty s.broken _ e)
none_noted cx false s e = refl

int_in_main : (m b : Bool) → m ≡ true → (m && not b) ≡ false → b ≡ true
int_in_main true true is none = refl
int_in_main true false is none = absurd (true≢false none)
int_in_main false b is none = absurd (false≢true is)

twice_clean : (b : Bool) (x : Broken) (s : State) → Clean (cond b (note x s) (tt, s)).1 → Clean s
twice_clean true x s e = absurd (not_empty s.broken x e)
twice_clean false x s e = e

declare_clean : (cx : Context) (name : Name) (d : Declared) (s : State) → Clean (declare cx name d s).1 → Clean s
unfolding declare twice
declare_clean cx name d s e = twice_clean (is_here cx name s) (Rule r.LocalTwice cx.line) s e

param_int : (cx : Context) (m : Bool) (p : Param) (s : State) → m ≡ true → Clean (param_at cx m p s).1 → is_plain_int (param_at cx m p s).0 ≡ true
unfolding param_at
param_int cx m p s main e =
    let d = parameter cx p.ty s in
    let n = note_if (m && not (is_plain_int d.0)) cx r.BadMain d.1 in
    int_in_main m (is_plain_int d.0) main (none_noted cx (m && not (is_plain_int d.0)) d.1 (declare_clean cx p.name d.0 n.1 e))

abbrev AreInts : List Declared → Type 0
AreInts [] = Unit {0}
AreInts (d ∷ ds) = (is_plain_int d ≡ true) × AreInts ds

params_int : (cx : Context) (m : Bool) (done : List Declared) (ps : List Param) (s : State) → m ≡ true → (e : Clean (params_from cx m done ps s).1)
    → AreInts (params_done cx m done ps s e).new
unfolding params_done
params_int cx m done [] s main e = tt
params_int cx m done (p ∷ ps) s main e =
    let q = param cx m p s in
    let rest = params_done cx m (done ++ q.0 ∷ []) ps q.1 e in
    (param_int (at_line cx p.line) m p s main (sym rest.broken ∙ e), params_int cx m (done ++ q.0 ∷ []) ps q.1 main e)

ints_are : (ds : List Declared) → AreInts ds → map (λ d. value_type (declared_type d)) ds ≡ map (λ (kinds : List Kind). AnInt) (map kinds_of ds)
ints_are [] p = refl
ints_are (d ∷ ds) p = ap (λ us. value_type (declared_type d) ∷ us) (ints_are ds p.1)
    ∙ ap (λ t. value_type t ∷ map (λ (kinds : List Kind). AnInt) (map kinds_of ds)) (int_value d.shape d p.0)

result_int : (cx : Context) (m : Bool) (t : TypeName) (s : State) → m ≡ true → Clean (result_of cx m t s).1 → (result_of cx m t s).0 ≡ ty.Int
unfolding result_of
result_int cx m t s main e =
    let d = returned cx t s in
    int_value (d.0).shape d.0 (int_in_main m (is_plain_int d.0) main (none_noted cx (m && not (is_plain_int d.0)) d.1 e))

-- ---- parameters are the first variables

pub parameter_target : (d : Declared) → declared.DeclaredFits role.Parameter d → target_of d ≡ Cells d.sync (value_type d.ty)
parameter_target d f = by_shape d.shape f.1
  where
    by_shape : (s : Shape) → declared.ShapeFits role.Parameter s → target_by s d ≡ Cells d.sync (value_type d.ty)
    by_shape shape.Cell p = refl
    by_shape (shape.Array n) p = refl
    by_shape (shape.Object class) p = absurd (true≢false (sym p))

module _ (y : Types) where
  one_parameter : (d : Declared) → declared.DeclaredFits role.Parameter d → d.sync ≡ false → IsParameter y (value_type (declared_type d) ∷ []) (target_of d)
  one_parameter d f plain = subst (IsParameter y (value_type (declared_type d) ∷ [])) (sym (parameter_target d f))
      (plain, ap (λ t. value_type t ∷ []) (parameter_value d f))

  are_parameters : (new more : List Declared) → AllParameters new → ArePlain new
      → AreParameters y (map kinds_of new) (map (λ d. value_type (declared_type d)) new) (map target_of (new ++ more))
  are_parameters [] more fits plain = refl
  are_parameters (d ∷ new) more fits plain = (
    target_of d,
    value_type (declared_type d) ∷ [],
    map (λ d. value_type (declared_type d)) new,
    map target_of (new ++ more),
    (
      value_type (declared_type d),
      [],
      subst (λ t. IsKind (cell_kind d.ty d.sync) (value_type t)) (sym (parameter_value d fits.0)) (kind_is d.ty d.sync (cell_type d.ty (fits.0).0)),
      kind_sync d.ty d.sync ∙ plain.0,
      refl,
      refl,
    ),
    one_parameter d fits.0 plain.0,
    are_parameters new more fits.1 plain.1,
    refl,
    refl,
  )

pub params_known : (ds : List Declared) (k : ℕ) (new : List Declared) (ls : List Local) → AllParameters new → AreNumbered 0 k new ls
    → ((i : ℕ) (d : Declared) → slice_get new i ≡ Some d → slice_get ds (k + i) ≡ Some d) → LocalsFit ds ls
params_known ds k [] [] fits are has = tt
params_known ds k [] (l ∷ ls) fits are has = absurd (no_more l ls are)
params_known ds k (d ∷ new) [] fits are has = absurd are
params_known ds k (d ∷ new) (l ∷ ls) fits are has = (
  (
    ap (λ i. slice_get ds i) are.0 ∙ (at_k (has 0 d refl) ∙ ap Some (sym are.1)),
    subst (λ z. IsCellType z.ty) (sym are.1) (cell_type d.ty (fits.0).0),
  ),
  params_known ds (suc k) new ls fits.1 are.3 (λ i x is. at_next i x (has (suc i) x is)),
)
  where
    at_k : slice_get ds (k + 0) ≡ Some d → slice_get ds k ≡ Some d
    at_k is = let same : k + 0 ≡ k = omega arith in subst (λ n. slice_get ds n ≡ Some d) same is

    at_next : (i : ℕ) (x : Declared) → slice_get ds (k + suc i) ≡ Some x → slice_get ds (suc k + i) ≡ Some x
    at_next i x is = let same : k + suc i ≡ suc k + i = omega arith in subst (λ n. slice_get ds n ≡ Some x) same is

-- ---- a function

-- a function that does this does not wait, where those that it calls do not
abbrev pub IsCalmConduct : (ℕ → Bool) → (waits : Bool) → Conduct → Type 0
IsCalmConduct calm waits c = (waits ≡ true) ⊎ ((c.blocks ≡ []) × AllCalls calm c.calls)

-- what is left of a function, and what it does
pub record ReadFunction : Type 0 where
  pub function : CoreFunction
  pub conduct : Conduct

abbrev pub read_function : Context → (is_main : Bool) → Name → Function → State → ReadFunction
read_function cx m name f s = record { function = (function cx m name f s).0.function; conduct = (function cx m name f s).0.conduct }

-- what is known of a function that is read without a broken rule; m: it is `main`
pub record FunctionFits (program : core.Program) (y : Types) (calm : ℕ → Bool) (m : Bool) (here : FunctionTypes) (x : ReadFunction) : Type 0 where
  pub body : (waits : Bool) → IsCalmConduct calm waits x.conduct → (w : World) (q : core_names.Name)
      → AreTyped program y w q (scope_of (record here { waits = waits })) (stmts_of x.function.body)
  pub ends : IsConstant (constant_of x.function.default) here.result
  pub parameters : AreParameters y x.function.shape.params here.params here.vars
  pub atomic : x.function.shape.atomic ≡ x.conduct.atomic
  pub main_alone : m ≡ true → here.this ≡ None
  pub main_result : m ≡ true → here.result ≡ AnInt
  pub main_params : m ≡ true → here.params ≡ map (λ (kinds : List Kind). AnInt) x.function.shape.params

-- its types, from its result, its parameters and its variables
abbrev pub types_in : Option ℕ → Ty → (params variables : List Declared) → FunctionTypes
types_in this t params variables = record {
  this = this;
  result = value_type t;
  params = map (λ d. value_type (declared_type d)) params;
  vars = map target_of variables;
  waits = false;
}

-- what is known where an item stands
pub record At (y : Types) (cx : Context) (this : Option ℕ) : Type 0 where
  pub matches : Matches y cx.tables
  pub this_is : (class : ClassId) → cx.class ≡ Some class → this ≡ Some class.0
  pub constants : (k : ℕ) → nat_lt k cx.known ≡ true → IsThere {A = ℤ} Anything (constant_value cx k)
  pub functions : (text : Name) (f : FunId) → entity_named cx.names text ≡ Some (entity.Function f) → (function_types y f.0).this ≡ None

default_is : (t : Ty) → IsConstant (constant_of (default_of t)) (value_type t)
default_is ty.Int = refl
default_is ty.Null = refl
default_is ty.Void = refl
default_is (ty.Pointer to remote) = (remote, _, refl)
default_is ty.Unknown = refl

nothing_before : (a : Bool) (cx : Context) (s : State) → ((share_atomic a cx (begin s).1).1.made ≡ []) × ((share_atomic a cx (begin s).1).1.locals ≡ [])
nothing_before true cx s = (refl, refl)
nothing_before false cx s = (refl, refl)

module _ (program : core.Program) (y : Types) (calm : ℕ → Bool) (cx : Context) (m : Bool) (f : Function) (this : Option ℕ) (at : At y cx this)
    (calls : (f : ℕ) (g : Signature) → slice_get cx.tables.functions f ≡ Some g → calm f ≡ true → CalmCall program y f) (s : State) (e : Clean (after_body cx m f s).1)
    (nothing_made : s.made ≡ []) (nothing_here : s.locals ≡ []) where
  abbrev ends_all : Ends (free (after_body cx m f s).1.made) (after_params cx m f s).1
  ends_all = body_ends cx m f (free (after_body cx m f s).1.made) s (clean_ends (after_body cx m f s).1 e)

  abbrev params_all : ParamsDone 0 (after_result cx m f s).1 (after_params cx m f s).1 [] (after_params cx m f s).0
  params_all = params_done (inner cx m f s) m [] f.params (after_result cx m f s).1 ends_all.0

  pub clean_result : Clean (after_result cx m f s).1
  clean_result = sym params_all.broken ∙ ends_all.0

  same_result : (after_result cx m f s).1 ≡ s
  same_result = result_kept cx m f f.result s clean_result

  abbrev pub types_here : FunctionTypes
  types_here = types_in this (after_result cx m f s).0 (after_params cx m f s).0 (after_body cx m f s).1.made

  made_are : (after_params cx m f s).1.made ≡ params_all.new
  made_are = params_all.made ∙ ap (λ l. l ++ params_all.new) (ap (λ z. z.made) same_result ∙ nothing_made)

  variables_are : (after_body cx m f s).1.made ≡ params_all.new ++ ends_all.2
  variables_are = ends_all.3 ∙ ap (λ l. l ++ ends_all.2) made_are

  from_zero : AreNumbered 0 0 params_all.new params_all.variables
  from_zero = subst (λ k. AreNumbered 0 k params_all.new params_all.variables) (ap (λ z. length z.made) same_result ∙ ap (λ l. length l) nothing_made)
      params_all.numbered

  here_locals : (after_params cx m f s).1.locals ≡ params_all.variables
  here_locals = params_all.locals ∙ ap (λ l. l ++ params_all.variables) (ap (λ z. z.locals) same_result ∙ nothing_here)

  params_are_cells : AllParameters params_all.new
  params_are_cells = params_fit (inner cx m f s) m [] f.params (after_result cx m f s).1 ends_all.0

  locals_fit : LocalsFit (after_body cx m f s).1.made (after_params cx m f s).1.locals
  locals_fit = subst (LocalsFit (after_body cx m f s).1.made) (sym here_locals)
      (params_known (after_body cx m f s).1.made 0 params_all.new params_all.variables params_are_cells from_zero
      (λ i d is. let same : 0 + i ≡ i = omega arith in subst (λ n. slice_get (after_body cx m f s).1.made n ≡ Some d) (sym same)
      (ap (λ l. slice_get l i) variables_are ∙ slice_front params_all.new ends_all.2 i d is)))

  pub body_fits : (waits : Bool) → (waits ≡ true) ⊎ (((after_body cx m f s).1.blocks ≡ []) × AllCalls calm (after_body cx m f s).1.calls)
      → (w : World) (q : core_names.Name) → AreTyped program y w q (scope_of (record types_here { waits = waits })) (stmts_of (after_body cx m f s).0)
  body_fits waits quiet w q =
      let grown : Grown = record { made = (after_body cx m f s).1.made; waits = waits; calm = calm } in
      body_is_typed program y (scope_of (record types_here { waits = waits })) grown (inner cx m f s)
      (record {
        stands = record {
          matches = at.matches;
          this = at.this_is;
          constants = at.constants;
          functions = at.functions;
          waits = refl;
          calm = calls;
        };
        vars = λ k d is. slice_mapped target_of (after_body cx m f s).1.made k d is;
        returns = λ is. refl;
        result = result_type (after_result cx m f s).0 (result_fits cx m f f.result s clean_result);
      })
      f.body (after_params cx m f s).1 (e, quiet, [], sym (append-nil (after_body cx m f s).1.made)) locals_fit w q

  pub parameters_fit : AreParameters y (map kinds_of (after_params cx m f s).0) types_here.params types_here.vars
  parameters_fit = subst (λ ds. AreParameters y (map kinds_of ds) (map (λ d. value_type (declared_type d)) ds) types_here.vars) (sym params_all.given)
      (subst (λ ds. AreParameters y (map kinds_of params_all.new) (map (λ d. value_type (declared_type d)) params_all.new) (map target_of ds)) (sym variables_are)
      (are_parameters y params_all.new ends_all.2 params_are_cells (params_plain (inner cx m f s) m [] f.params (after_result cx m f s).1 ends_all.0)))

  pub result_is_int : m ≡ true → types_here.result ≡ AnInt
  result_is_int main = ap value_type (result_int cx m f.result s main clean_result)

  pub params_are_ints : m ≡ true → types_here.params ≡ map (λ (kinds : List Kind). AnInt) (map kinds_of (after_params cx m f s).0)
  params_are_ints main = subst (λ ds. map (λ d. value_type (declared_type d)) ds ≡ map (λ (kinds : List Kind). AnInt) (map kinds_of ds)) (sym params_all.given)
      (ints_are params_all.new (params_int (inner cx m f s) m [] f.params (after_result cx m f s).1 main ends_all.0))

module _ (program : core.Program) (y : Types) (calm : ℕ → Bool) (cx : Context) (m : Bool) (name : Name) (f : Function) (s : State) (this : Option ℕ)
    (clean : Clean (function cx m name f s).1) (at : At y cx this)
    (calls : (f : ℕ) (g : Signature) → slice_get cx.tables.functions f ≡ Some g → calm f ≡ true → CalmCall program y f) (alone : m ≡ true → this ≡ None) where
  abbrev pub here : FunctionTypes
  here = types_in this (after_result (at_line cx f.line) m f (before_parts cx f s)).0 (after_params (at_line cx f.line) m f (before_parts cx f s)).0
      (after_body (at_line cx f.line) m f (before_parts cx f s)).1.made

  at_here : At y (at_line cx f.line) this
  at_here = record { matches = at.matches; this_is = at.this_is; constants = at.constants; functions = at.functions }

  pub one_function : FunctionFits program y calm m here (read_function cx m name f s)
  unfolding function_at parts
  one_function =
      let line = at_line cx f.line in
      let before = before_parts cx f s in
      let empty = nothing_before f.atomic line s in
      record {
        body = body_fits program y calm line m f this at_here calls before clean empty.0 empty.1;
        ends = default_is (after_result line m f before).0;
        parameters = parameters_fit program y calm line m f this at_here calls before clean empty.0 empty.1;
        atomic = refl;
        main_alone = alone;
        main_result = result_is_int program y calm line m f this at_here calls before clean empty.0 empty.1;
        main_params = params_are_ints program y calm line m f this at_here calls before clean empty.0 empty.1;
      }
