-- Functions: their bodies fit, and their shapes have their parameters.
use Rattle.std.proofs.Common.{◌≡◌, ℕ, suc, ◌+◌, ◌≤◌, Bool, true, false, not, List, [], ◌∷◌, ◌++◌, length, map, refl, sym, subst, ◌∙◌, arith, length-append, zero-add, add-zero}
use Rattle.std.specs.Prelude.{◌&&◌}
use Rattle.cc_ops.specs.Classes.{arity}
use Rattle.cc_core.specs.Core.{Shapes}
use Rattle.cc_core.specs.View.{stmts_of}
use Rattle.cc_names.specs.Table.{Name}
use Rattle.cc_names.specs.declared.rule.StaticRule.TheVariants as r
use Rattle.cc_tree.specs.declared.declarations.Function.{Function}
use Rattle.cc_tree.specs.declared.declarations.Param.{Param}
use Rattle.cc_tree.specs.declared.statements.TypeName.{TypeName}
use Rattle.cc_scopes.specs.declared.state.State.{State}
use Rattle.cc_scopes.specs.declared.types.Declared.{Declared}
use Rattle.cc_scopes.specs.Scope.{Context}
use Rattle.cc_declared.specs.Slots.{value_type}
use Rattle.cc_elaboration.specs.Statements.{at_line}
use Rattle.cc_core.specs.declared.program.Function.{Function as CoreFunction}
use Rattle.cc_functions.specs.Functions.{begin, is_plain_int, param_at, param, params_from, result_of, in_function, parts, kinds_of, share_atomic, function_at, function}
use Rattle.cc_source.proofs.Runs.{Anything, always, bind, next, done}
use Rattle.cc_source.proofs.Fits.{Clean, StatementsFit, BodyFits}
use Rattle.cc_source.proofs.Sound.{Agree, LocalsFit, itself, Reads, no_shapes}
use Rattle.cc_source.proofs.StateLaws.{declare_runs}
use Rattle.cc_source.proofs.DeclaredLaws.{DeclaredFits, parameter_runs, returned_runs}
use Rattle.cc_source.proofs.SimpleLaws.{note_if_runs}
use Rattle.cc_source.proofs.StatementLaws.{function_body_runs}
use Rattle.cc_source.proofs.Makes.{Makes, makes_none, makes_then, makes_pure, makes_one}

-- ---- the number of parameters

length_one_more : {A : Type 0} (xs : List A) (x : A) (k : ℕ) → length (xs ++ x ∷ []) + k ≡ length xs + suc k
length_one_more xs x k = let l : length (xs ++ x ∷ []) ≡ length xs + 1 = length-append xs (x ∷ []) in omega (arith, l)

params_counted : (cx : Context) (m : Bool) (ds : List Declared) (ps : List Param) (s : State) → length (params_from cx m ds ps s).0 ≡ length ds + length ps
params_counted cx m ds [] s = sym (add-zero (length ds))
params_counted cx m ds (p ∷ ps) s =
    params_counted cx m (ds ++ (param cx m p s).0 ∷ []) ps (param cx m p s).1 ∙ length_one_more ds (param cx m p s).0 (length ps)

pub arity_is : (ds : List Declared) → arity (map kinds_of ds) ≡ length ds
arity_is [] = refl
arity_is (d ∷ ds) = let rest : arity (map kinds_of ds) ≡ length ds = arity_is ds in omega (arith, rest)

-- ---- parameters and the result

module _ (h : Shapes) (last : State) (cx : Context) where
  param_at_runs : (m : Bool) (p : Param) {P : Type 0} → Reads h last cx P (param_at cx m p) DeclaredFits
  unfolding param_at
  param_at_runs m p = bind (parameter_runs h last cx p.ty) (λ d. next (note_if_runs h last cx (m && not (is_plain_int d)) r.BadMain) (
      next (declare_runs h last cx p.name d (λ x. x.1)) (done d (λ x. x.1))))

  pub result_of_runs : (m : Bool) (t : TypeName) {P : Type 0} → Reads h last cx P (result_of cx m t) Anything
  unfolding result_of
  result_of_runs m t = bind (returned_runs h last cx t) (λ d. next (note_if_runs h last cx (m && not (is_plain_int d)) r.BadMain) (done (value_type d) (λ x. tt)))

pub param_runs : (h : Shapes) (last : State) (cx : Context) (m : Bool) (p : Param) {P : Type 0} → Reads h last cx P (param cx m p) DeclaredFits
param_runs h last cx m p = param_at_runs h last (at_line cx p.line) m p

params_from_runs : (h : Shapes) (last : State) (cx : Context) (m : Bool) (ds : List Declared) (ps : List Param) {P : Type 0}
    → Reads h last cx P (params_from cx m ds ps) Anything
params_from_runs h last cx m ds [] = done ds (λ x. tt)
params_from_runs h last cx m ds (p ∷ ps) = bind (param_runs h last cx m p) (λ d. params_from_runs h last cx m (ds ++ d ∷ []) ps)

makes_param_at : (cx : Context) (m : Bool) (p : Param) → Makes 1 (param_at cx m p)
unfolding param_at
makes_param_at cx m p = makes_then 0 1 1 refl (makes_none cx {P = Unit {0}} (λ last. parameter_runs no_shapes last cx p.ty)) (λ d.
    makes_then 0 1 1 refl (makes_none cx {P = Unit {0}} (λ last. note_if_runs no_shapes last cx (m && not (is_plain_int d)) r.BadMain)) (λ u.
    makes_then 1 0 1 refl (makes_one cx p.name d) (λ k. makes_pure d)))

makes_params : (cx : Context) (m : Bool) (ds : List Declared) (ps : List Param) → Makes (length ps) (params_from cx m ds ps)
makes_params cx m ds [] = makes_pure ds
makes_params cx m ds (p ∷ ps) = makes_then 1 (length ps) (suc (length ps)) (omega arith) (makes_param_at (at_line cx p.line) m p) (λ d.
    makes_params cx m (ds ++ d ∷ []) ps)

-- ---- parts

module _ (cx : Context) where
  pub parts_runs : (h : Shapes) (last : State) (m : Bool) (f : Function)
      → Reads h last cx (Unit {0}) (parts cx m f) (λ p. StatementsFit h last false p.body)
  unfolding parts
  parts_runs h last m f = bind (result_of_runs h last cx m f.result) (λ t. bind (params_from_runs h last (in_function cx t m) m [] f.params) (λ ds.
      bind (always (function_body_runs h last (in_function cx t m) f.body)) (λ body. done (record { result = t; params = ds; body = body }) (λ x. x.1))))

  makes_parts : (m : Bool) (f : Function) → Makes (length f.params) (parts cx m f)
  unfolding parts
  makes_parts m f = makes_then 0 (length f.params) (length f.params) (omega arith) (makes_none cx {P = Unit {0}} (λ last.
      result_of_runs no_shapes last cx m f.result)) (λ t.
      makes_then (length f.params) 0 (length f.params) (omega arith) (makes_params (in_function cx t m) m [] f.params) (λ ds.
      makes_then 0 0 0 refl (makes_none cx (λ last. function_body_runs no_shapes last (in_function cx t m) f.body)) (λ body.
      makes_pure (record { result = t; params = ds; body = body }))))

parts_counted : (cx : Context) (m : Bool) (f : Function) (s : State) → length (parts cx m f s).0.params ≡ length f.params
unfolding parts
parts_counted cx m f s =
    let r = result_of cx m f.result s in
    params_counted (in_function cx r.0 m) m [] f.params r.1 ∙ zero-add (length f.params)

-- ---- functions

pub nothing_made : (a : Bool) (cx : Context) (s : State) → (share_atomic a cx (begin s).1).1.locals ≡ []
nothing_made true cx s = refl
nothing_made false cx s = refl

-- a function's body fits, and its shape has its parameters, of one cell each
pub record FunctionFits (h : Shapes) (f : Function) (x : CoreFunction) : Type 0 where
  pub body : BodyFits h x.shape.vars (stmts_of x.body)
  pub variables : length f.params ≤ x.shape.vars

-- the shape of a function that is declared so
pub record HasShapeOf (f : Function) (x : CoreFunction) : Type 0 where
  pub declared : List Declared
  pub params : x.shape.params ≡ map kinds_of declared
  pub counted : length declared ≡ length f.params

module _ (cx : Context) (m : Bool) (name : Name) (f : Function) (s : State) where
  pub function_shape_of : HasShapeOf f (function cx m name f s).0.function
  unfolding function_at
  function_shape_of = record {
    declared = (parts (at_line cx f.line) m f (share_atomic f.atomic (at_line cx f.line) (begin s).1).1).0.params;
    params = refl;
    counted = parts_counted (at_line cx f.line) m f (share_atomic f.atomic (at_line cx f.line) (begin s).1).1;
  }

  pub function_fits : (h : Shapes) → Agree h cx.tables → Clean (function cx m name f s).1 → FunctionFits h f (function cx m name f s).0.function
  unfolding function_at
  function_fits h agree clean =
      let here = at_line cx f.line in
      let before = (share_atomic f.atomic here (begin s).1).1 in
      let last = (parts here m f before).1 in
      let q = (parts_runs here h last m f).run before (itself last) in
      let w : LocalsFit last before.locals = subst (λ ls. LocalsFit last ls) (sym (nothing_made f.atomic here s)) tt in
      let fits = (q.1 tt (w, agree)).1 in
      let made : length before.made + length f.params ≤ length last.made = (makes_parts here m f).more before in
      record { body = (fits.0 clean, fits.1); variables = omega (arith, made) }
