-- Arguments and calls.
use Rattle.std.proofs.Common.{◌≡◌, ℕ, suc, ◌+◌, Bool, true, false, cond, List, [], ◌∷◌, ◌++◌, length, Option, Some, None, refl, sym, ◌∙◌, arith, length-append}
use Rattle.std.proofs.lemmas.Bool.{eqb-true}
use Rattle.std.proofs.lemmas.Option.{none-some}
use Rattle.std.specs.Prelude.{slice_get, not, ◌==◌}
use Rattle.cc_core.specs.declared.expression.Expression.{Expression}
use Rattle.cc_core.specs.declared.expression.Expression.TheVariants as e
use Rattle.cc_core.specs.declared.expression.How.TheVariants as how
use Rattle.cc_core.specs.Core.{Shapes}
use Rattle.cc_names.specs.declared.declarations.FunId.{FunId}
use Rattle.cc_names.specs.declared.rule.StaticRule.{StaticRule}
use Rattle.cc_typing.specs.declared.calls.Args.{Args}
use Rattle.cc_typing.specs.declared.calls.Callee.{Callee}
use Rattle.cc_typing.specs.declared.calls.Callee.TheVariants as callee
use Rattle.cc_scopes.specs.declared.meaning.Meaning.{Meaning}
use Rattle.cc_scopes.specs.declared.meaning.Meaning.TheVariants as m
use Rattle.cc_scopes.specs.declared.state.State.{State}
use Rattle.cc_scopes.specs.declared.tables.Signature.{Signature}
use Rattle.cc_scopes.specs.declared.typed.Operand.{Operand}
use Rattle.cc_scopes.specs.declared.typed.Typed.{Typed}
use Rattle.cc_scopes.specs.declared.typed.Typed.TheVariants as typed
use Rattle.cc_scopes.specs.declared.types.Ty.{Ty}
use Rattle.cc_scopes.specs.declared.types.Ty.TheVariants as ty
use Rattle.cc_scopes.specs.Scope.{Context}
use Rattle.cc_typing.specs.Calls.{no_args, object_passed, passed, with_arg, args_rule, callee_rule, rule_or, call_rule, is_remote, call_term, enter, entered}
use Rattle.cc_typing.specs.Calls.{given as value_given, entered_unless, called_as, called, called_name, call_named}
use Rattle.cc_source.proofs.Runs.{IfThere, Anything, given, next, done}
use Rattle.cc_source.proofs.FitLaws.{width_of, before_them, one_more, call_fits, this_fits}
use Rattle.cc_source.proofs.Fits.{ExpressionFits, ExpressionsFit}
use Rattle.cc_source.proofs.Sound.{HasParams, Reads, knowing, OperandFits, TypedFits}
use Rattle.cc_source.proofs.StateLaws.{block_runs, call_runs}
use Rattle.cc_source.proofs.ScopeLaws.{broken_runs, decay_runs}

-- ---- arguments

abbrev pub ArgsFit : Shapes → State → Args → Type 0
ArgsFit h last a = ExpressionsFit h last a.terms × (length a.types ≡ length a.terms)

same_more : {A B : Type 0} (xs : List A) (ys : List B) (x : A) (y : B) → length xs ≡ length ys → length (xs ++ x ∷ []) ≡ length (ys ++ y ∷ [])
same_more xs ys x y is =
    let a : length (xs ++ x ∷ []) ≡ length xs + 1 = length-append xs (x ∷ []) in
    let b : length (ys ++ y ∷ []) ≡ length ys + 1 = length-append ys (y ∷ []) in
    omega (arith, a, b, is)

pub no_args_fit : (h : Shapes) (last : State) → ArgsFit h last no_args
no_args_fit h last = ((tt, tt), refl)

pub with_arg_fits : (h : Shapes) (last : State) (a : Option Args) (v : Option Operand) → IfThere (ArgsFit h last) a → IfThere (OperandFits h last) v
    → IfThere (ArgsFit h last) (with_arg a v)
with_arg_fits h last None v p q = tt
with_arg_fits h last (Some a) None p q = tt
with_arg_fits h last (Some a) (Some v) p q = (one_more h last a.terms v.term p.0 q, same_more a.types a.terms v.ty v.term p.1)

pub passed_runs : (h : Shapes) (last : State) (cx : Context) (t : Typed)
    → Reads h last cx (TypedFits h last t) (passed cx t) (IfThere (OperandFits h last))
passed_runs h last cx (typed.Object o) = done (Some (object_passed o)) (λ x. x)
passed_runs h last cx typed.Broken = decay_runs h last cx typed.Broken
passed_runs h last cx typed.Spoiled = decay_runs h last cx typed.Spoiled
passed_runs h last cx (typed.Value v) = decay_runs h last cx (typed.Value v)
passed_runs h last cx (typed.This class remote) = decay_runs h last cx (typed.This class remote)
passed_runs h last cx (typed.Constant term value) = decay_runs h last cx (typed.Constant term value)
passed_runs h last cx (typed.Place p) = decay_runs h last cx (typed.Place p)
passed_runs h last cx (typed.Array p k) = decay_runs h last cx (typed.Array p k)

-- ---- the rules of a call

counted : (k m : ℕ) (b : Bool) → (k == m) ≡ b → (x : Option StaticRule) (rule : StaticRule) → cond (not b) (Some rule) x ≡ None → k ≡ m
counted k m true is x rule none = eqb-true k m is
counted k m false is x rule none = absurd (none-some rule (sym none))

pub args_counted : (params types : List Ty) → args_rule params types ≡ None → length types ≡ length params
unfolding args_rule
args_counted params types none = counted (length types) (length params) (length types == length params) refl _ _ none

first_none : (a b : Option StaticRule) → rule_or a b ≡ None → a ≡ None
first_none None b is = refl
first_none (Some rule) b is = is

pub call_counted : (g : Signature) (remote : Bool) (types : List Ty) → call_rule g remote types ≡ None → length types ≡ length g.params
call_counted g remote types none = args_counted g.params types (first_none (args_rule g.params types) (callee_rule g remote) none)

-- ---- a call

abbrev pub CalleeFits : Shapes → State → Callee → Type 0
CalleeFits h last callee.Alone = Unit {0}
CalleeFits h last (callee.On object) = ExpressionFits h last object
CalleeFits h last (callee.Remote object) = ExpressionFits h last object

module _ (h : Shapes) (last : State) (cx : Context) where
  counted_alone : (w k a : ℕ) → w ≡ k → a ≡ k → w ≡ 0 + a
  counted_alone w k a p q = omega (arith, p, q)

  counted_on : (w k a : ℕ) → w ≡ k → a ≡ k → suc w ≡ 1 + a
  counted_on w k a p q = omega (arith, p, q)

  call_term_fits : (f : FunId) (c : Callee) (g : Signature) (es : List Expression) → HasParams h f.0 g → CalleeFits h last c
      → ExpressionsFit h last es
      → length es ≡ length g.params → ExpressionFits h last (call_term f c es)
  call_term_fits f callee.Alone g es has p q is =
      call_fits h last how.Alone f.0 es q (has.0, counted_alone _ _ _ (width_of es ∙ is) has.1)
  call_term_fits f (callee.On x) g es has p q is =
      call_fits h last how.On f.0 (x ∷ es) (before_them h last x es p q) (has.0, counted_on _ _ _ (width_of es ∙ is) has.1)
  call_term_fits f (callee.Remote x) g es has p q is =
      call_fits h last how.Remote f.0 (x ∷ es) (before_them h last x es p q) (has.0, counted_on _ _ _ (width_of es ∙ is) has.1)

  given_fits : (t : Ty) (x : Expression) → ExpressionFits h last x → TypedFits h last (value_given t x)
  given_fits ty.Unknown x p = tt
  given_fits ty.Int x p = p
  given_fits ty.Null x p = p
  given_fits ty.Void x p = p
  given_fits (ty.Pointer to remote) x p = p

  enter_runs : (f : FunId) (b : Bool) {P : Type 0} → Reads h last cx P (enter cx f b) Anything
  enter_runs f true = block_runs h last cx cx.line
  enter_runs f false = call_runs h last cx f cx.line

  abbrev Given : Callee → List Ty → List Expression → Type 0
  Given c types es = CalleeFits h last c × ArgsFit h last (record { types = types; terms = es })

  entered_runs : (f : FunId) (g : Signature) (c : Callee) (types : List Ty) (es : List Expression) → length types ≡ length g.params
      → Reads h last cx (Given c types es × HasParams h f.0 g) (entered cx f g.result c es) (TypedFits h last)
  unfolding entered
  entered_runs f g c types es is = next (enter_runs f (is_remote c)) (done (value_given g.result (call_term f c es)) (λ x.
      given_fits g.result _ (call_term_fits f c g es x.1 x.0.0 x.0.1.0 (sym x.0.1.1 ∙ is))))

  entered_unless_runs : (r : Option StaticRule) (f : FunId) (g : Signature) (c : Callee) (types : List Ty) (es : List Expression)
      → call_rule g (is_remote c) types ≡ r
      → Reads h last cx (Given c types es × HasParams h f.0 g) (entered_unless r cx f g.result c es) (TypedFits h last)
  entered_unless_runs (Some rule) f g c types es is = broken_runs h last cx rule
  entered_unless_runs None f g c types es is = entered_runs f g c types es (call_counted g (is_remote c) types is)

  called_as_runs : (o : Option Signature) (f : FunId) (c : Callee) (a : Args) → slice_get cx.tables.functions f.0 ≡ o
      → Reads h last cx (CalleeFits h last c × ArgsFit h last a) (called_as o cx f c a) (TypedFits h last)
  called_as_runs None f c a is = broken_runs h last cx _
  called_as_runs (Some g) f c a is = knowing h last cx (λ agree x. (x, agree.functions f.0 g is))
      (entered_unless_runs (call_rule g (is_remote c) a.types) f g c a.types a.terms refl)

  pub called_runs : (f : FunId) (c : Callee) (a : Args)
      → Reads h last cx (CalleeFits h last c × ArgsFit h last a) (called cx f c a) (TypedFits h last)
  called_runs f c a = called_as_runs (slice_get cx.tables.functions f.0) f c a refl

  called_name_runs : (x : Meaning) (a : Args) → Reads h last cx (ArgsFit h last a) (called_name cx x a) (TypedFits h last)
  called_name_runs (m.Variable found) a = broken_runs h last cx _
  called_name_runs (m.Field declared offset) a = broken_runs h last cx _
  called_name_runs (m.Method f) a = given (λ x. (this_fits h last, x)) (called_runs f (callee.On e.This) a)
  called_name_runs (m.Constant b z) a = broken_runs h last cx _
  called_name_runs (m.Function f) a = given (λ x. (tt, x)) (called_runs f callee.Alone a)
  called_name_runs m.Nothing a = broken_runs h last cx _

  pub call_named_runs : (x : Meaning) (a : Option Args) → Reads h last cx (IfThere (ArgsFit h last) a) (call_named cx x a) (TypedFits h last)
  call_named_runs x None = done typed.Spoiled (λ p. tt)
  call_named_runs x (Some a) = called_name_runs x a
