-- Arguments and calls.
use Rattle.std.proofs.Common.{ℕ, Bool, true, false, List, ◌∷◌, Option, Some, None}
use Rattle.std.specs.Prelude.{slice_get}
use Rattle.cc_core.specs.declared.expression.Expression.{Expression}
use Rattle.cc_core.specs.declared.expression.Expression.TheVariants as e
use Rattle.cc_core.specs.declared.expression.How.TheVariants as how
use Rattle.cc_names.specs.declared.declarations.FunId.{FunId}
use Rattle.cc_names.specs.declared.rule.StaticRule.{StaticRule}
use Rattle.cc_typing.specs.declared.calls.Args.{Args}
use Rattle.cc_typing.specs.declared.calls.Callee.{Callee}
use Rattle.cc_typing.specs.declared.calls.Callee.TheVariants as callee
use Rattle.cc_scopes.specs.declared.meaning.Meaning.{Meaning}
use Rattle.cc_scopes.specs.declared.meaning.Meaning.TheVariants as m
use Rattle.cc_scopes.specs.declared.tables.Signature.{Signature}
use Rattle.cc_scopes.specs.declared.typed.Operand.{Operand}
use Rattle.cc_scopes.specs.declared.typed.Typed.{Typed}
use Rattle.cc_scopes.specs.declared.typed.Typed.TheVariants as typed
use Rattle.cc_scopes.specs.declared.types.Ty.{Ty}
use Rattle.cc_scopes.specs.declared.types.Ty.TheVariants as ty
use Rattle.cc_scopes.specs.Scope.{Context}
use Rattle.cc_typing.specs.Calls.{no_args, object_passed, passed, with_arg, call_rule, is_remote, call_term, enter, entered}
use Rattle.cc_typing.specs.Calls.{given as value_given, entered_unless, called_as, called, called_name, call_named}
use Rattle.law_scopes.proofs.Runs.{IfThere, Anything, given, next, done}
use Rattle.law_scopes.proofs.TermLaws.{one_more, call_fits, this_fits}
use Rattle.cc_scopes.specs.declared.state.State.{State}
use Rattle.law_scopes.specs.Variables.{Names, AllName, TypedNames}
use Rattle.law_scopes.proofs.Reading.{Reads, OperandFits}
use Rattle.law_scopes.proofs.ScopeLaws.{block_runs, call_runs}
use Rattle.law_scopes.proofs.ScopeLaws.{broken_runs, decay_runs}

-- ---- arguments

abbrev pub ArgsFit : (ℕ → Type 0) → State → Args → Type 0
ArgsFit V from a = AllName V a.terms

pub no_args_fit : (V : ℕ → Type 0) (from : State) → ArgsFit V from no_args
no_args_fit V from = tt

pub with_arg_fits : (V : ℕ → Type 0) (from : State) (a : Option Args) (v : Option Operand) → IfThere (ArgsFit V from) a → IfThere (OperandFits V from) v
    → IfThere (ArgsFit V from) (with_arg a v)
with_arg_fits V from None v p q = tt
with_arg_fits V from (Some a) None p q = tt
with_arg_fits V from (Some a) (Some v) p q = one_more V a.terms v.term p q

pub passed_runs : (V : ℕ → Type 0) (from : State) (cx : Context) (t : Typed) → Reads from (TypedNames V t) (passed cx t) (IfThere (OperandFits V from))
passed_runs V from cx (typed.Object o) = done (Some (object_passed o)) (λ x. x)
passed_runs V from cx typed.Broken = decay_runs V from cx typed.Broken
passed_runs V from cx typed.Spoiled = decay_runs V from cx typed.Spoiled
passed_runs V from cx (typed.Value v) = decay_runs V from cx (typed.Value v)
passed_runs V from cx (typed.This class remote) = decay_runs V from cx (typed.This class remote)
passed_runs V from cx (typed.Constant term value) = decay_runs V from cx (typed.Constant term value)
passed_runs V from cx (typed.Place p) = decay_runs V from cx (typed.Place p)
passed_runs V from cx (typed.Array p k) = decay_runs V from cx (typed.Array p k)

-- ---- a call

abbrev pub CalleeFits : (ℕ → Type 0) → State → Callee → Type 0
CalleeFits V from callee.Alone = Unit {0}
CalleeFits V from (callee.On object) = Names V object
CalleeFits V from (callee.Remote object) = Names V object

module _ (V : ℕ → Type 0) (from : State) (cx : Context) where
  call_term_fits : (f : FunId) (c : Callee) (es : List Expression) → CalleeFits V from c → AllName V es → Names V (call_term f c es)
  call_term_fits f callee.Alone es p q = call_fits V how.Alone f.0 es q
  call_term_fits f (callee.On x) es p q = call_fits V how.On f.0 (x ∷ es) (p, q)
  call_term_fits f (callee.Remote x) es p q = call_fits V how.Remote f.0 (x ∷ es) (p, q)

  given_fits : (t : Ty) (x : Expression) → Names V x → TypedNames V (value_given t x)
  given_fits ty.Unknown x p = tt
  given_fits ty.Int x p = p
  given_fits ty.Null x p = p
  given_fits ty.Void x p = p
  given_fits (ty.Pointer to remote) x p = p

  enter_runs : (f : FunId) (b : Bool) {P : Type 0} → Reads from P (enter cx f b) Anything
  enter_runs f true = block_runs from cx.line
  enter_runs f false = call_runs from f cx.line

  entered_runs : (f : FunId) (result : Ty) (c : Callee) (es : List Expression)
      → Reads from (CalleeFits V from c × AllName V es) (entered cx f result c es) (TypedNames V)
  unfolding entered
  entered_runs f result c es = next (enter_runs f (is_remote c)) (done (value_given result (call_term f c es)) (λ x.
      given_fits result _ (call_term_fits f c es x.0 x.1)))

  entered_unless_runs : (r : Option StaticRule) (f : FunId) (result : Ty) (c : Callee) (es : List Expression)
      → Reads from (CalleeFits V from c × AllName V es) (entered_unless r cx f result c es) (TypedNames V)
  entered_unless_runs (Some rule) f result c es = broken_runs V from cx rule
  entered_unless_runs None f result c es = entered_runs f result c es

  called_as_runs : (o : Option Signature) (f : FunId) (c : Callee) (a : Args)
      → Reads from (CalleeFits V from c × ArgsFit V from a) (called_as o cx f c a) (TypedNames V)
  called_as_runs None f c a = broken_runs V from cx _
  called_as_runs (Some g) f c a = entered_unless_runs (call_rule g (is_remote c) a.types) f g.result c a.terms

  pub called_runs : (f : FunId) (c : Callee) (a : Args) → Reads from (CalleeFits V from c × ArgsFit V from a) (called cx f c a) (TypedNames V)
  called_runs f c a = called_as_runs (slice_get cx.tables.functions f.0) f c a

  called_name_runs : (x : Meaning) (a : Args) → Reads from (ArgsFit V from a) (called_name cx x a) (TypedNames V)
  called_name_runs (m.Variable found) a = broken_runs V from cx _
  called_name_runs (m.Field declared offset) a = broken_runs V from cx _
  called_name_runs (m.Method f) a = given (λ x. (this_fits V, x)) (called_runs f (callee.On e.This) a)
  called_name_runs (m.Constant b z) a = broken_runs V from cx _
  called_name_runs (m.Function f) a = given (λ x. (tt, x)) (called_runs f callee.Alone a)
  called_name_runs m.Nothing a = broken_runs V from cx _

  pub call_named_runs : (x : Meaning) (a : Option Args) → Reads from (IfThere (ArgsFit V from) a) (call_named cx x a) (TypedNames V)
  call_named_runs x None = done typed.Spoiled (λ p. tt)
  call_named_runs x (Some a) = called_name_runs x a
