-- Calls.
use Rattle.std.specs.Prelude.{Bool, true, false, not, ◌&&◌, ◌||◌, ◌==◌, if◌then◌else◌, List, [], ◌∷◌, ◌++◌, length, Option, Some, None, slice_get, Result, IfOk, ◌≡◌}
use Rattle.std.specs.declared.alloc.AllocError.{AllocError}
use Rattle.cc_core.specs.declared.expression.Expression.{Expression}
use Rattle.cc_core.specs.declared.expression.Expression.TheVariants as e
use Rattle.cc_core.specs.declared.expression.How.TheVariants as how
use Rattle.cc_names.specs.declared.declarations.FunId.{FunId}
use Rattle.cc_names.specs.declared.rule.StaticRule.{StaticRule}
use Rattle.cc_names.specs.declared.rule.StaticRule.TheVariants as r
use Rattle.cc_typing.specs.declared.calls.Args.{Args}
use Rattle.cc_typing.specs.declared.calls.Callee.{Callee}
use Rattle.cc_typing.specs.declared.calls.Callee.TheVariants as callee
use Rattle.cc_scopes.specs.declared.meaning.Meaning.{Meaning}
use Rattle.cc_scopes.specs.declared.meaning.Meaning.TheVariants as m
use Rattle.cc_scopes.specs.declared.tables.Signature.{Signature}
use Rattle.cc_scopes.specs.declared.typed.Object.{Object}
use Rattle.cc_scopes.specs.declared.typed.Operand.{Operand}
use Rattle.cc_scopes.specs.declared.typed.Typed.{Typed}
use Rattle.cc_scopes.specs.declared.typed.Typed.TheVariants as typed
use Rattle.cc_scopes.specs.declared.types.Ty.{Ty}
use Rattle.cc_scopes.specs.declared.types.Ty.TheVariants as ty
use Rattle.cc_scopes.specs.Types.{accepts, is_local_pointer}
use Rattle.cc_scopes.specs.Elab.{Elab, ◌>>◌, pure, block, call}
use Rattle.cc_scopes.specs.Scope.{Context}
use Rattle.cc_scopes.specs.Typed.{broken, decay}

-- ---- arguments, and none where a rule is broken in one

abbrev pub object_passed : Object → Operand
object_passed o = record { ty = ty.Unknown; term = o.address }

-- An object is looked at with the call: it fits a parameter alone of which nothing is known, since its declaration breaks a rule.
abbrev pub passed : Context → Typed → Elab (Option Operand)
passed cx (typed.Object o) = pure (Some (object_passed o))
passed cx t = decay cx t

abbrev pub no_args : Args
no_args = record { types = []; terms = [] }

abbrev pub pushed : Args → Operand → Args
pushed args v = record { types = args.types ++ v.ty ∷ []; terms = args.terms ++ v.term ∷ [] }

abbrev pub with_arg : Option Args → Option Operand → Option Args
with_arg (Some args) (Some v) = Some (pushed args v)
with_arg _ _ = None

abbrev pub IsPushed : Args → Operand → Result Args AllocError → Type 0
IsPushed args v r = IfOk r (λ more. more ≡ pushed args v)

abbrev pub IsWithArg : Option Args → Option Operand → Result (Option Args) AllocError → Type 0
IsWithArg args v r = IfOk r (λ more. more ≡ with_arg args v)

-- ---- the rule that a call breaks, of several the first in the table; where the number of arguments differs, no other

abbrev pub all_fit : (params types : List Ty) → Bool
all_fit [] types = true
all_fit (p ∷ ps) [] = true
all_fit (p ∷ ps) (t ∷ ts) = accepts p t && all_fit ps ts

abbrev pub any_local : List Ty → Bool
any_local [] = false
any_local (p ∷ ps) = is_local_pointer p || any_local ps

-- arguments of the wrong number or type
unfoldable pub args_rule : (params types : List Ty) → Option StaticRule
args_rule params types =
    if not (length types == length params) then Some r.ArgCount
    else (if not (all_fit params types) then Some r.BadType else None)

-- a local pointer that would go to another processor or come from there; `main`
unfoldable pub callee_rule : Signature → (remote : Bool) → Option StaticRule
callee_rule g remote =
    if remote && (any_local g.params || is_local_pointer g.result) then Some r.RemoteLocal
    else (if g.is_main then Some r.MainCalled else None)

abbrev pub rule_or : Option StaticRule → Option StaticRule → Option StaticRule
rule_or None other = other
rule_or (Some rule) other = Some rule

abbrev pub call_rule : Signature → (remote : Bool) → (types : List Ty) → Option StaticRule
call_rule g remote types = rule_or (args_rule g.params types) (callee_rule g remote)

-- ---- a call that breaks none

abbrev pub is_remote : Callee → Bool
is_remote (callee.Remote object) = true
is_remote _ = false

abbrev pub call_term : FunId → Callee → List Expression → Expression
call_term f callee.Alone terms = e.Call how.Alone f.0 terms
call_term f (callee.On object) terms = e.Call how.On f.0 (object ∷ terms)
call_term f (callee.Remote object) terms = e.Call how.Remote f.0 (object ∷ terms)

abbrev pub IsWithObject : Expression → List Expression → Result (List Expression) AllocError → Type 0
IsWithObject object terms r = IfOk r (λ all. all ≡ object ∷ terms)

abbrev pub IsCallTerm : FunId → Callee → List Expression → Result Expression AllocError → Type 0
IsCallTerm f c terms r = IfOk r (λ term. term ≡ call_term f c terms)

-- a remote call is a remote operation
abbrev pub enter : Context → FunId → (remote : Bool) → Elab (Unit {0})
enter cx f true = block cx.line
enter cx f false = call f cx.line

-- of a result of which nothing is known no further rule is broken
abbrev pub given : Ty → Expression → Typed
given ty.Unknown term = typed.Broken
given t term = typed.Value (record { ty = t; term = term })

unfoldable pub entered : Context → FunId → Ty → Callee → List Expression → Elab Typed
entered cx f result c terms = enter cx f (is_remote c) >> pure (given result (call_term f c terms))

abbrev pub entered_unless : Option StaticRule → Context → FunId → Ty → Callee → List Expression → Elab Typed
entered_unless (Some rule) cx f result c terms = broken cx rule
entered_unless None cx f result c terms = entered cx f result c terms

abbrev pub called_as : Option Signature → Context → FunId → Callee → Args → Elab Typed
called_as None cx f c args = broken cx r.UnknownName
called_as (Some g) cx f c args = entered_unless (call_rule g (is_remote c) args.types) cx f g.result c args.terms

abbrev pub called : Context → FunId → Callee → Args → Elab Typed
called cx f c args = called_as (slice_get cx.tables.functions f.0) cx f c args

-- ---- a call by a name; a function of the own class is called on this object

abbrev pub called_name : Context → Meaning → Args → Elab Typed
called_name cx (m.Variable found) args = broken cx r.NotFunction
called_name cx (m.Field declared offset) args = broken cx r.NotFunction
called_name cx (m.Method f) args = called cx f (callee.On e.This) args
called_name cx (m.Constant is_earlier value) args = broken cx r.NotFunction
called_name cx (m.Function f) args = called cx f callee.Alone args
called_name cx m.Nothing args = broken cx r.UnknownName

abbrev pub call_named : Context → Meaning → Option Args → Elab Typed
call_named cx meaning None = pure typed.Spoiled
call_named cx meaning (Some args) = called_name cx meaning args
