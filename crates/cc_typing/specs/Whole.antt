-- Expressions where statements and declarations hold them.
use Rattle.std.specs.Prelude.{ℕ, ℤ, Bool, true, false, ◌==◌, if◌then◌else◌, List, Option, Some, None}
use Rattle.cc_core.specs.declared.expression.Expression.{Expression}
use Rattle.cc_names.specs.declared.rule.StaticRule.{StaticRule}
use Rattle.cc_names.specs.declared.rule.StaticRule.TheVariants as r
use Rattle.cc_tree.specs.declared.expressions.Expr.{Expr}
use Rattle.cc_typing.specs.declared.calls.Args.{Args}
use Rattle.cc_scopes.specs.declared.sharing.ShareRule.{ShareRule}
use Rattle.cc_scopes.specs.declared.sharing.ShareRule.TheVariants as share'
use Rattle.cc_scopes.specs.declared.typed.Root.{Root}
use Rattle.cc_scopes.specs.declared.typed.Root.TheVariants as root
use Rattle.cc_scopes.specs.declared.typed.Operand.{Operand}
use Rattle.cc_scopes.specs.declared.typed.Place.{Place}
use Rattle.cc_scopes.specs.declared.typed.Typed.{Typed}
use Rattle.cc_scopes.specs.declared.typed.Typed.TheVariants as typed
use Rattle.cc_scopes.specs.declared.types.Ty.{Ty}
use Rattle.cc_scopes.specs.Types.{accepts}
use Rattle.cc_scopes.specs.Elab.{Elab, ◌>>=◌, ◌>>◌, pure, share, block_if}
use Rattle.cc_scopes.specs.Scope.{Context}
use Rattle.cc_scopes.specs.Typed.{note_rule, is_far_local}
use Rattle.cc_scopes.specs.Lengths.{length_of, constant_of}
use Rattle.cc_typing.specs.Expr.{expr}
use Rattle.cc_typing.specs.Parts as parts

-- an expression as a value
abbrev pub operand : Context → Expr → Elab (Option Operand)
operand = parts.operand expr

abbrev pub args : Context → List Expr → Elab (Option Args)
args = parts.args expr

-- the length of an array
unfoldable pub array_length : Context → Expr → Elab (Option ℕ)
array_length cx e = expr cx e >>= length_of cx

-- the value of a named constant
unfoldable pub constant : Context → Expr → Elab (Option ℤ)
constant cx e = expr cx e >>= constant_of cx

-- ---- a value that has to fit a type

abbrev pub fitted : Context → Ty → Option Operand → Elab (Option Expression)
fitted cx wanted None = pure None
fitted cx wanted (Some v) = if accepts wanted v.ty then pure (Some v.term) else note_rule cx r.BadType >> pure None

unfoldable pub fitting : Context → Ty → Expr → Elab (Option Expression)
fitting cx wanted e = operand cx e >>= fitted cx wanted

-- ---- the place that an assignment writes

abbrev pub no_place : Context → StaticRule → Elab (Option Place)
no_place cx rule = note_rule cx rule >> pure None

abbrev pub place_unless : (is_far_local : Bool) → Context → Place → Elab (Option Place)
place_unless true cx p = no_place cx r.RemoteLocal
place_unless false cx p = pure (Some p)

-- a variable, an element, a member or a pointer's target; a whole array or object is not assigned
abbrev pub as_place : Context → Typed → Elab (Option Place)
as_place cx typed.Broken = pure None
as_place cx typed.Spoiled = pure None
as_place cx (typed.Value v) = no_place cx r.NotPlace
as_place cx (typed.This class remote) = no_place cx r.NotPlace
as_place cx (typed.Constant term value) = no_place cx r.NotPlace
as_place cx (typed.Place p) = place_unless (is_far_local p) cx p
as_place cx (typed.Array p n) = no_place cx r.BadType
as_place cx (typed.Object o) = no_place cx r.BadType

unfoldable pub place : Context → Expr → Elab (Option Place)
place cx e = expr cx e >>= as_place cx

-- ---- what a write does

-- the rule of sharing that a write of a plain cell breaks: through a pointer, of a member outside a constructor, or of a
-- variable of another parallel part
abbrev pub written_rule : Context → Root → Option ShareRule
written_rule cx (root.Variable part) = if part == cx.part then None else Some share'.OuterPlainWritten
written_rule cx root.Member = if cx.in_constructor then None else Some share'.PlainMember
written_rule cx root.Pointer = Some share'.PlainThroughPointer

abbrev pub share_some : Option ShareRule → Context → Elab (Unit {0})
share_some None cx = pure tt
share_some (Some rule) cx = share rule cx.line

abbrev pub share_write : (sync : Bool) → Context → Root → Elab (Unit {0})
share_write true cx root = pure tt
share_write false cx root = share_some (written_rule cx root) cx

-- a write through a global pointer is a remote operation
unfoldable pub written : Context → Place → Elab (Unit {0})
written cx p = share_write p.sync cx p.root >> block_if p.remote cx.line
