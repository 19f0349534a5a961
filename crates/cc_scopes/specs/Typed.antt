-- What an expression is, and its value.
use Rattle.std.specs.Prelude.{ℤ, Bool, true, false, ◌&&◌, ◌||◌, Option, Some, None}
use Rattle.cc_core.specs.declared.expression.Constant.TheVariants as constant
use Rattle.cc_core.specs.declared.expression.Expression.{Expression}
use Rattle.cc_core.specs.declared.expression.Expression.TheVariants as e
use Rattle.cc_names.specs.declared.broken.Broken.TheVariants.{Rule}
use Rattle.cc_names.specs.declared.declarations.ClassId.{ClassId}
use Rattle.cc_names.specs.declared.rule.StaticRule.{StaticRule}
use Rattle.cc_names.specs.declared.rule.StaticRule.TheVariants as r
use Rattle.cc_scopes.specs.declared.sharing.ShareRule.TheVariants.{PlainAddress}
use Rattle.cc_scopes.specs.declared.typed.Root.{Root}
use Rattle.cc_scopes.specs.declared.typed.Root.TheVariants as root
use Rattle.cc_scopes.specs.declared.typed.Place.{Place}
use Rattle.cc_scopes.specs.declared.typed.Object.{Object}
use Rattle.cc_scopes.specs.declared.typed.Operand.{Operand}
use Rattle.cc_scopes.specs.declared.typed.Typed.{Typed}
use Rattle.cc_scopes.specs.declared.typed.Typed.TheVariants as typed
use Rattle.cc_scopes.specs.declared.types.Declared.{Declared}
use Rattle.cc_scopes.specs.declared.types.Shape.{Shape}
use Rattle.cc_scopes.specs.declared.types.Shape.TheVariants as shape
use Rattle.cc_scopes.specs.declared.types.Target.TheVariants as target
use Rattle.cc_scopes.specs.declared.types.Ty.{Ty}
use Rattle.cc_scopes.specs.declared.types.Ty.TheVariants as ty
use Rattle.cc_scopes.specs.Types.{is_local_pointer, int_target}
use Rattle.cc_scopes.specs.Elab.{Elab, ◌>>◌, pure, note, share, block_if}
use Rattle.cc_scopes.specs.Scope.{Context}

abbrev pub note_rule : Context → StaticRule → Elab (Unit {0})
note_rule cx rule = note (Rule rule cx.line)

-- an expression that breaks a rule
abbrev pub broken : Context → StaticRule → Elab Typed
broken cx rule = note_rule cx rule >> pure typed.Broken

abbrev pub no_operand : Context → StaticRule → Elab (Option Operand)
no_operand cx rule = note_rule cx rule >> pure None

-- ---- what stands at an address

abbrev pub is_variable : Root → Bool
is_variable (root.Variable part) = true
is_variable _ = false

abbrev pub placed_by : Shape → Place → Typed
placed_by shape.Cell p = typed.Place p
placed_by (shape.Array n) p = typed.Array p n
placed_by (shape.Object class) p =
    typed.Object (record { class = class; address = p.address; remote = p.remote; is_variable = is_variable p.root })

-- what is at the address of a declared thing; of an unknown type it breaks no further rule
abbrev pub placed_as : Ty → Shape → Place → Typed
placed_as ty.Unknown shape p = typed.Broken
placed_as _ shape p = placed_by shape p

abbrev pub place_of : Expression → Declared → Bool → Root → Place
place_of address d remote root =
    record { address = address; ty = d.ty; sync = d.sync; remote = remote; root = root; is_element = false }

abbrev pub placed : Expression → Declared → Bool → Root → Typed
placed address d remote root = placed_as d.ty d.shape (place_of address d remote root)

-- ---- values

abbrev pub int : Expression → Operand
int term = record { ty = ty.Int; term = term }

abbrev pub pushed : ℤ → Expression
pushed n = e.Push (constant.Int n)

abbrev pub literal : ℤ → Typed
literal n = typed.Constant (pushed n) (Some n)

-- a local pointer read or written through a global one
abbrev pub is_far_local : Place → Bool
is_far_local p = p.remote && is_local_pointer p.ty

abbrev pub loaded : Place → Operand
loaded p = record { ty = p.ty; term = e.Load p.remote p.address }

-- A read of a sync cell may wait, and one through a global pointer is a remote operation.
abbrev pub may_wait : Place → Bool
may_wait p = p.remote || p.sync

unfoldable pub load : Context → Place → Elab (Option Operand)
load cx p = block_if (may_wait p) cx.line >> pure (Some (loaded p))

abbrev pub load_unless : (is_far_local : Bool) → Context → Place → Elab (Option Operand)
load_unless true cx p = no_operand cx r.RemoteLocal
load_unless false cx p = load cx p

-- the value in a place
abbrev pub read : Context → Place → Elab (Option Operand)
read cx p = load_unless (is_far_local p) cx p

-- the address of a plain int makes it shared
abbrev pub share_address : (sync : Bool) → Context → Elab (Unit {0})
share_address true cx = pure tt
share_address false cx = share PlainAddress cx.line

abbrev pub pointer_to : Place → Operand
pointer_to p = record { ty = ty.Pointer (int_target p.sync) p.remote; term = p.address }

unfoldable pub pointed : Context → Place → Elab (Option Operand)
pointed cx p = share_address p.sync cx >> pure (Some (pointer_to p))

abbrev pub object_pointer : Object → Operand
object_pointer o = record { ty = ty.Pointer (target.Class o.class) false; term = o.address }

-- the rule that an array breaks that stands as a pointer to its first element: one of pointers is only indexed, and a member's
-- address is not taken
abbrev pub array_rule_by : Root → Option StaticRule
array_rule_by root.Member = Some r.MemberAddress
array_rule_by _ = None

abbrev pub array_rule : Ty → Root → Option StaticRule
array_rule ty.Int root = array_rule_by root
array_rule _ root = Some r.BadType

abbrev pub first_unless : Option StaticRule → Context → Place → Elab (Option Operand)
first_unless (Some rule) cx p = no_operand cx rule
first_unless None cx p = pointed cx p

-- the pointer to the first element of an array
abbrev pub first : Context → Place → Elab (Option Operand)
first cx p = first_unless (array_rule p.ty p.root) cx p

-- a call of a `void` function is a statement
abbrev pub not_void_by : Ty → Context → Operand → Elab (Option Operand)
not_void_by ty.Void cx v = no_operand cx r.BadType
not_void_by _ cx v = pure (Some v)

abbrev pub not_void : Context → Operand → Elab (Option Operand)
not_void cx v = not_void_by v.ty cx v

abbrev pub own : ClassId → Bool → Operand
own class remote = record { ty = ty.Pointer (target.Class class) remote; term = e.This }

-- an expression as a value, and none where a rule is broken. An object stands only before a dot or under `&`
abbrev pub decay : Context → Typed → Elab (Option Operand)
decay cx typed.Broken = pure None
decay cx typed.Spoiled = pure None
decay cx (typed.Value v) = not_void cx v
decay cx (typed.This class remote) = pure (Some (own class remote))
decay cx (typed.Constant term value) = pure (Some (int term))
decay cx (typed.Place p) = read cx p
decay cx (typed.Array p n) = first cx p
decay cx (typed.Object o) = no_operand cx r.BadType
