-- Elements, members, and calls on objects.
use Rattle.std.specs.Prelude.{ℕ, Bool, true, false, if◌then◌else◌, Option, Some, None}
use Rattle.cc_core.specs.declared.expression.Expression.{Expression}
use Rattle.cc_core.specs.declared.expression.Expression.TheVariants as e
use Rattle.cc_names.specs.Table.{Name}
use Rattle.cc_names.specs.declared.declarations.ClassId.{ClassId}
use Rattle.cc_names.specs.declared.rule.StaticRule.TheVariants as r
use Rattle.cc_typing.specs.declared.calls.Args.{Args}
use Rattle.cc_typing.specs.declared.calls.Callee.{Callee}
use Rattle.cc_typing.specs.declared.calls.Callee.TheVariants as callee
use Rattle.cc_scopes.specs.declared.meaning.Meaning.{Meaning}
use Rattle.cc_scopes.specs.declared.meaning.Meaning.TheVariants as m
use Rattle.cc_scopes.specs.declared.typed.Root.TheVariants as root
use Rattle.cc_scopes.specs.declared.typed.Object.{Object}
use Rattle.cc_scopes.specs.declared.typed.Operand.{Operand}
use Rattle.cc_scopes.specs.declared.typed.Place.{Place}
use Rattle.cc_scopes.specs.declared.typed.Typed.{Typed}
use Rattle.cc_scopes.specs.declared.typed.Typed.TheVariants as typed
use Rattle.cc_scopes.specs.declared.types.Declared.{Declared}
use Rattle.cc_scopes.specs.declared.types.Target.{Target}
use Rattle.cc_scopes.specs.declared.types.Target.TheVariants as target
use Rattle.cc_scopes.specs.declared.types.Ty.{Ty}
use Rattle.cc_scopes.specs.declared.types.Ty.TheVariants as ty
use Rattle.cc_scopes.specs.Types.{is_int}
use Rattle.cc_scopes.specs.Elab.{Elab, ◌>>=◌, ◌>>◌, pure}
use Rattle.cc_scopes.specs.Scope.{Context}
use Rattle.cc_scopes.specs.Typed.{broken, note_rule, placed, decay}
use Rattle.cc_scopes.specs.Meaning.{member_of, meant_in}
use Rattle.cc_typing.specs.Calls.{called}

-- ---- an element of an array that is given by its name

abbrev pub element : Place → ℕ → Expression → Typed
element p n index = typed.Place (record p { address = e.Index p.address n index; is_element = true })

abbrev pub indexed_array : Context → Place → ℕ → Option Operand → Elab Typed
indexed_array cx p n None = pure typed.Spoiled
indexed_array cx p n (Some i) = if is_int i.ty then pure (element p n i.term) else broken cx r.BadType

-- ---- an element behind a pointer to an int

abbrev pub element_behind : (base index : Expression) → (sync remote : Bool) → Typed
element_behind base index sync remote =
    typed.Place (record { address = e.At base index; ty = ty.Int; sync = sync; remote = remote; root = root.Pointer; is_element = true })

abbrev pub indexed_target : Target → Context → (remote : Bool) → (base index : Expression) → Elab Typed
indexed_target target.Int cx remote base index = pure (element_behind base index false remote)
indexed_target target.SyncInt cx remote base index = pure (element_behind base index true remote)
indexed_target (target.Class class) cx remote base index = broken cx r.BadType

abbrev pub indexed_pointer : Ty → Context → (base index : Expression) → Elab Typed
indexed_pointer (ty.Pointer to remote) cx base index = indexed_target to cx remote base index
indexed_pointer _ cx base index = broken cx r.BadType

abbrev pub indexed_value : Context → Option Operand → Option Operand → Elab Typed
indexed_value cx (Some a) (Some i) = if is_int i.ty then indexed_pointer a.ty cx a.term i.term else broken cx r.BadType
indexed_value cx _ _ = pure typed.Spoiled

-- ---- the object before a dot or an arrow, and none where a rule is broken

abbrev pub no_object : Context → Elab (Option Object)
no_object cx = note_rule cx r.BadType >> pure None

abbrev pub object_behind : ClassId → Expression → (remote : Bool) → Object
object_behind class address remote = record { class = class; address = address; remote = remote; is_variable = false }

-- a dot follows an object
abbrev pub before_dot : Context → Typed → Elab (Option Object)
before_dot cx typed.Broken = pure None
before_dot cx typed.Spoiled = pure None
before_dot cx (typed.Value v) = no_object cx
before_dot cx (typed.This class remote) = no_object cx
before_dot cx (typed.Constant term value) = no_object cx
before_dot cx (typed.Place p) = no_object cx
before_dot cx (typed.Array p n) = no_object cx
before_dot cx (typed.Object o) = pure (Some o)

abbrev pub target_object : Target → Context → Expression → (remote : Bool) → Elab (Option Object)
target_object (target.Class class) cx term remote = pure (Some (object_behind class term remote))
target_object _ cx term remote = no_object cx

abbrev pub pointed_by : Ty → Context → Expression → Elab (Option Object)
pointed_by (ty.Pointer to remote) cx term = target_object to cx term remote
pointed_by _ cx term = no_object cx

abbrev pub pointed_object : Context → Option Operand → Elab (Option Object)
pointed_object cx None = pure None
pointed_object cx (Some v) = pointed_by v.ty cx v.term

unfoldable pub value_before_arrow : Context → Typed → Elab (Option Object)
value_before_arrow cx t = decay cx t >>= pointed_object cx

-- an arrow follows a pointer to an object; what `this` leads to is here, whatever its class
abbrev pub before_arrow : Context → Typed → Elab (Option Object)
before_arrow cx (typed.This class remote) = pure (Some (object_behind class e.This false))
before_arrow cx t = value_before_arrow cx t

abbrev pub object_of : Context → (arrow : Bool) → Typed → Elab (Option Object)
object_of cx true t = before_arrow cx t
object_of cx false t = before_dot cx t

-- ---- a member

abbrev pub field_at : Object → Declared → ℕ → Typed
field_at o declared offset = placed (e.Member o.address offset) declared o.remote root.Member

abbrev pub field_as : Meaning → Context → Object → Elab Typed
field_as (m.Field declared offset) cx o = pure (field_at o declared offset)
field_as m.Nothing cx o = broken cx r.UnknownMember
field_as _ cx o = broken cx r.NotFunction

abbrev pub field_of : Context → Name → Option Object → Elab Typed
field_of cx name None = pure typed.Spoiled
field_of cx name (Some o) = field_as (meant_in (member_of cx o.class name)) cx o

-- ---- a call on an object

abbrev pub callee_at : (remote : Bool) → Expression → Callee
callee_at true address = callee.Remote address
callee_at false address = callee.On address

abbrev pub call_as : Meaning → Context → Object → Args → Elab Typed
call_as (m.Method f) cx o args = called cx f (callee_at o.remote o.address) args
call_as m.Nothing cx o args = broken cx r.UnknownMember
call_as _ cx o args = broken cx r.NotFunction

abbrev pub call_member : Context → Name → Option Object → Option Args → Elab Typed
call_member cx name (Some o) (Some args) = call_as (meant_in (member_of cx o.class name)) cx o args
call_member cx name _ _ = pure typed.Spoiled
