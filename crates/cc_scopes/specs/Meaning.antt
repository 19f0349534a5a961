-- What a name stands for.
use Rattle.std.specs.Prelude.{ℕ, ℤ, pos, Bool, true, false, nat_lt, Option, Some, None, slice_get}
use Rattle.cc_core.specs.declared.expression.Expression.TheVariants as e
use Rattle.cc_names.specs.Names.{entity_named, member_named}
use Rattle.cc_names.specs.Table.{Name}
use Rattle.cc_names.specs.declared.declarations.ClassId.{ClassId}
use Rattle.cc_names.specs.declared.declarations.MemberId.{MemberId}
use Rattle.cc_names.specs.declared.declarations.Entity.{Entity}
use Rattle.cc_names.specs.declared.declarations.Entity.TheVariants as entity
use Rattle.cc_names.specs.declared.rule.StaticRule.TheVariants as r
use Rattle.cc_scopes.specs.declared.meaning.Meaning.{Meaning}
use Rattle.cc_scopes.specs.declared.meaning.Meaning.TheVariants as m
use Rattle.cc_scopes.specs.declared.scope.Found.{Found}
use Rattle.cc_scopes.specs.declared.state.State.{State}
use Rattle.cc_scopes.specs.declared.tables.Class.{Class}
use Rattle.cc_scopes.specs.declared.tables.Member.{Member}
use Rattle.cc_scopes.specs.declared.tables.Member.TheVariants as member
use Rattle.cc_scopes.specs.declared.typed.Root.TheVariants as root
use Rattle.cc_scopes.specs.declared.typed.Typed.{Typed}
use Rattle.cc_scopes.specs.declared.typed.Typed.TheVariants as typed
use Rattle.cc_scopes.specs.declared.types.Declared.{Declared}
use Rattle.cc_scopes.specs.Elab.{Elab, pure}
use Rattle.cc_scopes.specs.Scope.{Context, variable}
use Rattle.cc_scopes.specs.Typed.{broken, placed, int, pushed, literal}

-- ---- the tables

abbrev pub class_at : Context → ClassId → Option Class
class_at cx class = slice_get cx.tables.classes class.0

abbrev pub member_in : Option Class → MemberId → Option Member
member_in None id = None
member_in (Some class) id = slice_get class.members id.0

abbrev pub member_at : Context → ClassId → Option MemberId → Option Member
member_at cx class None = None
member_at cx class (Some id) = member_in (class_at cx class) id

-- the member of a class of a name
abbrev pub member_of : Context → ClassId → Name → Option Member
member_of cx class name = member_at cx class (member_named cx.names class name)

abbrev pub value_in : Option (Option ℤ) → Option ℤ
value_in None = None
value_in (Some value) = value

abbrev pub constant_value : Context → ℕ → Option ℤ
constant_value cx k = value_in (slice_get cx.tables.constants k)

-- ---- the meaning of a name: a variable, else a member of the own class, a constant or a function

abbrev pub of_member : Member → Meaning
of_member (member.Field declared offset) = m.Field declared offset
of_member (member.Method function) = m.Method function

abbrev pub of_entity : Context → Option Entity → Meaning
of_entity cx None = m.Nothing
of_entity cx (Some (entity.Constant k)) = m.Constant (nat_lt k cx.known) (constant_value cx k)
of_entity cx (Some (entity.Class class)) = m.Nothing
of_entity cx (Some (entity.Function function)) = m.Function function

abbrev pub of_file : Context → Name → Meaning
of_file cx name = of_entity cx (entity_named cx.names name)

abbrev pub member_or_file : Option Member → Context → Name → Meaning
member_or_file None cx name = of_file cx name
member_or_file (Some member) cx name = of_member member

abbrev pub outside_by : Option ClassId → Context → Name → Meaning
outside_by None cx name = of_file cx name
outside_by (Some class) cx name = member_or_file (member_of cx class name) cx name

abbrev pub variable_or : Option Found → Context → Name → Meaning
variable_or None cx name = outside_by cx.class cx name
variable_or (Some found) cx name = m.Variable found

abbrev pub meant : Context → Name → State → Meaning
meant cx name s = variable_or (variable name s.locals) cx name

-- the meaning of a name behind a dot or an arrow
abbrev pub meant_in : Option Member → Meaning
meant_in None = m.Nothing
meant_in (Some member) = of_member member

-- ---- a name as an expression

-- A constant that is declared before counts as its value in lengths and other constants. A later one is an int like any other.
abbrev pub of_constant : (is_earlier : Bool) → Option ℤ → Typed
of_constant true None = typed.Spoiled
of_constant true (Some n) = literal n
of_constant false None = typed.Value (int (pushed (pos 0)))
of_constant false (Some n) = typed.Value (int (pushed n))

abbrev pub of_variable : Found → Typed
of_variable found = placed (e.Variable found.number) found.declared false (root.Variable found.part)

abbrev pub own_field : Declared → ℕ → Typed
own_field declared offset = placed (e.Member e.This offset) declared false root.Member

abbrev pub of_meaning : Context → Meaning → Elab Typed
of_meaning cx (m.Variable found) = pure (of_variable found)
of_meaning cx (m.Field declared offset) = pure (own_field declared offset)
of_meaning cx (m.Method function) = broken cx r.NotFunction
of_meaning cx (m.Constant is_earlier value) = pure (of_constant is_earlier value)
of_meaning cx (m.Function function) = broken cx r.NotFunction
of_meaning cx m.Nothing = broken cx r.UnknownName

abbrev pub name : Context → Name → Elab Typed
name cx text = λ s. of_meaning cx (meant cx text s) s

-- ---- `this`, which leads to another processor where the class is global

abbrev pub this_in : Option Class → Context → ClassId → Elab Typed
this_in None cx class = broken cx r.ThisOutside
this_in (Some c) cx class = pure (typed.This class c.remote)

abbrev pub this_by : Option ClassId → Context → Elab Typed
this_by None cx = broken cx r.ThisOutside
this_by (Some class) cx = this_in (class_at cx class) cx class

abbrev pub this : Context → Elab Typed
this cx = this_by cx.class cx
