-- The type that a type's name says.
use Rattle.std.specs.Prelude.{Bool, true, false, if◌then◌else◌, Option, Some, None}
use Rattle.cc_names.specs.Names.{class_named}
use Rattle.cc_names.specs.declared.declarations.ClassId.{ClassId}
use Rattle.cc_names.specs.declared.rule.StaticRule.{StaticRule}
use Rattle.cc_names.specs.declared.rule.StaticRule.TheVariants as r
use Rattle.cc_tree.specs.declared.statements.Base.{Base}
use Rattle.cc_tree.specs.declared.statements.Base.TheVariants as base
use Rattle.cc_tree.specs.declared.statements.TypeName.{TypeName}
use Rattle.cc_scopes.specs.declared.types.Declared.{Declared}
use Rattle.cc_scopes.specs.declared.types.Shape.TheVariants as shape
use Rattle.cc_scopes.specs.declared.types.Target.{Target}
use Rattle.cc_scopes.specs.declared.types.Target.TheVariants as target
use Rattle.cc_scopes.specs.declared.types.Ty.{Ty}
use Rattle.cc_scopes.specs.declared.types.Ty.TheVariants as ty
use Rattle.cc_scopes.specs.Types.{int_target}
use Rattle.cc_scopes.specs.Elab.{Elab, ◌>>=◌, ◌>>◌, pure}
use Rattle.cc_scopes.specs.Scope.{Context}
use Rattle.cc_scopes.specs.Typed.{note_rule}

abbrev pub cell : Ty → (sync : Bool) → Declared
cell t sync = record { shape = shape.Cell; ty = t; sync = sync }

-- of an unknown type no further rule is broken
abbrev pub unknown : Declared
unknown = cell ty.Unknown false

abbrev pub object : ClassId → Declared
object class = record { shape = shape.Object class; ty = ty.Int; sync = false }

-- `*` may be followed by `global`, and by `sync` where the pointer is a sync variable
abbrev pub pointer : Target → TypeName → Declared
pointer to t = cell (ty.Pointer to t.remote) t.once

abbrev pub int_type : (sync : Bool) → TypeName → Declared
int_type sync t = if t.star then pointer (int_target sync) t else cell ty.Int sync

abbrev pub class_type : ClassId → TypeName → Declared
class_type class t = if t.star then pointer (target.Class class) t else object class

abbrev pub no_type : Context → StaticRule → Elab Declared
no_type cx rule = note_rule cx rule >> pure unknown

-- nothing points to `void`
abbrev pub void_type : (star : Bool) → Context → Elab Declared
void_type true cx = no_type cx r.BadDeclared
void_type false cx = pure (cell ty.Void false)

abbrev pub class_or_none : Option ClassId → Context → TypeName → Elab Declared
class_or_none None cx t = no_type cx r.UnknownClass
class_or_none (Some class) cx t = pure (class_type class t)

abbrev pub written_by : Base → Context → TypeName → Elab Declared
written_by base.Void cx t = void_type t.star cx
written_by base.Int cx t = pure (int_type false t)
written_by base.SyncInt cx t = pure (int_type true t)
written_by (base.Named name) cx t = class_or_none (class_named cx.names name) cx t

abbrev pub written : Context → TypeName → Elab Declared
written cx t = written_by t.base cx t
