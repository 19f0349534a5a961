-- The types that a variable, a field, a parameter and a result may have.
use Rattle.std.specs.Prelude.{Bool, true, false, not, ◌&&◌, ◌||◌, Option, Some, None}
use Rattle.cc_names.specs.declared.declarations.ClassId.{ClassId}
use Rattle.cc_declared.specs.declared.role.Role.{Role}
use Rattle.cc_declared.specs.declared.role.Role.TheVariants as role
use Rattle.cc_scopes.specs.declared.tables.Class.{Class}
use Rattle.cc_scopes.specs.declared.types.Declared.{Declared}
use Rattle.cc_scopes.specs.declared.types.Shape.{Shape}
use Rattle.cc_scopes.specs.declared.types.Shape.TheVariants as shape
use Rattle.cc_scopes.specs.declared.types.Target.{Target}
use Rattle.cc_scopes.specs.declared.types.Target.TheVariants as target
use Rattle.cc_scopes.specs.declared.types.Ty.{Ty}
use Rattle.cc_scopes.specs.declared.types.Ty.TheVariants as ty
use Rattle.cc_scopes.specs.Scope.{Context}
use Rattle.cc_scopes.specs.Meaning.{class_at}

abbrev pub is_global_class : Option Class → Bool
is_global_class None = false
is_global_class (Some class) = class.remote

abbrev pub is_global : Context → ClassId → Bool
is_global cx class = is_global_class (class_at cx class)

-- variables and fields are cells, and cells may be sync
abbrev pub has_cells : Role → Bool
has_cells role.Variable = true
has_cells role.Field = true
has_cells role.Parameter = false
has_cells role.Result = false

abbrev pub is_result : Role → Bool
is_result role.Result = true
is_result _ = false

abbrev pub is_variable : Role → Bool
is_variable role.Variable = true
is_variable _ = false

-- only a global pointer leads to a global class
abbrev pub reaches : Context → Target → (remote : Bool) → Bool
reaches cx target.Int remote = true
reaches cx target.SyncInt remote = true
reaches cx (target.Class class) remote = remote || not (is_global cx class)

-- an int, or a pointer; a sync one where there are cells; `void` as a result alone
abbrev pub may_be : Role → Context → Ty → (sync : Bool) → Bool
may_be role cx ty.Int sync = has_cells role || not sync
may_be role cx (ty.Pointer to remote) sync = (has_cells role || not sync) && reaches cx to remote
may_be role cx ty.Void sync = is_result role
may_be role cx ty.Null sync = true
may_be role cx ty.Unknown sync = true

abbrev pub is_allowed_by : Shape → Role → Context → Declared → Bool
is_allowed_by (shape.Object class) role cx d = is_variable role && not (is_global cx class)
is_allowed_by _ role cx d = may_be role cx d.ty d.sync

-- a variable may also be an object of a class that is not global
abbrev pub is_allowed : Role → Context → Declared → Bool
is_allowed role cx d = is_allowed_by d.shape role cx d
