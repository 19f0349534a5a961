-- Types, and which value a place takes.
use Rattle.std.specs.Prelude.{Bool, true, false, not, ◌&&◌, ◌||◌, ◌==◌, if◌then◌else◌}
use Rattle.cc_ops.specs.declared.kind.Kind.{Kind}
use Rattle.cc_ops.specs.declared.kind.Kind.TheVariants as kind
use Rattle.cc_scopes.specs.declared.types.Target.{Target}
use Rattle.cc_scopes.specs.declared.types.Target.TheVariants as target
use Rattle.cc_scopes.specs.declared.types.Ty.{Ty}
use Rattle.cc_scopes.specs.declared.types.Ty.TheVariants.{Int, Null, Pointer, Unknown}

abbrev pub same_target : Target → Target → Bool
same_target target.Int target.Int = true
same_target target.SyncInt target.SyncInt = true
same_target (target.Class c) (target.Class d) = c.0 == d.0
same_target _ _ = false

-- A value of a type in a place of another: of the same type, a local pointer for a global one, NULL for any pointer. A place of
-- which nothing is known takes any value.
abbrev pub accepts : (place value : Ty) → Bool
accepts Int Int = true
accepts (Pointer a remote) Null = true
accepts (Pointer a remote) (Pointer b other) = same_target a b && (remote || not other)
accepts Unknown value = true
accepts _ _ = false

-- `==` between two ints, or between pointers to one target, local or global, and NULL
abbrev pub comparable : Ty → Ty → Bool
comparable Int Int = true
comparable Null Null = true
comparable Null (Pointer b other) = true
comparable (Pointer a remote) Null = true
comparable (Pointer a remote) (Pointer b other) = same_target a b
comparable _ _ = false

abbrev pub is_int : Ty → Bool
is_int Int = true
is_int _ = false

-- a pointer that may not cross to another processor
abbrev pub is_local_pointer : Ty → Bool
is_local_pointer (Pointer a remote) = not remote
is_local_pointer _ = false

-- what a pointer to an int leads to
abbrev pub int_target : (sync : Bool) → Target
int_target sync = if sync then target.SyncInt else target.Int

abbrev pub int_kind : (sync : Bool) → Kind
int_kind sync = if sync then kind.SyncInt else kind.Int

abbrev pub pointer_kind : (sync : Bool) → Kind
pointer_kind sync = if sync then kind.SyncPtr else kind.Ptr

-- the kind of a cell of a type
abbrev pub cell_kind : Ty → (sync : Bool) → Kind
cell_kind (Pointer a remote) sync = pointer_kind sync
cell_kind _ sync = int_kind sync
