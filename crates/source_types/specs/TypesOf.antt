-- The types of the core that the types of a text are.
use Rattle.std.specs.Prelude.{◌≡◌, ℕ, ◌+◌, ◌<◌, ◌≤◌, true, false, List, [], ◌∷◌, Some}
use Rattle.cc_ops.specs.Values.{last_offset}
use Rattle.core_types.specs.Types.{ValueType, NoValue, AnInt, Pointer, Target, Cells, ObjectOf, Holds, Types, function_types, member}
use Rattle.cc_scopes.specs.declared.tables.Member.{Member}
use Rattle.cc_scopes.specs.declared.tables.Member.TheVariants as entry
use Rattle.cc_scopes.specs.declared.types.Declared.{Declared}
use Rattle.cc_scopes.specs.declared.types.Shape.{Shape}
use Rattle.cc_scopes.specs.declared.types.Shape.TheVariants as shape
use Rattle.cc_scopes.specs.declared.types.Target as pointed
use Rattle.cc_scopes.specs.declared.types.Target.TheVariants as target
use Rattle.cc_scopes.specs.declared.types.Ty.{Ty}
use Rattle.cc_scopes.specs.declared.types.Ty.TheVariants as ty

abbrev pub target_type : pointed.Target → Target
target_type target.Int = Cells false AnInt
target_type target.SyncInt = Cells true AnInt
target_type (target.Class class) = ObjectOf class.0

abbrev pub value_type : Ty → ValueType
value_type ty.Int = AnInt
value_type ty.Null = NoValue
value_type ty.Void = NoValue
value_type (ty.Pointer to remote) = Pointer remote (target_type to)
value_type ty.Unknown = NoValue

-- what the address of a declared thing leads to
abbrev pub target_by : Shape → Declared → Target
target_by shape.Cell d = Cells d.sync (value_type d.ty)
target_by (shape.Array n) d = Cells d.sync (value_type d.ty)
target_by (shape.Object class) d = ObjectOf class.0

abbrev pub target_of : Declared → Target
target_of d = target_by d.shape d

-- the type of the values of a cell, and of a result
abbrev pub IsCellType : Ty → Type 0
IsCellType ty.Int = Unit {0}
IsCellType ty.Null = ⊥
IsCellType ty.Void = ⊥
IsCellType (ty.Pointer to remote) = Unit {0}
IsCellType ty.Unknown = ⊥

abbrev pub IsResultType : Ty → Type 0
IsResultType ty.Int = Unit {0}
IsResultType ty.Null = ⊥
IsResultType ty.Void = Unit {0}
IsResultType (ty.Pointer to remote) = Unit {0}
IsResultType ty.Unknown = ⊥

abbrev pub AllCellTypes : List Ty → Type 0
AllCellTypes [] = Unit {0}
AllCellTypes (t ∷ ts) = IsCellType t × AllCellTypes ts

-- ---- fields and functions of class c

module _ (y : Types) (c : ℕ) where
  abbrev pub FieldBy : Shape → Declared → ℕ → Type 0
  FieldBy shape.Cell d o = (o ≤ last_offset) × (member y c o ≡ Some (Holds d.sync (value_type d.ty)))
  FieldBy (shape.Array n) d o =
      (o + n ≤ last_offset) × ((j : ℕ) → j < n → member y c (o + j) ≡ Some (Holds d.sync (value_type d.ty)))
  FieldBy (shape.Object class) d o = ⊥

  abbrev pub FieldFits : Declared → ℕ → Type 0
  FieldFits d o = IsCellType d.ty × FieldBy d.shape d o

  abbrev pub MemberFits : Member → Type 0
  MemberFits (entry.Field declared offset) = FieldFits declared offset
  MemberFits (entry.Method f) = (function_types y f.0).this ≡ Some c
