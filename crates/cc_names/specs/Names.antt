-- The names of a program by their numbers.
use Rattle.std.specs.Prelude.{ℕ, List, [], ◌∷◌, Option, Some, None, slice_get}
use Rattle.cc_tree.specs.declared.declarations.Item.{Item}
use Rattle.cc_tree.specs.declared.declarations.Item.TheVariants as item
use Rattle.cc_names.specs.declared.declarations.ClassId.{ClassId}
use Rattle.cc_names.specs.declared.declarations.FunId.{FunId}
use Rattle.cc_names.specs.declared.declarations.MemberId.{MemberId}
use Rattle.cc_names.specs.declared.declarations.Entity.{Entity}
use Rattle.cc_names.specs.declared.declarations.Entity.TheVariants as entity
use Rattle.cc_names.specs.Table.{Name, Table, entry, once}
use Rattle.cc_names.specs.Declarations.{file, members}

-- the constants, classes and functions of the file, and the members of each class in declared order
pub record NameTables : Type 0 where
  pub file : Table Entity
  pub members : List (Table MemberId)

abbrev pub member_tables : List Item → List (Table MemberId)
member_tables [] = []
member_tables (item.Const name value line ∷ more) = member_tables more
member_tables (item.Class class ∷ more) = once [] (members class.members) ∷ member_tables more
member_tables (item.Func function ∷ more) = member_tables more

abbrev pub names_of : List Item → NameTables
names_of items = record { file = once [] (file items); members = member_tables items }

abbrev pub as_class : Option Entity → Option ClassId
as_class (Some (entity.Class class)) = Some class
as_class _ = None

abbrev pub as_function : Option Entity → Option FunId
as_function (Some (entity.Function function)) = Some function
as_function _ = None

abbrev pub as_constant : Option Entity → Option ℕ
as_constant (Some (entity.Constant constant)) = Some constant
as_constant _ = None

abbrev pub entity_named : NameTables → Name → Option Entity
entity_named names name = entry names.file name

abbrev pub class_named : NameTables → Name → Option ClassId
class_named names name = as_class (entity_named names name)

abbrev pub function_named : NameTables → Name → Option FunId
function_named names name = as_function (entity_named names name)

abbrev pub constant_named : NameTables → Name → Option ℕ
constant_named names name = as_constant (entity_named names name)

abbrev pub entry_if : {V : Type 0} → Option (Table V) → Name → Option V
entry_if None name = None
entry_if (Some table) name = entry table name

abbrev pub member_named : NameTables → ClassId → Name → Option MemberId
member_named names class name = entry_if (slice_get names.members class.0) name
