-- The numbers of constants, classes and functions, by what stands before them in the text.
use Rattle.std.specs.Prelude.{◌≡◌, ℕ, ◌+◌, List, [], ◌∷◌, ◌++◌, Some, slice_get, bytes_eq, codes}
use Rattle.cc_names.specs.declared.declarations.Entity.{Entity}
use Rattle.cc_names.specs.declared.declarations.Entity.TheVariants as entity
use Rattle.cc_names.specs.Declarations.{file}
use Rattle.cc_names.specs.Table.{Declared, declared}
use Rattle.cc_scopes.specs.Scope.{Context}
use Rattle.cc_tables.specs.Tables.{functions_of, signature}
use Rattle.cc_tree.specs.declared.declarations.Function.{Function}
use Rattle.cc_tree.specs.declared.declarations.Item.{Item}
use Rattle.cc_tree.specs.declared.declarations.Item.TheVariants as item
use Rattle.cc_tree.specs.declared.declarations.Member.{Member}
use Rattle.cc_tree.specs.declared.declarations.Member.TheVariants as member

abbrev pub constants_in : List Item → ℕ
constants_in [] = 0
constants_in (item.Const name value line ∷ more) = 1 + constants_in more
constants_in (item.Class class ∷ more) = constants_in more
constants_in (item.Func f ∷ more) = constants_in more

abbrev pub classes_in : List Item → ℕ
classes_in [] = 0
classes_in (item.Const name value line ∷ more) = classes_in more
classes_in (item.Class class ∷ more) = 1 + classes_in more
classes_in (item.Func f ∷ more) = classes_in more

abbrev pub methods_in : List Member → ℕ
methods_in [] = 0
methods_in (member.Field field ∷ more) = methods_in more
methods_in (member.Func f ∷ more) = 1 + methods_in more
methods_in (member.Build name params body line ∷ more) = methods_in more

-- those of the file and of its classes
abbrev pub functions_in : List Item → ℕ
functions_in [] = 0
functions_in (item.Const name value line ∷ more) = functions_in more
functions_in (item.Class class ∷ more) = methods_in class.members + functions_in more
functions_in (item.Func f ∷ more) = 1 + functions_in more

-- what the name of an item stands for: the number of its kind that stand before it
abbrev pub entity_behind : List Item → Item → Declared Entity
entity_behind before (item.Const name value line) = declared name line (entity.Constant (constants_in before))
entity_behind before (item.Class class) = declared class.name class.line (entity.Class (record { 0 = classes_in before }))
entity_behind before (item.Func f) = declared f.name f.line (entity.Function (record { 0 = functions_in before }))

-- an item stands between these in the file, and its name between theirs
abbrev pub StandsBetween : (before : List Item) → Item → (after : List Item) → Type 0
StandsBetween before x after = (rest : List (Declared Entity)) × (file (before ++ x ∷ after) ≡ file before ++ entity_behind before x ∷ rest)

-- the signature at the number of a function is that function's
abbrev pub HasOwnSignature : Context → (before : List Item) → Function → (after : List Item) → Type 0
HasOwnSignature cx before f after =
    slice_get (functions_of cx (before ++ item.Func f ∷ after)) (functions_in before) ≡ Some (signature cx (bytes_eq f.name (codes "main")) f)
