-- What a program declares, in the order of its text.
use Rattle.std.specs.Prelude.{ℕ, ◌+◌, List, [], ◌∷◌}
use Rattle.cc_tree.specs.declared.declarations.Item.{Item}
use Rattle.cc_tree.specs.declared.declarations.Item.TheVariants as item
use Rattle.cc_tree.specs.declared.declarations.Member.{Member}
use Rattle.cc_tree.specs.declared.declarations.Member.TheVariants as member
use Rattle.cc_names.specs.declared.declarations.ClassId.{ClassId}
use Rattle.cc_names.specs.declared.declarations.FunId.{FunId}
use Rattle.cc_names.specs.declared.declarations.MemberId.{MemberId}
use Rattle.cc_names.specs.declared.declarations.Entity.{Entity}
use Rattle.cc_names.specs.declared.declarations.Entity.TheVariants as entity
use Rattle.cc_names.specs.Table.{Declared, declared}

-- the number of functions after those of a class
abbrev pub after_methods : ℕ → List Member → ℕ
after_methods f [] = f
after_methods f (member.Field field ∷ more) = after_methods f more
after_methods f (member.Func function ∷ more) = after_methods (f + 1) more
after_methods f (member.Build name params body line ∷ more) = after_methods f more

-- after so many constants, classes and functions; the functions of a class count among the functions
abbrev pub file_from : (constants classes functions : ℕ) → List Item → List (Declared Entity)
file_from k c f [] = []
file_from k c f (item.Const name value line ∷ more) = declared name line (entity.Constant k) ∷ file_from (k + 1) c f more
file_from k c f (item.Class class ∷ more) =
    declared class.name class.line (entity.Class (record { 0 = c })) ∷ file_from k (c + 1) (after_methods f class.members) more
file_from k c f (item.Func function ∷ more) =
    declared function.name function.line (entity.Function (record { 0 = f })) ∷ file_from k c (f + 1) more

-- the constants, classes and functions of a file
abbrev pub file : List Item → List (Declared Entity)
file = file_from 0 0 0

-- after so many members
abbrev pub members_from : ℕ → List Member → List (Declared MemberId)
members_from n [] = []
members_from n (member.Field field ∷ more) = declared field.name field.line (record { 0 = n }) ∷ members_from (n + 1) more
members_from n (member.Func function ∷ more) = declared function.name function.line (record { 0 = n }) ∷ members_from (n + 1) more
members_from n (member.Build name params body line ∷ more) = members_from n more

-- the fields and functions of a class
abbrev pub members : List Member → List (Declared MemberId)
members = members_from 0
