-- The first group of static rules: on what the file and its classes declare.
use Rattle.std.specs.Prelude.{ℕ, Bool, true, false, if◌then◌else◌, List, [], ◌∷◌, ◌++◌, map, slice_get, Option, Some, None, option_map, bytes_eq, codes}
use Rattle.std.specs.List.{list_any}
use Rattle.cc_tree.specs.declared.declarations.Item.{Item}
use Rattle.cc_tree.specs.declared.declarations.Item.TheVariants as item
use Rattle.cc_tree.specs.declared.declarations.Member.{Member}
use Rattle.cc_tree.specs.declared.declarations.Member.TheVariants as member
use Rattle.cc_tree.specs.declared.declarations.Param.{Param}
use Rattle.cc_names.specs.declared.broken.Broken.{Broken}
use Rattle.cc_names.specs.declared.broken.Broken.TheVariants.{Rule, Limit}
use Rattle.cc_names.specs.declared.rule.StaticRule.TheVariants.{NoMain, NameTwice}
use Rattle.cc_names.specs.declared.rule.StaticLimit.{StaticLimit}
use Rattle.cc_names.specs.declared.rule.StaticLimit.TheVariants.{Classes, Functions, Members, Parameters}
use Rattle.cc_names.specs.Table.{twice}
use Rattle.cc_names.specs.Declarations.{file, members}

abbrev pub is_main : Item → Bool
is_main (item.Const name value line) = false
is_main (item.Class class) = false
is_main (item.Func function) = bytes_eq function.name (codes "main")

-- there is no function `main`; at line 1
abbrev pub no_main : List Item → List Broken
no_main items = if list_any is_main items then [] else Rule NoMain 1 ∷ []

-- a limit is broken by the declaration past it, if there is one
abbrev pub past : StaticLimit → Option ℕ → List Broken
past which None = []
past which (Some line) = Limit which line ∷ []

abbrev pub class_lines : List Item → List ℕ
class_lines [] = []
class_lines (item.Const name value line ∷ more) = class_lines more
class_lines (item.Class class ∷ more) = class.line ∷ class_lines more
class_lines (item.Func function ∷ more) = class_lines more

abbrev pub method_lines : List Member → List ℕ
method_lines [] = []
method_lines (member.Field field ∷ more) = method_lines more
method_lines (member.Func function ∷ more) = function.line ∷ method_lines more
method_lines (member.Build name params body line ∷ more) = method_lines more

-- functions of the file and of its classes
abbrev pub function_lines : List Item → List ℕ
function_lines [] = []
function_lines (item.Const name value line ∷ more) = function_lines more
function_lines (item.Class class ∷ more) = method_lines class.members ++ function_lines more
function_lines (item.Func function ∷ more) = function.line ∷ function_lines more

-- fields and functions of a class
abbrev pub member_lines : List Member → List ℕ
member_lines [] = []
member_lines (member.Field field ∷ more) = field.line ∷ member_lines more
member_lines (member.Func function ∷ more) = function.line ∷ member_lines more
member_lines (member.Build name params body line ∷ more) = member_lines more

abbrev pub constructor_lines : List Member → List ℕ
constructor_lines [] = []
constructor_lines (member.Field field ∷ more) = constructor_lines more
constructor_lines (member.Func function ∷ more) = constructor_lines more
constructor_lines (member.Build name params body line ∷ more) = line ∷ constructor_lines more

-- a second constructor of a class
abbrev pub second_constructors : List ℕ → List Broken
second_constructors [] = []
second_constructors (first ∷ later) = map (Rule NameTwice) later

-- more than 8 parameters of a function or a constructor
abbrev pub parameter_rules : List Param → List Broken
parameter_rules params = past Parameters (option_map (λ (p : Param). p.line) (slice_get params 8))

abbrev pub member_rules : List Member → List Broken
member_rules [] = []
member_rules (member.Field field ∷ more) = member_rules more
member_rules (member.Func function ∷ more) = parameter_rules function.params ++ member_rules more
member_rules (member.Build name params body line ∷ more) = parameter_rules params ++ member_rules more

-- a second member of one name, a second constructor, more than 256 members, and the rules on parameters
abbrev pub class_rules : List Member → List Broken
class_rules ms = twice [] (members ms) ++ second_constructors (constructor_lines ms) ++ past Members (slice_get (member_lines ms) 256) ++ member_rules ms

abbrev pub item_rules : List Item → List Broken
item_rules [] = []
item_rules (item.Const name value line ∷ more) = item_rules more
item_rules (item.Class class ∷ more) = class_rules class.members ++ item_rules more
item_rules (item.Func function ∷ more) = parameter_rules function.params ++ item_rules more

-- a second constant, class or function of the file of one name, more than 256 classes, more than 1,024 functions
abbrev pub file_rules : List Item → List Broken
file_rules items = twice [] (file items) ++ past Classes (slice_get (class_lines items) 256) ++ past Functions (slice_get (function_lines items) 1024)

abbrev pub first_group : List Item → List Broken
first_group items = no_main items ++ file_rules items ++ item_rules items
