-- What the classes, functions and constants of a program are, by their numbers.
use Rattle.std.specs.Prelude.{ℕ, ℤ, ◌+◌, ◌*◌, Bool, true, false, List, [], ◌∷◌, ◌++◌, map, length, Option, Some, None, bytes_eq, codes}
use Rattle.cc_names.specs.Names.{NameTables}
use Rattle.cc_names.specs.Declarations.{after_methods}
use Rattle.cc_names.specs.declared.declarations.ClassId.{ClassId}
use Rattle.cc_names.specs.declared.declarations.FunId.{FunId}
use Rattle.cc_tree.specs.declared.declarations.ClassDecl.{ClassDecl}
use Rattle.cc_tree.specs.declared.declarations.Function.{Function}
use Rattle.cc_tree.specs.declared.declarations.Item.{Item}
use Rattle.cc_tree.specs.declared.declarations.Item.TheVariants as item
use Rattle.cc_tree.specs.declared.declarations.Member.{Member}
use Rattle.cc_tree.specs.declared.declarations.Member.TheVariants as member
use Rattle.cc_tree.specs.declared.declarations.Param.{Param}
use Rattle.cc_tree.specs.declared.expressions.Expr.{Expr}
use Rattle.cc_tree.specs.declared.statements.Decl.{Decl}
use Rattle.cc_declared.specs.Slots.{field, parameter, returned, value_type}
use Rattle.cc_scopes.specs.declared.tables.Class.{Class}
use Rattle.cc_scopes.specs.declared.tables.Member.{Member as Entry}
use Rattle.cc_scopes.specs.declared.tables.Member.TheVariants as entry
use Rattle.cc_scopes.specs.declared.tables.Signature.{Signature}
use Rattle.cc_scopes.specs.declared.tables.Tables.{Tables}
use Rattle.cc_scopes.specs.declared.types.Declared.{Declared}
use Rattle.cc_scopes.specs.declared.types.Shape.{Shape}
use Rattle.cc_scopes.specs.declared.types.Shape.TheVariants as shape
use Rattle.cc_scopes.specs.declared.types.Ty.{Ty}
use Rattle.cc_scopes.specs.declared.types.Ty.TheVariants as ty
use Rattle.cc_scopes.specs.Elab.{silently}
use Rattle.cc_scopes.specs.Scope.{Context}
use Rattle.cc_typing.specs.Whole.{constant}

-- ---- outside of every function, after so many constants

abbrev pub constants_alone : List (Option ℤ) → Tables
constants_alone constants = record { classes = []; functions = []; constants = constants }

abbrev pub outside : NameTables → Tables → (known : ℕ) → Option ClassId → (line : ℕ) → Context
outside names tables known class line = record {
  names = names;
  tables = tables;
  known = known;
  class = class;
  result = ty.Void;
  in_main = false;
  in_constructor = false;
  in_branch = false;
  in_loop = false;
  part = 0;
  start = 0;
  line = line;
}

-- ---- constants: each from those before it

abbrev pub value_after : NameTables → Tables → Expr → ℕ → Option ℤ
value_after names before e line = silently (constant (outside names before (length before.constants) None line) e)

abbrev pub constants_from : NameTables → List (Option ℤ) → List Item → List (Option ℤ)
constants_from names before [] = before
constants_from names before (item.Const name value line ∷ more) =
    constants_from names (before ++ value_after names (constants_alone before) value line ∷ []) more
constants_from names before (item.Class class ∷ more) = constants_from names before more
constants_from names before (item.Func function ∷ more) = constants_from names before more

-- ---- classes: fields behind one another

abbrev pub width : Shape → ℕ
width shape.Cell = 1
width (shape.Array n) = n
width (shape.Object class) = 1

abbrev pub field_of : Context → Decl → Declared
field_of cx d = silently (field cx d)

-- after so many cells and functions
abbrev pub members_from : Context → (cells functions : ℕ) → List Member → List Entry
members_from cx cells f [] = []
members_from cx cells f (member.Field d ∷ more) =
    entry.Field (field_of cx d) cells ∷ members_from cx (cells + width (field_of cx d).shape) f more
members_from cx cells f (member.Func function ∷ more) =
    entry.Method (record { 0 = f }) ∷ members_from cx cells (f + 1) more
members_from cx cells f (member.Build name params body line ∷ more) = members_from cx cells f more

abbrev pub param_type : Context → Param → Ty
param_type cx p = value_type (silently (parameter cx p.ty))

abbrev pub param_types : Context → List Param → List Ty
param_types cx [] = []
param_types cx (p ∷ ps) = param_type cx p ∷ param_types cx ps

abbrev pub constructor_types : Context → List Member → List Ty
constructor_types cx [] = []
constructor_types cx (member.Field d ∷ more) = constructor_types cx more
constructor_types cx (member.Func function ∷ more) = constructor_types cx more
constructor_types cx (member.Build name params body line ∷ more) = param_types cx params

abbrev pub class_of : Context → (functions : ℕ) → ClassDecl → Class
class_of cx f c = record { remote = c.remote; members = members_from cx 0 f c.members; constructor = constructor_types cx c.members }

-- after so many constants, classes and functions
abbrev pub classes_from : NameTables → Tables → (constants classes functions : ℕ) → List Item → List Class
classes_from names tables k c f [] = []
classes_from names tables k c f (item.Const name value line ∷ more) = classes_from names tables (k + 1) c f more
classes_from names tables k c f (item.Class class ∷ more) =
    class_of (outside names tables k (Some (record { 0 = c })) class.line) f class
    ∷ classes_from names tables k (c + 1) (after_methods f class.members) more
classes_from names tables k c f (item.Func function ∷ more) = classes_from names tables k c (f + 1) more

-- ---- functions

abbrev pub result_of : Context → Function → Ty
result_of cx f = value_type (silently (returned cx f.result))

abbrev pub signature : Context → (is_main : Bool) → Function → Signature
signature cx is_main f = record { params = param_types cx f.params; result = result_of cx f; is_main = is_main }

abbrev pub methods : Context → List Member → List Signature
methods cx [] = []
methods cx (member.Field d ∷ more) = methods cx more
methods cx (member.Func function ∷ more) = signature cx false function ∷ methods cx more
methods cx (member.Build name params body line ∷ more) = methods cx more

abbrev pub functions_of : Context → List Item → List Signature
functions_of cx [] = []
functions_of cx (item.Const name value line ∷ more) = functions_of cx more
functions_of cx (item.Class c ∷ more) = methods cx c.members ++ functions_of cx more
functions_of cx (item.Func function ∷ more) = signature cx (bytes_eq function.name (codes "main")) function ∷ functions_of cx more

-- ---- all

abbrev pub constants_of : NameTables → List Item → Tables
constants_of names items = constants_alone (constants_from names [] items)

unfoldable pub tables_of : NameTables → List Item → Tables
tables_of names items = record {
  classes = classes_from names (constants_of names items) 0 0 0 items;
  functions = functions_of (outside names (constants_of names items) 0 None 0) items;
  constants = constants_from names [] items;
}
