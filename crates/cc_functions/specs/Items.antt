-- Items of a program: the core of its functions and classes, and the rules of the second group.
use Rattle.std.specs.Prelude.{ℕ, ◌+◌, Bool, false, List, [], ◌∷◌, ◌++◌, Some, None, bytes_eq, codes}
use Rattle.cc_names.specs.Names.{NameTables}
use Rattle.cc_names.specs.Table.{Name}
use Rattle.cc_names.specs.declared.declarations.ClassId.{ClassId}
use Rattle.cc_ops.specs.declared.kind.Kind.TheVariants as kind'
use Rattle.cc_ops.specs.declared.shape.CellRun.{CellRun}
use Rattle.cc_ops.specs.declared.shape.ClassShape.{ClassShape}
use Rattle.cc_tree.specs.declared.declarations.ClassDecl.{ClassDecl}
use Rattle.cc_tree.specs.declared.declarations.Function.{Function}
use Rattle.cc_tree.specs.declared.declarations.Item.{Item}
use Rattle.cc_tree.specs.declared.declarations.Item.TheVariants as item
use Rattle.cc_tree.specs.declared.declarations.Member.{Member}
use Rattle.cc_tree.specs.declared.declarations.Member.TheVariants as member
use Rattle.cc_tree.specs.declared.expressions.Expr.{Expr}
use Rattle.cc_tree.specs.declared.statements.Decl.{Decl}
use Rattle.cc_scopes.specs.declared.tables.Tables.{Tables}
use Rattle.cc_scopes.specs.declared.types.Declared.{Declared}
use Rattle.cc_scopes.specs.Types.{cell_kind}
use Rattle.cc_scopes.specs.Elab.{Elab, ◌>>=◌, ◌>>◌, pure}
use Rattle.cc_scopes.specs.Scope.{Context}
use Rattle.cc_typing.specs.Whole.{constant}
use Rattle.cc_declared.specs.Slots.{field}
use Rattle.cc_tables.specs.Tables.{outside}
use Rattle.cc_elaboration.specs.Declarations.{cells}
use Rattle.cc_elaboration.specs.Statements.{at_line}
use Rattle.cc_functions.specs.declared.constructors.Built.{Built}
use Rattle.cc_functions.specs.declared.functions.Elaborated.{Elaborated}
use Rattle.cc_functions.specs.declared.done.Done.{Done}
use Rattle.cc_functions.specs.declared.whole.SoFar.{SoFar}
use Rattle.cc_functions.specs.Functions.{begin, function}
use Rattle.cc_functions.specs.Constructors.{constructor}

-- ---- what is done so far

abbrev pub nothing_done : Done
nothing_done = record { functions = []; conducts = []; classes = [] }

abbrev pub with_function : Done → Elaborated → Done
with_function done f =
    record done { functions = done.functions ++ f.function ∷ []; conducts = done.conducts ++ f.conduct ∷ [] }

abbrev pub with_class : Done → ClassShape → Done
with_class done class = record done { classes = done.classes ++ class ∷ [] }

-- ---- the shape of a class: its fields' cells behind one another, and its constructor

abbrev pub no_members : ClassShape
no_members = record { cells = []; params = 0; sets = [] }

abbrev pub run_of : Declared → CellRun
run_of d = record { kind = cell_kind d.ty d.sync; count = cells d.shape }

abbrev pub with_run : ClassShape → Declared → ClassShape
with_run shape d = record shape { cells = shape.cells ++ run_of d ∷ [] }

abbrev pub with_constructor : ClassShape → Built → ClassShape
with_constructor shape b = record shape { params = b.params; sets = b.sets }

abbrev pub one_int : CellRun
one_int = record { kind = kind'.Int; count = 1 }

-- an object of a class without fields takes one cell
abbrev pub filled_runs : List CellRun → List CellRun
filled_runs [] = one_int ∷ []
filled_runs (run ∷ more) = run ∷ more

abbrev pub filled : ClassShape → ClassShape
filled shape = record shape { cells = filled_runs shape.cells }

-- ---- members

-- a function of a class is listed with the class's name before it
abbrev pub member_name : (class name : Name) → Name
member_name class name = class ++ 46 ∷ name

-- no variable of an earlier function is in scope
unfoldable pub field_member : Context → Decl → Done → ClassShape → Elab (Done × ClassShape)
field_member cx d done shape = begin >> (field (at_line cx d.line) d >>= (λ t. pure (done, with_run shape t)))

unfoldable pub function_member : Context → ClassDecl → Function → Done → ClassShape → Elab (Done × ClassShape)
function_member cx class f done shape =
    function cx false (member_name class.name f.name) f >>= (λ x. pure (with_function done x, shape))

abbrev pub member_by : Member → Context → ClassDecl → Done → ClassShape → Elab (Done × ClassShape)
member_by (member.Field d) cx class done shape = field_member cx d done shape
member_by (member.Func f) cx class done shape = function_member cx class f done shape
member_by (member.Build name params body line) cx class done shape =
    constructor cx class name params body line >>= (λ b. pure (done, with_constructor shape b))

abbrev pub members_from : Context → ClassDecl → Done → ClassShape → List Member → Elab (Done × ClassShape)
members_from cx class done shape [] = pure (done, shape)
members_from cx class done shape (m ∷ ms) = member_by m cx class done shape >>= (λ p. members_from cx class p.0 p.1 ms)

unfoldable pub class_item : Context → ClassDecl → Done → Elab Done
class_item cx class done = members_from cx class done no_members class.members >>= (λ p. pure (with_class p.0 (filled p.1)))

-- ---- items, after so many constants and classes

abbrev pub is_main : Name → Bool
is_main name = bytes_eq name (codes "main")

-- no variable of an earlier function is in scope
unfoldable pub constant_item : Context → Expr → Elab (Unit {0})
constant_item cx value = begin >> (constant cx value >> pure tt)

unfoldable pub function_item : Context → Function → Done → Elab Done
function_item cx f done = function cx (is_main f.name) f.name f >>= (λ x. pure (with_function done x))

abbrev pub class_id : ℕ → ClassId
class_id c = record { 0 = c }

-- before the first item
abbrev pub start : SoFar
start = record { constants = 0; classes = 0; done = nothing_done }

module _ (names : NameTables) (tables : Tables) where
  unfoldable pub after_constant : SoFar → Expr → (line : ℕ) → Elab SoFar
  after_constant so value line = constant_item (outside names tables so.constants None line) value
      >> pure (record so { constants = so.constants + 1 })

  abbrev pub class_at : (constants classes : ℕ) → ClassDecl → Done → Elab Done
  class_at k c class done = class_item (outside names tables k (Some (class_id c)) class.line) class done

  abbrev pub function_at : (constants : ℕ) → Function → Done → Elab Done
  function_at k f done = function_item (outside names tables k None f.line) f done

  unfoldable pub after_class : SoFar → ClassDecl → Elab SoFar
  after_class so class = class_at so.constants so.classes class so.done
      >>= (λ d. pure (record so { classes = so.classes + 1; done = d }))

  unfoldable pub after_function : SoFar → Function → Elab SoFar
  after_function so f = function_at so.constants f so.done >>= (λ d. pure (record so { done = d }))

  abbrev pub after_item : Item → SoFar → Elab SoFar
  after_item (item.Const name value line) so = after_constant so value line
  after_item (item.Class class) so = after_class so class
  after_item (item.Func f) so = after_function so f

  abbrev pub items_from : SoFar → List Item → Elab SoFar
  items_from so [] = pure so
  items_from so (x ∷ xs) = after_item x so >>= (λ more. items_from more xs)

  -- the core of a program's functions and classes
  unfoldable pub items : List Item → Elab Done
  items xs = items_from start xs >>= (λ so. pure so.done)
