-- Declarations of variables.
use Rattle.std.specs.Prelude.{ℕ, List, Option, Some, None}
use Rattle.cc_core.specs.declared.expression.Expression.{Expression}
use Rattle.cc_core.specs.declared.statement.Statement.{Statement}
use Rattle.cc_core.specs.declared.statement.Statement.TheVariants as s
use Rattle.cc_names.specs.declared.declarations.ClassId.{ClassId}
use Rattle.cc_names.specs.declared.rule.StaticRule.{StaticRule}
use Rattle.cc_names.specs.declared.rule.StaticRule.TheVariants as r
use Rattle.cc_tree.specs.declared.expressions.Expr.{Expr}
use Rattle.cc_tree.specs.declared.statements.Decl.{Decl}
use Rattle.cc_tree.specs.declared.statements.Start.{Start}
use Rattle.cc_tree.specs.declared.statements.Start.TheVariants as start
use Rattle.cc_scopes.specs.declared.tables.Class.{Class}
use Rattle.cc_scopes.specs.declared.types.Declared.{Declared}
use Rattle.cc_scopes.specs.declared.types.Shape.{Shape}
use Rattle.cc_scopes.specs.declared.types.Shape.TheVariants as shape
use Rattle.cc_scopes.specs.Types.{cell_kind}
use Rattle.cc_scopes.specs.Elab.{Elab, ◌>>=◌, ◌>>◌, pure}
use Rattle.cc_scopes.specs.Scope.{Context, declare}
use Rattle.cc_scopes.specs.Typed.{note_rule}
use Rattle.cc_scopes.specs.Meaning.{class_at}
use Rattle.cc_typing.specs.declared.calls.Args.{Args}
use Rattle.cc_typing.specs.Calls.{no_args, args_rule}
use Rattle.cc_typing.specs.Whole.{operand, args, fitting}
use Rattle.cc_declared.specs.Slots.{variable}
use Rattle.cc_elaboration.specs.declared.declarations.Begun.{Begun}
use Rattle.cc_elaboration.specs.declared.declarations.Begun.TheVariants as begun

-- ---- an object, by the arguments of its constructor

abbrev pub built_unless : Option StaticRule → Context → ClassId → List Expression → Elab Begun
built_unless (Some rule) cx class terms = note_rule cx rule >> pure begun.Nothing
built_unless None cx class terms = pure (begun.Object class terms)

abbrev pub built_as : Option Class → Context → ClassId → Args → Elab Begun
built_as None cx class args = note_rule cx r.UnknownClass >> pure begun.Nothing
built_as (Some c) cx class args = built_unless (args_rule c.constructor args.types) cx class args.terms

abbrev pub built : Context → ClassId → Option Args → Elab Begun
built cx class None = pure begun.Nothing
built cx class (Some args) = built_as (class_at cx class) cx class args

-- ---- a start that may not stand there is read for its own rules

abbrev pub misplaced : Context → Elab Begun
misplaced cx = note_rule cx r.BadDeclared >> pure begun.Nothing

unfoldable pub misplaced_value : Context → Expr → Elab Begun
misplaced_value cx e = operand cx e >> misplaced cx

unfoldable pub misplaced_args : Context → List Expr → Elab Begun
misplaced_args cx es = args cx es >> misplaced cx

-- ---- how a variable starts: `=` stands at a cell alone, and arguments at an object alone

abbrev pub with_value : Option Expression → Begun
with_value None = begun.Nothing
with_value (Some v) = begun.Value v

unfoldable pub started_cell : Context → Declared → Expr → Elab Begun
started_cell cx d e = fitting cx d.ty e >>= (λ v. pure (with_value v))

unfoldable pub started_object : Context → ClassId → List Expr → Elab Begun
started_object cx class es = args cx es >>= built cx class

abbrev pub cell_start : Start → Context → Declared → Elab Begun
cell_start start.Nothing cx d = pure begun.Nothing
cell_start (start.Value e) cx d = started_cell cx d e
cell_start (start.Args es) cx d = misplaced_args cx es

abbrev pub array_start : Start → Context → Elab Begun
array_start start.Nothing cx = pure begun.Nothing
array_start (start.Value e) cx = misplaced_value cx e
array_start (start.Args es) cx = misplaced_args cx es

abbrev pub object_start : Start → Context → ClassId → Elab Begun
object_start start.Nothing cx class = built cx class (Some no_args)
object_start (start.Value e) cx class = misplaced_value cx e
object_start (start.Args es) cx class = started_object cx class es

abbrev pub started_by : Shape → Context → Declared → Start → Elab Begun
started_by shape.Cell cx d at = cell_start at cx d
started_by (shape.Array n) cx d at = array_start at cx
started_by (shape.Object class) cx d at = object_start at cx class

abbrev pub started : Context → Declared → Start → Elab Begun
started cx d at = started_by d.shape cx d at

-- ---- the statement

abbrev pub cells : Shape → ℕ
cells (shape.Array n) = n
cells _ = 1

abbrev pub made : ℕ → Declared → Begun → Statement
made k d begun.Nothing = s.Make k (cell_kind d.ty d.sync) (cells d.shape)
made k d (begun.Value e) = s.Set k (cell_kind d.ty d.sync) e
made k d (begun.Object class es) = s.Build k class.0 es

-- A variable is not in scope in its own start.
unfoldable pub declaration : Context → Decl → Elab Statement
declaration cx d = variable cx d >>= (λ t. started cx t d.start >>= (λ b. declare cx d.name t >>= (λ k. pure (made k t b))))
