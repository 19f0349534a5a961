-- What the front end's program means: its parts as terms and statements of the core language.
use Rattle.std.specs.Prelude.{List, [], ◌∷◌, map}
use Rattle.cc_ops.specs.Shapes.{shape_of}
use Rattle.cc_ops.specs.Values.{Constant, VoidC, IntC, NullC}
use Rattle.cc_core.specs.declared.expression.Constant.{Constant as TextConstant}
use Rattle.cc_core.specs.declared.expression.Constant.TheVariants as constant
use Rattle.cc_core.specs.declared.expression.How.{How as CallHow}
use Rattle.cc_core.specs.declared.expression.How.TheVariants as call
use Rattle.cc_core.specs.declared.expression.Expression.{Expression, fold-Expression}
use Rattle.cc_core.specs.declared.expression.Expression.TheOpen as e
use Rattle.cc_core.specs.declared.expression.PrintPart.{PrintPart as TextPart}
use Rattle.cc_core.specs.declared.expression.PrintPart.TheVariants as part
use Rattle.cc_core.specs.declared.statement.Statement.{Statement, fold-Statement}
use Rattle.cc_core.specs.declared.statement.Statement.TheOpen as s
use Rattle.cc_core.specs.declared.program.Function as rust_function
use Rattle.cc_core.specs.declared.program.Program as rust_program
use Rattle.cc_core.specs.Core as core
use Rattle.cc_core.specs.Core.{How, Alone, On, Remote, PrintPart, Number, Text, Endl, Term, Push, This, Variable, Member, Index, At}
use Rattle.cc_core.specs.Core.{Load, Unary, Binary, And, Or, New, NewObject, Call, Terms, NoTerms, MoreTerms, Stmt, Empty, AtLine}
use Rattle.cc_core.specs.Core.{Make, Set, Build, Assign, Drop, Print, If, IfElse, While, For, Break, Continue, Par, ParFor, Spawn, Return, Block}
use Rattle.cc_core.specs.Core.{Stmts, NoStmts, MoreStmts}

abbrev pub constant_of : TextConstant → Constant
constant_of constant.Void = VoidC
constant_of (constant.Int n) = IntC n
constant_of constant.Null = NullC

abbrev pub how_of : CallHow → How
how_of call.Alone = Alone
how_of call.On = On
how_of call.Remote = Remote

abbrev pub terms : List Term → Terms
terms [] = NoTerms
terms (t ∷ ts) = MoreTerms t (terms ts)

-- an expression whose parts are terms
abbrev pub term_with : e.Expression-F Term → Term
term_with (e.Push c) = Push (constant_of c)
term_with e.This = This
term_with (e.Variable k) = Variable k
term_with (e.Member object o) = Member object o
term_with (e.Index array n index) = Index array n index
term_with (e.At pointer index) = At pointer index
term_with (e.Load remote place) = Load remote place
term_with (e.Unary op part) = Unary op part
term_with (e.Binary op a b) = Binary op a b
term_with (e.And a b) = And a b
term_with (e.Or a b) = Or a b
term_with (e.New kind n) = New kind n
term_with (e.NewObject remote c es) = NewObject remote c (terms es)
term_with (e.Call how f es) = Call (how_of how) f (terms es)

unfoldable pub term_of : Expression → Term
term_of = fold-Expression Term term_with

abbrev pub terms_of : List Expression → Terms
terms_of es = terms (map term_of es)

abbrev pub part_of : TextPart → PrintPart
part_of part.Number = Number
part_of (part.Text bytes) = Text bytes
part_of part.Endl = Endl

abbrev pub stmts : List Stmt → Stmts
stmts [] = NoStmts
stmts (t ∷ ts) = MoreStmts t (stmts ts)

-- a statement whose parts are statements of the core language
abbrev pub stmt_with : s.Statement-F Stmt → Stmt
stmt_with s.Empty = Empty
stmt_with (s.AtLine line body) = AtLine line body
stmt_with (s.Make k kind n) = Make k kind n
stmt_with (s.Set k kind e) = Set k kind (term_of e)
stmt_with (s.Build k c es) = Build k c (terms_of es)
stmt_with (s.Assign remote place value) = Assign remote (term_of place) (term_of value)
stmt_with (s.Drop e) = Drop (term_of e)
stmt_with (s.Print parts es) = Print (map part_of parts) (terms_of es)
stmt_with (s.If c body) = If (term_of c) body
stmt_with (s.IfElse c first second) = IfElse (term_of c) first second
stmt_with (s.While c body) = While (term_of c) body
stmt_with (s.For c step body) = For (term_of c) step body
stmt_with s.Break = Break
stmt_with s.Continue = Continue
stmt_with (s.Par branches) = Par (stmts branches)
stmt_with (s.ParFor k start test line value body) = ParFor k (term_of start) (term_of test) line (term_of value) body
stmt_with (s.Spawn how f es) = Spawn (how_of how) f (terms_of es)
stmt_with (s.Return e) = Return (term_of e)
stmt_with (s.Block body) = Block (stmts body)

unfoldable pub stmt_of : Statement → Stmt
stmt_of = fold-Statement Stmt stmt_with

abbrev pub stmts_of : List Statement → Stmts
stmts_of body = stmts (map stmt_of body)

abbrev pub function_of : rust_function.Function → core.Function
function_of f = record { shape = f.shape; default = constant_of f.default; body = stmts_of f.body }

-- the program that the front end's program is
abbrev pub program_of : rust_program.Program → core.Program
program_of p = record { functions = map function_of p.functions; classes = map shape_of p.classes; main = p.main }
