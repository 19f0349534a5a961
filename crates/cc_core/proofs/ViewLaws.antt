-- What each form of an expression and of a statement is in the core language.
use Rattle.std.proofs.Common.{◌≡◌, ℕ, Bool, List, map}
use denote.Hole.Carrier
use Rattle.cc_ops.specs.declared.kind.Kind.{Kind}
use Rattle.cc_ops.specs.declared.operator.Op.{Op}
use Rattle.cc_core.specs.declared.expression.Constant.{Constant}
use Rattle.cc_core.specs.declared.expression.How.{How}
use Rattle.cc_core.specs.declared.expression.PrintPart.{PrintPart}
use Rattle.cc_core.specs.declared.expression.Expression.{Expression, roll-Expression, fold-roll-Expression}
use Rattle.cc_core.specs.declared.expression.Expression.{Push, This, Variable, Member, Index, At, Load, Unary, Binary, And, Or, New}
use Rattle.cc_core.specs.declared.expression.Expression.{NewObject, Call}
use Rattle.cc_core.specs.declared.expression.Expression.TheOpen as e
use Rattle.cc_core.specs.declared.statement.Statement.{Statement, roll-Statement, fold-roll-Statement}
use Rattle.cc_core.specs.declared.statement.Statement.{Empty, AtLine, Make, Set, Build, Assign, Drop, Print, If, IfElse, While, For}
use Rattle.cc_core.specs.declared.statement.Statement.{Break, Continue, Par, ParFor, Spawn, Return, Block}
use Rattle.cc_core.specs.declared.statement.Statement.TheOpen as s
use Rattle.cc_core.specs.Core as core
use Rattle.cc_core.specs.Core.{Term, Stmt}
use Rattle.cc_core.specs.View.{term_of, term_with, terms_of, constant_of, how_of, part_of, stmt_of, stmt_with, stmts_of}

pub push_is : (c : Constant) → term_of (Push c) ≡ core.Push (constant_of c)
unfolding term_of roll-Expression Carrier.roll
push_is c = fold-roll-Expression Term term_with (e.Push c)

pub this_is : term_of This ≡ core.This
unfolding term_of roll-Expression Carrier.roll
this_is = fold-roll-Expression Term term_with (e.This)

pub variable_is : (k : ℕ) → term_of (Variable k) ≡ core.Variable k
unfolding term_of roll-Expression Carrier.roll
variable_is k = fold-roll-Expression Term term_with (e.Variable k)

pub member_is : (object : Expression) (o : ℕ) → term_of (Member object o) ≡ core.Member (term_of object) o
unfolding term_of roll-Expression Carrier.roll
member_is object o = fold-roll-Expression Term term_with (e.Member object o)

pub index_is : (array : Expression) (n : ℕ) (index : Expression) → term_of (Index array n index) ≡ core.Index (term_of array) n (term_of index)
unfolding term_of roll-Expression Carrier.roll
index_is array n index = fold-roll-Expression Term term_with (e.Index array n index)

pub at_is : (pointer index : Expression) → term_of (At pointer index) ≡ core.At (term_of pointer) (term_of index)
unfolding term_of roll-Expression Carrier.roll
at_is pointer index = fold-roll-Expression Term term_with (e.At pointer index)

pub load_is : (remote : Bool) (place : Expression) → term_of (Load remote place) ≡ core.Load remote (term_of place)
unfolding term_of roll-Expression Carrier.roll
load_is remote place = fold-roll-Expression Term term_with (e.Load remote place)

pub unary_is : (op : Op) (part : Expression) → term_of (Unary op part) ≡ core.Unary op (term_of part)
unfolding term_of roll-Expression Carrier.roll
unary_is op part = fold-roll-Expression Term term_with (e.Unary op part)

pub binary_is : (op : Op) (a b : Expression) → term_of (Binary op a b) ≡ core.Binary op (term_of a) (term_of b)
unfolding term_of roll-Expression Carrier.roll
binary_is op a b = fold-roll-Expression Term term_with (e.Binary op a b)

pub and_is : (a b : Expression) → term_of (And a b) ≡ core.And (term_of a) (term_of b)
unfolding term_of roll-Expression Carrier.roll
and_is a b = fold-roll-Expression Term term_with (e.And a b)

pub or_is : (a b : Expression) → term_of (Or a b) ≡ core.Or (term_of a) (term_of b)
unfolding term_of roll-Expression Carrier.roll
or_is a b = fold-roll-Expression Term term_with (e.Or a b)

pub new_is : (kind : Kind) (n : ℕ) → term_of (New kind n) ≡ core.New kind n
unfolding term_of roll-Expression Carrier.roll
new_is kind n = fold-roll-Expression Term term_with (e.New kind n)

pub new_object_is : (remote : Bool) (c : ℕ) (es : List Expression) → term_of (NewObject remote c es) ≡ core.NewObject remote c (terms_of es)
unfolding term_of roll-Expression Carrier.roll
new_object_is remote c es = fold-roll-Expression Term term_with (e.NewObject remote c es)

pub call_is : (how : How) (f : ℕ) (es : List Expression) → term_of (Call how f es) ≡ core.Call (how_of how) f (terms_of es)
unfolding term_of roll-Expression Carrier.roll
call_is how f es = fold-roll-Expression Term term_with (e.Call how f es)

pub empty_is : stmt_of Empty ≡ core.Empty
unfolding stmt_of roll-Statement Carrier.roll
empty_is = fold-roll-Statement Stmt stmt_with (s.Empty)

pub at_line_is : (line : ℕ) (body : Statement) → stmt_of (AtLine line body) ≡ core.AtLine line (stmt_of body)
unfolding stmt_of roll-Statement Carrier.roll
at_line_is line body = fold-roll-Statement Stmt stmt_with (s.AtLine line body)

pub make_is : (k : ℕ) (kind : Kind) (n : ℕ) → stmt_of (Make k kind n) ≡ core.Make k kind n
unfolding stmt_of roll-Statement Carrier.roll
make_is k kind n = fold-roll-Statement Stmt stmt_with (s.Make k kind n)

pub set_is : (k : ℕ) (kind : Kind) (e : Expression) → stmt_of (Set k kind e) ≡ core.Set k kind (term_of e)
unfolding stmt_of roll-Statement Carrier.roll
set_is k kind e = fold-roll-Statement Stmt stmt_with (s.Set k kind e)

pub build_is : (k c : ℕ) (es : List Expression) → stmt_of (Build k c es) ≡ core.Build k c (terms_of es)
unfolding stmt_of roll-Statement Carrier.roll
build_is k c es = fold-roll-Statement Stmt stmt_with (s.Build k c es)

pub assign_is : (remote : Bool) (place value : Expression) → stmt_of (Assign remote place value) ≡ core.Assign remote (term_of place) (term_of value)
unfolding stmt_of roll-Statement Carrier.roll
assign_is remote place value = fold-roll-Statement Stmt stmt_with (s.Assign remote place value)

pub drop_is : (e : Expression) → stmt_of (Drop e) ≡ core.Drop (term_of e)
unfolding stmt_of roll-Statement Carrier.roll
drop_is e = fold-roll-Statement Stmt stmt_with (s.Drop e)

pub print_is : (parts : List PrintPart) (es : List Expression) → stmt_of (Print parts es) ≡ core.Print (map part_of parts) (terms_of es)
unfolding stmt_of roll-Statement Carrier.roll
print_is parts es = fold-roll-Statement Stmt stmt_with (s.Print parts es)

pub if_is : (c : Expression) (body : Statement) → stmt_of (If c body) ≡ core.If (term_of c) (stmt_of body)
unfolding stmt_of roll-Statement Carrier.roll
if_is c body = fold-roll-Statement Stmt stmt_with (s.If c body)

pub if_else_is : (c : Expression) (first second : Statement) → stmt_of (IfElse c first second) ≡ core.IfElse (term_of c) (stmt_of first) (stmt_of second)
unfolding stmt_of roll-Statement Carrier.roll
if_else_is c first second = fold-roll-Statement Stmt stmt_with (s.IfElse c first second)

pub while_is : (c : Expression) (body : Statement) → stmt_of (While c body) ≡ core.While (term_of c) (stmt_of body)
unfolding stmt_of roll-Statement Carrier.roll
while_is c body = fold-roll-Statement Stmt stmt_with (s.While c body)

pub for_is : (c : Expression) (step body : Statement) → stmt_of (For c step body) ≡ core.For (term_of c) (stmt_of step) (stmt_of body)
unfolding stmt_of roll-Statement Carrier.roll
for_is c step body = fold-roll-Statement Stmt stmt_with (s.For c step body)

pub break_is : stmt_of Break ≡ core.Break
unfolding stmt_of roll-Statement Carrier.roll
break_is = fold-roll-Statement Stmt stmt_with (s.Break)

pub continue_is : stmt_of Continue ≡ core.Continue
unfolding stmt_of roll-Statement Carrier.roll
continue_is = fold-roll-Statement Stmt stmt_with (s.Continue)

pub par_is : (branches : List Statement) → stmt_of (Par branches) ≡ core.Par (stmts_of branches)
unfolding stmt_of roll-Statement Carrier.roll
par_is branches = fold-roll-Statement Stmt stmt_with (s.Par branches)

pub parfor_is : (k : ℕ) (start test : Expression) (line : ℕ) (value : Expression) (body : Statement) → stmt_of (ParFor k start test line value body) ≡ core.ParFor k (term_of start) (term_of test) line (term_of value) (stmt_of body)
unfolding stmt_of roll-Statement Carrier.roll
parfor_is k start test line value body = fold-roll-Statement Stmt stmt_with (s.ParFor k start test line value body)

pub spawn_is : (how : How) (f : ℕ) (es : List Expression) → stmt_of (Spawn how f es) ≡ core.Spawn (how_of how) f (terms_of es)
unfolding stmt_of roll-Statement Carrier.roll
spawn_is how f es = fold-roll-Statement Stmt stmt_with (s.Spawn how f es)

pub return_is : (e : Expression) → stmt_of (Return e) ≡ core.Return (term_of e)
unfolding stmt_of roll-Statement Carrier.roll
return_is e = fold-roll-Statement Stmt stmt_with (s.Return e)

pub block_is : (body : List Statement) → stmt_of (Block body) ≡ core.Block (stmts_of body)
unfolding stmt_of roll-Statement Carrier.roll
block_is body = fold-roll-Statement Stmt stmt_with (s.Block body)
