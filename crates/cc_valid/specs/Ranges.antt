-- What the front end makes: each variable is one of its function's, each class one of the program's, and nothing is asked for no cell.
-- Of the forms that stand in no source nothing is said.
use Rattle.std.specs.Prelude.{ℕ, ◌<◌, ◌≤◌, length}
use Rattle.cc_core.specs.Core.{Term, Push, This, Variable, Member, Index, At, Load, Unary, Binary, And, Or, New, NewObject, Call, Val}
use Rattle.cc_core.specs.Core.{Body, Branch, Starts, Terms, NoTerms, MoreTerms, MoreCells, Copied, Stmt, Empty, AtLine, Make, Set}
use Rattle.cc_core.specs.Core.{Build, Assign, Drop, Print, If, IfElse, While, For, Break, Continue, Par, ParFor, Spawn, Return, Block}
use Rattle.cc_core.specs.Core.{Turn, Forks, Each, Wait, Left, Stmts, NoStmts, MoreStmts, Function, Program, function}

-- in a function of so many variables, of a program with so many classes
module _ (vars classes : ℕ) where
  abbrev mutual
    pub TermInRange : Term → Type 0
    TermInRange (Push c) = Unit {0}
    TermInRange This = Unit {0}
    TermInRange (Variable k) = k < vars
    TermInRange (Member e o) = TermInRange e
    TermInRange (Index x n y) = TermInRange x × TermInRange y × (0 < n)
    TermInRange (At x y) = TermInRange x × TermInRange y
    TermInRange (Load remote e) = TermInRange e
    TermInRange (Unary op e) = TermInRange e
    TermInRange (Binary op x y) = TermInRange x × TermInRange y
    TermInRange (And x y) = TermInRange x × TermInRange y
    TermInRange (Or x y) = TermInRange x × TermInRange y
    TermInRange (New kind n) = 0 < n
    TermInRange (NewObject remote c es) = TermsInRange es × (c < classes)
    TermInRange (Call how f es) = TermsInRange es
    TermInRange (Val v) = Unit {0}
    TermInRange (Body f this env ss) = Unit {0}
    TermInRange (Branch this env s) = Unit {0}
    TermInRange (Starts f this vs) = Unit {0}

    pub TermsInRange : Terms → Type 0
    TermsInRange NoTerms = Unit {0}
    TermsInRange (MoreTerms e es) = TermInRange e × TermsInRange es
    TermsInRange (MoreCells e n es) = TermInRange e × TermsInRange es × (0 < n)
    TermsInRange (Copied vs es) = Unit {0}

  abbrev mutual
    pub StmtInRange : Stmt → Type 0
    StmtInRange Empty = Unit {0}
    StmtInRange (AtLine line s) = StmtInRange s
    StmtInRange (Make k kind n) = (k < vars) × (0 < n)
    StmtInRange (Set k kind e) = TermInRange e × (k < vars)
    StmtInRange (Build k c es) = TermsInRange es × (k < vars) × (c < classes)
    StmtInRange (Assign remote x y) = TermInRange x × TermInRange y
    StmtInRange (Drop e) = TermInRange e
    StmtInRange (Print parts es) = TermsInRange es
    StmtInRange (If c s) = TermInRange c × StmtInRange s
    StmtInRange (IfElse c s t) = TermInRange c × StmtInRange s × StmtInRange t
    StmtInRange (While c s) = TermInRange c × StmtInRange s
    StmtInRange (For c step s) = TermInRange c × StmtInRange step × StmtInRange s
    StmtInRange Break = Unit {0}
    StmtInRange Continue = Unit {0}
    StmtInRange (Par ss) = StmtsInRange ss
    StmtInRange (ParFor k start test line value s) =
        TermInRange start × TermInRange test × TermInRange value × StmtInRange s × (k < vars)
    StmtInRange (Spawn how f es) = TermsInRange es
    StmtInRange (Return e) = TermInRange e
    StmtInRange (Block ss) = StmtsInRange ss
    StmtInRange (Turn s w) = Unit {0}
    StmtInRange (Forks k test line value s made now) = Unit {0}
    StmtInRange (Each k test line value s made) = Unit {0}
    StmtInRange (Wait made) = Unit {0}
    StmtInRange (Left v) = Unit {0}

    pub StmtsInRange : Stmts → Type 0
    StmtsInRange NoStmts = Unit {0}
    StmtsInRange (MoreStmts s ss) = StmtInRange s × StmtsInRange ss

-- a function: its parameters are variables of it
pub record FunctionInRange (classes : ℕ) (f : Function) : Type 0 where
  pub params : length f.shape.params ≤ f.shape.vars
  pub body : StmtsInRange f.shape.vars classes f.body

-- each function of a program
abbrev pub InRange : Program → Type 0
InRange p = (g : ℕ) → g < length p.functions → FunctionInRange (length p.classes) (function p g)
