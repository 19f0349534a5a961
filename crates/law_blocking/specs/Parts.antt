-- Every part of a statement of the core language.
use Rattle.cc_core.specs.Core.{Term, Push, This, Variable, Member, Index, At, Load, Unary, Binary, And, Or, New, NewObject, Call, Val, Body, Branch}
use Rattle.cc_core.specs.Core.{Starts, Terms, NoTerms, MoreTerms, MoreCells, Copied, Stmt, Empty, AtLine, Make, Set, Build, Assign, Drop, Print, If}
use Rattle.cc_core.specs.Core.{IfElse, While, For, Break, Continue, Par, ParFor, Spawn, Return, Block, Turn, Forks, Each, Wait, Left, Stmts}
use Rattle.cc_core.specs.Core.{NoStmts, MoreStmts}

-- P holds of each expression that stands in it, and Q of each statement, itself among them. Nothing runs in it
module _ (P : Term → Type 0) (Q : Stmt → Type 0) where
  abbrev mutual
    pub EachTerm : Term → Type 0
    EachTerm (Push c) = P (Push c)
    EachTerm This = P This
    EachTerm (Variable k) = P (Variable k)
    EachTerm (Member e o) = P (Member e o) × EachTerm e
    EachTerm (Index e n i) = P (Index e n i) × EachTerm e × EachTerm i
    EachTerm (At e i) = P (At e i) × EachTerm e × EachTerm i
    EachTerm (Load remote e) = P (Load remote e) × EachTerm e
    EachTerm (Unary op e) = P (Unary op e) × EachTerm e
    EachTerm (Binary op a b) = P (Binary op a b) × EachTerm a × EachTerm b
    EachTerm (And a b) = P (And a b) × EachTerm a × EachTerm b
    EachTerm (Or a b) = P (Or a b) × EachTerm a × EachTerm b
    EachTerm (New kind n) = P (New kind n)
    EachTerm (NewObject remote c es) = P (NewObject remote c es) × EachOfTerms es
    EachTerm (Call how f es) = P (Call how f es) × EachOfTerms es
    EachTerm (Val v) = ⊥
    EachTerm (Body f this env ss) = ⊥
    EachTerm (Branch this env s) = ⊥
    EachTerm (Starts f this vs) = ⊥

    pub EachOfTerms : Terms → Type 0
    EachOfTerms NoTerms = Unit {0}
    EachOfTerms (MoreTerms e es) = EachTerm e × EachOfTerms es
    EachOfTerms (MoreCells e n es) = EachTerm e × EachOfTerms es
    EachOfTerms (Copied vs es) = ⊥

  abbrev mutual
    pub EachStmt : Stmt → Type 0
    EachStmt Empty = Q Empty
    EachStmt (AtLine line s) = Q (AtLine line s) × EachStmt s
    EachStmt (Make k kind n) = Q (Make k kind n)
    EachStmt (Set k kind e) = Q (Set k kind e) × EachTerm e
    EachStmt (Build k c es) = Q (Build k c es) × EachOfTerms es
    EachStmt (Assign remote e e') = Q (Assign remote e e') × EachTerm e × EachTerm e'
    EachStmt (Drop e) = Q (Drop e) × EachTerm e
    EachStmt (Print parts es) = Q (Print parts es) × EachOfTerms es
    EachStmt (If c s) = Q (If c s) × EachTerm c × EachStmt s
    EachStmt (IfElse c s t) = Q (IfElse c s t) × EachTerm c × EachStmt s × EachStmt t
    EachStmt (While c s) = Q (While c s) × EachTerm c × EachStmt s
    EachStmt (For c step s) = Q (For c step s) × EachTerm c × EachStmt step × EachStmt s
    EachStmt Break = Q Break
    EachStmt Continue = Q Continue
    EachStmt (Par ss) = Q (Par ss) × EachOfStmts ss
    EachStmt (ParFor k start test line value s) = Q (ParFor k start test line value s) × EachTerm start × EachTerm test × EachTerm value × EachStmt s
    EachStmt (Spawn how f es) = Q (Spawn how f es) × EachOfTerms es
    EachStmt (Return e) = Q (Return e) × EachTerm e
    EachStmt (Block ss) = Q (Block ss) × EachOfStmts ss
    EachStmt (Turn s t) = ⊥
    EachStmt (Forks k test line value s made now) = ⊥
    EachStmt (Each k test line value s made) = ⊥
    EachStmt (Wait made) = ⊥
    EachStmt (Left v) = ⊥

    pub EachOfStmts : Stmts → Type 0
    EachOfStmts NoStmts = Unit {0}
    EachOfStmts (MoreStmts s ss) = EachStmt s × EachOfStmts ss
