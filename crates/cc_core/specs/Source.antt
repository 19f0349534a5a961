-- What the front end makes: no running form stands in it, each call names a function that there is and hands over as many values as it
-- takes, and break and continue stand in loops.
use Rattle.std.specs.Prelude.{◌≡◌, ℕ, suc, ◌+◌, ◌<◌, Bool, true, false, List, [], ◌∷◌, length}
use Rattle.cc_ops.specs.Operators.{takes}
use Rattle.cc_ops.specs.Classes.{arity}
use Rattle.cc_core.specs.Core.{How, Alone, On, Remote, PrintPart, Number, Text, Endl, Term, Push, This, Variable, Member, Index, At}
use Rattle.cc_core.specs.Core.{Load, Unary, Binary, And, Or, New, NewObject, Call, Val, Body, Branch, Starts, Terms, NoTerms, MoreTerms}
use Rattle.cc_core.specs.Core.{MoreCells, Copied, Stmt, Empty, AtLine, Make, Set, Build, Assign, Drop, Print, If, IfElse, While, For}
use Rattle.cc_core.specs.Core.{Break, Continue, Par, ParFor, Spawn, Return, Block, Turn, Forks, Each, Wait, Left, Stmts, NoStmts}
use Rattle.cc_core.specs.Core.{MoreStmts, Program, function, Shapes, shapes, function_shape, class_shape}

-- the number of values of some arguments
abbrev pub width : Terms → ℕ
width NoTerms = 0
width (MoreTerms e es) = suc (width es)
width (MoreCells e n es) = n + width es
width (Copied vs es) = 0

-- the number of values that a call takes: the object, where there is one, and a value for each cell of a parameter
abbrev pub objects : How → ℕ
objects Alone = 0
objects On = 1
objects Remote = 1

abbrev pub operands : Shapes → How → ℕ → ℕ
operands h how f = objects how + arity (function_shape h f).params

-- the number of values that are printed
abbrev pub values : List PrintPart → ℕ
values [] = 0
values (Number ∷ parts) = suc (values parts)
values (Text bytes ∷ parts) = values parts
values (Endl ∷ parts) = values parts

abbrev pub IsCalled : Shapes → How → ℕ → Terms → Type 0
IsCalled h how f es = (f < length h.functions) × (width es ≡ operands h how f)

abbrev pub IsBuilt : Shapes → ℕ → Terms → Type 0
IsBuilt h c es = width es ≡ (class_shape h c).params

abbrev pub InLoop : Bool → Type 0
InLoop true = Unit {0}
InLoop false = ⊥

module _ (h : Shapes) where
  abbrev mutual
    pub IsTerm : Term → Type 0
    IsTerm (Push c) = Unit {0}
    IsTerm This = Unit {0}
    IsTerm (Variable k) = Unit {0}
    IsTerm (Member e o) = IsTerm e
    IsTerm (Index x n y) = IsTerm x × IsTerm y
    IsTerm (At x y) = IsTerm x × IsTerm y
    IsTerm (Load remote e) = IsTerm e
    IsTerm (Unary op e) = IsTerm e × (takes op ≡ 1)
    IsTerm (Binary op x y) = IsTerm x × IsTerm y × (takes op ≡ 2)
    IsTerm (And x y) = IsTerm x × IsTerm y
    IsTerm (Or x y) = IsTerm x × IsTerm y
    IsTerm (New kind n) = Unit {0}
    IsTerm (NewObject remote c es) = AreTerms es × IsBuilt h c es
    IsTerm (Call how f es) = AreTerms es × IsCalled h how f es
    IsTerm (Val v) = ⊥
    IsTerm (Body f this env ss) = ⊥
    IsTerm (Branch this env s) = ⊥
    IsTerm (Starts f this vs) = ⊥

    pub AreTerms : Terms → Type 0
    AreTerms NoTerms = Unit {0}
    AreTerms (MoreTerms e es) = IsTerm e × AreTerms es
    AreTerms (MoreCells e n es) = IsTerm e × AreTerms es
    AreTerms (Copied vs es) = ⊥

  abbrev mutual
    pub IsStmt : (loop : Bool) → Stmt → Type 0
    IsStmt l Empty = Unit {0}
    IsStmt l (AtLine line s) = IsStmt l s
    IsStmt l (Make k kind n) = Unit {0}
    IsStmt l (Set k kind e) = IsTerm e
    IsStmt l (Build k c es) = AreTerms es × IsBuilt h c es
    IsStmt l (Assign remote x y) = IsTerm x × IsTerm y
    IsStmt l (Drop e) = IsTerm e
    IsStmt l (Print parts es) = AreTerms es × (width es ≡ values parts)
    IsStmt l (If c s) = IsTerm c × IsStmt l s
    IsStmt l (IfElse c s t) = IsTerm c × IsStmt l s × IsStmt l t
    IsStmt l (While c s) = IsTerm c × IsStmt true s
    IsStmt l (For c step s) = IsTerm c × IsStmt false step × IsStmt true s
    IsStmt l Break = InLoop l
    IsStmt l Continue = InLoop l
    IsStmt l (Par ss) = AreStmts false ss
    IsStmt l (ParFor k start test line value s) = IsTerm start × IsTerm test × IsTerm value × IsStmt false s
    IsStmt l (Spawn how f es) = AreTerms es × IsCalled h how f es
    IsStmt l (Return e) = IsTerm e
    IsStmt l (Block ss) = AreStmts l ss
    IsStmt l (Turn s w) = ⊥
    IsStmt l (Forks k test line value s made now) = ⊥
    IsStmt l (Each k test line value s made) = ⊥
    IsStmt l (Wait made) = ⊥
    IsStmt l (Left v) = ⊥

    pub AreStmts : (loop : Bool) → Stmts → Type 0
    AreStmts l NoStmts = Unit {0}
    AreStmts l (MoreStmts s ss) = IsStmt l s × AreStmts l ss

-- each body of a function is a source
abbrev pub IsProgram : Program → Type 0
IsProgram p = (g : ℕ) → g < length p.functions → AreStmts (shapes p) false (function p g).body
