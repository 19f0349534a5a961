-- What a thread does with its values itself, before it asks: it takes members' addresses, tests, and hands over what a call or a remote
-- write takes. Each such value has the kind that is wanted.
use Rattle.std.specs.Prelude.{◌≡◌, ℕ, Bool, true, false, List, [], ◌∷◌}
use Rattle.cc_ops.specs.Classes.{all_kinds}
use Rattle.cc_core.specs.Names.{Value}
use Rattle.cc_core.specs.Core.{Env, How, Alone, On, Remote, Program, function, Term, Push, This, Variable, Member, Index, At as AtPointer, Load}
use Rattle.cc_core.specs.Core.{Unary, Binary, And, Or, New, NewObject, Call, Val, Body, Branch, Starts, Terms, NoTerms, MoreTerms}
use Rattle.cc_core.specs.Core.{MoreCells, Copied, Stmt, Empty, AtLine, Make, Set, Build, Assign, Drop, Print, If, IfElse, While, For}
use Rattle.cc_core.specs.Core.{Break, Continue, Par, ParFor, Spawn, Return, Block, Turn, Forks, Each, Wait, Left, Stmts, NoStmts}
use Rattle.cc_core.specs.Core.{MoreStmts}
use Rattle.cc_core.specs.Next.{Next, Ready, Asks, Ending, Falls, Returns, Breaks, Continues, next_term, next_terms, next_stmt}
use Rattle.core_types.specs.Kinds.{IsInt, IsAddress, AreOfKinds, AreValues}

-- of a part: what it asks, or, once it has a value, what is asked with that
abbrev pub At : {V A : Type 0} → Next V A → (asks : Type 0) → (V → Type 0) → Type 0
At (Ready v) asks has = has v
At (Asks line ask k) asks has = asks

-- behind a statement of a list
abbrev pub Behind : Ending → (Env → Type 0) → Type 0
Behind (Falls env) rest = rest env
Behind (Returns v) rest = Unit {0}
Behind (Breaks env) rest = Unit {0}
Behind (Continues env) rest = Unit {0}

-- behind a turn of a loop
abbrev pub BehindTurn : Ending → (Env → Type 0) → Type 0
BehindTurn (Falls env) rest = rest env
BehindTurn (Returns v) rest = Unit {0}
BehindTurn (Breaks env) rest = Unit {0}
BehindTurn (Continues env) rest = rest env

-- where it goes to another processor: each is an int or an address
abbrev pub MayGo : (remote : Bool) → List Value → Type 0
MayGo false vs = Unit {0}
MayGo true vs = AreValues vs

-- the object first, where there is one, and a value of its kind for each parameter
abbrev pub OnObject : Program → ℕ → List Value → Type 0
OnObject p f vs = (o : Value) × (more : List Value) × (vs ≡ o ∷ more) × IsAddress o × AreOfKinds (all_kinds (function p f).shape.params) more

abbrev pub IsHanded : Program → How → ℕ → List Value → Type 0
IsHanded p Alone f vs = AreOfKinds (all_kinds (function p f).shape.params) vs
IsHanded p On f vs = OnObject p f vs
IsHanded p Remote f vs = OnObject p f vs

module _ (p : Program) where
  abbrev mutual
    -- of a term in a function of object `this`, with the variables env
    pub IsStrict : (n : ℕ) → (this : Value) → Env → Term → Type 0
    IsStrict n this env (Push c) = Unit {0}
    IsStrict n this env This = Unit {0}
    IsStrict n this env (Variable k) = Unit {0}
    IsStrict n this env (Member e o) = At (next_term p n this env e) (IsStrict n this env e) IsAddress
    IsStrict n this env (Index e size i) = At (next_term p n this env e) (IsStrict n this env e) (λ v. IsStrict n this env i)
    IsStrict n this env (AtPointer e i) = At (next_term p n this env e) (IsStrict n this env e) (λ v. IsStrict n this env i)
    IsStrict n this env (Load remote e) = IsStrict n this env e
    IsStrict n this env (Unary op e) = IsStrict n this env e
    IsStrict n this env (Binary op a b) = At (next_term p n this env a) (IsStrict n this env a) (λ v. IsStrict n this env b)
    IsStrict n this env (And a b) = At (next_term p n this env a) (IsStrict n this env a) IsInt
    IsStrict n this env (Or a b) = At (next_term p n this env a) (IsStrict n this env a) IsInt
    IsStrict n this env (New kind size) = Unit {0}
    IsStrict n this env (NewObject remote c es) = At (next_terms p n this env es) (AreStrict n this env es) (MayGo remote)
    IsStrict n this env (Call how f es) = At (next_terms p n this env es) (AreStrict n this env es) (IsHanded p how f)
    IsStrict n this env (Val v) = Unit {0}
    IsStrict n this env (Body f this' env' ss) = AreStrictStmts (function p f).shape.line this' env' ss
    IsStrict n this env (Branch this' env' s) = IsStrictStmt 0 this' env' s
    IsStrict n this env (Starts f this' vs) = Unit {0}

    pub AreStrict : (n : ℕ) → (this : Value) → Env → Terms → Type 0
    AreStrict n this env NoTerms = Unit {0}
    AreStrict n this env (MoreTerms e es) = At (next_term p n this env e) (IsStrict n this env e) (λ v. AreStrict n this env es)
    AreStrict n this env (MoreCells e size es) = IsStrict n this env e
    AreStrict n this env (Copied vs es) = AreStrict n this env es

    pub IsStrictStmt : (n : ℕ) → (this : Value) → Env → Stmt → Type 0
    IsStrictStmt n this env Empty = Unit {0}
    IsStrictStmt n this env (AtLine line s) = IsStrictStmt line this env s
    IsStrictStmt n this env (Make k kind size) = Unit {0}
    IsStrictStmt n this env (Set k kind e) = IsStrict n this env e
    IsStrictStmt n this env (Build k c es) = AreStrict n this env es
    IsStrictStmt n this env (Assign remote a e) = At (next_term p n this env a) (IsStrict n this env a) (λ v.
        At (next_term p n this env e) (IsStrict n this env e) (λ w. MayGo remote (w ∷ [])))
    IsStrictStmt n this env (Drop e) = IsStrict n this env e
    IsStrictStmt n this env (Print parts es) = AreStrict n this env es
    IsStrictStmt n this env (If c s) = At (next_term p n this env c) (IsStrict n this env c) IsInt
    IsStrictStmt n this env (IfElse c s t) = At (next_term p n this env c) (IsStrict n this env c) IsInt
    IsStrictStmt n this env (While c s) = At (next_term p n this env c) (IsStrict n this env c) IsInt
    IsStrictStmt n this env (For c step s) = At (next_term p n this env c) (IsStrict n this env c) IsInt
    IsStrictStmt n this env Break = Unit {0}
    IsStrictStmt n this env Continue = Unit {0}
    IsStrictStmt n this env (Par ss) = Unit {0}
    IsStrictStmt n this env (ParFor k start test line value s) = IsStrict n this env start
    IsStrictStmt n this env (Spawn how f es) = At (next_terms p n this env es) (AreStrict n this env es) (IsHanded p how f)
    IsStrictStmt n this env (Return e) = IsStrict n this env e
    IsStrictStmt n this env (Block ss) = AreStrictStmts n this env ss
    IsStrictStmt n this env (Turn s t) =
        At (next_stmt p n this env s) (IsStrictStmt n this env s) (λ end. BehindTurn end (λ env'. IsStrictStmt n this env' t))
    IsStrictStmt n this env (Forks k test line value s made now) = At (next_term p n this env now) (IsStrict n this env now) IsInt
    IsStrictStmt n this env (Each k test line value s made) = Unit {0}
    IsStrictStmt n this env (Wait made) = Unit {0}
    IsStrictStmt n this env (Left v) = Unit {0}

    pub AreStrictStmts : (n : ℕ) → (this : Value) → Env → Stmts → Type 0
    AreStrictStmts n this env NoStmts = Unit {0}
    AreStrictStmts n this env (MoreStmts s ss) =
        At (next_stmt p n this env s) (IsStrictStmt n this env s) (λ end. Behind end (λ env'. AreStrictStmts n this env' ss))
