-- Ownership: which plain variables a thread may write before its next join, and which ones it lends to its branches. A branch is lent what its
-- parent had made before the fork began; until the join the parent writes nothing that is older than that.
use Rattle.std.specs.Prelude.{◌≡◌, ◌≢◌, ◌⊎◌, ℕ, ◌<◌, ◌≤◌, Bool, true, false, List, [], ◌∷◌, get_or, slice_get, Option, Some, None}
use Rattle.std.specs.FinMap as fin
use Rattle.cc_ops.specs.Values.{Void, Int, Null, Ptr, last_offset}
use Rattle.cc_core.specs.Names.{Name, Value}
use Rattle.cc_core.specs.Core.{Env, Term, Push, This, Variable, Member, Index, At}
use Rattle.cc_core.specs.Core.{Load, Unary, Binary, And, Or, New, NewObject, Call, Val, Body, Branch, Starts, Terms, NoTerms, MoreTerms}
use Rattle.cc_core.specs.Core.{MoreCells, Copied, Stmt, Empty, AtLine, Make, Set, Build, Assign, Drop, Print, If, IfElse, While, For}
use Rattle.cc_core.specs.Core.{Break, Continue, Par, ParFor, Spawn, Return, Block, Turn, Forks, Each, Wait, Left, Stmts, NoStmts}
use Rattle.cc_core.specs.Core.{MoreStmts, Program}
use Rattle.cc_core.specs.Asks.{Ask, Calls}
use Rattle.cc_core.specs.Next.{variable, Asks, next}
use Rattle.cc_core.specs.Config.{Config, Thread, Live, Ended, Object}
use Rattle.cc_core.specs.Types.{ValueType, AnAddress, Target, Cells, ObjectOf, FunctionTypes, Types, function_types, no_types, IsAmong}
use Rattle.cc_one_answer.specs.Apart.{IsPlace}
use Rattle.cc_one_answer.specs.Sorts.{Sort, Valued, NamedCell, MemberAt, is_sync, IsCell, IsElement, ObjectType, Named, Uniform, Instance}
use Rattle.cc_one_answer.specs.Sorts.{Kin, World, IsNameIn, IsMineIn, Fits, AllFit, HasSort, CellsFit}
use Rattle.cc_one_answer.specs.Determinate.{IsTaken, DetTerm, DetTerms, DetStmt, DetStmts, DetBranches}

-- an object that t made, not before its object lo
abbrev pub IsOwnAt : Name → ℕ → Value → Type 0
IsOwnAt t lo Void = Unit {0}
IsOwnAt t lo (Int n) = Unit {0}
IsOwnAt t lo Null = Unit {0}
IsOwnAt t lo (Ptr o x) = (i : ℕ) × (o ≡ i ∷ t) × (lo ≤ i)

-- of the variables env, these are
abbrev pub OwnVars : Name → ℕ → Env → List ℕ → Type 0
OwnVars t lo env own = (k : ℕ) → IsAmong k own → IsOwnAt t lo (variable env k Null)

-- the place that is assigned is of such a variable
abbrev pub IsOwnHere : Name → ℕ → Env → Term → Type 0
IsOwnHere t lo env (Push c) = ⊥
IsOwnHere t lo env This = ⊥
IsOwnHere t lo env (Variable k) = IsOwnAt t lo (variable env k Null)
IsOwnHere t lo env (Member e o) = ⊥
IsOwnHere t lo env (Index a n i) = IsOwnHere t lo env a
IsOwnHere t lo env (At a i) = ⊥
IsOwnHere t lo env (Load remote e) = ⊥
IsOwnHere t lo env (Unary op e) = ⊥
IsOwnHere t lo env (Binary op a b) = ⊥
IsOwnHere t lo env (And a b) = ⊥
IsOwnHere t lo env (Or a b) = ⊥
IsOwnHere t lo env (New kind n) = ⊥
IsOwnHere t lo env (NewObject remote c es) = ⊥
IsOwnHere t lo env (Call how f es) = ⊥
IsOwnHere t lo env (Val v) = IsOwnAt t lo v
IsOwnHere t lo env (Body f this e ss) = ⊥
IsOwnHere t lo env (Branch this e s) = ⊥
IsOwnHere t lo env (Starts f this vs) = ⊥

-- a branch of this number was forked here, and its join is not passed
abbrev mutual
  pub PendTerm : Term → ℕ → Type 0
  PendTerm (Push c) b = ⊥
  PendTerm This b = ⊥
  PendTerm (Variable k) b = ⊥
  PendTerm (Member e o) b = PendTerm e b
  PendTerm (Index a n i) b = PendTerm a b ⊎ PendTerm i b
  PendTerm (At a i) b = PendTerm a b ⊎ PendTerm i b
  PendTerm (Load remote e) b = PendTerm e b
  PendTerm (Unary op e) b = PendTerm e b
  PendTerm (Binary op x z) b = PendTerm x b ⊎ PendTerm z b
  PendTerm (And x z) b = PendTerm x b
  PendTerm (Or x z) b = PendTerm x b
  PendTerm (New kind n) b = ⊥
  PendTerm (NewObject remote c es) b = PendTerms es b
  PendTerm (Call how f es) b = PendTerms es b
  PendTerm (Val v) b = ⊥
  PendTerm (Body f this env ss) b = PendStmts ss b
  PendTerm (Branch this env s) b = PendStmt s b
  PendTerm (Starts f this vs) b = ⊥

  pub PendTerms : Terms → ℕ → Type 0
  PendTerms NoTerms b = ⊥
  PendTerms (MoreTerms e es) b = PendTerm e b ⊎ PendTerms es b
  PendTerms (MoreCells e n es) b = ⊥
  PendTerms (Copied vs es) b = ⊥

  pub PendStmt : Stmt → ℕ → Type 0
  PendStmt Empty b = ⊥
  PendStmt (AtLine line s) b = PendStmt s b
  PendStmt (Make k kind n) b = ⊥
  PendStmt (Set k kind e) b = PendTerm e b
  PendStmt (Build k c es) b = PendTerms es b
  PendStmt (Assign remote a e) b = PendTerm a b ⊎ PendTerm e b
  PendStmt (Drop e) b = PendTerm e b
  PendStmt (Print parts es) b = PendTerms es b
  PendStmt (If c s) b = PendTerm c b
  PendStmt (IfElse c s z) b = PendTerm c b
  PendStmt (While c s) b = ⊥
  PendStmt (For c step s) b = ⊥
  PendStmt Break b = ⊥
  PendStmt Continue b = ⊥
  PendStmt (Par ss) b = ⊥
  PendStmt (ParFor k start test line value s) b = PendTerm start b
  PendStmt (Spawn how f es) b = PendTerms es b
  PendStmt (Return e) b = PendTerm e b
  PendStmt (Block ss) b = PendStmts ss b
  PendStmt (Turn s z) b = PendStmt s b ⊎ PendStmt z b
  PendStmt (Forks k test line value s made now) b = PendTerm now b ⊎ IsAmong b made
  PendStmt (Each k test line value s made) b = IsAmong b made
  PendStmt (Wait made) b = IsAmong b made
  PendStmt (Left v) b = ⊥

  pub PendStmts : Stmts → ℕ → Type 0
  PendStmts NoStmts b = ⊥
  PendStmts (MoreStmts s ss) b = PendStmt s b

-- s declares the variable k
abbrev pub IsDeclared : ℕ → Stmt → Type 0
IsDeclared k Empty = ⊥
IsDeclared k (AtLine line s) = IsDeclared k s
IsDeclared k (Make j kind n) = k ≡ j
IsDeclared k (Set j kind e) = k ≡ j
IsDeclared k (Build j c es) = k ≡ j
IsDeclared k (Assign remote a e) = ⊥
IsDeclared k (Drop e) = ⊥
IsDeclared k (Print parts es) = ⊥
IsDeclared k (If c s) = ⊥
IsDeclared k (IfElse c s z) = ⊥
IsDeclared k (While c s) = ⊥
IsDeclared k (For c step s) = ⊥
IsDeclared k Break = ⊥
IsDeclared k Continue = ⊥
IsDeclared k (Par ss) = ⊥
IsDeclared k (ParFor j start test line value s) = ⊥
IsDeclared k (Spawn how f es) = ⊥
IsDeclared k (Return e) = ⊥
IsDeclared k (Block ss) = ⊥
IsDeclared k (Turn s z) = ⊥
IsDeclared k (Forks j test line value s made now) = ⊥
IsDeclared k (Each j test line value s made) = ⊥
IsDeclared k (Wait made) = ⊥
IsDeclared k (Left v) = ⊥

-- branch b of t has a mark of at most n
abbrev pub IsMarked : World → Name → ℕ → ℕ → Type 0
IsMarked w t b n = (k : Kin) × (fin.get w.kin (b ∷ t) ≡ Some k) × (k.mark ≤ n)

-- t's terms in the world w, where main is the number of the function main, and `lent` is what t was lent
module _ (y : Types) (main : ℕ) (t : Name) (lent : List Name) (w : World) where
  -- a variable's address: a plain variable is an object that t made, from its object lo on and before hi, or it was lent
  abbrev pub IsEntryOf : (lo hi : ℕ) → Name → ℕ → Option Target → Type 0
  IsEntryOf lo hi o x None = ⊥
  IsEntryOf lo hi o x (Some (Cells false u)) = (fin.get w.types o ≡ Some (Named u)) × (IsMineIn t lo hi o ⊎ IsNameIn o lent)
  IsEntryOf lo hi o x (Some (Cells true u)) = fin.get w.types o ≡ Some (Uniform true u)
  IsEntryOf lo hi o x (Some (ObjectOf c)) = (fin.get w.types o ≡ Some (Instance c)) × (x ≡ 0)

  abbrev pub IsEntry : (lo hi : ℕ) → Value → Option Target → Type 0
  IsEntry lo hi Void a = Unit {0}
  IsEntry lo hi (Int n) a = Unit {0}
  IsEntry lo hi Null a = Unit {0}
  IsEntry lo hi (Ptr o x) a = IsEntryOf lo hi o x a

  abbrev pub FineEnv : FunctionTypes → (lo hi : ℕ) → Env → Type 0
  FineEnv here lo hi env = (k : ℕ) → IsEntry lo hi (variable env k Null) (slice_get here.vars k)

  -- the object that a function is in
  abbrev pub IsThis : FunctionTypes → Value → Type 0
  IsThis here this = (c : ℕ) → here.this ≡ Some c → Fits w this (AnAddress (ObjectOf c))

  -- an evaluated part
  abbrev pub IsDone : Term → Sort → Type 0
  IsDone e r = (v : Value) × (e ≡ Val v) × HasSort w y t lent v r

  abbrev pub IsWritable : (lo : ℕ) → Env → (sync : Bool) → ValueType → Sort → Term → Type 0
  IsWritable lo env sync u q a = (sync ≡ true) ⊎ ((q ≡ NamedCell u) × IsOwnHere t lo env a)

  -- a part of the source that is still to come
  abbrev pub IsToCome : FunctionTypes → (lo : ℕ) → Bool → Env → Stmt → Type 0
  IsToCome here lo prints env s = (own : List ℕ) × OwnVars t lo env own × DetStmt y main here prints own s

  -- A parfor that has begun: its variable k is t's object with the number `mark`, its other plain variables are older or lent, and the
  -- branches that it made are marked so.
  pub record IsLoop (here : FunctionTypes) (lo hi : ℕ) (env : Env) (k : ℕ) (test : Term) (line : ℕ) (value : Term) (s : Stmt)
      (made : List ℕ) (mark : ℕ) : Type 0 where
    pub low : lo ≤ mark
    pub high : mark < hi
    pub type : ValueType
    pub typed : slice_get here.vars k ≡ Some (Cells false type)
    pub own : (o : Name) (x : ℕ) → variable env k Null ≡ Ptr o x → o ≡ mark ∷ t
    pub older : (j : ℕ) → j ≢ k → IsEntry lo mark (variable env j Null) (slice_get here.vars j)
    pub marked : (b : ℕ) → IsAmong b made → IsMarked w t b mark
    pub test_sort : Sort
    pub test_fine : DetTerm y main here test test_sort
    pub value_fine : DetTerm y main here value (Valued type)
    pub body_fine : DetStmt y main here false (k ∷ []) s

  abbrev mutual
    -- what is left of an expression. lo: the plain variables that it writes itself are t's objects from there on
    pub FineTerm : FunctionTypes → (lo hi : ℕ) → Term → Sort → Type 0
    FineTerm here lo hi (Push c) r = Unit {0}
    FineTerm here lo hi This r = (c : ℕ) × (here.this ≡ Some c) × (r ≡ Valued (AnAddress (ObjectOf c)))
    FineTerm here lo hi (Variable k) r = DetTerm y main here (Variable k) r
    FineTerm here lo hi (Member e o) r =
        (c : ℕ) × (o ≤ last_offset) × FineTerm here lo hi e (Valued (AnAddress (ObjectOf c))) × (r ≡ MemberAt c o)
    FineTerm here lo hi (Index a n i) r = (q : Sort) × (z : Sort) × IsElement y n q r
        × ((FineTerm here lo hi a q × DetTerm y main here i z) ⊎ (IsDone a q × FineTerm here lo hi i z))
    FineTerm here lo hi (At a i) r = (sync : Bool) × (u : ValueType) × (z : Sort) × (r ≡ Valued (AnAddress (Cells sync u)))
        × ((FineTerm here lo hi a r × DetTerm y main here i z) ⊎ (IsDone a r × FineTerm here lo hi i z))
    FineTerm here lo hi (Load remote e) r =
        (q : Sort) × (sync : Bool) × (u : ValueType) × IsCell y q sync u × (r ≡ Valued u) × FineTerm here lo hi e q
    FineTerm here lo hi (Unary op e) r = (q : Sort) × FineTerm here lo hi e q
    FineTerm here lo hi (Binary op a b) r = (q : Sort) × (z : Sort)
        × ((FineTerm here lo hi a q × DetTerm y main here b z) ⊎ (IsDone a q × FineTerm here lo hi b z))
    FineTerm here lo hi (And a b) r = (q : Sort) × (z : Sort) × FineTerm here lo hi a q × DetTerm y main here b z
    FineTerm here lo hi (Or a b) r = (q : Sort) × (z : Sort) × FineTerm here lo hi a q × DetTerm y main here b z
    FineTerm here lo hi (New kind n) r = (u : ValueType) × (r ≡ Valued (AnAddress (Cells (is_sync kind) u)))
    FineTerm here lo hi (NewObject remote c es) r =
        FineTerms here lo hi es (get_or y.makers c []) × (r ≡ Valued (AnAddress (ObjectOf c)))
    FineTerm here lo hi (Call how f es) r =
        (us : List ValueType) × IsTaken y how f us × (f ≢ main) × (r ≡ Valued (function_types y f).result) × FineTerms here lo hi es us
    FineTerm here lo hi (Val v) r = HasSort w y t lent v r
    FineTerm here lo hi (Body f this env ss) r = (prints : Bool) × (prints ≡ true → t ≡ []) × (r ≡ Valued (function_types y f).result)
        × IsThis (function_types y f) this × FineEnv (function_types y f) lo hi env × FineStmts (function_types y f) lo hi prints env ss
    FineTerm here lo hi (Branch this env s) r = (f : ℕ) × (r ≡ Valued (function_types y f).result)
        × IsThis (function_types y f) this × FineEnv (function_types y f) lo hi env × FineStmt (function_types y f) lo hi false env s
    FineTerm here lo hi (Starts f this vs) r = (f ≢ main) × (r ≡ Valued (function_types y f).result)
        × IsThis (function_types y f) this × AllFit w vs (function_types y f).params

    pub FineTerms : FunctionTypes → (lo hi : ℕ) → Terms → List ValueType → Type 0
    FineTerms here lo hi NoTerms us = us ≡ []
    FineTerms here lo hi (MoreTerms e es) us = (u : ValueType) × (more : List ValueType) × (us ≡ u ∷ more)
        × ((FineTerm here lo hi e (Valued u) × DetTerms y main here es more) ⊎ (IsDone e (Valued u) × FineTerms here lo hi es more))
    FineTerms here lo hi (MoreCells e n es) us = ⊥
    FineTerms here lo hi (Copied vs es) us = ⊥

    -- what is left of a statement, with the variables env. prints: it may print
    pub FineStmt : FunctionTypes → (lo hi : ℕ) → (prints : Bool) → Env → Stmt → Type 0
    FineStmt here lo hi prints env Empty = Unit {0}
    FineStmt here lo hi prints env (AtLine line s) = FineStmt here lo hi prints env s
    FineStmt here lo hi prints env (Make k kind n) = (u : ValueType) × (slice_get here.vars k ≡ Some (Cells (is_sync kind) u))
    FineStmt here lo hi prints env (Set k kind e) =
        (u : ValueType) × (slice_get here.vars k ≡ Some (Cells (is_sync kind) u)) × FineTerm here lo hi e (Valued u)
    FineStmt here lo hi prints env (Build k c es) =
        (slice_get here.vars k ≡ Some (ObjectOf c)) × FineTerms here lo hi es (get_or y.makers c [])
    FineStmt here lo hi prints env (Assign remote a e) = (q : Sort) × (sync : Bool) × (u : ValueType) × IsCell y q sync u
        × IsWritable lo env sync u q a
        × ((FineTerm here lo hi a q × DetTerm y main here e (Valued u)) ⊎ (IsDone a q × FineTerm here lo hi e (Valued u)))
    FineStmt here lo hi prints env (Drop e) = (q : Sort) × FineTerm here lo hi e q
    FineStmt here lo hi prints env (Print parts es) = (us : List ValueType) × (prints ≡ true) × FineTerms here lo hi es us
    FineStmt here lo hi prints env (If c s) = (q : Sort) × FineTerm here lo hi c q × FineStmt here lo hi prints env s
    FineStmt here lo hi prints env (IfElse c s z) =
        (q : Sort) × FineTerm here lo hi c q × FineStmt here lo hi prints env s × FineStmt here lo hi prints env z
    FineStmt here lo hi prints env (While c s) = IsToCome here lo prints env (While c s)
    FineStmt here lo hi prints env (For c step s) = IsToCome here lo prints env (For c step s)
    FineStmt here lo hi prints env Break = Unit {0}
    FineStmt here lo hi prints env Continue = Unit {0}
    FineStmt here lo hi prints env (Par ss) = DetBranches y main here ss
    FineStmt here lo hi prints env (ParFor k start test line value s) = (u : ValueType) × (q : Sort)
        × (slice_get here.vars k ≡ Some (Cells false u)) × FineTerm here lo hi start (Valued u) × DetTerm y main here test q
        × DetTerm y main here value (Valued u) × DetStmt y main here false (k ∷ []) s
    FineStmt here lo hi prints env (Spawn how f es) =
        (us : List ValueType) × IsTaken y how f us × (f ≢ main) × FineTerms here lo hi es us
    FineStmt here lo hi prints env (Return e) = FineTerm here lo hi e (Valued here.result)
    FineStmt here lo hi prints env (Block ss) = FineStmts here lo hi prints env ss
    FineStmt here lo hi prints env (Turn s z) = (FineStmt here lo hi prints env s × IsToCome here lo prints env z)
        ⊎ ((k : ℕ) × (test : Term) × (line : ℕ) × (value : Term) × (body : Stmt) × (made : List ℕ) × (mark : ℕ) × (u : ValueType)
        × (z ≡ Forks k test line value body made test) × (slice_get here.vars k ≡ Some (Cells false u))
        × IsLoop here lo hi env k test line value body made mark × FineHeader here mark hi env k u s)
    FineStmt here lo hi prints env (Forks k test line value s made now) = (mark : ℕ) × (q : Sort) × FineTerm here mark hi now q
        × IsLoop here lo hi env k test line value s made mark
    FineStmt here lo hi prints env (Each k test line value s made) = (mark : ℕ) × IsLoop here lo hi env k test line value s made mark
    FineStmt here lo hi prints env (Wait made) = Unit {0}
    FineStmt here lo hi prints env (Left v) = Fits w v here.result

    -- the last part of the header of a parfor over k, whose plain variable is t's object with the number `mark`
    pub FineHeader : FunctionTypes → (mark hi : ℕ) → Env → (k : ℕ) → ValueType → Stmt → Type 0
    FineHeader here mark hi env k u Empty = Unit {0}
    FineHeader here mark hi env k u (AtLine line s) = FineHeader here mark hi env k u s
    FineHeader here mark hi env k u (Make j kind n) = ⊥
    FineHeader here mark hi env k u (Set j kind e) = ⊥
    FineHeader here mark hi env k u (Build j c es) = ⊥
    FineHeader here mark hi env k u (Assign remote a e) = (remote ≡ false) × ((a ≡ Variable k) ⊎ (a ≡ Val (variable env k Null)))
        × FineTerm here mark hi e (Valued u)
    FineHeader here mark hi env k u (Drop e) = ⊥
    FineHeader here mark hi env k u (Print parts es) = ⊥
    FineHeader here mark hi env k u (If c s) = ⊥
    FineHeader here mark hi env k u (IfElse c s z) = ⊥
    FineHeader here mark hi env k u (While c s) = ⊥
    FineHeader here mark hi env k u (For c step s) = ⊥
    FineHeader here mark hi env k u Break = ⊥
    FineHeader here mark hi env k u Continue = ⊥
    FineHeader here mark hi env k u (Par ss) = ⊥
    FineHeader here mark hi env k u (ParFor j start test line value s) = ⊥
    FineHeader here mark hi env k u (Spawn how f es) = ⊥
    FineHeader here mark hi env k u (Return e) = ⊥
    FineHeader here mark hi env k u (Block ss) = ⊥
    FineHeader here mark hi env k u (Turn s z) = ⊥
    FineHeader here mark hi env k u (Forks j test line value s made now) = ⊥
    FineHeader here mark hi env k u (Each j test line value s made) = ⊥
    FineHeader here mark hi env k u (Wait made) = ⊥
    FineHeader here mark hi env k u (Left v) = ⊥

    -- what follows s in a list may use the variable that s is about to declare
    pub FineStmts : FunctionTypes → (lo hi : ℕ) → (prints : Bool) → Env → Stmts → Type 0
    FineStmts here lo hi prints env NoStmts = Unit {0}
    FineStmts here lo hi prints env (MoreStmts s ss) = (own : List ℕ) × FineStmt here lo hi prints env s
        × ((k : ℕ) → IsAmong k own → IsOwnAt t lo (variable env k Null) ⊎ IsDeclared k s) × DetStmts y main here prints own ss

-- o is lent to t by the thread that forked it, whose join is not passed: it is older than the fork, or was lent to that thread itself
pub record IsLent (s : Config) (w : World) (t : Name) (mark : ℕ) (o : Name) : Type 0 where
  pub number : ℕ
  pub parent : Name
  pub is : t ≡ number ∷ parent
  pub l : Thread
  pub live : fin.get s.threads parent ≡ Some (Live l)
  pub pending : PendTerm l.term number
  pub kin : Kin
  pub has_kin : fin.get w.kin parent ≡ Some kin
  pub whose : ((i : ℕ) × (o ≡ i ∷ parent) × (i < mark)) ⊎ IsNameIn o kin.lent

-- what a remote call gives
abbrev pub IsCallOf : Types → Ask Name → ValueType → Type 0
IsCallOf y (Calls f o vs) u = u ≡ (function_types y f).result
IsCallOf y q u = ⊥

-- the configuration s is owned, in a world w
pub record IsOwned (p : Program) (y : Types) (w : World) (s : Config) : Type 0 where
  pub kin : (t : Name) (l : Thread) → fin.get s.threads t ≡ Some (Live l) → (k : Kin) × (fin.get w.kin t ≡ Some k)
  pub fine : (t : Name) (l : Thread) (k : Kin) → fin.get s.threads t ≡ Some (Live l) → fin.get w.kin t ≡ Some k
      → FineTerm y p.main t k.lent w no_types 0 l.objects l.term (Valued k.result)
  pub lent : (t : Name) (l : Thread) (k : Kin) (o : Name) (u : ValueType) → fin.get s.threads t ≡ Some (Live l)
      → fin.get w.kin t ≡ Some k → IsNameIn o k.lent → fin.get w.types o ≡ Some (Named u) → IsLent s w t k.mark o
  pub ended : (t : Name) (v : Value) (k : Kin) → fin.get s.threads t ≡ Some (Ended v) → fin.get w.kin t ≡ Some k → Fits w v k.result
  pub asked : (t : Name) (l : Thread) (made : ℕ) → fin.get s.threads t ≡ Some (Live l) → l.asked ≡ Some made
      → (k : Kin) × (fin.get w.kin (made ∷ t) ≡ Some k)
      × ((line : ℕ) (q : Ask Name) (go : _) → next p l.term ≡ Asks line q go → IsCallOf y q k.result)
  pub typed : (t : Name) (k : Kin) (o : Name) → fin.get w.kin t ≡ Some k → IsNameIn o k.lent → (a : ObjectType) × (fin.get w.types o ≡ Some a)
  pub known : (t : Name) (k : Kin) → fin.get w.kin t ≡ Some k → fin.get s.threads t ≡ None → ⊥
  pub store : (o : Name) (a : ObjectType) → fin.get w.types o ≡ Some a
      → (x : Object) × (fin.get s.objects o ≡ Some x) × CellsFit w y a x.cells
  pub places : (t : Name) (l : Thread) → fin.get s.threads t ≡ Some (Live l) → IsPlace s l.home
  pub homes : (o : Name) (x : Object) → fin.get s.objects o ≡ Some x → IsPlace s x.home
