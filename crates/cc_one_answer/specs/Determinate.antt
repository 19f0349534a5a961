-- Sources that share nothing which makes their answers depend on the order of steps.
--
-- A parallel part is the body of a function, one statement of a par, or the body of a parfor, without the parts inside it. In such a source
-- no pointer leads to a plain variable, only sync cells are written through a pointer or as members, a plain variable is written by the part
-- alone that declares it, only main prints, outside of its branches, and no function is atomic.
use Rattle.std.specs.Prelude.{◌≡◌, ◌≢◌, ◌⊎◌, ℕ, suc, ◌+◌, ◌<◌, ◌≤◌, Bool, true, false, List, [], ◌∷◌, get_or, slice_get, Option, Some, None, length}
use Rattle.cc_ops.specs.Values.{last_offset}
use Rattle.cc_ops.specs.Classes.{BuildExpr, Literal, Param, Apply, Both, Either, BuildSet}
use Rattle.cc_ops.specs.declared.kind.Kind.{Kind}
use Rattle.cc_ops.specs.declared.shape.CellRun.{CellRun}
use Rattle.cc_core.specs.Core.{How, Alone, On, Remote, Term, Push, This, Variable, Member, Index, At}
use Rattle.cc_core.specs.Core.{Load, Unary, Binary, And, Or, New, NewObject, Call, Val, Body, Branch, Starts, Terms, NoTerms, MoreTerms}
use Rattle.cc_core.specs.Core.{MoreCells, Copied, Stmt, Empty, AtLine, Make, Set, Build, Assign, Drop, Print, If, IfElse, While, For}
use Rattle.cc_core.specs.Core.{Break, Continue, Par, ParFor, Spawn, Return, Block, Turn, Forks, Each, Wait, Left, Stmts, NoStmts}
use Rattle.cc_core.specs.Core.{MoreStmts, Program, function, shapes, class_shape}
use Rattle.cc_core.specs.Effects.{numbers}
use Rattle.cc_core.specs.Types.{ValueType, AnAddress, Target, Cells, ObjectOf, FunctionTypes, Types, function_types, IsOwnPlace, declares}
use Rattle.cc_one_answer.specs.Sorts.{Sort, Valued, NamedCell, MemberAt, variable_sort, is_sync, member, IsCell, IsElement}

-- the values that a call takes: the object, where there is one, and the parameters
abbrev pub IsTaken : Types → How → ℕ → List ValueType → Type 0
IsTaken y Alone f us = us ≡ (function_types y f).params
IsTaken y On f us = (c : ℕ) × ((function_types y f).this ≡ Some c) × (us ≡ AnAddress (ObjectOf c) ∷ (function_types y f).params)
IsTaken y Remote f us = (c : ℕ) × ((function_types y f).this ≡ Some c) × (us ≡ AnAddress (ObjectOf c) ∷ (function_types y f).params)

-- main: the number of the function main, which is not called. here: the types of the function in which a term stands
module _ (y : Types) (main : ℕ) (here : FunctionTypes) where
  abbrev mutual
    pub DetTerm : Term → Sort → Type 0
    DetTerm (Push c) r = Unit {0}
    DetTerm This r = (c : ℕ) × (here.this ≡ Some c) × (r ≡ Valued (AnAddress (ObjectOf c)))
    DetTerm (Variable k) r = (a : Target) × (slice_get here.vars k ≡ Some a) × (r ≡ variable_sort a)
    DetTerm (Member e o) r = (c : ℕ) × (o ≤ last_offset) × DetTerm e (Valued (AnAddress (ObjectOf c))) × (r ≡ MemberAt c o)
    DetTerm (Index a n i) r = (q : Sort) × (z : Sort) × IsElement y n q r × DetTerm a q × DetTerm i z
    DetTerm (At a i) r = (sync : Bool) × (u : ValueType) × (z : Sort) × (r ≡ Valued (AnAddress (Cells sync u))) × DetTerm a r × DetTerm i z
    DetTerm (Load remote e) r = (q : Sort) × (sync : Bool) × (u : ValueType) × IsCell y q sync u × (r ≡ Valued u) × DetTerm e q
    DetTerm (Unary op e) r = (q : Sort) × DetTerm e q
    DetTerm (Binary op a b) r = (q : Sort) × (z : Sort) × DetTerm a q × DetTerm b z
    DetTerm (And a b) r = (q : Sort) × (z : Sort) × DetTerm a q × DetTerm b z
    DetTerm (Or a b) r = (q : Sort) × (z : Sort) × DetTerm a q × DetTerm b z
    DetTerm (New kind n) r = (u : ValueType) × (r ≡ Valued (AnAddress (Cells (is_sync kind) u)))
    DetTerm (NewObject remote c es) r = DetTerms es (get_or y.makers c []) × (r ≡ Valued (AnAddress (ObjectOf c)))
    DetTerm (Call how f es) r =
        (us : List ValueType) × IsTaken y how f us × (f ≢ main) × (r ≡ Valued (function_types y f).result) × DetTerms es us
    DetTerm (Val v) r = ⊥
    DetTerm (Body f this env ss) r = ⊥
    DetTerm (Branch this env s) r = ⊥
    DetTerm (Starts f this vs) r = ⊥

    -- no object of a class is handed over by value
    pub DetTerms : Terms → List ValueType → Type 0
    DetTerms NoTerms us = us ≡ []
    DetTerms (MoreTerms e es) us =
        (u : ValueType) × (more : List ValueType) × (us ≡ u ∷ more) × DetTerm e (Valued u) × DetTerms es more
    DetTerms (MoreCells e n es) us = ⊥
    DetTerms (Copied vs es) us = ⊥

  -- a sync cell may be written anywhere, a plain variable by the part that declared it
  abbrev pub MayWrite : (sync : Bool) → ValueType → Sort → (own : List ℕ) → Term → Type 0
  MayWrite sync u q own place = (sync ≡ true) ⊎ ((q ≡ NamedCell u) × IsOwnPlace own place)

  abbrev mutual
    -- prints: it stands in main, and in no branch. own: the variables that its part has declared before it
    pub DetStmt : (prints : Bool) → (own : List ℕ) → Stmt → Type 0
    DetStmt prints own Empty = Unit {0}
    DetStmt prints own (AtLine line s) = DetStmt prints own s
    DetStmt prints own (Make k kind n) = (u : ValueType) × (slice_get here.vars k ≡ Some (Cells (is_sync kind) u))
    DetStmt prints own (Set k kind e) =
        (u : ValueType) × (slice_get here.vars k ≡ Some (Cells (is_sync kind) u)) × DetTerm e (Valued u)
    DetStmt prints own (Build k c es) = (slice_get here.vars k ≡ Some (ObjectOf c)) × DetTerms es (get_or y.makers c [])
    DetStmt prints own (Assign remote a e) = (q : Sort) × (sync : Bool) × (u : ValueType) × IsCell y q sync u × MayWrite sync u q own a
        × DetTerm a q × DetTerm e (Valued u)
    DetStmt prints own (Drop e) = (q : Sort) × DetTerm e q
    DetStmt prints own (Print parts es) = (us : List ValueType) × (prints ≡ true) × DetTerms es us
    DetStmt prints own (If c s) = (q : Sort) × DetTerm c q × DetStmt prints own s
    DetStmt prints own (IfElse c s z) = (q : Sort) × DetTerm c q × DetStmt prints own s × DetStmt prints own z
    DetStmt prints own (While c s) = (q : Sort) × DetTerm c q × DetStmt prints own s
    DetStmt prints own (For c step s) =
        (q : Sort) × (declares step own ≡ own) × DetTerm c q × DetStmt prints own step × DetStmt prints own s
    DetStmt prints own Break = Unit {0}
    DetStmt prints own Continue = Unit {0}
    DetStmt prints own (Par ss) = DetBranches ss
    DetStmt prints own (ParFor k start test line value s) = (u : ValueType) × (q : Sort) × (slice_get here.vars k ≡ Some (Cells false u))
        × DetTerm start (Valued u) × DetTerm test q × DetTerm value (Valued u) × DetStmt false (k ∷ []) s
    DetStmt prints own (Spawn how f es) = (us : List ValueType) × IsTaken y how f us × (f ≢ main) × DetTerms es us
    DetStmt prints own (Return e) = DetTerm e (Valued here.result)
    DetStmt prints own (Block ss) = DetStmts prints own ss
    DetStmt prints own (Turn s w) = ⊥
    DetStmt prints own (Forks k test line value s made now) = ⊥
    DetStmt prints own (Each k test line value s made) = ⊥
    DetStmt prints own (Wait made) = ⊥
    DetStmt prints own (Left v) = ⊥

    pub DetStmts : (prints : Bool) → (own : List ℕ) → Stmts → Type 0
    DetStmts prints own NoStmts = Unit {0}
    DetStmts prints own (MoreStmts s ss) = DetStmt prints own s × DetStmts prints (declares s own) ss

    pub DetBranches : Stmts → Type 0
    DetBranches NoStmts = Unit {0}
    DetBranches (MoreStmts s ss) = DetStmt false [] s × DetBranches ss

-- each parameter is a plain variable of one cell, of the type of the value that is handed over for it
abbrev pub AreParameters : (vars : List Target) → (k : ℕ) → List (List Kind) → List ValueType → Type 0
AreParameters vars k [] us = us ≡ []
AreParameters vars k ([] ∷ more) us = ⊥
AreParameters vars k ((kind ∷ []) ∷ more) us = (u : ValueType) × (rest : List ValueType) × (us ≡ u ∷ rest)
    × (slice_get vars k ≡ Some (Cells (is_sync kind) u)) × AreParameters vars (suc k) more rest
AreParameters vars k ((kind ∷ other ∷ kinds) ∷ more) us = ⊥

-- a constructor: each of its runs of cells and each of its assignments has the types of the class
abbrev pub IsBuiltFrom : List ValueType → BuildExpr → ValueType → Type 0
IsBuiltFrom params (Literal c) u = Unit {0}
IsBuiltFrom params (Param k) u = slice_get params k ≡ Some u
IsBuiltFrom params (Apply op es) u = Unit {0}
IsBuiltFrom params (Both a b) u = Unit {0}
IsBuiltFrom params (Either a b) u = Unit {0}

module _ (y : Types) (c : ℕ) where
  abbrev pub AreRuns : (at : ℕ) → List CellRun → Type 0
  AreRuns at [] = Unit {0}
  AreRuns at (run ∷ more) =
      ((j : ℕ) → j < run.count → (u : ValueType) × (member y c (at + j) ≡ Some (Cells (is_sync run.kind) u)))
      × AreRuns (at + run.count) more

  abbrev pub IsSetAt : Option BuildExpr → BuildSet → ValueType → Type 0
  IsSetAt None set u = (sync : Bool) × (member y c set.offset ≡ Some (Cells sync u))
  IsSetAt (Some e) set u = (sync : Bool) × ((j : ℕ) → j < set.length → member y c (set.offset + j) ≡ Some (Cells sync u))

  abbrev pub AreSets : List BuildSet → Type 0
  AreSets [] = Unit {0}
  AreSets (set ∷ more) = (u : ValueType) × IsSetAt set.index set u × IsBuiltFrom (get_or y.makers c []) set.value u × AreSets more

-- A program breaks no rule of sharing, with these types, which the front end leaves beside it.
pub record IsDeterminate (p : Program) (y : Types) : Type 0 where
  pub main : DetStmts y p.main (function_types y p.main) true (numbers 0 (length (function p p.main).shape.params)) (function p p.main).body
  pub functions : (f : ℕ) → f ≢ p.main
      → DetStmts y p.main (function_types y f) false (numbers 0 (length (function p f).shape.params)) (function p f).body
  pub parameters : (f : ℕ) → AreParameters (function_types y f).vars 0 (function p f).shape.params (function_types y f).params
  pub not_atomic : (f : ℕ) → (function p f).shape.atomic ≡ false
  pub runs : (c : ℕ) → AreRuns y c 0 (class_shape (shapes p) c).cells
  pub sets : (c : ℕ) → AreSets y c (class_shape (shapes p) c).sets
