-- The functions that a thread is inside, as its term shows them: each entered function that has not returned, the innermost first.
use Rattle.std.specs.Prelude.{◌≡◌, ◌⊎◌, ℕ, Bool, true, false, ◌∷◌}
use Rattle.cc_core.specs.Names.{Value}
use Rattle.cc_core.specs.Core.{Program, function, Term, Push, This, Variable, Member, Index, At, Load}
use Rattle.cc_core.specs.Core.{Unary, Binary, And, Or, New, NewObject, Call, Val, Body, Branch, Starts, Terms, NoTerms, MoreTerms}
use Rattle.cc_core.specs.Core.{MoreCells, Copied, Stmt, Empty, AtLine, Make, Set, Build, Assign, Drop, Print, If, IfElse, While, For}
use Rattle.cc_core.specs.Core.{Break, Continue, Par, ParFor, Spawn, Return, Block, Turn, Forks, Each, Wait, Left, Stmts, NoStmts}
use Rattle.cc_core.specs.Core.{MoreStmts}
use Rattle.core_types.specs.Atomic.{Entered}

-- no function is entered or left in it
abbrev mutual
  pub IsPlain : Term → Type 0
  IsPlain (Push c) = Unit {0}
  IsPlain This = Unit {0}
  IsPlain (Variable k) = Unit {0}
  IsPlain (Member e o) = IsPlain e
  IsPlain (Index e n i) = IsPlain e × IsPlain i
  IsPlain (At e i) = IsPlain e × IsPlain i
  IsPlain (Load remote e) = IsPlain e
  IsPlain (Unary op e) = IsPlain e
  IsPlain (Binary op a b) = IsPlain a × IsPlain b
  IsPlain (And a b) = IsPlain a × IsPlain b
  IsPlain (Or a b) = IsPlain a × IsPlain b
  IsPlain (New kind n) = Unit {0}
  IsPlain (NewObject remote c es) = ArePlain es
  IsPlain (Call how f es) = ArePlain es
  IsPlain (Val v) = Unit {0}
  IsPlain (Body f this env ss) = ⊥
  IsPlain (Branch this env s) = ⊥
  IsPlain (Starts f this vs) = ⊥

  pub ArePlain : Terms → Type 0
  ArePlain NoTerms = Unit {0}
  ArePlain (MoreTerms e es) = IsPlain e × ArePlain es
  ArePlain (MoreCells e n es) = IsPlain e × ArePlain es
  ArePlain (Copied vs es) = ArePlain es

abbrev mutual
  -- returns: `return` may stand in it, as it does in no branch
  pub IsPlainStmt : (returns : Bool) → Stmt → Type 0
  IsPlainStmt r Empty = Unit {0}
  IsPlainStmt r (AtLine line s) = IsPlainStmt r s
  IsPlainStmt r (Make k kind n) = Unit {0}
  IsPlainStmt r (Set k kind e) = IsPlain e
  IsPlainStmt r (Build k c es) = ArePlain es
  IsPlainStmt r (Assign remote a e) = IsPlain a × IsPlain e
  IsPlainStmt r (Drop e) = IsPlain e
  IsPlainStmt r (Print parts es) = ArePlain es
  IsPlainStmt r (If c s) = IsPlain c × IsPlainStmt r s
  IsPlainStmt r (IfElse c s t) = IsPlain c × IsPlainStmt r s × IsPlainStmt r t
  IsPlainStmt r (While c s) = IsPlain c × IsPlainStmt r s
  IsPlainStmt r (For c step s) = IsPlain c × IsPlainStmt r step × IsPlainStmt r s
  IsPlainStmt r Break = Unit {0}
  IsPlainStmt r Continue = Unit {0}
  IsPlainStmt r (Par ss) = ArePlainStmts false ss
  IsPlainStmt r (ParFor k start test line value s) = IsPlain start × IsPlain test × IsPlain value × IsPlainStmt false s
  IsPlainStmt r (Spawn how f es) = ArePlain es
  IsPlainStmt r (Return e) = (r ≡ true) × IsPlain e
  IsPlainStmt r (Block ss) = ArePlainStmts r ss
  IsPlainStmt r (Turn s t) = IsPlainStmt r s × IsPlainStmt r t
  IsPlainStmt r (Forks k test line value s made now) = IsPlain now × IsPlain test × IsPlain value × IsPlainStmt false s
  IsPlainStmt r (Each k test line value s made) = IsPlain test × IsPlain value × IsPlainStmt false s
  IsPlainStmt r (Wait made) = Unit {0}
  IsPlainStmt r (Left v) = ⊥

  pub ArePlainStmts : (returns : Bool) → Stmts → Type 0
  ArePlainStmts r NoStmts = Unit {0}
  ArePlainStmts r (MoreStmts s ss) = IsPlainStmt r s × ArePlainStmts r ss

-- each function's body is plain
abbrev pub IsPlainProgram : Program → Type 0
IsPlainProgram p = (f : ℕ) → ArePlainStmts true (function p f).body

abbrev pub IsVal : Term → Type 0
IsVal e = (v : Value) × (e ≡ Val v)

abbrev mutual
  -- a term that stands in the functions fs is inside gs; what it does next is done there
  pub IsInside : Term → (fs gs : Entered) → Type 0
  IsInside (Push c) fs gs = gs ≡ fs
  IsInside This fs gs = gs ≡ fs
  IsInside (Variable k) fs gs = gs ≡ fs
  IsInside (Member e o) fs gs = IsInside e fs gs
  IsInside (Index e n i) fs gs = (IsInside e fs gs × IsPlain i) ⊎ (IsVal e × IsInside i fs gs)
  IsInside (At e i) fs gs = (IsInside e fs gs × IsPlain i) ⊎ (IsVal e × IsInside i fs gs)
  IsInside (Load remote e) fs gs = IsInside e fs gs
  IsInside (Unary op e) fs gs = IsInside e fs gs
  IsInside (Binary op a b) fs gs = (IsInside a fs gs × IsPlain b) ⊎ (IsVal a × IsInside b fs gs)
  IsInside (And a b) fs gs = IsInside a fs gs × IsPlain b
  IsInside (Or a b) fs gs = IsInside a fs gs × IsPlain b
  IsInside (New kind n) fs gs = gs ≡ fs
  IsInside (NewObject remote c es) fs gs = AreInside es fs gs
  IsInside (Call how f es) fs gs = AreInside es fs gs
  IsInside (Val v) fs gs = gs ≡ fs
  IsInside (Body f this env ss) fs gs = AreInsideStmts true ss ((f, this) ∷ fs) gs
  IsInside (Branch this env s) fs gs = IsInsideStmt false s fs gs
  IsInside (Starts f this vs) fs gs = gs ≡ fs

  pub AreInside : Terms → (fs gs : Entered) → Type 0
  AreInside NoTerms fs gs = gs ≡ fs
  AreInside (MoreTerms e es) fs gs = (IsInside e fs gs × ArePlain es) ⊎ (IsVal e × AreInside es fs gs)
  AreInside (MoreCells e n es) fs gs = IsInside e fs gs × ArePlain es
  AreInside (Copied vs es) fs gs = AreInside es fs gs

  pub IsInsideStmt : (returns : Bool) → Stmt → (fs gs : Entered) → Type 0
  IsInsideStmt r Empty fs gs = gs ≡ fs
  IsInsideStmt r (AtLine line s) fs gs = IsInsideStmt r s fs gs
  IsInsideStmt r (Make k kind n) fs gs = gs ≡ fs
  IsInsideStmt r (Set k kind e) fs gs = IsInside e fs gs
  IsInsideStmt r (Build k c es) fs gs = AreInside es fs gs
  IsInsideStmt r (Assign remote a e) fs gs = (IsInside a fs gs × IsPlain e) ⊎ (IsVal a × IsInside e fs gs)
  IsInsideStmt r (Drop e) fs gs = IsInside e fs gs
  IsInsideStmt r (Print parts es) fs gs = AreInside es fs gs
  IsInsideStmt r (If c s) fs gs = IsInside c fs gs × IsPlainStmt r s
  IsInsideStmt r (IfElse c s t) fs gs = IsInside c fs gs × IsPlainStmt r s × IsPlainStmt r t
  IsInsideStmt r (While c s) fs gs = (gs ≡ fs) × IsPlain c × IsPlainStmt r s
  IsInsideStmt r (For c step s) fs gs = (gs ≡ fs) × IsPlain c × IsPlainStmt r step × IsPlainStmt r s
  IsInsideStmt r Break fs gs = gs ≡ fs
  IsInsideStmt r Continue fs gs = gs ≡ fs
  IsInsideStmt r (Par ss) fs gs = (gs ≡ fs) × ArePlainStmts false ss
  IsInsideStmt r (ParFor k start test line value s) fs gs =
      IsInside start fs gs × IsPlain test × IsPlain value × IsPlainStmt false s
  IsInsideStmt r (Spawn how f es) fs gs = AreInside es fs gs
  IsInsideStmt r (Return e) fs gs = (r ≡ true) × IsInside e fs gs
  IsInsideStmt r (Block ss) fs gs = AreInsideStmts r ss fs gs
  IsInsideStmt r (Turn s t) fs gs = IsInsideStmt r s fs gs × IsPlainStmt r t
  IsInsideStmt r (Forks k test line value s made now) fs gs =
      IsInside now fs gs × IsPlain test × IsPlain value × IsPlainStmt false s
  IsInsideStmt r (Each k test line value s made) fs gs = (gs ≡ fs) × IsPlain test × IsPlain value × IsPlainStmt false s
  IsInsideStmt r (Wait made) fs gs = gs ≡ fs
  -- the function is left
  IsInsideStmt r (Left v) fs gs = (g : ℕ × Value) × (r ≡ true) × (fs ≡ g ∷ gs)

  pub AreInsideStmts : (returns : Bool) → Stmts → (fs gs : Entered) → Type 0
  AreInsideStmts r NoStmts fs gs = gs ≡ fs
  AreInsideStmts r (MoreStmts s ss) fs gs = IsInsideStmt r s fs gs × ArePlainStmts r ss
