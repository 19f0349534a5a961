-- The rules of types, one a line. A source has them, and so has what a thread has left to do.
use Rattle.std.specs.Prelude.{◌≡◌, ℕ, ◌≤◌, Bool, true, false, ◌||◌, List, [], ◌∷◌, ◌++◌, length, Option, Some, None, slice_get}
use Rattle.cc_ops.specs.Values.{last_offset}
use Rattle.cc_core.specs.Names.{Name}
use Rattle.cc_core.specs.Core.{How, Alone, On, Remote, Term, Push, This, Variable, Member, Index, At}
use Rattle.cc_core.specs.Core.{Load, Unary, Binary, And, Or, New, NewObject, Call, Val, Body, Branch, Starts, Terms, NoTerms, MoreTerms}
use Rattle.cc_core.specs.Core.{MoreCells, Copied, Stmt, Empty, AtLine, Make, Set, Build, Assign, Drop, Print, If, IfElse, While, For}
use Rattle.cc_core.specs.Core.{Break, Continue, Par, ParFor, Spawn, Return, Block, Turn, Forks, Each, Wait, Left, Stmts, NoStmts}
use Rattle.cc_core.specs.Core.{MoreStmts, Program, function}
use Rattle.core_types.specs.Types.{ValueType, NoValue, AnInt, Pointer, Target, Cells, ObjectOf, MemberOf, Types, FunctionTypes}
use Rattle.core_types.specs.Types.{function_types, class_types, is_sync, IsKind, IsConstant, Serves, AllCross, ComesBack, Passes, Allowed}
use Rattle.core_types.specs.Types.{AreOperands, printed_types, IsCell, IsCopied, IsElement}
use Rattle.core_types.specs.Values.{World, Fits, AllFit, IsObject, EnvFits}

-- Where a term stands: the class of the own object, the targets of the variables' addresses, the type of what `return` gives, which does not
-- stand in a branch; and whether it may wait there.
pub record Scope : Type 0 where
  pub this : Option ℕ
  pub vars : List Target
  pub returns : Option ValueType
  pub waits : Bool

abbrev pub scope_of : FunctionTypes → Scope
scope_of g = record { this = g.this; vars = g.vars; returns = Some g.result; waits = g.waits }

abbrev pub branch : Scope → Scope
branch here = record here { returns = None }

-- a branch is forked only where a thread may wait
abbrev pub branch_of : FunctionTypes → Scope
branch_of g = record { this = g.this; vars = g.vars; returns = None; waits = g.waits }

-- around a thread
abbrev pub nowhere : Scope
nowhere = record { this = None; vars = []; returns = None; waits = true }

abbrev pub is_atomic : Program → ℕ → Bool
is_atomic p f = (function p f).shape.atomic

-- the types of what a call hands over, the object first; a call through a global pointer hands over and takes back what may cross
abbrev pub IsCall : FunctionTypes → How → List ValueType → Type 0
IsCall g Alone us = (g.this ≡ None) × (us ≡ g.params)
IsCall g On us = (c : ℕ) × (g.this ≡ Some c) × (us ≡ Pointer false (ObjectOf c) ∷ g.params)
IsCall g Remote us = (c : ℕ) × (g.this ≡ Some c) × (us ≡ Pointer true (ObjectOf c) ∷ g.params) × AllCross g.params × ComesBack g.result

-- A call may wait to enter an atomic function, or in what it enters, or for another processor.
abbrev pub call_waits : How → (waits atomic : Bool) → Bool
call_waits Alone waits atomic = waits || atomic
call_waits On waits atomic = waits || atomic
call_waits Remote waits atomic = true

-- what the constructor of an object on another processor takes may cross
abbrev pub PassAll : (remote : Bool) → List ValueType → Type 0
PassAll false us = Unit {0}
PassAll true us = AllCross us

-- a term of one of these types gives a value that serves where one of type v is wanted
abbrev pub Gives : (ValueType → Type 0) → ValueType → Type 0
Gives T v = (u : ValueType) × T u × Serves u v

module _ (p : Program) (y : Types) (w : World) (q : Name) where
  abbrev mutual
    -- a term, or what is left of it, gives a value of type v
    pub HasType : Scope → Term → ValueType → Type 0
    HasType here (Push c) v = IsConstant c v
    HasType here This v = (c : ℕ) × (remote : Bool) × (here.this ≡ Some c) × (v ≡ Pointer remote (ObjectOf c))
    HasType here (Variable k) v = (a : Target) × (slice_get here.vars k ≡ Some a) × (v ≡ Pointer false a)
    HasType here (Member e o) v =
        (remote : Bool) × (c : ℕ) × HasType here e (Pointer remote (ObjectOf c)) × (o ≤ last_offset) × (v ≡ Pointer remote (MemberOf c o))
    HasType here (Index e n i) v = (remote : Bool) × (a : Target) × (b : Target)
        × HasType here e (Pointer remote a) × HasType here i AnInt × IsElement y n a b × (v ≡ Pointer remote b)
    HasType here (At e i) v = (remote : Bool) × (sync : Bool) × (u : ValueType)
        × HasType here e (Pointer remote (Cells sync u)) × HasType here i AnInt × (v ≡ Pointer remote (Cells sync u))
    HasType here (Load remote e) v = (a : Target) × (sync : Bool)
        × HasType here e (Pointer remote a) × IsCell y a sync v × Passes remote v × Allowed here.waits (remote || sync)
    HasType here (Unary op e) v = HasType here e AnInt × AreOperands op (AnInt ∷ []) × (v ≡ AnInt)
    HasType here (Binary op a b) v = (t : ValueType) × (u : ValueType)
        × HasType here a t × HasType here b u × AreOperands op (t ∷ u ∷ []) × (v ≡ AnInt)
    HasType here (And a b) v = HasType here a AnInt × HasType here b AnInt × (v ≡ AnInt)
    HasType here (Or a b) v = HasType here a AnInt × HasType here b AnInt × (v ≡ AnInt)
    HasType here (New kind n) v = (u : ValueType) × IsKind kind u × (v ≡ Pointer false (Cells (is_sync kind) u))
    HasType here (NewObject remote c es) v = HaveTypes here es (class_types y c).params
        × PassAll remote (class_types y c).params × Allowed here.waits remote × (v ≡ Pointer remote (ObjectOf c))
    HasType here (Call how f es) v = (us : List ValueType) × IsCall (function_types y f) how us × HaveTypes here es us
        × Allowed here.waits (call_waits how (function_types y f).waits (is_atomic p f)) × (v ≡ (function_types y f).result)
    HasType here (Val x) v = Fits y w q x v
    HasType here (Body f this env ss) v = IsObject y w q (function_types y f).this this × EnvFits y w q (function_types y f).vars env
        × AreTyped (scope_of (function_types y f)) ss × Allowed here.waits (function_types y f).waits × (v ≡ (function_types y f).result)
    HasType here (Branch this env s) v = (f : ℕ) × IsObject y w q (function_types y f).this this
        × EnvFits y w q (function_types y f).vars env × IsTyped (branch_of (function_types y f)) s × (here.waits ≡ true) × (v ≡ NoValue)
    HasType here (Starts f this vs) v = IsObject y w q (function_types y f).this this × AllFit y w q vs (function_types y f).params
        × (here.waits ≡ true) × (v ≡ (function_types y f).result)

    -- arguments; an object that is handed over by value is here, and gives the values of its cells
    pub HaveTypes : Scope → Terms → List ValueType → Type 0
    HaveTypes here NoTerms us = us ≡ []
    HaveTypes here (MoreTerms e es) us =
        (u : ValueType) × (more : List ValueType) × Gives (HasType here e) u × HaveTypes here es more × (us ≡ u ∷ more)
    HaveTypes here (MoreCells e n es) us = (c : ℕ) × (vs : List ValueType) × (more : List ValueType)
        × HasType here e (Pointer false (ObjectOf c)) × IsCopied y c vs × (length vs ≡ n) × HaveTypes here es more × (us ≡ vs ++ more)
    HaveTypes here (Copied xs es) us =
        (vs : List ValueType) × (more : List ValueType) × AllFit y w q xs vs × HaveTypes here es more × (us ≡ vs ++ more)

    pub IsTyped : Scope → Stmt → Type 0
    IsTyped here Empty = Unit {0}
    IsTyped here (AtLine line s) = IsTyped here s
    IsTyped here (Make k kind n) = (u : ValueType) × IsKind kind u × (slice_get here.vars k ≡ Some (Cells (is_sync kind) u))
    IsTyped here (Set k kind e) =
        (u : ValueType) × IsKind kind u × (slice_get here.vars k ≡ Some (Cells (is_sync kind) u)) × Gives (HasType here e) u
    IsTyped here (Build k c es) = (slice_get here.vars k ≡ Some (ObjectOf c)) × HaveTypes here es (class_types y c).params
    IsTyped here (Assign remote e e') = (a : Target) × (sync : Bool) × (u : ValueType)
        × HasType here e (Pointer remote a) × Gives (HasType here e') u × IsCell y a sync u × Passes remote u × Allowed here.waits remote
    IsTyped here (Drop e) = (u : ValueType) × HasType here e u
    IsTyped here (Print parts es) = HaveTypes here es (printed_types parts)
    IsTyped here (If c s) = HasType here c AnInt × IsTyped here s
    IsTyped here (IfElse c s t) = HasType here c AnInt × IsTyped here s × IsTyped here t
    IsTyped here (While c s) = HasType here c AnInt × IsTyped here s
    IsTyped here (For c step s) = HasType here c AnInt × IsTyped here step × IsTyped here s
    IsTyped here Break = Unit {0}
    IsTyped here Continue = Unit {0}
    IsTyped here (Par ss) = (here.waits ≡ true) × AreTyped (branch here) ss
    IsTyped here (ParFor k start test line value s) = (here.waits ≡ true) × (slice_get here.vars k ≡ Some (Cells false AnInt))
        × HasType here start AnInt × HasType here test AnInt × HasType here value AnInt × IsTyped (branch here) s
    IsTyped here (Spawn how f es) =
        (us : List ValueType) × IsCall (function_types y f) how us × HaveTypes here es us × (here.waits ≡ true)
    IsTyped here (Return e) = (u : ValueType) × (here.returns ≡ Some u) × Gives (HasType here e) u
    IsTyped here (Block ss) = AreTyped here ss
    IsTyped here (Turn s t) = IsTyped here s × IsTyped here t
    IsTyped here (Forks k test line value s made now) = (here.waits ≡ true) × (slice_get here.vars k ≡ Some (Cells false AnInt))
        × HasType here now AnInt × HasType here test AnInt × HasType here value AnInt × IsTyped (branch here) s
    IsTyped here (Each k test line value s made) = (here.waits ≡ true) × (slice_get here.vars k ≡ Some (Cells false AnInt))
        × HasType here test AnInt × HasType here value AnInt × IsTyped (branch here) s
    IsTyped here (Wait made) = here.waits ≡ true
    IsTyped here (Left x) = (u : ValueType) × (here.returns ≡ Some u) × Fits y w q x u

    pub AreTyped : Scope → Stmts → Type 0
    AreTyped here NoStmts = Unit {0}
    AreTyped here (MoreStmts s ss) = IsTyped here s × AreTyped here ss
