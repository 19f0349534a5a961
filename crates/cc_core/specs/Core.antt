-- The core language: what the front end leaves of a program, with each name resolved, and what a thread has left to do.
-- A variable of a function is its number: parameters, then declarations in the order of the text. An address is a value.
use Rattle.std.specs.Prelude.{ℕ, Bool, false, List, [], map, get_or}
use Rattle.cc_ops.specs.Values.{Constant, VoidC}
use Rattle.cc_ops.specs.Classes.{ClassShape}
use Rattle.cc_ops.specs.declared.kind.Kind.{Kind}
use Rattle.cc_ops.specs.declared.operator.Op.{Op}
use Rattle.cc_ops.specs.declared.shape.FunShape.{FunShape}
use Rattle.cc_core.specs.Names.{Value}

-- the addresses of a function's variables by their numbers, null until the variable is made
abbrev pub Env : Type 0
Env = List Value

-- a call of a function that has no object, on an object, or through a global pointer; the object is the first argument
pub data How : Type 0 where
  Alone : How
  On : How
  Remote : How

-- what `cout` writes: an int, a text, the end of a line
pub data PrintPart : Type 0 where
  Number : PrintPart
  Text : List ℕ → PrintPart
  Endl : PrintPart

-- An expression is a term. So is what a thread has left of one: Val, Copied, Body, Branch and Starts, and of the statements Turn,
-- Forks, Each, Wait and Left, stand in no source.
mutual
  pub data Term : Type 0 where
    Push : Constant → Term
    This : Term
    -- the address of variable k
    Variable : (k : ℕ) → Term
    -- the address of a member's first cell, o cells behind the object's
    Member : Term → (o : ℕ) → Term
    -- the address of an element of an array of n cells that is given by its name, and of one of what a pointer leads to
    Index : (array : Term) → (n : ℕ) → (index : Term) → Term
    At : (pointer index : Term) → Term
    -- the value at an address; remote: through a global pointer
    Load : (remote : Bool) → (place : Term) → Term
    Unary : Op → Term → Term
    Binary : Op → Term → Term → Term
    And : Term → Term → Term
    Or : Term → Term → Term
    -- `new` of n cells, and of a class; remote: of a global class
    New : Kind → (n : ℕ) → Term
    NewObject : (remote : Bool) → (class : ℕ) → Terms → Term
    Call : How → (f : ℕ) → Terms → Term
    -- running: an evaluated part; an entered function; the top of a branch; a thread whose first step is the call
    Val : Value → Term
    Body : (f : ℕ) → (this : Value) → Env → Stmts → Term
    Branch : (this : Value) → Env → Stmt → Term
    Starts : (f : ℕ) → (this : Value) → List Value → Term

  -- arguments; one of a class is given by the address of an object and its number of cells
  pub data Terms : Type 0 where
    NoTerms : Terms
    MoreTerms : Term → Terms → Terms
    MoreCells : Term → (n : ℕ) → Terms → Terms
    -- running: an evaluated argument of a class
    Copied : List Value → Terms → Terms

  pub data Stmt : Type 0 where
    Empty : Stmt
    -- a statement of the text, with the line of its first token
    AtLine : (line : ℕ) → Stmt → Stmt
    -- the declaration of variable k: n new cells; a cell with a start value; an object of a class with arguments
    Make : (k : ℕ) → Kind → (n : ℕ) → Stmt
    Set : (k : ℕ) → Kind → Term → Stmt
    Build : (k class : ℕ) → Terms → Stmt
    Assign : (remote : Bool) → (place value : Term) → Stmt
    -- a call whose value is dropped
    Drop : Term → Stmt
    Print : List PrintPart → Terms → Stmt
    If : Term → Stmt → Stmt
    IfElse : Term → Stmt → Stmt → Stmt
    While : Term → Stmt → Stmt
    For : Term → (step : Stmt) → Stmt → Stmt
    Break : Stmt
    Continue : Stmt
    Par : Stmts → Stmt
    -- over variable k; the last part of its header assigns value to k, at that line
    ParFor : (k : ℕ) → (start test : Term) → (line : ℕ) → (value : Term) → Stmt → Stmt
    Spawn : How → (f : ℕ) → Terms → Stmt
    Return : Term → Stmt
    Block : Stmts → Stmt
    -- running: a turn of a loop, and what follows it; a parfor that tests, and one that forks, with the branches that it made;
    -- a wait for branches; a return whose step is made
    Turn : Stmt → (rest : Stmt) → Stmt
    Forks : (k : ℕ) → (test : Term) → (line : ℕ) → (value : Term) → Stmt → (made : List ℕ) → (now : Term) → Stmt
    Each : (k : ℕ) → (test : Term) → (line : ℕ) → (value : Term) → Stmt → (made : List ℕ) → Stmt
    Wait : (made : List ℕ) → Stmt
    Left : Value → Stmt

  pub data Stmts : Type 0 where
    NoStmts : Stmts
    MoreStmts : Stmt → Stmts → Stmts

-- default: what it returns where it ends without `return`
pub record Function : Type 0 where
  pub shape : FunShape
  pub default : Constant
  pub body : Stmts

-- functions and classes by their numbers; main: the number of the function `main`
pub record Program : Type 0 where
  pub functions : List Function
  pub classes : List ClassShape
  pub main : ℕ

abbrev pub no_shape : FunShape
no_shape = record { name = []; line = 0; params = []; vars = 0; atomic = false }

abbrev pub no_function : Function
no_function = record { shape = no_shape; default = VoidC; body = NoStmts }

abbrev pub no_class : ClassShape
no_class = record { cells = []; params = 0; sets = [] }

abbrev pub function : Program → ℕ → Function
function p f = get_or p.functions f no_function

-- what steps need to know of functions and classes; source and code have the same
pub record Shapes : Type 0 where
  pub functions : List FunShape
  pub classes : List ClassShape

abbrev pub shapes : Program → Shapes
shapes p = record { functions = map (λ (f : Function). f.shape) p.functions; classes = p.classes }

abbrev pub function_shape : Shapes → ℕ → FunShape
function_shape h f = get_or h.functions f no_shape

abbrev pub class_shape : Shapes → ℕ → ClassShape
class_shape h c = get_or h.classes c no_class
