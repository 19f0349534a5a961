-- The types of the core, by tables, for the law of one answer: what a variable, a cell of a class, a parameter and a result hold.
-- An address has a target; a target is cells of one type, or an object of a class.
use Rattle.std.specs.Prelude.{◌≡◌, ◌⊎◌, ℕ, Bool, List, [], ◌∷◌, Option, None, get_or}
use Rattle.cc_core.specs.Core.{Term, Variable, Index, Stmt, AtLine, Make, Set, Build}

mutual
  pub data ValueType : Type 0 where
    NoValue : ValueType
    AnInt : ValueType
    AnAddress : Target → ValueType

  pub data Target : Type 0 where
    Cells : (sync : Bool) → ValueType → Target
    ObjectOf : (class : ℕ) → Target

-- of a function: the class of its object, its result, its parameters' values, and the target of each variable's address
pub record FunctionTypes : Type 0 where
  pub this : Option ℕ
  pub result : ValueType
  pub params : List ValueType
  pub vars : List Target

-- classes: of each class the target of each cell's address. makers: of each class the values that its constructor takes
pub record Types : Type 0 where
  pub functions : List FunctionTypes
  pub classes : List (List Target)
  pub makers : List (List ValueType)

abbrev pub no_types : FunctionTypes
no_types = record { this = None; result = NoValue; params = []; vars = [] }

abbrev pub function_types : Types → ℕ → FunctionTypes
function_types y f = get_or y.functions f no_types

-- k is one of these
abbrev pub IsAmong : ℕ → List ℕ → Type 0
IsAmong k [] = ⊥
IsAmong k (j ∷ own) = (k ≡ j) ⊎ IsAmong k own

abbrev pub IsOwnPlace : List ℕ → Term → Type 0
IsOwnPlace own (Variable k) = IsAmong k own
IsOwnPlace own (Index (Variable k) n i) = IsAmong k own
IsOwnPlace own e = ⊥

-- the variables that a statement declares for those after it
abbrev pub declares : Stmt → List ℕ → List ℕ
declares (AtLine line s) own = declares s own
declares (Make k kind n) own = k ∷ own
declares (Set k kind e) own = k ∷ own
declares (Build k c es) own = k ∷ own
declares s own = own
