-- What a thread asks of the part that all threads share: an ask for each kind of step. A thread of the source and one of the code
-- ask the same. N is the type of what names an object.
use Rattle.std.specs.Prelude.{ℕ, Bool, List}
use Rattle.cc_ops.specs.Values.{Value}
use Rattle.cc_ops.specs.declared.kind.Kind.{Kind}
use Rattle.cc_ops.specs.declared.operator.Op.{Op}
use Rattle.cc_core.specs.Core.{PrintPart}

pub data Ask (N : Type 0) : Type 0 where
  -- a read and a write of a cell; remote: through a global pointer
  Reads : (remote : Bool) → (from : Value N) → Ask N
  Writes : (remote : Bool) → (to v : Value N) → Ask N
  -- a read of all n cells of an object
  Copies : (from : Value N) → (n : ℕ) → Ask N
  -- the address of an element of an array of n cells, and of one of what a pointer leads to
  Indexes : (array : Value N) → (n : ℕ) → (index : Value N) → Ask N
  Shifts : (pointer index : Value N) → Ask N
  Computes : Op → List (Value N) → Ask N
  -- a test of a value, which the thread itself looks at
  Tests : Ask N
  -- a new object: n cells of a kind; one cell with a start value; an object of a class
  Makes : Kind → (n : ℕ) → Ask N
  MakesWith : Kind → Value N → Ask N
  Builds : (class : ℕ) → List (Value N) → Ask N
  -- a call on an object, void where there is none; a return
  Enters : (f : ℕ) → (this : Value N) → List (Value N) → Ask N
  Leaves : Ask N
  -- a fork of n branches; of one with its own copy of a variable; a join of branches
  ForksAll : (n : ℕ) → Ask N
  ForksOne : (variable : Value N) → Ask N
  Joins : (made : List ℕ) → Ask N
  Spawns : (f : ℕ) → (this : Value N) → List (Value N) → Ask N
  Prints : List PrintPart → List (Value N) → Ask N
  -- remote: a call, whose answer comes when the thread made for it has ended; a spawn; a new processor
  Calls : (f : ℕ) → (this : Value N) → List (Value N) → Ask N
  Casts : (f : ℕ) → (this : Value N) → List (Value N) → Ask N
  NewProcessor : (class : ℕ) → List (Value N) → Ask N

-- the addresses of what was made, then the values that were read; and the numbers of the branches that were made
pub record Answer (N : Type 0) : Type 0 where
  pub values : List (Value N)
  pub made : List ℕ
