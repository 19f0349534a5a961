-- The types of the core language, and the tables of types that stand beside a program. The core keeps only the kind of a type: int or pointer,
-- sync or plain. What a pointer leads to, and whether it is global, stands in these tables alone.
use Rattle.std.specs.Prelude.{◌≡◌, ◌⊎◌, ℕ, ◌+◌, ◌<◌, ◌≤◌, Bool, true, false, List, [], ◌∷◌, Option, Some, None, get_or, slice_get, map}
use Rattle.cc_ops.specs.Values.{Constant, VoidC, IntC, NullC, last_offset}
use Rattle.cc_ops.specs.declared.kind.Kind.{Kind}
use Rattle.cc_ops.specs.declared.kind.Kind.TheVariants.{Int as IntK, SyncInt as SyncIntK, Ptr as PtrK, SyncPtr as SyncPtrK}
use Rattle.cc_ops.specs.declared.operator.Op.{Op}
use Rattle.cc_ops.specs.declared.operator.Op.TheVariants.{Neg, Not, Bool as Bool', Add, Sub, Mul, Div, Rem, Eq, Ne, Lt, Le, Gt, Ge}
use Rattle.cc_core.specs.Core.{PrintPart, Number, Text, Endl}

mutual
  -- the type of a value: none, an int, a pointer. remote: a global pointer, which may lead to another processor
  pub data ValueType : Type 0 where
    NoValue : ValueType
    AnInt : ValueType
    Pointer : (remote : Bool) → Target → ValueType

  -- What a pointer leads to: one of some cells in a row, which all have this type; an object of a class; the cell of such an object at an
  -- offset; some cell of such an object that has this type. The last two are places alone: no cell holds a pointer to them
  pub data Target : Type 0 where
    Cells : (sync : Bool) → ValueType → Target
    ObjectOf : (class : ℕ) → Target
    MemberOf : (class offset : ℕ) → Target
    PartOf : (class : ℕ) → (sync : Bool) → ValueType → Target

-- the type of a cell
pub data CellType : Type 0 where
  Holds : (sync : Bool) → ValueType → CellType

-- of a function: the class of its object, where it has one; what it gives, and takes, a value for each cell of a parameter; the targets of its
-- variables' addresses, those of its parameters first; and whether it may wait
pub record FunctionTypes : Type 0 where
  pub this : Option ℕ
  pub result : ValueType
  pub params : List ValueType
  pub vars : List Target
  pub waits : Bool

-- of a class: its cells, and what its constructor takes
pub record ClassTypes : Type 0 where
  pub cells : List CellType
  pub params : List ValueType

pub record Types : Type 0 where
  pub functions : List FunctionTypes
  pub classes : List ClassTypes

abbrev pub no_function : FunctionTypes
no_function = record { this = None; result = NoValue; params = []; vars = []; waits = true }

abbrev pub function_types : Types → ℕ → FunctionTypes
function_types y f = get_or y.functions f no_function

abbrev pub no_class : ClassTypes
no_class = record { cells = []; params = [] }

abbrev pub class_types : Types → ℕ → ClassTypes
class_types y c = get_or y.classes c no_class

-- the cell of a class's objects at an offset
abbrev pub member : Types → ℕ → ℕ → Option CellType
member y c o = slice_get (class_types y c).cells o

abbrev pub is_sync : Kind → Bool
is_sync IntK = false
is_sync SyncIntK = true
is_sync PtrK = false
is_sync SyncPtrK = true

-- a cell of this kind holds values of this type
abbrev pub IsKind : Kind → ValueType → Type 0
IsKind IntK u = u ≡ AnInt
IsKind SyncIntK u = u ≡ AnInt
IsKind PtrK u = (remote : Bool) × (a : Target) × (u ≡ Pointer remote a)
IsKind SyncPtrK u = (remote : Bool) × (a : Target) × (u ≡ Pointer remote a)

abbrev pub IsConstant : Constant → ValueType → Type 0
IsConstant VoidC u = u ≡ NoValue
IsConstant (IntC n) u = u ≡ AnInt
IsConstant NullC u = (remote : Bool) × (a : Target) × (u ≡ Pointer remote a)

-- a value of type u stands where one of type v is wanted: the same, or a local pointer for a global one
abbrev pub Serves : (u v : ValueType) → Type 0
Serves u v = (u ≡ v) ⊎ ((a : Target) × (u ≡ Pointer false a) × (v ≡ Pointer true a))

-- not void
abbrev pub IsValue : ValueType → Type 0
IsValue NoValue = ⊥
IsValue AnInt = Unit {0}
IsValue (Pointer remote a) = Unit {0}

-- a value of this type may go to another processor
abbrev pub Crosses : ValueType → Type 0
Crosses NoValue = ⊥
Crosses AnInt = Unit {0}
Crosses (Pointer remote a) = remote ≡ true

abbrev pub AllCross : List ValueType → Type 0
AllCross [] = Unit {0}
AllCross (u ∷ us) = Crosses u × AllCross us

-- what a call gives may come back from another processor, which may be nothing
abbrev pub ComesBack : ValueType → Type 0
ComesBack u = (u ≡ NoValue) ⊎ Crosses u

-- what goes through a global pointer may go to another processor
abbrev pub Passes : (remote : Bool) → ValueType → Type 0
Passes false u = Unit {0}
Passes true u = Crosses u

-- What may wait stands only where a thread may wait.
abbrev pub Allowed : (waits waiting : Bool) → Type 0
Allowed waits false = Unit {0}
Allowed waits true = waits ≡ true

abbrev pub AreComparable : ValueType → ValueType → Type 0
AreComparable NoValue v = ⊥
AreComparable AnInt v = v ≡ AnInt
AreComparable (Pointer remote a) v = (other : Bool) × (v ≡ Pointer other a)

-- operators take ints; == and != also two pointers to one target
abbrev pub AreOperands : Op → List ValueType → Type 0
AreOperands Neg us = us ≡ AnInt ∷ []
AreOperands Not us = us ≡ AnInt ∷ []
AreOperands Bool' us = us ≡ AnInt ∷ []
AreOperands Eq us = (u : ValueType) × (v : ValueType) × (us ≡ u ∷ v ∷ []) × AreComparable u v
AreOperands Ne us = (u : ValueType) × (v : ValueType) × (us ≡ u ∷ v ∷ []) × AreComparable u v
AreOperands Add us = us ≡ AnInt ∷ AnInt ∷ []
AreOperands Sub us = us ≡ AnInt ∷ AnInt ∷ []
AreOperands Mul us = us ≡ AnInt ∷ AnInt ∷ []
AreOperands Div us = us ≡ AnInt ∷ AnInt ∷ []
AreOperands Rem us = us ≡ AnInt ∷ AnInt ∷ []
AreOperands Lt us = us ≡ AnInt ∷ AnInt ∷ []
AreOperands Le us = us ≡ AnInt ∷ AnInt ∷ []
AreOperands Gt us = us ≡ AnInt ∷ AnInt ∷ []
AreOperands Ge us = us ≡ AnInt ∷ AnInt ∷ []

-- what is printed: an int for each number
abbrev pub printed_types : List PrintPart → List ValueType
printed_types [] = []
printed_types (Number ∷ parts) = AnInt ∷ printed_types parts
printed_types (Text bytes ∷ parts) = printed_types parts
printed_types (Endl ∷ parts) = printed_types parts

-- the types of the parameters' addresses, by the targets of the first variables
abbrev pub addressed : List (List Kind) → List Target → List ValueType
addressed [] vars = []
addressed (kinds ∷ more) [] = []
addressed (kinds ∷ more) (a ∷ vars) = Pointer false a ∷ addressed more vars

module _ (y : Types) where
  -- at an address of this target is a cell of this type
  abbrev pub IsCell : Target → (sync : Bool) → ValueType → Type 0
  IsCell (Cells s u) sync v = (s ≡ sync) × (u ≡ v)
  IsCell (ObjectOf c) sync v = ⊥
  IsCell (MemberOf c o) sync v = member y c o ≡ Some (Holds sync v)
  IsCell (PartOf c s u) sync v = (s ≡ sync) × (u ≡ v)

  -- an object of class c may be handed over by value: no cell of it is sync, and its cells have these types
  abbrev pub IsCopied : (c : ℕ) → List ValueType → Type 0
  IsCopied c us = (class_types y c).cells ≡ map (Holds false) us

  -- an element of an array of n cells that begins at an address of target a is at one of target b
  abbrev pub IsElement : (n : ℕ) → (a b : Target) → Type 0
  IsElement n (Cells sync u) b = b ≡ Cells sync u
  IsElement n (ObjectOf c) b = ⊥
  IsElement n (MemberOf c o) b = (sync : Bool) × (u : ValueType) × (o + n ≤ last_offset)
      × ((j : ℕ) → j < n → member y c (o + j) ≡ Some (Holds sync u)) × (b ≡ PartOf c sync u)
  IsElement n (PartOf c sync u) b = ⊥
