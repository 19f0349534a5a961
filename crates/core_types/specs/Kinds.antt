-- What the laws promise of an ask, in words that know no types: each value has the kind that is wanted, so none counts as 0 or null for want of
-- it; and what is asked without a global pointer is on the own processor.
use Rattle.std.specs.Prelude.{◌≡◌, ◌⊎◌, ℕ, length, true, false, List, [], ◌∷◌, Some, Option, None, slice_get}
use Rattle.std.specs.FinMap as fin
use Rattle.cc_ops.specs.Values.{Void, Int, Null, Ptr, Plain, Gives}
use Rattle.cc_ops.specs.Classes.{all_kinds, BuildExpr, Literal, Param, Apply, Both, Either, BuildExprs, NoParts, MoreParts, BuildSet, evaluate, evaluate_all}
use Rattle.cc_ops.specs.declared.kind.Kind.{Kind}
use Rattle.cc_ops.specs.declared.kind.Kind.TheVariants.{Int as IntK, SyncInt as SyncIntK, Ptr as PtrK, SyncPtr as SyncPtrK}
use Rattle.cc_ops.specs.declared.operator.Op.{Op}
use Rattle.cc_ops.specs.declared.operator.Op.TheVariants.{Neg, Not, Bool as Bool', Add, Sub, Mul, Div, Rem, Eq, Ne, Lt, Le, Gt, Ge}
use Rattle.cc_core.specs.Names.{Name, same_name, Value, Cell}
use Rattle.cc_core.specs.Core.{Program, function, shapes, class_shape, PrintPart, Number, Text, Endl}
use Rattle.cc_core.specs.Asks.{Ask, Reads, Writes, Copies, Indexes, Shifts, Computes, Tests, Makes, MakesWith, Builds, Enters}
use Rattle.cc_core.specs.Asks.{Leaves, ForksAll, ForksOne, Joins, Spawns, Prints, Calls, Casts, NewProcessor}
use Rattle.cc_core.specs.Config.{Config, Object}

abbrev pub IsInt : Value → Type 0
IsInt Void = ⊥
IsInt (Int n) = Unit {0}
IsInt Null = ⊥
IsInt (Ptr o x) = ⊥

-- a pointer, or null
abbrev pub IsAddress : Value → Type 0
IsAddress Void = ⊥
IsAddress (Int n) = ⊥
IsAddress Null = Unit {0}
IsAddress (Ptr o x) = Unit {0}

abbrev pub IsOfKind : Kind → Value → Type 0
IsOfKind IntK v = IsInt v
IsOfKind SyncIntK v = IsInt v
IsOfKind PtrK v = IsAddress v
IsOfKind SyncPtrK v = IsAddress v

abbrev pub AreOfKinds : List Kind → List Value → Type 0
AreOfKinds [] vs = vs ≡ []
AreOfKinds (kind ∷ kinds) [] = ⊥
AreOfKinds (kind ∷ kinds) (v ∷ vs) = IsOfKind kind v × AreOfKinds kinds vs

-- what a call is on: nothing, or an object
abbrev pub IsCallee : Value → Type 0
IsCallee v = (v ≡ Void) ⊎ IsAddress v

abbrev pub IsOneInt : List Value → Type 0
IsOneInt vs = (v : Value) × (vs ≡ v ∷ []) × IsInt v

abbrev pub AreTwoInts : List Value → Type 0
AreTwoInts vs = (v : Value) × (w : Value) × (vs ≡ v ∷ w ∷ []) × IsInt v × IsInt w

abbrev pub AreTwoAlike : List Value → Type 0
AreTwoAlike vs = AreTwoInts vs ⊎ ((v : Value) × (w : Value) × (vs ≡ v ∷ w ∷ []) × IsAddress v × IsAddress w)

abbrev pub AreFor : Op → List Value → Type 0
AreFor Neg vs = IsOneInt vs
AreFor Not vs = IsOneInt vs
AreFor Bool' vs = IsOneInt vs
AreFor Eq vs = AreTwoAlike vs
AreFor Ne vs = AreTwoAlike vs
AreFor Add vs = AreTwoInts vs
AreFor Sub vs = AreTwoInts vs
AreFor Mul vs = AreTwoInts vs
AreFor Div vs = AreTwoInts vs
AreFor Rem vs = AreTwoInts vs
AreFor Lt vs = AreTwoInts vs
AreFor Le vs = AreTwoInts vs
AreFor Gt vs = AreTwoInts vs
AreFor Ge vs = AreTwoInts vs

-- an int for each number that is printed
abbrev pub ArePrinted : List PrintPart → List Value → Type 0
ArePrinted [] vs = vs ≡ []
ArePrinted (Number ∷ parts) [] = ⊥
ArePrinted (Number ∷ parts) (v ∷ vs) = IsInt v × ArePrinted parts vs
ArePrinted (Text bytes ∷ parts) vs = ArePrinted parts vs
ArePrinted (Endl ∷ parts) vs = ArePrinted parts vs

-- each an int or an address
abbrev pub AreValues : List Value → Type 0
AreValues [] = Unit {0}
AreValues (v ∷ vs) = (IsInt v ⊎ IsAddress v) × AreValues vs

-- a constructor's expressions at these arguments: each parameter is there, and operators, tests and indexes meet ints
module _ (args : List Value) where
  abbrev pub GivesInt : BuildExpr → Type 0
  GivesInt e = (v : Value) → evaluate same_name args e ≡ Gives v → IsInt v

  abbrev mutual
    pub IsStrictBuild : BuildExpr → Type 0
    IsStrictBuild (Literal c) = Unit {0}
    IsStrictBuild (Param k) = (v : Value) × (slice_get args k ≡ Some v)
    IsStrictBuild (Apply op es) = AreStrictBuild es × ((vs : List Value) → evaluate_all same_name args es ≡ Gives vs → AreFor op vs)
    IsStrictBuild (Both a b) = IsStrictBuild a × IsStrictBuild b × GivesInt a × GivesInt b
    IsStrictBuild (Either a b) = IsStrictBuild a × IsStrictBuild b × GivesInt a × GivesInt b

    pub AreStrictBuild : BuildExprs → Type 0
    AreStrictBuild NoParts = Unit {0}
    AreStrictBuild (MoreParts e es) = IsStrictBuild e × AreStrictBuild es

  abbrev pub IsStrictIndex : Option BuildExpr → Type 0
  IsStrictIndex None = Unit {0}
  IsStrictIndex (Some e) = IsStrictBuild e × GivesInt e

  abbrev pub AreStrictSets : List BuildSet → Type 0
  AreStrictSets [] = Unit {0}
  AreStrictSets (set ∷ more) = IsStrictIndex set.index × IsStrictBuild set.value × AreStrictSets more

abbrev pub HasKinds : Program → Ask Name → Type 0
HasKinds p (Reads remote x) = IsAddress x
HasKinds p (Writes false x v) = IsAddress x
HasKinds p (Writes true x v) = IsAddress x × (IsInt v ⊎ IsAddress v)
HasKinds p (Copies x n) = IsAddress x
HasKinds p (Indexes x n i) = IsAddress x × IsInt i
HasKinds p (Shifts x i) = IsAddress x × IsInt i
HasKinds p (Computes op vs) = AreFor op vs
HasKinds p Tests = Unit {0}
HasKinds p (Makes kind n) = Unit {0}
HasKinds p (MakesWith kind v) = IsOfKind kind v
HasKinds p (Builds c vs) = AreStrictSets vs (class_shape (shapes p) c).sets
HasKinds p (Enters f o vs) = IsCallee o × AreOfKinds (all_kinds (function p f).shape.params) vs
HasKinds p Leaves = Unit {0}
HasKinds p (ForksAll n) = Unit {0}
HasKinds p (ForksOne x) = IsAddress x
HasKinds p (Joins made) = Unit {0}
HasKinds p (Spawns f o vs) = IsCallee o × AreOfKinds (all_kinds (function p f).shape.params) vs
HasKinds p (Prints parts vs) = ArePrinted parts vs
HasKinds p (Calls f o vs) = IsAddress o × AreOfKinds (all_kinds (function p f).shape.params) vs
HasKinds p (Casts f o vs) = IsAddress o × AreOfKinds (all_kinds (function p f).shape.params) vs
HasKinds p (NewProcessor c vs) = AreValues vs × AreStrictSets vs (class_shape (shapes p) c).sets

-- a pointer leads to an object that is on processor q
abbrev pub IsHere : Config → Name → Value → Type 0
IsHere s q Void = Unit {0}
IsHere s q (Int n) = Unit {0}
IsHere s q Null = Unit {0}
IsHere s q (Ptr o x) = (b : Object) × (fin.get s.objects o ≡ Some b) × (b.home ≡ q)

-- the object has n cells, and each is plain: so it has a value
abbrev pub IsWholeAt : Config → Value → (n : ℕ) → Type 0
IsWholeAt s Void n = ⊥
IsWholeAt s (Int i) n = ⊥
IsWholeAt s Null n = Unit {0}
IsWholeAt s (Ptr o x) n = (b : Object) × (fin.get s.objects o ≡ Some b) × (length b.cells ≡ n)
    × ((i : ℕ) (c : Cell) → slice_get b.cells i ≡ Some c → (v : Value) × (c ≡ Plain v))

-- an ask of a thread on processor q looks, without a global pointer, at objects on q alone
abbrev pub StaysHere : Config → Name → Ask Name → Type 0
StaysHere s q (Reads false x) = IsHere s q x
StaysHere s q (Reads true x) = Unit {0}
StaysHere s q (Writes false x v) = IsHere s q x
StaysHere s q (Writes true x v) = Unit {0}
StaysHere s q (Copies x n) = IsHere s q x
StaysHere s q (Indexes x n i) = Unit {0}
StaysHere s q (Shifts x i) = Unit {0}
StaysHere s q (Computes op vs) = Unit {0}
StaysHere s q Tests = Unit {0}
StaysHere s q (Makes kind n) = Unit {0}
StaysHere s q (MakesWith kind v) = Unit {0}
StaysHere s q (Builds c vs) = Unit {0}
StaysHere s q (Enters f o vs) = IsHere s q o
StaysHere s q Leaves = Unit {0}
StaysHere s q (ForksAll n) = Unit {0}
StaysHere s q (ForksOne x) = IsHere s q x
StaysHere s q (Joins made) = Unit {0}
StaysHere s q (Spawns f o vs) = IsHere s q o
StaysHere s q (Prints parts vs) = Unit {0}
StaysHere s q (Calls f o vs) = Unit {0}
StaysHere s q (Casts f o vs) = Unit {0}
StaysHere s q (NewProcessor c vs) = Unit {0}
