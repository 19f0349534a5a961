-- What the value of a term leads to. Types speak of pointers alone: a value that is no pointer fits every type.
use Rattle.std.specs.Prelude.{◌≡◌, ◌⊎◌, ℕ, ◌+◌, ◌<◌, ◌≤◌, Bool, true, false, List, [], ◌∷◌, get_or, slice_get, Option, Some, None}
use Rattle.std.specs.FinMap as fin
use Rattle.cc_ops.specs.Values.{Void, Int, Null, Ptr, Plain, Empty, Full, last_offset}
use Rattle.cc_ops.specs.declared.kind.Kind.{Kind}
use Rattle.cc_ops.specs.declared.kind.Kind.TheVariants.{Int as IntK, SyncInt as SyncIntK, Ptr as PtrK, SyncPtr as SyncPtrK}
use Rattle.cc_core.specs.Names.{Name, Map, Value, Cell}
use Rattle.cc_core.specs.Types.{ValueType, NoValue, AnInt, AnAddress, Target, Cells, ObjectOf, Types}

-- A value of a type, which may be handed on; or an address that is read, indexed or assigned at once: of a cell of a plain variable, of the
-- cell of a class's objects at an offset, of some cell of such an object.
pub data Sort : Type 0 where
  Valued : ValueType → Sort
  NamedCell : ValueType → Sort
  MemberAt : (class offset : ℕ) → Sort
  MemberCell : (sync : Bool) → ValueType → Sort

-- the address of a variable
abbrev pub variable_sort : Target → Sort
variable_sort (Cells false w) = NamedCell w
variable_sort (Cells true w) = Valued (AnAddress (Cells true w))
variable_sort (ObjectOf c) = Valued (AnAddress (ObjectOf c))

abbrev pub is_sync : Kind → Bool
is_sync IntK = false
is_sync SyncIntK = true
is_sync PtrK = false
is_sync SyncPtrK = true

-- the cell of a class's objects at an offset
abbrev pub member : Types → ℕ → ℕ → Option Target
member y c o = slice_get (get_or y.classes c []) o

module _ (y : Types) where
  -- an address of this sort leads to a cell of this type
  abbrev pub IsCell : Sort → (sync : Bool) → ValueType → Type 0
  IsCell (Valued v) sync w = v ≡ AnAddress (Cells sync w)
  IsCell (NamedCell u) sync w = (sync ≡ false) × (u ≡ w)
  IsCell (MemberAt c o) sync w = member y c o ≡ Some (Cells sync w)
  IsCell (MemberCell s u) sync w = (s ≡ sync) × (u ≡ w)

  -- an element of an array of n cells that begins at an address of the first sort has an address of the second
  abbrev pub IsElement : (n : ℕ) → Sort → Sort → Type 0
  IsElement n (Valued v) r = (sync : Bool) × (w : ValueType) × (v ≡ AnAddress (Cells sync w)) × (r ≡ Valued v)
  IsElement n (NamedCell w) r = r ≡ NamedCell w
  IsElement n (MemberAt c o) r = (sync : Bool) × (w : ValueType) × (o + n ≤ last_offset)
      × ((j : ℕ) → j < n → member y c (o + j) ≡ Some (Cells sync w)) × (r ≡ MemberCell sync w)
  IsElement n (MemberCell s u) r = ⊥

-- What is known of the objects that there are: the cells of a plain variable; cells of one type, none of them a plain variable's; an object
-- of a class
pub data ObjectType : Type 0 where
  Named : ValueType → ObjectType
  Uniform : (sync : Bool) → ValueType → ObjectType
  Instance : (class : ℕ) → ObjectType

-- of a thread: how many objects its maker had made where the fork began; the objects that it was lent; its value's type
pub record Kin : Type 0 where
  pub mark : ℕ
  pub lent : List Name
  pub result : ValueType

pub record World : Type 0 where
  pub types : Map ObjectType
  pub kin : Map Kin

-- one world goes on as another
pub record Grows (w v : World) : Type 0 where
  pub types : (o : Name) (a : ObjectType) → fin.get w.types o ≡ Some a → fin.get v.types o ≡ Some a
  pub kin : (t : Name) (k : Kin) → fin.get w.kin t ≡ Some k → fin.get v.kin t ≡ Some k

-- among some names
abbrev pub IsNameIn : Name → List Name → Type 0
IsNameIn o [] = ⊥
IsNameIn o (q ∷ qs) = (o ≡ q) ⊎ IsNameIn o qs

-- the object is t's own
abbrev pub IsMine : Name → Name → Type 0
IsMine t o = (i : ℕ) × (o ≡ i ∷ t)

-- t's own, made from its object lo on and before hi
abbrev pub IsMineIn : Name → (lo hi : ℕ) → Name → Type 0
IsMineIn t lo hi o = (i : ℕ) × (o ≡ i ∷ t) × (lo ≤ i) × (i < hi)

module _ (w : World) where
  -- a pointer to a target leads there
  abbrev pub Leads : Name → ℕ → ValueType → Type 0
  Leads o x NoValue = ⊥
  Leads o x AnInt = ⊥
  Leads o x (AnAddress (Cells sync u)) = fin.get w.types o ≡ Some (Uniform sync u)
  Leads o x (AnAddress (ObjectOf c)) = (fin.get w.types o ≡ Some (Instance c)) × (x ≡ 0)

  -- a value of a type
  abbrev pub Fits : Value → ValueType → Type 0
  Fits Void u = Unit {0}
  Fits (Int n) u = Unit {0}
  Fits Null u = Unit {0}
  Fits (Ptr o x) u = Leads o x u

  abbrev pub CellFits : Cell → Option Target → Type 0
  CellFits c None = Unit {0}
  CellFits c (Some (ObjectOf k)) = ⊥
  CellFits (Plain v) (Some (Cells sync u)) = (sync ≡ false) × Fits v u
  CellFits Empty (Some (Cells sync u)) = sync ≡ true
  CellFits (Full v) (Some (Cells sync u)) = (sync ≡ true) × Fits v u

  -- of values and types in step
  abbrev pub AllFit : List Value → List ValueType → Type 0
  AllFit vs [] = vs ≡ []
  AllFit [] (u ∷ us) = ⊥
  AllFit (v ∷ vs) (u ∷ us) = Fits v u × AllFit vs us

  module _ (y : Types) (t : Name) (lent : List Name) where
    -- an address of this sort. A cell of a plain variable is t's own or was lent to it
    abbrev pub LeadsTo : Name → ℕ → Sort → Type 0
    LeadsTo o x (Valued u) = Leads o x u
    LeadsTo o x (NamedCell u) = (fin.get w.types o ≡ Some (Named u)) × (IsMine t o ⊎ IsNameIn o lent)
    LeadsTo o x (MemberAt c k) = (fin.get w.types o ≡ Some (Instance c)) × (x ≡ k)
    LeadsTo o x (MemberCell sync u) =
        (c : ℕ) × (fin.get w.types o ≡ Some (Instance c)) × (member y c x ≡ Some (Cells sync u))

    abbrev pub HasSort : Value → Sort → Type 0
    HasSort Void r = Unit {0}
    HasSort (Int n) r = Unit {0}
    HasSort Null r = Unit {0}
    HasSort (Ptr o x) r = LeadsTo o x r

-- the type of an object's cell at an offset
abbrev pub cell_type : Types → ObjectType → ℕ → Option Target
cell_type y (Named u) x = Some (Cells false u)
cell_type y (Uniform sync u) x = Some (Cells sync u)
cell_type y (Instance c) x = member y c x

abbrev pub CellsFit : World → Types → ObjectType → List Cell → Type 0
CellsFit w y a cells = (x : ℕ) (c : Cell) → slice_get cells x ≡ Some c → CellFits w c (cell_type y a x)
