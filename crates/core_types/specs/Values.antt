-- Which values have a type, in a world: what is known of the objects and threads that there are (a store typing).
use Rattle.std.specs.Prelude.{◌≡◌, ℕ, Bool, true, false, List, [], ◌∷◌, length, Option, Some, None, slice_get}
use Rattle.std.specs.FinMap as fin
use Rattle.cc_ops.specs.Values.{Void, Int, Null, Ptr, Plain, Empty, Full}
use Rattle.cc_core.specs.Names.{Name, Map, Value, Cell}
use Rattle.cc_core.specs.Core.{Env}
use Rattle.cc_core.specs.Next.{variable}
use Rattle.core_types.specs.Types.{ValueType, NoValue, AnInt, Pointer, Target, Cells, ObjectOf, MemberOf, PartOf, CellType, Holds, Types, class_types, member, IsValue}

-- what an object consists of: cells of one type in a row; the cells of a class
pub data Content : Type 0 where
  Row : (sync : Bool) → ValueType → Content
  Instance : (class : ℕ) → Content

-- of an object: its processor, and what it consists of
pub record ObjectEntry : Type 0 where
  pub home : Name
  pub content : Content

-- of a thread: its processor, and the type of the value that it ends with
pub record ThreadEntry : Type 0 where
  pub home : Name
  pub result : ValueType

pub record World : Type 0 where
  pub objects : Map ObjectEntry
  pub threads : Map ThreadEntry

-- one world is extended by another
pub record Grows (w v : World) : Type 0 where
  pub objects : (o : Name) (e : ObjectEntry) → fin.get w.objects o ≡ Some e → fin.get v.objects o ≡ Some e
  pub threads : (t : Name) (k : ThreadEntry) → fin.get w.threads t ≡ Some k → fin.get v.threads t ≡ Some k

-- a local pointer that is held on processor q leads to an object there
abbrev pub IsNear : (remote : Bool) → (home q : Name) → Type 0
IsNear true home q = Unit {0}
IsNear false home q = home ≡ q

-- at offset x of an object
module _ (y : Types) where
  abbrev pub IsIn : Content → (x : ℕ) → Target → Type 0
  IsIn k x (Cells sync u) = k ≡ Row sync u
  IsIn k x (ObjectOf c) = (k ≡ Instance c) × (x ≡ 0)
  IsIn k x (MemberOf c o) = (k ≡ Instance c) × (x ≡ o)
  IsIn k x (PartOf c sync u) = (k ≡ Instance c) × (member y c x ≡ Some (Holds sync u))

  -- the type of an object's cell
  abbrev pub cell_type : Content → ℕ → Option CellType
  cell_type (Row sync u) x = Some (Holds sync u)
  cell_type (Instance c) x = member y c x

  -- an object of a class has all cells of the class
  abbrev pub IsWhole : Content → List Cell → Type 0
  IsWhole (Row sync u) cells = Unit {0}
  IsWhole (Instance c) cells = length cells ≡ length (class_types y c).cells

  module _ (w : World) (q : Name) where
    -- a pointer that is held on processor q leads to this target
    abbrev pub Leads : Name → ℕ → (remote : Bool) → Target → Type 0
    Leads o x remote a = (e : ObjectEntry) × (fin.get w.objects o ≡ Some e) × IsIn e.content x a × IsNear remote e.home q

    -- a value that is held on processor q has this type
    abbrev pub Fits : Value → ValueType → Type 0
    Fits Void u = u ≡ NoValue
    Fits (Int n) u = u ≡ AnInt
    Fits Null u = (remote : Bool) × (a : Target) × (u ≡ Pointer remote a)
    Fits (Ptr o x) u = (remote : Bool) × (a : Target) × (u ≡ Pointer remote a) × Leads o x remote a

    abbrev pub AllFit : List Value → List ValueType → Type 0
    AllFit vs [] = vs ≡ []
    AllFit [] (u ∷ us) = ⊥
    AllFit (v ∷ vs) (u ∷ us) = Fits v u × AllFit vs us

    -- what a call is on: an object of the function's class, or nothing
    abbrev pub IsObject : Option ℕ → Value → Type 0
    IsObject None v = v ≡ Void
    IsObject (Some c) v = Fits v (Pointer false (ObjectOf c))

    -- each variable's address leads to its target; it is null until the variable is made
    abbrev pub EnvFits : List Target → Env → Type 0
    EnvFits vars env = (k : ℕ) (a : Target) → slice_get vars k ≡ Some a → Fits (variable env k Null) (Pointer false a)

    -- a cell of an object on processor q has this type; no cell holds void
    abbrev pub CellFits : Cell → Option CellType → Type 0
    CellFits c None = ⊥
    CellFits (Plain v) (Some (Holds sync u)) = (sync ≡ false) × Fits v u × IsValue u
    CellFits Empty (Some (Holds sync u)) = (sync ≡ true) × IsValue u
    CellFits (Full v) (Some (Holds sync u)) = (sync ≡ true) × Fits v u × IsValue u

    abbrev pub CellsFit : Content → List Cell → Type 0
    CellsFit k cells = (x : ℕ) (c : Cell) → slice_get cells x ≡ Some c → CellFits c (cell_type k x)
