-- Pointers keep their homes: what a local pointer leads to is on the processor where the pointer is held.
use Rattle.std.specs.Prelude.{◌≡◌, ◌⊎◌, ℕ, Bool, true, false, List, Some, slice_get}
use Rattle.std.specs.FinMap as fin
use Rattle.cc_ops.specs.Values.{Plain, Full}
use Rattle.cc_core.specs.Names.{Name, Value}
use Rattle.cc_core.specs.Core.{Program, Term}
use Rattle.cc_core.specs.Asks.{Ask, Answer, Reads, Writes, Copies, Indexes, Shifts, Computes, Tests, Makes, MakesWith, Builds, Enters}
use Rattle.cc_core.specs.Asks.{Leaves, ForksAll, ForksOne, Joins, Spawns, Prints, Calls, Casts, NewProcessor}
use Rattle.cc_core.specs.Next.{After, Asks, next}
use Rattle.cc_core.specs.Config.{Config, Thread, Live, Object}
use Rattle.core_types.specs.Types.{ValueType, Pointer, Target, Holds, Types, function_types, class_types, Crosses, AllCross, ComesBack}
use Rattle.core_types.specs.Values.{ObjectEntry, World, Fits, cell_type}
use Rattle.core_types.specs.Asks.{IsAsk}
use Rattle.core_types.specs.Runs.{IsTypedAt}
use Rattle.core_types.specs.Kinds.{IsHere}

-- what a remote ask hands over and takes back has types that may go to another processor
abbrev pub TypesCross : Types → Ask Name → (answer : List ValueType) → Type 0
TypesCross y (Reads false x) us = Unit {0}
TypesCross y (Reads true x) us = AllCross us
TypesCross y (Writes remote x v) us = Unit {0}
TypesCross y (Copies x n) us = Unit {0}
TypesCross y (Indexes x n i) us = Unit {0}
TypesCross y (Shifts x i) us = Unit {0}
TypesCross y (Computes op vs) us = Unit {0}
TypesCross y Tests us = Unit {0}
TypesCross y (Makes kind n) us = Unit {0}
TypesCross y (MakesWith kind v) us = Unit {0}
TypesCross y (Builds c vs) us = Unit {0}
TypesCross y (Enters f o vs) us = Unit {0}
TypesCross y Leaves us = Unit {0}
TypesCross y (ForksAll n) us = Unit {0}
TypesCross y (ForksOne x) us = Unit {0}
TypesCross y (Joins made) us = Unit {0}
TypesCross y (Spawns f o vs) us = Unit {0}
TypesCross y (Prints parts vs) us = Unit {0}
TypesCross y (Calls f o vs) us = AllCross (function_types y f).params × ComesBack (function_types y f).result
TypesCross y (Casts f o vs) us = AllCross (function_types y f).params
TypesCross y (NewProcessor c vs) us = AllCross (class_types y c).params

-- a cell holds this value
abbrev pub HoldsAt : Object → ℕ → Value → Type 0
HoldsAt x i v = (slice_get x.cells i ≡ Some (Plain v)) ⊎ (slice_get x.cells i ≡ Some (Full v))

-- in a world that types the configuration
pub record HomesKept (p : Program) (y : Types) (s : Config) (w : World) : Type 0 where
  pub typed : IsTypedAt p y w s
  -- a value of the type of a local pointer leads to an object on the processor where it is held
  pub local : (q : Name) (v : Value) (a : Target) → Fits y w q v (Pointer false a) → IsHere s q v
  -- so do the local pointers that an object's cells hold
  pub cells : (o : Name) (x : Object) (e : ObjectEntry) (i : ℕ) (sync : Bool) (a : Target) (v : Value) → fin.get s.objects o ≡ Some x
      → fin.get w.objects o ≡ Some e → cell_type y e.content i ≡ Some (Holds sync (Pointer false a)) → HoldsAt x i v → IsHere s x.home v
  -- what may go to another processor has its type on every processor
  pub crossing : (q r : Name) (v : Value) (u : ValueType) → Crosses u → Fits y w q v u → Fits y w r v u
  -- what is sent has types that may cross
  pub sent : (t : Name) (l : Thread) → fin.get s.threads t ≡ Some (Live l) → (line : ℕ) (ask : Ask Name) (k : Answer Name → After Term)
      → next p l.term ≡ Asks line ask k → (us : List ValueType) × IsAsk p y w l.home true ask us × TypesCross y ask us

abbrev pub KeepHomes : Program → Types → Config → Type 0
KeepHomes p y s = (w : World) × HomesKept p y s w
