-- Each ask with the types of what it hands over and of the values that answer it, one a line.
use Rattle.std.specs.Prelude.{◌≡◌, ℕ, Bool, true, false, ◌||◌, List, [], ◌∷◌, length, Some}
use Rattle.cc_core.specs.Names.{Name, Value}
use Rattle.cc_core.specs.Core.{Program, function}
use Rattle.cc_core.specs.Asks.{Ask, Reads, Writes, Copies, Indexes, Shifts, Computes, Tests, Makes, MakesWith, Builds, Enters}
use Rattle.cc_core.specs.Asks.{Leaves, ForksAll, ForksOne, Joins, Spawns, Prints, Calls, Casts, NewProcessor}
use Rattle.core_types.specs.Types.{ValueType, AnInt, Pointer, Target, Cells, ObjectOf, Types, function_types, class_types, is_sync, IsKind}
use Rattle.core_types.specs.Types.{AllCross, ComesBack, Passes, Allowed, AreOperands, printed_types, addressed, IsCell, IsCopied, IsElement}
use Rattle.core_types.specs.Values.{World, Fits, AllFit, IsObject}
use Rattle.core_types.specs.Typing.{is_atomic}

module _ (p : Program) (y : Types) (w : World) (q : Name) where
  -- a call through a global pointer
  abbrev pub IsRemoteCall : ℕ → Value → List Value → Type 0
  IsRemoteCall f o vs = (c : ℕ) × ((function_types y f).this ≡ Some c) × Fits y w q o (Pointer true (ObjectOf c))
      × AllFit y w q vs (function_types y f).params × AllCross (function_types y f).params × ComesBack (function_types y f).result

  -- on processor q, where the thread may wait or not; the values that answer it have these types
  abbrev pub IsAsk : (waits : Bool) → Ask Name → List ValueType → Type 0
  IsAsk waits (Reads remote x) us = (a : Target) × (sync : Bool) × (u : ValueType)
      × Fits y w q x (Pointer remote a) × IsCell y a sync u × Passes remote u × Allowed waits (remote || sync) × (us ≡ u ∷ [])
  IsAsk waits (Writes remote x v) us = (a : Target) × (sync : Bool) × (u : ValueType)
      × Fits y w q x (Pointer remote a) × IsCell y a sync u × Fits y w q v u × Passes remote u × Allowed waits remote × (us ≡ [])
  IsAsk waits (Copies x n) us = (c : ℕ) × Fits y w q x (Pointer false (ObjectOf c)) × IsCopied y c us × (length us ≡ n)
  IsAsk waits (Indexes x n i) us = (remote : Bool) × (a : Target) × (b : Target)
      × Fits y w q x (Pointer remote a) × Fits y w q i AnInt × IsElement y n a b × (us ≡ Pointer remote b ∷ [])
  IsAsk waits (Shifts x i) us = (remote : Bool) × (sync : Bool) × (u : ValueType)
      × Fits y w q x (Pointer remote (Cells sync u)) × Fits y w q i AnInt × (us ≡ Pointer remote (Cells sync u) ∷ [])
  IsAsk waits (Computes op vs) us = (ts : List ValueType) × AllFit y w q vs ts × AreOperands op ts × (us ≡ AnInt ∷ [])
  IsAsk waits Tests us = us ≡ []
  IsAsk waits (Makes kind n) us = (u : ValueType) × IsKind kind u × (us ≡ Pointer false (Cells (is_sync kind) u) ∷ [])
  IsAsk waits (MakesWith kind v) us =
      (u : ValueType) × IsKind kind u × Fits y w q v u × (us ≡ Pointer false (Cells (is_sync kind) u) ∷ [])
  IsAsk waits (Builds c vs) us = AllFit y w q vs (class_types y c).params × (us ≡ Pointer false (ObjectOf c) ∷ [])
  IsAsk waits (Enters f o vs) us = IsObject y w q (function_types y f).this o × AllFit y w q vs (function_types y f).params
      × Allowed waits ((function_types y f).waits || is_atomic p f)
      × (us ≡ addressed (function p f).shape.params (function_types y f).vars)
  IsAsk waits Leaves us = us ≡ []
  IsAsk waits (ForksAll n) us = (waits ≡ true) × (us ≡ [])
  IsAsk waits (ForksOne x) us =
      Fits y w q x (Pointer false (Cells false AnInt)) × (waits ≡ true) × (us ≡ Pointer false (Cells false AnInt) ∷ AnInt ∷ [])
  IsAsk waits (Joins made) us = (waits ≡ true) × (us ≡ [])
  IsAsk waits (Spawns f o vs) us = IsObject y w q (function_types y f).this o × AllFit y w q vs (function_types y f).params
      × (waits ≡ true) × (us ≡ [])
  IsAsk waits (Prints parts vs) us = AllFit y w q vs (printed_types parts) × (us ≡ [])
  IsAsk waits (Calls f o vs) us = IsRemoteCall f o vs × (waits ≡ true) × (us ≡ (function_types y f).result ∷ [])
  IsAsk waits (Casts f o vs) us = IsRemoteCall f o vs × (waits ≡ true) × (us ≡ [])
  IsAsk waits (NewProcessor c vs) us = AllFit y w q vs (class_types y c).params × AllCross (class_types y c).params
      × (waits ≡ true) × (us ≡ Pointer true (ObjectOf c) ∷ [])
