-- What an instruction does with its operands.
use Rattle.std.specs.Prelude.{ℕ, suc, false, true, if◌then◌else◌, List, [], ◌∷◌, ◌++◌, length, set}
use Rattle.cc_ops.specs.Values.{Value, Void, Null, constant, first, second, is_zero, moved, sent, resized}
use Rattle.cc_ops.specs.Operators.{truth}
use Rattle.cc_core.specs.Core.{function_shape}
use Rattle.cc_core.specs.Asks.{Reads, Writes, Copies, Indexes, Shifts, Computes, Tests, Makes, MakesWith, Builds, Leaves, ForksAll, ForksOne}
use Rattle.cc_core.specs.Asks.{Joins, Prints}
use Rattle.cc_core.specs.Next.{variable, call_ask, spawn_ask, object_ask}
use Rattle.cc_code.specs.Code.{Instr, PushI, ThisI, VariableI, FieldI, DropI, JumpI, EndI, IndexI, AtI, LoadI, StoreI, OpI, TestI, AndI}
use Rattle.cc_code.specs.Code.{OrI, MakeI, SetI, BuildI, NewI, NewObjectI, CallI, SpawnI, CellsI, RetI, ForkI, EachI, JoinI, PrintI}
use Rattle.cc_code.specs.Code.{Code, Frame, Runs, Move, Silent, Does, Ends, only, at_place, frame, next_place, gives_value, makes_variable, chooses}
use Rattle.cc_code.specs.Code.{returned, call_left, pushed, branch_at, branches_at}

-- An instruction at line n, in a frame over others, that takes the operands vs, the last one last, from those that rest. It is the law
-- `act_found` that an instruction which finds its operands acts so.
module _ {N : Type 0} (code : Code) (f : Frame N) (fs : List (Frame N)) (vs rest : List (Value N)) (n : ℕ) where
  abbrev pub acts_on : Instr → Move N
  acts_on (PushI c) = Silent (next_place f fs (constant c ∷ rest))
  acts_on ThisI = Silent (next_place f fs (f.this ∷ rest))
  acts_on (VariableI k) = Silent (next_place f fs (variable f.vars k Null ∷ rest))
  acts_on (FieldI o) = Silent (next_place f fs (moved (first vs) o ∷ rest))
  acts_on DropI = Silent (next_place f fs rest)
  acts_on (JumpI to) = Silent (Runs (at_place f to) fs rest)
  acts_on EndI = Ends Void
  acts_on (IndexI size) = gives_value f fs rest n (Indexes (first vs) size (second vs))
  acts_on AtI = gives_value f fs rest n (Shifts (first vs) (second vs))
  acts_on (LoadI remote) = gives_value f fs rest n (Reads remote (first vs))
  acts_on (StoreI remote) = Does n (Writes remote (first vs) (sent remote (second vs))) (λ x. only (next_place f fs rest))
  acts_on (OpI op) = gives_value f fs rest n (Computes op vs)
  acts_on (TestI to) = Does n Tests (λ x. only (chooses f fs to rest rest (is_zero (first vs))))
  acts_on (AndI to) = Does n Tests (λ x. only (chooses f fs to (truth false ∷ rest) rest (is_zero (first vs))))
  acts_on (OrI to) = Does n Tests (λ x. only
      (if is_zero (first vs) then next_place f fs rest else Runs (at_place f to) fs (truth true ∷ rest)))
  acts_on (MakeI k kind size) = makes_variable f fs rest n k (Makes kind size)
  acts_on (SetI k kind) = makes_variable f fs rest n k (MakesWith kind (first vs))
  acts_on (BuildI k c) = makes_variable f fs rest n k (Builds c vs)
  acts_on (NewI kind size) = gives_value f fs rest n (Makes kind size)
  acts_on (NewObjectI remote c) = gives_value f fs rest n (object_ask remote c vs)
  acts_on (CallI how g) =
      Does n (call_ask (function_shape code.shapes g) how g vs) (λ x. only (call_left code how g vs x.values f fs rest))
  acts_on (SpawnI how g) = Does n (spawn_ask (function_shape code.shapes g) how g vs) (λ x. only (next_place f fs rest))
  acts_on (CellsI size) = Does n (Copies (first vs) size) (λ x. only (next_place f fs (pushed (resized size x.values) rest)))
  acts_on RetI = Does n Leaves (λ x. only (returned (first vs) fs rest))
  acts_on (ForkI targets) = Does n (ForksAll (length targets)) (λ x. record {
    left = Runs (frame f.this f.vars x.made (suc f.place)) fs rest;
    branches = branches_at f.this f.vars targets;
  })
  acts_on (EachI to k) = Does n (ForksOne (variable f.vars k Null)) (λ x. record {
    left = Runs (frame f.this f.vars (x.made ++ f.made) (suc f.place)) fs rest;
    branches = branch_at f.this (set f.vars k (first x.values)) to ∷ [];
  })
  acts_on JoinI = Does n (Joins f.made) (λ x. only (Runs (frame f.this f.vars [] (suc f.place)) fs rest))
  acts_on (PrintI parts) = Does n (Prints parts vs) (λ x. only (next_place f fs rest))
