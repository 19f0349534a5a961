-- Which code is valid. Each target stands in its own function, each number is in range, and jumps do not go round in a circle of silent
-- instructions; and each place is reached with one number of operands, which its instruction finds.
use Rattle.std.specs.Prelude.{◌≡◌, ◌≢◌, ◌⊎◌, ℕ, suc, ◌-◌, ◌<◌, Bool, true, false, ◌&&◌, ◌==◌, nat_lt, nat_le, if◌then◌else◌}
use Rattle.std.specs.Prelude.{List, [], ◌∷◌, ◌++◌, length, map, get_or, slice_get, count_by, Contains, Option, Some, None}
use Rattle.std.specs.List.{list_all}
use Rattle.cc_ops.specs.Operators.{takes}
use Rattle.cc_ops.specs.declared.shape.FunShape.{FunShape}
use Rattle.cc_core.specs.Core.{Shapes, function_shape, class_shape}
use Rattle.cc_core.specs.Source.{operands, values}
use Rattle.cc_code.specs.Code.{Instr, PushI, ThisI, VariableI, FieldI, DropI, JumpI, EndI, IndexI, AtI, LoadI, StoreI, OpI, TestI, AndI}
use Rattle.cc_code.specs.Code.{OrI, MakeI, SetI, BuildI, NewI, NewObjectI, CallI, SpawnI, CellsI, RetI, ForkI, EachI, JoinI, PrintI}
use Rattle.cc_code.specs.Code.{Placed, Code, entry}
use Rattle.cc_code.specs.Depth.{deeper, less}
use Rattle.cc_code.specs.declared.depth.Depth.{Depth}
use Rattle.cc_code.specs.declared.depth.Depth.TheVariants.{Exactly, Several}
use Rattle.cc_code.specs.Settles.{silent_to}
use Rattle.cc_code.specs.Stands.{Has}

-- Where an instruction leads: to the next place, unless it is a jump or an end, and to its targets.

abbrev pub goes_on : Instr → Bool
goes_on (JumpI to) = false
goes_on EndI = false
goes_on RetI = false
goes_on i = true

abbrev pub targets_of : Instr → List ℕ
targets_of (JumpI to) = to ∷ []
targets_of (TestI to) = to ∷ []
targets_of (AndI to) = to ∷ []
targets_of (OrI to) = to ∷ []
targets_of (EachI to k) = to ∷ []
targets_of (ForkI targets) = targets
targets_of i = []

-- The function that a place lies in is the last that begins there or before.

abbrev pub function_at : Code → ℕ → ℕ
function_at code b = count_by (λ e. nat_le e b) code.entries - 1

abbrev pub same_function : Code → ℕ → ℕ → Bool
same_function code b c = nat_lt c (length code.places) && (function_at code c == function_at code b)

-- the place behind the instructions of function f
abbrev pub end_of : Code → ℕ → ℕ
end_of code f = get_or code.entries (suc f) (length code.places)

-- Targets.

-- a variable is one of the function's, a function or a class is one of the code's, and there is at least one cell
abbrev pub in_range : Shapes → FunShape → Instr → Bool
in_range h f (VariableI k) = nat_lt k f.vars
in_range h f (IndexI n) = nat_lt 0 n
in_range h f (MakeI k kind n) = nat_lt k f.vars && nat_lt 0 n
in_range h f (SetI k kind) = nat_lt k f.vars
in_range h f (BuildI k c) = nat_lt k f.vars && nat_lt c (length h.classes)
in_range h f (NewI kind n) = nat_lt 0 n
in_range h f (NewObjectI remote c) = nat_lt c (length h.classes)
in_range h f (CallI how g) = nat_lt g (length h.functions)
in_range h f (SpawnI how g) = nat_lt g (length h.functions)
in_range h f (CellsI n) = nat_lt 0 n
in_range h f (EachI to k) = nat_lt k f.vars
in_range h f i = true

-- it leads nowhere but to places of the function that place b lies in
abbrev pub stays : Code → ℕ → Instr → Bool
stays code b i = (if goes_on i then same_function code b (suc b) else true) && list_all (same_function code b) (targets_of i)

abbrev pub well_aimed : Code → ℕ → Instr → Bool
well_aimed code b i = in_range code.shapes (function_shape code.shapes (function_at code b)) i && stays code b i

-- the instruction at a place has a number that is out of range, or leads out of its function
abbrev pub IsMisaimed : Code → ℕ → Type 0
IsMisaimed code b = (i : Placed) × (slice_get code.places b ≡ Some i) × (well_aimed code b i.instr ≡ false)

-- a function that has no instruction begins at a place
abbrev pub IsEmptyEntry : Code → ℕ → Type 0
IsEmptyEntry code b = (f : ℕ) × (f < length code.entries) × (entry code f ≡ b) × (end_of code f ≡ b)

-- silent instructions alone lead from one place to another, in one step or more
pub data LeadsSilently (code : Code) : ℕ → ℕ → Type 0 where
  step : {b c : ℕ} → silent_to b (slice_get code.places b) ≡ Some c → LeadsSilently code b c
  steps : {b c d : ℕ} → silent_to b (slice_get code.places b) ≡ Some c → LeadsSilently code c d → LeadsSilently code b d

-- a jump that reaches itself by silent instructions alone
abbrev pub IsCircle : Code → ℕ → Type 0
IsCircle code b = (line : ℕ) × (to : ℕ) × Has code line b (JumpI to) × LeadsSilently code b b

abbrev pub IsBadTarget : Code → ℕ → Type 0
IsBadTarget code b = IsEmptyEntry code b ⊎ (IsMisaimed code b ⊎ IsCircle code b)

-- Depths.

-- how many operands an instruction takes
abbrev pub taken : Shapes → Instr → ℕ
taken h (PushI c) = 0
taken h ThisI = 0
taken h (VariableI k) = 0
taken h (FieldI o) = 1
taken h DropI = 1
taken h (JumpI to) = 0
taken h EndI = 0
taken h (IndexI n) = 2
taken h AtI = 2
taken h (LoadI remote) = 1
taken h (StoreI remote) = 2
taken h (OpI op) = takes op
taken h (TestI to) = 1
taken h (AndI to) = 1
taken h (OrI to) = 1
taken h (MakeI k kind n) = 0
taken h (SetI k kind) = 1
taken h (BuildI k c) = (class_shape h c).params
taken h (NewI kind n) = 0
taken h (NewObjectI remote c) = (class_shape h c).params
taken h (CallI how f) = operands h how f
taken h (SpawnI how f) = operands h how f
taken h (CellsI n) = 1
taken h RetI = 1
taken h (ForkI targets) = 0
taken h (EachI to k) = 0
taken h JoinI = 0
taken h (PrintI parts) = values parts

-- how many it leaves in their stead where it goes on to the next place
abbrev pub given : Instr → ℕ
given (PushI c) = 1
given ThisI = 1
given (VariableI k) = 1
given (FieldI o) = 1
given (IndexI n) = 1
given AtI = 1
given (LoadI remote) = 1
given (OpI op) = 1
given (NewI kind n) = 1
given (NewObjectI remote c) = 1
given (CallI how f) = 1
given (CellsI n) = n
given i = 0

-- the depth at the targets of an instruction; a branch begins with no operand
abbrev pub target_depth : Instr → (rest : Depth) → Depth
target_depth (AndI to) rest = deeper rest 1
target_depth (OrI to) rest = deeper rest 1
target_depth (ForkI targets) rest = Exactly 0
target_depth (EachI to k) rest = Exactly 0
target_depth i rest = rest

abbrev pub Way : Type 0
Way = ℕ × Depth

-- where the instruction at place b leads, and with what depth, when its operands are taken
abbrev pub ways : ℕ → Instr → (rest : Depth) → List Way
ways b i rest = (if goes_on i then (suc b, deeper rest (given i)) ∷ [] else []) ++ map (λ to. (to, target_depth i rest)) (targets_of i)

-- from place b, reached with depth d, on to place c with depth e, in the same function
pub record Leads (code : Code) (b : ℕ) (d : Depth) (c : ℕ) (e : Depth) : Type 0 where
  pub placed : Placed
  pub stands : slice_get code.places b ≡ Some placed
  pub rest : Depth
  pub finds : less (taken code.shapes placed.instr) d ≡ Some rest
  pub way : Contains (ways b placed.instr rest) (c, e)
  pub inside : same_function code b c ≡ true

-- Place b is reached with a depth. Functions begin with no operand.
pub data Reached (code : Code) : ℕ → Depth → Type 0 where
  begins : (f : ℕ) → f < length code.entries → Reached code (entry code f) (Exactly 0)
  follows : {b c : ℕ} {d e : Depth} → Reached code b d → Leads code b d c e → Reached code c e
  meet : {b : ℕ} {d e : Depth} → Reached code b d → Reached code b e → d ≢ e → Reached code b Several

-- an instruction finds its operands; a return finds one alone, and the end of a branch none
abbrev pub suits : Shapes → Instr → ℕ → Bool
suits h RetI d = d == 1
suits h EndI d = d == 0
suits h i d = nat_le (taken h i) d

abbrev pub suits_at : Shapes → Option Placed → Depth → Bool
suits_at h i Several = false
suits_at h None (Exactly d) = true
suits_at h (Some i) (Exactly d) = suits h i.instr d

abbrev pub IsBadDepth : Code → ℕ → Type 0
IsBadDepth code b = (d : Depth) × Reached code b d × (suits_at code.shapes (slice_get code.places b) d ≡ false)

-- Validity.

abbrev pub IsFine : Code → ℕ → Type 0
IsFine code b = (¬ IsBadTarget code b) × (¬ IsBadDepth code b)

abbrev pub IsValid : Code → Type 0
IsValid code = (b : ℕ) → IsFine code b

-- the first place where code is not valid has a bad target, or a bad depth alone
abbrev pub FirstBadTarget : Code → ℕ → Type 0
FirstBadTarget code at = IsBadTarget code at × ((b : ℕ) → b < at → IsFine code b)

abbrev pub FirstBadDepth : Code → ℕ → Type 0
FirstBadDepth code at = IsBadDepth code at × (¬ IsBadTarget code at) × ((b : ℕ) → b < at → IsFine code b)
