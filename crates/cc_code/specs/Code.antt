-- The code, and what a thread of the machine does by one instruction. N is the type of what names an object.
use Rattle.std.specs.Prelude.{ℕ, zero, suc, List, [], ◌∷◌, ◌++◌, Option, Some, None, Bool, true, false, if◌then◌else◌, slice_get}
use Rattle.std.specs.Prelude.{get_or, set, length}
use Rattle.cc_ops.specs.Values.{Value, Void, Null, Constant, constant, is_zero, first, resized, moved, sent}
use Rattle.cc_ops.specs.Operators.{truth, takes}
use Rattle.cc_ops.specs.declared.kind.Kind.{Kind}
use Rattle.cc_ops.specs.declared.operator.Op.{Op}
use Rattle.cc_core.specs.Core.{How, Alone, On, Remote, PrintPart, Shapes, function_shape, class_shape}
use Rattle.cc_core.specs.Asks.{Ask, Answer, Reads, Writes, Copies, Indexes, Shifts, Computes, Tests, Makes, MakesWith, Builds, Enters}
use Rattle.cc_core.specs.Asks.{Leaves, ForksAll, ForksOne, Joins, Prints}
use Rattle.cc_core.specs.Source.{operands, values}
use Rattle.cc_core.specs.Next.{variable, call_ask, spawn_ask, object_ask}

-- The instructions. Their names as listed: push, this, var, field, drop, jump, end, index, at; load, and get where it is remote;
-- store, and
-- put; op, test, and, or, make, set, build, new; newobj, and newproc; call, callon and ask; spawn, spawnon and cast; cells, ret, fork,
-- each, join, print. A class argument is put on the operands by `cells`.
pub data Instr : Type 0 where
  PushI : Constant → Instr
  ThisI : Instr
  VariableI : (k : ℕ) → Instr
  FieldI : (o : ℕ) → Instr
  DropI : Instr
  JumpI : (to : ℕ) → Instr
  EndI : Instr
  IndexI : (n : ℕ) → Instr
  AtI : Instr
  LoadI : (remote : Bool) → Instr
  StoreI : (remote : Bool) → Instr
  OpI : Op → Instr
  TestI : (to : ℕ) → Instr
  AndI : (to : ℕ) → Instr
  OrI : (to : ℕ) → Instr
  MakeI : (k : ℕ) → Kind → (n : ℕ) → Instr
  SetI : (k : ℕ) → Kind → Instr
  BuildI : (k class : ℕ) → Instr
  NewI : Kind → (n : ℕ) → Instr
  NewObjectI : (remote : Bool) → (class : ℕ) → Instr
  CallI : How → (f : ℕ) → Instr
  SpawnI : How → (f : ℕ) → Instr
  CellsI : (n : ℕ) → Instr
  RetI : Instr
  ForkI : (to : List ℕ) → Instr
  EachI : (to k : ℕ) → Instr
  JoinI : Instr
  PrintI : List PrintPart → Instr

-- an instruction with the line of its statement
pub record Placed : Type 0 where
  pub instr : Instr
  pub line : ℕ

-- entries: where each function begins
pub record Code : Type 0 where
  pub places : List Placed
  pub entries : List ℕ
  pub shapes : Shapes

abbrev pub entry : Code → ℕ → ℕ
entry code g = get_or code.entries g 0

-- an entered function: its object, its variables' addresses, the next instruction, and the branches that it forked and has not joined
pub record Frame (N : Type 0) : Type 0 where
  pub this : Value N
  pub vars : List (Value N)
  pub place : ℕ
  pub made : List ℕ

-- a thread in a function, over those that it returns to, with its operands, the last one first; one whose first step is a call; one that
-- has nothing left
pub data Thread (N : Type 0) : Type 0 where
  Runs : Frame N → List (Frame N) → (ops : List (Value N)) → Thread N
  Starting : (f : ℕ) → (this : Value N) → List (Value N) → Thread N
  Finished : Value N → Thread N

-- what is left after an answer, and the branches that are forked
pub record Then (N : Type 0) : Type 0 where
  pub left : Thread N
  pub branches : List (Thread N)

-- a silent move; an ask at a line, and what follows its answer; the thread's end; code that no layout gives
pub data Move (N : Type 0) : Type 0 where
  Silent : Thread N → Move N
  Does : (line : ℕ) → Ask N → (Answer N → Then N) → Move N
  Ends : Value N → Move N
  Stuck : Move N

module _ {N : Type 0} where
  abbrev pub only : Thread N → Then N
  only c = record { left = c; branches = [] }

  -- the topmost n operands, the last one last, and the others
  abbrev pub popped : ℕ → List (Value N) → List (Value N) → Option (List (Value N) × List (Value N))
  popped zero ops got = Some (got, ops)
  popped (suc n) [] got = None
  popped (suc n) (v ∷ ops) got = popped n ops (v ∷ got)

  abbrev pub with_popped : Option (List (Value N) × List (Value N)) → (List (Value N) → List (Value N) → Move N) → Move N
  with_popped None go = Stuck
  with_popped (Some p) go = go p.0 p.1

  abbrev pub top_one : List (Value N) → (Value N → List (Value N) → Move N) → Move N
  top_one [] go = Stuck
  top_one (v ∷ ops) go = go v ops

  -- the lower one first
  abbrev pub top_two : List (Value N) → (Value N → Value N → List (Value N) → Move N) → Move N
  top_two ops go = top_one ops (λ w rest. top_one rest (λ v rest'. go v w rest'))

  -- values on top of others, the last one last
  abbrev pub pushed : List (Value N) → List (Value N) → List (Value N)
  pushed [] ops = ops
  pushed (v ∷ vs) ops = pushed vs (v ∷ ops)

  abbrev pub at_place : Frame N → ℕ → Frame N
  at_place f b = record { this = f.this; vars = f.vars; place = b; made = f.made }

  abbrev pub frame : Value N → List (Value N) → List ℕ → ℕ → Frame N
  frame this vars made b = record { this = this; vars = vars; place = b; made = made }

  -- function g as it is entered, with the addresses of its parameters
  abbrev pub enter_at : Code → ℕ → Value N → List (Value N) → Frame N
  enter_at code g this xs = frame this (resized (function_shape code.shapes g).vars xs) [] (entry code g)

  abbrev pub branch_at : Value N → List (Value N) → ℕ → Thread N
  branch_at this vars to = Runs (frame this vars [] to) [] []

  abbrev pub branches_at : Value N → List (Value N) → List ℕ → List (Thread N)
  branches_at this vars [] = []
  branches_at this vars (to ∷ more) = branch_at this vars to ∷ branches_at this vars more

  -- goes on at the next place, with these operands; and so after an ask: with its first value on top; and with that as variable k
  abbrev pub next_place : Frame N → List (Frame N) → List (Value N) → Thread N
  next_place f fs ops = Runs (at_place f (suc f.place)) fs ops

  abbrev pub gives_value : Frame N → List (Frame N) → List (Value N) → ℕ → Ask N → Move N
  gives_value f fs ops n q = Does n q (λ x. only (next_place f fs (first x.values ∷ ops)))

  abbrev pub makes_variable : Frame N → List (Frame N) → List (Value N) → ℕ → ℕ → Ask N → Move N
  makes_variable f fs ops n k q = Does n q (λ x. only (Runs (frame f.this (set f.vars k (first x.values)) f.made (suc f.place)) fs ops))

  -- goes to a place where `to_place` holds, else on
  abbrev pub chooses : Frame N → List (Frame N) → (to : ℕ) → (there here : List (Value N)) → Bool → Thread N
  chooses f fs to there here to_place = if to_place then Runs (at_place f to) fs there else next_place f fs here

  abbrev pub returned : Value N → List (Frame N) → List (Value N) → Thread N
  returned v [] ops = Finished v
  returned v (f ∷ fs) ops = Runs f fs (v ∷ ops)

  -- after a call's step; a remote one goes on behind its join
  abbrev pub call_left : Code → How → ℕ → List (Value N) → List (Value N) → Frame N → List (Frame N) → List (Value N) → Thread N
  call_left code Alone g vs xs f fs ops = Runs (enter_at code g Void xs) (at_place f (suc f.place) ∷ fs) ops
  call_left code On g vs xs f fs ops = Runs (enter_at code g (first vs) xs) (at_place f (suc f.place) ∷ fs) ops
  call_left code Remote g vs xs f fs ops = Runs (at_place f (suc (suc f.place))) fs (first xs ∷ ops)

  -- by an instruction at line n, in a frame over others, with these operands
  abbrev pub act : Code → Frame N → List (Frame N) → List (Value N) → (n : ℕ) → Instr → Move N
  act code f fs ops n (PushI c) = Silent (next_place f fs (constant c ∷ ops))
  act code f fs ops n ThisI = Silent (next_place f fs (f.this ∷ ops))
  act code f fs ops n (VariableI k) = Silent (next_place f fs (variable f.vars k Null ∷ ops))
  act code f fs ops n (FieldI o) = top_one ops (λ v ops'. Silent (next_place f fs (moved v o ∷ ops')))
  act code f fs ops n DropI = top_one ops (λ v ops'. Silent (next_place f fs ops'))
  act code f fs ops n (JumpI to) = Silent (Runs (at_place f to) fs ops)
  act code f fs ops n EndI = Ends Void
  act code f fs ops n (IndexI size) = top_two ops (λ v w ops'. gives_value f fs ops' n (Indexes v size w))
  act code f fs ops n AtI = top_two ops (λ v w ops'. gives_value f fs ops' n (Shifts v w))
  act code f fs ops n (LoadI remote) = top_one ops (λ v ops'. gives_value f fs ops' n (Reads remote v))
  act code f fs ops n (StoreI remote) =
      top_two ops (λ v w ops'. Does n (Writes remote v (sent remote w)) (λ x. only (next_place f fs ops')))
  act code f fs ops n (OpI op) = with_popped (popped (takes op) ops []) (λ vs ops'. gives_value f fs ops' n (Computes op vs))
  act code f fs ops n (TestI to) = top_one ops (λ v ops'. Does n Tests (λ x. only (chooses f fs to ops' ops' (is_zero v))))
  act code f fs ops n (AndI to) =
      top_one ops (λ v ops'. Does n Tests (λ x. only (chooses f fs to (truth false ∷ ops') ops' (is_zero v))))
  act code f fs ops n (OrI to) =
      top_one ops (λ v ops'. Does n Tests (λ x. only
      (if is_zero v then next_place f fs ops' else Runs (at_place f to) fs (truth true ∷ ops'))))
  act code f fs ops n (MakeI k kind size) = makes_variable f fs ops n k (Makes kind size)
  act code f fs ops n (SetI k kind) = top_one ops (λ v ops'. makes_variable f fs ops' n k (MakesWith kind v))
  act code f fs ops n (BuildI k c) =
      with_popped (popped (class_shape code.shapes c).params ops []) (λ vs ops'. makes_variable f fs ops' n k (Builds c vs))
  act code f fs ops n (NewI kind size) = gives_value f fs ops n (Makes kind size)
  act code f fs ops n (NewObjectI remote c) =
      with_popped (popped (class_shape code.shapes c).params ops []) (λ vs ops'. gives_value f fs ops' n (object_ask remote c vs))
  act code f fs ops n (CallI how g) = with_popped (popped (operands code.shapes how g) ops []) (λ vs ops'.
      Does n (call_ask (function_shape code.shapes g) how g vs) (λ x. only (call_left code how g vs x.values f fs ops')))
  act code f fs ops n (SpawnI how g) = with_popped (popped (operands code.shapes how g) ops []) (λ vs ops'.
      Does n (spawn_ask (function_shape code.shapes g) how g vs) (λ x. only (next_place f fs ops')))
  act code f fs ops n (CellsI size) =
      top_one ops (λ v ops'. Does n (Copies v size) (λ x. only (next_place f fs (pushed (resized size x.values) ops'))))
  act code f fs ops n RetI = top_one ops (λ v ops'. Does n Leaves (λ x. only (returned v fs ops')))
  act code f fs ops n (ForkI targets) = Does n (ForksAll (length targets)) (λ x. record {
    left = Runs (frame f.this f.vars x.made (suc f.place)) fs ops;
    branches = branches_at f.this f.vars targets;
  })
  act code f fs ops n (EachI to k) = Does n (ForksOne (variable f.vars k Null)) (λ x. record {
    left = Runs (frame f.this f.vars (x.made ++ f.made) (suc f.place)) fs ops;
    branches = branch_at f.this (set f.vars k (first x.values)) to ∷ [];
  })
  act code f fs ops n JoinI = Does n (Joins f.made) (λ x. only (Runs (frame f.this f.vars [] (suc f.place)) fs ops))
  act code f fs ops n (PrintI parts) =
      with_popped (popped (values parts) ops []) (λ vs ops'. Does n (Prints parts vs) (λ x. only (next_place f fs ops')))

  abbrev pub fetched : Code → Frame N → List (Frame N) → List (Value N) → Option Placed → Move N
  fetched code f fs ops None = Stuck
  fetched code f fs ops (Some i) = act code f fs ops i.line i.instr

  -- a thread's next move
  abbrev pub move : Code → Thread N → Move N
  move code (Runs f fs ops) = fetched code f fs ops (slice_get code.places f.place)
  move code (Starting g this vs) =
      Does (function_shape code.shapes g).line (Enters g this vs) (λ x. only (Runs (enter_at code g this x.values) [] []))
  move code (Finished v) = Ends v
