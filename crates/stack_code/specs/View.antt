-- Instructions and their shapes as the definitions see them.
use Rattle.std.specs.Prelude.{ℕ, Bool, false, true, List, ◌++◌, ◌∷◌, [], map, length, get_or, slice_set}
use Rattle.cc_ops.specs.Shapes.{shape_of}
use Rattle.cc_ops.specs.declared.shape.FunShape.{FunShape}
use Rattle.cc_ops.specs.declared.shape.ClassShape.{ClassShape}
use Rattle.cc_core.specs.Core.{Alone, On, Remote}
use Rattle.cc_core.specs.View.{constant_of, part_of}
use Rattle.cc_code.specs.Code.{Instr, PushI, ThisI, VariableI, FieldI, DropI, JumpI, EndI, IndexI, AtI, LoadI, StoreI, OpI, TestI, AndI}
use Rattle.cc_code.specs.Code.{OrI, MakeI, SetI, BuildI, NewI, NewObjectI, CallI, SpawnI, CellsI, RetI, ForkI, EachI, JoinI, PrintI}
use Rattle.cc_code.specs.Code.{Placed, Code}
use Rattle.stack_code.specs.declared.instr.Instr.{Instr as TextInstr}
use Rattle.stack_code.specs.declared.instr.Instr.TheVariants as t
use Rattle.stack_code.specs.declared.draft.Place.{Place}
use Rattle.stack_code.specs.declared.draft.Begun.{Begun}
use Rattle.stack_code.specs.declared.draft.Draft.{Draft}

abbrev pub instr_of : TextInstr → Instr
instr_of (t.Push c) = PushI (constant_of c)
instr_of t.This = ThisI
instr_of (t.Var k) = VariableI k
instr_of (t.Field o) = FieldI o
instr_of t.Drop = DropI
instr_of (t.Jump to) = JumpI to
instr_of t.End = EndI
instr_of (t.Index n) = IndexI n
instr_of t.At = AtI
instr_of t.Load = LoadI false
instr_of t.Store = StoreI false
instr_of (t.Op op) = OpI op
instr_of (t.Test to) = TestI to
instr_of (t.And to) = AndI to
instr_of (t.Or to) = OrI to
instr_of (t.Make k kind n) = MakeI k kind n
instr_of (t.Set k kind) = SetI k kind
instr_of (t.Build k c) = BuildI k c
instr_of (t.New kind n) = NewI kind n
instr_of (t.NewObj c) = NewObjectI false c
instr_of (t.Call f) = CallI Alone f
instr_of (t.CallOn f) = CallI On f
instr_of (t.Spawn f) = SpawnI Alone f
instr_of (t.SpawnOn f) = SpawnI On f
instr_of t.Ret = RetI
instr_of (t.Fork targets) = ForkI targets
instr_of (t.Each to k) = EachI to k
instr_of t.Join = JoinI
instr_of (t.Print parts) = PrintI (map part_of parts)
instr_of t.Get = LoadI true
instr_of t.Put = StoreI true
instr_of (t.Ask f) = CallI Remote f
instr_of (t.Cast f) = SpawnI Remote f
instr_of (t.NewProc c) = NewObjectI true c

-- an instruction with another target, by its number
abbrev pub aimed : Instr → ℕ → ℕ → Instr
aimed (JumpI to) which target = JumpI target
aimed (TestI to) which target = TestI target
aimed (AndI to) which target = AndI target
aimed (OrI to) which target = OrI target
aimed (EachI to k) which target = EachI target k
aimed (ForkI targets) which target = ForkI (slice_set targets which target)
aimed i which target = i

-- it takes the same number of operands whatever the shapes are
abbrev pub takes_by_itself : Instr → Bool
takes_by_itself (OpI op) = false
takes_by_itself (BuildI k c) = false
takes_by_itself (NewObjectI remote c) = false
takes_by_itself (CallI how f) = false
takes_by_itself (SpawnI how f) = false
takes_by_itself (CellsI n) = false
takes_by_itself (PrintI parts) = false
takes_by_itself i = true

abbrev pub placed_of : Place → Placed
placed_of p = record { instr = instr_of p.instr; line = p.line }

-- the code of these places, functions and classes
abbrev pub code_with : List Place → List Begun → List ClassShape → Code
code_with places functions classes = record {
  places = map placed_of places;
  entries = map (λ f. f.entry) functions;
  shapes = record { functions = map (λ f. f.shape) functions; classes = map shape_of classes };
}

abbrev pub drafted : Draft → Code
drafted d = code_with d.places.items d.functions.items d.classes.items

-- what contracts see of code and of what makes it
pub record Parts : Type 0 where
  pub places : List Place
  pub functions : List Begun
  pub classes : List ClassShape

abbrev pub parts_of : Draft → Parts
parts_of d = record { places = d.places.items; functions = d.functions.items; classes = d.classes.items }

abbrev pub code_of : Parts → Code
code_of p = code_with p.places p.functions p.classes

-- the instruction and the line at a place
abbrev pub placed_at : Code → ℕ → Placed
placed_at code b = get_or code.places b (record { instr = EndI; line = 0 })

-- no code
abbrev pub empty_code : Code
empty_code = record { places = []; entries = []; shapes = record { functions = []; classes = [] } }

-- the code with one more instruction; with one more function, which begins behind the last instruction; with one more class; and with
-- another target of the instruction at a place
abbrev pub with_placed : Code → Placed → Code
with_placed code p = record code { places = code.places ++ p ∷ [] }

abbrev pub with_function : Code → FunShape → Code
with_function code f =
    record code { entries = code.entries ++ length code.places ∷ []; shapes = record (code.shapes) { functions = code.shapes.functions ++ f ∷ [] } }

abbrev pub with_class : Code → ClassShape → Code
with_class code c = record code { shapes = record (code.shapes) { classes = code.shapes.classes ++ shape_of c ∷ [] } }

abbrev pub with_target : Code → ℕ → ℕ → ℕ → Code
with_target code at which target =
    record code { places = slice_set code.places at (record (placed_at code at) { instr = aimed (placed_at code at).instr which target }) }
