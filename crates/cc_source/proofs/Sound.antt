-- What holds of the tables, of the variables in scope, and of what an expression is.
use Rattle.std.proofs.Common.{◌≡◌, ℕ, ◌<◌, ◌≤◌, List, [], ◌∷◌, length, Some, arith}
use Rattle.std.specs.Prelude.{slice_get}
use Rattle.cc_ops.specs.Classes.{arity}
use Rattle.cc_core.specs.Core.{Shapes, function_shape, class_shape}
use Rattle.cc_scopes.specs.declared.meaning.Meaning.{Meaning}
use Rattle.cc_scopes.specs.declared.meaning.Meaning.TheVariants as m
use Rattle.cc_scopes.specs.declared.scope.Found.{Found}
use Rattle.cc_scopes.specs.declared.state.Local.{Local}
use Rattle.cc_scopes.specs.declared.state.State.{State}
use Rattle.cc_scopes.specs.declared.tables.Class.{Class}
use Rattle.cc_scopes.specs.declared.tables.Member.{Member}
use Rattle.cc_scopes.specs.declared.tables.Member.TheVariants as member
use Rattle.cc_scopes.specs.declared.tables.Signature.{Signature}
use Rattle.cc_scopes.specs.declared.tables.Tables.{Tables}
use Rattle.cc_scopes.specs.declared.typed.Operand.{Operand}
use Rattle.cc_scopes.specs.declared.typed.Typed.{Typed}
use Rattle.cc_scopes.specs.declared.typed.Typed.TheVariants as typed
use Rattle.cc_scopes.specs.declared.types.Shape.{Shape}
use Rattle.cc_scopes.specs.declared.types.Shape.TheVariants as shape
use Rattle.cc_scopes.specs.Elab.{Elab}
use Rattle.cc_scopes.specs.Scope.{Context}
use Rattle.cc_source.proofs.Runs.{Runs}
use Rattle.cc_source.proofs.Fits.{Clean, ExpressionFits}

-- ---- the tables

-- an array has 1 to 65,536 elements
abbrev pub IsLength : ℕ → Type 0
IsLength k = (1 ≤ k) × (k ≤ 65536)

abbrev pub HasCells : Shape → Type 0
HasCells shape.Cell = Unit {0}
HasCells (shape.Array m) = IsLength m
HasCells (shape.Object class) = Unit {0}

abbrev pub MemberHasCells : Member → Type 0
MemberHasCells (member.Field declared offset) = HasCells declared.shape
MemberHasCells (member.Method f) = Unit {0}

abbrev pub HasParams : Shapes → ℕ → Signature → Type 0
HasParams h f g = (f < length h.functions) × (arity (function_shape h f).params ≡ length g.params)

abbrev pub HasMaker : Shapes → ℕ → Class → Type 0
HasMaker h c k = (c < length h.classes) × ((class_shape h c).params ≡ length k.constructor)

abbrev pub MembersHaveCells : Class → Type 0
MembersHaveCells k = (i : ℕ) (m : Member) → slice_get k.members i ≡ Some m → MemberHasCells m

-- the functions and classes of the tables have these shapes
pub record Agree (h : Shapes) (t : Tables) : Type 0 where
  pub functions : (f : ℕ) (g : Signature) → slice_get t.functions f ≡ Some g → HasParams h f g
  pub classes : (c : ℕ) (k : Class) → slice_get t.classes c ≡ Some k → HasMaker h c k
  pub members : (c : ℕ) (k : Class) → slice_get t.classes c ≡ Some k → MembersHaveCells k

-- ---- the variables in scope, of a function of which this is the last state

abbrev pub FoundFits : State → Found → Type 0
FoundFits last f = (f.number < length last.made) × HasCells f.declared.shape

abbrev pub LocalsFit : State → List Local → Type 0
LocalsFit last [] = Unit {0}
LocalsFit last (l ∷ ls) = (l.number < length last.made) × HasCells l.declared.shape × LocalsFit last ls

abbrev pub MeaningFits : State → Meaning → Type 0
MeaningFits last (m.Variable found) = FoundFits last found
MeaningFits last (m.Field declared offset) = HasCells declared.shape
MeaningFits last (m.Method f) = Unit {0}
MeaningFits last (m.Constant is_earlier value) = Unit {0}
MeaningFits last (m.Function f) = Unit {0}
MeaningFits last m.Nothing = Unit {0}

-- a state before the last one: the variables that are made so far are among those made then, and no rule is broken that is not then
abbrev pub Before : State → State → Type 0
Before last s = (length s.made ≤ length last.made) × (Clean last → Clean s)

pub itself : (s : State) → Before s s
itself s = (omega arith, λ c. c)

-- what each state keeps, where the tables are those of these shapes
abbrev pub Keeps : Shapes → State → Context → State → Type 0
Keeps h last cx s = LocalsFit last s.locals × Agree h cx.tables

abbrev pub Reads : Shapes → State → Context → {A : Type 0} → Type 0 → Elab A → (A → Type 0) → Type 0
Reads h last cx P p Q = Runs (Before last) (Keeps h last cx) P p Q

-- the shapes of a reading of which only the states count
abbrev pub no_shapes : Shapes
no_shapes = record { functions = []; classes = [] }

-- with what the shapes tell
pub knowing : (h : Shapes) (last : State) (cx : Context) {A : Type 0} {P R : Type 0} {p : Elab A} {Q : A → Type 0}
    → (Agree h cx.tables → P → R) → Reads h last cx R p Q → Reads h last cx P p Q
knowing h last cx f r = record { run = λ s e. let q = r.run s e in (q.0, λ x k. q.1 (f k.1 x) k) }

-- ---- what an expression is

module _ (h : Shapes) (last : State) where
  abbrev pub OperandFits : Operand → Type 0
  OperandFits v = ExpressionFits h last v.term

  abbrev pub TypedFits : Typed → Type 0
  TypedFits typed.Broken = Unit {0}
  TypedFits typed.Spoiled = Unit {0}
  TypedFits (typed.Value v) = ExpressionFits h last v.term
  TypedFits (typed.This class remote) = Unit {0}
  TypedFits (typed.Constant term value) = ExpressionFits h last term
  TypedFits (typed.Place p) = ExpressionFits h last p.address
  TypedFits (typed.Array p count) = ExpressionFits h last p.address × (1 ≤ count)
  TypedFits (typed.Object o) = ExpressionFits h last o.address
