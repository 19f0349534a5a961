-- What is known where a function is read: of the tables, of the variables in scope, and of what is collected.
use Rattle.std.specs.Prelude.{◌≡◌, ◌⊎◌, ℕ, ℤ, Bool, true, false, ◌||◌, List, [], ◌∷◌, ◌++◌, map, Option, Some, None, slice_get, nat_lt}
use Rattle.cc_core.specs.Core.{Program}
use Rattle.cc_names.specs.Names.{entity_named}
use Rattle.cc_names.specs.Table.{Name}
use Rattle.cc_names.specs.declared.declarations.ClassId.{ClassId}
use Rattle.cc_names.specs.declared.declarations.Entity.TheVariants as entity
use Rattle.cc_names.specs.declared.declarations.FunId.{FunId}
use Rattle.cc_scopes.specs.declared.scope.Found.{Found}
use Rattle.cc_scopes.specs.declared.state.Call.{Call}
use Rattle.cc_scopes.specs.declared.state.Local.{Local}
use Rattle.cc_scopes.specs.declared.state.State.{State}
use Rattle.cc_scopes.specs.declared.tables.Class.{Class}
use Rattle.cc_scopes.specs.declared.tables.Member as table
use Rattle.cc_scopes.specs.declared.tables.Signature.{Signature}
use Rattle.cc_scopes.specs.declared.tables.Tables.{Tables}
use Rattle.cc_scopes.specs.declared.types.Declared.{Declared}
use Rattle.cc_scopes.specs.Meaning.{constant_value}
use Rattle.cc_scopes.specs.Scope.{Context}
use Rattle.core_types.specs.Types.{Types, function_types, class_types, AllCross}
use Rattle.core_types.specs.Typing.{Scope, is_atomic}
use Rattle.source_types.specs.TypesOf.{value_type, target_of, IsCellType, IsResultType, AllCellTypes, MemberFits}

-- there is one, and it has the property
abbrev pub IsThere : {A : Type 0} → (A → Type 0) → Option A → Type 0
IsThere Q None = ⊥
IsThere Q (Some a) = Q a

abbrev pub Anything : {A : Type 0} → A → Type 0
Anything a = Unit {0}

-- ---- the tables

pub record SignatureFits (y : Types) (f : ℕ) (g : Signature) : Type 0 where
  pub params : (function_types y f).params ≡ map value_type g.params
  pub result : (function_types y f).result ≡ value_type g.result
  pub cells : AllCellTypes g.params
  pub gives : IsResultType g.result

-- where the class is global, its constructor takes what may cross
pub record MakerFits (y : Types) (c : ℕ) (k : Class) : Type 0 where
  pub params : (class_types y c).params ≡ map value_type k.constructor
  pub cells : AllCellTypes k.constructor
  pub crossing : k.remote ≡ true → AllCross (class_types y c).params

-- the types are those of the tables
pub record Matches (y : Types) (t : Tables) : Type 0 where
  pub functions : (f : ℕ) (g : Signature) → slice_get t.functions f ≡ Some g → SignatureFits y f g
  pub classes : (c : ℕ) (k : Class) → slice_get t.classes c ≡ Some k → MakerFits y c k
  pub members : (c : ℕ) (k : Class) → slice_get t.classes c ≡ Some k → (i : ℕ) (x : table.Member) → slice_get k.members i ≡ Some x → MemberFits y c x

-- a function that is called where nothing may wait
abbrev pub CalmCall : Program → Types → ℕ → Type 0
CalmCall program y f = ((function_types y f).waits || is_atomic program f) ≡ false

-- what a function comes to in the end: its variables; whether it may wait; and which functions neither wait nor are atomic
pub record Grown : Type 0 where
  pub made : List Declared
  pub waits : Bool
  pub calm : ℕ → Bool

-- an expression stands in a function of these types
pub record Stands (program : Program) (y : Types) (here : Scope) (grown : Grown) (cx : Context) : Type 0 where
  pub matches : Matches y cx.tables
  pub this : (class : ClassId) → cx.class ≡ Some class → here.this ≡ Some class.0
  pub constants : (k : ℕ) → nat_lt k cx.known ≡ true → IsThere {A = ℤ} Anything (constant_value cx k)
  -- a function of the file has no object
  pub functions : (text : Name) (f : FunId) → entity_named cx.names text ≡ Some (entity.Function f) → (function_types y f.0).this ≡ None
  pub waits : grown.waits ≡ here.waits
  pub calm : (f : ℕ) (g : Signature) → slice_get cx.tables.functions f ≡ Some g → grown.calm f ≡ true → CalmCall program y f

-- ---- the variables in scope, of a function with the variables ds

abbrev pub AllCalls : (ℕ → Bool) → List Call → Type 0
AllCalls calm [] = Unit {0}
AllCalls calm (c ∷ cs) = (calm c.function.0 ≡ true) × AllCalls calm cs

-- a function that may not wait does nothing that blocks, and calls only such functions
abbrev pub IsCalm : Grown → State → Type 0
IsCalm g s = (g.waits ≡ true) ⊎ ((s.blocks ≡ []) × AllCalls g.calm s.calls)

-- no rule is broken, and the variables that are made so far are the first of all
abbrev pub Ends : Grown → State → Type 0
Ends g s = (s.broken ≡ []) × IsCalm g s × (more : List Declared) × (g.made ≡ s.made ++ more)

module _ (ds : List Declared) where
  abbrev pub VariableFits : ℕ → Declared → Type 0
  VariableFits k d = (slice_get ds k ≡ Some d) × IsCellType d.ty

  abbrev pub FoundFits : Found → Type 0
  FoundFits f = VariableFits f.number f.declared

  abbrev pub LocalsFit : List Local → Type 0
  LocalsFit [] = Unit {0}
  LocalsFit (l ∷ ls) = VariableFits l.number l.declared × LocalsFit ls

-- Where the statements of a function stand, or those of a branch in it: the scope has the targets of the function's variables, and the type of
-- its result but in a branch.
pub record IsInside (p : Program) (y : Types) (here : Scope) (grown : Grown) (cx : Context) : Type 0 where
  pub stands : Stands p y here grown cx
  pub vars : (k : ℕ) (d : Declared) → slice_get grown.made k ≡ Some d → slice_get here.vars k ≡ Some (target_of d)
  pub returns : cx.in_branch ≡ false → here.returns ≡ Some (value_type cx.result)
  pub result : IsResultType cx.result
