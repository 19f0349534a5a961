-- What is known of the tables, of the variables in scope, and of what an expression is.
use Rattle.std.proofs.Common.{◌≡◌, ◌≢◌, ℕ, ◌+◌, ◌<◌, ◌≤◌, Bool, true, false, List, [], ◌∷◌, ◌++◌, map, Option, Some}
use Rattle.std.specs.Prelude.{slice_get, get_or, nat_lt, ℤ}
use Rattle.cc_core.specs.declared.expression.Expression.{Expression}
use Rattle.cc_core.specs.Core.{Term, Variable}
use Rattle.cc_core.specs.Types.{ValueType, NoValue, AnInt, AnAddress, Cells, ObjectOf, FunctionTypes, Types, function_types, IsAmong, IsOwnPlace}
use Rattle.cc_core.specs.View.{term_of, terms_of}
use Rattle.cc_one_answer.specs.Sorts.{Sort, Valued, NamedCell, MemberAt, variable_sort, IsCell, member}
use Rattle.cc_ops.specs.Values.{last_offset}
use Rattle.cc_one_answer.specs.Determinate.{DetTerm, DetTerms}
use Rattle.cc_names.specs.declared.declarations.ClassId.{ClassId}
use Rattle.cc_scopes.specs.declared.meaning.Meaning.{Meaning}
use Rattle.cc_scopes.specs.declared.meaning.Meaning.TheVariants as m
use Rattle.cc_scopes.specs.declared.scope.Found.{Found}
use Rattle.cc_scopes.specs.declared.state.Local.{Local}
use Rattle.cc_scopes.specs.declared.state.State.{State}
use Rattle.cc_scopes.specs.declared.tables.Class.{Class}
use Rattle.cc_scopes.specs.declared.tables.Member as table
use Rattle.cc_scopes.specs.declared.tables.Signature.{Signature}
use Rattle.cc_scopes.specs.declared.tables.Tables.{Tables}
use Rattle.cc_scopes.specs.declared.typed.Object.{Object}
use Rattle.cc_scopes.specs.declared.typed.Operand.{Operand}
use Rattle.cc_scopes.specs.declared.typed.Place.{Place}
use Rattle.cc_scopes.specs.declared.typed.Root.{Root}
use Rattle.cc_scopes.specs.declared.typed.Root.TheVariants as root
use Rattle.cc_scopes.specs.declared.typed.Typed.{Typed}
use Rattle.cc_scopes.specs.declared.typed.Typed.TheVariants as typed
use Rattle.cc_scopes.specs.declared.types.Declared.{Declared}
use Rattle.cc_scopes.specs.declared.types.Ty.{Ty}
use Rattle.cc_scopes.specs.declared.types.Ty.TheVariants as ty
use Rattle.cc_scopes.specs.Elab.{Elab}
use Rattle.cc_scopes.specs.Meaning.{constant_value}
use Rattle.cc_scopes.specs.Scope.{Context}
use Rattle.cc_shared.proofs.TypesOf.{target_type, value_type, IsCellType, IsResultType, AllCellTypes, FieldFits, MemberFits}
use Rattle.cc_shared.proofs.Runs.{IsThere, Anything, Runs}

-- ---- the tables

pub record SignatureFits (y : Types) (main f : ℕ) (g : Signature) : Type 0 where
  pub params : (function_types y f).params ≡ map value_type g.params
  pub result : (function_types y f).result ≡ value_type g.result
  pub cells : AllCellTypes g.params
  pub gives : IsResultType g.result
  pub called : g.is_main ≡ false → f ≢ main

pub record MakerFits (y : Types) (c : ℕ) (k : Class) : Type 0 where
  pub params : get_or y.makers c [] ≡ map value_type k.constructor
  pub cells : AllCellTypes k.constructor

-- the types are those of the tables
pub record Matches (y : Types) (main : ℕ) (t : Tables) : Type 0 where
  pub functions : (f : ℕ) (g : Signature) → slice_get t.functions f ≡ Some g → SignatureFits y main f g
  pub classes : (c : ℕ) (k : Class) → slice_get t.classes c ≡ Some k → MakerFits y c k
  pub members : (c : ℕ) (k : Class) → slice_get t.classes c ≡ Some k → (i : ℕ) (x : table.Member) → slice_get k.members i ≡ Some x → MemberFits y c x

-- an expression stands in a function of these types
pub record Stands (y : Types) (main : ℕ) (here : FunctionTypes) (cx : Context) : Type 0 where
  pub matches : Matches y main cx.tables
  pub this : (class : ClassId) → cx.class ≡ Some class → here.this ≡ Some class.0
  pub result : here.result ≡ value_type cx.result
  pub gives : IsResultType cx.result
  pub constants : (k : ℕ) → nat_lt k cx.known ≡ true → IsThere {A = ℤ} Anything (constant_value cx k)

-- ---- the variables in scope, of a function with the variables ds. own: those that this part has declared

-- no rule is broken, and the variables that are made so far are the first of all
abbrev pub Ends : List Declared → State → Type 0
Ends ds s = (s.broken ≡ []) × (s.shared ≡ []) × (more : List Declared) × (ds ≡ s.made ++ more)

module _ (ds : List Declared) (part : ℕ) (own : List ℕ) where
  abbrev pub VariableFits : ℕ → Declared → ℕ → Type 0
  VariableFits k d p = (slice_get ds k ≡ Some d) × IsCellType d.ty × (p ≡ part → IsAmong k own)

  abbrev pub FoundFits : Found → Type 0
  FoundFits f = VariableFits f.number f.declared f.part

  abbrev pub LocalsFit : List Local → Type 0
  LocalsFit [] = Unit {0}
  LocalsFit (l ∷ ls) = VariableFits l.number l.declared l.part × LocalsFit ls

-- They stay while an expression is read. F: what else is known of the whole program
abbrev pub Keeps : Type 0 → List Declared → (part : ℕ) → (own : List ℕ) → List Local → State → Type 0
Keeps F ds part own ls s = (s.locals ≡ ls) × LocalsFit ds part own ls × F

-- grown: the variables that the function comes to; ds: those that are known of the variables in scope
abbrev pub Reads : Type 0 → (grown ds : List Declared) → (part : ℕ) → (own : List ℕ) → List Local → {A : Type 0} → Type 0 → Elab A → (A → Type 0) → Type 0
Reads F grown ds part own ls P p Q = Runs (Ends grown) (Keeps F ds part own ls) P p Q

-- what is known of the whole program is known everywhere
pub having : (F : Type 0) (grown ds : List Declared) (part : ℕ) (own : List ℕ) (ls : List Local) {A : Type 0} {P : Type 0} {p : Elab A} {Q : A → Type 0}
    → Reads F grown ds part own ls (P × F) p Q → Reads F grown ds part own ls P p Q
having F grown ds part own ls r = record { run = λ s e. let q = r.run s e in (q.0, λ x k. q.1 (x, k.2) k) }

-- ---- what an expression is

module _ (y : Types) (main : ℕ) (here : FunctionTypes) where
  -- an address of this sort
  abbrev pub Sorted : Expression → Sort → Type 0
  Sorted x q = DetTerm y main here (term_of x) q

  -- a value of this type
  abbrev pub Values : Expression → ValueType → Type 0
  Values x u = Sorted x (Valued u)

  abbrev pub AllValues : List Expression → List ValueType → Type 0
  AllValues es us = DetTerms y main here (terms_of es) us

  -- the address of a cell
  abbrev pub Leads : Expression → Bool → ValueType → Type 0
  Leads x sync u = (q : Sort) × Sorted x q × IsCell y q sync u

  abbrev pub OperandBy : Ty → Expression → Type 0
  OperandBy ty.Int x = Values x AnInt
  OperandBy ty.Null x = (u : ValueType) → Values x u
  OperandBy ty.Void x = Values x NoValue
  OperandBy (ty.Pointer to remote) x = Values x (AnAddress (target_type to))
  OperandBy ty.Unknown x = ⊥

  abbrev pub OperandFits : Operand → Type 0
  OperandFits v = OperandBy v.ty v.term

  -- an argument may be an object, which no parameter takes
  abbrev pub ArgumentBy : Ty → Expression → Type 0
  ArgumentBy ty.Int x = OperandBy ty.Int x
  ArgumentBy ty.Null x = OperandBy ty.Null x
  ArgumentBy ty.Void x = OperandBy ty.Void x
  ArgumentBy (ty.Pointer to remote) x = OperandBy (ty.Pointer to remote) x
  ArgumentBy ty.Unknown x = Unit {0}

  pub argument_by : (t : Ty) (x : Expression) → OperandBy t x → ArgumentBy t x
  argument_by ty.Int x p = p
  argument_by ty.Null x p = p
  argument_by ty.Void x p = p
  argument_by (ty.Pointer to remote) x p = p
  argument_by ty.Unknown x p = tt

  abbrev pub ArgumentFits : Operand → Type 0
  ArgumentFits v = ArgumentBy v.ty v.term

  -- arguments of these types
  abbrev pub OperandsFit : List Ty → List Expression → Type 0
  OperandsFit [] [] = Unit {0}
  OperandsFit [] (x ∷ xs) = ⊥
  OperandsFit (t ∷ ts) [] = ⊥
  OperandsFit (t ∷ ts) (x ∷ xs) = ArgumentBy t x × OperandsFit ts xs

  abbrev pub ObjectFits : Object → Type 0
  ObjectFits o = Values o.address (AnAddress (ObjectOf o.class.0))

  -- ---- names

  -- of a member of class c
  abbrev pub MeaningIn : ℕ → Meaning → Type 0
  MeaningIn c (m.Variable found) = Unit {0}
  MeaningIn c (m.Field declared offset) = FieldFits y c declared offset
  MeaningIn c (m.Method f) = (function_types y f.0).this ≡ Some c
  MeaningIn c (m.Constant is_earlier value) = Unit {0}
  MeaningIn c (m.Function f) = Unit {0}
  MeaningIn c m.Nothing = Unit {0}

  abbrev pub Own : (ℕ → Type 0) → Type 0
  Own P = (c : ℕ) × (here.this ≡ Some c) × P c

  abbrev pub ConstantFits : Bool → Option ℤ → Type 0
  ConstantFits true value = IsThere Anything value
  ConstantFits false value = Unit {0}

  module _ (ds : List Declared) (part : ℕ) (own : List ℕ) where
    abbrev pub MeaningFits : Meaning → Type 0
    MeaningFits (m.Variable found) = FoundFits ds part own found
    MeaningFits (m.Field declared offset) = Own (λ c. FieldFits y c declared offset)
    MeaningFits (m.Method f) = Own (λ c. (function_types y f.0).this ≡ Some c)
    MeaningFits (m.Constant is_earlier value) = ConstantFits is_earlier value
    MeaningFits (m.Function f) = Unit {0}
    MeaningFits m.Nothing = Unit {0}

  -- ---- places. A plain variable of the own part may be written, and the address of a sync cell that is no member be handed on

  abbrev pub IsOwnVariable : List ℕ → Term → Type 0
  IsOwnVariable own (Variable k) = IsAmong k own
  IsOwnVariable own t = ⊥

  module _ (part : ℕ) (own : List ℕ) where
    abbrev pub OwnBy : Root → (sync : Bool) → ValueType → Sort → Term → Type 0
    OwnBy (root.Variable p) sync u q t = sync ≡ false → (q ≡ NamedCell u) × (p ≡ part → IsOwnPlace own t)
    OwnBy root.Member sync u q t = Unit {0}
    OwnBy root.Pointer sync u q t = Unit {0}

    pub record PlaceFits (p : Place) : Type 0 where
      pub sort : Sort
      pub sorted : Sorted p.address sort
      pub cell : IsCell y sort p.sync (value_type p.ty)
      pub known : IsCellType p.ty
      pub owned : OwnBy p.root p.sync (value_type p.ty) sort (term_of p.address)
      pub lends : p.root ≢ root.Member → p.sync ≡ true → sort ≡ Valued (AnAddress (Cells true (value_type p.ty)))

    -- an array of n cells that is a member
    pub record MemberArray (p : Place) (n : ℕ) : Type 0 where
      pub class : ℕ
      pub offset : ℕ
      pub sorted : Sorted p.address (MemberAt class offset)
      pub within : offset + n ≤ last_offset
      pub cells : (j : ℕ) → j < n → member y class (offset + j) ≡ Some (Cells p.sync (value_type p.ty))
      pub known : IsCellType p.ty

    -- and one that is a variable
    pub record VariableArray (k : ℕ) (p : Place) : Type 0 where
      pub sorted : Sorted p.address (variable_sort (Cells p.sync (value_type p.ty)))
      pub known : IsCellType p.ty
      pub owned : k ≡ part → IsOwnVariable own (term_of p.address)

    abbrev pub ArrayBy : Root → Place → ℕ → Type 0
    ArrayBy (root.Variable k) p n = VariableArray k p
    ArrayBy root.Member p n = MemberArray p n
    ArrayBy root.Pointer p n = ⊥

    abbrev pub TypedFits : Typed → Type 0
    TypedFits typed.Broken = ⊥
    TypedFits typed.Spoiled = ⊥
    TypedFits (typed.Value v) = OperandFits v
    TypedFits (typed.This class remote) = here.this ≡ Some class.0
    TypedFits (typed.Constant term value) = Values term AnInt
    TypedFits (typed.Place p) = PlaceFits p
    TypedFits (typed.Array p count) = ArrayBy p.root p count
    TypedFits (typed.Object o) = ObjectFits o
