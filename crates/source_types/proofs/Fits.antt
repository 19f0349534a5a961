-- What an expression is, and what is kept while it is read.
use Rattle.cc_core.specs.Core as core
use Rattle.cc_core.specs.Names as names
use Rattle.core_types.specs.Types.{ValueType, NoValue, AnInt, Pointer, Target, Cells, ObjectOf, MemberOf, Holds, Types}
use Rattle.core_types.specs.Types.{function_types, member, IsCell}
use Rattle.core_types.specs.Values.{World}
use Rattle.core_types.specs.Typing.{Scope, HasType, HaveTypes}
use Rattle.std.proofs.Common.{◌≡◌, ◌≢◌, ℕ, ◌+◌, ◌<◌, ◌≤◌, Bool, true, false, List, [], ◌∷◌, Option, Some, None}
use Rattle.std.specs.Prelude.{ℤ}
use Rattle.cc_core.specs.declared.expression.Expression.{Expression}
use Rattle.cc_core.specs.Core.{Term, Variable}
use Rattle.cc_core.specs.View.{term_of, terms_of}
use Rattle.cc_ops.specs.Values.{last_offset}
use Rattle.cc_scopes.specs.declared.meaning.Meaning.{Meaning}
use Rattle.cc_scopes.specs.declared.meaning.Meaning.TheVariants as m
use Rattle.cc_scopes.specs.declared.state.Local.{Local}
use Rattle.cc_scopes.specs.declared.state.State.{State}
use Rattle.cc_scopes.specs.declared.typed.Object.{Object}
use Rattle.cc_scopes.specs.declared.typed.Operand.{Operand}
use Rattle.cc_scopes.specs.declared.typed.Place.{Place}
use Rattle.cc_scopes.specs.declared.typed.Root.{Root}
use Rattle.cc_scopes.specs.declared.typed.Root.TheVariants as root
use Rattle.cc_scopes.specs.declared.typed.Typed.{Typed}
use Rattle.cc_scopes.specs.declared.typed.Typed.TheVariants as typed
use Rattle.cc_scopes.specs.declared.types.Declared.{Declared}
use Rattle.cc_scopes.specs.declared.types.Ty.{Ty}
use Rattle.cc_scopes.specs.declared.types.Ty.TheVariants as ty
use Rattle.cc_scopes.specs.Elab.{Elab}
use Rattle.source_types.specs.TypesOf.{target_type, value_type, IsCellType, FieldFits}
use Rattle.source_types.specs.Reading.{Anything, Ends, FoundFits, Grown, IsThere, LocalsFit}
use Rattle.source_types.proofs.Runs.{Runs}

-- They stay while an expression is read. F: what else is known of the whole program
abbrev pub Keeps : Type 0 → List Declared → List Local → State → Type 0
Keeps F ds ls s = (s.locals ≡ ls) × LocalsFit ds ls × F

-- grown: what the function comes to; ds: the variables in scope that are known
abbrev pub Reads : Type 0 → (grown : Grown) → (ds : List Declared) → List Local → {A : Type 0} → Type 0 → Elab A → (A → Type 0) → Type 0
Reads F grown ds ls P p Q = Runs (Ends grown) (Keeps F ds ls) P p Q

-- what is known of the whole program is known everywhere
pub having : (F : Type 0) (grown : Grown) (ds : List Declared) (ls : List Local) {A : Type 0} {P : Type 0} {p : Elab A} {Q : A → Type 0}
    → Reads F grown ds ls (P × F) p Q → Reads F grown ds ls P p Q
having F grown ds ls r = record { run = λ s e. let q = r.run s e in (q.0, λ x k. q.1 (x, k.2) k) }

-- ---- what an expression is

module _ (program : core.Program) (y : Types) (world : World) (home : names.Name) (here : Scope) where
  -- a value of this type
  abbrev pub Values : Expression → ValueType → Type 0
  Values x u = HasType program y world home here (term_of x) u

  abbrev pub AllValues : List Expression → List ValueType → Type 0
  AllValues es us = HaveTypes program y world home here (terms_of es) us

  abbrev pub OperandBy : Ty → Expression → Type 0
  OperandBy ty.Int x = Values x AnInt
  OperandBy ty.Null x = (remote : Bool) (a : Target) → Values x (Pointer remote a)
  OperandBy ty.Void x = Values x NoValue
  OperandBy (ty.Pointer to remote) x = Values x (Pointer remote (target_type to))
  OperandBy ty.Unknown x = ⊥

  abbrev pub OperandFits : Operand → Type 0
  OperandFits v = OperandBy v.ty v.term

  -- an argument may be an object, which no parameter takes
  abbrev pub ArgumentBy : Ty → Expression → Type 0
  ArgumentBy ty.Int x = OperandBy ty.Int x
  ArgumentBy ty.Null x = OperandBy ty.Null x
  ArgumentBy ty.Void x = OperandBy ty.Void x
  ArgumentBy (ty.Pointer to remote) x = OperandBy (ty.Pointer to remote) x
  ArgumentBy ty.Unknown x = Unit {0}

  pub argument_by : (t : Ty) (x : Expression) → OperandBy t x → ArgumentBy t x
  argument_by ty.Int x p = p
  argument_by ty.Null x p = p
  argument_by ty.Void x p = p
  argument_by (ty.Pointer to remote) x p = p
  argument_by ty.Unknown x p = tt

  abbrev pub ArgumentFits : Operand → Type 0
  ArgumentFits v = ArgumentBy v.ty v.term

  -- arguments of these types
  abbrev pub OperandsFit : List Ty → List Expression → Type 0
  OperandsFit [] [] = Unit {0}
  OperandsFit [] (x ∷ xs) = ⊥
  OperandsFit (t ∷ ts) [] = ⊥
  OperandsFit (t ∷ ts) (x ∷ xs) = ArgumentBy t x × OperandsFit ts xs

  abbrev pub ObjectFits : Object → Type 0
  ObjectFits o = Values o.address (Pointer o.remote (ObjectOf o.class.0)) × (o.is_variable ≡ true → o.remote ≡ false)

  -- ---- names

  -- of a member of class c
  abbrev pub MeaningIn : ℕ → Meaning → Type 0
  MeaningIn c (m.Variable found) = Unit {0}
  MeaningIn c (m.Field declared offset) = FieldFits y c declared offset
  MeaningIn c (m.Method f) = (function_types y f.0).this ≡ Some c
  MeaningIn c (m.Constant is_earlier value) = Unit {0}
  MeaningIn c (m.Function f) = Unit {0}
  MeaningIn c m.Nothing = Unit {0}

  abbrev pub Own : (ℕ → Type 0) → Type 0
  Own P = (c : ℕ) × (here.this ≡ Some c) × P c

  abbrev pub ConstantFits : Bool → Option ℤ → Type 0
  ConstantFits true value = IsThere Anything value
  ConstantFits false value = Unit {0}

  module _ (ds : List Declared) where
    abbrev pub MeaningFits : Meaning → Type 0
    MeaningFits (m.Variable found) = FoundFits ds found
    MeaningFits (m.Field declared offset) = Own (λ c. FieldFits y c declared offset)
    MeaningFits (m.Method f) = Own (λ c. (function_types y f.0).this ≡ Some c)
    MeaningFits (m.Constant is_earlier value) = ConstantFits is_earlier value
    MeaningFits (m.Function f) = (function_types y f.0).this ≡ None
    MeaningFits m.Nothing = Unit {0}

  -- ---- places. What is no member is a row of cells

  pub record PlaceFits (p : Place) : Type 0 where
    pub target : Target
    pub leads : Values p.address (Pointer p.remote target)
    pub cell : IsCell y target p.sync (value_type p.ty)
    pub known : IsCellType p.ty
    pub row : p.root ≢ root.Member → target ≡ Cells p.sync (value_type p.ty)

  -- an array of n cells that is a member
  pub record MemberArray (p : Place) (n : ℕ) : Type 0 where
    pub class : ℕ
    pub offset : ℕ
    pub leads : Values p.address (Pointer p.remote (MemberOf class offset))
    pub within : offset + n ≤ last_offset
    pub cells : (j : ℕ) → j < n → member y class (offset + j) ≡ Some (Holds p.sync (value_type p.ty))
    pub known : IsCellType p.ty

  -- and one that is a variable
  pub record VariableArray (k : ℕ) (p : Place) : Type 0 where
    pub leads : Values p.address (Pointer p.remote (Cells p.sync (value_type p.ty)))
    pub known : IsCellType p.ty

  abbrev pub ArrayBy : Root → Place → ℕ → Type 0
  ArrayBy (root.Variable k) p n = VariableArray k p
  ArrayBy root.Member p n = MemberArray p n
  ArrayBy root.Pointer p n = ⊥

  abbrev pub TypedFits : Typed → Type 0
  TypedFits typed.Broken = ⊥
  TypedFits typed.Spoiled = ⊥
  TypedFits (typed.Value v) = OperandFits v
  TypedFits (typed.This class remote) = here.this ≡ Some class.0
  TypedFits (typed.Constant term value) = Values term AnInt
  TypedFits (typed.Place p) = PlaceFits p
  TypedFits (typed.Array p count) = ArrayBy p.root p count
  TypedFits (typed.Object o) = ObjectFits o
