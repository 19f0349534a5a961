-- Functions that do nothing that an atomic function may not do: no part of theirs forks, spawns, goes to another processor or reads a sync cell, and
-- they call only such functions, none of which is atomic.
use Rattle.std.specs.Prelude.{◌≡◌, ℕ, Bool, true, false}
use Rattle.cc_core.specs.Names.{Name}
use Rattle.cc_core.specs.Core.{How, Alone, On, Remote, Term, Load, NewObject, Call, Stmt, Assign, Par, ParFor, Spawn, Program, function}
use Rattle.cc_core.specs.View.{program_of}
use Rattle.cc_tree.specs.declared.declarations.Program as tree
use Rattle.cc_types.specs.Program.{core_program, Blocks}
use Rattle.core_types.specs.Programs.{HasTypes}
use Rattle.core_types.specs.Types.{ValueType, Pointer, Target, Types, function_types, IsCell}
use Rattle.core_types.specs.Typing.{Scope, scope_of, is_atomic, HasType}
use Rattle.core_types.specs.Values.{World}
use Rattle.law_blocking.specs.Parts.{EachOfStmts}

-- May: which functions may be called
module _ (p : Program) (y : Types) (w : World) (q : Name) (May : ℕ → Type 0) (here : Scope) where
  -- a place of this address is a plain cell
  abbrev pub IsPlain : Term → Type 0
  IsPlain e = (remote : Bool) × (a : Target) × (v : ValueType) × HasType p y w q here e (Pointer remote a) × IsCell y a false v

  abbrev pub IsCalmCall : How → ℕ → Type 0
  IsCalmCall Alone f = May f
  IsCalmCall On f = May f
  IsCalmCall Remote f = ⊥

  -- no read of a sync cell, and nothing on another processor
  abbrev pub IsCalmTerm : Term → Type 0
  IsCalmTerm (Load remote e) = (remote ≡ false) × IsPlain e
  IsCalmTerm (NewObject remote c es) = remote ≡ false
  IsCalmTerm (Call how f es) = IsCalmCall how f
  IsCalmTerm _ = Unit {0}

  -- no par, no parfor, no spawn, no write on another processor
  abbrev pub IsCalmStmt : Stmt → Type 0
  IsCalmStmt (Par ss) = ⊥
  IsCalmStmt (ParFor k start test line value s) = ⊥
  IsCalmStmt (Spawn how f es) = ⊥
  IsCalmStmt (Assign remote e e') = remote ≡ false
  IsCalmStmt _ = Unit {0}

-- a function of a source that may be called by one that never waits
abbrev pub MayBeCalled : tree.Program → ℕ → Type 0
MayBeCalled p f = (Blocks p f → ⊥) × (is_atomic (program_of (core_program p)) f ≡ false)

-- the body of function f of a source
abbrev pub IsCalm : tree.Program → Types → ℕ → Type 0
IsCalm p y f = (w : World) (q : Name) →
    let core = program_of (core_program p) in
    let here = scope_of (function_types y f) in
    EachOfStmts (IsCalmTerm core y w q (MayBeCalled p) here) (IsCalmStmt core y w q (MayBeCalled p) here) (function core f).body

-- With some tables of types by which its core is typed, each function of a source is calm that is not marked.
abbrev pub HasCalmFunctions : tree.Program → Type 0
HasCalmFunctions p = (y : Types) × HasTypes (program_of (core_program p)) y × ((f : ℕ) → (Blocks p f → ⊥) → IsCalm p y f)

abbrev pub AtomicsAreUnmarked : tree.Program → Type 0
AtomicsAreUnmarked p = (f : ℕ) → is_atomic (program_of (core_program p)) f ≡ true → Blocks p f → ⊥
