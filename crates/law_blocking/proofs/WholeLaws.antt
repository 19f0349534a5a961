-- The functions of a source that are not marked are calm.
use Rattle.std.proofs.Common.{◌≡◌, ℕ, ◌≤◌, false, true, length, ⊎_elim, sym, subst}
use Rattle.std.proofs.lemmas.Bool.{cases_lt}
use Rattle.std.proofs.lemmas.List.{get_or_past}
use Rattle.cc_core.specs.Core.{Program, Function, function, no_function, shapes}
use Rattle.cc_core.specs.Names.{Name}
use Rattle.cc_core.specs.Source.{AreStmts}
use Rattle.cc_core.specs.View.{program_of}
use Rattle.cc_source.proofs.ProgramLaws.{core_is_a_program}
use Rattle.cc_tree.specs.declared.declarations.Program as tree
use Rattle.cc_types.specs.Program.{IsWellFormed, core_program, Blocks}
use Rattle.core_types.specs.Types.{function_types}
use Rattle.core_types.specs.Typing.{Scope, scope_of, is_atomic}
use Rattle.core_types.specs.Values.{World}
use Rattle.law_blocking.specs.Calm.{IsCalmTerm, IsCalmStmt, MayBeCalled, IsCalm, HasCalmFunctions}
use Rattle.law_blocking.specs.Parts.{EachOfStmts}
use Rattle.law_blocking.proofs.CalmLaws.{calm_stmts}
use Rattle.source_types.proofs.FinalLaws.{y, atomics, has_types, unmarked_is_calm, calm_is_unmarked}

module _ (p : tree.Program) (well : IsWellFormed p) where
  abbrev core_left : Program
  core_left = program_of (core_program p)

  is_source : (f : ℕ) → AreStmts (shapes core_left) false (function core_left f).body
  is_source f = ⊎_elim (λ lt. core_is_a_program p well f lt)
      (λ (le : length core_left.functions ≤ f).
      subst (λ (x : Function). AreStmts (shapes core_left) false x.body) (sym (get_or_past core_left.functions f no_function le)) tt)
      (cases_lt f (length core_left.functions))

  may : (f : ℕ) → (function_types (y p well) f).waits ≡ false → is_atomic core_left f ≡ false → MayBeCalled p f
  may f calm plain = (calm_is_unmarked p well f calm, plain)

  abbrev IsCalmBody : World → Name → Scope → Function → Type 0
  IsCalmBody w q here x = EachOfStmts (IsCalmTerm core_left (y p well) w q (MayBeCalled p) here)
      (IsCalmStmt core_left (y p well) w q (MayBeCalled p) here) x.body

  is_calm : (f : ℕ) → (Blocks p f → ⊥) → IsCalm p (y p well) f
  is_calm f never w q =
      let here = scope_of (function_types (y p well) f) in
      ⊎_elim
      (λ calm. calm_stmts (shapes core_left) core_left (y p well) w q (MayBeCalled p) may here calm false (function core_left f).body (is_source f)
      ((has_types p well).bodies f w q))
      (λ none. subst (IsCalmBody w q here) (sym none) tt)
      (unmarked_is_calm p well f never)

  pub functions_are_calm : HasCalmFunctions p
  functions_are_calm = (y p well, has_types p well, is_calm)

  pub atomic_is_unmarked : (f : ℕ) → is_atomic core_left f ≡ true → Blocks p f → ⊥
  atomic_is_unmarked f is = calm_is_unmarked p well f (atomics p well f is)
