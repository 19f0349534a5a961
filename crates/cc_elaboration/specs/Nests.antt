-- A function value that reads statements to a depth.
use Rattle.std.specs.Prelude.{ℕ, Result}
use Rattle.std.specs.declared.alloc.Global.{Global}
use Rattle.std.specs.declared.alloc.AllocError.{AllocError}
use denote.Ref.{Bor, MutBor}
use Rattle.cc_core.specs.declared.statement.Statement.{Statement}
use Rattle.cc_tree.specs.declared.statements.Stmt.{Stmt}
use Rattle.cc_scopes.specs.declared.scope.Scope.{Scope}
use Rattle.cc_scopes.specs.declared.state.State.{State}
use Rattle.cc_scopes.specs.Elab.{Gives}
use Rattle.cc_scopes.specs.Scope.{context}
use Rattle.cc_elaboration.specs.Statements.{statement_to}

pub record Nests (depth : ℕ) (pre : Global → ℕ → Bor Scope → MutBor State → Bor Stmt → Type 0)
    (post : Global → ℕ → Bor Scope → MutBor State → Bor Stmt → Result Statement AllocError → MutBor State → Type 0) : Type 0 where
  pub callable : (alloc : Global) (scope : Bor Scope) (old : MutBor State) (s : Bor Stmt) → pre alloc depth scope old s
  pub reads : (alloc : Global) (scope : Bor Scope) (old new : MutBor State) (s : Bor Stmt) (r : Result Statement AllocError)
      → post alloc depth scope old s r new → Gives (statement_to depth (context scope.now) s.now old.now) r new.now
