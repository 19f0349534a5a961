-- A function value that reads expressions to a depth.
use Rattle.std.specs.Prelude.{ℕ, Result}
use Rattle.std.specs.declared.alloc.Global.{Global}
use Rattle.std.specs.declared.alloc.AllocError.{AllocError}
use denote.Ref.{Bor, MutBor}
use Rattle.cc_tree.specs.declared.expressions.Expr.{Expr}
use Rattle.cc_scopes.specs.declared.scope.Scope.{Scope}
use Rattle.cc_scopes.specs.declared.state.State.{State}
use Rattle.cc_scopes.specs.declared.typed.Typed.{Typed}
use Rattle.cc_scopes.specs.Elab.{Gives}
use Rattle.cc_scopes.specs.Scope.{context}
use Rattle.cc_typing.specs.Expr.{expr_to}

pub record Nests (depth : ℕ) (pre : Global → ℕ → Bor Scope → MutBor State → Bor Expr → Type 0)
    (post : Global → ℕ → Bor Scope → MutBor State → Bor Expr → Result Typed AllocError → MutBor State → Type 0) : Type 0 where
  pub callable : (alloc : Global) (scope : Bor Scope) (old : MutBor State) (e : Bor Expr) → pre alloc depth scope old e
  pub reads : (alloc : Global) (scope : Bor Scope) (old new : MutBor State) (e : Bor Expr) (r : Result Typed AllocError) → post alloc depth scope old e r new
      → Gives (expr_to depth (context scope.now) e.now old.now) r new.now
