-- A function value that reads an expression of a constructor to a depth.
use Rattle.std.specs.Prelude.{ℕ, ◌≡◌, Option, Result, IfOk}
use Rattle.std.specs.declared.alloc.Global.{Global}
use Rattle.std.specs.declared.alloc.AllocError.{AllocError}
use denote.Ref.{Bor}
use Rattle.cc_core.specs.declared.expression.Expression.{Expression}
use Rattle.cc_ops.specs.declared.build.BuildExpr.{BuildExpr}
use Rattle.cc_functions.specs.Builds.{built_to}

abbrev pub IsBuilt : Option BuildExpr → Result (Option BuildExpr) AllocError → Type 0
IsBuilt wanted r = IfOk r (λ made. made ≡ wanted)

pub record Builds (depth : ℕ) (pre : Global → ℕ → Bor Expression → Type 0)
    (post : Global → ℕ → Bor Expression → Result (Option BuildExpr) AllocError → Type 0) : Type 0 where
  pub callable : (alloc : Global) (e : Bor Expression) → pre alloc depth e
  pub reads : (alloc : Global) (e : Bor Expression) (r : Result (Option BuildExpr) AllocError) → post alloc depth e r → IsBuilt (built_to depth e.now) r
