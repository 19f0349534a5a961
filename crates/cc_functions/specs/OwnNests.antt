-- A function value that tells of an expression to a depth whether it begins with the own object.
use Rattle.std.specs.Prelude.{ℕ, ◌≡◌, Bool}
use denote.Ref.{Bor}
use Rattle.cc_tree.specs.declared.expressions.Expr.{Expr}
use Rattle.cc_functions.specs.Builds.{is_own_to}

pub record Tells (depth : ℕ) (pre : ℕ → Bor Expr → Type 0) (post : ℕ → Bor Expr → Bool → Type 0) : Type 0 where
  pub callable : (e : Bor Expr) → pre depth e
  pub tells : (e : Bor Expr) (r : Bool) → post depth e r → r ≡ is_own_to depth e.now
