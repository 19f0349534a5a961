use Rattle.std.proofs.Common.{ℕ, ◌<◌}
use Rattle.cc_code.specs.Valid.{IsCircle}
use Rattle.stack_code.specs.View.{drafted}
use Rattle.stack_code.proofs.draft.Draft.first_circle.Given as goal

abbrev pub invariant-loop-at : goal.invariant-loop-at
invariant-loop-at l = (b : ℕ) → b < l.at → ¬ IsCircle (drafted l.self) b
