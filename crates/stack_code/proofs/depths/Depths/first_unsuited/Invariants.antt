use Rattle.std.proofs.Common.{ℕ, ◌<◌}
use Rattle.cc_code.specs.Valid.{IsBadDepth}
use Rattle.stack_code.specs.View.{drafted}
use Rattle.stack_code.proofs.depths.Depths.first_unsuited.Given as goal

abbrev pub invariant-loop-at : goal.invariant-loop-at
invariant-loop-at l = (b : ℕ) → b < l.at → ¬ IsBadDepth (drafted l.draft) b
