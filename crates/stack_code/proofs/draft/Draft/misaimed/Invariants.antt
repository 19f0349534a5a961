use Rattle.std.proofs.Common.{ℕ, ◌<◌}
use Rattle.cc_code.specs.Valid.{IsMisaimed}
use Rattle.stack_code.specs.View.{drafted}
use Rattle.stack_code.proofs.draft.Draft.misaimed.Given as goal

abbrev pub invariant-loop-at : goal.invariant-loop-at
invariant-loop-at l = (b : ℕ) → b < l.at → ¬ IsMisaimed (drafted l.self) b
