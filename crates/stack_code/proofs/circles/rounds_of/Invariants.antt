use Rattle.std.proofs.Common.{◌≢◌, ℕ, ◌<◌}
use Rattle.stack_code.specs.View.{drafted}
use Rattle.stack_code.specs.Circles.{IsWalked, walk_at}
use Rattle.stack_code.proofs.circles.rounds_of.Given as goal

abbrev pub invariant-loop-start : goal.invariant-loop-start
invariant-loop-start l = record {
  walked : IsWalked (drafted l.draft) l.walked.items l.rounds.items l.start;
  seen : (b : ℕ) → b < l.start → walk_at l.walked.items b ≢ 0;
}
