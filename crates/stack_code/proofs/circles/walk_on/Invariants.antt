use Rattle.std.proofs.Common.{◌≡◌, ◌≢◌, ◌⊎◌, ℕ, ◌+◌, List, Bool}
use Rattle.stack_code.specs.View.{drafted}
use Rattle.stack_code.specs.Circles.{IsWalked, IsOnWalk, walk_at, unwalked}
use Rattle.stack_code.proofs.circles.walk_on.Given as goal

abbrev pub invariant-walk : goal.invariant-walk
invariant-walk l = record {
  on : (rounds : List Bool) → IsWalked (drafted l.draft) l.fn.walked.items rounds l.walks → IsOnWalk (drafted l.draft) l.walked.items rounds (l.walks + 1) l.at;
  begun : (l.at ≡ l.start) ⊎ (walk_at l.walked.items l.start ≢ 0);
  stay : (b : ℕ) → walk_at l.fn.walked.items b ≢ 0 → walk_at l.walked.items b ≢ 0;
}

abbrev pub decreases-walk : goal.decreases-walk
decreases-walk l = unwalked l.walked.items
