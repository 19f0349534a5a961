use Rattle.std.proofs.Common.{length}
use Rattle.stack_code.specs.View.{drafted}
use Rattle.stack_code.specs.Spread.{spread_of, IsSpread, work}
use Rattle.stack_code.proofs.depths.Depths.spread.Given as goal

abbrev pub invariant-loop-at : goal.invariant-loop-at
invariant-loop-at l = IsSpread (drafted l.draft) (spread_of l.self) (length (drafted l.draft).entries)

abbrev pub decreases-loop-at : goal.decreases-loop-at
decreases-loop-at l = work (spread_of l.self)
