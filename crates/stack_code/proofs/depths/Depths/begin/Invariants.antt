use Rattle.stack_code.specs.View.{drafted}
use Rattle.stack_code.specs.Spread.{spread_of, IsSpread}
use Rattle.stack_code.proofs.depths.Depths.begin.Given as goal

abbrev pub invariant-loop-number : goal.invariant-loop-number
invariant-loop-number l = IsSpread (drafted l.draft) (spread_of l.self) l.number
