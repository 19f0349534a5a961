use Rattle.std.proofs.Common.{◌≡◌, length, map, drop}
use Rattle.stack_code.specs.View.{drafted}
use Rattle.stack_code.specs.Spread.{spread_of, gone}
use Rattle.stack_code.proofs.depths.Depths.arrive_at_all.Given as goal

abbrev pub invariant-loop-to : goal.invariant-loop-to
invariant-loop-to l = record {
  size : length l.self.known.items ≡ length l.fn.self.known.items;
  gone : gone (drafted l.draft) l.at (spread_of l.self) (map (λ to. (to, l.depth)) (drop l.to-index l.targets))
      ≡ gone (drafted l.draft) l.at (spread_of l.fn.self) (map (λ to. (to, l.depth)) l.targets);
}
