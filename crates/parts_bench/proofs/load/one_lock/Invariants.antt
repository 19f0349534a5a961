use Rattle.std.proofs.Common.{◌≤◌}
use Rattle.parts_bench.proofs.load.one_lock.Given as goal

abbrev pub invariant-loop : goal.invariant-loop
invariant-loop l = l.held ≤ l.counter
