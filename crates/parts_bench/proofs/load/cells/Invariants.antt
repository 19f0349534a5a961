use Rattle.std.proofs.Common.{◌≤◌}
use Rattle.parts_bench.proofs.load.cells.Given as goal

abbrev pub invariant-loop-offset-2 : goal.invariant-loop-offset-2
invariant-loop-offset-2 l = l.kept ≤ l.offset
