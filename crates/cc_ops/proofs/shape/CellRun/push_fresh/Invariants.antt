use Rattle.std.proofs.Common.{◌≡◌, ◌++◌, map, replicate}
use Rattle.cc_ops.specs.Values.{fresh}
use Rattle.cc_ops.specs.Machine.{cell_of}
use Rattle.cc_ops.proofs.shape.CellRun.push_fresh.Given as goal

abbrev pub invariant-loop : goal.invariant-loop
invariant-loop l = map cell_of l.cells ≡ map cell_of l.fn.cells ++ replicate l.counter (fresh l.self.kind)
