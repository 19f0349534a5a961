use Rattle.std.proofs.Common.{◌≡◌, ◌++◌, map, drop}
use Rattle.cc_ops.specs.Classes as spec
use Rattle.cc_ops.specs.Machine.{cell_of}
use Rattle.cc_ops.proofs.shape.ClassShape.fresh_cells.Given as goal

abbrev pub invariant-loop-run : goal.invariant-loop-run
invariant-loop-run l = map cell_of l.cells ++ spec.fresh_cells (drop l.run-index l.run-items) ≡ spec.fresh_cells l.fn.self.cells
