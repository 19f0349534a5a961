use Rattle.std.proofs.Common.{◌≡◌, ◌+◌, drop}
use Rattle.cc_ops.specs.Classes.{size}
use Rattle.cc_ops.proofs.shape.ClassShape.size.Given as goal

abbrev pub invariant-loop-run : goal.invariant-loop-run
invariant-loop-run l = l.size + size (drop l.run-index l.run-items) ≡ size l.fn.self.cells
