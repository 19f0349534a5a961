use Rattle.std.proofs.Common.{◌≡◌, ◌+◌, drop}
use Rattle.cc_ops.specs.Classes.{arity}
use Rattle.cc_ops.proofs.shape.FunShape.arity.Given as goal

abbrev pub invariant-loop-kinds : goal.invariant-loop-kinds
invariant-loop-kinds l = l.arity + arity (drop l.kinds-index l.kinds-items) ≡ arity l.fn.self.params
