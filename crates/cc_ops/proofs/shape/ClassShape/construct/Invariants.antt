use Rattle.std.proofs.Common.{◌≡◌, map, drop}
use Rattle.cc_ops.specs.Classes as spec
use Rattle.cc_ops.specs.Machine.{value_of, cell_of, same_address}
use Rattle.cc_ops.specs.Shapes.{set_of, shape_of}
use Rattle.cc_ops.proofs.shape.ClassShape.construct.Given as goal

abbrev pub invariant-loop-set : goal.invariant-loop-set
invariant-loop-set l =
    spec.assign_all same_address (map value_of l.args) (map cell_of l.cells) (map set_of (drop l.set-index l.set-items))
    ≡ spec.construct same_address (shape_of l.fn.self) (map value_of l.fn.args)
