use Rattle.std.proofs.Common.{◌≡◌, map, drop}
use Rattle.cc_ops.specs.Values as values
use Rattle.cc_ops.specs.Machine.{value_of, same_address}
use Rattle.cc_ops.specs.Shapes.{exprs_of, first_two}
use Rattle.cc_ops.proofs.build.+evaluate.Given as goal

abbrev pub invariant-operands-loop-at : goal.invariant-operands-loop-at
invariant-operands-loop-at l =
    first_two same_address (map value_of l.args) l.at (value_of l.first) (value_of l.second) (exprs_of (drop l.at l.parts))
    ≡ first_two same_address (map value_of l.fn.args) 0 values.Void values.Void (exprs_of l.fn.parts)
