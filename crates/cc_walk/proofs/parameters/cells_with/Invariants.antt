use Rattle.std.proofs.Common.{◌≡◌, ◌++◌, map, drop}
use Rattle.cc_ops.specs.Machine.{value_of, cell_of}
use Rattle.cc_core.specs.Effects.{cells_with}
use Rattle.cc_walk.proofs.parameters.cells_with.Given as goal

abbrev pub invariant-loop-k : goal.invariant-loop-k
invariant-loop-k l =
    let args = map value_of l.args in
    map cell_of l.cells ++ cells_with (drop l.k l.kinds) (drop l.k args) ≡ cells_with l.kinds args
