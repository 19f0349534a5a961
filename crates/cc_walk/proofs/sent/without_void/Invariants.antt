use Rattle.std.proofs.Common.{◌≡◌, map, ◌++◌, drop}
use Rattle.cc_ops.specs.Values as values
use Rattle.cc_ops.specs.Machine.{value_of}
use Rattle.cc_walk.proofs.sent.without_void.Given as goal

abbrev pub invariant-loop-value : goal.invariant-loop-value
invariant-loop-value l =
    map value_of l.sent ++ map values.no_void (map value_of (drop l.value-index l.args)) ≡ map values.no_void (map value_of l.args)
