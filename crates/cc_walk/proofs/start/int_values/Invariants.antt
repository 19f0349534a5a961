use Rattle.std.proofs.Common.{◌≡◌, map, ◌++◌, drop}
use Rattle.cc_ops.specs.Machine.{value_of}
use Rattle.numbered_runs.specs.Alike.{ints}
use Rattle.cc_walk.proofs.start.int_values.Given as goal

abbrev pub invariant-loop-arg : goal.invariant-loop-arg
invariant-loop-arg l = map value_of l.values ++ ints (drop l.arg-index l.args) ≡ ints l.args
