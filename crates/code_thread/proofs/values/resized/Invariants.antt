use Rattle.std.proofs.Common.{◌≡◌, map}
use Rattle.cc_ops.specs.Machine.{value_of}
use Rattle.cc_ops.specs.Values as values
use Rattle.code_thread.proofs.values.resized.Given as goal

abbrev pub invariant-loop-k : goal.invariant-loop-k
invariant-loop-k l = map value_of l.list ≡ values.resized l.k (map value_of l.given)
