use Rattle.std.proofs.Common.{◌≡◌, map, ◌+◌, ◌++◌, drop, length}
use Rattle.cc_ops.specs.Classes.{all_kinds}
use Rattle.cc_ops.specs.Values as values
use Rattle.cc_ops.specs.Machine.{value_of}
use Rattle.cc_walk.proofs.sent.as_kinds.Given as goal

abbrev pub invariant-loop-kind : goal.invariant-loop-kind
invariant-loop-kind l =
    map value_of l.sent
    ++ values.as_kinds (drop l.kind-index l.kind-items ++ all_kinds (drop (l.kinds-index + 1) l.params)) (drop (length l.sent) (map value_of l.args))
    ≡ values.as_kinds (all_kinds l.params) (map value_of l.args)

abbrev pub invariant-loop-kinds : goal.invariant-loop-kinds
invariant-loop-kinds l =
    map value_of l.sent ++ values.as_kinds (all_kinds (drop l.kinds-index l.params)) (drop (length l.sent) (map value_of l.args))
    ≡ values.as_kinds (all_kinds l.params) (map value_of l.args)
