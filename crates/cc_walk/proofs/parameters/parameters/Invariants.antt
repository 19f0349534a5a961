use Rattle.std.proofs.Common.{◌≡◌, ◌++◌, map, drop}
use Rattle.cc_ops.specs.Machine.{value_of}
use Rattle.numbered_runs.specs.Effects.{parameters, put_things, addresses}
use Rattle.cc_walk.proofs.parameters.parameters.Given as goal

abbrev pub invariant-loop-kinds : goal.invariant-loop-kinds
invariant-loop-kinds l =
    let left = parameters l.processor (drop l.kinds-index l.params) (map value_of l.args) in
    let all = parameters l.processor l.params (map value_of l.fn.args) in
    record {
      addresses : map value_of l.made ++ addresses l.objects left ≡ addresses l.fn.objects all;
      objects : put_things l.objects left ≡ put_things l.fn.objects all;
    }
