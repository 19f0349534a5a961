use Rattle.std.proofs.Common.{◌≡◌, ◌≤◌, ◌++◌, map, drop}
use Rattle.cc_ops.specs.Machine.{value_of}
use Rattle.cc_core.specs.View.{part_of}
use Rattle.cc_core.specs.Effects.{printed}
use Rattle.cc_walk.proofs.printing.print.Given as goal

abbrev pub invariant-loop-part : goal.invariant-loop-part
invariant-loop-part l =
    let args = map value_of l.args in
    record {
      next : l.next ≤ l.part-index;
      output : l.output ++ printed (map part_of (drop l.part-index l.parts)) (drop l.next args) ≡ l.fn.output ++ printed (map part_of l.parts) args;
    }
