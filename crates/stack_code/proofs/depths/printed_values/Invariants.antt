use Rattle.std.proofs.Common.{◌≡◌, ◌+◌, ◌≤◌, map, drop}
use Rattle.cc_core.specs.Source.{values}
use Rattle.cc_core.specs.View.{part_of}
use Rattle.stack_code.proofs.depths.printed_values.Given as goal

abbrev pub invariant-loop-part : goal.invariant-loop-part
invariant-loop-part l = record {
  few : l.values ≤ l.part-index;
  counted : l.values + values (map part_of (drop l.part-index l.parts)) ≡ values (map part_of l.parts);
}
