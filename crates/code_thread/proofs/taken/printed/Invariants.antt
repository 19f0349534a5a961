use Rattle.std.proofs.Common.{◌≡◌, ◌+◌, ◌≤◌, map, drop}
use Rattle.cc_core.specs.Source.{values}
use Rattle.cc_core.specs.View.{part_of}
use Rattle.code_thread.proofs.taken.printed.Given as goal

abbrev pub invariant-loop-part : goal.invariant-loop-part
invariant-loop-part l = record {
  few : l.count ≤ l.part-index;
  counted : l.count + values (map part_of (drop l.part-index l.parts)) ≡ values (map part_of l.parts);
}
