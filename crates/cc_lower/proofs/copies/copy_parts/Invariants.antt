use Rattle.std.proofs.Common.{◌≡◌, map, take}
use Rattle.cc_core.specs.View.{part_of}
use Rattle.cc_lower.proofs.copies.copy_parts.Given as goal

abbrev pub invariant-loop-part : goal.invariant-loop-part
invariant-loop-part l = map part_of l.copy ≡ map part_of (take l.part-index l.parts)
