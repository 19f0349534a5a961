use Rattle.std.proofs.Common.{◌≡◌, map, take}
use Rattle.cc_ops.specs.Shapes.{set_of}
use Rattle.cc_lower.proofs.copies.copy_sets.Given as goal

abbrev pub invariant-loop-set : goal.invariant-loop-set
invariant-loop-set l = map set_of l.copy ≡ map set_of (take l.set-index l.sets)
