use Rattle.std.proofs.Common.{◌≡◌, take}
use Rattle.cc_lower.proofs.copies.copy_params.Given as goal

abbrev pub invariant-loop-kinds : goal.invariant-loop-kinds
invariant-loop-kinds l = l.copy ≡ take l.kinds-index l.params
