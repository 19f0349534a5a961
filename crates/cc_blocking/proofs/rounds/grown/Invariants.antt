use Rattle.std.proofs.Common.{◌≡◌, ◌++◌, length}
use Rattle.cc_blocking.specs.Rounds.{grown_from}
use Rattle.cc_blocking.proofs.rounds.grown.Given as goal

abbrev pub invariant-loop-old : goal.invariant-loop-old
invariant-loop-old l = l.marks ++ grown_from l.functions l.known l.old l.left ≡ grown_from l.functions l.known l.known l.functions

abbrev pub decreases-loop-old : goal.decreases-loop-old
decreases-loop-old l = length l.old
