use Rattle.std.proofs.Common.{◌-◌, length}
use Rattle.rsr_message.proofs.StreamLaws.{CutSoFar}
use Rattle.rsr_message.proofs.splitter.split.Given as goal

abbrev pub invariant-loop-head : goal.invariant-loop-head
invariant-loop-head l = CutSoFar l.stream l.used l.fn.out l.out

abbrev pub decreases-loop-head : goal.decreases-loop-head
decreases-loop-head l = length l.stream - l.used
