use Rattle.rsr_message.proofs.LengthSteps.{EachSoFar}
use Rattle.rsr_message.proofs.lengths.values_len.Given as goal

abbrev pub invariant-loop-done : goal.invariant-loop-done
invariant-loop-done l = EachSoFar l.count l.done l.bytes l.len
