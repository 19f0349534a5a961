use Rattle.std.proofs.Common.{length}
use Rattle.rsr_message.proofs.ReadingSteps.{ReadSoFar}
use Rattle.rsr_message.proofs.reading.read_values.Given as goal

abbrev pub invariant-loop-rest : goal.invariant-loop-rest
invariant-loop-rest l = ReadSoFar l.bytes l.values l.rest

abbrev pub decreases-loop-rest : goal.decreases-loop-rest
decreases-loop-rest l = length l.rest
