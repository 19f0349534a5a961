use Rattle.rsr_message.proofs.MessageLengths.{length_1, length_2}
use Rattle.rsr_message.proofs.laws.longest.Goals as goal

pub returns-clause-first : goal.returns-clause-first
returns-clause-first c = length_1

pub returns-clause-second : goal.returns-clause-second
returns-clause-second c = length_2
