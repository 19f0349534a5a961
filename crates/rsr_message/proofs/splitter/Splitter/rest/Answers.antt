use Rattle.std.proofs.Common.{rules}
use Rattle.rsr_message.proofs.MessageLengths.{length-partial}
use Rattle.rsr_message.proofs.splitter.Splitter.rest.Goals as goal

pub returns-clause-few : goal.returns-clause-few
returns-clause-few c = length-partial c.as_slice.result.now (search rules)
