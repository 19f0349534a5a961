use Rattle.rsr_message.proofs.ReadingSteps.{begins_value, value_alone}
use Rattle.rsr_message.proofs.reading.read_value.Goals as goal

pub next_value-value-requires : goal.next_value-value-requires
next_value-value-requires c = begins_value _ c.requires

pub returns : goal.returns
returns c = value_alone _ _ _ c.requires c.next_value-value.ensures
