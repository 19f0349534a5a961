use Rattle.rsr_message.proofs.reading.next_value.Goals as goal

pub unreachable-requires : goal.unreachable-requires
unreachable-requires c = let read = c.take_value.ensures.value c.requires.0 c.requires.1 c.requires.2 in let refused = c.in-Err.is in cc
