use Rattle.rsr_message.proofs.PieceLaws.{pieces_joined}
use Rattle.rsr_message.proofs.laws.pieces_join.Goals as goal

pub returns : goal.returns
returns c = pieces_joined
