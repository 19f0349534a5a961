use Rattle.cc_one_answer.proofs.Law.{commuting}
use Rattle.cc_one_answer.proofs.commuting_moves.Goals as goal

pub returns : goal.returns
returns c = commuting
