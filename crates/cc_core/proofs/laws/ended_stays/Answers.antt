use Rattle.cc_core.proofs.Stays.{ended_reached}
use Rattle.cc_core.proofs.laws.ended_stays.Goals as goal

pub returns : goal.returns
returns c = ended_reached
