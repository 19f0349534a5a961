use Rattle.cc_core.proofs.Fresh.{free_reached}
use Rattle.cc_core.proofs.laws.names_are_free.Goals as goal

pub returns : goal.returns
returns c = free_reached
