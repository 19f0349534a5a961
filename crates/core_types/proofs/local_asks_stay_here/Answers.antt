use Rattle.core_types.proofs.Consequences.{stays}
use Rattle.core_types.proofs.local_asks_stay_here.Goals as goal

pub returns : goal.returns
returns c = stays
