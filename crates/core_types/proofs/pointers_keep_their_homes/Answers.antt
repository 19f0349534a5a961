use Rattle.core_types.proofs.Consequences.{homes}
use Rattle.core_types.proofs.pointers_keep_their_homes.Goals as goal

pub returns : goal.returns
returns c = homes
