use Rattle.source_types.proofs.FinalLaws.{well_typed}
use Rattle.source_types.proofs.core_is_well_typed.Goals as goal

pub returns : goal.returns
returns c = well_typed
