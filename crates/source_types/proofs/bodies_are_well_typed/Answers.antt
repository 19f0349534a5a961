use Rattle.source_types.proofs.StatementLaws.{body_is_typed}
use Rattle.source_types.proofs.bodies_are_well_typed.Goals as goal

pub returns : goal.returns
returns c = body_is_typed
