use Rattle.core_types.proofs.Consequences.{cells_hold}
use Rattle.core_types.proofs.cells_hold_values.Goals as goal

pub returns : goal.returns
returns c = cells_hold
