use Rattle.core_types.proofs.Consequences.{kinds}
use Rattle.core_types.proofs.asks_have_their_kinds.Goals as goal

pub returns : goal.returns
returns c = kinds
