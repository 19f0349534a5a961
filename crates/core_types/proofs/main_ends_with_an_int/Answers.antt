use Rattle.core_types.proofs.Consequences.{main_int}
use Rattle.core_types.proofs.main_ends_with_an_int.Goals as goal

pub returns : goal.returns
returns c = main_int
