use Rattle.core_types.proofs.Strict.{strict}
use Rattle.core_types.proofs.threads_are_strict.Goals as goal

pub returns : goal.returns
returns c = strict
