use Rattle.law_blocking.proofs.WholeLaws.{atomic_is_unmarked}
use Rattle.law_blocking.proofs.atomic_functions_are_unmarked.Goals as goal

pub returns : goal.returns
returns c = λ p well. atomic_is_unmarked p well
