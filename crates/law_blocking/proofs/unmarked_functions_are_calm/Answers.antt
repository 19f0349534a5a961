use Rattle.law_blocking.proofs.WholeLaws.{functions_are_calm}
use Rattle.law_blocking.proofs.unmarked_functions_are_calm.Goals as goal

pub returns : goal.returns
returns c = λ p well. functions_are_calm p well
