use Rattle.law_answers.proofs.FirstLaws.{same_least}
use Rattle.law_answers.proofs.order_decides_nothing.Goals as goal

pub returns : goal.returns
returns c = same_least
