use Rattle.law_answers.proofs.FirstLaws.{names_first}
use Rattle.law_answers.proofs.refusals_name_the_first.Goals as goal

pub returns : goal.returns
returns c = λ broken program answer. names_first broken program answer
