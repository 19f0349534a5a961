use Rattle.cc_names.proofs.LeastLaws.{is_least}
use Rattle.law_answers.proofs.named_rules_are_least.Goals as goal

pub returns : goal.returns
returns c = is_least
