use Rattle.cc_shared.proofs.OneAnswerLaws.{one_run_decides}
use Rattle.cc_shared.proofs.source_has_one_answer.Goals as goal

pub returns : goal.returns
returns c = one_run_decides
