use Rattle.cc_one_answer.proofs.Final.{determinate}
use Rattle.cc_one_answer.proofs.one_answer.Goals as goal

pub returns : goal.returns
returns c = determinate
