use Rattle.cc_one_answer.proofs.Commute.{apart_commute}
use Rattle.cc_one_answer.proofs.apart_threads_commute.Goals as goal

pub returns : goal.returns
returns c = apart_commute
