use Rattle.cc_core.proofs.Fresh.{free_reached}
use Rattle.cc_one_answer.proofs.Law.{commuting}
use Rattle.cc_one_answer.proofs.Commute.{apart_commute}
use Rattle.cc_one_answer.proofs.apart_threads_have_one_answer.Goals as goal

pub returns : goal.returns
returns c = λ p ns apart. commuting p ns (λ s at. apart_commute p s (free_reached p ns s at) (apart s at))
