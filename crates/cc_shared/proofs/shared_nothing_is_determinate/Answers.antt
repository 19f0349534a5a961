use Rattle.cc_shared.proofs.SetsAll.{determinate}
use Rattle.cc_shared.proofs.shared_nothing_is_determinate.Goals as goal

pub returns : goal.returns
returns c = λ p spelled well none. determinate p spelled well none
