use Rattle.cc_valid.proofs.Law.{layout_is_valid}
use Rattle.cc_valid.proofs.layout_is_valid.Goals as goal

pub returns : goal.returns
returns c = layout_is_valid
