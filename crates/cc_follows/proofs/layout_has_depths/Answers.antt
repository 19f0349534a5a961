use Rattle.cc_follows.proofs.ProgramDepths.{layout_has_depths}
use Rattle.cc_follows.proofs.layout_has_depths.Goals as goal

pub returns : goal.returns
returns c = layout_has_depths
