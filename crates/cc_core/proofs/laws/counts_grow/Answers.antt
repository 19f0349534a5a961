use Rattle.cc_core.proofs.StepLaws.{counts_run}
use Rattle.cc_core.proofs.laws.counts_grow.Goals as goal

pub returns : goal.returns
returns c = counts_run
