use Rattle.cc_core.proofs.StepLaws.{output_run}
use Rattle.cc_core.proofs.laws.output_grows.Goals as goal

pub returns : goal.returns
returns c = output_run
