use Rattle.cc_core.proofs.StepLaws.{run_joined, run_cut}
use Rattle.cc_core.proofs.laws.runs_compose.Goals as goal

pub returns-clause-joined : goal.returns-clause-joined
returns-clause-joined c = run_joined

pub returns-clause-cut : goal.returns-clause-cut
returns-clause-cut c = run_cut
