use Rattle.numbered_runs.proofs.Start.{run_begins}
use Rattle.numbered_runs.proofs.numbered_run_begins.Goals as goal

pub returns : goal.returns
returns c = run_begins
