use Rattle.law_rounds.proofs.Limits.{run_follows}
use Rattle.law_rounds.proofs.runs_are_of_the_program.Goals as goal

pub returns : goal.returns
returns c = run_follows
