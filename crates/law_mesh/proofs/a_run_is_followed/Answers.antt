use Rattle.law_mesh.proofs.Source.{run_begins, run_goes_on, run_faults}
use Rattle.law_mesh.proofs.a_run_is_followed.Goals as goal

pub returns-clause-begins : goal.returns-clause-begins
returns-clause-begins c = run_begins

pub returns-clause-moves : goal.returns-clause-moves
returns-clause-moves c = run_goes_on

pub returns-clause-faults : goal.returns-clause-faults
returns-clause-faults c = run_faults
