use Rattle.law_processors.proofs.Whole.{machine_begins, runs_follow, same_output, faults_follow}
use Rattle.law_processors.proofs.Stuck.{stuck_rests}
use Rattle.law_processors.proofs.machine_follows_the_run.Goals as goal

pub returns-clause-begins : goal.returns-clause-begins
returns-clause-begins c = machine_begins

pub returns-clause-runs : goal.returns-clause-runs
returns-clause-runs c = runs_follow

pub returns-clause-prints : goal.returns-clause-prints
returns-clause-prints c = same_output

pub returns-clause-faults : goal.returns-clause-faults
returns-clause-faults c = faults_follow

pub returns-clause-rest : goal.returns-clause-rest
returns-clause-rest c = stuck_rests
