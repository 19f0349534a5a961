use Rattle.law_rounds.proofs.Examples.{runs_once, runs_two, runs_elsewhere}
use Rattle.law_rounds.proofs.small_runs_compute.Goals as goal

pub returns-clause-once : goal.returns-clause-once
returns-clause-once c = runs_once

pub returns-clause-two : goal.returns-clause-two
returns-clause-two c = runs_two

pub returns-clause-elsewhere : goal.returns-clause-elsewhere
returns-clause-elsewhere c = runs_elsewhere
