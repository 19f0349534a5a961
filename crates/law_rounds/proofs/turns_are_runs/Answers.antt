use Rattle.law_rounds.proofs.Limits.{settle_well, serve_well}
use Rattle.law_rounds.proofs.Order.{turn_runs, one_turn_only}
use Rattle.law_rounds.proofs.turns_are_runs.Goals as goal

pub returns-clause-runs : goal.returns-clause-runs
returns-clause-runs c = turn_runs

pub returns-clause-one : goal.returns-clause-one
returns-clause-one c = one_turn_only

pub returns-clause-settled : goal.returns-clause-settled
returns-clause-settled c = settle_well

pub returns-clause-served : goal.returns-clause-served
returns-clause-served c = serve_well
