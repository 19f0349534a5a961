use Rattle.law_mesh.proofs.Rest.{none_moves, all_counted, end_shown}
use Rattle.law_mesh.proofs.rest_is_shown.Goals as goal

pub returns-clause-rest : goal.returns-clause-rest
returns-clause-rest c = none_moves

pub returns-clause-left : goal.returns-clause-left
returns-clause-left c = all_counted

pub returns-clause-value : goal.returns-clause-value
returns-clause-value c = end_shown
