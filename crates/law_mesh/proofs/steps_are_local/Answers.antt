use Rattle.law_mesh.proofs.Answers.{answered_alike}
use Rattle.law_mesh.proofs.Acted.{acted_here}
use Rattle.law_mesh.proofs.steps_are_local.Goals as goal

pub returns-clause-answers : goal.returns-clause-answers
returns-clause-answers c = answered_alike

pub returns-clause-changes : goal.returns-clause-changes
returns-clause-changes c = acted_here
