use Rattle.law_scopes.proofs.NearestLaws.{expressions_nearest}
use Rattle.law_scopes.proofs.expressions_name_the_nearest.Goals as goal

pub returns : goal.returns
returns c = expressions_nearest
