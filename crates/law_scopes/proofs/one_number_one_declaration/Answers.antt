use Rattle.law_scopes.proofs.NearestLaws.{one_declaration}
use Rattle.law_scopes.proofs.one_number_one_declaration.Goals as goal

pub returns : goal.returns
returns c = one_declaration
