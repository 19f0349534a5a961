use Rattle.law_depth.proofs.StatementNests.{spelled_shallow}
use Rattle.law_depth.proofs.programs_nest_to_1000.Goals as goal

pub returns : goal.returns
returns c = spelled_shallow
