use Rattle.core_types.proofs.Rest.{stands}
use Rattle.core_types.proofs.runs_at_rest_stand.Goals as goal

pub returns : goal.returns
returns c = stands
