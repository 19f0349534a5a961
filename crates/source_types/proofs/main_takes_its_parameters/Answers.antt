use Rattle.source_types.proofs.MainParameters.{main_takes_its_parameters}
use Rattle.source_types.proofs.main_takes_its_parameters.Goals as goal

pub returns : goal.returns
returns c = main_takes_its_parameters
