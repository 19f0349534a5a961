use Rattle.cc_core.specs.View.{program_of}
use Rattle.cc_types.specs.Program.{core_program}
use Rattle.core_types.proofs.Rest.{stands}
use Rattle.source_types.proofs.FinalLaws.{well_typed}
use Rattle.source_types.proofs.runs_at_rest_stand.Goals as goal

pub returns : goal.returns
returns c = λ p well. stands (program_of (core_program p)) (well_typed p well)
