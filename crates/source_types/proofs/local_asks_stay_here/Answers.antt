use Rattle.cc_core.specs.View.{program_of}
use Rattle.cc_types.specs.Program.{core_program}
use Rattle.core_types.proofs.Consequences.{stays}
use Rattle.source_types.proofs.FinalLaws.{well_typed}
use Rattle.source_types.proofs.local_asks_stay_here.Goals as goal

pub returns : goal.returns
returns c = λ p well. stays (program_of (core_program p)) (well_typed p well)
