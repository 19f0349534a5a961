use Rattle.cc_core.specs.View.{program_of}
use Rattle.cc_types.specs.Program.{core_program}
use Rattle.core_types.proofs.Consequences.{homes}
use Rattle.source_types.proofs.FinalLaws.{well_typed}
use Rattle.source_types.proofs.pointers_keep_their_homes.Goals as goal

pub returns : goal.returns
returns c = λ p well.
    let typed = well_typed p well in (typed.0, typed.1, homes (program_of (core_program p)) typed.0 typed.1)
