use Rattle.cc_core.specs.View.{program_of}
use Rattle.cc_source.proofs.ProgramLaws.{core_is_a_program}
use Rattle.cc_types.specs.Program.{core_program}
use Rattle.core_types.proofs.Atomic.{atomic_goes_on, rest_free}
use Rattle.source_types.proofs.FinalLaws.{well_typed}
use Rattle.source_types.proofs.atomic_functions_go_on.Goals as goal

pub returns-clause-moves : goal.returns-clause-moves
returns-clause-moves c = λ p well.
    let typed = well_typed p well in atomic_goes_on (program_of (core_program p)) typed.0 typed.1 (core_is_a_program p well)

pub returns-clause-unheld : goal.returns-clause-unheld
returns-clause-unheld c = λ p well.
    let typed = well_typed p well in rest_free (program_of (core_program p)) typed.0 typed.1 (core_is_a_program p well)
