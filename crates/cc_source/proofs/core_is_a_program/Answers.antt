use Rattle.cc_source.proofs.ProgramLaws.{core_is_a_program}
use Rattle.cc_source.proofs.core_is_a_program.Goals as goal

pub returns : goal.returns
returns c = core_is_a_program
