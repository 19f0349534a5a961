use Rattle.load_is_a_program.proofs.Law.{load_is_source}
use Rattle.load_is_a_program.proofs.load_program_is_source.Goals as goal

pub returns : goal.returns
returns c = load_is_source
