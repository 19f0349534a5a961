use Rattle.code_names.specs.Same.{Told}
use Rattle.code_names.proofs.Moves.{move_same}
use Rattle.code_names.proofs.names_do_not_matter.Goals as goal

pub returns : goal.returns
returns c = λ before after more code t d same. move_same (Told before) (Told after) more code t d same
