use Rattle.law_processors.proofs.Parent.{behind}
use Rattle.law_processors.proofs.an_end_wakes_the_parent.Goals as goal

pub returns : goal.returns
returns c = behind
