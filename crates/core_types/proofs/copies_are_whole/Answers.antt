use Rattle.core_types.proofs.Atomic.{copies_go_on}
use Rattle.core_types.proofs.Consequences.{copies}
use Rattle.core_types.proofs.copies_are_whole.Goals as goal

pub returns-clause-whole : goal.returns-clause-whole
returns-clause-whole c = copies

pub returns-clause-moves : goal.returns-clause-moves
returns-clause-moves c = copies_go_on
