use Rattle.law_mesh.proofs.Moved.{move_shown, move_posted, fault_shown}
use Rattle.law_mesh.proofs.moves_are_shown.Goals as goal

pub returns-clause-moves : goal.returns-clause-moves
returns-clause-moves c = move_shown

pub returns-clause-posts : goal.returns-clause-posts
returns-clause-posts c = move_posted

pub returns-clause-faults : goal.returns-clause-faults
returns-clause-faults c = fault_shown
