use Rattle.law_processors.proofs.Whole.{machine_moves, machine_faults}
use Rattle.law_processors.proofs.Placed.{step_placed}
use Rattle.law_processors.proofs.machine_moves_are_shown.Goals as goal

pub returns-clause-moves : goal.returns-clause-moves
returns-clause-moves c = machine_moves

pub returns-clause-placed : goal.returns-clause-placed
returns-clause-placed c = step_placed

pub returns-clause-faults : goal.returns-clause-faults
returns-clause-faults c = machine_faults
