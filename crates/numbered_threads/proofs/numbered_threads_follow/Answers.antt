use Rattle.numbered_threads.proofs.Numbered.{entered_stands, started_stands, quiet_stands, later_stands, moves_alike}
use Rattle.numbered_threads.proofs.numbered_threads_follow.Goals as goal

pub returns-clause-entered : goal.returns-clause-entered
returns-clause-entered c = entered_stands

pub returns-clause-started : goal.returns-clause-started
returns-clause-started c = started_stands

pub returns-clause-quiet : goal.returns-clause-quiet
returns-clause-quiet c = quiet_stands

pub returns-clause-later : goal.returns-clause-later
returns-clause-later c = later_stands

pub returns-clause-moves : goal.returns-clause-moves
returns-clause-moves c = moves_alike
