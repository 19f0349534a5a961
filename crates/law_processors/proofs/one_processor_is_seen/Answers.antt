use Rattle.law_processors.proofs.Alone.{cell_seen, cells_seen, held_seen, slots_seen, made_seen, ended_seen}
use Rattle.law_processors.proofs.one_processor_is_seen.Goals as goal

pub returns-clause-cell : goal.returns-clause-cell
returns-clause-cell c = cell_seen

pub returns-clause-cells : goal.returns-clause-cells
returns-clause-cells c = cells_seen

pub returns-clause-held : goal.returns-clause-held
returns-clause-held c = held_seen

pub returns-clause-slots : goal.returns-clause-slots
returns-clause-slots c = slots_seen

pub returns-clause-threads : goal.returns-clause-threads
returns-clause-threads c = made_seen

pub returns-clause-ended : goal.returns-clause-ended
returns-clause-ended c = ended_seen
