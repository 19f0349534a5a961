use Rattle.law_rounds.proofs.Rounds.{round_done, rounds_done}
use Rattle.law_rounds.proofs.rounds_are_runs.Goals as goal

pub returns-clause-round : goal.returns-clause-round
returns-clause-round c = round_done

pub returns-clause-rounds : goal.returns-clause-rounds
returns-clause-rounds c = rounds_done
