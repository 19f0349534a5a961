use Rattle.law_rounds.proofs.AtOnce.{parts_are_turns, due_rises}
use Rattle.law_rounds.proofs.turns_at_once_are_turns_in_order.Goals as goal

pub returns-clause-joined : goal.returns-clause-joined
returns-clause-joined c = parts_are_turns

pub returns-clause-due : goal.returns-clause-due
returns-clause-due c = due_rises
