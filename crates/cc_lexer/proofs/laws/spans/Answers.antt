use Rattle.cc_lexer.proofs.Spans.{cut_spelled, cut_in_order, cut_count}
use Rattle.cc_lexer.proofs.laws.spans.Goals as goal

pub returns-clause-spelled : goal.returns-clause-spelled
returns-clause-spelled c = cut_spelled

pub returns-clause-in_order : goal.returns-clause-in_order
returns-clause-in_order c = cut_in_order

pub returns-clause-count : goal.returns-clause-count
returns-clause-count c = cut_count
