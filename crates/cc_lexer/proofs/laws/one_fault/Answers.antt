use Rattle.cc_lexer.proofs.Outcomes as outcomes
use Rattle.cc_lexer.proofs.laws.one_fault.Goals as goal

pub returns-clause-one : goal.returns-clause-one
returns-clause-one c = outcomes.one_fault

pub returns-clause-no_cut : goal.returns-clause-no_cut
returns-clause-no_cut c = outcomes.cut_or_fault
