use Rattle.cc_lexer.proofs.Outcomes as outcomes
use Rattle.cc_lexer.proofs.laws.one_cut.Goals as goal

pub returns : goal.returns
returns c = outcomes.one_cut
