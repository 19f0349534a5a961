use Rattle.cc_lexer.proofs.Spans.{number_value}
use Rattle.cc_lexer.proofs.laws.numbers.Goals as goal

pub returns : goal.returns
returns c = number_value
