use Rattle.cc_lexer.proofs.Spans.{name_length}
use Rattle.cc_lexer.proofs.laws.names.Goals as goal

pub returns : goal.returns
returns c = name_length
