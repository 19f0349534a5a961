use Rattle.cc_lexer.proofs.Spans.{unescaped_inside}
use Rattle.cc_lexer.proofs.laws.strings.Goals as goal

pub returns : goal.returns
returns c = unescaped_inside
