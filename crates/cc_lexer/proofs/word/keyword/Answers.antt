use Rattle.cc_lexer.proofs.OneKind.{found_among}
use Rattle.cc_lexer.proofs.word.keyword.Goals as goal

pub returns : goal.returns
returns c = found_among c.args.text.now _ _ c.keywords_of_length.ensures c.first_with_text.ensures
