use Rattle.cc_lexer.specs.Lexemes.{lexemes}
use Rattle.cc_parser.proofs.ParseLaws.{only_program, only_fault}
use Rattle.cc_parser.proofs.parser.parse.Goals as goal

pub returns-clause-only_program : goal.returns-clause-only_program
returns-clause-only_program c = only_program (lexemes c.args.text.now c.args.tokens.now) c.whole_text.result c.whole_text.ensures.program c.whole_text.ensures.fault

pub returns-clause-only_fault : goal.returns-clause-only_fault
returns-clause-only_fault c = only_fault (lexemes c.args.text.now c.args.tokens.now) c.whole_text.result c.whole_text.ensures.program c.whole_text.ensures.fault
