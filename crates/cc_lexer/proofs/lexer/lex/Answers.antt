use Rattle.cc_lexer.specs.Faults.{too_long}
use Rattle.cc_lexer.proofs.Steps.{only_cut_is, only_fault_is}
use Rattle.cc_lexer.proofs.lexer.lex.Goals as goal

pub returns-then-text-gt-MAX_TEXT-clause-fault : goal.returns-then-text-gt-MAX_TEXT-clause-fault
returns-then-text-gt-MAX_TEXT-clause-fault c = λ m. too_long c.if-text-gt-MAX_TEXT.true

pub returns-clause-only_cut : goal.returns-clause-only_cut
returns-clause-only_cut c = only_cut_is c.args.text.now c.tokens_of.result c.tokens_of.ensures.cut c.tokens_of.ensures.fault

pub returns-clause-only_fault : goal.returns-clause-only_fault
returns-clause-only_fault c = only_fault_is c.args.text.now c.tokens_of.result c.tokens_of.ensures.cut c.tokens_of.ensures.fault
