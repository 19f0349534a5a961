use Rattle.std.proofs.Common.{rules}
use Rattle.cc_grammar.specs.ReadStatements.{test}
use Rattle.cc_statements.proofs.headers.test.Goals as goal

pub returns-in_err-open_mark : goal.returns-in_err-open_mark
unfolding test
returns-in_err-open_mark c = search rules

pub returns-in_err-test : goal.returns-in_err-test
unfolding test
returns-in_err-test c = search rules

pub returns : goal.returns
unfolding test
returns c = search rules
