use Rattle.cc_lexer.proofs.Blanks.{single_next, one_feed, no_feed}
use Rattle.cc_lexer.proofs.blank.single.Goals as goal

pub returns-then-here-eq10 : goal.returns-then-here-eq10
returns-then-here-eq10 c = λ before. (single_next before c.args.here.now c.requires, one_feed before c.args.here.now c.requires c.if-here-eq10.true)

pub returns-else-here-eq10 : goal.returns-else-here-eq10
returns-else-here-eq10 c = λ before. (single_next before c.args.here.now c.requires, no_feed before c.args.here.now c.requires c.if-here-eq10.false)
