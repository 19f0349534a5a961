use Rattle.std.proofs.lemmas.List.{take_rest}
use Rattle.cc_lexer.proofs.Blanks.{comment_next, open_comment_next}
use Rattle.cc_lexer.proofs.blank.comment.Goals as goal

pub returns-in-Some : goal.returns-in-Some
returns-in-Some c = comment_next c.args.before.now c.args.here.now _ c.requires.class (take_rest c.args.here.now 2) c.in-Some.end.at c.in-Some.end.line_feeds c.in-Some.ensures.closed c.in-Some.ensures.line_feeds

pub returns-in-None : goal.returns-in-None
returns-in-None c = rw c.place.ensures (open_comment_next c.args.before.now c.args.here.now _ c.requires.class (take_rest c.args.here.now 2) c.in-None.ensures.not_closed)
