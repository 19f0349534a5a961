use Rattle.cc_lexer.proofs.next.next.Goals as goal

pub returns-in-Blank : goal.returns-in-Blank
returns-in-Blank c = c.single.ensures c.args.before.now

pub returns-in-LineComment : goal.returns-in-LineComment
returns-in-LineComment c = c.line_comment.ensures c.args.before.now
