use Rattle.cc_lexer.proofs.Blanks.{line_next}
use Rattle.cc_lexer.proofs.blank.line_comment.Goals as goal

pub returns : goal.returns
returns c = λ before. rw c.rest_of_line.ensures (line_next before c.args.here.now c.requires)
