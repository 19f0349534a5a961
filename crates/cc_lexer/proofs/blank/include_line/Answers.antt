use Rattle.std.proofs.Common.{sym, ◌∙◌}
use Rattle.cc_lexer.proofs.Blanks.{include_next, no_include_next}
use Rattle.cc_lexer.proofs.blank.include_line.Goals as goal
use Rattle.cc_lexer.proofs.blank.include_line.Goals.{else-begins-via-then-begins+else-is_indent, else-begins-via-else-begins}

pub returns-then-is_indent : goal.returns-then-is_indent
returns-then-is_indent c = rw c.rest_of_line.ensures (include_next c.args.before.now c.args.here.now (c.begins.ensures.0 c.if-begins.true) (sym c.is_indent.ensures ∙ c.if-is_indent.true))

pub returns-else-begins : goal.returns-else-begins
returns-else-begins c =
    rw c.place.ensures (no_include_next c.args.before.now c.args.here.now c.requires.class (λ b h.
    let t = c.begins.ensures.1 b in
    elim c.else-begins.branch [
      | else-begins-via-then-begins+else-is_indent w ↦ cc (h, w.is_indent.ensures, w.if-is_indent.false)
      | else-begins-via-else-begins w ↦ cc (t, w.if-begins.false)
    ]))
