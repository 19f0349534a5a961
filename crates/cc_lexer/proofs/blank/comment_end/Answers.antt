use Rattle.std.proofs.Common.{codes, arith}
use Rattle.std.proofs.lemmas.Bool.Decides.{nat_tests}
use Rattle.std.proofs.lemmas.Grind.{common_steps}
use Rattle.std.proofs.lemmas.List.{take_rest}
use Rattle.cc_lexer.proofs.Blanks.{past, nowhere}
use Rattle.cc_lexer.proofs.blank.comment_end.Goals as goal
use Rattle.cc_lexer.proofs.blank.comment_end.Goals.{then-inside-at-eq10, else-inside-at-eq10}

pub loop-at-preserved : goal.loop-at-preserved
loop-at-preserved c = record {
  none_before = past (codes "*/") c.args.inside.now c.loop-at.at c.begins.result (rw take_rest at c.begins.ensures) c.if-begins.false c.loop-at.invariant.none_before;
  line_feeds = elim c.if-inside-at-eq10.branch [ then-inside-at-eq10 w ↦ grind (arith, common_steps, nat_tests) | else-inside-at-eq10 w ↦ grind (arith, common_steps, nat_tests) ];
}

pub returns-clause-not_closed : goal.returns-clause-not_closed
returns-clause-not_closed c = nowhere (codes "*/") c.args.inside.now (omega arith) (λ k b. omega (arith, c.loop-at.invariant.none_before k b))
