use Rattle.std.proofs.Common.{arith}
use Rattle.std.proofs.lemmas.List.{take_rest, length-drop}
use Rattle.cc_lexer.proofs.Insides.{inside_more}
use Rattle.cc_lexer.proofs.string.inside_length.Goals as goal

pub loop-n-preserved : goal.loop-n-preserved
loop-n-preserved c =
    let here = c.args.here.now in
    let n = c.loop-n.length in
    record {
      within = omega (arith, rw take_rest at c.unit_length.ensures.within, length-drop n here);
      inside = inside_more here n c.unit_length.result c.loop-n.invariant.inside (rw take_rest at c.unit_length.ensures.inside);
    }
