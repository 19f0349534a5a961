use Rattle.std.proofs.Common.{rules, w64}
use Rattle.std.proofs.lemmas.Int.{to_z-of_z}
use mir.Val.{SFits}
use Rattle.cc_lexer.proofs.Longest.{number_next, large_number_next}
use Rattle.cc_lexer.proofs.number.number.Goals as goal

pub returns-in-Some : goal.returns-in-Some
returns-in-Some c =
    let n = c.number_length-length in
    let fits : SFits w64 c.in-Some.value = search rules in
    rw to_z-of_z (number_next c.args.before.now c.args.here.now n.result c.requires.class n.ensures.within n.ensures.number n.ensures.longest c.in-Some.value c.in-Some.ensures)

pub returns-in-None : goal.returns-in-None
returns-in-None c =
    let n = c.number_length-length in
    rw c.place.ensures (large_number_next c.args.before.now c.args.here.now n.result c.requires.class n.ensures.within n.ensures.number n.ensures.longest c.in-None.ensures)
