use Rattle.std.proofs.Common.{refl}
use Rattle.cc_lexer.proofs.MarkFronts.{double_next, single_next, no_mark_next}
use Rattle.cc_lexer.proofs.mark.mark.Goals as goal

pub returns-in-Some : goal.returns-in-Some
returns-in-Some c =
    let m = c.in-Some.mark in
    let w = (c.in-Some.ensures m).0 refl in
    rw c.marked.ensures (double_next c.args.before.now c.args.here.now c.requires.class m w.0 w.1)

pub returns-in-Some-single : goal.returns-in-Some-single
returns-in-Some-single c =
    let m = c.in-Some-single.mark in
    rw c.marked-in-Some-single.ensures (single_next c.args.before.now c.args.here.now c.requires.class
    (λ d h. let e = (c.double_at.ensures d).1 h in cc (e, c.in_default.is))
    m ((c.in-Some-single.ensures m).0 refl))

pub returns-in-None : goal.returns-in-None
returns-in-None c =
    rw c.place.ensures (no_mark_next c.args.before.now c.args.here.now c.requires.class
    (λ d h. let e = (c.double_at.ensures d).1 h in cc (e, c.in_default.is))
    (λ m h. let e = (c.single.ensures m).1 h in cc (e, c.in-None.is)))
