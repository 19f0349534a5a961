use Rattle.std.proofs.Common.{sym, arith}
use Rattle.std.proofs.lemmas.List.{take_rest}
use Rattle.std.proofs.lemmas.Bool.{ltb-true, ltb-false}
use Rattle.cc_lexer.proofs.Strings.{string_next, open_at_end, open_at_line_feed, bad_byte_inside}
use Rattle.cc_lexer.proofs.string.string.Goals as goal

pub returns-in_default : goal.returns-in_default
returns-in_default c =
    let n = c.inside_length-inside in
    let got = c.in_default.ensures.lookup in
    rw c.place.ensures (open_at_end c.args.before.now c.args.here.now _ n.result c.requires.class (take_rest c.args.here.now 1) n.ensures.within n.ensures.inside n.ensures.stops
    (ltb-false _ _ (sym got.0)))

pub returns-in-34 : goal.returns-in-34
returns-in-34 c =
    let n = c.inside_length-inside in
    let got = c.in-Some.ensures.lookup in
    string_next c.args.before.now c.args.here.now _ n.result c.requires.class (take_rest c.args.here.now 1) n.ensures.within n.ensures.inside n.ensures.stops
    (ltb-true _ _ (sym got.0)) _ got.1 c.in-34.is

pub returns-in-10 : goal.returns-in-10
returns-in-10 c =
    let n = c.inside_length-inside in
    let got = c.in-Some.ensures.lookup in
    rw c.place.ensures (open_at_line_feed c.args.before.now c.args.here.now _ n.result c.requires.class (take_rest c.args.here.now 1) n.ensures.within n.ensures.inside n.ensures.stops
    (ltb-true _ _ (sym got.0)) _ got.1 c.in-10.is)

pub returns-in_default-stop : goal.returns-in_default-stop
returns-in_default-stop c =
    let n = c.inside_length-inside in
    let got = c.in-Some.ensures.lookup in
    rw c.place-in_default-stop.ensures (bad_byte_inside c.args.before.now c.args.here.now _ n.result c.requires.class (take_rest c.args.here.now 1) n.ensures.within n.ensures.inside n.ensures.stops
    (ltb-true _ _ (sym got.0)) _ got.1 (λ e. omega (arith, e)) (λ e. omega (arith, e)))
