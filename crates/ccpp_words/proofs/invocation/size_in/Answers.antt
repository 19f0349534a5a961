use Rattle.std.proofs.Common.{◌≡◌, arith}
use Rattle.ccpp_words.proofs.NumberLaws.{one_natural}
use Rattle.ccpp_words.proofs.invocation.size_in.Goals as goal

pub returns-then-size-eq0 : goal.returns-then-size-eq0
returns-then-size-eq0 c =
    let natural = rw c.in-Some.is at c.in_ok-size.ensures in
    let either = c.then-size-eq0.either in
    λ n is.
    let same : c.in-Some.size ≡ n = one_natural c.args.word.now c.in-Some.size n natural is.0 in
    let low = is.1 in
    let high = is.2 in
    omega arith
