use Rattle.std.proofs.Common.{◌≡◌, arith}
use Rattle.ccpp_words.proofs.NumberLaws.{one_natural}
use Rattle.ccpp_words.proofs.settings.Choice.value.Goals as goal

pub returns-in-Steps-Some : goal.returns-in-Steps-Some
returns-in-Steps-Some c =
    let natural = rw c.in-Steps-Some.is-1 at c.in_ok-value.ensures in
    let either = c.if-steps-gt-MOST_STEPS.either in
    λ n is.
    let steps = rw c.in-Steps-Some.is-0 at is in
    let same : c.in-Steps-Some.steps ≡ n = one_natural c.args.word.now c.in-Steps-Some.steps n natural steps.0 in
    let low = steps.1 in
    let high = steps.2 in
    omega arith
