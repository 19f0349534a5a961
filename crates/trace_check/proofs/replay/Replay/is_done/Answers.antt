use Rattle.std.proofs.Common.{Some, int_eq, ap, ◌∙◌, rules}
use Rattle.std.specs.Int.{w64}
use Rattle.std.specs.Option.{option_eq}
use Rattle.std.proofs.lemmas.Int.{to_z-of_z}
use mir.Val.{SFits}
use Rattle.trace_check.proofs.EndLaws.{not_done, some_left, is_done}
use Rattle.trace_check.proofs.replay.Replay.is_done.Goals as goal

pub returns-then-not-rests : goal.returns-then-not-rests
returns-then-not-rests c = λ p a at. not_done p a c.args.value c.rests.result c.if-not-rests.true (c.rests.ensures p a at)

pub returns-then-threads_left-eq0 : goal.returns-then-threads_left-eq0
returns-then-threads_left-eq0 c = λ p a at.
    let fits : SFits w64 c.args.value = search rules in
    is_done p a c.args.value c.rests.result c.if-not-rests.false (c.rests.ensures p a at) c.threads_left.result
    (c.threads_left.ensures p a.config a.numbers at.stands) c.if-threads_left-eq0.true c.main_int.result
    (c.main_int.ensures p a.config a.numbers at.stands) c.eq.result
    (c.eq.ensures ∙ ap (λ v. option_eq int_eq c.main_int.result (Some v)) (to_z-of_z w64 c.args.value fits))

pub returns-else-threads_left-eq0 : goal.returns-else-threads_left-eq0
returns-else-threads_left-eq0 c = λ p a at.
    some_left p a c.args.value c.threads_left.result (c.threads_left.ensures p a.config a.numbers at.stands) c.if-threads_left-eq0.false
