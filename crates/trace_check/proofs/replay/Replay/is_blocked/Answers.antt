use Rattle.trace_check.proofs.EndLaws.{not_blocked, none_blocked, is_blocked}
use Rattle.trace_check.proofs.replay.Replay.is_blocked.Goals as goal

pub returns-then-not-rests : goal.returns-then-not-rests
returns-then-not-rests c = λ p a at. not_blocked p a c.args.left c.rests.result c.if-not-rests.true (c.rests.ensures p a at)

pub returns-then-left-gt0 : goal.returns-then-left-gt0
returns-then-left-gt0 c = λ p a at.
    is_blocked p a c.args.left c.rests.result c.if-not-rests.false (c.rests.ensures p a at) c.threads_left.result
    (c.threads_left.ensures p a.config a.numbers at.stands) c.if-left-gt0.true

pub returns-else-left-gt0 : goal.returns-else-left-gt0
returns-else-left-gt0 c = λ p a at. none_blocked p a c.args.left c.if-left-gt0.false
