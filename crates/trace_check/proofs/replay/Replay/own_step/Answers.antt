use Rattle.std.proofs.Common.{sym, ◌∙◌}
use Rattle.std.proofs.lemmas.Result.{IfOk-weaker}
use Rattle.trace_check.proofs.ReplayLaws.{posts_stops, own_goes_on, asks_some, asks_none}
use Rattle.trace_check.proofs.replay.Replay.own_step.Goals as goal

pub returns-then-is_some : goal.returns-then-is_some
returns-then-is_some c = λ p a at.
    posts_stops p c.args.t a
    (asks_some p c.args.t a c.in_ok-asks.field-0 (c.in_ok-asks.ensures.follows p a.config a.numbers at.stands) (sym c.is_some.ensures ∙ c.if-is_some.true))

pub returns : goal.returns
returns c = λ p a at.
    let own =
    asks_none p c.args.t a c.in_ok-asks.field-0 (c.in_ok-asks.ensures.follows p a.config a.numbers at.stands) (sym c.is_some.ensures ∙ c.if-is_some.false) in
    IfOk-weaker c.step.result _ _ (λ why made. own_goes_on p c.args.t a why c.step.new.self own made) (c.step.ensures p a at)
