use Rattle.trace_check.proofs.EndLaws.{tells_rest}
use Rattle.trace_check.proofs.replay.Replay.rests.Goals as goal

pub returns : goal.returns
returns c = λ p a at.
    tells_rest p a c.enabled.result (c.enabled.ensures.follows p a.config a.numbers at.stands) (c.enabled.ensures.rest p a.config a.numbers at.stands)
    c.is_none.result c.is_none.ensures
