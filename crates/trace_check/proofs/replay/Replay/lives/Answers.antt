use Rattle.cc_walk.specs.Views.{machine_of}
use Rattle.trace_check.proofs.ReplayLaws.{stepped_lives, gone}
use Rattle.trace_check.proofs.replay.Replay.lives.Goals as goal

pub returns-in-Gone : goal.returns-in-Gone
returns-in-Gone c = λ p a at.
    gone p c.args.t a (machine_of c.args.self.now.walk) (machine_of c.step.new.self) (c.in-Gone.ensures.follows p a.config a.numbers at.stands)

pub returns-in_default : goal.returns-in_default
returns-in_default c = λ p a at.
    stepped_lives p c.args.t a (machine_of c.args.self.now.walk) (machine_of c.step.new.self) c.step.result
    (c.step.ensures.follows p a.config a.numbers at.stands) c.in_default.not-Gone c.in_default.not-Memory
