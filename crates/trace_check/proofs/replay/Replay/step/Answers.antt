use Rattle.cc_walk.specs.Views.{machine_of}
use Rattle.trace_check.proofs.ReplayLaws.{moved, waited, gone, faulted}
use Rattle.trace_check.proofs.replay.Replay.step.Goals as goal

pub returns-in_ok-self-in-Moved : goal.returns-in_ok-self-in-Moved
returns-in_ok-self-in-Moved c = λ p a at.
    moved p c.args.t a c.args.self.now _ at (c.in-Moved.ensures.follows p a.config a.numbers at.stands) c.in_ok-self-in-Moved.ensures

pub returns-in-Blocked : goal.returns-in-Blocked
returns-in-Blocked c = λ p a at.
    waited p c.args.t a (machine_of c.args.self.now.walk) (machine_of c.step.new.self) (c.in-Blocked.ensures.follows p a.config a.numbers at.stands)

pub returns-in-Gone : goal.returns-in-Gone
returns-in-Gone c = λ p a at.
    gone p c.args.t a (machine_of c.args.self.now.walk) (machine_of c.step.new.self) (c.in-Gone.ensures.follows p a.config a.numbers at.stands)

pub returns-in-Fault : goal.returns-in-Fault
returns-in-Fault c = λ p a at.
    faulted p c.args.t a (machine_of c.args.self.now.walk) (machine_of c.step.new.self) _ (c.in-Fault.ensures.follows p a.config a.numbers at.stands)
