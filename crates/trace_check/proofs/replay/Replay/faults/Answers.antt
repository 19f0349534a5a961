use Rattle.cc_walk.specs.Views.{machine_of}
use Rattle.trace_check.proofs.EndLaws.{told_same, is_fault, no_fault}
use Rattle.trace_check.proofs.replay.Replay.faults.Goals as goal

pub returns-in-Fault : goal.returns-in-Fault
returns-in-Fault c = λ p a at.
    is_fault p a c.args.by c.args.fault (machine_of c.args.self.now.walk) (machine_of c.step.new.self) c.in-Fault.found
    (c.in-Fault.ensures.follows p a.config a.numbers at.stands) c.eq.result (told_same c.in-Fault.found c.args.fault c.eq.result c.eq.ensures)

pub returns-in_default : goal.returns-in_default
returns-in_default c = λ p a at.
    no_fault p a c.args.by c.args.fault (machine_of c.args.self.now.walk) (machine_of c.step.new.self) c.step.result
    (c.step.ensures.follows p a.config a.numbers at.stands) c.in_default.not-Fault c.in_default.not-Memory
