use Rattle.std.proofs.Common.{◌∙◌}
use Rattle.cc_walk.specs.Views.{machine_of}
use Rattle.cc_engine.proofs.RunLaws.{kept, goes_on, meets}
use Rattle.cc_engine.proofs.execution.Execution.advance.Goals as goal

pub returns-in_default : goal.returns-in_default
returns-in_default c = λ p ns steps a.
    let before = kept p ns steps (machine_of c.args.self.now.walk) (machine_of c.loop.self.walk) c.loop.invariant a in
    let after = kept p ns steps (machine_of c.loop.self.walk) (machine_of c.next.new.self.walk) c.next.ensures.kept before in
    (after, c.in_ok-thread.ensures.rest p before.last before.numbers before.stands c.in_default.is)

pub returns-in-Moved : goal.returns-in-Moved
returns-in-Moved c = λ p ns steps a.
    let w = machine_of c.next.new.self.walk in
    let before = kept p ns steps (machine_of c.args.self.now.walk) w (c.next.ensures.kept ∙ c.loop.invariant) a in
    goes_on p ns steps w (machine_of c.step.new.self) before c.in-Some.thread (c.in-Moved.ensures.follows p before.last before.numbers before.stands)

pub returns-in-Fault : goal.returns-in-Fault
returns-in-Fault c = λ p ns steps a.
    let w = machine_of c.next.new.self.walk in
    let before = kept p ns steps (machine_of c.args.self.now.walk) w (c.next.ensures.kept ∙ c.loop.invariant) a in
    meets p ns steps w (machine_of c.step.new.self) before c.in-Some.thread c.in-Fault.fault (c.in-Fault.ensures.follows p before.last before.numbers before.stands)
