use Rattle.std.proofs.Common.{sym, ap}
use Rattle.cc_ops.specs.Machine.{value_of}
use Rattle.numbered_runs.specs.Machine.{thread_in, ended_with}
use Rattle.numbered_runs.specs.Steps.{join, joined}
use Rattle.cc_walk.specs.Views.{machine_of}
use Rattle.cc_walk.proofs.Outcomes.{made_step}
use Rattle.cc_walk.proofs.walk.Walk.resume.Goals as goal

pub returns-in-Some : goal.returns-in-Some
returns-in-Some c = λ r line ask k asking.
    let w = machine_of c.args.self.now in
    made_step c.join.result c.stepped.result (join w c.args.t r k (ended_with (thread_in w.threads c.args.kid))) w (machine_of c.join.new.self)
    (joined w c.args.t r k (value_of c.in-Some.value)) c.stepped.ensures (ap (join w c.args.t r k) (sym c.in-Some.ensures)) (c.join.ensures r line ask k asking)
