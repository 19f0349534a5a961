use Rattle.std.proofs.Common.{◌≡◌, Some, sym, ap, ◌∙◌, subst}
use Rattle.cc_ops.specs.Values.{Void}
use Rattle.cc_ops.specs.Machine.{value_of}
use Rattle.numbered_runs.specs.Machine.{Runner, Over}
use Rattle.numbered_runs.specs.Steps.{joined}
use Rattle.cc_walk.specs.Asking.{IsAsking}
use Rattle.cc_walk.specs.Views.{runner_of, live_of, machine_of}
use Rattle.cc_walk.proofs.StepLaws.{joined_is}
use Rattle.cc_walk.proofs.walk.Walk.join.Goals as goal

pub returns : goal.returns
returns c = λ r line ask k asking.
    let w = machine_of c.args.self.now in
    let t = c.args.t in
    let v = value_of c.args.value in
    let l : Runner = runner_of c.as_mut-live.result.now in
    let was : Some l ≡ Some r = ap (λ x. Some (runner_of x)) c.as_mut-live.ensures.value ∙ c.in-Some.ensures.live ∙ ap live_of asking.goes in
    let same : l ≡ r = cc in
    joined_is w t l line ask k (subst (λ (x : Runner). IsAsking w t x line ask k) (sym same) asking) v
    c.answered.new.self c.take.new.self (Over Void) (machine_of c.put_settled.new.self)
    c.in_ok-answered.ensures c.in-Some.ensures.now c.in_ok-put_settled.ensures
    ∙ ap (λ x. joined w t x k v) same
