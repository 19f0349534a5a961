use Rattle.std.proofs.Common.{true, false, sym, ◌∙◌, subst}
use Rattle.std.proofs.lemmas.Bool.{true≢false}
use Rattle.std.proofs.lemmas.Result.{IfOk-weaker}
use Rattle.cc_ops.specs.declared.number.ThreadNo.{ThreadNo}
use Rattle.trace_check.specs.Replays.{MakesStep, TellsLife}
use Rattle.trace_check.proofs.ReplayLaws.{no_message, other_request, dead_asker, serving_goes_on}
use Rattle.trace_check.proofs.replay.Replay.serve.Goals as goal

pub returns-in_default : goal.returns-in_default
returns-in_default c = λ p a at. no_message p c.args.at c.args.bytes.now a (rw c.in_default.is at c.in_ok-request.ensures)

pub returns-then-branch : goal.returns-then-branch
returns-then-branch c = λ p a at.
    let q = c.in-Some.request in
    let spelled = rw c.in-Some.is at c.in_ok-request.ensures in
    let is = (c.in_ok-is_next.ensures p a at).0 c.if-branch.true in
    IfOk-weaker c.step.result _ _
    (λ why made.
    serving_goes_on p c.args.at c.args.bytes.now a q spelled is why c.step.new.self
    (subst (λ (t : ThreadNo). MakesStep p t a why c.step.new.self) c.asker_of-thread.ensures made))
    (c.step.ensures p a at)

pub returns-then-branch-2 : goal.returns-then-branch-2
returns-then-branch-2 c = λ p a at.
    let thread = c.asker_of-thread.result in
    let live = subst (TellsLife a thread) c.if-branch-2.true (c.in_ok-lives.ensures p a at) in
    other_request p c.args.at c.args.bytes.now a c.in-Some.request (rw c.in-Some.is at c.in_ok-request.ensures)
    (λ is. true≢false (sym ((c.in_ok-is_next.ensures p a at).1 is) ∙ c.if-branch.false))
    (subst (λ (t : ThreadNo). TellsLife a t true) c.asker_of-thread.ensures live)

pub returns : goal.returns
returns c = λ p a at.
    let thread = c.asker_of-thread.result in
    let dead = subst (TellsLife a thread) c.if-branch-2.false (c.in_ok-lives.ensures p a at) in
    dead_asker p c.args.at c.args.bytes.now a c.in-Some.request (rw c.in-Some.is at c.in_ok-request.ensures)
    (subst (λ (t : ThreadNo). TellsLife a t false) c.asker_of-thread.ensures dead)
