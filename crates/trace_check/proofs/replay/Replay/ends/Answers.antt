use Rattle.std.proofs.Common.{◌↔◌, IsTrue, None, ℤ, subst, rules}
use Rattle.std.specs.Int.{w64}
use Rattle.std.proofs.lemmas.Int.{to_z-of_z}
use mir.Val.{SFits}
use Rattle.global_ptr.specs.declared.ends.Standing.TheVariants.{Done}
use Rattle.cc_explains.specs.Explains.{IsEnd}
use Rattle.trace_check.proofs.EndLaws.{is_limit}
use Rattle.trace_check.proofs.replay.Replay.ends.Goals as goal

pub returns-in-Done-None : goal.returns-in-Done-None
returns-in-Done-None c = λ p a at.
    let fits : SFits w64 c.in-Done-None.value = search rules in
    rw (c.in-Done-None.is-0, c.in-Done-None.is-1)
    (subst (λ (v : ℤ). IsTrue c.is_done.result ↔ IsEnd p a (Done v) None) (to_z-of_z w64 c.in-Done-None.value fits) (c.is_done.ensures p a at))

pub returns-in-Blocked-None : goal.returns-in-Blocked-None
returns-in-Blocked-None c = λ p a at. rw (c.in-Blocked-None.is-0, c.in-Blocked-None.is-1) (c.is_blocked.ensures p a at)

pub returns-then-steps-self : goal.returns-then-steps-self
returns-then-steps-self c = λ p a at.
    rw (c.in-Limit-None.is-0, c.in-Limit-None.is-1)
    (is_limit p a c.in-Limit-None.steps c.args.self.now.made at.made c.if-steps-self.true c.rests.result (c.rests.ensures p a at))

pub returns-in-Fault-Some : goal.returns-in-Fault-Some
returns-in-Fault-Some c = λ p a at. rw (c.in-Fault-Some.is-0, c.in-Fault-Some.is-1) (c.faults.ensures p a at)
