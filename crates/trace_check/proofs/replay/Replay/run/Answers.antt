use Rattle.std.proofs.Common.{◌≡◌, ℕ, Option, [], refl, subst, arith}
use Rattle.cc_explains.specs.declared.why.Why.{Why}
use Rattle.cc_explains.specs.Explains.{IsRead}
use Rattle.effect_journal.specs.declared.entry.Entry.TheVariants.{Run}
use Rattle.trace_check.specs.Replays.{ReplaysOwn}
use Rattle.trace_check.proofs.TraceLaws.{one_more}
use Rattle.trace_check.proofs.replay.Replay.run.Goals as goal

pub loop-init : goal.loop-init
loop-init c = λ p a at. (a, ([], refl, (refl, tt)), at)

pub loop-preserved : goal.loop-preserved
loop-preserved c = λ p a at.
    let so_far = c.loop.invariant p a at in
    let step = subst (λ (o : Option Why). ReplaysOwn p c.args.t so_far.0 o c.own_step.new.self) c.in_default.is (c.in_ok-why.ensures p so_far.0 so_far.2) in
    (step.0, one_more p c.args.t.processor c.args.t.thread c.loop.counter a so_far.0 step.0 so_far.1 step.1, step.2)

pub returns-in-Some : goal.returns-in-Some
returns-in-Some c = λ p a at.
    let so_far = c.loop.invariant p a at in
    let less = c.loop-test.true in
    let against = subst (λ (o : Option Why). ReplaysOwn p c.args.t so_far.0 o c.own_step.new.self) c.in-Some.is (c.in_ok-why.ensures p so_far.0 so_far.2) in
    record { made = c.loop.counter; fewer = less; place = so_far.0; read = so_far.1; against = against }

pub returns : goal.returns
returns c = λ p a at.
    let so_far = c.loop.invariant p a at in
    let end = c.loop-test.false in
    let most = c.loop.auto.counter-end in
    let whole : c.loop.counter ≡ c.args.steps = omega (arith, end, most) in
    (so_far.0, subst (λ (n : ℕ). IsRead p (Run c.args.t.processor c.args.t.thread n) a so_far.0) whole so_far.1, so_far.2)
