use Rattle.std.proofs.Common.{◌≡◌, ℕ, List, Err, refl, sym, ap, ◌∙◌, subst}
use Rattle.cc_ops.specs.Shelves.{Shelf}
use Rattle.cc_code.specs.Code.{move}
use Rattle.code_thread.specs.View.{ask_of}
use Rattle.numbered_runs.specs.Machine.{Machine, Progress, thread_in}
use Rattle.numbered_runs.specs.Looks.{needs, check_all}
use Rattle.numbered_runs.specs.Steps.{step, decide, apply, Waits, Faults, Moves}
use Rattle.cc_walk.specs.Answered.{IsAnswered}
use Rattle.cc_walk.specs.Answers.{IsStep}
use Rattle.cc_walk.specs.Views.{machine_of, runner_of}
use Rattle.cc_walk.specs.declared.stop.Stop.{Stop}
use Rattle.cc_walk.specs.declared.stop.Stop.TheVariants.{Fault}
use Rattle.cc_walk.specs.declared.walk.Stepped.TheVariants as stepped
use Rattle.cc_walk.proofs.MoveLaws.{asks_nothing}
use Rattle.cc_walk.proofs.Outcomes as o
use Rattle.cc_walk.proofs.walk.Walk.step.Goals as goal

abbrev with_threads : Machine → List (List Progress) → Machine
with_threads w ts = record { code = w.code; shelves = w.shelves; threads = ts; output = w.output }

pub returns-in_default-clause-step : goal.returns-in_default-clause-step
returns-in_default-clause-step c = (o.is_gone (machine_of c.args.self.now) c.args.t c.in_default.ensures, refl)

pub returns-in_default-clause-follows : goal.returns-in_default-clause-follows
returns-in_default-clause-follows c = λ p s n st.
    let w = machine_of c.args.self.now in
    o.follows p w s n st c.args.t stepped.Gone w (returns-in_default-clause-step c)

pub returns-in_default-look : goal.returns-in_default-look
returns-in_default-look c =
    let w = machine_of c.args.self.now in
    let r = runner_of c.in-Some.live.now in
    let goes = o.goes_by (thread_in w.threads c.args.t) r c.in-Some.ensures in
    let waits : step w c.args.t ≡ Waits =
    o.is_waiting w c.args.t r goes (asks_nothing w.code.shapes c.look.result c.in_default-look.not-Asks (move w.code r.thread) c.look.ensures) in
    record { step = (waits, refl); follows = λ p s n st. o.follows p w s n st c.args.t stepped.Blocked w (waits, refl) }

pub returns-in-Some-asked-clause-step : goal.returns-in-Some-asked-clause-step
returns-in-Some-asked-clause-step c =
    let w = machine_of c.args.self.now in
    let r = runner_of c.in-Some.live.now in
    let line = c.in-Asks.line in
    let ask = ask_of w.code.shapes c.in-Asks.ask in
    let at = o.is_asking w c.args.t r (o.goes_by (thread_in w.threads c.args.t) r c.in-Some.ensures) line ask (sym c.in-Asks.ensures) in
    let kid = c.in-Some-asked.kid in
    subst (λ does. IsStep does w c.resume.result (machine_of c.resume.new.self)) (sym (o.joins w c.args.t r line ask at.0 at.1 kid c.in-Some-asked.is))
    (c.resume.ensures r line ask at.0 at.1)

pub returns-in-Some-asked-clause-follows : goal.returns-in-Some-asked-clause-follows
returns-in-Some-asked-clause-follows c = λ p s n st.
    o.follows p (machine_of c.args.self.now) s n st c.args.t c.resume.result (machine_of c.resume.new.self) (returns-in-Some-asked-clause-step c)

pub returns-then-waits-clause-step : goal.returns-then-waits-clause-step
returns-then-waits-clause-step c =
    let w = machine_of c.args.self.now in
    let r = runner_of c.in-Some.live.now in
    let line = c.in-Asks.line in
    let ask = ask_of w.code.shapes c.in-Asks.ask in
    let at = o.is_asking w c.args.t r (o.goes_by (thread_in w.threads c.args.t) r c.in-Some.ensures) line ask (sym c.in-Asks.ensures) in
    let verdict = check_all w c.args.t.processor r (needs w.code.shapes ask) in
    (o.decides w c.args.t r line ask at.0 at.1 c.in_default-asked.is ∙ ap (decide w c.args.t r line ask at.0) (o.holds verdict (sym (c.if-waits.ensures w.output))), ap (with_threads w) c.note_seen.ensures)

pub returns-then-waits-clause-follows : goal.returns-then-waits-clause-follows
returns-then-waits-clause-follows c = λ p s n st.
    let w = machine_of c.args.self.now in
    o.follows p w s n st c.args.t stepped.Blocked (with_threads w c.note_seen.new.self) (returns-then-waits-clause-step c)

pub returns-in-Ok-clause-step : goal.returns-in-Ok-clause-step
returns-in-Ok-clause-step c =
    let w = machine_of c.args.self.now in
    let t = c.args.t in
    let r = runner_of c.in-Some.live.now in
    let line = c.in-Asks.line in
    let ask = ask_of w.code.shapes c.in-Asks.ask in
    let at = o.is_asking w t r (o.goes_by (thread_in w.threads t) r c.in-Some.ensures) line ask (sym c.in-Asks.ensures) in
    let verdict = check_all w t.processor r (needs w.code.shapes ask) in
    let went = o.goes_on w t.processor r ask c.answer.new.objects c.answer.new.output verdict (sym (c.if-waits.ensures w.output)) c.in-Ok.effect c.in-Ok.ensures in
    let does : step w t ≡ Moves (apply w t r ask at.0 went.0) =
    o.decides w t r line ask at.0 at.1 c.in_default-asked.is ∙ ap (decide w t r line ask at.0) went.1 in
    o.made_step c.go_on.result c.stepped.result (step w t) w (machine_of c.go_on.new.self) (apply w t r ask at.0 went.0) c.stepped.ensures does
    (c.go_on.ensures w.shelves w.output r line ask at.0 went.0 at.1 c.in_default-asked.is went.2)

pub returns-in-Ok-clause-follows : goal.returns-in-Ok-clause-follows
returns-in-Ok-clause-follows c = λ p s n st.
    o.follows p (machine_of c.args.self.now) s n st c.args.t c.stepped.result (machine_of c.go_on.new.self) (returns-in-Ok-clause-step c)

pub returns-in-Err-Fault-clause-step : goal.returns-in-Err-Fault-clause-step
returns-in-Err-Fault-clause-step c =
    let w = machine_of c.args.self.now in
    let t = c.args.t in
    let r = runner_of c.in-Some.live.now in
    let line = c.in-Asks.line in
    let ask = ask_of w.code.shapes c.in-Asks.ask in
    let at = o.is_asking w t r (o.goes_by (thread_in w.threads t) r c.in-Some.ensures) line ask (sym c.in-Asks.ensures) in
    let verdict = check_all w t.processor r (needs w.code.shapes ask) in
    let answered : IsAnswered w t.processor r ask (Err (Fault c.in-Err-Fault.kind)) c.answer.new.objects c.answer.new.output =
    subst (λ (stop : Stop). IsAnswered w t.processor r ask (Err stop) c.answer.new.objects c.answer.new.output) c.in-Err-Fault.field-0-is c.in-Err-Fault.ensures in
    let stopped = o.stops w t.processor r ask c.answer.new.objects c.answer.new.output verdict (sym (c.if-waits.ensures w.output)) c.in-Err-Fault.kind answered in
    let with_parts : List Shelf → List ℕ → Machine = λ shelves output. record { code = w.code; shelves = shelves; threads = w.threads; output = output } in (
      o.decides w t r line ask at.0 at.1 c.in_default-asked.is ∙ ap (decide w t r line ask at.0) stopped.0 ∙ ap (λ kind. Faults kind line) (sym c.in-Err-Fault.kind-is),
      ap (λ shelves. with_parts shelves c.answer.new.output) stopped.1 ∙ ap (with_parts w.shelves) stopped.2,
    )

pub returns-in-Err-Fault-clause-follows : goal.returns-in-Err-Fault-clause-follows
returns-in-Err-Fault-clause-follows c = λ p s n st. o.faults_follow p (machine_of c.args.self.now) s n st c.args.t (returns-in-Err-Fault-clause-step c)
