use Rattle.std.proofs.lemmas.Result.{IfOk-weaker}
use Rattle.ccpp_top.specs.Checks.{SaysOk}
use Rattle.ccpp_top.proofs.AnswerLaws.{was_refused, was_said, was_ok}
use Rattle.ccpp_top.proofs.checks.check_answer.Goals as goal

pub returns-in-Ok : goal.returns-in-Ok
returns-in-Ok c =
    let program = c.in-Ok._checked in
    IfOk-weaker c.line.result _ _ (λ a e. was_said SaysOk c.args.source.now program c.in-Ok.ensures.source a (was_ok program a e)) c.line.ensures

pub returns-in-Err : goal.returns-in-Err
returns-in-Err c = IfOk-weaker c.refused.result _ _ (was_refused SaysOk c.args.source.now c.in-Err.why c.in-Err.ensures.refused) c.refused.ensures
