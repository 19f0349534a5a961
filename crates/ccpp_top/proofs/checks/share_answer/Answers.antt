use Rattle.std.proofs.lemmas.Result.{IfOk-weaker}
use Rattle.ccpp_top.specs.Checks.{SaysSharing}
use Rattle.ccpp_top.proofs.AnswerLaws.{was_refused, was_said, was_sharing}
use Rattle.ccpp_top.proofs.checks.share_answer.Goals as goal

pub returns-in-Ok : goal.returns-in-Ok
returns-in-Ok c =
    let program = c.in-Ok.checked in
    IfOk-weaker c.sharing.result _ _ (λ a e. was_said SaysSharing c.args.source.now program c.in-Ok.ensures.source a (was_sharing program c.sharing-found.result c.sharing-found.ensures.answer a e)) c.sharing.ensures

pub returns-in-Err : goal.returns-in-Err
returns-in-Err c = IfOk-weaker c.refused.result _ _ (was_refused SaysSharing c.args.source.now c.in-Err.why c.in-Err.ensures.refused) c.refused.ensures
