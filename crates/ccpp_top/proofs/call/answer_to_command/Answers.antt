use Rattle.std.proofs.Common.{◌∙◌, ap, Err}
use Rattle.std.proofs.lemmas.Result.{IfOk-weaker}
use Rattle.ccpp_top.proofs.AnswerLaws.{was_answered, missing, unread}
use Rattle.ccpp_top.proofs.call.answer_to_command.Goals as goal

pub returns-in-Ok-clause-says : goal.returns-in-Ok-clause-says
returns-in-Ok-clause-says g c =
    λ words asked. IfOk-weaker c.answer_on.result _ _ (was_answered words _ _ _ c.args.command.now asked c.file-file.result.now c.as_slice.result.now c.file-file.ensures (rw c.as_slice.ensures c.in-Ok.ensures.bytes)) c.answer_on.ensures

pub returns-in_ok-format-in-Err-Absent-clause-says : goal.returns-in_ok-format-in-Err-Absent-clause-says
returns-in_ok-format-in-Err-Absent-clause-says g c =
    λ words asked. IfOk-weaker c.line.result _ _ (missing words _ _ _ c.args.command.now asked c.file-file.result.now c.as_str.result.now c.file-file.ensures (c.in-Err-Absent.ensures.absent (ap Err c.in-Err-Absent.field-0-is)) (c.as_str.ensures.value ∙ c.in_ok-format-in-Err-Absent.ensures.ok)) c.line.ensures

pub returns-in-Err-Failed-clause-says : goal.returns-in-Err-Failed-clause-says
returns-in-Err-Failed-clause-says g c =
    λ words asked. IfOk-weaker c.line-in-Err-Failed.result _ _ (unread words _ _ _ c.args.command.now asked (c.in-Err-Failed.ensures.failed (ap Err c.in-Err-Failed.field-0-is))) c.line-in-Err-Failed.ensures
