use Rattle.std.proofs.lemmas.Result.{IfOk-weaker}
use Rattle.ccpp_top.specs.Answers.{Reports}
use Rattle.ccpp_top.proofs.AnswerLaws.{was_refused, was_said}
use Rattle.ccpp_top.proofs.run.run_answer.Goals as goal

pub returns-in-Ok : goal.returns-in-Ok
returns-in-Ok g c = IfOk-weaker c.report_of.result _ _ (was_said (Reports c.args.asked.ints.now c.args.asked.limit) c.args.source.now c.in-Ok.checked c.in-Ok.ensures.source) c.report_of.ensures

pub returns-in-Err : goal.returns-in-Err
returns-in-Err g c = IfOk-weaker c.refused.result _ _ (was_refused (Reports c.args.asked.ints.now c.args.asked.limit) c.args.source.now c.in-Err.why c.in-Err.ensures.refused) c.refused.ensures
