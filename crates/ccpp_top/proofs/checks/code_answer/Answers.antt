use Rattle.std.proofs.lemmas.Result.{IfOk-weaker}
use Rattle.ccpp_top.specs.Checks.{SaysCode}
use Rattle.ccpp_top.proofs.AnswerLaws.{was_refused, was_said}
use Rattle.ccpp_top.proofs.checks.code_answer.Goals as goal

pub code_of-requires : goal.code_of-requires
code_of-requires c = c.in-Ok.ensures.source.well_formed

pub returns-in-Ok : goal.returns-in-Ok
returns-in-Ok c = IfOk-weaker c.code_of.result _ _ (was_said SaysCode c.args.source.now c.in-Ok.checked c.in-Ok.ensures.source) c.code_of.ensures

pub returns-in-Err : goal.returns-in-Err
returns-in-Err c = IfOk-weaker c.refused.result _ _ (was_refused SaysCode c.args.source.now c.in-Err.why c.in-Err.ensures.refused) c.refused.ensures
