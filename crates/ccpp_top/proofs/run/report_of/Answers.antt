use Rattle.std.proofs.Common.{length, refl, sym, ◌∙◌}
use Rattle.std.proofs.lemmas.Result.{IfOk-weaker}
use Rattle.ccpp_top.proofs.AnswerLaws.{was_run, was_int_count}
use Rattle.ccpp_top.proofs.run.report_of.Goals as goal

pub returns-then-takes-got : goal.returns-then-takes-got
returns-then-takes-got g c =
    let ints = c.args.asked.ints.now in
    let takes = c.main_parameters.result in
    IfOk-weaker c.line.result _ _ (was_int_count c.args.checked.now ints c.args.asked.limit takes (length ints) c.as_str.result.now c.main_parameters.ensures refl c.if-takes-got.true (c.as_str.ensures.value ∙ c.in_ok-format.ensures.ok)) c.line.ensures

pub returns : goal.returns
returns g c =
    let outcome = c.in_ok-outcome.outcome in
    IfOk-weaker c.report.result _ _ (was_run c.args.checked.now c.args.asked.ints.now c.args.asked.limit outcome.output outcome.ended c.sharing.result (sym c.main_parameters.ensures ∙ c.if-takes-got.false) c.in_ok-outcome.ensures.run c.sharing.ensures.answer) c.report.ensures
