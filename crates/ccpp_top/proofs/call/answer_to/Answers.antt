use Rattle.std.proofs.Common.{◌∙◌, ap, subst, Err}
use Rattle.std.proofs.lemmas.Result.{IfOk-weaker}
use Rattle.ccpp_words.specs.Words.{Ask}
use Rattle.ccpp_top.specs.Answers.{load_answered}
use Rattle.ccpp_top.proofs.AnswerLaws.{wrong_words, was_trace}
use Rattle.ccpp_top.proofs.call.answer_to.Goals as goal

pub returns-in_ok-format-in-Err-Wrong-clause-says : goal.returns-in_ok-format-in-Err-Wrong-clause-says
returns-in_ok-format-in-Err-Wrong-clause-says g c =
    IfOk-weaker c.line.result _ _ (wrong_words c.args.words.now _ _ _ c.in-Err-Wrong.place c.as_str-in-Err-Wrong.result.now (c.in-Err-Wrong.ensures.wrong c.in-Err-Wrong.place (ap Err c.in-Err-Wrong.field-0-is)) (c.as_str-in-Err-Wrong.ensures.value ∙ c.in_ok-format-in-Err-Wrong.ensures.ok)) c.line.ensures

pub answer_to_command-requires-after_bounds : goal.answer_to_command-requires-after_bounds
answer_to_command-requires-after_bounds g c κs within =
    (c.args.words.now, subst (Ask c.args.words.now) c.in-Ok-OnFile.field-0-is c.in-Ok-OnFile.ensures.invocation)

pub returns-in-Ok-Load-clause-says : goal.returns-in-Ok-Load-clause-says
returns-in-Ok-Load-clause-says g c =
    let asked = subst (Ask c.args.words.now) c.in-Ok-Load.field-0-is c.in-Ok-Load.ensures.invocation in
    IfOk-weaker c.load_answer.result _ _ (λ answer loads. load_answered asked loads) c.load_answer.ensures

pub returns-in-Ok-Trace-clause-says : goal.returns-in-Ok-Trace-clause-says
returns-in-Ok-Trace-clause-says g c =
    IfOk-weaker c.trace_answer.result _ _ (was_trace c.args.words.now _ _ _ c.in-Ok-Trace.file c.in-Ok-Trace.journal c.in-Ok-Trace.ints _ _ _ (subst (Ask c.args.words.now) c.in-Ok-Trace.field-0-is c.in-Ok-Trace.ensures.invocation) c.as_str.ensures c.as_str-in-Ok-Trace.ensures c.as_slice.ensures) c.trace_answer.ensures.says
