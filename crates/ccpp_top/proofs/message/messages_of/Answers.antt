use Rattle.std.proofs.Common.{◌++◌, ◌∙◌, ap, Err}
use Rattle.std.specs.Prelude.{codes, decimal}
use Rattle.std.proofs.lemmas.Result.{IfOk-weaker}
use Rattle.cc_core.specs.Report.{line}
use Rattle.ccpp_top.proofs.AnswerLaws.{was_listed, was_no_list}
use Rattle.ccpp_top.proofs.message.messages_of.Goals as goal

pub returns-in_ok-push_line-in-Ok : goal.returns-in_ok-push_line-in-Ok
returns-in_ok-push_line-in-Ok c =
    was_listed _ c.in-Ok.listing _ c.in-Ok.ensures.listed (c.in_ok-push_line-in-Ok.ensures ∙ ap (λ t. c.in-Ok.listing.lines ++ line t) (c.as_str.ensures.value ∙ c.in_ok-format-in-Ok.ensures.ok))

pub returns-in_ok-format-in-Err-No : goal.returns-in_ok-format-in-Err-No
returns-in_ok-format-in-Err-No c =
    let fault = c.in-Err-No.fault in
    let at = c.in-Err-No.at in
    let is = ap Err c.in-Err-No.field-0-is in
    let text = c.as_str-in-Err-No.ensures.value ∙ c.in_ok-format-in-Err-No.ensures.ok ∙ ap (λ name. codes "no " ++ (name ++ (codes " at " ++ decimal at))) c.name-name.ensures in
    IfOk-weaker c.line.result _ _ (was_no_list c.args.bytes.now fault at c.as_str-in-Err-No.result.now (c.in-Err-No.ensures.no_list fault at is) (c.in-Err-No.ensures.refused fault at is) text) c.line.ensures
