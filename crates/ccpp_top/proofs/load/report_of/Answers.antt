use Rattle.std.proofs.Common.{◌++◌, ◌∙◌, ap}
use Rattle.cc_core.specs.Report.{line}
use Rattle.ccpp_top.proofs.AnswerLaws.{was_loaded}
use Rattle.ccpp_top.proofs.load.report_of.Goals as goal

pub returns : goal.returns
returns g c =
    let outcome = c.in_ok-outcome.outcome in
    let answer = c.in_ok-report.field-0 in
    let start = c.new-text.result in
    let head = c.push_line.new.text in
    let said = c.as_str.ensures.value ∙ c.in_ok-format.ensures.ok in
    was_loaded c.args.size c.args.checked.now c.as_slice.result.now outcome.output outcome.ended c.sharing.result c.requires.source (c.as_slice.ensures ∙ c.new-ints.ensures) c.in_ok-outcome.ensures.run c.sharing.ensures.answer
    answer c.in_ok-report.ensures start head c.append.new.self c.new-text.ensures (c.in_ok-push_line.ensures ∙ ap (λ t. start ++ line t) said) c.in_ok-append.ensures.ok
