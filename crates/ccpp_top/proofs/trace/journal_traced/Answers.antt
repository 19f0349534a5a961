use Rattle.std.proofs.Common.{◌≡◌, ◌∙◌, ap, sym, subst}
use Rattle.std.specs.Prelude.{Ok, Err}
use Rattle.std.proofs.lemmas.Result.{IfOk-weaker}
use Rattle.effect_journal.specs.declared.read.JournalFault.TheVariants as journal
use Rattle.effect_journal.specs.Journal.{Answers, version_2}
use Rattle.cc_shared.specs.OneAnswer.{core_of}
use Rattle.trace_check.specs.Verdicts.{IsVerdict}
use Rattle.ccpp_top.proofs.TraceLaws.{reads, was_judged, was_no_line, was_no_end}
use Rattle.ccpp_top.proofs.trace.journal_traced.Goals as goal

pub returns-in_ok-verdict-in-Ok : goal.returns-in_ok-verdict-in-Ok
returns-in_ok-verdict-in-Ok c =
    let spelled = reads c.args.bytes.now c.read_journal.result c.read_journal.ensures.answers (Ok c.in-Ok.entries) c.in-Ok.is (λ e. cc e) in
    IfOk-weaker c.verdict_line.result _ _ (was_judged c.args.ints.now c.args.checked.now c.args.bytes.now c.in-Ok.entries c.in_ok-verdict-in-Ok.verdict spelled (subst (λ es. IsVerdict (core_of c.args.checked.now) c.args.ints.now es c.in_ok-verdict-in-Ok.verdict) c.as_slice.ensures c.in_ok-verdict-in-Ok.ensures.answers)) c.verdict_line.ensures

pub returns-in_ok-format-in-Err-Line : goal.returns-in_ok-format-in-Err-Line
returns-in_ok-format-in-Err-Line c =
    let line = c.in-Err-Line.line in
    let is = c.in-Err-Line.is ∙ ap Err c.in-Err-Line.field-0-is in
    let so = reads c.args.bytes.now c.read_journal.result c.read_journal.ensures.answers (Err (journal.Line line)) is (λ e. cc e) in
    IfOk-weaker c.line.result _ _ (was_no_line c.args.ints.now c.args.checked.now c.args.bytes.now line c.as_str.result.now so (c.as_str.ensures.value ∙ c.in_ok-format-in-Err-Line.ensures.ok)) c.line.ensures

pub returns-in-Err-NoEnd : goal.returns-in-Err-NoEnd
returns-in-Err-NoEnd c =
    let is = c.in-Err-NoEnd.is ∙ ap Err c.in-Err-NoEnd.field-0-is in
    let so = reads c.args.bytes.now c.read_journal.result c.read_journal.ensures.answers (Err journal.NoEnd) is (λ e. cc e) in
    IfOk-weaker c.line-in-Err-NoEnd.result _ _ (was_no_end c.args.ints.now c.args.checked.now c.args.bytes.now so) c.line-in-Err-NoEnd.ensures
