use Rattle.std.proofs.Common.{◌∙◌, ap, Ok, Err}
use Rattle.std.proofs.lemmas.Result.{IfOk-weaker}
use Rattle.effect_journal.specs.declared.read.JournalFault.TheVariants as journal
use Rattle.ccpp_top.specs.Migrations.{migrated}
use Rattle.ccpp_top.proofs.AnswerLaws.{migrates, was_no_line, was_no_end}
use Rattle.ccpp_top.proofs.migrate.migration_of.Goals as goal

pub returns-in-Ok : goal.returns-in-Ok
returns-in-Ok c = migrated (migrates c.args.bytes.now c.migrate.result c.migrate.ensures.answers (Ok c.in-Ok.text) c.in-Ok.is (λ e. cc e))

pub returns-in_ok-format-in-Err-Line : goal.returns-in_ok-format-in-Err-Line
returns-in_ok-format-in-Err-Line c =
    let line = c.in-Err-Line.line in
    let is = c.in-Err-Line.is ∙ ap Err c.in-Err-Line.field-0-is in
    let so = migrates c.args.bytes.now c.migrate.result c.migrate.ensures.answers (Err (journal.Line line)) is (λ e. cc e) in
    IfOk-weaker c.line.result _ _ (was_no_line c.args.bytes.now line c.as_str.result.now so (c.as_str.ensures.value ∙ c.in_ok-format-in-Err-Line.ensures.ok)) c.line.ensures

pub returns-in-Err-NoEnd : goal.returns-in-Err-NoEnd
returns-in-Err-NoEnd c =
    let is = c.in-Err-NoEnd.is ∙ ap Err c.in-Err-NoEnd.field-0-is in
    let so = migrates c.args.bytes.now c.migrate.result c.migrate.ensures.answers (Err journal.NoEnd) is (λ e. cc e) in
    IfOk-weaker c.line-in-Err-NoEnd.result _ _ (was_no_end c.args.bytes.now so) c.line-in-Err-NoEnd.ensures
