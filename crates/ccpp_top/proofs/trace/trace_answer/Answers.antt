use Rattle.std.proofs.Common.{◌≡◌, ◌∙◌, ap, subst}
use Rattle.std.specs.Prelude.{Err}
use Rattle.std.proofs.lemmas.Result.{IfOk-weaker}
use Rattle.ccpp_top.proofs.TraceLaws.{was_missing, was_unread, was_on_source, was_no_program}
use Rattle.ccpp_top.proofs.trace.trace_answer.Goals as goal

pub returns-in-Ok-clause-says : goal.returns-in-Ok-clause-says
returns-in-Ok-clause-says g c =
    IfOk-weaker c.source_traced.result _ _ (was_on_source _ _ _ _ c.args.file.now c.args.journal.now c.args.ints.now c.as_slice.result.now c.read.ensures.held (rw c.as_slice.ensures c.in-Ok.ensures.bytes))
    (c.source_traced.ensures.says _ c.read.ensures.faults)

pub returns-in_ok-format-in-Err-Absent-clause-says : goal.returns-in_ok-format-in-Err-Absent-clause-says
returns-in_ok-format-in-Err-Absent-clause-says g c =
    IfOk-weaker c.line.result _ _ (was_no_program _ _ _ c.args.file.now c.args.journal.now c.args.ints.now
    (was_missing _ _ _ c.args.file.now c.as_str.result.now (c.in-Err-Absent.ensures.absent (ap Err c.in-Err-Absent.field-0-is)) (c.as_str.ensures.value ∙ c.in_ok-format-in-Err-Absent.ensures.ok))) c.line.ensures

pub returns-in-Err-Failed-clause-says : goal.returns-in-Err-Failed-clause-says
returns-in-Err-Failed-clause-says g c =
    IfOk-weaker c.line-in-Err-Failed.result _ _ (was_no_program _ _ _ c.args.file.now c.args.journal.now c.args.ints.now
    (was_unread _ _ _ c.args.file.now (c.in-Err-Failed.ensures.failed (ap Err c.in-Err-Failed.field-0-is)))) c.line-in-Err-Failed.ensures
