use Rattle.std.proofs.lemmas.Result.{err_from_is_err_and}
use Rattle.trace_check.proofs.Steps.{rewritten_answer, kept_fault, kept_text}
use Rattle.trace_check.proofs.migration.answer.Goals as goal

pub returns-in_err-read_journal : goal.returns-in_err-read_journal
returns-in_err-read_journal c =
    let p = err_from_is_err_and c.from_residual.result c.from_residual.ensures.1 in
    rw (p.1, p.2) (kept_fault c.args.text.now c.in_err-read_journal.field-0.0 c.in_default.ensures c.in_err-read_journal.ensures.answers)

pub returns-in_default : goal.returns-in_default
returns-in_default c = kept_text c.args.text.now c.in_ok-from_slice.field-0 c.in_ok-read_journal.field-0 c.in_default.ensures c.in_ok-read_journal.ensures.answers c.in_ok-from_slice.ensures

pub returns : goal.returns
returns c = rewritten_answer c.args.text.now c.in-Some.lines.now c.rewrite.result c.in-Some.ensures c.rewrite.ensures
