use Rattle.std.proofs.Common.{◌≡◌, ◌∙◌, ap, length, refl, sym, subst}
use Rattle.std.specs.Prelude.{Err}
use Rattle.std.proofs.lemmas.Result.{IfOk-weaker}
use Rattle.ccpp_top.specs.Traces.{traced, no_journal}
use Rattle.ccpp_top.proofs.TraceLaws.{lacks_since, rose_since, was_missing, was_unread, was_other_count, was_no_journal, was_traced}
use Rattle.ccpp_top.proofs.trace.program_traced.Goals as goal

pub returns-then-takes-got-clause-says : goal.returns-then-takes-got-clause-says
returns-then-takes-got-clause-says g c = λ before less.
    let ints = c.args.ints.now in
    let takes = c.main_parameters.result in
    IfOk-weaker c.line.result _ _ (was_other_count _ _ _ c.args.journal.now ints c.args.checked.now takes (length ints) c.as_str.result.now c.main_parameters.ensures refl c.if-takes-got.true (c.as_str.ensures.value ∙ c.in_ok-format.ensures.ok)) c.line.ensures

pub returns-in-Ok-clause-says : goal.returns-in-Ok-clause-says
returns-in-Ok-clause-says g c = λ before less.
    IfOk-weaker c.journal_traced.result _ _ (was_traced _ _ _ c.args.journal.now c.args.ints.now c.args.checked.now c.as_slice.result.now (sym c.main_parameters.ensures ∙ c.if-takes-got.false) (rw c.as_slice.ensures c.in-Ok.ensures.bytes)) c.journal_traced.ensures

pub returns-in_ok-format-in-Err-Absent-clause-says : goal.returns-in_ok-format-in-Err-Absent-clause-says
returns-in_ok-format-in-Err-Absent-clause-says g c = λ before less.
    IfOk-weaker c.line-in-Err-Absent.result _ _ (was_no_journal _ _ _ c.args.journal.now c.args.ints.now c.args.checked.now (sym c.main_parameters.ensures ∙ c.if-takes-got.false)
    (was_missing _ _ _ c.args.journal.now c.as_str-in-Err-Absent.result.now (lacks_since _ _ before _ _ less (c.in-Err-Absent.ensures.absent (ap Err c.in-Err-Absent.field-0-is))) (c.as_str-in-Err-Absent.ensures.value ∙ c.in_ok-format-in-Err-Absent.ensures.ok))) c.line-in-Err-Absent.ensures

pub returns-in-Err-Failed-clause-says : goal.returns-in-Err-Failed-clause-says
returns-in-Err-Failed-clause-says g c = λ before less.
    IfOk-weaker c.line-in-Err-Failed.result _ _ (was_no_journal _ _ _ c.args.journal.now c.args.ints.now c.args.checked.now (sym c.main_parameters.ensures ∙ c.if-takes-got.false)
    (was_unread _ _ _ c.args.journal.now (rose_since before _ _ less (c.in-Err-Failed.ensures.failed (ap Err c.in-Err-Failed.field-0-is))))) c.line-in-Err-Failed.ensures
