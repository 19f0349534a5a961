-- A head, the numbers behind it, and the tail.
use Rattle.std.proofs.Common.{◌+◌, ap, arith}
use Rattle.std.proofs.lemmas.Result.{err_from_is_err_and}
use Rattle.marshal.proofs.Steps.{IsBytes-of}
use Rattle.rsr_message.proofs.LengthSteps.{fields_missing, tail_stopped, tail_done}
use Rattle.rsr_message.proofs.lengths.measure.Goals as goal

pub returns-in_default : goal.returns-in_default
returns-in_default c =
    let few = c.in_default.ensures.cases in
    let len = c.fields_len-at.ensures in
    fields_missing c.in_ok-head.head.version c.in_ok-head.head.kind _ (IsBytes-of _ c.type_inv.bytes) c.in_ok-head.ensures (omega arith)

pub returns-in_err-len : goal.returns-in_err-len
returns-in_err-len c =
    let p = err_from_is_err_and c.from_residual-in_err-len.result c.from_residual-in_err-len.ensures.1 in
    let cut = c.in-Some.ensures.cases in
    rw (p.1, p.2) (tail_stopped c.in_ok-head.head.version c.in_ok-head.head.kind _ c.in-Some.tail.now (IsBytes-of _ c.type_inv.bytes) c.in_ok-head.ensures
    (3 + c.fields_len-at.result) (ap (λ n. 3 + n) c.fields_len-at.ensures) cut.0 cut.2 c.in_err-len.field-0.0 c.in_err-len.ensures)

pub returns : goal.returns
returns c =
    let cut = c.in-Some.ensures.cases in
    tail_done c.in_ok-head.head.version c.in_ok-head.head.kind _ c.in-Some.tail.now c.in_ok-len.len (IsBytes-of _ c.type_inv.bytes) c.in_ok-head.ensures
    (3 + c.fields_len-at.result) (ap (λ n. 3 + n) c.fields_len-at.ensures) cut.0 cut.2 c.in_ok-len.ensures
