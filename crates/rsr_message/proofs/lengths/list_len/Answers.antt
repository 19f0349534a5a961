-- The number of values, and then the values.
use Rattle.std.proofs.Common.{◌+◌, ◌∙◌, drop, ap, subst, sym}
use Rattle.std.specs.Int.{byte_len}
use Rattle.std.proofs.lemmas.List.{take_rest}
use Rattle.std.proofs.lemmas.Result.{err_from_is_err_and}
use Rattle.marshal.specs.Spellings.{BeginsWith}
use Rattle.rsr_message.specs.declared.faults.MessageFault.TheVariants.{BadTag}
use Rattle.rsr_message.specs.Requests.{format_of}
use Rattle.rsr_message.specs.Shapes.{IsEach, IsList}
use Rattle.rsr_message.specs.Refusals.{IsRefused}
use Rattle.rsr_message.proofs.MessageLaws.{back_of}
use Rattle.rsr_message.proofs.RefusalLaws.{count_refused}
use Rattle.rsr_message.proofs.LengthSteps.{list_stopped, list_done}
use Rattle.rsr_message.proofs.lengths.list_len.Goals as goal

pub returns-in_err-count : goal.returns-in_err-count
returns-in_err-count c =
    let p = err_from_is_err_and c.from_residual.result c.from_residual.ensures.1 in
    rw (p.1, p.2) (count_refused (format_of c.args.version) (back_of c.args.version) c.args.bytes.now c.args.at c.in_err-count.field-0.0 c.in_err-count.ensures)

pub returns-in_err-len : goal.returns-in_err-len
returns-in_err-len c =
    let p = err_from_is_err_and c.from_residual-in_err-len.result c.from_residual-in_err-len.ensures.1 in
    let bytes = c.args.bytes.now in
    let at = c.args.at in
    let count = c.in_ok-count.count in
    let width = byte_len (format_of c.args.version).count in
    let fault = c.in_err-len.field-0.0 in
    let read = c.count_len-width.result in
    let wide = c.count_len-width.ensures in
    let first = subst (λ l. IsRefused (IsEach count) (λ k. BadTag (at + read + k)) l fault) (take_rest bytes read) c.in_err-len.ensures in
    let refused = subst (λ n. IsRefused (IsEach count) (λ k. BadTag (at + n + k)) (drop n bytes) fault) wide first in
    rw (p.1, p.2) (list_stopped c.args.version bytes count c.in_ok-count.ensures at fault refused)

pub returns : goal.returns
returns c =
    let bytes = c.args.bytes.now in
    let wide = c.count_len-width.ensures in
    let behind = take_rest bytes c.count_len-width.result ∙ ap (λ n. drop n bytes) wide in
    subst (λ n. BeginsWith (IsList (format_of c.args.version)) bytes (n + c.in_ok-len.len)) (sym wide)
    (list_done c.args.version bytes c.in_ok-count.count c.in_ok-count.ensures c.in_ok-len.len (subst (λ l. BeginsWith (IsEach c.in_ok-count.count) l c.in_ok-len.len) behind c.in_ok-len.ensures))
