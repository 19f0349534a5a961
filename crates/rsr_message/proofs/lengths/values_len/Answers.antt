use Rattle.std.proofs.Common.{◌+◌, drop, subst, arith}
use Rattle.std.proofs.lemmas.List.{take_rest}
use Rattle.std.proofs.lemmas.Result.{err_from_is_err_and}
use Rattle.marshal.specs.Spellings.{BeginsWith}
use Rattle.rsr_message.specs.declared.faults.MessageFault.TheVariants.{BadTag}
use Rattle.rsr_message.specs.Shapes.{IsGiven}
use Rattle.rsr_message.specs.Refusals.{IsRefused}
use Rattle.rsr_message.proofs.LengthSteps.{each_begun, each_more, each_done, each_stopped}
use Rattle.rsr_message.proofs.lengths.values_len.Goals as goal

pub loop-done-init : goal.loop-done-init
loop-done-init c = each_begun c.args.count c.args.bytes.now

pub loop-done-preserved : goal.loop-done-preserved
loop-done-preserved c =
    let bytes = c.args.bytes.now in
    let len = c.loop-done.len in
    let given : BeginsWith IsGiven (drop len bytes) c.in_ok-len.field-0 = subst (λ l. BeginsWith IsGiven l c.in_ok-len.field-0) (take_rest bytes len) c.in_ok-len.ensures.given in
    each_more c.args.count c.loop-done.done bytes len c.in_ok-len.field-0 c.loop-done-test.true c.loop-done.invariant given c.in_ok-len.ensures.short

pub returns-in_err-len : goal.returns-in_err-len
returns-in_err-len c =
    let bytes = c.args.bytes.now in
    let len = c.loop-done.len in
    let fault = c.in_err-len.field-0.0 in
    let p = err_from_is_err_and c.from_residual.result c.from_residual.ensures.1 in
    let refused : IsRefused IsGiven (λ k. BadTag (c.args.at + len + k)) (drop len bytes) fault = subst (λ l. IsRefused IsGiven (λ k. BadTag (c.args.at + len + k)) l fault) (take_rest bytes len) c.in_err-len.ensures.given in
    rw (p.1, p.2) (each_stopped c.args.count c.loop-done.done bytes len c.args.at c.loop-done-test.true c.loop-done.invariant fault refused)

pub returns : goal.returns
returns c = each_done c.args.count c.loop-done.done c.args.bytes.now c.loop-done.len (omega arith) c.loop-done.invariant
