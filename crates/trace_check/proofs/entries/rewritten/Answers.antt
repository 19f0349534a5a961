use Rattle.trace_check.proofs.Steps.{serve_rewritten, make_rewritten}
use Rattle.trace_check.proofs.entries.rewritten.Goals as goal

pub returns-in-Some : goal.returns-in-Some
returns-in-Some c =
    let same = rw c.in-Some.is at c.in_ok-request-in-Serve.ensures in
    serve_rewritten c.args.entry c.in-Serve.processor c.in-Serve.request c.as_slice.result.now c.in-Some.request c.in-Serve.is c.as_slice.ensures c.requires same

pub returns-in-Some-2 : goal.returns-in-Some-2
returns-in-Some-2 c =
    let same = rw c.in-Some-2.is at c.in_ok-request-in-Make.ensures in
    make_rewritten c.args.entry c.in-Make.request c.as_slice-in-Make.result.now c.in-Some-2.request c.in-Make.is c.as_slice-in-Make.ensures c.requires same
