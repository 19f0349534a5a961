use Rattle.std.proofs.lemmas.Result.{err_from_is_err_and}
use Rattle.rsr_message.proofs.DecodingLaws.{wants_list}
use Rattle.rsr_message.proofs.decoding.decode_front.Goals as goal

pub returns-in_err-request : goal.returns-in_err-request
returns-in_err-request c =
    let p = err_from_is_err_and c.from_residual-in_err-request.result c.from_residual-in_err-request.ensures.1 in
    rw (p.1, p.2) (wants_list c.in_ok-head.head.version c.in_ok-head.head.kind _ c.in_ok-head.len c.in_ok-head.ensures c.in_err-request.ensures.err)
