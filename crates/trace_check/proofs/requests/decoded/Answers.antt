use Rattle.trace_check.proofs.Steps.{other_length, refused}
use Rattle.trace_check.proofs.requests.decoded.Goals as goal

pub returns-else-len-bytes : goal.returns-else-len-bytes
returns-else-len-bytes c = other_length c.args.bytes.now c.decode.result c.in-Ok.request c.in-Ok.len c.in-Ok.is c.if-len-bytes.false c.decode.ensures.message

pub returns-in_default : goal.returns-in_default
returns-in_default c = refused c.args.bytes.now c.decode.result c.in-Err.fault c.in-Err.is c.in_default.not-Memory c.decode.ensures.message
