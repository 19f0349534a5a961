use Rattle.marshal.proofs.Steps.{begins_address}
use Rattle.marshal.proofs.read.read_address.Goals as goal

pub returns : goal.returns
returns c = begins_address _ _ _ _ _ c.in_ok-processor.ensures c.in_ok-object.ensures c.in_ok-offset.ensures
