use Rattle.marshal.proofs.Steps.{IsBytes-of, takes_32}
use Rattle.marshal.proofs.numbers.take_u32.Goals as goal

pub returns : goal.returns
returns c =
    let split = c.in_ok-number.ensures.cases in
    takes_32 _ _ _ _ (IsBytes-of _ c.type_inv.bytes) split.0 split.1 split.2 c.from_be_bytes.ensures
