use Rattle.std.proofs.Common.{[], refl}
use Rattle.rsr_message.proofs.RequestLaws.{one_request}
use Rattle.rsr_message.proofs.laws.one_request.Goals as goal

pub returns : goal.returns
returns c version second request other bytes a b =
    let one = one_request request other bytes bytes [] [] (record { version = version; spelled = a }) (record { version = second; spelled = b }) refl in
    (one.2, one.0)
