use Rattle.std.proofs.Common.{ap}
use Rattle.closed_streams.proofs.Closed.{calls}
use Rattle.closed_streams.proofs.closed_for_ever.Goals as goal

pub returns : goal.returns
returns c old closed new piece before between after at fault answers f all =
    calls closed new between after at fault answers (ap (λ s. s.closed) f.closed) all
