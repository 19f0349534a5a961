use Rattle.atomic_objects.proofs.HeldLaws.{held-enter}
use Rattle.parts_bench.proofs.load.one_lock.Goals as goal

pub leave-requires : goal.leave-requires
leave-requires c = rw c.in_ok-enter.ensures.locks (held-enter c.loop.locks 0 0)
