use Rattle.std.specs.Prelude.{IsSome}
use Rattle.std.specs.FinMap.{get}
use Rattle.atomic_objects.proofs.HeldLaws.{held-enter, held-wait}
use Rattle.test_parts.proofs.locks.an_object_has_one_holder.Goals as goal

pub wait-requires : goal.wait-requires
wait-requires g c = rw c.in_ok-enter-2.ensures.locks (held-enter c.enter.new.self 7 1)

pub leave-requires : goal.leave-requires
leave-requires g c =
    let held : IsSome (get c.enter-2.new.self 7) = rw c.in_ok-enter-2.ensures.locks (held-enter c.enter.new.self 7 1) in
    rw c.in_ok-wait.ensures.ok (held-wait c.enter-2.new.self 7 1 held)

pub leave-requires-2 : goal.leave-requires-2
leave-requires-2 g c = rw c.in_ok-enter-4.ensures.locks (held-enter c.enter-3.new.self 7 1)
