use Rattle.std.proofs.Common.{arith}
use Rattle.std.specs.FinMap.{get}
use Rattle.atomic_objects.specs.HeldObjects.{after_leave}
use Rattle.parts_bench.proofs.HeldObjects.{held_below, held_above}
use Rattle.parts_bench.proofs.load.locks.Goals as goal
use Rattle.parts_bench.proofs.load.locks.Goals.{then-is_none, else-is_none}

pub loop-object-preserved : goal.loop-object-preserved
loop-object-preserved c = λ o below.
    rw c.in_ok-enter.ensures.locks (held_below c.loop-object.locks c.loop-object.object 0 c.loop-object.invariant o below)

pub loop-object-2-preserved : goal.loop-object-2-preserved
loop-object-2-preserved c = record {
  counted = elim c.if-is_none.branch [
    | then-is_none w ↦ rw w.freed-is (omega (arith, c.loop-object-2.invariant.counted))
    | else-is_none w ↦ rw w.freed-is (omega (arith, c.loop-object-2.invariant.counted))
  ];
  held = λ o above below. rw c.leave.ensures.locks
      (held_above c.loop-object-2.locks c.loop-object-2.object (after_leave (get c.loop-object-2.locks c.loop-object-2.object)) c.args.count c.loop-object-2.invariant.held o above below);
}
