use Rattle.std.proofs.Common.{◌≡◌, ◌+◌, ◌++◌, take}
use Rattle.sync_cells.proofs.queues.move_all.Given as goal

abbrev pub invariant-loop-waiter : goal.invariant-loop-waiter
invariant-loop-waiter l = record {
  moved : l.ready.waiters ≡ l.initial.ready.waiters ++ take l.waiter-index l.queue;
  kept : l.ready.spare + l.waiter-index ≡ l.initial.ready.spare;
}
