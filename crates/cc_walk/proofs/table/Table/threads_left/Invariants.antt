use Rattle.std.proofs.Common.{◌≡◌, ◌+◌, ◌*◌, ◌≤◌, drop}
use Rattle.numbered_runs.specs.Machine.{all_going}
use Rattle.cc_walk.proofs.table.Table.threads_left.Given as goal

abbrev pub invariant-loop-threads : goal.invariant-loop-threads
invariant-loop-threads l =
    (l.left ≤ 4294967295 * l.threads-index) × (l.left + all_going (drop l.threads-index l.threads-items) ≡ all_going l.threads-items)
