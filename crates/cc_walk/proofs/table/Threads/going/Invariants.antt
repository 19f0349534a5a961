use Rattle.std.proofs.Common.{◌≡◌, ◌+◌, ◌≤◌, map, drop}
use Rattle.numbered_runs.specs.Machine.{going}
use Rattle.cc_walk.specs.Views.{progress_of}
use Rattle.cc_walk.proofs.table.Threads.going.Given as goal

abbrev pub invariant-loop-state : goal.invariant-loop-state
invariant-loop-state l =
    (l.going ≤ l.state-index) × (l.going + going (map progress_of (drop l.state-index l.state-items)) ≡ going (map progress_of l.state-items))
