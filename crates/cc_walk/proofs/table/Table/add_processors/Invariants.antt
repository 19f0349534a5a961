use Rattle.std.proofs.Common.{◌≡◌, ◌-◌}
use Rattle.numbered_runs.specs.Steps.{more_tables}
use Rattle.cc_walk.proofs.table.Table.add_processors.Given as goal

abbrev pub invariant-loop : goal.invariant-loop
invariant-loop l = more_tables (l.count - l.counter) l.self ≡ more_tables l.count l.initial.self
