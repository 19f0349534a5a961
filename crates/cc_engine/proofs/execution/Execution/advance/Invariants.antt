use Rattle.std.proofs.Common.{◌≡◌}
use Rattle.cc_walk.specs.Views.{machine_of}
use Rattle.cc_engine.proofs.execution.Execution.advance.Given as goal

abbrev pub invariant-loop : goal.invariant-loop
invariant-loop l = machine_of l.self.walk ≡ machine_of l.fn.self.walk
