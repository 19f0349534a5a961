use Rattle.std.proofs.Common.{ℤ, List}
use Rattle.cc_core.specs.Core.{Program}
use Rattle.cc_walk.specs.Views.{machine_of}
use Rattle.cc_engine.specs.Runs.{IsAfter, IsTypedRun}
use Rattle.cc_engine.proofs.execution.Execution.to_end.Given as goal

abbrev pub invariant-loop : goal.invariant-loop
invariant-loop l = (p : Program) (ns : List ℤ) → IsTypedRun p ns → IsAfter p ns 0 (machine_of l.fn.self.walk)
    → IsAfter p ns l.counter (machine_of l.self.walk)
