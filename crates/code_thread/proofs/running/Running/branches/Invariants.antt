use Rattle.std.proofs.Common.{◌≡◌, ◌++◌, drop}
use Rattle.cc_code.specs.Code.{branches_at}
use Rattle.code_thread.proofs.running.Running.branches.Given as goal

abbrev pub invariant-loop-target : goal.invariant-loop-target
invariant-loop-target l =
    l.branches.items ++ branches_at l.self.frame.this l.self.frame.vars (drop l.target-index l.targets)
    ≡ branches_at l.self.frame.this l.self.frame.vars l.targets
