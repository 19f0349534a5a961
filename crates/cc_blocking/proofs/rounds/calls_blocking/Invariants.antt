use Rattle.std.proofs.Common.{◌≡◌, drop}
use Rattle.cc_blocking.specs.Rounds.{calls_blocking}
use Rattle.cc_blocking.proofs.rounds.calls_blocking.Given as goal

abbrev pub invariant-loop-call : goal.invariant-loop-call
invariant-loop-call l = calls_blocking l.functions l.marks (drop l.call-index l.calls) ≡ calls_blocking l.functions l.marks l.calls
