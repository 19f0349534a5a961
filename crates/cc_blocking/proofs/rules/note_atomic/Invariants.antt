use Rattle.std.proofs.Common.{◌≡◌, ◌++◌, drop}
use Rattle.cc_blocking.specs.Rounds.{rules_from}
use Rattle.cc_blocking.proofs.rules.note_atomic.Given as goal

abbrev pub invariant-loop-conduct : goal.invariant-loop-conduct
invariant-loop-conduct l =
    l.broken ++ rules_from l.functions l.marks (drop l.conduct-index l.functions) ≡ l.fn.broken ++ rules_from l.functions l.marks l.functions
