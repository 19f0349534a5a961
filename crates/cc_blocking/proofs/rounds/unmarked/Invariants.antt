use Rattle.std.proofs.Common.{◌≡◌, ◌+◌, ◌≤◌, drop}
use Rattle.cc_blocking.specs.Rounds.{unmarked}
use Rattle.cc_blocking.proofs.rounds.unmarked.Given as goal

abbrev pub invariant-loop-mark : goal.invariant-loop-mark
invariant-loop-mark l = record {
  counted : l.count + unmarked (drop l.mark-index l.marks) ≡ unmarked l.marks;
  bounded : l.count ≤ l.mark-index;
}
