use Rattle.std.proofs.Common.{◌≡◌, false, replicate}
use Rattle.cc_blocking.proofs.rounds.none_marked.Given as goal

abbrev pub invariant-loop : goal.invariant-loop
invariant-loop l = l.marks ≡ replicate l.counter false
