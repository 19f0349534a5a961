use Rattle.std.proofs.Common.{◌≤◌}
use Rattle.ccpp_edge.proofs.StreamLemmas.{Wrote}
use Rattle.ccpp_edge.proofs.real.write_whole.Given as goal

-- no count fell, and the bytes that are not left were appended
abbrev pub invariant-loop : goal.invariant-loop
invariant-loop g l = (l.initial.faults ≤ l.faults) × Wrote (g.W.Write.contents l.initial.writer) (g.W.Write.contents l.writer) l.bytes l.rest
