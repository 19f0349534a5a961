use Rattle.std.proofs.Common.{◌≤◌}
use Rattle.std.specs.Io.KnownBytes.{Consumes}
use Rattle.ccpp_edge.proofs.real.read_whole.Given as goal

-- no count fell, and the bytes so far are those that were consumed
abbrev pub invariant-loop : goal.invariant-loop
invariant-loop g l = (l.initial.faults ≤ l.faults) × Consumes (g.F.Read.remaining l.initial.reader) (g.F.Read.remaining l.reader) l.bytes
