use Rattle.std.proofs.Common.{length}
use Rattle.trace_check.proofs.Steps.{MigratedSoFar}
use Rattle.trace_check.proofs.migration.rewrite.Given as goal

abbrev pub invariant-loop-next : goal.invariant-loop-next
invariant-loop-next l = MigratedSoFar l.lines l.rest l.new l.line

abbrev pub decreases-loop-next : goal.decreases-loop-next
decreases-loop-next l = length l.rest
