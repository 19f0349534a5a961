use Rattle.trace_check.proofs.VerdictLaws.{one_verdict}
use Rattle.trace_check.proofs.law.one_verdict.Goals as goal

pub returns : goal.returns
returns c = one_verdict
