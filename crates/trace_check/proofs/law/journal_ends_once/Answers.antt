use Rattle.trace_check.proofs.VerdictLaws.{journal_ends_once}
use Rattle.trace_check.proofs.law.journal_ends_once.Goals as goal

pub returns : goal.returns
returns c = journal_ends_once
