use Rattle.law_journals.proofs.Whole.{explained, reported}
use Rattle.law_journals.proofs.runs_explain_their_journals.Goals as goal

pub returns-clause-explained : goal.returns-clause-explained
returns-clause-explained c = explained

pub returns-clause-reported : goal.returns-clause-reported
returns-clause-reported c = reported
