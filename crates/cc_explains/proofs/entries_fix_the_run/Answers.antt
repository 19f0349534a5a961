use Rattle.cc_explains.proofs.Reading.{explained_once, one_standing}
use Rattle.cc_explains.proofs.entries_fix_the_run.Goals as goal

pub returns-clause-run : goal.returns-clause-run
returns-clause-run c = explained_once

pub returns-clause-standing : goal.returns-clause-standing
returns-clause-standing c = one_standing
