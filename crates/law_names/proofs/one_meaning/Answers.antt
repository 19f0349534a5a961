use Rattle.law_names.proofs.MeaningLaws.{meant_means, one_meant}
use Rattle.law_names.proofs.one_meaning.Goals as goal

pub returns-clause-meant : goal.returns-clause-meant
returns-clause-meant c = meant_means

pub returns-clause-one : goal.returns-clause-one
returns-clause-one c = one_meant
