use Rattle.law_names.proofs.InnermostLaws.{found_is_innermost, unknown_has_none, none_is_unknown, innermost_is_found}
use Rattle.law_names.proofs.variable_is_innermost.Goals as goal

pub returns-clause-found : goal.returns-clause-found
returns-clause-found c = found_is_innermost

pub returns-clause-innermost : goal.returns-clause-innermost
returns-clause-innermost c = innermost_is_found

pub returns-clause-unknown : goal.returns-clause-unknown
returns-clause-unknown c = unknown_has_none

pub returns-clause-none : goal.returns-clause-none
returns-clause-none c = none_is_unknown
