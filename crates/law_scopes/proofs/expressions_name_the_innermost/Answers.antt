use Rattle.law_scopes.proofs.ResolvedLaws.{expression_names, expression_scope, expression_made}
use Rattle.law_scopes.proofs.expressions_name_the_innermost.Goals as goal

pub returns-clause-names : goal.returns-clause-names
returns-clause-names c = expression_names

pub returns-clause-scope : goal.returns-clause-scope
returns-clause-scope c = expression_scope

pub returns-clause-made : goal.returns-clause-made
returns-clause-made c = expression_made
