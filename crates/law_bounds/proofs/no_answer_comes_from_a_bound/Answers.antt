use Rattle.law_bounds.proofs.BoundLaws.{expressions_same, own_the_same}
use Rattle.law_bounds.proofs.StatementBounds.{statements_the_same}
use Rattle.law_bounds.proofs.no_answer_comes_from_a_bound.Goals as goal

pub returns-clause-expressions : goal.returns-clause-expressions
returns-clause-expressions c = expressions_same

pub returns-clause-own : goal.returns-clause-own
returns-clause-own c = own_the_same

pub returns-clause-statements : goal.returns-clause-statements
returns-clause-statements c = statements_the_same
