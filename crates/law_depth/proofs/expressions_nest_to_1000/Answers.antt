use Rattle.law_depth.proofs.SpelledLaws.{expr_nests, place_nests, call_nests, sum_nests}
use Rattle.law_depth.proofs.expressions_nest_to_1000.Goals as goal

pub returns-clause-expressions : goal.returns-clause-expressions
returns-clause-expressions c = expr_nests

pub returns-clause-places : goal.returns-clause-places
returns-clause-places c = place_nests

pub returns-clause-calls : goal.returns-clause-calls
returns-clause-calls c = call_nests

pub returns-clause-printed : goal.returns-clause-printed
returns-clause-printed c = sum_nests
