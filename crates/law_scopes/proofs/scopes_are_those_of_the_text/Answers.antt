use Rattle.law_scopes.proofs.NearestLaws.{begins, declares}
use Rattle.law_scopes.proofs.StatementWalks.{statement_matches, body_matches}
use Rattle.law_scopes.proofs.scopes_are_those_of_the_text.Goals as goal

pub returns-clause-begins : goal.returns-clause-begins
returns-clause-begins c = begins

pub returns-clause-declares : goal.returns-clause-declares
returns-clause-declares c = declares

pub returns-clause-statement : goal.returns-clause-statement
returns-clause-statement c = statement_matches

pub returns-clause-body : goal.returns-clause-body
returns-clause-body c = body_matches
