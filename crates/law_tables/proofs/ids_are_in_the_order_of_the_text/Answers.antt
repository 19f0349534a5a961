use Rattle.law_tables.proofs.IdLaws.{stands_between, own_signature}
use Rattle.law_tables.proofs.ids_are_in_the_order_of_the_text.Goals as goal

pub returns-clause-names : goal.returns-clause-names
returns-clause-names c = stands_between

pub returns-clause-signatures : goal.returns-clause-signatures
returns-clause-signatures c = own_signature
