use Rattle.law_tables.proofs.LengthLaws.{length_in}
use Rattle.law_tables.proofs.lengths_are_in_range.Goals as goal

pub returns : goal.returns
returns c = length_in
