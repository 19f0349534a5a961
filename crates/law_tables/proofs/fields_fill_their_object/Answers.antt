use Rattle.law_tables.proofs.FieldLaws.{fields_fill}
use Rattle.law_tables.proofs.fields_fill_their_object.Goals as goal

pub returns : goal.returns
returns c = fields_fill
