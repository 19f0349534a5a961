-- What was read is the one answer.
use Rattle.std.proofs.Common.{subst}
use Rattle.marshal.specs.Values.{Reads}
use Rattle.marshal.proofs.ValueLaws.{reads_value, reads_short, reads_wrong}
use Rattle.marshal.proofs.read.take_value.Goals as goal

pub returns-clause-value : goal.returns-clause-value
returns-clause-value c = reads_value _ _ c.read_value.ensures

pub returns-clause-short : goal.returns-clause-short
returns-clause-short c = (λ is. subst (Reads c.args.bytes.now) is c.read_value.ensures, reads_short _ _ c.read_value.ensures)

pub returns-clause-bad_tag : goal.returns-clause-bad_tag
returns-clause-bad_tag c at = (λ is. (subst (Reads c.args.bytes.now) is c.read_value.ensures).1, reads_wrong _ _ c.read_value.ensures at)

pub returns-clause-place : goal.returns-clause-place
returns-clause-place c at is = (subst (Reads c.args.bytes.now) is c.read_value.ensures).0
