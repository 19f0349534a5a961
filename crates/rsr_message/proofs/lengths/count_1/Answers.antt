use Rattle.std.proofs.Common.{arith}
use Rattle.marshal.proofs.NumberLaws.{reads_back_8}
use Rattle.rsr_message.specs.Requests.{version_1}
use Rattle.rsr_message.proofs.LengthSteps.{no_count, count_1_great, count_1_done}
use Rattle.rsr_message.proofs.lengths.count_1.Goals as goal

pub returns-in_default : goal.returns-in_default
returns-in_default c = no_count version_1 reads_back_8 (omega arith) _ c.in_default.ensures.cases

pub returns-then-count-gt-MOST_VALUES_1 : goal.returns-then-count-gt-MOST_VALUES_1
returns-then-count-gt-MOST_VALUES_1 c = count_1_great _ _ _ c.args.at c.in-Some.ensures.cases.0 c.if-count-gt-MOST_VALUES_1.true

pub returns : goal.returns
returns c = count_1_done _ _ _ c.in-Some.ensures.cases.0 c.if-count-gt-MOST_VALUES_1.false
