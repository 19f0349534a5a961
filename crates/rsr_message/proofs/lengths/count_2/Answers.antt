-- The high byte, and then the low one.
use Rattle.std.proofs.Common.{arith}
use Rattle.marshal.proofs.NumberLaws.{reads_back_16}
use Rattle.marshal.proofs.Steps.{IsBytes-of}
use Rattle.rsr_message.specs.Requests.{version_2}
use Rattle.rsr_message.proofs.LengthSteps.{no_count, count_2_high, count_2_only, count_2_low, count_2_done}
use Rattle.rsr_message.proofs.lengths.count_2.Goals as goal

pub returns-in_default : goal.returns-in_default
returns-in_default c = no_count version_2 reads_back_16 (omega arith) _ c.in_default.ensures.cases

pub returns-then-least-gt-MOST_VALUES_2 : goal.returns-then-least-gt-MOST_VALUES_2
returns-then-least-gt-MOST_VALUES_2 c = count_2_high _ _ _ c.args.at (IsBytes-of _ c.type_inv.bytes) c.in-Some.ensures.cases.0 c.if-least-gt-MOST_VALUES_2.true

pub returns-in_default-split_first : goal.returns-in_default-split_first
returns-in_default-split_first c =
    count_2_only _ _ _ (IsBytes-of _ c.type_inv.bytes) c.in-Some.ensures.cases.0 c.in_default-split_first.ensures.cases c.if-least-gt-MOST_VALUES_2.false

pub returns-then-count-gt-MOST_VALUES_2 : goal.returns-then-count-gt-MOST_VALUES_2
returns-then-count-gt-MOST_VALUES_2 c =
    count_2_low _ _ _ _ _ c.args.at (IsBytes-of _ c.type_inv.bytes) c.in-Some.ensures.cases.0 c.in-Some-split_first.ensures.cases.0 c.if-least-gt-MOST_VALUES_2.false c.if-count-gt-MOST_VALUES_2.true

pub returns : goal.returns
returns c = count_2_done _ _ _ _ _ (IsBytes-of _ c.type_inv.bytes) c.in-Some.ensures.cases.0 c.in-Some-split_first.ensures.cases.0 c.if-count-gt-MOST_VALUES_2.false
