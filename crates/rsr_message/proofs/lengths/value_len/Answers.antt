use Rattle.std.proofs.Common.{◌∙◌, ap, Err}
use Rattle.rsr_message.proofs.LengthSteps.{value_bad}
use Rattle.rsr_message.proofs.lengths.value_len.Goals as goal

pub returns-in-Err-BadTag : goal.returns-in-Err-BadTag
returns-in-Err-BadTag c =
    let place = c.in-Err-BadTag.field-0-0 in
    let is = c.in-Err-BadTag.is ∙ ap Err c.in-Err-BadTag.field-0-is in
    value_bad _ c.args.at place (c.take_value.ensures.place place is, (c.take_value.ensures.bad_tag place).0 is)
