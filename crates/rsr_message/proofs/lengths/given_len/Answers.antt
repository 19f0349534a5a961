use Rattle.std.proofs.Common.{◌∙◌, ap, Err}
use Rattle.rsr_message.proofs.LengthSteps.{given_void, given_bad, given_done, value_short}
use Rattle.rsr_message.proofs.RefusalLaws.{given_partial}
use Rattle.rsr_message.proofs.lengths.given_len.Goals as goal

pub returns-in-Void-clause-given : goal.returns-in-Void-clause-given
returns-in-Void-clause-given c = given_void _ c.in-Ok.len c.args.at c.in-Ok.value c.in-Void.is c.in-Ok.ensures.found

pub returns-in_default : goal.returns-in_default
returns-in_default c = record {
  given = given_done _ c.in-Ok.len c.in-Ok.value c.in_default.not-Void c.in-Ok.ensures.found;
  short = value_short _ c.in-Ok.len c.in-Ok.value c.in-Ok.ensures.found;
}

pub returns-in-Err-Short-clause-given : goal.returns-in-Err-Short-clause-given
returns-in-Err-Short-clause-given c = given_partial _ (c.take_value.ensures.short.0 (c.in-Err-Short.is ∙ ap Err c.in-Err-Short.field-0-is))

pub returns-in-Err-BadTag-clause-given : goal.returns-in-Err-BadTag-clause-given
returns-in-Err-BadTag-clause-given c =
    let place = c.in-Err-BadTag.field-0-0 in
    let is = c.in-Err-BadTag.is ∙ ap Err c.in-Err-BadTag.field-0-is in
    given_bad _ c.args.at place (c.take_value.ensures.place place is, (c.take_value.ensures.bad_tag place).0 is)
