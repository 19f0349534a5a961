-- The first three bytes, one by one.
use Rattle.rsr_message.proofs.LengthSteps.{head_nothing, head_magic, head_only_magic, head_version, head_only_version, head_bad_kind}
use Rattle.rsr_message.proofs.lengths.head_of.Goals as goal

pub returns-in_default : goal.returns-in_default
returns-in_default c = head_nothing _ c.in_default.ensures.cases

pub returns-then-magic-ne-MAGIC : goal.returns-then-magic-ne-MAGIC
returns-then-magic-ne-MAGIC c = head_magic _ _ _ c.in-Some.ensures.cases.0 c.if-magic-ne-MAGIC.true

pub returns-in_default-split_first : goal.returns-in_default-split_first
returns-in_default-split_first c = head_only_magic _ _ _ c.in-Some.ensures.cases.0 c.if-magic-ne-MAGIC.false c.in_default-split_first.ensures.cases

pub returns-in_default-of_byte : goal.returns-in_default-of_byte
returns-in_default-of_byte c = head_version _ _ _ _ _ c.in-Some.ensures.cases.0 c.if-magic-ne-MAGIC.false c.in-Some-split_first.ensures.cases.0 c.in_default-of_byte.ensures

pub returns-in_default-split_first-2 : goal.returns-in_default-split_first-2
returns-in_default-split_first-2 c =
    head_only_version c.in-Some-of_byte.version _ _ _ _ _ c.in-Some.ensures.cases.0 c.if-magic-ne-MAGIC.false c.in-Some-split_first.ensures.cases.0 c.in-Some-of_byte.ensures c.in_default-split_first-2.ensures.cases

pub returns-in-None : goal.returns-in-None
returns-in-None c =
    head_bad_kind c.in-Some-of_byte.version _ _ _ _ _ _ _ c.in-Some.ensures.cases.0 c.if-magic-ne-MAGIC.false c.in-Some-split_first.ensures.cases.0 c.in-Some-of_byte.ensures c.in-Some-split_first-2.ensures.cases.0 c.in-None.ensures
