use Rattle.std.proofs.Common.{sym, ◌∙◌}
use Rattle.effect_journal.proofs.WordLaws.{natural_not, natural_utf8, natural_parsed}
use Rattle.effect_journal.proofs.words.natural.Goals as goal

pub returns-then-not-is_natural : goal.returns-then-not-is_natural
returns-then-not-is_natural c = sym (natural_not c.args.word.now (sym c.is_natural.ensures ∙ c.if-not-is_natural.true))

-- digits are text
pub returns-in_default : goal.returns-in_default
returns-in_default c = absurd (c.in_default.ensures.cases.0 (natural_utf8 c.args.word.now (sym c.is_natural.ensures ∙ c.if-not-is_natural.false)))

pub returns : goal.returns
returns c =
    c.ok.ensures.value ∙ natural_parsed c.args.word.now c.parse.result (sym c.is_natural.ensures ∙ c.if-not-is_natural.false)
    (rw c.in-Ok.ensures.cases.0 at c.parse.ensures.value.0)
