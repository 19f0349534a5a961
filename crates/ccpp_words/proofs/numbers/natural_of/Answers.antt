use Rattle.std.proofs.Common.{sym, ◌∙◌}
use Rattle.ccpp_words.proofs.NumberLaws.{no_natural, other_natural}
use Rattle.ccpp_words.proofs.numbers.natural_of.Goals as goal

pub returns-in_default : goal.returns-in_default
returns-in_default c = no_natural c.args.word.now c.parse.result c.parse.ensures.value.0 c.in_default.not-Ok

pub returns : goal.returns
returns c = other_natural c.args.word.now c.as_str.result.now c.parse.result c.in-Ok.n c.parse.ensures.value.0 c.in-Ok.is (c.as_str.ensures.value ∙ c.in_ok-spelled.ensures.ok) (sym c.eq.ensures ∙ c.if-eq.false)
