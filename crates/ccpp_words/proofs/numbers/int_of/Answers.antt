use Rattle.std.proofs.Common.{sym, ◌∙◌}
use Rattle.std.proofs.lemmas.Int.{to_z-of_z}
use Rattle.std.specs.Int.{w64}
use Rattle.ccpp_words.proofs.NumberLaws.{no_int, other_int}
use Rattle.ccpp_words.proofs.numbers.int_of.Goals as goal

pub returns-in_default : goal.returns-in_default
returns-in_default c = no_int c.args.word.now c.parse.result c.parse.ensures.value.0 c.in_default.not-Ok

pub returns : goal.returns
returns c = other_int c.args.word.now c.as_str.result.now c.parse.result c.in-Ok.n _ c.parse.ensures.value.0 c.in-Ok.is (c.as_str.ensures.value ∙ c.in_ok-spelled.ensures.ok) (λ fits. to_z-of_z w64 c.in-Ok.n fits) (sym c.eq.ensures ∙ c.if-eq.false)
