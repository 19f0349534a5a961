use Rattle.std.proofs.Common.{◌<◌, ◌∙◌, sym, arith, length, None}
use Rattle.std.proofs.lemmas.List.{get_or_read}
use Rattle.stack_code.specs.View.{drafted}
use Rattle.stack_code.specs.Spread.{spread_of}
use Rattle.stack_code.proofs.KnownLaws.{unsuited_some, unsuited_none}
use Rattle.stack_code.proofs.depths.Depths.is_unsuited.Goals as goal

pub returns-in-Some : goal.returns-in-Some
returns-in-Some c =
    let known = c.args.self.now.known.items in
    let lt : c.args.at < length known = omega (arith, c.requires.stands, c.requires.spread.size) in
    unsuited_some (drafted c.args.draft.now) (spread_of c.args.self.now) c.args.at c.in-Some.depth c.suits_at.result c.requires.spread c.requires.done c.requires.stands
    (sym (get_or_read known _ _ lt c.index.ensures None) ∙ c.in-Some.is) c.suits_at.ensures

pub returns-in-None : goal.returns-in-None
returns-in-None c =
    let known = c.args.self.now.known.items in
    let lt : c.args.at < length known = omega (arith, c.requires.stands, c.requires.spread.size) in
    unsuited_none (drafted c.args.draft.now) (spread_of c.args.self.now) c.args.at c.requires.spread c.requires.done c.requires.stands
    (sym (get_or_read known _ _ lt c.index.ensures None) ∙ c.in-None.is)
