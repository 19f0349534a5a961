use Rattle.std.proofs.Common.{◌∙◌, sym, arith, below_more}
use Rattle.std.proofs.lemmas.List.{length-map}
use Rattle.std.proofs.lemmas.Bool.{false≢true}
use Rattle.cc_code.specs.Valid.{IsBadDepth}
use Rattle.stack_code.specs.View.{drafted, placed_of}
use Rattle.stack_code.proofs.SpreadLaws.{bad_inside}
use Rattle.stack_code.proofs.depths.Depths.first_unsuited.Goals as goal

pub loop-at-preserved : goal.loop-at-preserved
loop-at-preserved c =
    below_more (λ b. ¬ IsBadDepth (drafted c.args.draft.now) b) c.loop-at.at c.loop-at.invariant
    (λ bad. false≢true (sym c.if-is_unsuited.false ∙ c.is_unsuited.ensures.1 bad))

pub returns : goal.returns
returns c =
    let d = c.args.draft.now in
    λ b bad. c.loop-at.invariant b (omega (arith, bad_inside (drafted d) b bad, c.len-at-end.ensures, length-map d.places.items placed_of, d.places.ok.0)) bad
