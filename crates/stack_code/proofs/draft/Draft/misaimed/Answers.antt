use Rattle.std.proofs.Common.{◌∙◌, sym, arith, below_more}
use Rattle.std.proofs.lemmas.List.{length-map}
use Rattle.std.proofs.lemmas.Bool.{false≢true}
use Rattle.cc_code.specs.Valid.{IsMisaimed}
use Rattle.stack_code.specs.View.{drafted, placed_of}
use Rattle.std.proofs.lemmas.Option.{slice_get_within}
use Rattle.stack_code.proofs.draft.Draft.misaimed.Goals as goal

pub loop-at-preserved : goal.loop-at-preserved
loop-at-preserved c =
    below_more (λ b. ¬ IsMisaimed (drafted c.args.self.now) b) c.loop-at.at c.loop-at.invariant
    (λ bad. false≢true (sym c.if-is_misaimed.false ∙ c.is_misaimed.ensures.1 bad))

pub returns : goal.returns
returns c =
    let d = c.args.self.now in
    λ b bad. c.loop-at.invariant b (omega (arith, slice_get_within (drafted d).places b bad.0 bad.1, c.len-at-end.ensures, length-map d.places.items placed_of, d.places.ok.0)) bad
