use Rattle.std.proofs.Common.{◌∙◌, sym, arith, below_more}
use Rattle.std.proofs.lemmas.List.{length-map}
use Rattle.std.proofs.lemmas.Bool.{false≢true}
use Rattle.cc_code.specs.Valid.{IsCircle}
use Rattle.stack_code.specs.View.{drafted, placed_of}
use Rattle.std.proofs.lemmas.Option.{slice_get_within}
use Rattle.cc_code.specs.Code.{JumpI}
use Rattle.stack_code.proofs.draft.Draft.first_circle.Goals as goal

pub loop-at-preserved : goal.loop-at-preserved
loop-at-preserved c =
    below_more (λ b. ¬ IsCircle (drafted c.args.self.now) b) c.loop-at.at c.loop-at.invariant
    (λ bad. false≢true (sym c.if-is_circle.false ∙ c.is_circle.ensures.1 bad))

pub returns : goal.returns
returns c =
    let d = c.args.self.now in
    λ b bad. c.loop-at.invariant b (omega (arith, slice_get_within (drafted d).places b (record { instr = JumpI bad.1; line = bad.0 }) bad.2, c.len-at-end.ensures, length-map d.places.items placed_of, d.places.ok.0)) bad
