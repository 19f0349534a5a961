use Rattle.std.proofs.Common.{arith}
use Rattle.std.proofs.lemmas.List.{length-map}
use Rattle.stack_code.specs.View.{drafted, placed_of}
use Rattle.stack_code.proofs.CircleLaws.{all_end}
use Rattle.stack_code.proofs.circles.rounds_of.Goals as goal

pub returns-clause-all : goal.returns-clause-all
returns-clause-all c =
    let d = c.args.draft.now in
    all_end (drafted d) c.loop-start.walked.items c.loop-start.rounds.items c.loop-start.start c.loop-start.start c.loop-start.invariant.walked c.loop-start.invariant.seen
    (omega (arith, c.len-places.ensures, length-map d.places.items placed_of, d.places.ok.0))
