use Rattle.std.proofs.Common.{◌+◌, ◌∙◌, sym}
use Rattle.std.proofs.lemmas.Bool.{false≢true}
use Rattle.stack_code.specs.View.{drafted}
use Rattle.stack_code.proofs.WalkLaws.{met_other, met_round}
use Rattle.stack_code.proofs.circles.walk.Goals as goal

pub returns-then-is_walked_in-clause-after : goal.returns-then-is_walked_in-clause-after
returns-then-is_walked_in-clause-after c =
    met_round (drafted c.args.draft.now) c.walk_on.new.walked.items c.args.rounds.now.items c.go_round.new.rounds.items (c.args.start + 1) c.in-Some.at
    (c.in-Some.ensures.met c.args.rounds.now.items c.requires.before) c.go_round.ensures.rounds c.go_round.ensures.stay c.go_round.ensures.found

pub returns-else-is_walked_in-clause-after : goal.returns-else-is_walked_in-clause-after
returns-else-is_walked_in-clause-after c =
    met_other (drafted c.args.draft.now) c.walk_on.new.walked.items c.args.rounds.now.items (c.args.start + 1) c.in-Some.at
    (c.in-Some.ensures.met c.args.rounds.now.items c.requires.before)
    (λ e. false≢true (sym c.if-is_walked_in.false ∙ c.is_walked_in.ensures.1 e))
