use Rattle.std.proofs.Common.{◌∙◌, sym}
use Rattle.std.proofs.lemmas.Bool.{false≢true}
use Rattle.stack_code.specs.View.{drafted}
use Rattle.stack_code.proofs.CircleLaws.{unmarked_set, round_goes_on, round_closes, mark_stays}
use Rattle.stack_code.proofs.circles.go_round.Goals as goal

pub round-smaller : goal.round-smaller
round-smaller c =
    let new = c.is_unmarked.ensures.0 c.round-test.true in unmarked_set c.round.rounds.items c.round.at new.0 new.1

pub round-preserved : goal.round-preserved
round-preserved c =
    let new = c.is_unmarked.ensures.0 c.round-test.true in
    record {
      rounding = round_goes_on (drafted c.args.draft.now) c.round.rounds.items c.args.from c.round.at c.in-Some.next c.round.invariant.rounding new.0 (sym c.in-Some.ensures);
      stay = λ b r. mark_stays c.round.rounds.items c.round.at b new.0 (c.round.invariant.stay b r);
    }

pub returns-clause-rounds : goal.returns-clause-rounds
returns-clause-rounds c =
    (round_closes (drafted c.args.draft.now) c.round.rounds.items c.args.from c.round.at c.round.invariant.rounding
    (λ p. false≢true (sym c.round-test.false ∙ c.is_unmarked.ensures.1 p))).0

pub returns-clause-found : goal.returns-clause-found
returns-clause-found c =
    (round_closes (drafted c.args.draft.now) c.round.rounds.items c.args.from c.round.at c.round.invariant.rounding
    (λ p. false≢true (sym c.round-test.false ∙ c.is_unmarked.ensures.1 p))).1
