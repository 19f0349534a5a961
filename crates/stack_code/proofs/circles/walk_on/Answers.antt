use Rattle.std.proofs.Common.{◌+◌, arith, sym, inr}
use Rattle.stack_code.specs.View.{drafted}
use Rattle.stack_code.proofs.CircleLaws.{unwalked_set, walk_goes, walk_stops, begun_set, stay_set}
use Rattle.stack_code.proofs.circles.walk_on.Goals as goal

pub walk-smaller : goal.walk-smaller
walk-smaller c =
    let new = c.is_new.ensures.0 c.walk-test.true in
    unwalked_set c.walk.walked.items c.walk.at (c.args.walks + 1) new.0 new.1 (omega arith)

pub walk-preserved : goal.walk-preserved
walk-preserved c =
    let new = c.is_new.ensures.0 c.walk-test.true in
    let ws = c.walk.walked.items in
    record {
      on = λ rounds w. walk_goes (drafted c.args.draft.now) ws rounds (c.args.walks + 1) c.walk.at c.in-Some.next (c.walk.invariant.on rounds w) new.0 new.1 (omega arith) (sym c.in-Some.ensures);
      begun = inr (begun_set ws c.walk.at c.args.walks c.args.start new.0 c.walk.invariant.begun);
      stay = λ b s. stay_set ws c.walk.at c.args.walks b new.0 (c.walk.invariant.stay b s);
    }

pub returns-in-None-clause-stopped : goal.returns-in-None-clause-stopped
returns-in-None-clause-stopped c =
    let new = c.is_new.ensures.0 c.walk-test.true in
    λ rounds w. walk_stops (drafted c.args.draft.now) c.walk.walked.items rounds (c.args.walks + 1) c.walk.at (c.walk.invariant.on rounds w) new.0 new.1 (omega arith) (sym c.in-None.ensures)
