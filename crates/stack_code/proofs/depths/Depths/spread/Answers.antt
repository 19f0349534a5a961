use Rattle.std.proofs.Common.{length}
use Rattle.stack_code.specs.View.{drafted}
use Rattle.stack_code.specs.Spread.{spread_of}
use Rattle.stack_code.proofs.SpreadLaws.{pops_inside, pops_spread, pops_work}
use Rattle.stack_code.proofs.depths.Depths.spread.Goals as goal

pub hand_on-requires-clause-stands : goal.hand_on-requires-clause-stands
hand_on-requires-clause-stands c =
    let code = drafted c.args.draft.now in
    pops_inside code (spread_of c.loop-at.self) (length code.entries) c.pop.new.self.items c.in-Some.at c.loop-at.invariant c.in-Some.ensures.items

pub loop-at-smaller : goal.loop-at-smaller
loop-at-smaller c =
    let code = drafted c.args.draft.now in
    pops_work code (spread_of c.loop-at.self) (spread_of c.hand_on.new.self) (length code.entries) c.pop.new.self.items c.in-Some.at
    c.loop-at.invariant c.in-Some.ensures.items c.in_ok-hand_on.ensures.spread

pub loop-at-preserved : goal.loop-at-preserved
loop-at-preserved c =
    let code = drafted c.args.draft.now in
    pops_spread code (spread_of c.loop-at.self) (spread_of c.hand_on.new.self) (length code.entries) c.pop.new.self.items c.in-Some.at
    c.loop-at.invariant c.in-Some.ensures.items c.in_ok-hand_on.ensures.spread
