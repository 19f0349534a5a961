use Rattle.std.proofs.Common.{◌<◌, arith, length}
use Rattle.std.proofs.lemmas.List.{length-map}
use Rattle.std.proofs.lemmas.Result.{on_ok_weaker}
use Rattle.stack_code.specs.View.{drafted, placed_of}
use Rattle.stack_code.specs.Kept.{begins}
use Rattle.stack_code.specs.Spread.{spread_of}
use Rattle.stack_code.proofs.KeptLaws.{entry_read}
use Rattle.stack_code.proofs.SpreadLaws.{begun_to, begun_past}
use Rattle.stack_code.proofs.depths.Depths.begin_one.Goals as goal

pub returns-then-entry-len : goal.returns-then-entry-len
returns-then-entry-len c =
    let d = c.args.draft.now in
    let fs = d.functions.items in
    let stands : c.args.number < length fs = omega (arith, c.requires.stands, length-map fs begins) in
    begun_past (drafted d) (spread_of c.args.self.now) c.args.number c.index.result.now.entry c.requires.spread
    (entry_read fs c.args.number c.index.result.now stands c.index.ensures)
    (omega (arith, length-map d.places.items placed_of, d.places.ok.0))

pub returns : goal.returns
returns c =
    let d = c.args.draft.now in
    let fs = d.functions.items in
    let stands : c.args.number < length fs = omega (arith, c.requires.stands, length-map fs begins) in
    on_ok_weaker c.arrive.result
    (λ e. begun_to (drafted d) (spread_of c.args.self.now) (spread_of c.arrive.new.self) c.args.number c.index.result.now.entry c.requires.spread e
    (entry_read fs c.args.number c.index.result.now stands c.index.ensures) c.requires.stands
    (omega (arith, length-map d.places.items placed_of, d.places.ok.0)))
    c.arrive.ensures.spread
