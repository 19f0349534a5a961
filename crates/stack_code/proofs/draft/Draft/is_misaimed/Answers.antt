use Rattle.std.proofs.Common.{◌<◌, arith, length}
use Rattle.std.proofs.lemmas.List.{length-map}
use Rattle.stack_code.specs.View.{drafted, placed_of}
use Rattle.stack_code.proofs.AimLaws.{misaimed_if}
use Rattle.stack_code.proofs.KeptLaws.{place_read}
use Rattle.stack_code.proofs.draft.Draft.is_misaimed.Goals as goal

pub returns : goal.returns
returns c =
    let d = c.args.self.now in
    let lt : c.args.at < length d.places.items = omega (arith, c.requires.stands, length-map d.places.items placed_of) in
    misaimed_if (drafted d) c.args.at (placed_of c.index.result.now) c.is_well_aimed.result
    (place_read d.places.items c.args.at c.index.result.now lt c.index.ensures) c.is_well_aimed.ensures
