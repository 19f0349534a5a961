use Rattle.std.proofs.Common.{◌≡◌, ap, sym, ◌∙◌, arith, Some, None}
use Rattle.sync_cells.specs.Cells.{found}
use Rattle.sync_cells.specs.Layout.{place_of}
use Rattle.sync_cells.proofs.ShownLaws.{place_within, cell_there, cell_nowhere}
use Rattle.sync_cells.proofs.store.Store.read.Goals as goal

pub index-requires : goal.index-requires
index-requires c =
    let there : place_of c.self.inside.objects.items c.args.at ≡ Some c.in-Some.place = cc (c.deref.ensures.value) in
    let within = place_within _ _ c.args.at _ c.self.invariant.tiled there in
    omega arith

pub returns-in-Some : goal.returns-in-Some
returns-in-Some c =
    let there : place_of c.self.inside.objects.items c.args.at ≡ Some c.in-Some.place = cc (c.deref.ensures.value) in
    c.found_in.ensures ∙ ap found (sym (cell_there _ _ _ _ _ _ _ c.self.view_is c.self.invariant.tiled there c.index.ensures))

pub returns-in-None : goal.returns-in-None
returns-in-None c =
    let nowhere : place_of c.self.inside.objects.items c.args.at ≡ None = cc (c.deref.ensures.value) in
    ap found (sym (cell_nowhere _ _ _ _ _ c.self.view_is nowhere))
