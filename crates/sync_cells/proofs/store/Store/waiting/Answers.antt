use Rattle.std.proofs.Common.{◌≡◌, ap, sym, ◌∙◌, length, Some, None}
use Rattle.sync_cells.specs.Layout.{place_of}
use Rattle.sync_cells.proofs.ShownLaws.{waiters_there, waiters_nowhere}
use Rattle.sync_cells.proofs.store.Store.waiting.Goals as goal

pub returns-in-Some : goal.returns-in-Some
returns-in-Some c =
    let there : place_of c.self.inside.objects.items c.args.at ≡ Some c.in-Some.place = cc (c.deref.ensures.value) in
    c.count.ensures ∙ ap length (sym (waiters_there _ _ _ _ _ _ c.self.view_is c.self.invariant.tiled there))

pub returns-in-None : goal.returns-in-None
returns-in-None c =
    let nowhere : place_of c.self.inside.objects.items c.args.at ≡ None = cc (c.deref.ensures.value) in
    ap length (sym (waiters_nowhere _ _ _ _ _ c.self.view_is nowhere))
