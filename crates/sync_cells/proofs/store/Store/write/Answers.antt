use Rattle.std.proofs.Common.{◌≡◌, set, ap, sym, ◌∙◌, arith, Some, None, refl}
use Rattle.std.proofs.lemmas.Option.{slice_get_read}
use Rattle.sync_cells.specs.Cells.{wrote, cell_at, after_write}
use Rattle.sync_cells.specs.Layout.{place_of, queue, shown}
use Rattle.sync_cells.proofs.ShownLaws.{place_within, cell_there, cell_nowhere, unchanged_nowhere, shown-write}
use Rattle.sync_cells.proofs.CellLaws.{full_stays}
use Rattle.sync_cells.proofs.store.Store.write.Goals as goal

pub returns-in_default-clause-answer : goal.returns-in_default-clause-answer
returns-in_default-clause-answer c =
    let nowhere : place_of c.self.inside.objects.items c.args.at ≡ None = cc (c.deref.ensures.value) in
    ap wrote (sym (cell_nowhere _ _ _ _ _ c.self.view_is nowhere))

pub returns-in_default-clause-store : goal.returns-in_default-clause-store
returns-in_default-clause-store c =
    let nowhere : place_of c.self.inside.objects.items c.args.at ≡ None = cc (c.deref.ensures.value) in
    unchanged_nowhere _ _ _ _ _ _ c.self.view_is nowhere

pub index_mut-cell-requires : goal.index_mut-cell-requires
index_mut-cell-requires c =
    let there : place_of c.self.inside.objects.items c.args.at ≡ Some c.in-Some.place = cc (c.deref.ensures.value) in
    let within = place_within _ _ c.args.at _ c.self.invariant.tiled there in
    omega arith

pub returns-clause-answer : goal.returns-clause-answer
returns-clause-answer c =
    let there : place_of c.self.inside.objects.items c.args.at ≡ Some c.in-Some.place = cc (c.deref.ensures.value) in
    c.assign.ensures.answer ∙ ap wrote (sym (cell_there _ _ _ _ _ _ _ c.self.view_is c.self.invariant.tiled there c.index_mut-cell.ensures.value))

pub returns-clause-store : goal.returns-clause-store
returns-clause-store c =
    let there : place_of c.self.inside.objects.items c.args.at ≡ Some c.in-Some.place = cc (c.deref.ensures.value) in
    let within = place_within _ _ c.args.at _ c.self.invariant.tiled there in
    let read = slice_get_read _ _ _ _ refl within c.index_mut-cell.ensures.value in
    ap (λ cell. shown (set c.self.inside.cells.items c.in-Some.place cell) c.self.inside.objects.items (queue c.self.inside.waiting)) c.assign.ensures.cell
    ∙ shown-write _ _ _ _ _ _ c.args.value c.self.invariant.tiled there read
    ∙ ap (λ s. after_write s c.args.at c.args.value) c.self.view_is

pub returns-clause-once : goal.returns-clause-once
returns-clause-once c = λ p v full.
    ap (λ s. cell_at s p) (returns-clause-store c) ∙ full_stays c.args.self.now c.args.at c.args.value p v full
