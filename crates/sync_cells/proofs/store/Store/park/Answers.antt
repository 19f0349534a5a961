use Rattle.std.proofs.Common.{◌≡◌, ◌<◌, ◌++◌, ◌^◌, [], ◌∷◌, ap, ◌∙◌, arith, length, Some, None}
use Rattle.std.proofs.lemmas.List.{length_push}
use Rattle.sync_cells.specs.Cells.{after_park}
use Rattle.sync_cells.specs.Layout.{place_of, queue}
use Rattle.sync_cells.proofs.ShownLaws.{place_within, cell_nowhere, shown-requeue, laid_out-requeue}
use Rattle.sync_cells.proofs.store.Store.park.Goals as goal

pub unreachable-requires : goal.unreachable-requires
unreachable-requires c =
    let nowhere : place_of c.self.inside.objects.items c.args.at ≡ None = cc (c.deref.ensures.value) in
    let none = cell_nowhere _ _ _ _ _ c.self.view_is nowhere in cc

pub invariant_of-self-2 : goal.invariant_of-self-2
invariant_of-self-2 c =
    let there : place_of c.self.inside.objects.items c.args.at ≡ Some c.in-Some.place = cc (c.deref.ensures.value) in
    let few : length (queue c.add.new.queues c.in-Some.place) < 2 ^ 32
    = rw c.in_ok-add.ensures.ok.here (omega (arith, length_push (queue c.self.inside.waiting c.in-Some.place) c.args.waiter, c.in_ok-add.ensures.few)) in
    laid_out-requeue _ _ _ c.in-Some.place _ c.self.invariant (place_within _ _ c.args.at _ c.self.invariant.tiled there) few c.in_ok-add.ensures.ok.there

pub returns-clause-ok : goal.returns-clause-ok
returns-clause-ok c =
    let there : place_of c.self.inside.objects.items c.args.at ≡ Some c.in-Some.place = cc (c.deref.ensures.value) in
    shown-requeue _ _ _ _ _ _ (λ ws. ws ++ c.args.waiter ∷ []) c.self.invariant.tiled there c.in_ok-add.ensures.ok.here c.in_ok-add.ensures.ok.there
    ∙ ap (λ s. after_park s c.args.at c.args.waiter) c.self.view_is
