use Rattle.std.proofs.Common.{◌≡◌, [], ap, sym, ◌∙◌, arith, Some, None}
use Rattle.std.proofs.lemmas.List.{append-nil}
use Rattle.sync_cells.specs.Cells.{after_wake}
use Rattle.sync_cells.specs.Layout.{place_of}
use Rattle.sync_cells.proofs.ShownLaws.{waiters_there, waiters_nowhere, unchanged_nowhere, shown-requeue}
use Rattle.sync_cells.proofs.store.Store.wake.Goals as goal

pub returns-in_default-clause-store : goal.returns-in_default-clause-store
returns-in_default-clause-store c =
    let nowhere : place_of c.self.inside.objects.items c.args.at ≡ None = cc (c.deref.ensures.value) in
    unchanged_nowhere _ _ _ _ _ _ c.self.view_is nowhere

pub returns-in_default-clause-waiters : goal.returns-in_default-clause-waiters
returns-in_default-clause-waiters c =
    let nowhere : place_of c.self.inside.objects.items c.args.at ≡ None = cc (c.deref.ensures.value) in
    let none = waiters_nowhere _ _ _ _ _ c.self.view_is nowhere in
    rw none (sym (append-nil _))

pub returns-in_default-clause-spare : goal.returns-in_default-clause-spare
returns-in_default-clause-spare c =
    let nowhere : place_of c.self.inside.objects.items c.args.at ≡ None = cc (c.deref.ensures.value) in
    let none = waiters_nowhere _ _ _ _ _ c.self.view_is nowhere in
    rw none (omega arith)

pub wake-requires : goal.wake-requires
wake-requires c =
    let there : place_of c.self.inside.objects.items c.args.at ≡ Some c.in-Some.place = cc (c.deref.ensures.value) in
    let waiting = waiters_there _ _ _ _ _ _ c.self.view_is c.self.invariant.tiled there in
    rw (← waiting) c.requires

pub returns-clause-store : goal.returns-clause-store
returns-clause-store c =
    let there : place_of c.self.inside.objects.items c.args.at ≡ Some c.in-Some.place = cc (c.deref.ensures.value) in
    shown-requeue _ _ _ _ _ _ (λ _. []) c.self.invariant.tiled there c.wake.ensures.queues.here c.wake.ensures.queues.there
    ∙ ap (λ s. after_wake s c.args.at) c.self.view_is

pub returns-clause-waiters : goal.returns-clause-waiters
returns-clause-waiters c =
    let there : place_of c.self.inside.objects.items c.args.at ≡ Some c.in-Some.place = cc (c.deref.ensures.value) in
    let waiting = waiters_there _ _ _ _ _ _ c.self.view_is c.self.invariant.tiled there in
    rw waiting c.wake.ensures.waiters

pub returns-clause-spare : goal.returns-clause-spare
returns-clause-spare c =
    let there : place_of c.self.inside.objects.items c.args.at ≡ Some c.in-Some.place = cc (c.deref.ensures.value) in
    let waiting = waiters_there _ _ _ _ _ _ c.self.view_is c.self.invariant.tiled there in
    rw waiting c.wake.ensures.spare
