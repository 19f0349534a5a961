use Rattle.std.proofs.Common.{◌≡◌, ◌∙◌, Some, refl, sym, ap}
use Rattle.std.specs.List.{slice_get}
use Rattle.global_ptr.specs.declared.values.Waiter.TheVariants.{Thread, Asked}
use Rattle.thread_table.specs.LiveThread.{picked}
use Rattle.thread_table.proofs.TableLaws.{IsTable-changed, kept_same}
use Rattle.thread_table.proofs.RoomLaws.{HasRoom-picked}
use Rattle.thread_table.proofs.threads.Threads.pick.Goals as goal

pub invariant_of-self : goal.invariant_of-self
invariant_of-self c =
    rw c.unblock.ensures
    (IsTable-changed c.self.inside.numbered.threads c.self.invariant c.in-Thread.thread picked (λ t. refl) (λ t. kept_same t.frames t.frames refl))

pub returns-in-Thread-clause-room : goal.returns-in-Thread-clause-room
returns-in-Thread-clause-room c = λ more room.
    let at : slice_get c.args.ready.now.waiters c.args.place ≡ Some (Thread c.in-Thread.thread) = sym c.in_ok-waiter.ensures.taken ∙ ap Some c.in-Thread.is in
    rw (c.unblock.ensures, c.self.view_is)
    (HasRoom-picked c.args.self.now c.args.ready.now c.take.new.self c.args.place (Thread c.in-Thread.thread) at c.in_ok-waiter.ensures.rest more room)

pub returns-in_default-clause-room : goal.returns-in_default-clause-room
returns-in_default-clause-room c = λ more room.
    let w = Asked c.in_default.field-0 c.in_default.field-1 c.in_default.field-2 in
    let at : slice_get c.args.ready.now.waiters c.args.place ≡ Some w = sym c.in_ok-waiter.ensures.taken ∙ ap Some c.in_default.is in
    HasRoom-picked c.args.self.now c.args.ready.now c.take.new.self c.args.place w at c.in_ok-waiter.ensures.rest more room
