use Rattle.std.proofs.Common.{◌≡◌, ◌∙◌, ◌+◌, ◌<◌, ◌++◌, ◌∷◌, [], length, ap, IsSome, arith}
use Rattle.global_ptr.specs.declared.values.Waiter.TheVariants.{Thread}
use Rattle.global_ptr.specs.ReadyList.{ReadyList}
use Rattle.thread_table.specs.declared.frame.TheConstants.{MOST_THREADS}
use Rattle.thread_table.specs.LiveThread.{new_thread}
use Rattle.thread_table.specs.Table.{level_at, parent_of}
use Rattle.thread_table.proofs.TableLaws.{room_for_branch}
use Rattle.thread_table.proofs.MadeLaws.{IsTable-made}
use Rattle.thread_table.proofs.RoomLaws.{HasRoom-spawned, length-forked}
use Rattle.thread_table.proofs.threads.Threads.spawn.Goals as goal

pub fork-requires-clause-live : goal.fork-requires-clause-live
fork-requires-clause-live c = λ p is.
    let has : IsSome (level_at c.self.inside.numbered.threads p) = rw c.self.view_is (c.requires p is) in
    rw c.reserve.ensures.threads (room_for_branch c.self.inside.numbered.threads c.self.invariant p has)

pub invariant_of-self-2 : goal.invariant_of-self-2
invariant_of-self-2 c =
    let table = c.self.inside.numbered.threads in
    let few : length table < MOST_THREADS = omega (arith, c.self.invariant.few, c.made-made.ensures) in
    let made : c.in_ok-thread.thread ≡ new_thread c.args.frame c.args.args (parent_of table c.args.parent) c.args.asker =
    c.in_ok-thread.ensures ∙ ap (λ link. new_thread c.args.frame c.args.args link c.args.asker) c.parent_frame-branch_of.ensures in
    rw (c.insert-number.ensures.threads, c.fork.ensures.threads, c.reserve.ensures.threads, made)
    (IsTable-made table c.self.invariant few c.args.frame c.args.args c.args.parent c.args.asker (λ p is. rw c.self.view_is (c.requires p is)))

pub returns-clause-room : goal.returns-clause-room
returns-clause-room c = λ more room.
    let table = c.self.inside.numbered.threads in
    let made : c.in_ok-thread.thread ≡ new_thread c.args.frame c.args.args (parent_of table c.args.parent) c.args.asker =
    c.in_ok-thread.ensures ∙ ap (λ link. new_thread c.args.frame c.args.args link c.args.asker) c.parent_frame-branch_of.ensures in
    let number : c.insert-number.result ≡ length c.args.self.now =
    c.insert-number.ensures.number ∙ ap length c.fork.ensures.threads ∙ length-forked c.reserve.new.self.threads c.args.parent ∙ ap length c.reserve.ensures.threads ∙ ap length c.self.view_is in
    let kept : c.keep_place.new.ready ≡ record c.args.ready.now { spare = c.args.ready.now.spare + 1 } = c.in_ok-keep_place.ensures.ok in
    let waiters : c.push.new.self.waiters ≡ c.args.ready.now.waiters ++ Thread (length c.args.self.now) ∷ [] =
    c.push.ensures.waiters ∙ ap (λ (r : ReadyList). r.waiters ++ Thread c.insert-number.result ∷ []) kept ∙ ap (λ n. c.args.ready.now.waiters ++ Thread n ∷ []) number in
    let spare : c.push.new.self.spare ≡ c.args.ready.now.spare = omega (arith, c.push.ensures.spare, ap (λ (r : ReadyList). r.spare) kept) in
    rw (c.insert-number.ensures.threads, c.fork.ensures.threads, c.reserve.ensures.threads, made, c.self.view_is)
    (HasRoom-spawned c.args.self.now c.args.frame c.args.args c.args.parent c.args.asker c.args.ready.now c.push.new.self waiters spare more room)
