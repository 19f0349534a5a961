use Rattle.std.proofs.Common.{◌≡◌, Some, None, ◌∙◌}
use Rattle.thread_table.specs.Table.{one_ended, without}
use Rattle.thread_table.proofs.EndLaws.{IsTable-without, CanEnd-without, IsTable-ended, told-is}
use Rattle.thread_table.proofs.RoomLaws.{HasRoom-without, HasRoom-changed}
use Rattle.thread_table.proofs.threads.Threads.finish.Goals as goal

-- ---- a thread without parent

pub invariant_of-self : goal.invariant_of-self
invariant_of-self c =
    let alone : c.remove.result.parent ≡ None = cc in
    rw c.remove.ensures.threads (IsTable-without c.self.inside.numbered.threads c.self.invariant c.args.thread c.remove.result c.remove.ensures.thread alone)

pub returns-in_err-branch-clause-room : goal.returns-in_err-branch-clause-room
returns-in_err-branch-clause-room c = λ ready more room.
    rw (c.remove.ensures.threads, c.self.view_is) (HasRoom-without c.args.self.now c.args.thread ready more room)

-- ---- a branch

pub end_branch-requires : goal.end_branch-requires
end_branch-requires c =
    let linked : c.remove.result.parent ≡ Some c.in_ok-branch.branch = cc in
    rw c.remove.ensures.threads
    (CanEnd-without c.self.inside.numbered.threads c.self.invariant c.args.thread c.remove.result c.remove.ensures.thread c.in_ok-branch.branch linked)

pub invariant_of-self-2 : goal.invariant_of-self-2
invariant_of-self-2 c =
    let linked : c.remove.result.parent ≡ Some c.in_ok-branch.branch = cc in
    rw (c.end_branch.ensures.threads, c.remove.ensures.threads)
    (IsTable-ended c.self.inside.numbered.threads c.self.invariant c.args.thread c.remove.result c.remove.ensures.thread c.in_ok-branch.branch linked)

pub returns-clause-woken : goal.returns-clause-woken
returns-clause-woken c =
    let linked : c.remove.result.parent ≡ Some c.in_ok-branch.branch = cc in
    c.end_branch.ensures.woken ∙ rw (← c.self.view_is, c.remove.ensures.threads)
    (told-is c.self.inside.numbered.threads c.self.invariant c.args.thread c.remove.result c.remove.ensures.thread c.in_ok-branch.branch linked)

pub returns-clause-room : goal.returns-clause-room
returns-clause-room c = λ ready more room.
    let branch = c.in_ok-branch.branch in
    rw (c.end_branch.ensures.threads, c.remove.ensures.threads, c.self.view_is)
    (HasRoom-changed (without c.args.self.now c.args.thread) branch.thread (one_ended branch) ready more (HasRoom-without c.args.self.now c.args.thread ready more room))
