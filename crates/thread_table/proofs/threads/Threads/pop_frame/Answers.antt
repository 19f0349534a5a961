use Rattle.std.proofs.Common.{ap, ◌∙◌}
use Rattle.thread_table.proofs.TableLaws.{IsTable-set, kept_outside, parent_outside}
use Rattle.thread_table.proofs.threads.Threads.pop_frame.Goals as goal

pub invariant_of-self : goal.invariant_of-self
invariant_of-self c =
    let t = c.get_mut.result.now in
    IsTable-set c.self.inside.numbered.threads c.self.invariant c.args.thread t c.pop_frame.new.self c.get_mut.ensures.value
    (ap (λ v. v.parent) c.pop_frame.ensures.thread ∙ parent_outside t)
    (rw c.pop_frame.ensures.thread (kept_outside t))
