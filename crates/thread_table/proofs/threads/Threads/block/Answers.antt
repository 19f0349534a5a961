use Rattle.std.proofs.Common.{ap}
use Rattle.thread_table.proofs.TableLaws.{IsTable-set, kept_same}
use Rattle.thread_table.proofs.threads.Threads.block.Goals as goal

pub invariant_of-self : goal.invariant_of-self
invariant_of-self c =
    let t = c.get_mut.result.now in
    IsTable-set c.self.inside.numbered.threads c.self.invariant c.args.thread t c.block.new.self c.get_mut.ensures.value
    (ap (λ v. v.parent) c.block.ensures)
    (kept_same t.frames c.block.new.self.frames (ap (λ v. v.frames) c.block.ensures))
