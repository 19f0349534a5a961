use Rattle.std.proofs.Common.{ap}
use Rattle.thread_table.proofs.TableLaws.{IsTable-set, kept_same, either}
use Rattle.thread_table.proofs.threads.Threads.push_operand.Goals as goal

pub invariant_of-self : goal.invariant_of-self
invariant_of-self c =
    let t = c.get_mut.result.now in
    let set = IsTable-set c.self.inside.numbered.threads c.self.invariant c.args.thread t c.push_operand.new.self c.get_mut.ensures.value in
    either c.push_operand.result c.push_operand.ensures.ok c.push_operand.ensures.err
    (λ ok. set (ap (λ v. v.parent) ok) (kept_same t.frames c.push_operand.new.self.frames (ap (λ v. v.frames) ok)))
    (λ err. set (ap (λ v. v.parent) err) (kept_same t.frames c.push_operand.new.self.frames (ap (λ v. v.frames) err)))
