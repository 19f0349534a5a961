use Rattle.std.proofs.Common.{ap}
use Rattle.thread_table.proofs.TableLaws.{IsTable-set, kept_same, kept_inside, either}
use Rattle.thread_table.proofs.threads.Threads.push_frame.Goals as goal

pub invariant_of-self : goal.invariant_of-self
invariant_of-self c =
    let t = c.get_mut.result.now in
    let set = IsTable-set c.self.inside.numbered.threads c.self.invariant c.args.thread t c.push_frame.new.self c.get_mut.ensures.value in
    either c.push_frame.result c.push_frame.ensures.ok c.push_frame.ensures.err
    (λ ok. set (ap (λ v. v.parent) ok) (rw ok (kept_inside c.args.frame t)))
    (λ err. set (ap (λ v. v.parent) err) (kept_same t.frames c.push_frame.new.self.frames (ap (λ v. v.frames) err)))
