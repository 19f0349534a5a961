use Rattle.std.proofs.Common.{refl, ap, ◌∙◌}
use Rattle.thread_table.specs.LiveThread.{at_code}
use Rattle.thread_table.proofs.TableLaws.{IsTable-set, kept_innermost, parent_innermost}
use Rattle.thread_table.proofs.threads.Threads.go.Goals as goal

pub invariant_of-self : goal.invariant_of-self
invariant_of-self c =
    let t = c.get_mut.result.now in
    IsTable-set c.self.inside.numbered.threads c.self.invariant c.args.thread t c.go.new.self c.get_mut.ensures.value
    (ap (λ v. v.parent) c.go.ensures ∙ parent_innermost (at_code c.args.code) t)
    (rw c.go.ensures (kept_innermost (at_code c.args.code) t (λ l. refl) (λ l. refl)))
