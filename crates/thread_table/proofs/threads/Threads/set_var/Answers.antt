use Rattle.std.proofs.Common.{refl, ap, ◌∙◌}
use Rattle.thread_table.specs.LiveThread.{with_var}
use Rattle.thread_table.proofs.TableLaws.{IsTable-set, kept_innermost, parent_innermost}
use Rattle.thread_table.proofs.threads.Threads.set_var.Goals as goal

pub invariant_of-self : goal.invariant_of-self
invariant_of-self c =
    let t = c.get_mut.result.now in
    IsTable-set c.self.inside.numbered.threads c.self.invariant c.args.thread t c.set_var.new.self c.get_mut.ensures.value
    (ap (λ v. v.parent) c.set_var.ensures ∙ parent_innermost (with_var c.args.k c.args.value) t)
    (rw c.set_var.ensures (kept_innermost (with_var c.args.k c.args.value) t (λ l. refl) (λ l. refl)))
