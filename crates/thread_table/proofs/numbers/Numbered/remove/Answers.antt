use Rattle.std.proofs.Common.{◌≡◌, None, ap, ◌∙◌, get_or, set}
use Rattle.std.proofs.lemmas.List.{get_or_default}
use Rattle.slab.specs.Slab.{Updates}
use Rattle.thread_table.specs.Numbers.{thread_at, shown}
use Rattle.thread_table.proofs.NumberLaws.{found, under_key, IsKept-removes, shown-removes}
use Rattle.thread_table.proofs.numbers.Numbered.remove.Goals as goal

pub invariant_of-self : goal.invariant_of-self
invariant_of-self c =
    let keys = c.self.inside.keys.items in
    let live = c.self.inside.live in
    let f = found (thread_at (shown keys live) c.args.number) (rw (← c.self.view_is) at c.requires) in
    let key : c.index-key.result.now ≡ get_or keys c.args.number 0 =
    c.index-key.ensures ∙ get_or_default keys c.args.number c.index-key.result.now 0 (under_key keys live c.args.number f.0 f.1).0 in
    let updates : Updates live c.remove.new.self (get_or keys c.args.number 0) None = rw key at c.remove.ensures.updates in
    IsKept-removes keys live c.self.invariant c.args.number f.0 f.1 c.remove.new.self updates c.remove.ensures.len

pub returns-clause-threads : goal.returns-clause-threads
returns-clause-threads c =
    let keys = c.self.inside.keys.items in
    let live = c.self.inside.live in
    let f = found (thread_at (shown keys live) c.args.number) (rw (← c.self.view_is) at c.requires) in
    let key : c.index-key.result.now ≡ get_or keys c.args.number 0 =
    c.index-key.ensures ∙ get_or_default keys c.args.number c.index-key.result.now 0 (under_key keys live c.args.number f.0 f.1).0 in
    let updates : Updates live c.remove.new.self (get_or keys c.args.number 0) None = rw key at c.remove.ensures.updates in
    shown-removes keys live c.self.invariant c.args.number f.0 f.1 c.remove.new.self updates ∙ ap (λ s. set s.threads c.args.number None) c.self.view_is
