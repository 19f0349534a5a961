use Rattle.std.proofs.Common.{◌≡◌, refl, sym, ap, ◌∙◌, get_or}
use Rattle.std.proofs.lemmas.List.{get_or_default}
use Rattle.slab.specs.Slab.{get}
use Rattle.thread_table.specs.Numbers.{thread_at, shown}
use Rattle.thread_table.proofs.NumberLaws.{found, under_key, shown_at, IsKept-with_value, view-with_value}
use Rattle.thread_table.proofs.numbers.Numbered.get_mut.Goals as goal

pub invariant_of-self-lent : goal.invariant_of-self-lent
invariant_of-self-lent c w =
    let keys = c.self.inside.keys.items in
    let f = found (thread_at (shown keys c.self.inside.live) c.args.number) (rw (← c.self.view_is) at c.requires) in
    let key : c.index-key.result.now ≡ get_or keys c.args.number 0 =
    c.index-key.ensures ∙ get_or_default keys c.args.number c.index-key.result.now 0 (under_key keys c.self.inside.live c.args.number f.0 f.1).0 in
    rw key (IsKept-with_value keys c.self.inside.live c.self.invariant c.args.number f.0 f.1 w)

pub returns : goal.returns
returns c =
    let keys = c.self.inside.keys.items in
    let f = found (thread_at (shown keys c.self.inside.live) c.args.number) (rw (← c.self.view_is) at c.requires) in
    let key : c.index-key.result.now ≡ get_or keys c.args.number 0 =
    c.index-key.ensures ∙ get_or_default keys c.args.number c.index-key.result.now 0 (under_key keys c.self.inside.live c.args.number f.0 f.1).0 in (
      (refl, λ w. rw (← c.self.view_is, key) (view-with_value keys c.self.inside.live c.self.invariant c.args.number f.0 f.1 _ _ w)),
      record {
        lends = tt;
        value = rw (← c.self.view_is)
            (shown_at keys c.self.inside.live c.args.number (under_key keys c.self.inside.live c.args.number f.0 f.1).0 ∙ ap (get c.self.inside.live) (sym key) ∙ c.index_mut.ensures.value);
      },
    )
