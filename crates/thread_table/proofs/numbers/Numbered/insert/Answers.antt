use Rattle.std.proofs.Common.{◌≢◌, ◌++◌, ◌∷◌, [], Some, sym, ap, ◌∙◌}
use Rattle.std.specs.Prelude.{vec_len, vec_capacity}
use Rattle.thread_table.specs.Numbers.{shown, gone}
use Rattle.thread_table.proofs.NumberLaws.{IsKept-inserts, shown-inserts, room_free}
use Rattle.thread_table.proofs.numbers.Numbered.insert.Goals as goal

pub invariant_of-self : goal.invariant_of-self
invariant_of-self c =
    let keys = c.self.inside.keys.items in
    let free : c.insert_reserved-key.result ≢ gone = λ same.
    room_free (vec_len c.self.inside.keys) (vec_capacity c.self.inside.keys) c.self.inside.live (rw (← c.self.view_is) at c.requires.room) (sym c.insert_reserved-key.ensures.key ∙ same) in
    rw c.push_reserved.ensures.items
    (IsKept-inserts keys c.self.inside.live c.insert_reserved-key.new.self c.self.invariant c.insert_reserved-key.result c.args.thread
    c.insert_reserved-key.ensures.was_vacant free c.insert_reserved-key.ensures.updates c.insert_reserved-key.ensures.len)

pub returns-clause-threads : goal.returns-clause-threads
returns-clause-threads c =
    let keys = c.self.inside.keys.items in
    let free : c.insert_reserved-key.result ≢ gone = λ same.
    room_free (vec_len c.self.inside.keys) (vec_capacity c.self.inside.keys) c.self.inside.live (rw (← c.self.view_is) at c.requires.room) (sym c.insert_reserved-key.ensures.key ∙ same) in
    ap (λ ks. shown ks c.insert_reserved-key.new.self) c.push_reserved.ensures.items
    ∙ shown-inserts keys c.self.inside.live c.insert_reserved-key.new.self c.self.invariant c.insert_reserved-key.result c.args.thread
    c.insert_reserved-key.ensures.was_vacant free c.insert_reserved-key.ensures.updates
    ∙ ap (λ s. s.threads ++ Some c.args.thread ∷ []) c.self.view_is
