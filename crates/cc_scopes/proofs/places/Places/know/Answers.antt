use Rattle.std.proofs.Common.{None, Some, sym, ap, ◌∙◌, string_bytes}
use Rattle.std.specs.BTreeMap.{get_by_text}
use Rattle.std.proofs.lemmas.Map.Text.{btree_map_updates_text}
use Rattle.cc_scopes.specs.Places.{flat}
use Rattle.cc_scopes.proofs.KeptLaws.{absent, flat_new}
use Rattle.cc_scopes.proofs.places.Places.know.Goals as goal

pub returns-clause-keeps : goal.returns-clause-keeps
returns-clause-keeps c = λ name.
    let key = c.in_ok-from_str.field-0 in
    ap flat (btree_map_updates_text (string_bytes key) c.args.self.now.map c.insert.new.self (Some None) c.in_ok-insert.ensures.updates name)
    ∙ flat_new (string_bytes key) (get_by_text c.args.self.now.map) name
    (ap (get_by_text c.args.self.now.map) c.in_ok-from_str.ensures.ok ∙ absent c.args.self.now c.args.name.now (sym c.if-contains_key.false ∙ c.contains_key.ensures))
