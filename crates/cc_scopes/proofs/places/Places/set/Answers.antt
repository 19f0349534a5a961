use Rattle.std.proofs.Common.{Some, ap, ◌∙◌, rules}
use Rattle.std.specs.BTreeMap.{get_by_text}
use Rattle.std.proofs.lemmas.Map.Text.{btree_map_updates_text}
use Rattle.cc_scopes.specs.Places.{flat}
use Rattle.cc_scopes.proofs.KeptLaws.{flat_update}
use Rattle.cc_scopes.proofs.places.Places.set.Goals as goal

pub returns-in-Some : goal.returns-in-Some
returns-in-Some c = λ name.
    ap flat (btree_map_updates_text c.args.name.now c.args.self.now.map (c.get_mut.follows.lender c.args.place) (Some c.args.place)
    ((c.get_mut.follows.holds c.args.place).3 (search rules)) name)
    ∙ flat_update c.args.name.now c.args.place (get_by_text c.args.self.now.map) name
