use Rattle.std.proofs.Common.{◌≡◌, ◌++◌, drop}
use Rattle.cc_names.specs.Group.{item_rules}
use Rattle.cc_names.specs.Names.{member_tables}
use Rattle.cc_names.proofs.group.item_rules.Given as goal

abbrev pub invariant-loop-item : goal.invariant-loop-item
invariant-loop-item l = record {
  tables : l.tables ++ member_tables (drop l.item-index l.items) ≡ member_tables l.items;
  broken : l.broken ++ item_rules (drop l.item-index l.items) ≡ l.fn.broken ++ item_rules l.items;
}
