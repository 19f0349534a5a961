use Rattle.std.proofs.Common.{◌≡◌, [], drop}
use Rattle.cc_tables.specs.Tables.{constants_alone, constants_from}
use Rattle.cc_tables.proofs.constants.constants_of.Given as goal

abbrev pub invariant-loop-item : goal.invariant-loop-item
invariant-loop-item l = record {
  alone : l.tables ≡ constants_alone l.tables.constants;
  constants : constants_from l.names l.tables.constants (drop l.item-index l.items) ≡ constants_from l.names [] l.items;
}
