use Rattle.std.proofs.Common.{◌≡◌, [], ◌++◌, drop}
use Rattle.cc_names.specs.Table.{once, twice}
use Rattle.cc_names.specs.Declarations.{file, file_from}
use Rattle.cc_names.proofs.declarations.file_table.Given as goal

abbrev pub invariant-loop-item : goal.invariant-loop-item
invariant-loop-item l = record {
  table : once l.table (file_from l.constants l.classes l.functions (drop l.item-index l.items)) ≡ once [] (file l.items);
  broken : l.broken ++ twice l.table (file_from l.constants l.classes l.functions (drop l.item-index l.items)) ≡ l.fn.broken ++ twice [] (file l.items);
}
