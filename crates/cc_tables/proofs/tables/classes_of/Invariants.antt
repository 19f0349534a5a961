use Rattle.std.proofs.Common.{◌≡◌, ◌++◌, drop}
use Rattle.cc_tables.specs.Tables.{classes_from}
use Rattle.cc_tables.proofs.tables.classes_of.Given as goal

abbrev pub invariant-loop-item : goal.invariant-loop-item
invariant-loop-item l =
    l.classes ++ classes_from l.names l.constants l.known l.number l.functions (drop l.item-index l.items)
    ≡ classes_from l.names l.constants 0 0 0 l.items
