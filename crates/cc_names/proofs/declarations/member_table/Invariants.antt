use Rattle.std.proofs.Common.{◌≡◌, [], ◌++◌, drop}
use Rattle.cc_names.specs.Table.{once, twice}
use Rattle.cc_names.specs.Declarations.{members, members_from}
use Rattle.cc_names.proofs.declarations.member_table.Given as goal

abbrev pub invariant-loop-member : goal.invariant-loop-member
invariant-loop-member l = record {
  table : once l.table (members_from l.number (drop l.member-index l.members)) ≡ once [] (members l.members);
  broken : l.broken ++ twice l.table (members_from l.number (drop l.member-index l.members)) ≡ l.fn.broken ++ twice [] (members l.members);
}
