use Rattle.std.proofs.Common.{◌≡◌, ◌++◌, drop}
use Rattle.cc_names.specs.Group.{method_lines}
use Rattle.cc_names.proofs.group.add_method_lines.Given as goal

abbrev pub invariant-loop-member : goal.invariant-loop-member
invariant-loop-member l = l.lines ++ method_lines (drop l.member-index l.members) ≡ l.fn.lines ++ method_lines l.members
