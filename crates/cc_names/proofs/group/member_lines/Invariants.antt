use Rattle.std.proofs.Common.{◌≡◌, ◌++◌, drop}
use Rattle.cc_names.specs.Group.{member_lines}
use Rattle.cc_names.proofs.group.member_lines.Given as goal

abbrev pub invariant-loop-member : goal.invariant-loop-member
invariant-loop-member l = l.lines ++ member_lines (drop l.member-index l.members) ≡ member_lines l.members
