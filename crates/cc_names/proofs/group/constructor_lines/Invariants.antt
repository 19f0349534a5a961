use Rattle.std.proofs.Common.{◌≡◌, ◌++◌, drop}
use Rattle.cc_names.specs.Group.{constructor_lines}
use Rattle.cc_names.proofs.group.constructor_lines.Given as goal

abbrev pub invariant-loop-member : goal.invariant-loop-member
invariant-loop-member l = l.lines ++ constructor_lines (drop l.member-index l.members) ≡ constructor_lines l.members
