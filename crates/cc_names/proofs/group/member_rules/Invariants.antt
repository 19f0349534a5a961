use Rattle.std.proofs.Common.{◌≡◌, ◌++◌, drop}
use Rattle.cc_names.specs.Group.{member_rules}
use Rattle.cc_names.proofs.group.member_rules.Given as goal

abbrev pub invariant-loop-member : goal.invariant-loop-member
invariant-loop-member l = l.broken ++ member_rules (drop l.member-index l.members) ≡ l.fn.broken ++ member_rules l.members
