use Rattle.std.proofs.Common.{◌≡◌, drop}
use Rattle.cc_names.specs.Declarations.{after_methods}
use Rattle.cc_tables.proofs.tables.after_class.Given as goal

abbrev pub invariant-loop-member : goal.invariant-loop-member
invariant-loop-member l = after_methods l.next (drop l.member-index l.members) ≡ after_methods l.functions l.members
