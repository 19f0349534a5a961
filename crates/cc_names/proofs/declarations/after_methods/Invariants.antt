use Rattle.std.proofs.Common.{◌≡◌, drop}
use Rattle.cc_names.specs.Declarations.{after_methods}
use Rattle.cc_names.proofs.declarations.after_methods.Given as goal

abbrev pub invariant-loop-member : goal.invariant-loop-member
invariant-loop-member l = after_methods l.after (drop l.member-index l.members) ≡ after_methods l.functions l.members
