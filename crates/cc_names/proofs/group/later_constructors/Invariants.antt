use Rattle.std.proofs.Common.{◌≡◌, ◌++◌, map, drop}
use Rattle.cc_names.specs.declared.broken.Broken.TheVariants.{Rule}
use Rattle.cc_names.specs.declared.rule.StaticRule.TheVariants.{NameTwice}
use Rattle.cc_names.proofs.group.later_constructors.Given as goal

abbrev pub invariant-loop-line : goal.invariant-loop-line
invariant-loop-line l = l.broken ++ map (Rule NameTwice) (drop l.line-index l.lines) ≡ l.fn.broken ++ map (Rule NameTwice) l.lines
