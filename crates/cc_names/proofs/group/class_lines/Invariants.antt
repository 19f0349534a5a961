use Rattle.std.proofs.Common.{◌≡◌, ◌++◌, drop}
use Rattle.cc_names.specs.Group.{class_lines}
use Rattle.cc_names.proofs.group.class_lines.Given as goal

abbrev pub invariant-loop-item : goal.invariant-loop-item
invariant-loop-item l = l.lines ++ class_lines (drop l.item-index l.items) ≡ class_lines l.items
