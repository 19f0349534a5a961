use Rattle.std.proofs.Common.{◌≡◌, ◌++◌, drop}
use Rattle.cc_names.specs.Group.{function_lines}
use Rattle.cc_names.proofs.group.function_lines.Given as goal

abbrev pub invariant-loop-item : goal.invariant-loop-item
invariant-loop-item l = l.lines ++ function_lines (drop l.item-index l.items) ≡ function_lines l.items
