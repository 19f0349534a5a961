use Rattle.std.proofs.Common.{◌≡◌, ◌++◌, map, drop}
use Rattle.cc_blocking.specs.Rounds.{rule_at}
use Rattle.cc_blocking.proofs.rules.note_lines.Given as goal

abbrev pub invariant-loop-line : goal.invariant-loop-line
invariant-loop-line l = l.broken ++ map rule_at (drop l.line-index l.lines) ≡ l.fn.broken ++ map rule_at l.lines
