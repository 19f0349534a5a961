use Rattle.std.proofs.Common.{◌≤◌, ◌-◌, length, take, IsTrue}
use Rattle.cc_lexer.specs.Spelling.{is_inside}
use Rattle.cc_lexer.proofs.string.inside_length.Given as goal

abbrev pub invariant-loop-n : goal.invariant-loop-n
invariant-loop-n l = record { within : l.length ≤ length l.here; inside : IsTrue (is_inside (take l.length l.here)) }

abbrev pub decreases-loop-n : goal.decreases-loop-n
decreases-loop-n l = length l.here - l.length
