use Rattle.std.proofs.Common.{◌-◌, length}
use Rattle.cc_lexer.proofs.Steps.{IsRead}
use Rattle.cc_lexer.proofs.lexer.tokens_of.Given as goal

abbrev pub invariant-loop-tokens : goal.invariant-loop-tokens
invariant-loop-tokens l = IsRead l.text l.tokens l.at l.line

abbrev pub decreases-loop-tokens : goal.decreases-loop-tokens
decreases-loop-tokens l = length l.text - l.at
