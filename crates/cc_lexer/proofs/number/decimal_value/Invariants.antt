use Rattle.std.proofs.Common.{◌≡◌, take}
use Rattle.cc_lexer.specs.Spelling.{decimal_value}
use Rattle.cc_lexer.proofs.number.decimal_value.Given as goal

abbrev pub invariant-loop-digit : goal.invariant-loop-digit
invariant-loop-digit l = l.value ≡ decimal_value (take l.digit-index l.digits)
