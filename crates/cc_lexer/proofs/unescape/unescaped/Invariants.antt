use Rattle.std.proofs.Common.{◌≡◌, ◌++◌, length}
use Rattle.cc_lexer.specs.Lexemes.{replaced_escapes, unescaped}
use Rattle.cc_lexer.proofs.unescape.unescaped.Given as goal

abbrev pub invariant-loop-rest : goal.invariant-loop-rest
invariant-loop-rest l = l.bytes ++ replaced_escapes l.rest ≡ unescaped l.text

abbrev pub decreases-loop-rest : goal.decreases-loop-rest
decreases-loop-rest l = length l.rest
