-- A mark behind what was read.
use Rattle.cc_lexer.specs.declared.token.Mark.{Mark}
use Rattle.cc_grammar.specs.Reading.{Reader, mark, pure, ◌>>◌}

abbrev pub ended_by : {A : Type 0} → Mark → A → Reader A
ended_by m item = mark m >> pure item
