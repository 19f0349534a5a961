-- What a text has next at a place, and the first bytes that settle what this may be.
use Rattle.std.specs.Prelude.{◌≡◌, ℕ, ◌&&◌, ◌==◌, [], ◌∷◌, take, count_by, Result, Ok, Err, if◌then◌else◌}
use Rattle.cc_lexer.specs.declared.class.Class.{Class}
use Rattle.cc_lexer.specs.declared.class.Class.TheVariants as class
use Rattle.cc_lexer.specs.declared.piece.Piece.{Piece}
use Rattle.cc_lexer.specs.declared.piece.Piece.TheVariants as piece
use Rattle.cc_lexer.specs.declared.fault.LexFault.{LexFault}
use Rattle.cc_lexer.specs.Spelling.{Text, is_digit, is_letter}
use Rattle.cc_lexer.specs.Cut.{is_blank, is_line_feed, IsBlank, IsLongest, IsWithinLimits}
use Rattle.cc_lexer.specs.Faults.{IsFault}

-- the class of a text with this first byte, where it begins no comment
abbrev pub byte_class : ℕ → Class
byte_class b = if is_blank b then class.Blank else if b == 35 then class.Hash else if b == 34 then class.Quote else if is_letter b then class.Letter else if is_digit b then class.Digit else class.Other

-- the class of what stands at the front of a text
abbrev pub class_at : Text → Class
class_at [] = class.End
class_at (b ∷ []) = byte_class b
class_at (b ∷ c ∷ bs) = if b == 47 && c == 47 then class.LineComment else if b == 47 && c == 42 then class.Comment else byte_class b

-- The text ends here, or this blank or token stands here, or this fault is here.
abbrev pub IsNext : Text → Text → Result Piece LexFault → Type 0
IsNext before here (Ok piece.End) = here ≡ []
IsNext before here (Ok (piece.Blank n line_feeds)) = IsBlank before here n × (line_feeds ≡ count_by is_line_feed (take n here))
IsNext before here (Ok (piece.Token kind n)) = IsLongest here kind n × IsWithinLimits kind n
IsNext before here (Err fault) = IsFault before here fault
