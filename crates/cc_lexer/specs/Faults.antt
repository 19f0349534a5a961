-- The fault with which a text is refused that is not cut into blanks and tokens.
use Rattle.std.specs.Prelude.{◌≡◌, ℕ, ◌+◌, ◌≤◌, ◌<◌, Bool, true, false, ◌==◌, if◌then◌else◌, ℤ, pos, ◌<ℤ◌, List, [], ◌∷◌, ◌++◌, length, take, drop, codes, IsTrue, IsFalse}
use Rattle.cc_lexer.specs.declared.token.TokenKind.TheVariants.{Name, Int}
use Rattle.cc_lexer.specs.declared.token.Token.{Token}
use Rattle.cc_lexer.specs.declared.fault.LexFault.{LexFault}
use Rattle.cc_lexer.specs.declared.fault.LexFault.TheVariants.{TooLong, BadByte, OpenComment, OpenString, LongName, NumberTooLarge}
use Rattle.cc_lexer.specs.Spelling.{Text, is_plain, is_escape, is_inside}
use Rattle.cc_lexer.specs.Cut.{Begins, HasNoPlace, is_line_feed, IsBlank, NoneStands, IsLongest, IsCutTo, longest_name, largest_number, longest_text}

-- The inside of a string goes on: the text begins with a byte that stands for itself there, or with an escape.
abbrev pub goes_on : Text → Bool
goes_on [] = false
goes_on (b ∷ []) = is_plain b
goes_on (b ∷ c ∷ bs) = if b == 92 then is_escape c else is_plain b

abbrev pub is_line_end : Text → Bool
is_line_end [] = true
is_line_end (b ∷ bs) = is_line_feed b

-- From its quote on a string has this inside, and then a rest with which it neither goes on nor is closed.
pub record BreaksOff (here inside rest : Text) : Type 0 where
  pub parts : here ≡ codes "\"" ++ inside ++ rest
  pub sound : IsTrue (is_inside inside)
  pub stops : IsFalse (goes_on rest)
  pub not_closed : Begins rest (codes "\"") → ⊥

-- What is wrong at the front of `here`, where the text has `before` before it: a fault is named by its place.
pub data IsFault (before here : Text) : LexFault → Type 0 where
  open_comment : Begins here (codes "/*") → HasNoPlace (codes "*/") (drop 2 here) → IsFault before here (OpenComment (length before))
  open_string : {inside rest : Text} → BreaksOff here inside rest → IsTrue (is_line_end rest) → IsFault before here (OpenString (length before))
  long_name : {n : ℕ} → IsLongest here Name n → longest_name < n → IsFault before here (LongName (length before))
  large_number : {value : ℤ} {n : ℕ} → IsLongest here (Int value) n → pos largest_number <ℤ value → IsFault before here (NumberTooLarge (length before))
  bad_inside : {inside rest : Text} → BreaksOff here inside rest → IsFalse (is_line_end rest) → IsFault before here (BadByte (length before + 1 + length inside))
  -- any other byte that begins neither a blank nor a token
  bad_byte : 0 < length here → ((n : ℕ) → IsBlank before here n → ⊥) → NoneStands here → (Begins here (codes "/*") → ⊥) → (Begins here (codes "\"") → ⊥) → IsFault before here (BadByte (length before))

-- The text is too long, or up to some place it is blanks and tokens in turn, and this is wrong there.
pub data FirstFault (text : Text) : LexFault → Type 0 where
  too_long : longest_text < length text → FirstFault text TooLong
  at_place : {at : ℕ} {tokens : List Token} {fault : LexFault} → length text ≤ longest_text → IsCutTo text at tokens → IsFault (take at text) (drop at text) fault → FirstFault text fault
