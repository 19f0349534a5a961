-- What a grammar reads of a text: its tokens with their bytes, and not their places.
use Rattle.std.specs.Prelude.{ℕ, ◌-◌, ◌<◌, ◌≤◌, ◌==◌, List, [], ◌∷◌, map, length, take, drop, slice_range, if◌then◌else◌}
use Rattle.cc_lexer.specs.declared.token.TokenKind.{TokenKind}
use Rattle.cc_lexer.specs.declared.token.Token.{Token}
use Rattle.cc_lexer.specs.Spelling.{Text, Spells}
use Rattle.cc_lexer.specs.Cut.{IsWithinLimits}

-- a token with its bytes
pub record Lexeme : Type 0 where
  pub kind : TokenKind
  pub text : Text
  pub line : ℕ

-- the bytes of a token of the text
abbrev pub token_text : Text → Token → Text
token_text text token = slice_range text token.start token.end

abbrev pub lexemes : Text → List Token → List Lexeme
lexemes text tokens = map (λ token. record { kind = token.kind; text = token_text text token; line = token.line }) tokens

-- The token is a part of the text that is not empty, and is spelled like a token of its kind, within the limits.
pub record IsSpelled (text : Text) (token : Token) : Type 0 where
  pub some : token.start < token.end
  pub within : token.end ≤ length text
  pub spelled : Spells token.kind (token_text text token)
  pub limits : IsWithinLimits token.kind (length (token_text text token))

-- ---- strings

-- the byte that a `\` and this byte stand for: `n` is the line feed, `t` the tab, and `\` and `"` are themselves
abbrev pub escaped_byte : ℕ → ℕ
escaped_byte b = if b == 110 then 10 else if b == 116 then 9 else b

-- each escape of the inside of a string replaced by its byte
abbrev pub replaced_escapes : Text → Text
replaced_escapes [] = []
replaced_escapes (b ∷ []) = b ∷ []
replaced_escapes (b ∷ c ∷ bs) = if b == 92 then escaped_byte c ∷ replaced_escapes bs else b ∷ replaced_escapes (c ∷ bs)

-- what stands between the quotes
abbrev pub inside_of : Text → Text
inside_of text = drop 1 (take (length text - 1) text)

-- the bytes of the string that a token is: those between its quotes, each escape replaced
abbrev pub unescaped : Text → Text
unescaped text = replaced_escapes (inside_of text)
