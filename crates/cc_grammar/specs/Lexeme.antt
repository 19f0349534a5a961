-- What the grammar reads: tokens with their bytes.
use Rattle.std.specs.Prelude.{ℤ, pos, List}
use Rattle.cc_lexer.specs.declared.token.TokenKind.{TokenKind}
use Rattle.cc_lexer.specs.declared.token.TokenKind.TheVariants as k
pub use Rattle.cc_lexer.specs.Lexemes.{Lexeme, lexemes, token_text, unescaped}

abbrev pub Lexemes : Type 0
Lexemes = List Lexeme

-- the value of a decimal literal
abbrev pub int_value : TokenKind → ℤ
int_value (k.Int value) = value
int_value _ = pos 0
