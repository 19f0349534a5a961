-- Tokens whose bytes lie in their text, and names among them that are letters, digits and `_`.
use Rattle.std.specs.Prelude.{ℕ, ◌≤◌, List, [], ◌∷◌, length}
use Rattle.std.specs.Str.{IsAscii}
use Rattle.cc_lexer.specs.declared.token.Token.{Token}
use Rattle.cc_lexer.specs.declared.token.TokenKind.{TokenKind}
use Rattle.cc_lexer.specs.declared.token.TokenKind.TheVariants as k
use Rattle.cc_grammar.specs.Lexeme.{token_text}

-- a name is text
abbrev pub IsText : TokenKind → List ℕ → Type 0
IsText k.Name bytes = IsAscii bytes
IsText _ bytes = Unit {0}

pub record Fits (text : List ℕ) (token : Token) : Type 0 where
  pub in_order : token.start ≤ token.end
  pub within : token.end ≤ length text
  pub is_text : IsText token.kind (token_text text token)

abbrev pub AllFit : List ℕ → List Token → Type 0
AllFit text [] = Unit {0}
AllFit text (token ∷ tokens) = Fits text token × AllFit text tokens
