-- Which texts spell a token of which kind. A text is its list of bytes.
use Rattle.std.specs.Prelude.{◌≡◌, ◌≢◌, ℕ, ◌+◌, ◌-◌, ◌*◌, Bool, true, false, ◌&&◌, ◌||◌, not, ◌==◌, nat_le, pos, List, [], ◌∷◌, ◌++◌, codes, fold, IsTrue, if◌then◌else◌}
use Rattle.std.specs.List.{list_all}
use Rattle.cc_lexer.specs.declared.token.Keyword.{Keyword}
use Rattle.cc_lexer.specs.declared.token.Keyword.TheVariants as keyword
use Rattle.cc_lexer.specs.declared.token.Mark.{Mark}
use Rattle.cc_lexer.specs.declared.token.Mark.TheVariants as mark
use Rattle.cc_lexer.specs.declared.token.TokenKind.{TokenKind}
use Rattle.cc_lexer.specs.declared.token.TokenKind.TheVariants.{Name, Int, Str, Word, Mark as Marked}

abbrev pub Text : Type 0
Text = List ℕ

-- ---- names and keywords

abbrev pub is_digit : ℕ → Bool
is_digit b = nat_le 48 b && nat_le b 57

-- a letter, or `_`
abbrev pub is_letter : ℕ → Bool
is_letter b = (nat_le 65 b && nat_le b 90) || (nat_le 97 b && nat_le b 122) || b == 95

abbrev pub is_word_byte : ℕ → Bool
is_word_byte b = is_letter b || is_digit b

-- a letter or `_`, and after it letters, digits and `_`
abbrev pub is_word : Text → Bool
is_word [] = false
is_word (b ∷ bs) = is_letter b && list_all is_word_byte bs

abbrev pub keyword_text : Keyword → Text
keyword_text keyword.Atomic = codes "atomic"
keyword_text keyword.Break = codes "break"
keyword_text keyword.Class = codes "class"
keyword_text keyword.Const = codes "const"
keyword_text keyword.Continue = codes "continue"
keyword_text keyword.Cout = codes "cout"
keyword_text keyword.Else = codes "else"
keyword_text keyword.Endl = codes "endl"
keyword_text keyword.For = codes "for"
keyword_text keyword.Global = codes "global"
keyword_text keyword.If = codes "if"
keyword_text keyword.Int = codes "int"
keyword_text keyword.New = codes "new"
keyword_text keyword.Null = codes "NULL"
keyword_text keyword.Par = codes "par"
keyword_text keyword.Parfor = codes "parfor"
keyword_text keyword.Private = codes "private"
keyword_text keyword.Public = codes "public"
keyword_text keyword.Return = codes "return"
keyword_text keyword.Spawn = codes "spawn"
keyword_text keyword.Struct = codes "struct"
keyword_text keyword.Sync = codes "sync"
keyword_text keyword.This = codes "this"
keyword_text keyword.Void = codes "void"
keyword_text keyword.While = codes "while"

-- a word that is no keyword
pub record IsName (text : Text) : Type 0 where
  pub word : IsTrue (is_word text)
  pub no_keyword : (word : Keyword) → text ≢ keyword_text word

-- ---- numbers

-- one digit, or several of which the first is not 0
abbrev pub is_number : Text → Bool
is_number [] = false
is_number (b ∷ []) = is_digit b
is_number (b ∷ c ∷ bs) = not (b == 48) && list_all is_digit (b ∷ c ∷ bs)

-- the value in base ten
abbrev pub decimal_value : Text → ℕ
decimal_value digits = fold (λ value digit. 10 * value + (digit - 48)) 0 digits

-- ---- strings

-- a byte that stands for itself in a string: the tab and all from the space on, but 127, `"` and `\`
abbrev pub is_plain : ℕ → Bool
is_plain b = (b == 9 || (nat_le 32 b && nat_le b 126) || nat_le 128 b) && not (b == 34) && not (b == 92)

-- what may follow a `\`: `n`, `t`, `\` and `"`
abbrev pub is_escape : ℕ → Bool
is_escape b = b == 110 || b == 116 || b == 92 || b == 34

-- bytes that stand for themselves and escapes, in turn
abbrev pub is_inside : Text → Bool
is_inside [] = true
is_inside (b ∷ []) = is_plain b
is_inside (b ∷ c ∷ bs) = if b == 92 then is_escape c && is_inside bs else is_plain b && is_inside (c ∷ bs)

-- a quote, the inside, and a quote
abbrev pub IsString : Text → Type 0
IsString text = (inside : Text) × IsTrue (is_inside inside) × (text ≡ codes "\"" ++ inside ++ codes "\"")

-- ---- marks

abbrev pub mark_text : Mark → Text
mark_text mark.OpenParen = codes "("
mark_text mark.CloseParen = codes ")"
mark_text mark.OpenBrace = codes "{"
mark_text mark.CloseBrace = codes "}"
mark_text mark.OpenBracket = codes "["
mark_text mark.CloseBracket = codes "]"
mark_text mark.Semicolon = codes ";"
mark_text mark.Comma = codes ","
mark_text mark.Colon = codes ":"
mark_text mark.Dot = codes "."
mark_text mark.Assign = codes "="
mark_text mark.Plus = codes "+"
mark_text mark.Minus = codes "-"
mark_text mark.Star = codes "*"
mark_text mark.Slash = codes "/"
mark_text mark.Percent = codes "%"
mark_text mark.Less = codes "<"
mark_text mark.Greater = codes ">"
mark_text mark.Not = codes "!"
mark_text mark.Ampersand = codes "&"
mark_text mark.Arrow = codes "->"
mark_text mark.Equal = codes "=="
mark_text mark.NotEqual = codes "!="
mark_text mark.LessEqual = codes "<="
mark_text mark.GreaterEqual = codes ">="
mark_text mark.And = codes "&&"
mark_text mark.Or = codes "||"
mark_text mark.LessLess = codes "<<"
mark_text mark.PlusPlus = codes "++"
mark_text mark.MinusMinus = codes "--"
mark_text mark.PlusAssign = codes "+="
mark_text mark.MinusAssign = codes "-="
mark_text mark.StarAssign = codes "*="
mark_text mark.SlashAssign = codes "/="
mark_text mark.PercentAssign = codes "%="

-- ---- tokens

-- The text is spelled like a token of this kind, however long it is and however large its value.
abbrev pub Spells : TokenKind → Text → Type 0
Spells Name text = IsName text
Spells (Int value) text = IsTrue (is_number text) × (value ≡ pos (decimal_value text))
Spells Str text = IsString text
Spells (Word word) text = text ≡ keyword_text word
Spells (Marked mark) text = text ≡ mark_text mark
