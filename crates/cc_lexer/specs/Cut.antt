-- The cut of a text into blanks and tokens.
use Rattle.std.specs.Prelude.{◌≡◌, ℕ, ◌+◌, ◌-◌, ◌≤◌, Bool, ◌&&◌, ◌||◌, not, ◌==◌, nat_le, pos, ◌≤ℤ◌, List, [], ◌∷◌, ◌++◌, length, take, drop, reverse, codes, count_by, take_while, IsTrue}
use Rattle.std.specs.List.{list_all, position_or_len}
use Rattle.cc_lexer.specs.declared.token.TokenKind.{TokenKind}
use Rattle.cc_lexer.specs.declared.token.TokenKind.TheVariants.{Name, Int}
use Rattle.cc_lexer.specs.declared.token.Token.{Token}
use Rattle.cc_lexer.specs.Spelling.{Text, Spells}

-- The text begins with these bytes.
abbrev pub Begins : Text → Text → Type 0
Begins text bytes = (rest : Text) × (text ≡ bytes ++ rest)

-- ---- blanks

-- the space, and the bytes 9 to 13: tab, line feed, vertical tab, form feed and carriage return
abbrev pub is_blank : ℕ → Bool
is_blank b = b == 32 || (nat_le 9 b && nat_le b 13)

abbrev pub is_line_feed : ℕ → Bool
is_line_feed b = b == 10

-- how long the line still is, without the line feed that ends it
abbrev pub line_length : Text → ℕ
line_length here = position_or_len is_line_feed here

-- read from its end back to the last line feed, the text has only spaces and tabs
abbrev pub is_indent : Text → Bool
is_indent before = list_all (λ b. b == 32 || b == 9) (take_while (λ b. not (is_line_feed b)) (reverse before))

-- n is the first place in the text at which these bytes stand.
pub record IsFirstPlace (bytes text : Text) (n : ℕ) : Type 0 where
  pub found : Begins (drop n text) bytes
  pub first : (k : ℕ) → Begins (drop k text) bytes → n ≤ k

-- They stand nowhere in it.
abbrev pub HasNoPlace : Text → Text → Type 0
HasNoPlace bytes text = (k : ℕ) → Begins (drop k text) bytes → ⊥

-- The first n bytes from here on are a blank, where `before` is what the text has before them: a byte, a comment to the
-- end of the line, a comment that is closed, or the rest of an include line.
pub data IsBlank (before here : Text) : ℕ → Type 0 where
  byte : {b : ℕ} {rest : Text} → here ≡ b ∷ rest → IsTrue (is_blank b) → IsBlank before here 1
  line_comment : Begins here (codes "//") → IsBlank before here (line_length here)
  comment : {n : ℕ} → Begins here (codes "/*") → IsFirstPlace (codes "*/") (drop 2 here) n → IsBlank before here (n + 4)
  include_line : Begins here (codes "#include") → IsTrue (is_indent before) → IsBlank before here (line_length here)

-- ---- tokens

-- The first n bytes from here on are spelled like a token of this kind, and begin no comment.
pub record Stands (here : Text) (kind : TokenKind) (n : ℕ) : Type 0 where
  pub within : n ≤ length here
  pub spelled : Spells kind (take n here)
  pub no_line_comment : Begins here (codes "//") → ⊥
  pub no_comment : Begins here (codes "/*") → ⊥

-- They do, and no token that stands here is longer.
pub record IsLongest (here : Text) (kind : TokenKind) (n : ℕ) : Type 0 where
  pub stands : Stands here kind n
  pub longest : (other : TokenKind) (m : ℕ) → Stands here other m → m ≤ n

abbrev pub NoneStands : Text → Type 0
NoneStands here = (kind : TokenKind) (n : ℕ) → Stands here kind n → ⊥

-- the most bytes of a name
abbrev pub longest_name : ℕ
longest_name = 255

abbrev pub largest_number : ℕ
largest_number = 9223372036854775807

abbrev pub IsWithinLimits : TokenKind → ℕ → Type 0
IsWithinLimits Name n = n ≤ longest_name
IsWithinLimits (Int value) n = value ≤ℤ pos largest_number
IsWithinLimits _ n = Unit {0}

-- The token is the longest one at its place in the text, and its line is counted by the line feeds before it, from 1.
pub record IsTokenOf (text : Text) (token : Token) : Type 0 where
  pub in_order : token.start ≤ token.end
  pub longest : IsLongest (drop token.start text) token.kind (token.end - token.start)
  pub within_limits : IsWithinLimits token.kind (token.end - token.start)
  pub line : token.line ≡ 1 + count_by is_line_feed (take token.start text)

-- ---- the cut

-- The text up to a place is blanks and tokens in turn, and these are the tokens.
pub data IsCutTo (text : Text) : ℕ → List Token → Type 0 where
  nothing : IsCutTo text 0 []
  blank : {at n : ℕ} {tokens : List Token} → IsCutTo text at tokens → IsBlank (take at text) (drop at text) n → IsCutTo text (at + n) tokens
  token : {tokens : List Token} {t : Token} → IsCutTo text t.start tokens → IsTokenOf text t → IsCutTo text t.end (tokens ++ t ∷ [])

-- the most bytes of a text
abbrev pub longest_text : ℕ
longest_text = 1048576

-- A text that is not too long is blanks and these tokens in turn.
pub record Cut (text : Text) (tokens : List Token) : Type 0 where
  pub not_too_long : length text ≤ longest_text
  pub whole : IsCutTo text (length text) tokens
