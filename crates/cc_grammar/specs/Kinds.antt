-- Kinds of tokens by number, and sets of them.
use Rattle.std.specs.Prelude.{ℕ, ◌+◌, Bool, true, false, ◌||◌, ◌&&◌, not, ◌==◌, List, [], ◌∷◌, map}
use denote.Enum.Declared.{tag_of}
use Rattle.cc_lexer.specs.contracts.token.Keyword as keyword
use Rattle.cc_lexer.specs.contracts.token.Mark as mark
use Rattle.cc_lexer.specs.declared.token.TokenKind.{TokenKind}
use Rattle.cc_lexer.specs.declared.token.TokenKind.TheVariants as k
use Rattle.cc_grammar.specs.Lexeme.{Lexemes}

-- names, numbers, strings, the 25 keywords, and the marks
abbrev pub code : TokenKind → ℕ
code k.Name = 0
code (k.Int value) = 1
code k.Str = 2
code (k.Word w) = 3 + tag_of keyword.the_type w
code (k.Mark m) = 28 + tag_of mark.the_type m

-- a set of kinds
abbrev pub Kinds : Type 0
Kinds = List ℕ

abbrev pub kinds : List TokenKind → Kinds
kinds = map code

abbrev pub has : Kinds → ℕ → Bool
has [] n = false
has (m ∷ ms) n = (n == m) || has ms n

abbrev pub are_apart : Kinds → Kinds → Bool
are_apart [] ns = true
are_apart (m ∷ ms) ns = not (has ns m) && are_apart ms ns

abbrev pub is_within : Kinds → Kinds → Bool
is_within [] ns = true
is_within (m ∷ ms) ns = has ns m && is_within ms ns

-- the next token is of one of these kinds
abbrev pub heads : Kinds → Lexemes → Bool
heads ks [] = false
heads ks (t ∷ ts) = has ks (code t.kind)

-- the tokens after the next one
abbrev pub tail_of : Lexemes → Lexemes
tail_of [] = []
tail_of (t ∷ ts) = ts
