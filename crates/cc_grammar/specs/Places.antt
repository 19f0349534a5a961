-- At which token a list of tokens stops being the front of a program.
use Rattle.std.specs.Prelude.{ℕ, ◌+◌, ◌<◌, ◌≤◌, length, take}
use Rattle.cc_grammar.specs.Lexeme.{Lexemes}
use Rattle.cc_grammar.specs.Program.{Front, FrontWithin}

-- Up to this token they are a front within 64 levels, and with it they are none, whatever the levels; or they all are a front.
pub record IsSyntaxAt (tokens : Lexemes) (at : ℕ) : Type 0 where
  pub within : at ≤ length tokens
  pub before : (n : ℕ) → n ≤ at → FrontWithin 64 (take n tokens)
  pub after : (n : ℕ) → at < n → n ≤ length tokens → Front (take n tokens) → ⊥

-- This token is the first that opens a 65th level: up to it they are a front within 64 levels, and with it within 65 alone.
pub record IsTooDeepAt (tokens : Lexemes) (at : ℕ) : Type 0 where
  pub within : at < length tokens
  pub before : (n : ℕ) → n ≤ at → FrontWithin 64 (take n tokens)
  pub deeper : FrontWithin 65 (take (at + 1) tokens)
  pub after : (n : ℕ) → at < n → n ≤ length tokens → FrontWithin 64 (take n tokens) → ⊥
