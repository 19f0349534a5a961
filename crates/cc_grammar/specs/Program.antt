-- Programs: which lists of tokens spell which tree, and which are the front of a program.
use Rattle.std.specs.Prelude.{ℕ, []}
use Rattle.cc_tree.specs.declared.declarations.Program.{Program}
use Rattle.cc_grammar.specs.Lexeme.{Lexemes}
use Rattle.cc_grammar.specs.Symbol.{Symbol, pure, ◌>>=◌, many}
use Rattle.cc_grammar.specs.Items.{item}

-- Program := { Item }
unfoldable pub program : ℕ → Symbol Program
program n = do
  xs ← many (item n)
  pure (record { items = xs })

-- the tokens spell this tree, and at no token there are more than 64 levels
unfoldable pub Spells : Lexemes → Program → Type 0
Spells tokens p = (program 64).spells tokens [] p

-- the tokens are a front of a program with at most so many levels
unfoldable pub FrontWithin : ℕ → Lexemes → Type 0
FrontWithin n tokens = (program n).front tokens []

-- the tokens are a front of a program, whatever its levels
unfoldable pub Front : Lexemes → Type 0
Front tokens = (n : ℕ) × FrontWithin n tokens
