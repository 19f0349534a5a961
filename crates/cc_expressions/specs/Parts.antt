-- A function value that reads a part.
use Rattle.std.specs.Prelude.{Result}
use denote.Ref.{MutBor}
use Rattle.cc_grammar.specs.declared.fault.Fault.{Fault}
use Rattle.cc_grammar.specs.Lexeme.{Lexemes}
use Rattle.cc_grammar.specs.Reading.{Reader, Gives}

-- what it gives is what this reader answers
pub record ReadsBy {A : Type 0} (post : MutBor Lexemes → Result A Fault → MutBor Lexemes → Type 0) (reader : Reader A) : Type 0 where
  pub gives : (old new : MutBor Lexemes) (r : Result A Fault) → post old r new → Gives (reader old.now) r new.now
