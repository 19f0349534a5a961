-- A function value that reads a statement within one level more.
use Rattle.std.specs.Prelude.{ℕ, pred, Result, ◌<◌, ◌≡◌}
use denote.Ref.{MutBor}
use Rattle.cc_tree.specs.declared.statements.Stmt.{Stmt}
use Rattle.cc_expressions.specs.declared.terms.Terms.{Terms}
use Rattle.cc_grammar.specs.declared.fault.Fault.{Fault}
use Rattle.cc_grammar.specs.Lexeme.{Lexemes}
use Rattle.cc_grammar.specs.Reading.{Reader, Gives}
use Rattle.cc_grammar.specs.ReadStatements.{stmt, inner_stmt}

pub record Nests (depth : ℕ) (pre : Terms → MutBor Lexemes → Type 0) (post : Terms → MutBor Lexemes → Result Stmt Fault → MutBor Lexemes → Type 0) : Type 0
  where
    pub callable : 0 < depth → (terms : Terms) (old : MutBor Lexemes) → terms.depth ≡ pred depth → pre terms old
    pub reads : 0 < depth → (terms : Terms) (old new : MutBor Lexemes) (r : Result Stmt Fault) → terms.depth ≡ pred depth → post terms old r new
        → Gives (stmt (pred depth) old.now) r new.now

-- a part whose statements stand within so many levels
abbrev pub at_depth : {A : Type 0} → (ℕ → Reader Stmt → Reader A) → ℕ → Reader A
at_depth part n = part n (inner_stmt n)
