-- What a `while` reads.
use Rattle.std.proofs.Common.{◌≡◌, ℕ, pred, refl}
use Rattle.cc_lexer.specs.declared.token.Keyword.TheVariants.{While}
use Rattle.cc_tree.specs.declared.statements.Stmt.{Stmt}
use Rattle.cc_tree.specs.declared.statements.StmtKind.TheVariants as s
use Rattle.cc_grammar.specs.Nodes.{stated}
use Rattle.cc_grammar.specs.Reading.{Reader, ◌>>=◌, open_word, pure}
use Rattle.cc_grammar.specs.ReadStatements.{loop, test}

pub loop_reads : (n : ℕ) (stmt : Reader Stmt)
    → loop n stmt ≡ (open_word n While >>= (λ line. test (pred n) >>= (λ x. stmt >>= (λ body. pure (stated (s.While x body) line)))))
unfolding loop
loop_reads n stmt = refl
