-- One level fewer.
use Rattle.std.proofs.Common.{◌≡◌, ℕ, zero, suc, pred, refl, arith}
use Rattle.cc_grammar.specs.declared.fault.Fault.TheVariants.{TooDeep}
use Rattle.cc_grammar.specs.Lexeme.{Lexemes}
use Rattle.cc_grammar.specs.Reading.{Failed}
use Rattle.cc_grammar.specs.ReadStatements.{stmt, inner_stmt, stmt_line}
use Rattle.cc_statements.specs.Nests.{at_depth}

pub inner_zero : (n : ℕ) (a : Lexemes) → n ≡ 0 → inner_stmt n a ≡ Failed TooDeep a
unfolding inner_stmt
inner_zero zero a h = refl
inner_zero (suc n) a h = absurd (omega arith)

pub inner_one : (n : ℕ) → (n ≡ 0 → ⊥) → inner_stmt n ≡ stmt (pred n)
unfolding inner_stmt
inner_one zero h = absurd (h refl)
inner_one (suc n) h = refl

pub stmt_at : (n : ℕ) → stmt n ≡ at_depth stmt_line n
unfolding stmt inner_stmt
stmt_at zero = refl
stmt_at (suc n) = refl
