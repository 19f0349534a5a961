-- One level fewer.
use Rattle.std.proofs.Common.{◌≡◌, ℕ, zero, suc, ◌-◌, refl, arith}
use Rattle.cc_grammar.specs.declared.fault.Fault.TheVariants.{TooDeep}
use Rattle.cc_grammar.specs.Lexeme.{Lexemes}
use Rattle.cc_grammar.specs.Reading.{Failed}
use Rattle.cc_grammar.specs.ReadExpressions.{expr, inner_expr, inner_unary, at_level, expr_line, unary_line}
use Rattle.cc_expressions.specs.declared.expressions.Form.{Form}
use Rattle.cc_expressions.specs.declared.expressions.Form.TheVariants.{Whole, Unary}
use Rattle.cc_expressions.specs.Nests.{within, within_level}

pub inner_zero : (n : ℕ) (form : Form) (a : Lexemes) → n ≡ 0 → within_level n form a ≡ Failed TooDeep a
unfolding inner_expr inner_unary
inner_zero zero Whole a h = refl
inner_zero zero Unary a h = refl
inner_zero (suc n) form a h = absurd (omega arith)

pub inner_one : (n : ℕ) (form : Form) → (n ≡ 0 → ⊥) → within_level n form ≡ within (n - 1) form
unfolding inner_expr inner_unary
inner_one zero form h = absurd (h refl)
inner_one (suc n) Whole h = let e : suc n - 1 ≡ n = omega arith in rw e refl
inner_one (suc n) Unary h = let e : suc n - 1 ≡ n = omega arith in rw e refl

pub within_whole : (n : ℕ) → within n Whole ≡ at_level expr_line n
unfolding expr inner_expr inner_unary
within_whole zero = refl
within_whole (suc n) = refl

pub within_unary : (n : ℕ) → within n Unary ≡ at_level unary_line n
unfolding expr inner_expr inner_unary
within_unary zero = refl
within_unary (suc n) = refl
