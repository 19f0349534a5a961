-- How a chain ends.
use Rattle.std.proofs.Common.{◌≡◌, ℕ, suc, ◌-◌, List, [], ◌∷◌, length, get_or, refl, arith}
use Rattle.cc_tree.specs.declared.expressions.Expr.{Expr}
use Rattle.cc_tree.specs.declared.expressions.Suffix.{Suffix}
use Rattle.cc_grammar.specs.Endings.{ending, root_ending, tail_ending}

pub ending_none : (x : Expr) (xs : List Suffix) → length xs ≡ 0 → ending x xs ≡ root_ending x
ending_none x [] h = refl
ending_none x (y ∷ ys) h = absurd (omega arith)

pub ending_last : (x : Expr) (xs : List Suffix) (d : Suffix) → (length xs ≡ 0 → ⊥) → ending x xs ≡ tail_ending (get_or xs (length xs - 1) d)
ending_last x [] d h = absurd (h refl)
ending_last x (y ∷ []) d h = refl
ending_last x (y ∷ z ∷ zs) d h =
    let e : length (y ∷ z ∷ zs) - 1 ≡ suc (length (z ∷ zs) - 1) = omega arith in
    rw e (ending_last x (z ∷ zs) d (λ i. omega arith))
