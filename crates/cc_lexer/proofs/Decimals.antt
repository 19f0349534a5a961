-- The value of digits, from the first on.
use Rattle.std.proofs.Common.{◌≡◌, ℕ, ◌+◌, ◌-◌, ◌*◌, ◌^◌, ℤ, pos, Option, None, ◌<◌, ◌≤◌, [], ◌∷◌, length, take, drop, get_or, fold, ap, sym, ◌∙◌, arith, take-append-drop}
use Rattle.std.proofs.lemmas.List.Sums.{fold_more, fold-append}
use Rattle.std.specs.Prelude.{SomeIff}
use Rattle.cc_lexer.specs.Spelling.{Text, decimal_value}
use Rattle.cc_lexer.specs.Cut.{largest_number}

abbrev next_value : ℕ → ℕ → ℕ
next_value value digit = 10 * value + (digit - 48)

-- one digit more
pub value_more : (digits : Text) (i : ℕ) → i < length digits → decimal_value (take (i + 1) digits) ≡ 10 * decimal_value (take i digits) + (get_or digits i 0 - 48)
value_more digits i h = fold_more next_value 0 digits i 0 h

grows : (value : ℕ) (digits : Text) → value ≤ fold next_value value digits
grows value [] = omega arith
grows value (d ∷ ds) = omega (arith, grows (next_value value d) ds)

-- the first digits have no larger value than all
pub value-take-le : (digits : Text) (i : ℕ) → decimal_value (take i digits) ≤ decimal_value digits
value-take-le digits i =
    let e : decimal_value digits ≡ fold next_value (decimal_value (take i digits)) (drop i digits) = ap decimal_value (sym (take-append-drop i digits)) ∙ fold-append next_value 0 (take i digits) (drop i digits) in
    omega (arith, e, grows (decimal_value (take i digits)) (drop i digits))

-- the digits up to one of them are too large, and so are all
pub too_large : (digits : Text) (i : ℕ) (r : Option ℤ) → r ≡ None → i < length digits → 2 ^ 64 ≤ 10 * decimal_value (take i digits) + (get_or digits i 0 - 48) → SomeIff r (decimal_value digits ≤ largest_number) (pos (decimal_value digits))
too_large digits i r none h large =
    let small : decimal_value digits ≤ largest_number → ⊥ = λ s. omega (arith, s, large, value_more digits i h, value-take-le digits (i + 1)) in
    rw none small
