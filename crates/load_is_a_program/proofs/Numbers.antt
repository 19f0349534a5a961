-- The decimal text of a number is spelled like a number, and has its value.
use Rattle.std.proofs.Common.{◌≡◌, ℕ, ◌+◌, ◌*◌, ◌-◌, ◌^◌, ◌<◌, true, false, not, ◌==◌, List, [], ◌∷◌, length, get_or, fold, refl, ap, ◌∙◌, arith, decimal}
use Rattle.std.specs.Char.{digit_value}
use Rattle.std.specs.List.{list_all}
use Rattle.std.specs.Str.Parse.{AllDigits, digits_value_after, digits_value}
use Rattle.std.proofs.lemmas.Bool.{and_parts, and_from, ne_eqb}
use Rattle.std.proofs.lemmas.Fmt.{decimal_is_IsNumeral, first_decimal, decimal_nonempty, digits_decimal}
use Rattle.std.proofs.lemmas.Str.{digit_value_digit}
use Rattle.std.proofs.lemmas.Str.Parse.{IsNumeralModel, numerals_by_value, digit_from_value}
use Rattle.std.proofs.Common.{rules}
use Rattle.cc_lexer.specs.Spelling.{is_digit, is_number, decimal_value}

digits : IsNumeralModel (λ ds. list_all is_digit ds ≡ true) (digits_value 10)
digits = numerals_by_value _ (search rules)

number_from : (ds : List ℕ) → list_all is_digit ds ≡ true → 0 < length ds → 48 < get_or ds 0 0 → is_number ds ≡ true
number_from [] h some first = absurd (omega arith)
number_from (b ∷ []) h some first = (and_parts (is_digit b) true h).0
number_from (b ∷ c ∷ bs) h some first =
    let other : (b == 48) ≡ false = ne_eqb b 48 (λ e. omega (arith, e)) in
    and_from (not (b == 48)) _ (ap not other) h

value_after : (v : ℕ) (ds : List ℕ) → AllDigits 10 ds → fold (λ value digit. 10 * value + (digit - 48)) v ds ≡ digits_value_after 10 v ds
value_after v [] h = refl
value_after v (c ∷ cs) h =
    let e = digit_value_digit c (digit_from_value c h.0) in
    ap (λ x. fold (λ value digit. 10 * value + (digit - 48)) x cs) (omega (arith, e)) ∙ value_after (v * 10 + digit_value c) cs h.1

module _ (n : ℕ) (some : 0 < n) (small : n < 2 ^ 64) where
  pub decimal_number : is_number (decimal n) ≡ true
  decimal_number = number_from (decimal n) (digits_decimal digits n small) (decimal_nonempty n small) (first_decimal n some small)

  pub decimal_is : decimal_value (decimal n) ≡ n
  decimal_is = let is = decimal_is_IsNumeral n small in value_after 0 (decimal n) is.0.1 ∙ is.1
