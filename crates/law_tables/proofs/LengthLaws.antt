-- The length of an array is in range.
use Rattle.std.proofs.Common.{◌≡◌, ℕ, zero, suc, ◌≤◌, ℤ, pos, negsuc, Bool, true, false, Option, Some, None, refl, ap, subst, arith}
use Rattle.std.specs.Prelude.{◌||◌, int_lt, if◌then◌else◌}
use Rattle.std.proofs.lemmas.Bool.{true≢false, ltb-false}
use Rattle.std.proofs.lemmas.Option.{none-some}
use Rattle.cc_names.specs.declared.broken.Broken.TheVariants.{Limit}
use Rattle.cc_names.specs.declared.rule.StaticLimit.TheVariants.{ArrayLength}
use Rattle.cc_scopes.specs.declared.state.State.{State}
use Rattle.cc_scopes.specs.declared.typed.Typed.{Typed}
use Rattle.cc_scopes.specs.declared.typed.Typed.TheVariants as typed
use Rattle.cc_scopes.specs.Elab.{pure}
use Rattle.cc_scopes.specs.Lengths.{no_length, natural, length_in_range, value_length, length_of}
use Rattle.cc_scopes.specs.Scope.{Context}
use Rattle.cc_tree.specs.declared.expressions.Expr.{Expr}
use Rattle.cc_typing.specs.Expr.{expr}
use Rattle.cc_typing.specs.Whole.{array_length}

abbrev IsLength : ℕ → Type 0
IsLength n = (1 ≤ n) × (n ≤ 65536)

some_inside : {A : Type 0} (x y : A) → Some x ≡ Some y → x ≡ y
some_inside {A = A} x y is = ap (λ o. elim o as (λ z. A) [ None ↦ x | Some z ↦ z ]) is

above_zero : (z : ℤ) → int_lt z (pos 1) ≡ false → 1 ≤ natural z
above_zero (pos zero) is = absurd (true≢false is)
above_zero (pos (suc k)) is = omega arith
above_zero (negsuc k) is = absurd (true≢false is)

few : (z : ℤ) → int_lt (pos 65536) z ≡ false → natural z ≤ 65536
few (pos k) is = ltb-false 65536 k is
few (negsuc k) is = omega arith

left_false : (a b : Bool) → (a || b) ≡ false → a ≡ false
left_false true b is = is
left_false false b is = refl

right_false : (a b : Bool) → (a || b) ≡ false → b ≡ false
right_false true b is = absurd (true≢false is)
right_false false b is = is

module _ (cx : Context) (s : State) (n : ℕ) where
  in_range_or_not : (b : Bool) (z : ℤ) → (b ≡ false → IsLength (natural z))
      → ((if b then no_length (Limit ArrayLength cx.line) else pure (Some (natural z))) s).0 ≡ Some n → IsLength n
  in_range_or_not true z f is = absurd (none-some n is)
  in_range_or_not false z f is = subst IsLength (some_inside (natural z) n is) (f refl)

  in_range : (z : ℤ) → (length_in_range cx z s).0 ≡ Some n → IsLength n
  unfolding length_in_range
  in_range z is = in_range_or_not (int_lt z (pos 1) || int_lt (pos 65536) z) z (λ out. (
    above_zero z (left_false (int_lt z (pos 1)) (int_lt (pos 65536) z) out),
    few z (right_false (int_lt z (pos 1)) (int_lt (pos 65536) z) out),
  )) is

  of_value : (o : Option ℤ) → (value_length cx o s).0 ≡ Some n → IsLength n
  of_value None is = absurd (none-some n is)
  of_value (Some z) is = in_range z is

  of_typed : (t : Typed) → (length_of cx t s).0 ≡ Some n → IsLength n
  of_typed typed.Broken is = absurd (none-some n is)
  of_typed typed.Spoiled is = absurd (none-some n is)
  of_typed (typed.Value v) is = absurd (none-some n is)
  of_typed (typed.This class remote) is = absurd (none-some n is)
  of_typed (typed.Constant term value) is = of_value value is
  of_typed (typed.Place p) is = absurd (none-some n is)
  of_typed (typed.Array p k) is = absurd (none-some n is)
  of_typed (typed.Object o) is = absurd (none-some n is)

pub length_in : (cx : Context) (e : Expr) (s : State) (n : ℕ) → (array_length cx e s).0 ≡ Some n → (1 ≤ n) × (n ≤ 65536)
unfolding array_length
length_in cx e s n is = let r = expr cx e s in of_typed cx r.1 n r.0 is
