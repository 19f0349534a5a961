-- Lengths, and the values of constants.
use Rattle.cc_core.specs.Core as core
use Rattle.cc_core.specs.Names as names
use Rattle.core_types.specs.Types.{Types}
use Rattle.core_types.specs.Values.{World}
use Rattle.core_types.specs.Typing.{Scope}
use Rattle.std.proofs.Common.{◌≡◌, ℕ, zero, suc, ◌≤◌, ℤ, pos, negsuc, Bool, true, false, List, Option, Some, None, refl, arith}
use Rattle.std.specs.Prelude.{◌||◌, int_lt, if◌then◌else◌}
use Rattle.std.proofs.lemmas.Bool.{true≢false, ltb-false}
use Rattle.cc_names.specs.declared.broken.Broken.{Broken}
use Rattle.cc_names.specs.declared.broken.Broken.TheVariants.{Limit}
use Rattle.cc_names.specs.declared.rule.StaticLimit.TheVariants.{ArrayLength}
use Rattle.cc_scopes.specs.declared.state.Local.{Local}
use Rattle.cc_scopes.specs.declared.typed.Typed.{Typed}
use Rattle.cc_scopes.specs.declared.typed.Typed.TheVariants as typed
use Rattle.cc_scopes.specs.declared.types.Declared.{Declared}
use Rattle.cc_scopes.specs.Elab.{◌>>◌, pure, note}
use Rattle.cc_scopes.specs.Scope.{Context}
use Rattle.cc_scopes.specs.Lengths.{no_length, natural, length_in_range, value_length, length_of, no_value, value_or_fault, constant_of}
use Rattle.source_types.specs.Reading.{IsThere, Anything}
use Rattle.source_types.proofs.Runs.{after, done}
use Rattle.source_types.specs.Reading.{Grown}
use Rattle.source_types.proofs.Fits.{Reads, TypedFits}
use Rattle.source_types.proofs.StateLaws.{note_runs}

-- an array has 1 to 65,536 elements
abbrev pub IsLength : ℕ → Type 0
IsLength k = (1 ≤ k) × (k ≤ 65536)

module _ (F : Type 0) (grown : Grown) (ds : List Declared) (ls : List Local) {P : Type 0} where
  -- what follows what is noted is nowhere
  never_noted : {A : Type 0} (b : Broken) (a : A) {Q : A → Type 0} → Reads F grown ds ls P (note b >> pure a) Q
  never_noted b a = after {X = ⊥} (note_runs F grown ds ls b {Q = λ u. ⊥}) (λ u x. x) (done a (λ x. absurd x.1))

module _ (program : core.Program) (y : Types) (world : World) (home : names.Name) (here : Scope) (F : Type 0) (grown : Grown) (ds : List Declared) (ls : List Local) (cx : Context) where
  no_length_runs : (b : Broken) {P : Type 0} → Reads F grown ds ls P (no_length b) (IsThere IsLength)
  no_length_runs b = never_noted F grown ds ls b None

  above_zero : (z : ℤ) → int_lt z (pos 1) ≡ false → 1 ≤ natural z
  above_zero (pos zero) is = absurd (true≢false is)
  above_zero (pos (suc k)) is = omega arith
  above_zero (negsuc k) is = absurd (true≢false is)

  few : (z : ℤ) → int_lt (pos 65536) z ≡ false → natural z ≤ 65536
  few (pos k) is = ltb-false 65536 k is
  few (negsuc k) is = omega arith

  left_false : (a b : Bool) → (a || b) ≡ false → a ≡ false
  left_false true b is = is
  left_false false b is = refl

  right_false : (a b : Bool) → (a || b) ≡ false → b ≡ false
  right_false true b is = absurd (true≢false is)
  right_false false b is = is

  in_range_or_not : (b : Bool) (z : ℤ) → (b ≡ false → IsLength (natural z)) → {P : Type 0}
      → Reads F grown ds ls P (if b then no_length (Limit ArrayLength cx.line) else pure (Some (natural z))) (IsThere IsLength)
  in_range_or_not true z f = no_length_runs _
  in_range_or_not false z f = done (Some (natural z)) (λ x. f refl)

  length_in_range_runs : (z : ℤ) {P : Type 0} → Reads F grown ds ls P (length_in_range cx z) (IsThere IsLength)
  unfolding length_in_range
  length_in_range_runs z = in_range_or_not (int_lt z (pos 1) || int_lt (pos 65536) z) z (λ is. (
    above_zero z (left_false (int_lt z (pos 1)) (int_lt (pos 65536) z) is),
    few z (right_false (int_lt z (pos 1)) (int_lt (pos 65536) z) is),
  ))

  value_length_runs : (o : Option ℤ) {P : Type 0} → Reads F grown ds ls P (value_length cx o) (IsThere IsLength)
  value_length_runs None = no_length_runs _
  value_length_runs (Some z) = length_in_range_runs z

  pub length_of_runs : (t : Typed) → Reads F grown ds ls (TypedFits program y world home here t) (length_of cx t) (IsThere IsLength)
  length_of_runs typed.Broken = no_length_runs _
  length_of_runs typed.Spoiled = done None (λ x. x)
  length_of_runs (typed.Value v) = no_length_runs _
  length_of_runs (typed.This class remote) = no_length_runs _
  length_of_runs (typed.Constant term value) = value_length_runs value
  length_of_runs (typed.Place p) = no_length_runs _
  length_of_runs (typed.Array p k) = no_length_runs _
  length_of_runs (typed.Object o) = no_length_runs _

  no_value_runs : {P : Type 0} → Reads F grown ds ls P (no_value cx) (IsThere Anything)
  no_value_runs = never_noted F grown ds ls _ None

  value_or_fault_runs : (o : Option ℤ) {P : Type 0} → Reads F grown ds ls P (value_or_fault cx o) (IsThere Anything)
  value_or_fault_runs None = no_value_runs
  value_or_fault_runs (Some z) = done (Some z) (λ x. tt)

  pub constant_of_runs : (t : Typed) → Reads F grown ds ls (TypedFits program y world home here t) (constant_of cx t) (IsThere Anything)
  constant_of_runs typed.Broken = no_value_runs
  constant_of_runs typed.Spoiled = done None (λ x. x)
  constant_of_runs (typed.Value v) = no_value_runs
  constant_of_runs (typed.This class remote) = no_value_runs
  constant_of_runs (typed.Constant term value) = value_or_fault_runs value
  constant_of_runs (typed.Place p) = no_value_runs
  constant_of_runs (typed.Array p k) = no_value_runs
  constant_of_runs (typed.Object o) = no_value_runs
