-- What a look-up by name finds after a write.
use Rattle.std.proofs.Common.{◌≡◌, ◌≢◌, ℕ, ◌+◌, Bool, true, false, Option, Some, None, List, [], ◌∷◌, ◌++◌, length, refl, sym, ap, arith, slice_set, bytes_eq, position}
use Rattle.std.specs.List.{position_or_len, find}
use Rattle.std.specs.Option.{option_map, option_or}
use Rattle.std.specs.Prelude.{cond, nat_lt, not}
use Rattle.std.proofs.lemmas.List.Folds.{find-set, find_past, find-append}
use Rattle.std.proofs.lemmas.List.Sums.{position_or_len_is}
use Rattle.std.proofs.lemmas.List.Quantifiers.{position-Some}
use Rattle.std.proofs.lemmas.Slice.Eq.{bytes_eq-Decides}
use Rattle.std.proofs.lemmas.Grind.{common_steps}
use Rattle.ccpp_edge.specs.declared.mem_shelf.NamedBytes.{NamedBytes}
use Rattle.ccpp_edge.specs.Fake.{bytes_under}

module _ {X : Type 0} (p : X → Bool) where
  -- the first place that passes is where a look-up stops
  find-at_position : (xs : List X) (at : ℕ) (x : X) → position p xs ≡ Some at → p x ≡ true → find p (slice_set xs at x) ≡ Some x
  find-at_position xs at x first passes =
      let known = position-Some p xs at x first in
      find-set p xs at x (sym (position_or_len_is p xs at x (omega (arith, known.0)) known.2 (λ _. known.1))) known.0 passes

  find-no_position : (xs : List X) → position p xs ≡ None → find p xs ≡ None
  find-no_position [] none = refl
  find-no_position (x ∷ xs) none = by_head (p x) none (find-no_position xs)
    where
      by_head : (b : Bool)
          → cond (nat_lt (cond (not b) (1 + position_or_len p xs) 0) (length (x ∷ xs))) (Some (cond (not b) (1 + position_or_len p xs) 0)) None ≡ None
          → (position p xs ≡ None → find p xs ≡ None) → cond b (Some x) (find p xs) ≡ None
      by_head true none rest = grind (arith, common_steps)
      by_head false none rest = grind (arith, common_steps)

or_none : {X : Type 0} (found : Option X) → option_or found None ≡ found
or_none None = refl
or_none (Some x) = refl

-- what has one name does not have another
other_name : (file name other : List ℕ) → bytes_eq file name ≡ true → other ≢ name → bytes_eq file other ≡ false
other_name file name other same differs = grind (arith, bytes_eq-Decides)

module _ (files : List NamedBytes) (file : NamedBytes) where
  bears_name : bytes_eq file.name file.name ≡ true
  bears_name = (bytes_eq-Decides file.name file.name).1 refl

  module _ (at : ℕ) (first : position (λ f. bytes_eq f.name file.name) files ≡ Some at) where
    pub bytes_under-set : bytes_under (slice_set files at file) file.name ≡ Some file.bytes
    bytes_under-set = ap (option_map (λ f. f.bytes)) (find-at_position (λ f. bytes_eq f.name file.name) files at file first bears_name)

    pub bytes_under-set_other : (other : List ℕ) → other ≢ file.name → bytes_under (slice_set files at file) other ≡ bytes_under files other
    bytes_under-set_other other differs =
        let known = position-Some (λ f. bytes_eq f.name file.name) files at file first in
        ap (option_map (λ f. f.bytes)) (find_past (λ f. bytes_eq f.name other) files at file file (other_name _ file.name other known.1 differs) (other_name _ file.name other bears_name differs))

  pub bytes_under-push : position (λ f. bytes_eq f.name file.name) files ≡ None → bytes_under (files ++ file ∷ []) file.name ≡ Some file.bytes
  bytes_under-push none = rw (find-append (λ f. bytes_eq f.name file.name) files (file ∷ []), find-no_position (λ f. bytes_eq f.name file.name) files none, bears_name) refl

  pub bytes_under-push_other : (other : List ℕ) → other ≢ file.name → bytes_under (files ++ file ∷ []) other ≡ bytes_under files other
  bytes_under-push_other other differs =
      rw (find-append (λ f. bytes_eq f.name other) files (file ∷ []), other_name file.name file.name other bears_name differs)
      (ap (option_map (λ f. f.bytes)) (or_none (find (λ f. bytes_eq f.name other) files)))
