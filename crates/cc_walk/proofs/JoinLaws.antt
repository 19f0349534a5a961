-- Whether branches have ended, in whatever order they are looked at.
use Rattle.std.proofs.Common.{◌≡◌, ℕ, zero, suc, Bool, true, false, ◌&&◌, List, [], ◌∷◌, ◌++◌, reverse, drop, refl, sym, ap, ◌∙◌}
use Rattle.std.proofs.lemmas.Grind.{reverse_onto}
use Rattle.cc_ops.specs.declared.number.ThreadNo.{ThreadNo}
use Rattle.numbered_runs.specs.Machine.{Progress}
use Rattle.numbered_runs.specs.Looks.{has_ended, all_ended}

and_false : (b : Bool) → (b && false) ≡ false
and_false true = refl
and_false false = refl

and_assoc : (a b c : Bool) → ((a && b) && c) ≡ (a && (b && c))
and_assoc true b c = refl
and_assoc false b c = refl

and_swapped : (a b : Bool) → (a && (b && true)) ≡ (b && a)
and_swapped true true = refl
and_swapped true false = refl
and_swapped false true = refl
and_swapped false false = refl

module _ (threads : List (List Progress)) (kids : List ThreadNo) where
  abbrev ended : ℕ → Bool
  ended = has_ended threads kids

  abbrev ended_all : List ℕ → Bool
  ended_all = all_ended threads kids

  ended_joined : (xs ys : List ℕ) → ended_all (xs ++ ys) ≡ (ended_all xs && ended_all ys)
  ended_joined [] ys = refl
  ended_joined (x ∷ xs) ys = ap (λ b. ended x && b) (ended_joined xs ys) ∙ sym (and_assoc (ended x) (ended_all xs) (ended_all ys))

  pub ended_reversed : (xs : List ℕ) → ended_all (reverse xs) ≡ ended_all xs
  ended_reversed [] = refl
  ended_reversed (x ∷ xs) =
      ap ended_all (reverse_onto xs x [])
      ∙ ended_joined (reverse xs) (x ∷ [])
      ∙ and_swapped (ended_all (reverse xs)) (ended x)
      ∙ ap (λ b. ended x && b) (ended_reversed xs)

  -- where one of the later ones goes on, one goes on
  pub going_behind : (n : ℕ) (xs : List ℕ) → ended_all (drop n xs) ≡ false → ended_all xs ≡ false
  going_behind zero xs is = is
  going_behind (suc n) [] is = is
  going_behind (suc n) (x ∷ xs) is = ap (λ b. ended x && b) (going_behind n xs is) ∙ and_false (ended x)

  -- one that has ended is passed, and at one that goes on it is known
  pub passed : (k : ℕ) (xs : List ℕ) → true ≡ ended k → ended_all (k ∷ xs) ≡ ended_all xs
  passed k xs is = ap (λ b. b && ended_all xs) (sym is)

  pub stopped : (k : ℕ) (xs : List ℕ) → false ≡ ended k → ended_all (k ∷ xs) ≡ false
  stopped k xs is = ap (λ b. b && ended_all xs) (sym is)
