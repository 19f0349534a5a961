-- Rounds mark more and more, until one marks nothing new.
use Rattle.std.proofs.Common.{◌≡◌, ℕ, zero, suc, ◌+◌, ◌-◌, ◌≤◌, ◌<◌, ◌⊎◌, inl, inr, Bool, true, false, List, [], ◌∷◌, length, replicate, refl, sym, ap, ◌∙◌, arith}
use Rattle.std.proofs.lemmas.Bool.{cases_lt}
use Rattle.cc_blocking.specs.declared.conduct.Conduct.{Conduct}
use Rattle.cc_blocking.specs.Rounds.{blocks, grown_from, grown, unmarked, rounds, may_block}

pub length-grown_from : (functions : List Conduct) (known marks : List Bool) (left : List Conduct) → length marks ≡ length left
    → length (grown_from functions known marks left) ≡ length marks
length-grown_from functions known [] left h = refl
length-grown_from functions known (mark ∷ marks) [] h = absurd (omega (arith, h))
length-grown_from functions known (mark ∷ marks) (conduct ∷ left) h = ap suc (length-grown_from functions known marks left (omega (arith, h)))

pub length-grown : (functions : List Conduct) (marks : List Bool) → length marks ≡ length functions → length (grown functions marks) ≡ length functions
unfolding grown
length-grown functions marks h = length-grown_from functions marks marks functions h ∙ h

pub length-rounds : (functions : List Conduct) (n : ℕ) (marks : List Bool) → length marks ≡ length functions → length (rounds functions n marks) ≡ length functions
length-rounds functions zero marks h = h
length-rounds functions (suc n) marks h = length-rounds functions n (grown functions marks) (length-grown functions marks h)

falls_or : (b : Bool) (new old : List Bool) → unmarked new ≤ unmarked old → unmarked (b ∷ new) ≤ unmarked (false ∷ old)
falls_or true new old h = omega (arith, h)
falls_or false new old h = omega (arith, h)

falls_from : (functions : List Conduct) (known marks : List Bool) (left : List Conduct) → unmarked (grown_from functions known marks left) ≤ unmarked marks
falls_from functions known [] left = omega arith
falls_from functions known (mark ∷ marks) [] = omega arith
falls_from functions known (true ∷ marks) (conduct ∷ left) = falls_from functions known marks left
falls_from functions known (false ∷ marks) (conduct ∷ left) =
    falls_or (blocks functions known conduct) (grown_from functions known marks left) marks (falls_from functions known marks left)

pub falls : (functions : List Conduct) (marks : List Bool) → unmarked (grown functions marks) ≤ unmarked marks
unfolding grown
falls functions marks = falls_from functions marks marks functions

-- a round that marks no more marks the same
same_or : (b : Bool) (new old : List Bool) → unmarked new ≤ unmarked old → unmarked (b ∷ new) ≡ unmarked (false ∷ old)
    → (b ≡ false) × (unmarked new ≡ unmarked old)
same_or true new old h e = absurd (omega (arith, h, e))
same_or false new old h e = (refl, omega (arith, e))

same_cons : (a b : Bool) (new old : List Bool) → a ≡ b → new ≡ old → (a ∷ new) ≡ (b ∷ old)
same_cons a b new old e f = cc

same_from : (functions : List Conduct) (known marks : List Bool) (left : List Conduct) → length marks ≡ length left
    → unmarked (grown_from functions known marks left) ≡ unmarked marks → grown_from functions known marks left ≡ marks
same_from functions known [] left h e = refl
same_from functions known (mark ∷ marks) [] h e = absurd (omega (arith, h))
same_from functions known (true ∷ marks) (conduct ∷ left) h e =
    same_cons true true (grown_from functions known marks left) marks refl (same_from functions known marks left (omega (arith, h)) e)
same_from functions known (false ∷ marks) (conduct ∷ left) h e =
    let parts = same_or (blocks functions known conduct) (grown_from functions known marks left) marks (falls_from functions known marks left) e in
    same_cons (blocks functions known conduct) false (grown_from functions known marks left) marks parts.0 (same_from functions known marks left (omega (arith, h)) parts.1)

pub same : (functions : List Conduct) (marks : List Bool) → length marks ≡ length functions → unmarked (grown functions marks) ≡ unmarked marks
    → grown functions marks ≡ marks
unfolding grown
same functions marks h e = same_from functions marks marks functions h e

-- where a round marks nothing new, no later one does
pub still : (functions : List Conduct) (n : ℕ) (marks : List Bool) → grown functions marks ≡ marks → rounds functions n marks ≡ marks
still functions zero marks e = refl
still functions (suc n) marks e = rw e (still functions n marks e)

-- a round that does not mark nothing new marks one more
progress : (functions : List Conduct) (marks : List Bool) → length marks ≡ length functions
    → (grown functions marks ≡ marks) ⊎ (unmarked (grown functions marks) + 1 ≤ unmarked marks)
progress functions marks h =
    elim (cases_lt (unmarked (grown functions marks)) (unmarked marks)) [
      | inl less ↦ inr (omega (arith, less))
      | inr most ↦ inl (same functions marks h (omega (arith, most, falls functions marks)))
    ]

settles_on : (functions : List Conduct) (n : ℕ) (marks : List Bool) → grown functions marks ≡ marks → grown functions (rounds functions (suc n) marks) ≡ rounds functions (suc n) marks
settles_on functions n marks e = rw (still functions (suc n) marks e) e

settles_more : (functions : List Conduct) (n : ℕ) (marks : List Bool) → unmarked (rounds functions (suc n) marks) + n ≤ unmarked (grown functions marks)
    → (grown functions marks ≡ marks) ⊎ (unmarked (grown functions marks) + 1 ≤ unmarked marks)
    → (grown functions (rounds functions (suc n) marks) ≡ rounds functions (suc n) marks) ⊎ (unmarked (rounds functions (suc n) marks) + suc n ≤ unmarked marks)
settles_more functions n marks fallen (inl settled) = inl (settles_on functions n marks settled)
settles_more functions n marks fallen (inr less) = inr (omega (arith, fallen, less))

-- each of some rounds marks one more, or the last of them marks nothing new
settles_by : (functions : List Conduct) (n : ℕ) (marks : List Bool) → length marks ≡ length functions
    → (grown functions (rounds functions n marks) ≡ rounds functions n marks) ⊎ (unmarked (rounds functions n marks) + n ≤ unmarked marks)
settles_by functions zero marks h = inr (omega arith)
settles_by functions (suc n) marks h =
    elim (settles_by functions n (grown functions marks) (length-grown functions marks h)) [
      | inl settled ↦ inl settled
      | inr fallen ↦ settles_more functions n marks fallen (progress functions marks h)
    ]

pub settles : (functions : List Conduct) (marks : List Bool) → length marks ≡ length functions → unmarked marks ≡ length functions
    → grown functions (rounds functions (length functions) marks) ≡ rounds functions (length functions) marks
settles functions marks h e =
    elim (settles_by functions (length functions) marks h) [
      | inl settled ↦ settled
      | inr fallen ↦ same functions (rounds functions (length functions) marks) (length-rounds functions (length functions) marks h)
          (omega (arith, fallen, e, falls functions (rounds functions (length functions) marks)))
    ]

pub none-unmarked : (n : ℕ) → unmarked (replicate n false) ≡ n
none-unmarked zero = refl
none-unmarked (suc n) = omega (arith, none-unmarked n)

pub length-none : (n : ℕ) → length (replicate n false) ≡ n
length-none zero = refl
length-none (suc n) = ap suc (length-none n)

-- ---- the rounds that are left

pub begun : (functions : List Conduct) (marks : List Bool) → marks ≡ replicate (length functions) false
    → rounds functions (length functions - 0) marks ≡ may_block functions
unfolding may_block
begun functions marks e =
    let all : length functions - 0 ≡ length functions = omega arith in
    rw all (ap (rounds functions (length functions)) e)

pub one_less : (functions : List Conduct) (i : ℕ) (marks : List Bool) → i < length functions
    → rounds functions (length functions - i) marks ≡ may_block functions
    → rounds functions (length functions - (i + 1)) (grown functions marks) ≡ may_block functions
one_less functions i marks less e =
    let left : suc (length functions - (i + 1)) ≡ length functions - i = omega arith in
    ap (λ n. rounds functions n marks) left ∙ e

pub settled : (functions : List Conduct) (n : ℕ) (marks : List Bool) → length marks ≡ length functions
    → rounds functions n marks ≡ may_block functions → unmarked (grown functions marks) ≡ unmarked marks → marks ≡ may_block functions
settled functions n marks whole e nothing = sym (still functions n marks (same functions marks whole nothing)) ∙ e

pub ended : (functions : List Conduct) (i : ℕ) (marks : List Bool) → length functions ≤ i
    → rounds functions (length functions - i) marks ≡ may_block functions → marks ≡ may_block functions
ended functions i marks over e =
    let left : 0 ≡ length functions - i = omega arith in
    ap (λ n. rounds functions n marks) left ∙ e
