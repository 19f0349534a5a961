-- The first place that is at fault.
use Rattle.std.proofs.Common.{◌≡◌, ℕ, ◌<◌, ◌≤◌, leb, Bool, true, false, Option, Some, None, min, refl, sym, subst, arith, inl, inr, ◌⊎◌, cond}
use Rattle.std.specs.Prelude.{MatchOption}
use Rattle.std.proofs.lemmas.Bool.{cases_lt, leb-true, leb-false}
use Rattle.cc_code.specs.Code.{Code}
use Rattle.cc_code.specs.Valid.{IsEmptyEntry, IsMisaimed, IsCircle, IsBadTarget, IsBadDepth, IsValid}
use Rattle.stack_code.specs.declared.close.CodeFault.{CodeFault}
use Rattle.stack_code.specs.declared.close.CodeFault.TheVariants.{BadTarget, BadDepth}
use Rattle.stack_code.specs.First.{IsFirst, earlier}
use Rattle.stack_code.specs.Faults.{IsFaultOf, first_fault}

module _ (P Q : ℕ → Type 0) where
  abbrev Either : ℕ → Type 0
  Either n = P n ⊎ Q n

  none_of : (n : ℕ) → (P n → ⊥) → (Q n → ⊥) → Either n → ⊥
  none_of n p q (inl x) = p x
  none_of n p q (inr y) = q y

  first_both : (a b : ℕ) → (a ≤ b) ⊎ (b < a) → IsFirst P (Some a) → IsFirst Q (Some b) → IsFirst Either (Some (min a b))
  first_both a b (inl le) p q =
      let is : a ≡ min a b = omega arith in
      (subst Either is (inl p.0), λ n lt. none_of n (p.1 n (omega arith)) (q.1 n (omega arith)))
  first_both a b (inr lt) p q =
      let is : b ≡ min a b = omega arith in
      (subst Either is (inr q.0), λ n less. none_of n (p.1 n (omega arith)) (q.1 n (omega arith)))

  pub first_either : (a b : Option ℕ) → IsFirst P a → IsFirst Q b → IsFirst Either (earlier a b)
  first_either None None p q = λ n. none_of n (p n) (q n)
  first_either (Some a) None p q = (inl p.0, λ n lt. none_of n (p.1 n lt) (q n))
  first_either None (Some b) p q = (inr q.0, λ n lt. none_of n (p n) (q.1 n lt))
  first_either (Some a) (Some b) p q = first_both a b (elim (cases_lt b a) [ inl lt ↦ inr lt | inr le ↦ inl le ]) p q

fault_at : (code : Code) (t d : ℕ) (b : Bool) → leb t d ≡ b → IsFirst (IsBadTarget code) (Some t) → IsFirst (IsBadDepth code) (Some d) → IsFaultOf code (cond b (BadTarget t) (BadDepth d))
fault_at code t d true e p q = let le = leb-true t d e in (p.0, λ n lt. (p.1 n lt, q.1 n (omega arith)))
fault_at code t d false e p q = let less = leb-false t d e in (q.0, p.1 d (omega arith), λ n lt. (p.1 n (omega arith), q.1 n lt))

first_fault_is : (code : Code) (t d : Option ℕ) → IsFirst (IsBadTarget code) t → IsFirst (IsBadDepth code) d → MatchOption (first_fault t d) (IsValid code) (IsFaultOf code)
first_fault_is code None None p q = λ b. (p b, q b)
first_fault_is code (Some t) None p q = (p.0, λ n lt. (p.1 n lt, q n))
first_fault_is code None (Some d) p q = (q.0, p d, λ n lt. (p n, q.1 n lt))
first_fault_is code (Some t) (Some d) p q = fault_at code t d (leb t d) refl p q

-- the four checks together
pub all_faults : (code : Code) (empty misaimed circle aims target depth : Option ℕ) (fault : Option CodeFault) → IsFirst (IsEmptyEntry code) empty → IsFirst (IsMisaimed code) misaimed → IsFirst (IsCircle code) circle → aims ≡ earlier misaimed circle → target ≡ earlier empty aims → IsFirst (IsBadDepth code) depth → fault ≡ first_fault target depth → MatchOption fault (IsValid code) (IsFaultOf code)
all_faults code empty misaimed circle aims target depth fault e m c aims_is target_is d fault_is =
    let both : IsFirst (λ n. IsMisaimed code n ⊎ IsCircle code n) aims =
    subst (IsFirst (λ n. IsMisaimed code n ⊎ IsCircle code n)) (sym aims_is) (first_either (IsMisaimed code) (IsCircle code) misaimed circle m c) in
    let all : IsFirst (IsBadTarget code) target =
    subst (IsFirst (IsBadTarget code)) (sym target_is) (first_either (IsEmptyEntry code) (λ n. IsMisaimed code n ⊎ IsCircle code n) empty aims e both) in
    subst (λ f. MatchOption f (IsValid code) (IsFaultOf code)) (sym fault_is) (first_fault_is code target depth all d)
