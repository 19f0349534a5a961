-- Where moves commute, one resting run decides every run.
use Rattle.std.proofs.Common.{◌≡◌, ◌≢◌, ℕ, suc, ◌<◌, ◌+◌, List, [], ◌∷◌, length, refl, sym, ap, subst, ◌∙◌, ⊎_elim, arith}
use Rattle.std.specs.Prelude.{ℤ}
use Rattle.cc_core.specs.Names.{Name}
use Rattle.cc_core.specs.Core.{Program}
use Rattle.cc_core.specs.Config.{Config}
use Rattle.cc_core.specs.Steps.{Moves, Faults, Waits, step, Run, IsAtRest, start}
use Rattle.cc_core.specs.Laws.{IsReached}
use Rattle.cc_core.proofs.Maps.{cases_name}
use Rattle.cc_core.proofs.StepLaws.{run_joined}
use Rattle.cc_one_answer.specs.Answer.{IsFaulty, MovesCommute, HasOneAnswer}

module _ (p : Program) (Good : Config → Type 0)
    (keeps : (t : Name) (s s1 : Config) → Good s → step p t s ≡ Moves s1 → Good s1) (commutes : (s : Config) → Good s → MovesCommute p s) where
  -- a run of n steps
  record Goes (n : ℕ) (s r : Config) : Type 0 where
    by : List Name
    steps : length by ≡ n
    run : Run p by s r

  -- what a resting run of n steps from s says of s
  record Bound (n : ℕ) (s r : Config) : Type 0 where
    calm : (u : Name) → IsFaulty p u s → ⊥
    again : (u : Name) (s1 : Config) → step p u s ≡ Moves s1 → (m : ℕ) × (n ≡ suc m) × Goes m s1 r

  bound : (ts : List Name) (s r : Config) → Good s → IsAtRest p r → Run p ts s r → Bound (length ts) s r
  bound [] s r good rest run = record {
    calm = λ u f. let e : Faults f.0 f.1 ≡ Waits = sym f.2 ∙ (ap (step p u) run ∙ rest u) in cc;
    again = λ u s1 m. let e : Moves s1 ≡ Waits = sym m ∙ (ap (step p u) run ∙ rest u) in cc;
  }
  bound (t ∷ ts) s r good rest run =
      let s1 = run.0 in
      let ih = bound ts s1 r (keeps t s s1 good run.1) rest run.2 in
      let meets = commutes s good in
      record {
        calm = λ u f. ⊎_elim
            (λ (e : t ≡ u). let g : Moves s1 ≡ Faults f.0 f.1 = sym run.1 ∙ (ap (λ x. step p x s) e ∙ f.2) in cc)
            (λ (ne : t ≢ u). ih.calm u (meets.fault_lasts t u s1 ne run.1 f))
            (cases_name t u);
        again = λ u s2 m. ⊎_elim
            (λ (e : t ≡ u).
            let g : Moves s1 ≡ Moves s2 = sym run.1 ∙ (ap (λ x. step p x s) e ∙ m) in
            let same : s1 ≡ s2 = cc in
            (length ts, refl, record { by = ts; steps = refl; run = subst (λ x. Run p ts x r) same run.2 }))
            (λ (ne : t ≢ u). ⊎_elim
            (λ (c : (s3 : Config) × (step p u s1 ≡ Moves s3) × (step p t s2 ≡ Moves s3)).
            let a = ih.again u c.0 c.1 in
            (length ts, refl, record { by = t ∷ a.2.by; steps = ap suc a.2.steps ∙ sym a.1; run = (c.0, c.2, a.2.run) }))
            (λ (f : IsFaulty p u s1). absurd (ih.calm u f))
            (meets.two_moves t u s1 s2 ne run.1 m))
            (cases_name t u);
      }

  -- what is left of the run after some steps of any threads
  record Left (n m : ℕ) (x r : Config) : Type 0 where
    rest : ℕ
    sum : n ≡ m + rest
    good : Good x
    goes : Goes rest x r

  left : (n : ℕ) (us : List Name) (s x r : Config) → Good s → IsAtRest p r → Goes n s r → Run p us s x → Left n (length us) x r
  left n [] s x r good rest goes other =
      record { rest = n; sum = omega arith; good = subst Good other good; goes = subst (λ y. Goes n y r) other goes }
  left n (u ∷ us) s x r good rest goes other =
      let a = (bound goes.by s r good rest goes.run).again u other.0 other.1 in
      let b = left a.0 us other.0 x r (keeps u s other.0 good other.1) rest a.2 other.2 in
      let total = goes.steps in let first = a.1 in let sum = b.sum in
      record { rest = b.rest; sum = omega (arith, total, first, sum); good = b.good; goes = b.goes }

  none_left : (n : ℕ) (x r : Config) → n ≡ 0 → Goes n x r → x ≡ r
  none_left n x r e g = from g.by g.steps g.run
    where
      from : (by : List Name) → length by ≡ n → Run p by x r → x ≡ r
      from [] h run = run
      from (t ∷ ts) h run = absurd (omega (arith, e, h))

  some_left : (n : ℕ) (x r : Config) → 0 < n → Goes n x r → (t : Name) × (y : Config) × (step p t x ≡ Moves y)
  some_left n x r lt g = from g.by g.steps g.run
    where
      from : (by : List Name) → length by ≡ n → Run p by x r → (t : Name) × (y : Config) × (step p t x ≡ Moves y)
      from [] h run = absurd (omega (arith, lt, h))
      from (t ∷ ts) h run = (t, run.0, run.1)

  pub one_answer : (s : Config) (ts : List Name) (r : Config) → Good s → IsAtRest p r → Run p ts s r → HasOneAnswer p s (length ts) r
  one_answer s ts r good rest run =
      let goes : Goes (length ts) s r = record { by = ts; steps = refl; run = run } in
      record {
        no_fault = λ us x kind line other f.
            let b = left (length ts) us s x r good rest goes other in
            (bound b.goes.by x r b.good rest b.goes.run).calm f.0 (kind, line, f.1);
        bounded = λ us x other. let b = left (length ts) us s x r good rest goes other in let sum = b.sum in omega (arith, sum);
        same_end = λ us x other e.
            let b = left (length ts) us s x r good rest goes other in
            let sum = b.sum in
            none_left b.rest x r (omega (arith, sum, e)) b.goes;
        goes_on = λ us x other lt.
            let b = left (length ts) us s x r good rest goes other in
            let sum = b.sum in
            some_left b.rest x r (omega (arith, sum, lt)) b.goes;
      }

reached_step : (p : Program) (ns : List ℤ) (t : Name) (s s1 : Config) → IsReached p ns s → step p t s ≡ Moves s1 → IsReached p ns s1
reached_step p ns t s s1 at move = (_, run_joined p at.0 (t ∷ []) (start p ns) s s1 at.1 (s1, move, refl))

pub commuting : (p : Program) (ns : List ℤ) → ((s : Config) → IsReached p ns s → MovesCommute p s) → (ts : List Name) (r : Config)
    → Run p ts (start p ns) r → IsAtRest p r → HasOneAnswer p (start p ns) (length ts) r
commuting p ns commutes ts r run rest =
    one_answer p (IsReached p ns) (reached_step p ns) commutes (start p ns) ts r ([], refl) rest run
