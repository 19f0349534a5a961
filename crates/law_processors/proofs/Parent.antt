-- Where all other threads that join have a branch that lives, an end wakes the parent alone.
use Rattle.std.proofs.Common.{◌≡◌, ⊎_elim, ℕ, zero, suc, ◌<◌, ◌≤◌, [], map, true, Option, Some, None, refl, ap, ◌∙◌, arith}
use Rattle.std.specs.Prelude.{slice_get, if◌then◌else◌}
use Rattle.std.proofs.lemmas.Bool.{cases_lt}
use Rattle.cc_ops.specs.declared.number.ThreadNo.{ThreadNo}
use Rattle.cc_code.specs.Code.{Code, move}
use Rattle.law_processors.specs.Alone.{alone_at, be_ready, put_entry, rejoins, rejoined, seen_entry}
use Rattle.law_processors.specs.Processors.{Own, Goes, Joins, Asking, Has, Entry, Lives, Ended, Processor}
use Rattle.law_processors.specs.Orderly.{OthersWait}
use Rattle.law_processors.specs.Living.{one_lives, joins_of}
use Rattle.law_mesh.specs.Spots.{Fiber}
use Rattle.law_processors.proofs.Joined.{one_lives_on, Rejoins, rejoins_so}

-- who has a branch that lives stays
rejoins_none : (code : Code) (q k : ℕ) (o : Option Entry) (p : Processor)
    → ((f : Fiber) (c : Option ThreadNo) → o ≡ Some (Lives f Joins c) → one_lives (alone_at q [] (map seen_entry p.table)) f.kids (joins_of (move code f.thread)) ≡ true)
    → rejoins code q k o p ≡ p
rejoins_none code q k None p h = refl
rejoins_none code q k (Some (Ended v)) p h = refl
rejoins_none code q k (Some (Lives f Goes c)) p h = refl
rejoins_none code q k (Some (Lives f Asking c)) p h = refl
rejoins_none code q k (Some (Lives f (Has v) c)) p h = refl
rejoins_none code q k (Some (Lives f Joins c)) p h = ap (λ b. if b then p else be_ready (Own k) (put_entry k (Lives f Goes c) p)) (h f c refl)

module _ (code : Code) (q i : ℕ) (p : Processor) (others : OthersWait code q i p) where
  abbrev woken : Processor
  woken = rejoins code q i (slice_get p.table i) p

  r : Rejoins code q i p woken
  r = rejoins_so code q i (slice_get p.table i) p refl

  before : (k : ℕ) → k ≤ i → rejoined code q k p ≡ p
  before zero le = refl
  before (suc k) le =
      ap (λ x. rejoins code q k (slice_get x.table k) x) (before k (omega (arith, le)))
      ∙ rejoins_none code q k (slice_get p.table k) p (λ f c e. others k f c (λ s. (absurd (omega (arith, le, s)))) e)

  pub behind : (k : ℕ) → i < k → rejoined code q k p ≡ woken
  behind zero lt = absurd (omega (arith, lt))
  behind (suc k) lt = ⊎_elim
      (λ (h : i < k). ap (λ x. rejoins code q k (slice_get x.table k) x) (behind k h)
      ∙ rejoins_none code q k (slice_get woken.table k) woken
      (λ f c e. one_lives_on q p.table woken.table r.lives f.kids (joins_of (move code f.thread)) (others k f c (λ s. (absurd (omega (arith, h, s)))) (r.joins k f c e))))
      (λ (h : k ≤ i).
      let same : k ≡ i = omega (arith, h, lt) in
      ap (λ x. rejoins code q k (slice_get x.table k) x) (before k h) ∙ ap (λ j. rejoins code q j (slice_get p.table j) p) same)
      (cases_lt i k)
