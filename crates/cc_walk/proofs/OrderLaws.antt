-- Threads in order, by processor and then number.
use Rattle.std.proofs.Common.{◌≡◌, ◌⊎◌, inl, inr, ⊎_elim, ℕ, ◌+◌, ◌<◌, ◌≤◌, List, [], ◌∷◌, ◌++◌, Option, Some, None, refl, sym, ap, ◌∙◌, subst, arith}
use Rattle.std.proofs.lemmas.Bool.{cases_lt}
use Rattle.std.proofs.lemmas.List.Elements.{Contains-push, Contains-push_cases, Contains-append_left, Contains-get_or}
use Rattle.std.proofs.lemmas.List.Quantifiers.{all_pairs_push}
use Rattle.std.specs.Prelude.{◌↔◌, Contains, get_or}
use Rattle.cc_ops.specs.declared.number.ThreadNo.{ThreadNo}
use Rattle.cc_walk.specs.Enabled.{IsBefore, IsFirst, AreAll}

abbrev pub thread_no : ℕ → ℕ → ThreadNo
thread_no q k = record { processor = q; thread = k }

same_number : (t u : ThreadNo) → t.processor ≡ u.processor → t.thread ≡ u.thread → t ≡ u
same_number t u e f = ap (λ (q : ℕ). thread_no q t.thread) e ∙ ap (λ (k : ℕ). thread_no u.processor k) f

-- the number behind
pub next_before : (q k : ℕ) (t : ThreadNo) → IsBefore t (thread_no q k) → IsBefore t (thread_no q (k + 1))
next_before q k t before = ⊎_elim
    (λ (less : t.processor < q). inl less)
    (λ (same : (t.processor ≡ q) × (t.thread < k)). inr (same.0, omega (arith, same.1)))
    before

pub before_next : (q k : ℕ) (t : ThreadNo) → IsBefore t (thread_no q (k + 1)) → IsBefore t (thread_no q k) ⊎ (t ≡ thread_no q k)
before_next q k t before = ⊎_elim
    (λ (less : t.processor < q). inl (inl less))
    (λ (same : (t.processor ≡ q) × (t.thread < k + 1)). ⊎_elim
    (λ (lt : t.thread < k). inl (inr (same.0, lt)))
    (λ (le : k ≤ t.thread). let e : t.thread ≡ k = omega (arith, le, same.1) in inr (same_number t (thread_no q k) same.0 e))
    (cases_lt t.thread k))
    before

itself : (q k : ℕ) → IsBefore (thread_no q k) (thread_no q (k + 1))
itself q k = inr (refl, omega arith)

-- Of the threads before t, those of which P holds.
module _ (P : ThreadNo → Type 0) where
  abbrev pub NoneBefore : ThreadNo → Type 0
  NoneBefore t = (u : ThreadNo) → IsBefore u t → ¬ P u

  abbrev pub AreBefore : ThreadNo → List ThreadNo → Type 0
  AreBefore t = AreAll (λ u. IsBefore u t × P u)

  pub none_yet : NoneBefore (thread_no 0 0)
  none_yet u before = ⊎_elim
      (λ (less : u.processor < 0). absurd (omega (arith, less)))
      (λ (same : (u.processor ≡ 0) × (u.thread < 0)). absurd (omega (arith, same.1)))
      before

  pub none_more : (q k : ℕ) → NoneBefore (thread_no q k) → ¬ P (thread_no q k) → NoneBefore (thread_no q (k + 1))
  none_more q k none lacks u before = ⊎_elim
      (λ (h : IsBefore u (thread_no q k)). none u h)
      (λ (e : u ≡ thread_no q k). λ holds. lacks (subst P e holds))
      (before_next q k u before)

  -- where P holds of none of the processor from number k on
  pub none_there : (q k : ℕ) → NoneBefore (thread_no q k) → ((u : ThreadNo) → u.processor ≡ q → k ≤ u.thread → ¬ P u)
      → NoneBefore (thread_no (q + 1) 0)
  none_there q k none past u before = ⊎_elim
      (λ (less : u.processor < q + 1). on_processor less)
      (λ (same : (u.processor ≡ q + 1) × (u.thread < 0)). absurd (omega (arith, same.1)))
      before
    where
      here : u.processor ≡ q → ¬ P u
      here e = ⊎_elim
          (λ (lt : u.thread < k). none u (inr (e, lt)))
          (λ (le : k ≤ u.thread). past u e le)
          (cases_lt u.thread k)

      on_processor : u.processor < q + 1 → ¬ P u
      on_processor less = ⊎_elim
          (λ (lt : u.processor < q). none u (inl lt))
          (λ (le : q ≤ u.processor). let e : u.processor ≡ q = omega (arith, le, less) in here e)
          (cases_lt u.processor q)

  pub none_at_all : (q : ℕ) → NoneBefore (thread_no q 0) → ((u : ThreadNo) → q ≤ u.processor → ¬ P u) → IsFirst P None
  none_at_all q none past u = ⊎_elim
      (λ (lt : u.processor < q). none u (inl lt))
      (λ (le : q ≤ u.processor). past u le)
      (cases_lt u.processor q)

  -- ---- those of which it holds

  module _ {A : Type 0} where
    nothing_in : (x : A) → ¬ Contains {X = A} [] x
    nothing_in x inside = absurd (omega (arith, inside.1))

  pub all_yet : AreBefore (thread_no 0 0) []
  all_yet = record {
    each = λ t. (λ inside. absurd (nothing_in t inside), λ both. absurd (nothing_before t both.0));
    in_order = λ i j d less there. absurd (omega (arith, there));
  }
    where
      nothing_before : (u : ThreadNo) → ¬ IsBefore u (thread_no 0 0)
      nothing_before u before = ⊎_elim
          (λ (less : u.processor < 0). absurd (omega (arith, less)))
          (λ (same : (u.processor ≡ 0) × (u.thread < 0)). absurd (omega (arith, same.1)))
          before

  pub all_skipped : (q k : ℕ) (ts : List ThreadNo) → AreBefore (thread_no q k) ts → ¬ P (thread_no q k) → AreBefore (thread_no q (k + 1)) ts
  all_skipped q k ts all lacks = record {
    each = λ t. (
      λ inside. let h = (all.each t).0 inside in (next_before q k t h.0, h.1),
      λ both. (all.each t).1 (⊎_elim
          (λ (h : IsBefore t (thread_no q k)). let both' : IsBefore t (thread_no q k) × P t = (h, both.1) in both')
          (λ (e : t ≡ thread_no q k). absurd (lacks (subst P e both.1)))
          (before_next q k t both.0)),
    );
    in_order = all.in_order;
  }

  pub all_pushed : (q k : ℕ) (ts : List ThreadNo) → AreBefore (thread_no q k) ts → P (thread_no q k)
      → AreBefore (thread_no q (k + 1)) (ts ++ thread_no q k ∷ [])
  all_pushed q k ts all holds = record {
    each = λ t. (
      λ inside. ⊎_elim
          (λ (old : Contains ts t). let h = (all.each t).0 old in (next_before q k t h.0, h.1))
          (λ (e : thread_no q k ≡ t). subst (λ (u : ThreadNo). IsBefore u (thread_no q (k + 1)) × P u) e (itself q k, holds))
          (Contains-push_cases ts (thread_no q k) t inside),
      λ both. ⊎_elim
          (λ (h : IsBefore t (thread_no q k)). Contains-append_left ts (thread_no q k ∷ []) t ((all.each t).1 (h, both.1)))
          (λ (e : t ≡ thread_no q k). subst (Contains (ts ++ thread_no q k ∷ [])) (sym e) (Contains-push ts (thread_no q k)))
          (before_next q k t both.0),
    );
    in_order = all_pairs_push IsBefore ts (thread_no q k) all.in_order
        (λ i d there. ((all.each (get_or ts i d)).0 (Contains-get_or ts i d there)).0);
  }

  behind_processor : (q k : ℕ) (t : ThreadNo) → IsBefore t (thread_no q k) → IsBefore t (thread_no (q + 1) 0)
  behind_processor q k t before = ⊎_elim
      (λ (less : t.processor < q). inl (omega (arith, less)))
      (λ (same : (t.processor ≡ q) × (t.thread < k)). inl (omega (arith, same.0)))
      before

  in_processor : (q k : ℕ) (t : ThreadNo) → ((u : ThreadNo) → u.processor ≡ q → k ≤ u.thread → ¬ P u)
      → IsBefore t (thread_no (q + 1) 0) → P t → IsBefore t (thread_no q k)
  in_processor q k t past before holds = ⊎_elim
      (λ (less : t.processor < q + 1). ⊎_elim
      (λ (lt : t.processor < q). inl lt)
      (λ (le : q ≤ t.processor). let e : t.processor ≡ q = omega (arith, le, less) in inr (e, early e))
      (cases_lt t.processor q))
      (λ (same : (t.processor ≡ q + 1) × (t.thread < 0)). absurd (omega (arith, same.1)))
      before
    where
      early : t.processor ≡ q → t.thread < k
      early e = ⊎_elim
          (λ (lt : t.thread < k). lt)
          (λ (le : k ≤ t.thread). absurd (past t e le holds))
          (cases_lt t.thread k)

  pub all_there : (q k : ℕ) (ts : List ThreadNo) → AreBefore (thread_no q k) ts → ((u : ThreadNo) → u.processor ≡ q → k ≤ u.thread → ¬ P u)
      → AreBefore (thread_no (q + 1) 0) ts
  all_there q k ts all past = record {
    each = λ t. (
      λ inside. let h = (all.each t).0 inside in (behind_processor q k t h.0, h.1),
      λ both. (all.each t).1 (in_processor q k t past both.0 both.1, both.1),
    );
    in_order = all.in_order;
  }

  pub all_at_all : (q : ℕ) (ts : List ThreadNo) → AreBefore (thread_no q 0) ts → ((u : ThreadNo) → q ≤ u.processor → ¬ P u) → AreAll P ts
  all_at_all q ts all past = record {
    each = λ t. (
      λ inside. ((all.each t).0 inside).1,
      λ holds. (all.each t).1 (⊎_elim
          (λ (lt : t.processor < q). let both : IsBefore t (thread_no q 0) × P t = (inl lt, holds) in both)
          (λ (le : q ≤ t.processor). absurd (past t le holds))
          (cases_lt t.processor q)),
    );
    in_order = all.in_order;
  }

-- what holds of the same threads
module _ (P Q : ThreadNo → Type 0) (same : (t : ThreadNo) → P t ↔ Q t) where
  pub same_first : (o : Option ThreadNo) → IsFirst P o → IsFirst Q o
  same_first None none = λ t holds. none t ((same t).1 holds)
  same_first (Some t) first = ((same t).0 first.0, λ u before holds. first.1 u before ((same u).1 holds))

  pub same_all : (ts : List ThreadNo) → AreAll P ts → AreAll Q ts
  same_all ts all = record {
    each = λ t. (λ inside. (same t).0 ((all.each t).0 inside), λ holds. (all.each t).1 ((same t).1 holds));
    in_order = all.in_order;
  }
