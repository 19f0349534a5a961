-- Where silent instructions go round in no circle, a way of them comes to no place twice, so it is no longer than the code.
use Rattle.std.proofs.Common.{◌≡◌, ℕ, zero, suc, ◌+◌, ◌<◌, ◌≤◌, ◌||◌, List, [], ◌∷◌, length, Option, Some, None, Bool, true, false, eqb, refl, sym, ap, ◌∙◌, subst, arith, inl, inr}
use Rattle.std.specs.Prelude.{slice_get}
use Rattle.std.specs.List.{list_any, AllByRecursion, IsDistinct}
use Rattle.std.proofs.lemmas.Bool.{cases_lt, cases_Bool, ne_eqb, eqb-true, false≢true}
use Rattle.std.proofs.lemmas.Option.{slice_get_past}
use Rattle.std.proofs.lemmas.Map.Steps.{length-le_from_distinct_below}
use Rattle.cc_code.specs.Code.{Code}
use Rattle.cc_code.specs.Settles.{silent_to, Settles, stops, goes}
use Rattle.cc_code.specs.Valid.{LeadsSilently, step, steps}

abbrev one_more : (ℕ → ℕ) → Option ℕ → ℕ
one_more count None = 0
one_more count (Some c) = suc (count c)

abbrev unwrapped : Option ℕ → ℕ
unwrapped None = 0
unwrapped (Some c) = c

none_some : (c : ℕ) → None ≡ Some c → ⊥
none_some c e = cc

-- how many silent instructions there are on the way from a place, as far as so many
abbrev pub silent_way : Code → (most : ℕ) → ℕ → ℕ
silent_way code zero b = 0
silent_way code (suc most) b = one_more (silent_way code most) (silent_to b (slice_get code.places b))

-- different places, each of which leads to place b
record Leads (code : Code) (seen : List ℕ) (b : ℕ) : Type 0 where
  distinct : IsDistinct eqb seen
  lead : AllByRecursion (λ x. LeadsSilently code x b) seen
  below : (q : ℕ) → list_any (eqb q) seen ≡ true → q < length code.places

module _ (code : Code) where
  abbrev next : ℕ → Option ℕ
  next b = silent_to b (slice_get code.places b)

  inside : (b c : ℕ) → next b ≡ Some c → b < length code.places
  inside b c e = elim (cases_lt b (length code.places)) [ inl lt ↦ lt | inr out ↦ absurd (outside out) ]
    where
      outside : length code.places ≤ b → ⊥
      outside out = let none : next b ≡ None = ap (silent_to b) (slice_get_past code.places b out) in none_some c (sym none ∙ e)

  behind : (a b c : ℕ) → LeadsSilently code a b → next b ≡ Some c → LeadsSilently code a c
  behind a b c (step e) n = steps e (step n)
  behind a b c (steps e l) n = steps e (behind _ b c l n)

  all_behind : (b c : ℕ) (seen : List ℕ) → AllByRecursion (λ x. LeadsSilently code x b) seen → next b ≡ Some c
      → AllByRecursion (λ x. LeadsSilently code x c) seen
  all_behind b c [] l n = tt
  all_behind b c (x ∷ xs) l n = (behind x b c l.0 n, all_behind b c xs l.1 n)

  -- a place that settles is on no circle
  round_next : (b c : ℕ) → LeadsSilently code b b → next b ≡ Some c → LeadsSilently code c c
  round_next b c (step {c = d} e) n =
      let same : Some b ≡ Some c = sym e ∙ n in subst (λ (x : ℕ). LeadsSilently code x x) (ap unwrapped same) (step e)
  round_next b c (steps {c = d} e l) n =
      let same : Some d ≡ Some c = sym e ∙ n in
      behind c b c (subst (λ (x : ℕ). LeadsSilently code x b) (ap unwrapped same) l) n

  goes_on : (b : ℕ) → LeadsSilently code b b → next b ≡ None → ⊥
  goes_on b (step e) n = cc
  goes_on b (steps e l) n = cc

  no_round : (b : ℕ) → Settles code b → LeadsSilently code b b → ⊥
  no_round b (stops e) l = goes_on b l e
  no_round b (goes {c = c} e s) l = no_round c s (round_next b c l e)

  -- no place leads back to itself by silent instructions alone
  abbrev pub HasNoCircle : Type 0
  HasNoCircle = (b : ℕ) → LeadsSilently code b b → ⊥

  module _ (none : HasNoCircle) where
    apart : (b : ℕ) (seen : List ℕ) → AllByRecursion (λ x. LeadsSilently code x b) seen → AllByRecursion (λ x. eqb b x ≡ false) seen
    apart b [] l = tt
    apart b (x ∷ xs) l = (ne_eqb b x (λ same. none b (subst (λ (y : ℕ). LeadsSilently code y b) (sym same) l.0)), apart b xs l.1)

    one_place : (b c : ℕ) (seen : List ℕ) → Leads code seen b → next b ≡ Some c → Leads code (b ∷ seen) c
    unfolding IsDistinct
    one_place b c seen w e = record {
      distinct = (apart b seen w.lead, w.distinct);
      lead = (step e, all_behind b c seen w.lead e);
      below = λ q h. elim (cases_Bool (eqb q b)) [
        | inl same ↦ subst (λ (x : ℕ). x < length code.places) (sym (eqb-true q b same)) (inside b c e)
        | inr other ↦ w.below q (sym (ap (λ (t : Bool). t || list_any (eqb q) seen) other) ∙ h)
      ];
    }

    few : (b : ℕ) (seen : List ℕ) → Leads code seen b → length seen ≤ length code.places
    few b seen w = length-le_from_distinct_below seen (length code.places) w.distinct w.below

    bounded_by : (n b : ℕ) (seen : List ℕ) (o : Option ℕ) → length seen ≤ length code.places
        → ((c : ℕ) → o ≡ Some c → silent_way code n c + suc (length seen) ≤ length code.places)
        → one_more (silent_way code n) o + length seen ≤ length code.places
    bounded_by n b seen None h more = omega (arith, h)
    bounded_by n b seen (Some c) h more = omega (arith, more c refl)

    bounded : (n b : ℕ) (seen : List ℕ) → Leads code seen b → silent_way code n b + length seen ≤ length code.places
    bounded zero b seen w = omega (arith, few b seen w)
    bounded (suc n) b seen w = bounded_by n b seen (next b) (few b seen w) (λ c e. bounded n c (b ∷ seen) (one_place b c seen w e))

    pub bounded_without_circles : (n b : ℕ) → silent_way code n b ≤ length code.places
    unfolding IsDistinct
    bounded_without_circles n b = let none_seen : Leads code [] b = record { distinct = tt; lead = tt; below = λ q h. absurd (false≢true h) } in omega (arith, bounded n b [] none_seen)

    stays_by : (n : ℕ) (o : Option ℕ) → one_more (silent_way code (suc n)) o ≤ suc n
        → ((d : ℕ) → silent_way code (suc n) d ≤ n → silent_way code n d ≡ silent_way code (suc n) d)
        → one_more (silent_way code n) o ≡ one_more (silent_way code (suc n)) o
    stays_by n None h same = refl
    stays_by n (Some d) h same = ap suc (same d (omega (arith, h)))

    -- a way that ends within a number of steps has no more of them
    stays : (n b : ℕ) → silent_way code (suc n) b ≤ n → silent_way code n b ≡ silent_way code (suc n) b
    stays zero b h = omega (arith, h)
    stays (suc n) b h = stays_by n (next b) h (stays n)

    pub falls_without_circles : (b c : ℕ) → next b ≡ Some c → silent_way code (suc (length code.places)) c < silent_way code (suc (length code.places)) b
    falls_without_circles b c e =
        let n : ℕ = length code.places in
        let here : silent_way code (suc n) b ≡ suc (silent_way code n c) = ap (one_more (silent_way code n)) e in
        omega (arith, here, stays n c (bounded_without_circles (suc n) c))

    settles_by : (n b : ℕ) (o : Option ℕ) → next b ≡ o → one_more (silent_way code n) o ≤ n
        → ((c : ℕ) → silent_way code n c < n → Settles code c) → Settles code b
    settles_by n b None e h more = stops e
    settles_by n b (Some c) e h more = goes e (more c (omega (arith, h)))

    settles_within : (n b : ℕ) → silent_way code n b < n → Settles code b
    settles_within zero b h = absurd (omega (arith, h))
    settles_within (suc n) b h = settles_by n b (next b) refl (omega (arith, h)) (settles_within n)

    pub settles_without_circles : (b : ℕ) → Settles code b
    settles_without_circles b =
        let n : ℕ = suc (length code.places) in settles_within n b (omega (arith, bounded_without_circles n b))

  module _ (settles : (b : ℕ) → Settles code b) where
    pub way_bounded : (n b : ℕ) → silent_way code n b ≤ length code.places
    way_bounded = bounded_without_circles (λ b. no_round b (settles b))

    pub way_falls : (b c : ℕ) → next b ≡ Some c → silent_way code (suc (length code.places)) c < silent_way code (suc (length code.places)) b
    way_falls = falls_without_circles (λ b. no_round b (settles b))
