-- Walks find the circles of silent instructions, and all of them.
use Rattle.std.proofs.Common.{◌≡◌, ◌≢◌, ℕ, suc, zero, ◌+◌, ◌<◌, ◌≤◌, List, [], ◌∷◌, length, set, cond, eqb, Bool, true, false, Option, Some, None, refl, sym, ap, ◌∙◌, subst, arith, inl, inr, ◌⊎◌}
use Rattle.std.proofs.lemmas.List.{get_or-set_same, get_or-set_other, length-set}
use Rattle.std.proofs.lemmas.Bool.{cases_eq, cases_lt, cases_Bool, eq-eqb, eqb-true}
use Rattle.std.proofs.lemmas.Option.{slice_get_past}
use Rattle.cc_code.specs.Code.{Code}
use Rattle.cc_code.specs.Settles.{silent_to}
use Rattle.cc_code.specs.Valid.{LeadsSilently, step, steps}
use Rattle.stack_code.specs.Circles.{next, walk_at, is_round, Ends, stops, goes, known, AreRounds, IsWalked, IsOnWalk, IsRounding, unwalked, unmarked}

abbrev unwrap' : Option ℕ → ℕ
unwrap' None = 0
unwrap' (Some c) = c

none_some : (c : ℕ) → None ≡ Some c → ⊥
none_some c e = cc

module _ (code : Code) where
  -- a silent place stands in the code
  pub next_inside : (b c : ℕ) → next code b ≡ Some c → b < length code.places
  next_inside b c e = elim (cases_lt b (length code.places)) [ inl lt ↦ lt | inr out ↦ absurd (outside out) ]
    where
      outside : length code.places ≤ b → ⊥
      outside out = let none : next code b ≡ None = ap (silent_to b) (slice_get_past code.places b out) in none_some c (sym none ∙ e)

  pub behind_step : (a b c : ℕ) → LeadsSilently code a b → next code b ≡ Some c → LeadsSilently code a c
  behind_step a b c (step e) n = steps e (step n)
  behind_step a b c (steps e l) n = steps e (behind_step _ b c l n)

  -- from the next place on
  pub from_next : (b c d : ℕ) → LeadsSilently code b d → next code b ≡ Some c → (c ≡ d) ⊎ LeadsSilently code c d
  from_next b c d (step e) n = let same : Some c ≡ Some d = sym n ∙ e in inl (ap unwrap' same)
  from_next b c d (steps {c = c'} e l) n = let same : Some c' ≡ Some c = sym e ∙ n in inr (subst (λ (x : ℕ). LeadsSilently code x d) (ap unwrap' same) l)

  -- the place behind one of a circle lies on it
  pub round_next : (b c : ℕ) → LeadsSilently code b b → next code b ≡ Some c → LeadsSilently code c c
  round_next b c l n =
      elim (from_next b c b l n) [
        | inl same ↦ subst (λ (x : ℕ). LeadsSilently code x x) (sym same) l
        | inr l' ↦ behind_step c b c l' n
      ]

  round_goes : (b : ℕ) → LeadsSilently code b b → next code b ≡ None → ⊥
  round_goes b (step e) n = cc
  round_goes b (steps e l) n = cc

  -- along silent instructions all places are marked
  marked_along : (rounds : List Bool) (b d : ℕ) → AreRounds code rounds → is_round rounds b ≡ true → LeadsSilently code b d → is_round rounds d ≡ true
  marked_along rounds b d are r (step e) = are.closed b d r e
  marked_along rounds b d are r (steps {c = c} e l) = marked_along rounds c d are (are.closed b c r e) l

  -- where all places end, a circle is marked
  pub circle_marked : (rounds : List Bool) (b : ℕ) → AreRounds code rounds → Ends code rounds b → LeadsSilently code b b → is_round rounds b ≡ true
  circle_marked rounds b are (stops e) l = absurd (round_goes b l e)
  circle_marked rounds b are (known r) l = r
  circle_marked rounds b are (goes {c = c} e more) l =
      let mark = circle_marked rounds c are more (round_next b c l e) in
      elim (from_next b c b l e) [
        | inl same ↦ subst (λ (x : ℕ). is_round rounds x ≡ true) same mark
        | inr l' ↦ marked_along rounds c b are mark l'
      ]

  -- what leads to a place that ends, ends
  pub ends_before : (rounds : List Bool) (b d : ℕ) → LeadsSilently code b d → Ends code rounds d → Ends code rounds b
  ends_before rounds b d (step e) more = goes e more
  ends_before rounds b d (steps {c = c} e l) more = goes e (ends_before rounds c d l more)

  pub ends_more : (rounds rounds' : List Bool) (b : ℕ) → ((x : ℕ) → is_round rounds x ≡ true → is_round rounds' x ≡ true) → Ends code rounds b → Ends code rounds' b
  ends_more rounds rounds' b stay (stops e) = stops e
  ends_more rounds rounds' b stay (goes {c = c} e more) = goes e (ends_more rounds rounds' c stay more)
  ends_more rounds rounds' b stay (known r) = known (stay b r)

  -- a walk begins
  pub walk_begins : (walked : List ℕ) (rounds : List Bool) (n at : ℕ) → IsWalked code walked rounds n → IsOnWalk code walked rounds (n + 1) at
  walk_begins walked rounds n at w = record {
    size = w.size;
    circles = w.circles;
    numbers = λ b. omega (arith, w.numbers b);
    ended = λ b some other. w.ended b some;
    leads = λ b is. absurd (omega (arith, w.numbers b));
  }

  -- it goes on over a new place
  pub walk_goes : (walked : List ℕ) (rounds : List Bool) (n at to : ℕ) → IsOnWalk code walked rounds n at → at < length walked → walk_at walked at ≡ 0 → 0 < n → next code at ≡ Some to → IsOnWalk code (set walked at n) rounds n to
  walk_goes walked rounds n at to w lt new some e = record {
    size = length-set walked at n ∙ w.size;
    circles = w.circles;
    numbers = λ b. elim (cases_eq b at) [
      | inl same ↦ let is : walk_at (set walked at n) b ≡ n = ap (walk_at (set walked at n)) same ∙ get_or-set_same walked at n 0 lt in omega arith
      | inr other ↦ let is : walk_at (set walked at n) b ≡ walk_at walked b = get_or-set_other walked at b n 0 other in omega (arith, w.numbers b)
    ];
    ended = λ b old other. elim (cases_eq b at) [
      | inl same ↦ absurd (other (ap (walk_at (set walked at n)) same ∙ get_or-set_same walked at n 0 lt))
      | inr apart ↦
          let is : walk_at (set walked at n) b ≡ walk_at walked b = get_or-set_other walked at b n 0 apart in
          w.ended b (λ z. old (is ∙ z)) (λ z. other (is ∙ z))
    ];
    leads = λ b is. elim (cases_eq b at) [
      | inl same ↦ subst (λ (x : ℕ). LeadsSilently code x to) (sym same) (step e)
      | inr apart ↦ behind_step b at to (w.leads b (sym (get_or-set_other walked at b n 0 apart) ∙ is)) e
    ];
  }

  -- it stops at a place that is not silent
  pub walk_stops : (walked : List ℕ) (rounds : List Bool) (n at : ℕ) → IsOnWalk code walked rounds n at → at < length walked → walk_at walked at ≡ 0 → 0 < n → next code at ≡ None → IsWalked code (set walked at n) rounds n
  walk_stops walked rounds n at w lt new some e = record {
    size = length-set walked at n ∙ w.size;
    circles = w.circles;
    numbers = λ b. elim (cases_eq b at) [
      | inl same ↦ let is : walk_at (set walked at n) b ≡ n = ap (walk_at (set walked at n)) same ∙ get_or-set_same walked at n 0 lt in omega arith
      | inr other ↦ let is : walk_at (set walked at n) b ≡ walk_at walked b = get_or-set_other walked at b n 0 other in omega (arith, w.numbers b)
    ];
    ended = λ b old. elim (cases_eq b at) [
      | inl same ↦ stops (ap (next code) same ∙ e)
      | inr apart ↦
          let is : walk_at (set walked at n) b ≡ walk_at walked b = get_or-set_other walked at b n 0 apart in
          elim (cases_eq (walk_at walked b) n) [
            | inl this ↦ ends_before rounds b at (w.leads b this) (stops e)
            | inr other ↦ w.ended b (λ z. old (is ∙ z)) other
          ]
    ];
  }

  -- it meets a place that ends
  pub walk_meets : (walked : List ℕ) (rounds : List Bool) (n at : ℕ) → IsOnWalk code walked rounds n at → Ends code rounds at → IsWalked code walked rounds n
  walk_meets walked rounds n at w end = record {
    size = w.size;
    circles = w.circles;
    numbers = w.numbers;
    ended = λ b old. elim (cases_eq (walk_at walked b) n) [
      | inl this ↦ ends_before rounds b at (w.leads b this) end
      | inr other ↦ w.ended b old other
    ];
  }

  -- the circle that it came upon is marked
  pub walk_rounds : (walked : List ℕ) (rounds rounds' : List Bool) (n at : ℕ) → IsOnWalk code walked rounds n at → AreRounds code rounds' → ((x : ℕ) → is_round rounds x ≡ true → is_round rounds' x ≡ true) → is_round rounds' at ≡ true → IsWalked code walked rounds' n
  walk_rounds walked rounds rounds' n at w are stay found = record {
    size = w.size;
    circles = are;
    numbers = w.numbers;
    ended = λ b old. elim (cases_eq (walk_at walked b) n) [
      | inl this ↦ ends_before rounds' b at (w.leads b this) (known found)
      | inr other ↦ ends_more rounds rounds' b stay (w.ended b old other)
    ];
  }

  first_step : (b : ℕ) → LeadsSilently code b b → (c : ℕ) × (next code b ≡ Some c)
  first_step b (step e) = (b, e)
  first_step b (steps {c = c} e l) = (c, e)

  -- a circle is gone round
  pub round_begins : (rounds : List Bool) (from : ℕ) → AreRounds code rounds → LeadsSilently code from from → IsRounding code rounds from from
  round_begins rounds from are l = record {
    size = are.size;
    sound = are.sound;
    nearly = λ b c r e. inl (are.closed b c r e);
    circle = l;
    found = inl refl;
  }

  pub round_goes_on : (rounds : List Bool) (from at to : ℕ) → IsRounding code rounds from at → at < length rounds → next code at ≡ Some to → IsRounding code (set rounds at true) from to
  round_goes_on rounds from at to w lt e =
      let here : is_round (set rounds at true) at ≡ true = get_or-set_same rounds at true false lt in
      let stay : (b : ℕ) → is_round rounds b ≡ true → is_round (set rounds at true) b ≡ true = λ b r. elim (cases_eq b at) [
        | inl same ↦ ap (is_round (set rounds at true)) same ∙ here
        | inr other ↦ get_or-set_other rounds at b true false other ∙ r
      ] in
      record {
        size = length-set rounds at true ∙ w.size;
        sound = λ b r. elim (cases_eq b at) [
          | inl same ↦ subst (λ (x : ℕ). LeadsSilently code x x) (sym same) w.circle
          | inr other ↦ w.sound b (sym (get_or-set_other rounds at b true false other) ∙ r)
        ];
        nearly = λ b c r n. elim (cases_eq b at) [
          | inl same ↦ let is : Some c ≡ Some to = sym n ∙ (ap (next code) same ∙ e) in inr (ap unwrap' is)
          | inr other ↦ elim (w.nearly b c (sym (get_or-set_other rounds at b true false other) ∙ r) n) [
            | inl marked ↦ inl (stay c marked)
            | inr same ↦ inl (ap (is_round (set rounds at true)) same ∙ here)
          ]
        ];
        circle = round_next at to w.circle e;
        found = elim w.found [
          | inl same ↦ inr (ap (is_round (set rounds at true)) (sym same) ∙ here)
          | inr marked ↦ inr (stay from marked)
        ];
      }

  pub round_closes : (rounds : List Bool) (from at : ℕ) → IsRounding code rounds from at → (((at < length rounds) × (is_round rounds at ≡ false)) → ⊥) → AreRounds code rounds × (is_round rounds from ≡ true)
  round_closes rounds from at w marked =
      let inside : at < length rounds = let s = first_step at w.circle in omega (arith, next_inside at s.0 s.1, w.size) in
      let here : is_round rounds at ≡ true =
      elim (cases_Bool (is_round rounds at)) [ inl is ↦ is | inr not ↦ absurd (marked (inside, not)) ] in (
        record {
          size = w.size;
          sound = w.sound;
          closed = λ b c r n. elim (w.nearly b c r n) [ inl m ↦ m | inr same ↦ ap (is_round rounds) same ∙ here ];
        },
        elim w.found [ inl same ↦ ap (is_round rounds) (sym same) ∙ here | inr m ↦ m ],
      )

pub unwalked_set : (ws : List ℕ) (i n : ℕ) → i < length ws → walk_at ws i ≡ 0 → 0 < n → unwalked (set ws i n) < unwalked ws
unwalked_set [] i n lt new some = absurd (omega arith)
unwalked_set (w ∷ ws) zero n lt new some =
    let was : eqb w 0 ≡ true = eq-eqb w 0 new in
    let is : eqb n 0 ≡ false = elim (cases_Bool (eqb n 0)) [ inl z ↦ absurd (let zero' : n ≡ 0 = eqb-true n 0 z in omega arith) | inr some' ↦ some' ] in
    omega (arith, ap {B = ℕ} (λ (b : Bool). cond b 1 0) was, ap {B = ℕ} (λ (b : Bool). cond b 1 0) is)
unwalked_set (w ∷ ws) (suc i) n lt new some = let rest = unwalked_set ws i n (omega arith) new some in omega arith

pub unmarked_set : (bs : List Bool) (i : ℕ) → i < length bs → is_round bs i ≡ false → unmarked (set bs i true) < unmarked bs
unmarked_set [] i lt new = absurd (omega arith)
unmarked_set (b ∷ bs) zero lt new = omega (arith, ap {B = ℕ} (λ (x : Bool). cond x 0 1) new)
unmarked_set (b ∷ bs) (suc i) lt new = let rest = unmarked_set bs i (omega arith) new in omega arith

-- a place that was walked over stays so

pub seen_set : (ws : List ℕ) (at n : ℕ) → at < length ws → walk_at (set ws at (n + 1)) at ≢ 0
seen_set ws at n lt e = let is : walk_at (set ws at (n + 1)) at ≡ n + 1 = get_or-set_same ws at (n + 1) 0 lt in omega arith

pub stay_set : (ws : List ℕ) (at n b : ℕ) → at < length ws → walk_at ws b ≢ 0 → walk_at (set ws at (n + 1)) b ≢ 0
stay_set ws at n b lt some =
    elim (cases_eq b at) [
      | inl same ↦ (λ e. seen_set ws at n lt (ap (walk_at (set ws at (n + 1))) (sym same) ∙ e))
      | inr other ↦ (λ e. some (sym (get_or-set_other ws at b (n + 1) 0 other) ∙ e))
    ]

pub begun_set : (ws : List ℕ) (at n start : ℕ) → at < length ws → ((at ≡ start) ⊎ (walk_at ws start ≢ 0)) → walk_at (set ws at (n + 1)) start ≢ 0
begun_set ws at n start lt (inl same) = λ e. seen_set ws at n lt (ap (walk_at (set ws at (n + 1))) same ∙ e)
begun_set ws at n start lt (inr some) = stay_set ws at n start lt some

-- what is marked stays so
pub mark_stays : (rs : List Bool) (at b : ℕ) → at < length rs → is_round rs b ≡ true → is_round (set rs at true) b ≡ true
mark_stays rs at b lt r =
    elim (cases_eq b at) [
      | inl same ↦ ap (is_round (set rs at true)) same ∙ get_or-set_same rs at true false lt
      | inr other ↦ get_or-set_other rs at b true false other ∙ r
    ]

-- when each place was walked over, each ends
pub all_end : (code : Code) (walked : List ℕ) (rounds : List Bool) (n m : ℕ) → IsWalked code walked rounds n → ((b : ℕ) → b < m → walk_at walked b ≢ 0) → length code.places ≤ m → (b : ℕ) → Ends code rounds b
all_end code walked rounds n m w seen all b =
    elim (cases_lt b (length code.places)) [
      | inl lt ↦ w.ended b (seen b (omega arith))
      | inr out ↦ stops (ap (silent_to b) (slice_get_past code.places b out))
    ]
