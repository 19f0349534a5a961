-- Laws of sets of spellings, whatever they spell.
use Rattle.std.proofs.Common.{◌≡◌, ℕ, ◌+◌, ◌≤◌, ◌⊎◌, inl, inr, List, [], ◌∷◌, ◌++◌, length, refl, sym, ◌∙◌, ap, subst, arith, append_assoc, length-append}
use Rattle.std.proofs.lemmas.List.{append-nil, append_cancel_left}
use Rattle.marshal.specs.Spellings.{◌▸◌, BeginsWith, IsPartial, IsWrongAt, IsPrefixFree}

-- where a list is cut in two ways, one front begins with the other
pub two_cuts : (s x t y : List ℕ) → s ++ x ≡ t ++ y → ((u : List ℕ) × (s ≡ t ++ u) × (y ≡ u ++ x)) ⊎ ((u : List ℕ) × (t ≡ s ++ u) × (x ≡ u ++ y))
two_cuts [] x t y e = inr (t, refl, e)
two_cuts (a ∷ s) x [] y e = inl (a ∷ s, refl, sym e)
two_cuts (a ∷ s) x (b ∷ t) y e =
    let head : a ≡ b = cc in
    let tail : s ++ x ≡ t ++ y = cc in
    elim (two_cuts s x t y tail) [
      | inl cut ↦ inl (cut.0, (cc), cut.2)
      | inr cut ↦ inr (cut.0, (cc), cut.2)
    ]

-- two cuts at one place are the same
pub same_cut : (s x t y : List ℕ) → length s ≡ length t → s ++ x ≡ t ++ y → (s ≡ t) × (x ≡ y)
same_cut [] x [] y long e = (refl, e)
same_cut [] x (b ∷ t) y long e = absurd (omega arith)
same_cut (a ∷ s) x [] y long e = absurd (omega arith)
same_cut (a ∷ s) x (b ∷ t) y long e =
    let long_tail : length s ≡ length t = omega arith in
    let tail : s ++ x ≡ t ++ y = cc in
    let same = same_cut s x t y long_tail tail in
    (cc, same.1)

-- nothing but nothing is put between
no_more : (s u : List ℕ) → length (s ++ u) ≤ length s → u ≡ []
no_more s [] short = refl
no_more s (a ∷ u) short = let long = length-append s (a ∷ u) in absurd (omega arith)

pub free_follows : (P Q : List ℕ → Type 0) → IsPrefixFree P → IsPrefixFree Q → IsPrefixFree (P ▸ Q)
free_follows P Q free_P free_Q s t x y p q e =
    let regrouped : p.front ++ (p.back ++ x) ≡ q.front ++ (q.back ++ y) = sym (append_assoc p.front p.back x) ∙ ap (λ b. b ++ x) (sym p.whole) ∙ e ∙ ap (λ b. b ++ y) q.whole ∙ append_assoc q.front q.back y in
    let fronts : p.front ≡ q.front = free_P _ _ _ _ p.first q.first regrouped in
    let backs : p.back ++ x ≡ q.back ++ y = append_cancel_left p.front _ _ (subst (λ f. p.front ++ (p.back ++ x) ≡ f ++ (q.back ++ y)) (sym fronts) regrouped) in
    let same : p.back ≡ q.back = free_Q _ _ _ _ p.second q.second backs in
    p.whole ∙ (cc (fronts, same)) ∙ sym q.whole

module _ (P : List ℕ → Type 0) where
  -- bytes begin with one spelling at most
  pub one_beginning : IsPrefixFree P → (bytes : List ℕ) (m n : ℕ) (b : BeginsWith P bytes m) (c : BeginsWith P bytes n) → (b.spelling ≡ c.spelling) × (m ≡ n)
  one_beginning free bytes m n b c =
      let same : b.spelling ≡ c.spelling = free _ _ _ _ b.spelled c.spelled (sym b.whole ∙ c.whole) in
      (same, sym b.long ∙ ap length same ∙ c.long)

  -- bytes that begin with a spelling are no part of a longer one
  pub whole_is_not_partial : IsPrefixFree P → (bytes : List ℕ) (n : ℕ) → BeginsWith P bytes n → IsPartial P bytes → ⊥
  whole_is_not_partial free bytes n b p =
      let cut : b.spelling ++ (b.rest ++ p.missing) ≡ (bytes ++ p.missing) ++ [] = sym (append_assoc b.spelling b.rest p.missing) ∙ ap (λ l. l ++ p.missing) (sym b.whole) ∙ sym (append-nil (bytes ++ p.missing)) in
      let same : b.spelling ≡ bytes ++ p.missing = free _ _ _ _ b.spelled p.spelled cut in
      let long : length b.spelling ≡ length bytes + length p.missing = ap length same ∙ length-append bytes p.missing in
      let parts : length bytes ≡ length b.spelling + length b.rest = ap length b.whole ∙ length-append b.spelling b.rest in
      let some = p.some in
      omega arith

  -- no spelling begins with bytes that are wrong
  pub wrong_is_not_partial : (bytes : List ℕ) (at : ℕ) → IsWrongAt P bytes at → IsPartial P bytes → ⊥
  wrong_is_not_partial bytes at w p =
      w.none (w.after ++ p.missing) (subst P (ap (λ l. l ++ p.missing) w.whole ∙ append_assoc w.before (w.byte ∷ w.after) p.missing) p.spelled)

  -- less than a whole spelling, and then a byte that none has there, begin with no spelling
  pub wrong_is_not_whole : IsPrefixFree P → (bytes : List ℕ) (at n : ℕ) → IsWrongAt P bytes at → BeginsWith P bytes n → ⊥
  wrong_is_not_whole free bytes at n w b =
      elim (two_cuts b.spelling b.rest w.before (w.byte ∷ w.after) (sym b.whole ∙ w.whole)) [
        | inl cut ↦ longer cut.0 cut.1 cut.2
        | inr cut ↦ whole_is_not_partial free w.before n (record { spelling = b.spelling; rest = cut.0; spelled = b.spelled; long = b.long; whole = cut.1 }) w.partial
      ]
    where
      longer : (u : List ℕ) → b.spelling ≡ w.before ++ u → w.byte ∷ w.after ≡ u ++ b.rest → ⊥
      longer [] is rest = whole_is_not_partial free w.before n (record { spelling = b.spelling; rest = []; spelled = b.spelled; long = b.long; whole = sym (append-nil w.before) ∙ sym is ∙ sym (append-nil b.spelling) }) w.partial
      longer (a ∷ u) is rest =
          let head : w.byte ≡ a = cc in
          w.none u (subst P (is ∙ ap (λ c. w.before ++ c ∷ u) (sym head)) b.spelled)

  -- at most one byte is the first wrong one
  pub one_wrong : (bytes : List ℕ) (i j : ℕ) → IsWrongAt P bytes i → IsWrongAt P bytes j → i ≡ j
  one_wrong bytes i j v w =
      elim (two_cuts v.before (v.byte ∷ v.after) w.before (w.byte ∷ w.after) (sym v.whole ∙ w.whole)) [
        | inl cut ↦ later i j v w cut.0 cut.1 cut.2
        | inr cut ↦ sym (later j i w v cut.0 cut.1 cut.2)
      ]
    where
      later : (i j : ℕ) (v : IsWrongAt P bytes i) (w : IsWrongAt P bytes j) (u : List ℕ) → v.before ≡ w.before ++ u → w.byte ∷ w.after ≡ u ++ v.byte ∷ v.after → i ≡ j
      later i j v w [] is rest = sym v.place ∙ ap length (is ∙ append-nil w.before) ∙ w.place
      later i j v w (a ∷ u) is rest =
          let head : w.byte ≡ a = cc in
          let missing = v.partial.missing in
          absurd (w.none (u ++ missing) (subst P (ap (λ l. l ++ missing) is ∙ append_assoc w.before (a ∷ u) missing ∙ ap (λ c. w.before ++ c ∷ (u ++ missing)) (sym head)) v.partial.spelled))
