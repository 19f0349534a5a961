-- Where words are wrong.
use Rattle.std.proofs.Common.{◌≡◌, ℕ, zero, suc, ◌+◌, ◌-◌, ◌≤◌, ◌<◌, ◌⊎◌, List, [], ◌∷◌, ◌++◌, length, take, refl, sym, ap, ◌∙◌, subst, inl, inr, arith, append_assoc}
use Rattle.std.proofs.Math.Seq.{take-append_seam, take-append-add, take-length}
use Rattle.std.proofs.lemmas.Bool.{cases_lt}
use Rattle.std.proofs.lemmas.List.{take_all}
use Rattle.ccpp_words.specs.Fronts.{IsFrontIn, IsWrongIn}

module _ (Accepted : List (List ℕ) → Type 0) where
  -- at a word with which no accepted list goes on
  pub wrong_word : (before : List (List ℕ)) (w : List ℕ) (rest : List (List ℕ)) → IsFrontIn Accepted before → ((more : List (List ℕ)) → Accepted (before ++ w ∷ more) → ⊥) → IsWrongIn Accepted (before ++ w ∷ rest) (length before + 1)
  wrong_word before w rest front none =
      let one : length before + 1 - 1 ≡ length before = omega arith in
      let upto : take (length before + 1 - 1) (before ++ w ∷ rest) ≡ before = ap (λ n. take n (before ++ w ∷ rest)) one ∙ take-append_seam before (w ∷ rest) in
      record {
        refused = none rest;
        front = subst (IsFrontIn Accepted) (sym upto) front;
        first = inr (λ h.
            let e : take (length before + 1) (before ++ w ∷ rest) ++ h.0 ≡ before ++ w ∷ h.0 = ap (λ l. l ++ h.0) (take-append-add before (w ∷ rest) 1) ∙ append_assoc before (w ∷ []) h.0 in
            none h.0 (subst Accepted e h.1));
      }

  -- at their end, where more words are wanted
  pub more_wanted : (words : List (List ℕ)) → IsFrontIn Accepted words → (Accepted words → ⊥) → IsWrongIn Accepted words (length words + 1)
  more_wanted words front not =
      let one : length words + 1 - 1 ≡ length words = omega arith in
      let all : take (length words + 1 - 1) words ≡ words = ap (λ n. take n words) one ∙ take-length words in
      record {
        refused = not;
        front = subst (IsFrontIn Accepted) (sym all) front;
        first = inl refl;
      }

  -- behind a word that begins an accepted list
  pub behind : (w : List ℕ) (words : List (List ℕ)) (place : ℕ) → IsWrongIn (λ ws. Accepted (w ∷ ws)) words place → IsWrongIn Accepted (w ∷ words) (place + 1)
  behind w words zero wrong = absurd (elim wrong.first as (λ _. ⊥) [ inl e ↦ omega arith | inr not ↦ not wrong.front ])
  behind w words (suc n) wrong =
      let less : suc n - 1 ≡ n = omega arith in
      let less' : suc n + 1 - 1 ≡ suc n = omega arith in
      let more : suc n + 1 ≡ suc (suc n) = omega arith in
      let front = subst (λ k. IsFrontIn (λ ws. Accepted (w ∷ ws)) (take k words)) less wrong.front in
      record {
        refused = wrong.refused;
        front = subst (λ k. IsFrontIn Accepted (take k (w ∷ words))) (sym less') (front.0, front.1);
        first = elim wrong.first as (λ _. (suc n + 1 ≡ length (w ∷ words) + 1) ⊎ (IsFrontIn Accepted (take (suc n + 1) (w ∷ words)) → ⊥)) [
          | inl e ↦ inl (omega arith)
          | inr not ↦ inr (λ h. not (subst (λ k. IsFrontIn Accepted (take k (w ∷ words))) more h))
        ];
      }

  -- no place is further than one behind the last word
  pub place_bound : (words : List (List ℕ)) (place : ℕ) → IsWrongIn Accepted words place → place ≤ length words + 1
  place_bound words place wrong = elim (cases_lt (length words + 1) place) as (λ _. place ≤ length words + 1) [ inl h ↦ absurd (too_far h) | inr h ↦ h ]
    where
      too_far : length words + 1 < place → ⊥
      too_far h =
          let all : take (place - 1) words ≡ words = take_all (place - 1) words (omega arith) in
          let also : take place words ≡ words = take_all place words (omega arith) in
          elim wrong.first as (λ _. ⊥) [ inl e ↦ omega arith | inr not ↦ not (subst (IsFrontIn Accepted) (all ∙ sym also) wrong.front) ]

-- of the same accepted lists
pub same : (L M : List (List ℕ) → Type 0) → ((words : List (List ℕ)) → L words → M words) → ((words : List (List ℕ)) → M words → L words) → (words : List (List ℕ)) (place : ℕ) → IsWrongIn L words place → IsWrongIn M words place
same L M there back words place wrong = record {
  refused = λ m. wrong.refused (back words m);
  front = let f = wrong.front in (f.0, there (take (place - 1) words ++ f.0) f.1);
  first = elim wrong.first as (λ _. (place ≡ length words + 1) ⊎ (IsFrontIn M (take place words) → ⊥)) [ inl e ↦ inl e | inr not ↦ inr (λ h. not (h.0, back (take place words ++ h.0) h.1)) ];
}

-- of lists that begin with this word, where those that begin otherwise may be more
pub same_behind : (L M : List (List ℕ) → Type 0) (w : List ℕ) → ((words : List (List ℕ)) → L words → M words) → ((words : List (List ℕ)) → M (w ∷ words) → L (w ∷ words)) → (words : List (List ℕ)) (place : ℕ) → IsWrongIn L (w ∷ words) place → IsWrongIn M (w ∷ words) place
same_behind L M w there back words zero wrong = absurd (elim wrong.first as (λ _. ⊥) [ inl e ↦ omega arith | inr not ↦ not wrong.front ])
same_behind L M w there back words (suc n) wrong = record {
  refused = λ m. wrong.refused (back words m);
  front = let f = wrong.front in (f.0, there (take (suc n - 1) (w ∷ words) ++ f.0) f.1);
  first = elim wrong.first as (λ _. (suc n ≡ length (w ∷ words) + 1) ⊎ (IsFrontIn M (take (suc n) (w ∷ words)) → ⊥)) [ inl e ↦ inl e | inr not ↦ inr (λ h. not (h.0, back (take n words ++ h.0) h.1)) ];
}
