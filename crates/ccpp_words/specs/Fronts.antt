-- Where a list of words stops being the front of an accepted one.
use Rattle.std.specs.Prelude.{◌≡◌, ℕ, ◌+◌, ◌-◌, ◌⊎◌, List, ◌++◌, length, take}

-- Accepted: the lists of words that are accepted
module _ (Accepted : List (List ℕ) → Type 0) where
  -- some accepted list begins with these words
  abbrev pub IsFrontIn : List (List ℕ) → Type 0
  IsFrontIn words = (more : List (List ℕ)) × Accepted (words ++ more)

  -- The words are not accepted, and those before the place are a front. Either more words are wanted, or with the word at the place,
  -- counted from 1, they are a front no more.
  pub record IsWrongIn (words : List (List ℕ)) (place : ℕ) : Type 0 where
    pub refused : Accepted words → ⊥
    pub front : IsFrontIn (take (place - 1) words)
    pub first : (place ≡ length words + 1) ⊎ (IsFrontIn (take place words) → ⊥)
