-- Which settings words say.
use Rattle.std.proofs.Common.{◌≡◌, ℕ, ◌+◌, ◌≤◌, ◌<◌, ◌⊎◌, true, false, ℤ, List, [], ◌∷◌, length, Some, None, refl, ◌-◌, take, drop, get_or, sym, ap, ◌∙◌, subst, inl, inr, arith, codes}
use Rattle.std.proofs.lemmas.List.{take_all}
use Rattle.std.specs.Prelude.{Option}
use Rattle.std.specs.Option.{unwrap_or}
use Rattle.ccpp_words.specs.Fronts.{IsFrontIn, IsWrongIn}
use Rattle.ccpp_words.specs.Words.{AreInts, none, AreSettings, only_ints, steps_first, seed_first, choice_word, IsValueOf, has, with_choice, with_value, Say, MayStand, MayBeInts}
use Rattle.ccpp_words.specs.declared.settings.Choice.{Choice}
use Rattle.ccpp_words.specs.declared.settings.Choice.TheVariants as choice
use Rattle.ccpp_words.specs.declared.settings.Given.{Given}
use Rattle.ccpp_words.specs.declared.settings.Settings.{Settings}
use Rattle.ccpp_words.proofs.FrontLaws.{wrong_word, more_wanted, behind, same, same_behind}
use Rattle.ccpp_words.proofs.NumberLaws.{one_natural, natural_one, no_minuses, first_int, one_ints}

-- an option is no int
no_ints : (c : Choice) (rest : List (List ℕ)) (ints : List ℤ) → AreInts (choice_word c ∷ rest) ints → ⊥
no_ints choice.Steps rest ints are = let first = first_int are in no_minuses first.0 (codes "steps") first.3
no_ints choice.Seed rest ints are = let first = first_int are in no_minuses first.0 (codes "seed") first.3

one_value : (c : Choice) (word : List ℕ) (m n : ℕ) → IsValueOf c word m → IsValueOf c word n → m ≡ n
one_value choice.Steps word m n is also = one_natural word m n is.0 also.0
one_value choice.Seed word m n is also = one_natural word m n is also

one_choice : (c d : Choice) → choice_word c ≡ choice_word d → c ≡ d
one_choice choice.Steps choice.Steps e = refl
one_choice choice.Steps choice.Seed e = let h : codes "--steps" ≡ codes "--seed" = e in cc h
one_choice choice.Seed choice.Steps e = let h : codes "--seed" ≡ codes "--steps" = e in cc h
one_choice choice.Seed choice.Seed e = refl

-- ---- settings, seen from their first word

value_in : Settings → Choice → Option ℕ
value_in settings choice.Steps = settings.steps
value_in settings choice.Seed = settings.seed

-- they begin with an option and its value
record Begin (words : List (List ℕ)) (all : Settings) : Type 0 where
  by : Choice
  word : List ℕ
  n : ℕ
  rest : List (List ℕ)
  words_are : words ≡ choice_word by ∷ word ∷ rest
  is : IsValueOf by word n
  after : Settings
  are : AreSettings rest after.steps after.seed after.ints
  no_more : value_in after by ≡ None
  all_are : all ≡ with_value after by n

-- or they are ints
AreOnlyInts : List (List ℕ) → Settings → Type 0
AreOnlyInts words all = AreInts words all.ints × (length all.ints ≤ 8) × (all.steps ≡ None) × (all.seed ≡ None)

view : {words : List (List ℕ)} {steps seed : Option ℕ} {ints : List ℤ} → AreSettings words steps seed ints → AreOnlyInts words (record { steps = steps; seed = seed; ints = ints }) ⊎ Begin words (record { steps = steps; seed = seed; ints = ints })
unfolding AreOnlyInts value_in
view (only_ints are few) = inl (are, few, refl, refl)
view (steps_first {word = word} {n = n} {words = rest} {seed = seed} {ns = ns} is are) = inr (record {
  by = choice.Steps;
  word = word;
  n = n;
  rest = rest;
  words_are = refl;
  is = is;
  after = record { steps = None; seed = seed; ints = ns };
  are = are;
  no_more = refl;
  all_are = refl;
})
view (seed_first {word = word} {n = n} {words = rest} {steps = steps} {ns = ns} is are) = inr (record {
  by = choice.Seed;
  word = word;
  n = n;
  rest = rest;
  words_are = refl;
  is = is;
  after = record { steps = steps; seed = None; ints = ns };
  are = are;
  no_more = refl;
  all_are = refl;
})

-- ---- behind options that were given

-- an option, its value and more may stand there, if the option was not given and the rest may stand behind it
pub say_more : (given : Given) (c : Choice) (word : List ℕ) (n : ℕ) (rest : List (List ℕ)) (after : Settings) → has given c ≡ false → IsValueOf c word n → Say (with_choice given c) rest after → Say given (choice_word c ∷ word ∷ rest) (with_value after c n)
say_more given choice.Steps word n rest after free is say = record {
  are = steps_first is (subst (λ o. AreSettings rest o after.seed after.ints) (say.no_steps refl) say.are);
  no_steps = λ yes. let both : true ≡ false = sym yes ∙ free in cc both;
  no_seed = say.no_seed;
}
say_more given choice.Seed word n rest after free is say = record {
  are = seed_first is (subst (λ o. AreSettings rest after.steps o after.ints) (say.no_seed refl) say.are);
  no_steps = say.no_steps;
  no_seed = λ yes. let both : true ≡ false = sym yes ∙ free in cc both;
}

-- behind an option stand its value and what may stand behind that, and it was not given
pub record Behind (given : Given) (c : Choice) (words : List (List ℕ)) : Type 0 where
  pub word : List ℕ
  pub n : ℕ
  pub rest : List (List ℕ)
  pub words_are : words ≡ word ∷ rest
  pub is : IsValueOf c word n
  pub free : has given c ≡ true → ⊥
  pub after : Settings
  pub say : Say (with_choice given c) rest after

begin_behind : (given : Given) (c : Choice) (words : List (List ℕ)) (all : Settings) → (given.steps ≡ true → all.steps ≡ None) → (given.seed ≡ true → all.seed ≡ None) → (b : Begin (choice_word c ∷ words) all) → c ≡ b.by → Behind given c words
unfolding value_in
begin_behind given choice.Steps words all no_steps no_seed b same =
    let by = sym same in
    let value : IsValueOf choice.Steps b.word b.n = subst (λ d. IsValueOf d b.word b.n) by b.is in
    let unsaid : b.after.steps ≡ None = subst (λ d. value_in b.after d ≡ None) by b.no_more in
    let all_are : all ≡ record { steps = Some b.n; seed = b.after.seed; ints = b.after.ints } = subst (λ d. all ≡ with_value b.after d b.n) by b.all_are in
    let steps : all.steps ≡ Some b.n = ap (λ (s : Settings). s.steps) all_are in
    let seed : all.seed ≡ b.after.seed = ap (λ (s : Settings). s.seed) all_are in
    record {
      word = b.word;
      n = b.n;
      rest = b.rest;
      words_are = cc b.words_are;
      is = value;
      free = λ yes. let both : Some b.n ≡ None = sym steps ∙ no_steps yes in cc both;
      after = b.after;
      say = record { are = b.are; no_steps = λ _. unsaid; no_seed = λ yes. sym seed ∙ no_seed yes };
    }
begin_behind given choice.Seed words all no_steps no_seed b same =
    let by = sym same in
    let value : IsValueOf choice.Seed b.word b.n = subst (λ d. IsValueOf d b.word b.n) by b.is in
    let unsaid : b.after.seed ≡ None = subst (λ d. value_in b.after d ≡ None) by b.no_more in
    let all_are : all ≡ record { steps = b.after.steps; seed = Some b.n; ints = b.after.ints } = subst (λ d. all ≡ with_value b.after d b.n) by b.all_are in
    let steps : all.steps ≡ b.after.steps = ap (λ (s : Settings). s.steps) all_are in
    let seed : all.seed ≡ Some b.n = ap (λ (s : Settings). s.seed) all_are in
    record {
      word = b.word;
      n = b.n;
      rest = b.rest;
      words_are = cc b.words_are;
      is = value;
      free = λ yes. let both : Some b.n ≡ None = sym seed ∙ no_seed yes in cc both;
      after = b.after;
      say = record { are = b.are; no_steps = λ yes. sym steps ∙ no_steps yes; no_seed = λ _. unsaid };
    }

pub say_behind : (given : Given) (c : Choice) (words : List (List ℕ)) → MayStand given (choice_word c ∷ words) → Behind given c words
unfolding AreOnlyInts
say_behind given c words h =
    let all = h.0 in
    elim (view h.1.are) as (λ _. Behind given c words) [
      | inl ints ↦ absurd (no_ints c words all.ints ints.0)
      | inr b ↦ begin_behind given c words all h.1.no_steps h.1.no_seed b (one_choice c b.by (cc b.words_are))
    ]

pub say_ints : (given : Given) (words : List (List ℕ)) (ns : List ℤ) → AreInts words ns → length ns ≤ 8 → Say given words (record { steps = None; seed = None; ints = ns })
say_ints given words ns are few = record { are = only_ints are few; no_steps = λ _. refl; no_seed = λ _. refl }

-- ints may stand there, and nothing else behind a word that is no option, or one that was given
pub ints_stand : (given : Given) (words : List (List ℕ)) → MayBeInts words → MayStand given words
ints_stand given words h = (record { steps = None; seed = None; ints = h.0 }, say_ints given words h.0 h.1 h.2)

stand_ints : (given : Given) (word : List ℕ) (words : List (List ℕ)) → ((c : Choice) → word ≡ choice_word c → has given c ≡ true) → MayStand given (word ∷ words) → MayBeInts (word ∷ words)
unfolding AreOnlyInts
stand_ints given word words none_free h =
    let all = h.0 in
    elim (view h.1.are) as (λ _. MayBeInts (word ∷ words)) [
      | inl ints ↦ (all.ints, ints.0, ints.1)
      | inr b ↦
          let is : word ≡ choice_word b.by = cc b.words_are in
          let behind_it = say_behind given b.by words (subst (λ w. MayStand given (w ∷ words)) is h) in
          absurd (behind_it.free (none_free b.by is))
    ]

pub wrong_ints : (given : Given) (words : List (List ℕ)) → ((c : Choice) (rest : List (List ℕ)) → words ≡ choice_word c ∷ rest → has given c ≡ true) → (place : ℕ) → IsWrongIn MayBeInts words place → IsWrongIn (MayStand given) words place
wrong_ints given [] none_free place wrong = absurd (wrong.refused ([], none, omega arith))
wrong_ints given (word ∷ words) none_free place wrong =
    same_behind MayBeInts (MayStand given) word (ints_stand given) (λ ws. stand_ints given word ws (λ c is. none_free c words (ap (λ w. w ∷ words) is))) words place wrong

-- ---- behind an option

module _ (given : Given) (c : Choice) (free : has given c ≡ false) where
  -- the option alone is a front: its value may be 1
  choice_front : IsFrontIn (MayStand given) (choice_word c ∷ [])
  choice_front =
      let nothing = ints_stand (with_choice given c) [] ([], none, omega arith) in
      (codes "1" ∷ [], (with_value nothing.0 c 1, say_more given c (codes "1") 1 [] nothing.0 free (one c) nothing.1))
    where
      one : (d : Choice) → IsValueOf d (codes "1") 1
      one choice.Steps = (natural_one, omega arith, omega arith)
      one choice.Seed = natural_one

  pub value_wanted : IsWrongIn (MayStand given) (choice_word c ∷ []) 2
  value_wanted = more_wanted (MayStand given) (choice_word c ∷ []) choice_front (λ h.
      let value = say_behind given c [] h in
      let words_are = value.words_are in
      cc words_are)

  pub wrong_value : (word : List ℕ) (rest : List (List ℕ)) → ((n : ℕ) → IsValueOf c word n → ⊥) → IsWrongIn (MayStand given) (choice_word c ∷ word ∷ rest) 2
  wrong_value word rest not = wrong_word (MayStand given) (choice_word c ∷ []) word rest choice_front (λ more h.
      let value = say_behind given c (word ∷ more) h in
      let same_word : value.word ≡ word = cc value.words_are in
      not value.n (subst (λ w. IsValueOf c w value.n) same_word value.is))

  pub wrong_rest : (word : List ℕ) (n : ℕ) → IsValueOf c word n → (rest : List (List ℕ)) (place : ℕ) → IsWrongIn (MayStand (with_choice given c)) rest place → IsWrongIn (MayStand given) (choice_word c ∷ word ∷ rest) (place + 2)
  wrong_rest word n is rest place wrong =
      let there : (ws : List (List ℕ)) → MayStand (with_choice given c) ws → MayStand given (choice_word c ∷ word ∷ ws) = λ ws h. (with_value h.0 c n, say_more given c word n ws h.0 free is h.1) in
      let back : (ws : List (List ℕ)) → MayStand given (choice_word c ∷ word ∷ ws) → MayStand (with_choice given c) ws = λ ws h.
      let value = say_behind given c (word ∷ ws) h in
      let same_rest : value.rest ≡ ws = cc value.words_are in
      (value.after, subst (λ r. Say (with_choice given c) r value.after) same_rest value.say) in
      let here = same (MayStand (with_choice given c)) (λ ws. MayStand given (choice_word c ∷ word ∷ ws)) there back rest place wrong in
      let one = behind (λ ws. MayStand given (choice_word c ∷ ws)) word rest place here in
      let two = behind (MayStand given) (choice_word c) (word ∷ rest) (place + 1) one in
      let sum : place + 1 + 1 ≡ place + 2 = omega arith in
      subst (IsWrongIn (MayStand given) (choice_word c ∷ word ∷ rest)) sum two

-- ---- the words as a slice shows them: the option, the word at 1, and those from 2 on

module _ (words : List (List ℕ)) (c : Choice) (behind_it : List (List ℕ)) (are : words ≡ choice_word c ∷ behind_it) where
  pub alone : length words < 2 → words ≡ choice_word c ∷ []
  alone few = are ∙ ap (λ l. choice_word c ∷ l) (none_left behind_it (subst (λ l. length l < 2) are few))
    where
      none_left : (l : List (List ℕ)) → length (choice_word c ∷ l) < 2 → l ≡ []
      none_left [] few = refl
      none_left (w ∷ ws) few = absurd (omega arith)

  pub with_word : 2 ≤ length words → (word : List ℕ) → word ≡ get_or words 1 word → words ≡ choice_word c ∷ word ∷ take (length words - 2) (drop 2 words)
  with_word enough word at =
      are ∙ (ap (λ l. choice_word c ∷ l) (cut behind_it (subst (λ l. 2 ≤ length l) are enough) (at ∙ ap (λ l. get_or l 1 word) are))
      ∙ ap (λ l. choice_word c ∷ word ∷ take (length l - 2) (drop 2 l)) (sym are))
    where
      cut : (l : List (List ℕ)) → 2 ≤ length (choice_word c ∷ l) → word ≡ get_or (choice_word c ∷ l) 1 word → l ≡ word ∷ take (length (choice_word c ∷ l) - 2) (drop 2 (choice_word c ∷ l))
      cut [] enough at = absurd (omega arith)
      cut (w ∷ ws) enough at =
          let same_word : word ≡ w = at in
          let all : take (length (choice_word c ∷ w ∷ ws) - 2) ws ≡ ws = take_all _ ws (omega arith) in
          cc (same_word, all)

-- ---- words say settings in one way

same_settings : (a b : Settings) → a.steps ≡ b.steps → a.seed ≡ b.seed → a.ints ≡ b.ints → a ≡ b
same_settings a b steps seed ints =
    let one : a ≡ record { steps = b.steps; seed = a.seed; ints = a.ints } = ap (λ x. let r : Settings = record { steps = x; seed = a.seed; ints = a.ints } in r) steps in
    let two : record { steps = b.steps; seed = a.seed; ints = a.ints } ≡ record { steps = b.steps; seed = b.seed; ints = a.ints } = ap (λ x. let r : Settings = record { steps = b.steps; seed = x; ints = a.ints } in r) seed in
    let three : record { steps = b.steps; seed = b.seed; ints = a.ints } ≡ b = ap (λ x. let r : Settings = record { steps = b.steps; seed = b.seed; ints = x } in r) ints in
    one ∙ (two ∙ three)

same_begin : (c : Choice) (word : List ℕ) (n : ℕ) (rest : List (List ℕ)) (after all : Settings) → IsValueOf c word n → (b : Begin (choice_word c ∷ word ∷ rest) all) → (AreSettings rest b.after.steps b.after.seed b.after.ints → after ≡ b.after) → with_value after c n ≡ all
same_begin c word n rest after all is b same_after =
    let by : c ≡ b.by = one_choice c b.by (cc b.words_are) in
    let same_word : word ≡ b.word = cc b.words_are in
    let same_rest : rest ≡ b.rest = cc b.words_are in
    let value : IsValueOf c word b.n = subst (λ d. IsValueOf d word b.n) (sym by) (subst (λ w. IsValueOf b.by w b.n) (sym same_word) b.is) in
    let same_n : n ≡ b.n = one_value c word n b.n is value in
    let rest_same : after ≡ b.after = same_after (subst (λ ws. AreSettings ws b.after.steps b.after.seed b.after.ints) (sym same_rest) b.are) in
    ap (λ s. with_value s c n) rest_same ∙ (ap (with_value b.after c) same_n ∙ (ap (λ d. with_value b.after d b.n) by ∙ sym b.all_are))

pub one_settings : {words : List (List ℕ)} {steps seed : Option ℕ} {ints : List ℤ} → AreSettings words steps seed ints → (other : Settings) → AreSettings words other.steps other.seed other.ints → record { steps = steps; seed = seed; ints = ints } ≡ other
unfolding AreOnlyInts
one_settings (only_ints {ns = ns} are few) other also =
    let all : Settings = record { steps = None; seed = None; ints = ns } in
    elim (view also) as (λ _. all ≡ other) [
      | inl i ↦ same_settings all other (sym i.2) (sym i.3) (one_ints are i.0)
      | inr b ↦ absurd (no_ints b.by (b.word ∷ b.rest) ns (subst (λ ws. AreInts ws ns) b.words_are are))
    ]
one_settings (steps_first {word = word} {n = n} {words = rest} {seed = seed} {ns = ns} is are) other also =
    let after : Settings = record { steps = None; seed = seed; ints = ns } in
    let all : Settings = record { steps = Some n; seed = seed; ints = ns } in
    elim (view also) as (λ _. all ≡ other) [
      | inl i ↦ absurd (no_ints choice.Steps (word ∷ rest) other.ints i.0)
      | inr b ↦ same_begin choice.Steps word n rest after other is b (λ h. one_settings are b.after h)
    ]
one_settings (seed_first {word = word} {n = n} {words = rest} {steps = steps} {ns = ns} is are) other also =
    let after : Settings = record { steps = steps; seed = None; ints = ns } in
    let all : Settings = record { steps = steps; seed = Some n; ints = ns } in
    elim (view also) as (λ _. all ≡ other) [
      | inl i ↦ absurd (no_ints choice.Seed (word ∷ rest) other.ints i.0)
      | inr b ↦ same_begin choice.Seed word n rest after other is b (λ h. one_settings are b.after h)
    ]

-- ---- how many steps are said

pub steps_in_range : {words : List (List ℕ)} {steps seed : Option ℕ} {ints : List ℤ} → AreSettings words steps seed ints → (1 ≤ unwrap_or steps 10000000) × (unwrap_or steps 10000000 ≤ 1000000000)
steps_in_range (only_ints are few) = (omega arith, omega arith)
steps_in_range (steps_first is are) = (is.1, is.2)
steps_in_range (seed_first is are) = steps_in_range are
