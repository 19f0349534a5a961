-- What follows a name with which a symbol begins, and how that tells two symbols apart.
use Rattle.std.proofs.Common.{◌≡◌, ℕ, Bool, true, false, List, [], ◌∷◌, ◌++◌, ◌⊎◌, inl, inr, refl, ap, sym, ◌∙◌, arith}
use Rattle.cc_grammar.specs.declared.parts.Name.{Name}
use Rattle.cc_grammar.specs.Lexeme.{Lexeme, Lexemes}
use Rattle.cc_grammar.specs.Kinds.{Kinds, code, heads, tail_of, are_apart, is_within}
use Rattle.cc_grammar.specs.Symbol.{Symbol, name, ◌>>=◌, ◌or◌}
use Rattle.cc_grammar.specs.Reading.{Reader, at_name, choose_by}
use Rattle.cc_grammar.proofs.Sets.{Begins, begins_apart, begins_within, begins_either}
use Rattle.cc_grammar.proofs.Fronts.{Fronts}
use Rattle.cc_grammar.proofs.Rules.{Reads, told_apart}
use Rattle.cc_grammar.proofs.Same.{Same}

pub record Follows {A : Type 0} (seconds : Kinds) (s : Symbol A) : Type 0 where
  -- a front that begins with a name is no more than that name, or goes on with one of these kinds
  pub front : (a c : Lexemes) → s.front a c → heads at_name a ≡ true → (a ≡ c) ⊎ ((tail_of a ≡ c) ⊎ Begins seconds (tail_of a))
  pub whole : (a b : Lexemes) (x : A) → s.spells a b x → heads at_name a ≡ true → Begins seconds (tail_of a)

-- a name alone is a front
abbrev pub MayBeName : {A : Type 0} → Symbol A → Type 0
MayBeName s = (t : Lexeme) (c : Lexemes) → code t.kind ≡ 0 → s.front (t ∷ c) c

module _ {A : Type 0} {ks : Kinds} {s t : Symbol A} where
  pub follows_or : Follows ks s → Follows ks t → Follows ks (s or t)
  follows_or l u = record {
    front = λ a c h i. elim h [ inl j ↦ l.front a c j i | inr j ↦ u.front a c j i ];
    whole = λ a b x h i. elim h [ inl j ↦ l.whole a b x j i | inr j ↦ u.whole a b x j i ];
  }

  pub follows_same : Same s t → Follows ks t → Follows ks s
  follows_same i l = record { front = λ a c h. l.front a c (i.front_to a c h); whole = λ a b x h. l.whole a b x (i.to a b x h) }

pub follows_seq : {A B : Type 0} {ks : Kinds} {s : Symbol A} {t : A → Symbol B} → Follows ks s → Follows ks (s >>= t)
follows_seq l = record {
  front = λ a c h i. elim h [ inl j ↦ l.front a c j i | inr w ↦ inr (inr (l.whole a w.0 w.1 w.2 i)) ];
  whole = λ a b y (m, x, h, j) i. l.whole a m x h i;
}

pub follows_within : {A : Type 0} {ks : Kinds} {s : Symbol A} (ns : Kinds) → Follows ks s → is_within ks ns ≡ true → Follows ns s
follows_within {ks = ks} ns l w = record {
  front = λ a c h i. elim (l.front a c h i) [ inl j ↦ inl j | inr j ↦ elim j [ inl k ↦ inr (inl k) | inr k ↦ inr (inr (begins_within ks ns (tail_of a) w k)) ] ];
  whole = λ a b x h i. begins_within ks ns (tail_of a) w (l.whole a b x h i);
}

-- what begins with no name
no_name : (f : Kinds) (a : Lexemes) → are_apart f at_name ≡ true → Begins f a → heads at_name a ≡ true → ⊥
no_name f a h i j = let v : heads at_name a ≡ false = begins_apart f at_name a h i in cc

pub follows_other : {A : Type 0} {n : ℕ} {o p : Reader A} {s : Symbol A} {f goes ks : Kinds} → Reads n o p s f goes false → are_apart f at_name ≡ true → Follows ks s
follows_other {f = f} l h = record {
  front = λ a c j i. elim (l.exact.begins a c j) [ inl w ↦ inl w | inr w ↦ absurd (no_name f a h w i) ];
  whole = λ a b x j i. absurd (no_name f a h (l.exact.some refl a b x j) i);
}

-- a name, and what follows it
pub follows_name : {A : Type 0} {ks : Kinds} (t : Name → Symbol A) → ((u : Name) (m c : Lexemes) → (t u).front m c → (m ≡ c) ⊎ Begins ks m) → ((u : Name) (m b : Lexemes) (y : A) → (t u).spells m b y → Begins ks m) → Follows ks (name >>= t)
follows_name t h k = record {
  front = λ a c i j. elim i [
    | inl (inl e) ↦ inl e
    | inl (inr (q, e, w)) ↦ inr (inl (ap tail_of e))
    | inr (m, u, (q, e, w, z), v) ↦ elim (h u m c v) [ inl x ↦ inr (inl (ap tail_of e ∙ x)) | inr x ↦ inr (inr (rw e x)) ]
  ];
  whole = λ a b y (m, u, (q, e, w, z), v) i. rw e (k u m b y v);
}

-- ---- telling apart

name_of : (a : Lexemes) → heads at_name a ≡ true → (t : Lexeme) × (a ≡ t ∷ tail_of a) × (code t.kind ≡ 0)
name_of [] h = absurd cc
name_of (t ∷ a) h = (t, refl, kind_of t a h)
  where
    kind_of : (t : Lexeme) (a : Lexemes) → heads at_name (t ∷ a) ≡ true → code t.kind ≡ 0
    kind_of t a h = grind (arith)

alone : {A : Type 0} (s : Symbol A) → MayBeName s → (a c : Lexemes) → heads at_name a ≡ true → tail_of a ≡ c → s.front a c
alone s one a c h i = let w = name_of a h in rw (w.1, i) (one w.0 c w.2)

-- The first symbol begins with one of the words or with a name and one kind of seconds, and the other one with a name and another kind
-- of seconds, or otherwise.
module _ {A : Type 0} {n : ℕ} {o p v q : Reader A} {s t : Symbol A} {f2 g1 g2 k1 k2 : Kinds} (words : Kinds) (test : Lexemes → Bool)
    (l : Reads n o p s (words ++ at_name) g1 false) (u : Reads n v q t f2 g2 false) (fs : Follows k1 s) (ft : Follows k2 t) (one_s : MayBeName s) (one_t : MayBeName t)
    (yes_word : (a : Lexemes) → Begins words a → test a ≡ true) (yes_second : (a : Lexemes) → heads at_name a ≡ true → Begins k1 (tail_of a) → test a ≡ true)
    (no_first : (a : Lexemes) → Begins f2 a → heads at_name a ≡ false → test a ≡ false) (no_second : (a : Lexemes) → Begins f2 a → heads at_name a ≡ true → Begins k2 (tail_of a) → test a ≡ false) where
  yes_whole : (a b : Lexemes) (x : A) → s.spells a b x → test a ≡ true
  yes_whole a b x h = elim (begins_either words at_name a (l.exact.some refl a b x h)) [ inl w ↦ yes_word a w | inr w ↦ yes_second a w (fs.whole a b x h w) ]

  no_whole_by : (a b : Lexemes) (x : A) (w : Bool) → heads at_name a ≡ w → t.spells a b x → test a ≡ false
  no_whole_by a b x true e h = no_second a (u.exact.some refl a b x h) e (ft.whole a b x h e)
  no_whole_by a b x false e h = no_first a (u.exact.some refl a b x h) e

  yes_front : (a c : Lexemes) → s.front a c → (test a ≡ true) ⊎ t.front a c
  yes_front a c h = elim (l.exact.begins a c h) [
    | inl e ↦ inr (rw e (u.fronts.none c))
    | inr w ↦ elim (begins_either words at_name a w) [
      | inl i ↦ inl (yes_word a i)
      | inr i ↦ elim (fs.front a c h i) [
        | inl e ↦ inr (rw e (u.fronts.none c))
        | inr j ↦ elim j [ inl e ↦ inr (alone t one_t a c i e) | inr z ↦ inl (yes_second a i z) ]
      ]
    ]
  ]

  no_front_by : (a c : Lexemes) (w : Bool) → heads at_name a ≡ w → Begins f2 a → t.front a c → (test a ≡ false) ⊎ s.front a c
  no_front_by a c false e i h = inl (no_first a i e)
  no_front_by a c true e i h = elim (ft.front a c h e) [
    | inl j ↦ inr (rw j (l.fronts.none c))
    | inr j ↦ elim j [ inl k ↦ inr (alone s one_s a c e k) | inr k ↦ inl (no_second a i e k) ]
  ]

  no_front : (a c : Lexemes) → t.front a c → (test a ≡ false) ⊎ s.front a c
  no_front a c h = elim (u.exact.begins a c h) [ inl e ↦ inr (rw e (l.fronts.none c)) | inr i ↦ no_front_by a c (heads at_name a) refl i h ]

  pub by_second : Reads n (choose_by test o v) (choose_by test p q) (s or t) ((words ++ at_name) ++ f2) (g1 ++ g2) false
  by_second = told_apart test l u yes_whole (λ a b x h. no_whole_by a b x (heads at_name a) refl h) yes_front no_front
