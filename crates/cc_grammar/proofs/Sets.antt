-- Sets of kinds, and what stands at the front of a list of tokens.
use Rattle.std.proofs.Common.{◌≡◌, ℕ, Bool, true, false, ◌||◌, ◌&&◌, not, ◌==◌, [], ◌∷◌, ◌++◌, refl, ◌∙◌, sym, ◌⊎◌, inl, inr}
use Rattle.std.proofs.lemmas.Bool.{eqb-true}
use Rattle.cc_grammar.specs.Lexeme.{Lexemes}
use Rattle.cc_grammar.specs.Kinds.{Kinds, code, has, are_apart, is_within, heads}

-- the list begins with a token of the set
abbrev pub Begins : Kinds → Lexemes → Type 0
Begins ks a = heads ks a ≡ true

-- it does not
abbrev pub Ends : Kinds → Lexemes → Type 0
Ends ks a = heads ks a ≡ false

and_true : (a b : Bool) → (a && b) ≡ true → (a ≡ true) × (b ≡ true)
and_true true b h = (refl, h)
and_true false b h = (cc, cc)

or_false : (a b : Bool) → (a || b) ≡ false → (a ≡ false) × (b ≡ false)
or_false true b h = (cc, cc)
or_false false b h = (refl, h)

or_true : (a b : Bool) → (a || b) ≡ true → (a ≡ true) ⊎ (b ≡ true)
or_true true b h = inl refl
or_true false b h = inr h

true_or : (a b : Bool) → a ≡ true → (a || b) ≡ true
true_or true b h = refl
true_or false b h = cc

or_true_right : (a b : Bool) → b ≡ true → (a || b) ≡ true
or_true_right true b h = refl
or_true_right false b h = h

not_true : (a : Bool) → not a ≡ true → a ≡ false
not_true true h = cc
not_true false h = refl

has-append : (ms ns : Kinds) (n : ℕ) → has (ms ++ ns) n ≡ (has ms n || has ns n)
has-append [] ns n = refl
has-append (m ∷ ms) ns n = or_step (n == m) (has (ms ++ ns) n) (has ms n) (has ns n) (has-append ms ns n)
  where
    or_step : (a b c d : Bool) → b ≡ (c || d) → (a || b) ≡ ((a || c) || d)
    or_step true b c d h = refl
    or_step false b c d h = h

has_apart : (ms ns : Kinds) (n : ℕ) → are_apart ms ns ≡ true → has ms n ≡ true → has ns n ≡ false
has_apart [] ns n h i = cc
has_apart (m ∷ ms) ns n h i = go (n == m) refl i (has_apart ms ns n (and_true (not (has ns m)) _ h).1)
  where
    go : (b : Bool) → (n == m) ≡ b → (b || has ms n) ≡ true → (has ms n ≡ true → has ns n ≡ false) → has ns n ≡ false
    go true e j f = rw (eqb-true n m e) (not_true (has ns m) (and_true (not (has ns m)) _ h).0)
    go false e j f = f j

has_within : (ms ns : Kinds) (n : ℕ) → is_within ms ns ≡ true → has ms n ≡ true → has ns n ≡ true
has_within [] ns n h i = cc
has_within (m ∷ ms) ns n h i = go (n == m) refl i (has_within ms ns n (and_true (has ns m) _ h).1)
  where
    go : (b : Bool) → (n == m) ≡ b → (b || has ms n) ≡ true → (has ms n ≡ true → has ns n ≡ true) → has ns n ≡ true
    go true e j f = rw (eqb-true n m e) (and_true (has ns m) _ h).0
    go false e j f = f j

pub begins_apart : (ms ns : Kinds) (a : Lexemes) → are_apart ms ns ≡ true → Begins ms a → Ends ns a
begins_apart ms ns [] h i = refl
begins_apart ms ns (t ∷ a) h i = has_apart ms ns _ h i

pub begins_within : (ms ns : Kinds) (a : Lexemes) → is_within ms ns ≡ true → Begins ms a → Begins ns a
begins_within ms ns [] h i = cc
begins_within ms ns (t ∷ a) h i = has_within ms ns _ h i

pub ends_within : (ms ns : Kinds) (a : Lexemes) → is_within ms ns ≡ true → Ends ns a → Ends ms a
ends_within ms ns [] h i = refl
ends_within ms ns (t ∷ a) h i = go (has ms (code t.kind)) refl
  where
    go : (b : Bool) → has ms (code t.kind) ≡ b → has ms (code t.kind) ≡ false
    go true e = let f : has ns (code t.kind) ≡ true = has_within ms ns _ h e in cc
    go false e = e

pub ends_left : (ms ns : Kinds) (a : Lexemes) → Ends (ms ++ ns) a → Ends ms a
ends_left ms ns [] h = refl
ends_left ms ns (t ∷ a) h = (or_false _ _ (sym (has-append ms ns (code t.kind)) ∙ h)).0

pub ends_right : (ms ns : Kinds) (a : Lexemes) → Ends (ms ++ ns) a → Ends ns a
ends_right ms ns [] h = refl
ends_right ms ns (t ∷ a) h = (or_false (has ms (code t.kind)) _ (sym (has-append ms ns (code t.kind)) ∙ h)).1

pub begins_left : (ms ns : Kinds) (a : Lexemes) → Begins ms a → Begins (ms ++ ns) a
begins_left ms ns [] h = h
begins_left ms ns (t ∷ a) h = has-append ms ns (code t.kind) ∙ true_or _ _ h

pub begins_right : (ms ns : Kinds) (a : Lexemes) → Begins ns a → Begins (ms ++ ns) a
begins_right ms ns [] h = h
begins_right ms ns (t ∷ a) h = has-append ms ns (code t.kind) ∙ or_true_right (has ms (code t.kind)) _ h

pub begins_either : (ms ns : Kinds) (a : Lexemes) → Begins (ms ++ ns) a → Begins ms a ⊎ Begins ns a
begins_either ms ns [] h = cc
begins_either ms ns (t ∷ a) h = or_true (has ms (code t.kind)) (has ns (code t.kind)) (sym (has-append ms ns (code t.kind)) ∙ h)

pub apart_none : (ms : Kinds) → are_apart ms [] ≡ true
apart_none [] = refl
apart_none (m ∷ ms) = apart_none ms
