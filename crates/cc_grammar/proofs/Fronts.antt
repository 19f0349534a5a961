-- What a symbol spells and its fronts, whatever stands behind them: a symbol looks at no token past its own but the next one.
use Rattle.std.proofs.Common.{◌≡◌, ℕ, zero, suc, ◌≤◌, Bool, true, false, List, [], ◌∷◌, ◌++◌, length, ◌⊎◌, inl, inr, refl, ap, ◌∙◌, sym, append_assoc, arith}
use Rattle.std.proofs.lemmas.List.{length-append}
use Rattle.cc_lexer.specs.declared.token.TokenKind.{TokenKind}
use Rattle.cc_grammar.specs.Lexeme.{Lexeme, Lexemes}
use Rattle.cc_grammar.specs.Kinds.{Kinds, code, heads}
use Rattle.cc_grammar.specs.Symbol.{Symbol, Repeats}
use Rattle.cc_grammar.specs.Symbol as g

-- the one list ends with the other
abbrev pub IsSuffix : Lexemes → Lexemes → Type 0
IsSuffix b a = (u : Lexemes) × (a ≡ u ++ b)

pub suffix_trans : (a b c : Lexemes) → IsSuffix b a → IsSuffix c b → IsSuffix c a
suffix_trans a b c (u, h) (v, i) = (u ++ v, h ∙ (ap (λ w. u ++ w) i ∙ sym (append_assoc u v c)))

pub suffix_length : (a b : Lexemes) → IsSuffix b a → length b ≤ length a
suffix_length a b (u, h) = omega (arith, ap length h, length-append u b)

pub record Fronts {A : Type 0} (s : Symbol A) : Type 0 where
  -- a spelling is a front, and so is no token at all
  pub full : (a b : Lexemes) (x : A) → s.spells a b x → s.front a b
  pub none : (a : Lexemes) → s.front a a
  pub suffix : (a c : Lexemes) → s.front a c → IsSuffix c a
  -- with less behind it
  pub cut : (a b z : Lexemes) (x : A) → s.spells (a ++ z) (b ++ z) x → s.spells a b x
  pub cut_front : (a c z : Lexemes) → s.front (a ++ z) (c ++ z) → s.front a c
  -- with more behind it
  pub grow : (a b z : Lexemes) (t : Lexeme) (x : A) → s.spells a (t ∷ b) x → s.spells (a ++ z) ((t ∷ b) ++ z) x
  pub grow_front : (a c z : Lexemes) → s.front a c → s.front (a ++ z) (c ++ z)
  -- what a front begins with is a front
  pub short : (a z : Lexemes) → s.front (a ++ z) [] → s.front a []

-- ---- lists

same_end : (a b z : Lexemes) → a ++ z ≡ b ++ z → a ≡ b
same_end [] [] z h = refl
same_end [] (t ∷ b) z h = absurd (omega (arith, ap length h, length-append (t ∷ b) z))
same_end (t ∷ a) [] z h = absurd (omega (arith, ap length h, length-append (t ∷ a) z))
same_end (t ∷ a) (u ∷ b) z h =
    let e : t ≡ u = cc in
    let f : a ++ z ≡ b ++ z = cc in
    let i = same_end a b z f in
    cc

no_end : (a z : Lexemes) → a ++ z ≡ [] → a ≡ []
no_end [] z h = refl
no_end (t ∷ a) z h = absurd (omega (arith, ap length h, length-append (t ∷ a) z))

-- what lies between two places ends with what follows
between : (m c z : Lexemes) → IsSuffix (c ++ z) m → (v : Lexemes) × (m ≡ v ++ z) × IsSuffix c v
between m c z (w, h) = (w ++ c, h ∙ sym (append_assoc w c z), (w, refl))

-- of two places in one list, one is not behind the other
meets : (a u m z : Lexemes) → a ++ z ≡ u ++ m → ((v : Lexemes) × (m ≡ v ++ z)) ⊎ ((w : Lexemes) × (z ≡ w ++ m))
meets [] u m z h = inr (u, h)
meets (t ∷ a) [] m z h = inl (t ∷ a, sym h)
meets (t ∷ a) (q ∷ u) m z h = let i : a ++ z ≡ u ++ m = cc in meets a u m z i

no_suffix : (t : Lexeme) (b : Lexemes) → IsSuffix (t ∷ b) [] → ⊥
no_suffix t b (u, h) = omega (arith, ap length h, length-append u (t ∷ b))

empty_suffix : (c : Lexemes) → IsSuffix c [] → c ≡ []
empty_suffix [] h = refl
empty_suffix (t ∷ c) h = absurd (no_suffix t c h)

-- ---- one token, and none

pub token : {A : Type 0} (number : ℕ) (kept : Lexeme → A) → Fronts (g.token number kept)
token number kept = record {
  full = λ a b x (t, h, i, j). inr (t, h, i);
  none = λ a. inl refl;
  suffix = λ a c h. elim h [ inl e ↦ ([], e) | inr w ↦ (w.0 ∷ [], w.1) ];
  cut = λ a b z x (t, h, i, j). (t, same_end a (t ∷ b) z h, i, j);
  cut_front = λ a c z h. elim h [ inl e ↦ inl (same_end a c z e) | inr w ↦ inr (w.0, same_end a (w.0 ∷ c) z w.1, w.2) ];
  grow = λ a b z t x (u, h, i, j). (u, ap (λ v. v ++ z) h, i, j);
  grow_front = λ a c z h. elim h [ inl e ↦ inl (ap (λ v. v ++ z) e) | inr w ↦ inr (w.0, ap (λ v. v ++ z) w.1, w.2) ];
  short = λ a z h. elim h [ inl e ↦ inl (no_end a z e) | inr w ↦ token_short a z w.0 w.1 w.2 ];
}
  where
    token_short : (a z : Lexemes) (t : Lexeme) → a ++ z ≡ t ∷ [] → code t.kind ≡ number → (g.token number kept).front a []
    token_short [] z t h i = inl refl
    token_short (u ∷ a) z t h i =
        let e : u ≡ t = cc in
        let f : a ++ z ≡ [] = cc in
        let j : a ≡ [] = no_end a z f in
        inr (t, cc, i)

pub pure : {A : Type 0} (x : A) → Fronts (g.pure x)
pure x = record {
  full = λ a b y h. h.0;
  none = λ a. refl;
  suffix = λ a c h. ([], h);
  cut = λ a b z y h. (same_end a b z h.0, h.1);
  cut_front = λ a c z h. same_end a c z h;
  grow = λ a b z t y h. (ap (λ v. v ++ z) h.0, h.1);
  grow_front = λ a c z h. ap (λ v. v ++ z) h;
  short = λ a z h. no_end a z h;
}

heads_cut : (ks : Kinds) (a z : Lexemes) → heads ks (a ++ z) ≡ false → heads ks a ≡ false
heads_cut ks [] z h = refl
heads_cut ks (t ∷ a) z h = h

pub before_no : {A : Type 0} (kind : TokenKind) (x : A) → Fronts (g.before_no kind x)
before_no kind x = record {
  full = λ a b y h. h.0;
  none = λ a. refl;
  suffix = λ a c h. ([], h);
  cut = λ a b z y h. (same_end a b z h.0, h.1, heads_cut (code kind ∷ []) a z h.2);
  cut_front = λ a c z h. same_end a c z h;
  grow = λ a b z t y h. (ap (λ v. v ++ z) h.0, h.1, (let e = h.2 in let f = rw h.0 at e in rw h.0 f));
  grow_front = λ a c z h. ap (λ v. v ++ z) h;
  short = λ a z h. no_end a z h;
}

pub never : {A : Type 0} → Fronts (g.never {A = A})
never = record {
  full = λ a b y h. absurd h;
  none = λ a. refl;
  suffix = λ a c h. ([], h);
  cut = λ a b z y h. h;
  cut_front = λ a c z h. same_end a c z h;
  grow = λ a b z t y h. h;
  grow_front = λ a c z h. ap (λ v. v ++ z) h;
  short = λ a z h. no_end a z h;
}

-- a level that may not be opened, and whatever follows it
pub closed : {A B : Type 0} (t : A → Symbol B) → Fronts (g.◌>>=◌ g.never t)
closed t = record {
  full = λ a b y h. absurd h.2;
  none = λ a. inl refl;
  suffix = λ a c h. elim h [ inl e ↦ ([], e) | inr w ↦ absurd w.2 ];
  cut = λ a b z y h. absurd h.2;
  cut_front = λ a c z h. elim h [ inl e ↦ inl (same_end a c z e) | inr w ↦ absurd w.2 ];
  grow = λ a b z t y h. absurd h.2;
  grow_front = λ a c z h. elim h [ inl e ↦ inl (ap (λ v. v ++ z) e) | inr w ↦ absurd w.2 ];
  short = λ a z h. elim h [ inl e ↦ inl (no_end a z e) | inr w ↦ absurd w.2 ];
}

-- ---- one after the other

module _ {A B : Type 0} {s : Symbol A} {t : A → Symbol B} (l : Fronts s) (u : (x : A) → Fronts (t x)) where
  seq_full : (a c : Lexemes) (y : B) → (g.◌>>=◌ s t).spells a c y → (g.◌>>=◌ s t).front a c
  seq_full a c y (m, x, h, i) = inr (m, x, h, (u x).full m c y i)

  seq_suffix : (a c : Lexemes) → (g.◌>>=◌ s t).front a c → IsSuffix c a
  seq_suffix a c (inl h) = l.suffix a c h
  seq_suffix a c (inr (m, x, h, i)) = suffix_trans a m c (l.suffix a m (l.full a m x h)) ((u x).suffix m c i)

  seq_cut : (a c z : Lexemes) (y : B) → (g.◌>>=◌ s t).spells (a ++ z) (c ++ z) y → (g.◌>>=◌ s t).spells a c y
  seq_cut a c z y (m, x, h, i) =
      let w = between m c z ((u x).suffix m (c ++ z) ((u x).full m (c ++ z) y i)) in
      (w.0, x, l.cut a w.0 z x (rw w.1 at h), (u x).cut w.0 c z y (rw w.1 at i))

  seq_cut_front : (a c z : Lexemes) → (g.◌>>=◌ s t).front (a ++ z) (c ++ z) → (g.◌>>=◌ s t).front a c
  seq_cut_front a c z (inl h) = inl (l.cut_front a c z h)
  seq_cut_front a c z (inr (m, x, h, i)) =
      let w = between m c z ((u x).suffix m (c ++ z) i) in
      inr (w.0, x, l.cut a w.0 z x (rw w.1 at h), (u x).cut_front w.0 c z (rw w.1 at i))

  seq_grow : (a b z : Lexemes) (v : Lexeme) (y : B) → (g.◌>>=◌ s t).spells a (v ∷ b) y → (g.◌>>=◌ s t).spells (a ++ z) ((v ∷ b) ++ z) y
  seq_grow a b z v y ([], x, h, i) = absurd (no_suffix v b ((u x).suffix [] (v ∷ b) ((u x).full [] (v ∷ b) y i)))
  seq_grow a b z v y (q ∷ m, x, h, i) = ((q ∷ m) ++ z, x, l.grow a m z q x h, (u x).grow (q ∷ m) b z v y i)

  seq_grow_front : (a c z : Lexemes) → (g.◌>>=◌ s t).front a c → (g.◌>>=◌ s t).front (a ++ z) (c ++ z)
  seq_grow_front a c z (inl h) = inl (l.grow_front a c z h)
  seq_grow_front a c z (inr ([], x, h, i)) = let e = empty_suffix c ((u x).suffix [] c i) in rw e (inl (l.grow_front a [] z (l.full a [] x h)))
  seq_grow_front a c z (inr (q ∷ m, x, h, i)) = inr ((q ∷ m) ++ z, x, l.grow a m z q x h, (u x).grow_front (q ∷ m) c z i)

  -- the first symbol may end behind the front's end
  first_short : (a z m w : Lexemes) (x : A) → s.spells (a ++ z) m x → z ≡ w ++ m → s.front a []
  first_short a z m w x h e =
      let f : s.front (a ++ z) m = l.full (a ++ z) m x h in
      let i : s.front ((a ++ w) ++ m) m = rw (append_assoc a w m) (rw e at f) in
      l.short a w (l.cut_front (a ++ w) [] m i)

  seq_short : (a z : Lexemes) → (g.◌>>=◌ s t).front (a ++ z) [] → (g.◌>>=◌ s t).front a []
  seq_short a z (inl h) = inl (l.short a z h)
  seq_short a z (inr (m, x, h, i)) = go (let w = l.suffix (a ++ z) m (l.full (a ++ z) m x h) in meets a w.0 m z w.1)
    where
      go : ((v : Lexemes) × (m ≡ v ++ z)) ⊎ ((w : Lexemes) × (z ≡ w ++ m)) → (g.◌>>=◌ s t).front a []
      go (inl (v, e)) = inr (v, x, l.cut a v z x (rw e at h), (u x).short v z (rw e at i))
      go (inr (w, e)) = inl (first_short a z m w x h e)

  pub seq : Fronts (g.◌>>=◌ s t)
  seq = record {
    full = seq_full;
    none = λ a. inl (l.none a);
    suffix = seq_suffix;
    cut = seq_cut;
    cut_front = seq_cut_front;
    grow = seq_grow;
    grow_front = seq_grow_front;
    short = seq_short;
  }

-- ---- one of two

pub either : {A : Type 0} {s t : Symbol A} → Fronts s → Fronts t → Fronts (g.◌or◌ s t)
either l u = record {
  full = λ a b x h. elim h [ inl i ↦ inl (l.full a b x i) | inr i ↦ inr (u.full a b x i) ];
  none = λ a. inl (l.none a);
  suffix = λ a c h. elim h [ inl i ↦ l.suffix a c i | inr i ↦ u.suffix a c i ];
  cut = λ a b z x h. elim h [ inl i ↦ inl (l.cut a b z x i) | inr i ↦ inr (u.cut a b z x i) ];
  cut_front = λ a c z h. elim h [ inl i ↦ inl (l.cut_front a c z i) | inr i ↦ inr (u.cut_front a c z i) ];
  grow = λ a b z t x h. elim h [ inl i ↦ inl (l.grow a b z t x i) | inr i ↦ inr (u.grow a b z t x i) ];
  grow_front = λ a c z h. elim h [ inl i ↦ inl (l.grow_front a c z i) | inr i ↦ inr (u.grow_front a c z i) ];
  short = λ a z h. elim h [ inl i ↦ inl (l.short a z i) | inr i ↦ inr (u.short a z i) ];
}

-- ---- any number of times

module _ {A : Type 0} {s : Symbol A} (l : Fronts s) where
  many_suffix : (a b : Lexemes) (xs : List A) → Repeats s.spells a b xs → IsSuffix b a
  many_suffix a b [] h = ([], h)
  many_suffix a b (x ∷ xs) (m, h, i) = suffix_trans a m b (l.suffix a m (l.full a m x h)) (many_suffix m b xs i)

  many_cut : (a b z : Lexemes) (xs : List A) → Repeats s.spells (a ++ z) (b ++ z) xs → Repeats s.spells a b xs
  many_cut a b z [] h = same_end a b z h
  many_cut a b z (x ∷ xs) (m, h, i) =
      let w = between m b z (many_suffix m (b ++ z) xs i) in
      (w.0, l.cut a w.0 z x (rw w.1 at h), many_cut w.0 b z xs (rw w.1 at i))

  many_grow : (a b z : Lexemes) (t : Lexeme) (xs : List A) → Repeats s.spells a (t ∷ b) xs → Repeats s.spells (a ++ z) ((t ∷ b) ++ z) xs
  many_grow a b z t [] h = ap (λ v. v ++ z) h
  many_grow a b z t (x ∷ xs) ([], h, i) = absurd (no_suffix t b (many_suffix [] (t ∷ b) xs i))
  many_grow a b z t (x ∷ xs) (q ∷ m, h, i) = ((q ∷ m) ++ z, l.grow a m z q x h, many_grow (q ∷ m) b z t xs i)

  -- the last repetition may end with the list
  many_grow_front : (a c z b : Lexemes) (xs : List A) → Repeats s.spells a b xs → s.front b c → (g.many s).front (a ++ z) (c ++ z)
  many_grow_front a c z b [] h i = (a ++ z, [], refl, l.grow_front a c z (rw h i))
  many_grow_front a c z b (x ∷ xs) ([], h, i) j =
      let e = empty_suffix c (suffix_trans [] b c (many_suffix [] b xs i) (l.suffix b c j)) in
      rw e (a ++ z, [], refl, l.grow_front a [] z (l.full a [] x h))
  many_grow_front a c z b (x ∷ xs) (q ∷ m, h, i) j =
      let w = many_grow_front (q ∷ m) c z b xs i j in
      (w.0, x ∷ w.1, ((q ∷ m) ++ z, l.grow a m z q x h, w.2), w.3)

  many_short : (a z b : Lexemes) (xs : List A) → Repeats s.spells (a ++ z) b xs → s.front b [] → (g.many s).front a []
  many_short a z b [] h i = (a, [], refl, l.short a z (rw h i))
  many_short a z b (x ∷ xs) (m, h, i) j =
      go (let w = l.suffix (a ++ z) m (l.full (a ++ z) m x h) in meets a w.0 m z w.1) (λ v e. many_short v z b xs (rw e at i) j)
    where
      go : ((v : Lexemes) × (m ≡ v ++ z)) ⊎ ((w : Lexemes) × (z ≡ w ++ m)) → ((v : Lexemes) → m ≡ v ++ z → (g.many s).front v []) → (g.many s).front a []
      go (inl (v, e)) rest = let w = rest v e in (w.0, x ∷ w.1, (v, l.cut a v z x (rw e at h), w.2), w.3)
      go (inr (w, e)) rest = (a, [], refl, first_short l (λ (x : A). l) a z m w x h e)

  pub many : Fronts (g.many s)
  many = record {
    full = λ a b xs h. (b, xs, h, l.none b);
    none = λ a. (a, [], refl, l.none a);
    suffix = λ a c (b, xs, h, i). suffix_trans a b c (many_suffix a b xs h) (l.suffix b c i);
    cut = many_cut;
    cut_front = λ a c z (b, xs, h, i). (let w = between b c z (l.suffix b (c ++ z) i) in (w.0, xs, many_cut a w.0 z xs (rw w.1 at h), l.cut_front w.0 c z (rw w.1 at i)));
    grow = many_grow;
    grow_front = λ a c z (b, xs, h, i). many_grow_front a c z b xs h i;
    short = λ a z (b, xs, h, i). many_short a z b xs h i;
  }
