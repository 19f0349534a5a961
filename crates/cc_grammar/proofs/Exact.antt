-- That a reader reads exactly what its symbol spells, and stops at the first place that is no front, put together along the grammar.
use Rattle.std.proofs.Common.{◌≡◌, ℕ, zero, suc, ◌+◌, ◌≤◌, Bool, true, false, ◌&&◌, cond, List, [], ◌∷◌, ◌++◌, length, ◌⊎◌, inl, inr, refl, ap, ◌∙◌, sym, arith}
use Rattle.cc_lexer.specs.declared.token.TokenKind.{TokenKind}
use Rattle.cc_grammar.specs.declared.fault.Fault.{Fault}
use Rattle.cc_grammar.specs.declared.fault.Fault.TheVariants.{Syntax, TooDeep}
use Rattle.cc_grammar.specs.Lexeme.{Lexeme, Lexemes}
use Rattle.cc_grammar.specs.Kinds.{Kinds, code, are_apart, is_within, heads}
use Rattle.cc_grammar.specs.Symbol.{Symbol, Repeats}
use Rattle.cc_grammar.specs.Symbol as g
use Rattle.cc_grammar.specs.Reading.{Answer, Good, Failed, Reader, and_then, choose, choose_by}
use Rattle.cc_grammar.specs.Reading as r
use Rattle.cc_grammar.proofs.Sets.{Begins, Ends, begins_apart, begins_within, ends_within, ends_left, ends_right, begins_left, begins_right}
use Rattle.cc_grammar.proofs.Fronts.{Fronts, IsSuffix, suffix_trans, suffix_length}

-- what is left, or what stands at the fault
abbrev pub rest : {A : Type 0} → Answer A → Lexemes
rest (Good x b) = b
rest (Failed w b) = b

abbrev pub IsFault : {A : Type 0} → Answer A → Type 0
IsFault (Good x b) = ⊥
IsFault (Failed w b) = Unit {0}

-- first: the kinds that may begin the symbol. goes: those with which a whole spelling of it may go on.
-- empty: whether no token at all may be a spelling of it
pub record Exact {A : Type 0} (p : Reader A) (s : Symbol A) (first goes : Kinds) (empty : Bool) : Type 0 where
  pub sound : (a b : Lexemes) (x : A) → p a ≡ Good x b → s.spells a b x
  pub complete : (a b : Lexemes) (x : A) → s.spells a b x → Ends goes b → p a ≡ Good x b
  pub begins : (a c : Lexemes) → s.front a c → (a ≡ c) ⊎ Begins first a
  pub some : empty ≡ false → (a b : Lexemes) (x : A) → s.spells a b x → Begins first a
  pub size : (a b : Lexemes) (x : A) → s.spells a b x → length b + cond empty 0 1 ≤ length a
  -- the place of a fault: what stands before it is a front, and no front goes on past the place where the reader stopped
  pub viable : (a : Lexemes) → IsFault (p a) → s.front a (rest (p a))
  pub stops : (a c : Lexemes) → s.front a c → length (rest (p a)) ≤ length c
  pub ahead : (a : Lexemes) → IsSuffix (rest (p a)) a

pub onward : {A : Type 0} {p : Reader A} {s : Symbol A} {first goes : Kinds} {empty : Bool} → Exact p s first goes empty → (a : Lexemes) → length (rest (p a)) ≤ length a
onward {p = p} l a = suffix_length a (rest (p a)) (l.ahead a)

-- ---- one token

take_good : {A : Type 0} (b : Bool) (kept : Lexeme → A) (a c : Lexemes) (x : A) → r.take_if b kept a ≡ Good x c → (t : Lexeme) × (a ≡ t ∷ c) × (b ≡ true) × (kept t ≡ x)
take_good b kept [] c x h = absurd cc
take_good true kept (u ∷ a) c x h = (u, cc, refl, cc)
take_good false kept (u ∷ a) c x h = absurd cc

take_fault : {A : Type 0} (b : Bool) (kept : Lexeme → A) (a : Lexemes) → IsFault (r.take_if b kept a) → a ≡ rest (r.take_if b kept a)
take_fault b kept [] h = refl
take_fault true kept (u ∷ a) h = absurd h
take_fault false kept (u ∷ a) h = refl

take_ahead : {A : Type 0} (b : Bool) (kept : Lexeme → A) (a : Lexemes) → IsSuffix (rest (r.take_if b kept a)) a
take_ahead b kept [] = ([], refl)
take_ahead true kept (u ∷ a) = (u ∷ [], refl)
take_ahead false kept (u ∷ a) = ([], refl)

head_kind : (n : ℕ) (t : Lexeme) (a : Lexemes) → heads (n ∷ []) (t ∷ a) ≡ true → code t.kind ≡ n
head_kind n t a h = grind (arith)

pub kind_head : (n : ℕ) (t : Lexeme) (a : Lexemes) → code t.kind ≡ n → heads (n ∷ []) (t ∷ a) ≡ true
kind_head n t a h = grind (arith)

module _ {A : Type 0} (n : ℕ) (kept : Lexeme → A) where
  token_sound : (a b : Lexemes) (x : A) → r.take_if (heads (n ∷ []) a) kept a ≡ Good x b → (g.token n kept).spells a b x
  token_sound a b x h = let w = take_good (heads (n ∷ []) a) kept a b x h in (w.0, w.1, head_kind n w.0 b (rw w.1 at w.2), w.3)

  token_complete : (a b : Lexemes) (x : A) → (g.token n kept).spells a b x → r.take_if (heads (n ∷ []) a) kept a ≡ Good x b
  token_complete a b x (t, h, i, j) = let k : heads (n ∷ []) (t ∷ b) ≡ true = kind_head n t b i in rw (h, k, j) refl

  token_stops : (a c : Lexemes) → (g.token n kept).front a c → length (rest (r.take_if (heads (n ∷ []) a) kept a)) ≤ length c
  token_stops a c (inl e) = omega (arith, suffix_length a (rest (r.take_if (heads (n ∷ []) a) kept a)) (take_ahead (heads (n ∷ []) a) kept a), ap length e)
  token_stops a c (inr (t, h, i)) = let k : heads (n ∷ []) (t ∷ c) ≡ true = kind_head n t c i in rw (h, k) (omega arith)

  pub token : Exact (r.token n kept) (g.token n kept) (n ∷ []) [] false
  unfolding r.token
  token = record {
    sound = token_sound;
    complete = λ a b x h e. token_complete a b x h;
    begins = λ a c h. elim h [ inl e ↦ inl e | inr w ↦ inr (rw w.1 (kind_head n w.0 c w.2)) ];
    some = λ _ a b x (t, h, i, j). rw h (kind_head n t b i);
    size = λ a b x (t, h, i, j). rw h (omega arith);
    viable = λ a h. inl (take_fault (heads (n ∷ []) a) kept a h);
    stops = token_stops;
    ahead = λ a. take_ahead (heads (n ∷ []) a) kept a;
  }

-- ---- no token, and a level that may not be opened

pub pure : {A : Type 0} (x : A) → Exact (r.pure x) (g.pure x) [] [] true
pure x = record {
  sound = λ a b y h. (cc, cc);
  complete = λ a b y h e. cc;
  begins = λ a c h. inl h;
  some = λ i a b y h. absurd cc;
  size = λ a b y h. rw h.0 (omega arith);
  viable = λ a h. absurd h;
  stops = λ a c h. rw h (omega arith);
  ahead = λ a. ([], refl);
}

pub never : {A : Type 0} (w : Fault) → Exact {A = A} (λ a. Failed w a) g.never [] [] false
never {A} w = record {
  sound = λ a b y h. absurd cc;
  complete = λ a b y h e. absurd h;
  begins = λ a c h. inl h;
  some = λ i a b y h. absurd h;
  size = λ a b y h. absurd h;
  viable = λ a h. refl;
  stops = λ a c h. rw h (omega arith);
  ahead = λ a. ([], refl);
}

deep_rest : {A : Type 0} (b : Bool) (a : Lexemes) (q : ℕ → Reader A) → rest (and_then (cond b (Failed TooDeep a) (Failed Syntax a)) q) ≡ a
deep_rest true a q = refl
deep_rest false a q = refl

deep_bad : {A : Type 0} (b : Bool) (a c : Lexemes) (q : ℕ → Reader A) (x : A) → and_then (cond b (Failed TooDeep a) (Failed Syntax a)) q ≡ Good x c → ⊥
deep_bad true a c q x h = cc
deep_bad false a c q x h = cc

pub closed : {A : Type 0} (kind : TokenKind) (q : ℕ → Reader A) (t : ℕ → Symbol A) (goes : Kinds) → Exact (r.◌>>=◌ (r.opening zero kind) q) (g.◌>>=◌ (g.opening zero kind) t) (code kind ∷ []) goes false
unfolding r.opening
closed kind q t goes = record {
  sound = λ a b y h. absurd (deep_bad (heads (code kind ∷ []) a) a b q y h);
  complete = λ a b y h e. absurd h.2;
  begins = λ a c h. elim h [ inl i ↦ inl i | inr w ↦ absurd w.2 ];
  some = λ i a b y h. absurd h.2;
  size = λ a b y h. absurd h.2;
  viable = λ a h. inl (sym (deep_rest (heads (code kind ∷ []) a) a q));
  stops = λ a c h. elim h [ inl i ↦ omega (arith, ap length (deep_rest (heads (code kind ∷ []) a) a q), ap length i) | inr w ↦ absurd w.2 ];
  ahead = λ a. ([], sym (deep_rest (heads (code kind ∷ []) a) a q));
}

-- ---- one after the other

middle : (f2 g1 g2 : Kinds) (e2 : Bool) (b c : Lexemes) → are_apart f2 g1 ≡ true → (b ≡ c) ⊎ Begins f2 b → (e2 ≡ false → Begins f2 b) → Ends (g2 ++ cond e2 g1 []) c → Ends g1 b
middle f2 g1 g2 false b c h w s e = begins_apart f2 g1 b h (s refl)
middle f2 g1 g2 true b c h (inl i) s e = rw i (ends_right g2 g1 c e)
middle f2 g1 g2 true b c h (inr i) s e = begins_apart f2 g1 b h i

pub and_then_good : {A B : Type 0} (o : Answer A) (q : A → Reader B) (c : Lexemes) (y : B) → and_then o q ≡ Good y c → (b : Lexemes) × (x : A) × (o ≡ Good x b) × (q x b ≡ Good y c)
and_then_good (Good x b) q c y h = (b, x, refl, h)
and_then_good (Failed w b) q c y h = absurd cc

pub and_then_onward : {A B : Type 0} (o : Answer A) (q : A → Reader B) → ((x : A) (b : Lexemes) → length (rest (q x b)) ≤ length b) → length (rest (and_then o q)) ≤ length (rest o)
and_then_onward (Good x b) q h = h x b
and_then_onward (Failed w b) q h = omega arith

and_then_ahead : {A B : Type 0} (a : Lexemes) (o : Answer A) (q : A → Reader B) → IsSuffix (rest o) a → ((x : A) (b : Lexemes) → IsSuffix (rest (q x b)) b) → IsSuffix (rest (and_then o q)) a
and_then_ahead a (Good x b) q h i = suffix_trans a b (rest (q x b)) h (i x b)
and_then_ahead a (Failed w b) q h i = h

both_first : (f1 f2 : Kinds) (e1 : Bool) (a b c : Lexemes) → (a ≡ b) ⊎ Begins f1 a → (e1 ≡ false → Begins f1 a) → (b ≡ c) ⊎ Begins f2 b → (a ≡ c) ⊎ Begins (f1 ++ cond e1 f2 []) a
both_first f1 f2 false a b c h s k = inr (begins_left f1 [] a (s refl))
both_first f1 f2 true a b c (inr h) s k = inr (begins_left f1 f2 a h)
both_first f1 f2 true a b c (inl h) s (inl k) = inl (h ∙ k)
both_first f1 f2 true a b c (inl h) s (inr k) = inr (begins_right f1 f2 a (rw h k))

both_some : (f1 f2 : Kinds) (e1 e2 : Bool) (a b : Lexemes) → (e1 && e2) ≡ false → (a ≡ b) ⊎ Begins f1 a → (e1 ≡ false → Begins f1 a) → (e2 ≡ false → Begins f2 b) → Begins (f1 ++ cond e1 f2 []) a
both_some f1 f2 false e2 a b i h s k = begins_left f1 [] a (s refl)
both_some f1 f2 true e2 a b i (inr h) s k = begins_left f1 f2 a h
both_some f1 f2 true e2 a b i (inl h) s k = begins_right f1 f2 a (rw h (k i))

both_size : (e1 e2 : Bool) (a b c : ℕ) → b + cond e1 0 1 ≤ a → c + cond e2 0 1 ≤ b → c + cond (e1 && e2) 0 1 ≤ a
both_size false false a b c h i = omega arith
both_size false true a b c h i = omega arith
both_size true e2 a b c h i = omega arith

module _ {A B : Type 0} {p : Reader A} {q : A → Reader B} {s : Symbol A} {t : A → Symbol B} {f1 g1 f2 g2 : Kinds} {e1 e2 : Bool}
    (k : Fronts s) (v : (x : A) → Fronts (t x)) (l : Exact p s f1 g1 e1) (u : (x : A) → Exact (q x) (t x) f2 g2 e2) (apart : are_apart f2 g1 ≡ true) where
  seq_begins : (a c : Lexemes) → (g.◌>>=◌ s t).front a c → (a ≡ c) ⊎ Begins (f1 ++ cond e1 f2 []) a
  seq_begins a c (inl h) = elim (l.begins a c h) [ inl i ↦ inl i | inr i ↦ inr (begins_left f1 (cond e1 f2 []) a i) ]
  seq_begins a c (inr (b, x, h, i)) = both_first f1 f2 e1 a b c (l.begins a b (k.full a b x h)) (λ j. l.some j a b x h) ((u x).begins b c i)

  seq_viable : (a : Lexemes) (o : Answer A) → p a ≡ o → IsFault (and_then o q) → (g.◌>>=◌ s t).front a (rest (and_then o q))
  seq_viable a (Good x b) e h = inr (b, x, l.sound a b x e, (u x).viable b h)
  seq_viable a (Failed w b) e h = inl (let v = l.viable a in let w = rw e at v in w tt)

  seq_onward : (a : Lexemes) → length (rest (and_then (p a) q)) ≤ length (rest (p a))
  seq_onward a = and_then_onward (p a) q (λ x b. onward (u x) b)

  seq_stops : (a c : Lexemes) → (g.◌>>=◌ s t).front a c → length (rest (and_then (p a) q)) ≤ length c
  seq_stops a c (inl h) = omega (arith, l.stops a c h, seq_onward a)
  seq_stops a c (inr (b, x, h, i)) = go ((u x).begins b c i)
    where
      go : (b ≡ c) ⊎ Begins f2 b → length (rest (and_then (p a) q)) ≤ length c
      go (inl j) = omega (arith, l.stops a b (k.full a b x h), seq_onward a, ap length j)
      go (inr j) = rw (l.complete a b x h (begins_apart f2 g1 b apart j)) ((u x).stops b c i)

  pub seq : Exact (r.◌>>=◌ p q) (g.◌>>=◌ s t) (f1 ++ cond e1 f2 []) (g2 ++ cond e2 g1 []) (e1 && e2)
  seq = record {
    sound = λ a c y h. let w = and_then_good (p a) q c y h in (w.0, w.1, l.sound a w.0 w.1 w.2, (u w.1).sound w.0 c y w.3);
    complete = λ a c y (b, x, h, i) e.
        let m : Ends g1 b = middle f2 g1 g2 e2 b c apart ((u x).begins b c ((v x).full b c y i)) (λ j. (u x).some j b c y i) e in
        rw (l.complete a b x h m) ((u x).complete b c y i (ends_left g2 (cond e2 g1 []) c e));
    begins = seq_begins;
    some = λ j a c y (b, x, h, i). both_some f1 f2 e1 e2 a b j (l.begins a b (k.full a b x h)) (λ k. l.some k a b x h) (λ k. (u x).some k b c y i);
    size = λ a c y (b, x, h, i). both_size e1 e2 (length a) (length b) (length c) (l.size a b x h) ((u x).size b c y i);
    viable = λ a h. seq_viable a (p a) refl h;
    stops = seq_stops;
    ahead = λ a. and_then_ahead a (p a) q (l.ahead a) (λ x b. (u x).ahead b);
  }

-- ---- one of two

pub by_test : {X : Type 0} (P : X → Type 0) (b : Bool) (x y : X) → (b ≡ true → P x) → (b ≡ false → P y) → P (cond b x y)
by_test P true x y h i = h refl
by_test P false x y h i = i refl

pub from_test : {A : Type 0} (b : Bool) (o w : Answer A) (x : A) (c : Lexemes) → cond b o w ≡ Good x c → (o ≡ Good x c) ⊎ (w ≡ Good x c)
from_test true o w x c h = inl h
from_test false o w x c h = inr h

module _ {A : Type 0} {p q : Reader A} {s t : Symbol A} {f1 g1 f2 g2 : Kinds} {e2 : Bool}
    (v : Fronts t) (l : Exact p s f1 g1 false) (u : Exact q t f2 g2 e2) (apart : are_apart f2 f1 ≡ true) where
  or_size : (e2 : Bool) (a b : ℕ) → b + 1 ≤ a → b + cond e2 0 1 ≤ a
  or_size true a b h = omega arith
  or_size false a b h = omega arith

  or_ahead : (a : Lexemes) → IsSuffix (rest (choose f1 p q a)) a
  or_ahead a = by_test (λ o. IsSuffix (rest o) a) (heads f1 a) (p a) (q a) (λ _. l.ahead a) (λ _. u.ahead a)

  or_complete : (a b : Lexemes) (x : A) → s.spells a b x ⊎ t.spells a b x → Ends ((g1 ++ g2) ++ cond e2 f1 []) b → choose f1 p q a ≡ Good x b
  or_complete a b x (inl h) e = rw (l.some refl a b x h) (l.complete a b x h (ends_left g1 g2 b (ends_left (g1 ++ g2) (cond e2 f1 []) b e)))
  or_complete a b x (inr h) e =
      let m : Ends f1 a = middle f2 f1 (g1 ++ g2) e2 a b apart (u.begins a b (v.full a b x h)) (λ j. u.some j a b x h) e in
      rw m (u.complete a b x h (ends_right g1 g2 b (ends_left (g1 ++ g2) (cond e2 f1 []) b e)))

  or_begins : (a c : Lexemes) → s.front a c ⊎ t.front a c → (a ≡ c) ⊎ Begins (f1 ++ f2) a
  or_begins a c (inl h) = elim (l.begins a c h) [ inl i ↦ inl i | inr i ↦ inr (begins_left f1 f2 a i) ]
  or_begins a c (inr h) = elim (u.begins a c h) [ inl i ↦ inl i | inr i ↦ inr (begins_right f1 f2 a i) ]

  or_same : (a c : Lexemes) → a ≡ c → length (rest (choose f1 p q a)) ≤ length c
  or_same a c h = omega (arith, suffix_length a (rest (choose f1 p q a)) (or_ahead a), ap length h)

  or_stops : (a c : Lexemes) → s.front a c ⊎ t.front a c → length (rest (choose f1 p q a)) ≤ length c
  or_stops a c (inl h) = elim (l.begins a c h) [ inl i ↦ or_same a c i | inr i ↦ rw i (l.stops a c h) ]
  or_stops a c (inr h) = elim (u.begins a c h) [ inl i ↦ or_same a c i | inr i ↦ (let m : Ends f1 a = begins_apart f2 f1 a apart i in rw m (u.stops a c h)) ]

  pub either : Exact (choose f1 p q) (g.◌or◌ s t) (f1 ++ f2) ((g1 ++ g2) ++ cond e2 f1 []) e2
  either = record {
    sound = λ a b x h. elim (from_test (heads f1 a) (p a) (q a) x b h) [ inl i ↦ inl (l.sound a b x i) | inr i ↦ inr (u.sound a b x i) ];
    complete = or_complete;
    begins = or_begins;
    some = λ j a b x h. elim h [ inl i ↦ begins_left f1 f2 a (l.some refl a b x i) | inr i ↦ begins_right f1 f2 a (u.some j a b x i) ];
    size = λ a b x h. elim h [ inl i ↦ or_size e2 (length a) (length b) (l.size a b x i) | inr i ↦ u.size a b x i ];
    viable = λ a. by_test (λ o. IsFault o → s.front a (rest o) ⊎ t.front a (rest o)) (heads f1 a) (p a) (q a) (λ _ h. inl (l.viable a h)) (λ _ h. inr (u.viable a h));
    stops = or_stops;
    ahead = or_ahead;
  }

-- ---- the sets as they are declared, and what may be empty

pub declared : {A : Type 0} {p : Reader A} {s : Symbol A} {f g : Kinds} {e : Bool} (f' g' : Kinds) → Exact p s f g e → is_within f f' ≡ true → is_within g g' ≡ true → Exact p s f' g' e
declared {f = f} {g = g} f' g' l h i = record {
  sound = l.sound;
  complete = λ a b x j e. l.complete a b x j (ends_within g g' b i e);
  begins = λ a c j. elim (l.begins a c j) [ inl k ↦ inl k | inr k ↦ inr (begins_within f f' a h k) ];
  some = λ j a b x k. begins_within f f' a h (l.some j a b x k);
  size = l.size;
  viable = l.viable;
  stops = l.stops;
  ahead = l.ahead;
}

pub maybe : {A : Type 0} {p : Reader A} {s : Symbol A} {f goes : Kinds} {e : Bool} → Exact p s f goes e → Exact p s f goes true
maybe l = record {
  sound = l.sound;
  complete = l.complete;
  begins = l.begins;
  some = λ j a b x h. absurd cc;
  size = λ a b x h. omega (arith, l.size a b x h);
  viable = l.viable;
  stops = l.stops;
  ahead = l.ahead;
}

-- ---- any number of times

module _ {A : Type 0} (ks : Kinds) (p : Reader A) where
  many_next : ℕ → A → Reader (List A)
  many_next n x b = and_then (r.many_from ks p n b) (λ xs. r.pure (x ∷ xs))

  many_ahead : ((a : Lexemes) → IsSuffix (rest (p a)) a) → (n : ℕ) (a : Lexemes) → IsSuffix (rest (r.many_from ks p n a)) a
  unfolding r.many_from
  many_ahead h zero a = ([], refl)
  many_ahead h (suc n) a =
      let q = λ (x : A) (b : Lexemes). and_then (r.many_from ks p n b) (λ xs. r.pure (x ∷ xs)) in
      let tail : (x : A) (b : Lexemes) → IsSuffix (rest (q x b)) b = λ x b. and_then_ahead b (r.many_from ks p n b) (λ xs. r.pure (x ∷ xs)) (many_ahead h n b) (λ xs c. ([], refl)) in
      by_test (λ o. IsSuffix (rest o) a) (heads ks a) (and_then (p a) q) (Good [] a) (λ _. and_then_ahead a (p a) q (h a) tail) (λ _. ([], refl))

  pub many_onward : ((a : Lexemes) → IsSuffix (rest (p a)) a) → (n : ℕ) (a : Lexemes) → length (rest (r.many_from ks p n a)) ≤ length a
  many_onward h n a = suffix_length a (rest (r.many_from ks p n a)) (many_ahead h n a)

  pub next_onward : ((a : Lexemes) → IsSuffix (rest (p a)) a) → (n : ℕ) (x : A) (b : Lexemes) → length (rest (and_then (r.many_from ks p n b) (λ xs. r.pure (x ∷ xs)))) ≤ length b
  next_onward h n x b = omega (arith, many_onward h n b, and_then_onward (r.many_from ks p n b) (λ xs. r.pure (x ∷ xs)) (λ xs c. omega arith))

module _ {A : Type 0} {p : Reader A} {s : Symbol A} {f goes : Kinds} (k : Fronts s) (l : Exact p s f goes false) (apart : are_apart f goes ≡ true) where
  m_begins : (a b c : Lexemes) (xs : List A) → Repeats s.spells a b xs → s.front b c → (a ≡ c) ⊎ Begins f a
  m_begins a b c [] h i = rw h (l.begins b c i)
  m_begins a b c (x ∷ xs) (m, h, j) i = inr (l.some refl a m x h)

  m_starts : (a b : Lexemes) (xs : List A) → Repeats s.spells a b xs → (a ≡ b) ⊎ Begins f a
  m_starts a b [] h = inl h
  m_starts a b (x ∷ xs) (m, h, j) = inr (l.some refl a m x h)

  m_size : (a b : Lexemes) (xs : List A) → Repeats s.spells a b xs → length b ≤ length a
  m_size a b [] h = rw h (omega arith)
  m_size a b (x ∷ xs) (m, h, j) = omega (arith, l.size a m x h, m_size m b xs j)

  m_put : (a m c b : Lexemes) (x : A) (ys xs : List A) → Good (x ∷ ys) c ≡ Good xs b → s.spells a m x → Repeats s.spells m c ys → Repeats s.spells a b xs
  m_put a m c b x ys [] e h j = absurd cc
  m_put a m c b x ys (y ∷ zs) e h j =
      let e1 : y ≡ x = cc in
      let e2 : zs ≡ ys = cc in
      let e3 : b ≡ c = cc in
      rw (e1, e2, e3) (m, h, j)

  m_sound : (n : ℕ) (a b : Lexemes) (xs : List A) → r.many_from f p n a ≡ Good xs b → Repeats s.spells a b xs
  unfolding r.many_from
  m_sound zero a b [] h = cc
  m_sound zero a b (x ∷ xs) h = absurd cc
  m_sound (suc n) a b xs h = go (from_test (heads f a) _ _ xs b h) (λ m c ys. m_sound n m c ys)
    where
      go : (and_then (p a) (λ x m. and_then (r.many_from f p n m) (λ ys. r.pure (x ∷ ys))) ≡ Good xs b) ⊎ (Good [] a ≡ Good xs b) → ((m c : Lexemes) (ys : List A) → r.many_from f p n m ≡ Good ys c → Repeats s.spells m c ys) → Repeats s.spells a b xs
      go (inr i) rec = let e : xs ≡ [] = cc in rw e (cc)
      go (inl i) rec =
          let w = and_then_good (p a) (λ x m. and_then (r.many_from f p n m) (λ ys. r.pure (x ∷ ys))) b xs i in
          let v = and_then_good (r.many_from f p n w.0) (λ ys. r.pure (w.1 ∷ ys)) b xs w.3 in
          m_put a w.0 v.0 b w.1 v.1 xs v.3 (l.sound a w.0 w.1 w.2) (rec w.0 v.0 v.1 v.2)

  m_complete : (n : ℕ) (a b : Lexemes) (xs : List A) → length a ≤ n → Repeats s.spells a b xs → Ends (f ++ goes) b → r.many_from f p n a ≡ Good xs b
  unfolding r.many_from
  m_complete zero a b [] i h e = rw h refl
  m_complete zero a b (x ∷ xs) i (m, h, j) e = absurd (omega (arith, l.size a m x h))
  m_complete (suc n) a b [] i h e = let q : heads f a ≡ false = rw h (ends_left f goes b e) in rw (q, h) refl
  m_complete (suc n) a b (x ∷ xs) i (m, h, j) e =
      let t : heads f a ≡ true = l.some refl a m x h in
      let k : Ends goes m = elim (m_starts m b xs j) [ inl w ↦ rw w (ends_right f goes b e) | inr w ↦ begins_apart f goes m apart w ] in
      let y : length m ≤ n = omega (arith, l.size a m x h) in
      rw (t, l.complete a m x h k, m_complete n m b xs y j e) refl

  m_viable : (n : ℕ) (a : Lexemes) (o : Answer A) → p a ≡ o → heads f a ≡ true → ((m : Lexemes) → IsFault (r.many_from f p n m) → (g.many s).front m (rest (r.many_from f p n m)))
      → IsFault (and_then o (λ x m. and_then (r.many_from f p n m) (λ ys. r.pure (x ∷ ys)))) → (g.many s).front a (rest (and_then o (λ x m. and_then (r.many_from f p n m) (λ ys. r.pure (x ∷ ys)))))
  m_viable n a (Failed w b) e t rec h = (a, [], refl, (let v = l.viable a in let w = rw e at v in w tt))
  m_viable n a (Good x m) e t rec h = go (r.many_from f p n m) h (rec m)
    where
      go : (w : Answer (List A)) → IsFault (and_then w (λ ys. r.pure (x ∷ ys))) → (IsFault w → (g.many s).front m (rest w)) → (g.many s).front a (rest (and_then w (λ ys. r.pure (x ∷ ys))))
      go (Good ys b) i j = absurd i
      go (Failed w b) i j = let v = j tt in (v.0, x ∷ v.1, (m, l.sound a m x e, v.2), v.3)

  m_viable_all : (n : ℕ) (a : Lexemes) → IsFault (r.many_from f p n a) → (g.many s).front a (rest (r.many_from f p n a))
  unfolding r.many_from
  m_viable_all zero a h = absurd h
  m_viable_all (suc n) a h =
      let rec = λ (m : Lexemes) (i : IsFault (r.many_from f p n m)). m_viable_all n m i in
      by_test (λ o. IsFault o → (g.many s).front a (rest o)) (heads f a) (and_then (p a) (λ x m. and_then (r.many_from f p n m) (λ ys. r.pure (x ∷ ys)))) (Good [] a)
      (λ t i. m_viable n a (p a) refl t rec i) (λ _ i. absurd i) h

  m_inner : (n : ℕ) (a c : Lexemes) → heads f a ≡ true → length (rest (p a)) ≤ length c → length (rest (r.many_from f p (suc n) a)) ≤ length c
  unfolding r.many_from
  m_inner n a c t h = rw t (omega (arith, and_then_onward (p a) (λ x b. and_then (r.many_from f p n b) (λ xs. r.pure (x ∷ xs))) (next_onward f p l.ahead n)))

  m_next : (n : ℕ) (a m c : Lexemes) (x : A) → heads f a ≡ true → p a ≡ Good x m → length (rest (r.many_from f p n m)) ≤ length c → length (rest (r.many_from f p (suc n) a)) ≤ length c
  unfolding r.many_from
  m_next n a m c x t e h = rw (t, e) (omega (arith, and_then_onward (r.many_from f p n m) (λ xs. r.pure (x ∷ xs)) (λ xs c. omega arith)))

  begins_long : (a : Lexemes) → Begins f a → length a ≤ 0 → ⊥
  begins_long [] k i = cc
  begins_long (t ∷ a) k i = omega arith

  m_stops : (n : ℕ) (a b c : Lexemes) (xs : List A) → length a ≤ n → Repeats s.spells a b xs → s.front b c → length (rest (r.many_from f p n a)) ≤ length c
  m_stops zero a b c [] i h j = elim (l.begins a c (rw h j)) [ inl k ↦ omega (arith, many_onward f p l.ahead zero a, ap length k) | inr k ↦ absurd (begins_long a k i) ]
  m_stops (suc n) a b c [] i h j = elim (l.begins a c (rw h j)) [ inl k ↦ omega (arith, many_onward f p l.ahead (suc n) a, ap length k) | inr k ↦ m_inner n a c k (l.stops a c (rw h j)) ]
  m_stops zero a b c (x ∷ xs) i (m, h, j) k = absurd (omega (arith, l.size a m x h))
  m_stops (suc n) a b c (x ∷ xs) i (m, h, j) k' =
      let t : heads f a ≡ true = l.some refl a m x h in
      let y : length m ≤ n = omega (arith, l.size a m x h) in
      go t (m_begins m b c xs j k') (m_stops n m b c xs y j k')
    where
      go : heads f a ≡ true → (m ≡ c) ⊎ Begins f m → length (rest (r.many_from f p n m)) ≤ length c → length (rest (r.many_from f p (suc n) a)) ≤ length c
      go t (inl e) rec = m_inner n a c t (omega (arith, l.stops a m (k.full a m x h), ap length e))
      go t (inr e) rec = m_next n a m c x t (l.complete a m x h (begins_apart f goes m apart e)) rec

  pub many : Exact (r.many f p) (g.many s) f (f ++ goes) true
  many = record {
    sound = λ a b xs h. m_sound (length a) a b xs h;
    complete = λ a b xs h e. m_complete (length a) a b xs (omega arith) h e;
    begins = λ a c (b, xs, h, i). m_begins a b c xs h i;
    some = λ j a b xs h. absurd cc;
    size = λ a b xs h. omega (arith, m_size a b xs h);
    viable = λ a h. m_viable_all (length a) a h;
    stops = λ a c (b, xs, h, i). m_stops (length a) a b c xs (omega arith) h i;
    ahead = λ a. many_ahead f p l.ahead (length a) a;
  }

-- ---- the nearest 'else'

module _ {A : Type 0} {p : Reader A} {s : Symbol A} {goes : Kinds} (kind : TokenKind) (x : A) (l : Exact p s (code kind ∷ []) goes false) where
  near_sound : (a b : Lexemes) (y : A) (t : Bool) → heads (code kind ∷ []) a ≡ t → cond t (p a) (Good x a) ≡ Good y b → (g.◌or◌ s (g.before_no kind x)).spells a b y
  near_sound a b y true i h = inl (l.sound a b y h)
  near_sound a b y false i h = inr (cc, cc, i)

  near_complete : (a b : Lexemes) (y : A) → (g.◌or◌ s (g.before_no kind x)).spells a b y → Ends goes b → choose (code kind ∷ []) p (r.pure x) a ≡ Good y b
  near_complete a b y (inl h) e = rw (l.some refl a b y h) (l.complete a b y h e)
  near_complete a b y (inr (h, i, j)) e = rw (j, h, i) refl

  near_ahead : (a : Lexemes) → IsSuffix (rest (choose (code kind ∷ []) p (r.pure x) a)) a
  near_ahead a = by_test (λ o. IsSuffix (rest o) a) (heads (code kind ∷ []) a) (p a) (Good x a) (λ _. l.ahead a) (λ _. ([], refl))

  near_same : (a c : Lexemes) → a ≡ c → length (rest (choose (code kind ∷ []) p (r.pure x) a)) ≤ length c
  near_same a c h = omega (arith, suffix_length a (rest (choose (code kind ∷ []) p (r.pure x) a)) (near_ahead a), ap length h)

  near_stops : (a c : Lexemes) → s.front a c ⊎ (a ≡ c) → length (rest (choose (code kind ∷ []) p (r.pure x) a)) ≤ length c
  near_stops a c (inr h) = near_same a c h
  near_stops a c (inl h) = elim (l.begins a c h) [ inl i ↦ near_same a c i | inr i ↦ rw i (l.stops a c h) ]

  pub nearest : Exact (choose (code kind ∷ []) p (r.pure x)) (g.◌or◌ s (g.before_no kind x)) (code kind ∷ []) goes true
  nearest = record {
    sound = λ a b y h. near_sound a b y (heads (code kind ∷ []) a) refl h;
    complete = near_complete;
    begins = λ a c h. elim h [ inl i ↦ l.begins a c i | inr i ↦ inl i ];
    some = λ j a b y h. absurd cc;
    size = λ a b y h. elim h [ inl i ↦ omega (arith, l.size a b y i) | inr w ↦ omega (arith, ap length w.0) ];
    viable = λ a. by_test (λ o. IsFault o → s.front a (rest o) ⊎ (a ≡ rest o)) (heads (code kind ∷ []) a) (p a) (Good x a) (λ _ h. inl (l.viable a h)) (λ _ h. absurd h);
    stops = near_stops;
    ahead = near_ahead;
  }

-- ---- two alternatives that a test tells apart

-- What is a front of one of them and does not decide the test is a front of the other, too.
module _ {A : Type 0} {p q : Reader A} {s t : Symbol A} {f1 g1 f2 g2 : Kinds} (test : Lexemes → Bool) (l : Exact p s f1 g1 false) (u : Exact q t f2 g2 false)
    (yes_whole : (a b : Lexemes) (x : A) → s.spells a b x → test a ≡ true) (no_whole : (a b : Lexemes) (x : A) → t.spells a b x → test a ≡ false)
    (yes_front : (a c : Lexemes) → s.front a c → (test a ≡ true) ⊎ t.front a c) (no_front : (a c : Lexemes) → t.front a c → (test a ≡ false) ⊎ s.front a c) where
  by_complete : (a b : Lexemes) (x : A) → s.spells a b x ⊎ t.spells a b x → Ends (g1 ++ g2) b → choose_by test p q a ≡ Good x b
  by_complete a b x (inl h) e = rw (yes_whole a b x h) (l.complete a b x h (ends_left g1 g2 b e))
  by_complete a b x (inr h) e = rw (no_whole a b x h) (u.complete a b x h (ends_right g1 g2 b e))

  by_stops : (a c : Lexemes) → s.front a c ⊎ t.front a c → length (rest (choose_by test p q a)) ≤ length c
  by_stops a c (inl h) = go (test a) refl (yes_front a c h)
    where
      go : (b : Bool) → test a ≡ b → (test a ≡ true) ⊎ t.front a c → length (rest (cond b (p a) (q a))) ≤ length c
      go true i j = l.stops a c h
      go false i (inl j) = absurd cc
      go false i (inr j) = u.stops a c j
  by_stops a c (inr h) = go (test a) refl (no_front a c h)
    where
      go : (b : Bool) → test a ≡ b → (test a ≡ false) ⊎ s.front a c → length (rest (cond b (p a) (q a))) ≤ length c
      go false i j = u.stops a c h
      go true i (inl j) = absurd cc
      go true i (inr j) = l.stops a c j

  pub told_apart : Exact (choose_by test p q) (g.◌or◌ s t) (f1 ++ f2) (g1 ++ g2) false
  told_apart = record {
    sound = λ a b x h. elim (from_test (test a) (p a) (q a) x b h) [ inl i ↦ inl (l.sound a b x i) | inr i ↦ inr (u.sound a b x i) ];
    complete = by_complete;
    begins = λ a c h. elim h [
      | inl i ↦ elim (l.begins a c i) [ inl j ↦ inl j | inr j ↦ inr (begins_left f1 f2 a j) ]
      | inr i ↦ elim (u.begins a c i) [ inl j ↦ inl j | inr j ↦ inr (begins_right f1 f2 a j) ]
    ];
    some = λ j a b x h. elim h [ inl i ↦ begins_left f1 f2 a (l.some refl a b x i) | inr i ↦ begins_right f1 f2 a (u.some refl a b x i) ];
    size = λ a b x h. elim h [ inl i ↦ l.size a b x i | inr i ↦ u.size a b x i ];
    viable = λ a. by_test (λ o. IsFault o → s.front a (rest o) ⊎ t.front a (rest o)) (test a) (p a) (q a) (λ _ h. inl (l.viable a h)) (λ _ h. inr (u.viable a h));
    stops = by_stops;
    ahead = λ a. by_test (λ o. IsSuffix (rest o) a) (test a) (p a) (q a) (λ _. l.ahead a) (λ _. u.ahead a);
  }
