-- One level more: a reader that may open more levels answers the same, or goes on where the other was too deep.
use Rattle.std.proofs.Common.{◌≡◌, ℕ, zero, suc, pred, ◌≤◌, Bool, true, false, cond, List, [], ◌∷◌, length, ◌⊎◌, inl, inr, refl, ap, ◌∙◌, sym, arith}
use Rattle.cc_lexer.specs.declared.token.TokenKind.{TokenKind}
use Rattle.cc_grammar.specs.declared.fault.Fault.{Fault}
use Rattle.cc_grammar.specs.declared.fault.Fault.TheVariants.{Syntax, TooDeep}
use Rattle.cc_grammar.specs.Lexeme.{Lexeme, Lexemes}
use Rattle.cc_grammar.specs.Kinds.{Kinds, code, heads}
use Rattle.cc_grammar.specs.Symbol.{Symbol, Repeats}
use Rattle.cc_grammar.specs.Symbol as g
use Rattle.cc_grammar.specs.Reading.{Answer, Good, Failed, Reader, and_then, choose, choose_by}
use Rattle.cc_grammar.specs.Reading as r
use Rattle.cc_grammar.proofs.Fronts.{Fronts, IsSuffix, suffix_length}
use Rattle.cc_grammar.proofs.Exact.{Exact, rest, onward, and_then_onward, kind_head, next_onward}

abbrev pub IsPositive : ℕ → Type 0
IsPositive zero = ⊥
IsPositive (suc n) = Unit {0}

-- p answers as o does, or o is too deep and p goes on at least so far
pub record More {A : Type 0} (o p : Reader A) : Type 0 where
  pub on : (a : Lexemes) → (o a ≡ p a) ⊎ ((c : Lexemes) × (o a ≡ Failed TooDeep c) × (length (rest (p a)) ≤ length c))

-- the tokens up to and with the next one are a front
abbrev pub Takes : {A : Type 0} → Symbol A → Lexemes → Lexemes → Type 0
Takes s a c = (t : Lexeme) × (b : Lexemes) × (c ≡ t ∷ b) × s.front a b

-- fewer: the reader with one level fewer, where n says that there is one
pub record Levels {A : Type 0} (n : ℕ) (fewer p : Reader A) (s : Symbol A) : Type 0 where
  pub more : IsPositive n → More fewer p
  -- the token that was too deep goes on with one level more
  pub deep : IsPositive n → (a c : Lexemes) → fewer a ≡ Failed TooDeep c → Takes s a c

-- ---- going on

pub more_same : {A : Type 0} (p : Reader A) → More p p
more_same p = record { on = λ a. inl refl }

pub more_trans : {A : Type 0} {p q w : Reader A} → More p q → More q w → More p w
more_trans {p = p} {q = q} {w = w} i j = record { on = λ a. go a (i.on a) (j.on a) }
  where
    go : (a : Lexemes) → (p a ≡ q a) ⊎ ((c : Lexemes) × (p a ≡ Failed TooDeep c) × (length (rest (q a)) ≤ length c)) → (q a ≡ w a) ⊎ ((c : Lexemes) × (q a ≡ Failed TooDeep c) × (length (rest (w a)) ≤ length c))
        → (p a ≡ w a) ⊎ ((c : Lexemes) × (p a ≡ Failed TooDeep c) × (length (rest (w a)) ≤ length c))
    go a (inl u) (inl v) = inl (u ∙ v)
    go a (inl u) (inr (c, v, z)) = inr (c, u ∙ v, z)
    go a (inr (c, u, z)) (inl v) = inr (c, u, omega (arith, ap (λ o. length (rest o)) v))
    go a (inr (c, u, z)) (inr (d, v, y)) = inr (c, u, omega (arith, ap (λ o. length (rest o)) v))

pub more_seq : {A B : Type 0} {p p' : Reader A} {q q' : A → Reader B} → More p p' → ((x : A) → More (q x) (q' x)) → ((x : A) (b : Lexemes) → length (rest (q' x b)) ≤ length b) → More (r.◌>>=◌ p q) (r.◌>>=◌ p' q')
more_seq {p = p} {p' = p'} {q = q} {q' = q'} i j h = record { on = λ a. go a (p a) refl (i.on a) }
  where
    go : (a : Lexemes) (o : Answer _) → p a ≡ o → (p a ≡ p' a) ⊎ ((c : Lexemes) × (p a ≡ Failed TooDeep c) × (length (rest (p' a)) ≤ length c))
        → (and_then (p a) q ≡ and_then (p' a) q') ⊎ ((c : Lexemes) × (and_then (p a) q ≡ Failed TooDeep c) × (length (rest (and_then (p' a) q')) ≤ length c))
    go a o e (inr (c, u, v)) = inr (c, rw u refl, omega (arith, and_then_onward (p' a) q' h))
    go a (Failed w b) e (inl u) = inl (let v : p' a ≡ Failed w b = sym u ∙ e in rw (e, v) refl)
    go a (Good x b) e (inl u) =
        let v : p' a ≡ Good x b = sym u ∙ e in
        rw (e, v) ((j x).on b)

pub more_choose : {A : Type 0} (test : Lexemes → Bool) {p p' q q' : Reader A} → More p p' → More q q' → More (choose_by test p q) (choose_by test p' q')
more_choose test {p = p} {p' = p'} {q = q} {q' = q'} i j = record { on = λ a. go a (test a) }
  where
    go : (a : Lexemes) (b : Bool) → (cond b (p a) (q a) ≡ cond b (p' a) (q' a)) ⊎ ((c : Lexemes) × (cond b (p a) (q a) ≡ Failed TooDeep c) × (length (rest (cond b (p' a) (q' a))) ≤ length c))
    go a true = i.on a
    go a false = j.on a

-- a value read with fewer levels is read with more
pub more_good : {A : Type 0} {o p : Reader A} → More o p → (a b : Lexemes) (x : A) → o a ≡ Good x b → p a ≡ Good x b
more_good i a b x h = elim (i.on a) [ inl e ↦ sym e ∙ h | inr w ↦ absurd (let v = w.1 in cc) ]

-- ---- one token, none, and a level that may not be opened

take_flat : {A : Type 0} (b : Bool) (kept : Lexeme → A) (a c : Lexemes) → r.take_if b kept a ≡ Failed TooDeep c → ⊥
take_flat b kept [] c h = cc
take_flat true kept (t ∷ a) c h = cc
take_flat false kept (t ∷ a) c h = cc

pub token : {A : Type 0} {n : ℕ} (number : ℕ) (kept : Lexeme → A) → Levels n (r.token number kept) (r.token number kept) (g.token number kept)
unfolding r.token
token number kept = record { more = λ _. more_same _; deep = λ _ a c h. absurd (take_flat (heads (number ∷ []) a) kept a c h) }

pub pure : {A : Type 0} {n : ℕ} (x : A) → Levels n (r.pure x) (r.pure x) (g.pure x)
pure x = record { more = λ _. more_same _; deep = λ _ a c h. absurd cc }

-- with no level fewer there is nothing to show
pub least : {A : Type 0} {fewer p : Reader A} {s : Symbol A} → Levels zero fewer p s
least = record { more = λ i. absurd i; deep = λ i. absurd i }

-- ---- one after the other

abbrev failed : (A : Type 0) → Fault → Lexemes → Answer A
failed A w b = Failed w b

same_fault : {A B : Type 0} (w : Fault) (b c : Lexemes) → failed B w b ≡ failed B TooDeep c → failed A w b ≡ failed A TooDeep c
same_fault w b c h =
    let e : w ≡ TooDeep = cc in
    let i : b ≡ c = cc in
    rw (e, i) refl

module _ {A B : Type 0} {n : ℕ} {o p : Reader A} {u q : A → Reader B} {s : Symbol A} {t : A → Symbol B} {f1 g1 f2 g2 : Kinds} {e1 e2 : Bool}
    (l : Levels n o p s) (w : (x : A) → Levels n (u x) (q x) (t x)) (k : Exact p s f1 g1 e1) (v : (x : A) → Exact (q x) (t x) f2 g2 e2) where
  seq_deep : IsPositive n → (a c : Lexemes) (y : Answer A) → o a ≡ y → and_then y u ≡ Failed TooDeep c → Takes (g.◌>>=◌ s t) a c
  seq_deep i a c (Failed z b) e h =
      let d = l.deep i a c (e ∙ same_fault z b c h) in
      (d.0, d.1, d.2, inl d.3)
  seq_deep i a c (Good x b) e h =
      let m = k.sound a b x (more_good (l.more i) a b x e) in
      let d = (w x).deep i b c h in
      (d.0, d.1, d.2, inr (b, x, m, d.3))

  pub seq : Levels n (r.◌>>=◌ o u) (r.◌>>=◌ p q) (g.◌>>=◌ s t)
  seq = record {
    more = λ i. more_seq (l.more i) (λ x. (w x).more i) (λ x b. onward (v x) b);
    deep = λ i a c h. seq_deep i a c (o a) refl h;
  }

-- ---- one of two

from_deep : {A : Type 0} (b : Bool) (o w : Answer A) (c : Lexemes) → cond b o w ≡ Failed TooDeep c → (o ≡ Failed TooDeep c) ⊎ (w ≡ Failed TooDeep c)
from_deep true o w c h = inl h
from_deep false o w c h = inr h

pub by : {A : Type 0} {n : ℕ} {o p u q : Reader A} {s t : Symbol A} (test : Lexemes → Bool) → Levels n o p s → Levels n u q t → Levels n (choose_by test o u) (choose_by test p q) (g.◌or◌ s t)
by {o = o} {u = u} test l w = record {
  more = λ i. more_choose test (l.more i) (w.more i);
  deep = λ i a c h. elim (from_deep (test a) (o a) (u a) c h) [
    | inl j ↦ (let d = l.deep i a c j in (d.0, d.1, d.2, inl d.3))
    | inr j ↦ (let d = w.deep i a c j in (d.0, d.1, d.2, inr d.3))
  ];
}

-- ---- the nearest 'else'

pub nearest : {A : Type 0} {n : ℕ} {o p : Reader A} {s : Symbol A} (kind : TokenKind) (x : A) → Levels n o p s → Levels n (choose (code kind ∷ []) o (r.pure x)) (choose (code kind ∷ []) p (r.pure x)) (g.◌or◌ s (g.before_no kind x))
nearest {o = o} kind x l = record {
  more = λ i. more_choose (heads (code kind ∷ [])) (l.more i) (more_same _);
  deep = λ i a c h. elim (from_deep (heads (code kind ∷ []) a) (o a) (Good x a) c h) [
    | inl j ↦ (let d = l.deep i a c j in (d.0, d.1, d.2, inl d.3))
    | inr j ↦ absurd cc
  ];
}

-- ---- any number of times

module _ {A : Type 0} {n : ℕ} {o p : Reader A} {s : Symbol A} {f goes : Kinds} (l : Levels n o p s) (k : Exact p s f goes false) where
  many_more : IsPositive n → (m : ℕ) → More (r.many_from f o m) (r.many_from f p m)
  unfolding r.many_from
  many_more i zero = more_same _
  many_more i (suc m) =
      more_choose (heads f) {p = r.◌>>=◌ o (λ x. r.◌>>=◌ (r.many_from f o m) (λ xs. r.pure (x ∷ xs)))} {p' = r.◌>>=◌ p (λ x. r.◌>>=◌ (r.many_from f p m) (λ xs. r.pure (x ∷ xs)))} (
      more_seq (l.more i) (λ x. more_seq (many_more i m) (λ xs. more_same _) (λ xs b. omega arith)) (next_onward f p k.ahead m)
      ) (more_same _)

  many_deep : IsPositive n → (m : ℕ) (a c : Lexemes) → r.many_from f o m a ≡ Failed TooDeep c → Takes (g.many s) a c
  unfolding r.many_from
  many_deep i zero a c h = absurd cc
  many_deep i (suc m) a c h = elim (from_deep (heads f a) _ _ c h) [ inl j ↦ go (o a) refl j (λ b d. many_deep i m b d) | inr j ↦ absurd cc ]
    where
      next : (x : A) (b : Lexemes) (y : Answer (List A)) → o a ≡ Good x b → and_then y (λ xs. r.pure (x ∷ xs)) ≡ Failed TooDeep c → ((d : Lexemes) → y ≡ Failed TooDeep d → Takes (g.many s) b d) → Takes (g.many s) a c
      next x b (Good xs d) e j rec = absurd cc
      next x b (Failed z d) e j rec =
          let v = rec c (same_fault z d c j) in
          let w = v.3 in
          (v.0, v.1, v.2, (w.0, x ∷ w.1, (b, k.sound a b x (more_good (l.more i) a b x e), w.2), w.3))

      go : (y : Answer A) → o a ≡ y → and_then y (λ x b. and_then (r.many_from f o m b) (λ xs. r.pure (x ∷ xs))) ≡ Failed TooDeep c → ((b d : Lexemes) → r.many_from f o m b ≡ Failed TooDeep d → Takes (g.many s) b d) → Takes (g.many s) a c
      go (Failed z b) e j rec =
          let v = l.deep i a c (e ∙ same_fault z b c j) in
          (v.0, v.1, v.2, (a, [], refl, v.3))
      go (Good x b) e j rec = next x b (r.many_from f o m b) e j (λ d. rec b d)

  pub many : Levels n (r.many f o) (r.many f p) (g.many s)
  many = record {
    more = λ i. record { on = λ a. (many_more i (length a)).on a };
    deep = λ i a c h. many_deep i (length a) a c h;
  }

-- ---- a token that opens a level, and what stands within it

take_no : {A : Type 0} (kept : Lexeme → A) (a : Lexemes) → Failed Syntax a ≡ r.take_if false kept a
take_no kept [] = refl
take_no kept (t ∷ a) = refl

head_token : (n : ℕ) (a : Lexemes) → heads (n ∷ []) a ≡ true → (t : Lexeme) × (b : Lexemes) × (a ≡ t ∷ b) × (code t.kind ≡ n)
head_token n [] h = absurd cc
head_token n (t ∷ a) h = (t, a, refl, kind_of t a h)
  where
    kind_of : (t : Lexeme) (a : Lexemes) → heads (n ∷ []) (t ∷ a) ≡ true → code t.kind ≡ n
    kind_of t a h = grind (arith)

module _ {A : Type 0} (kind : TokenKind) (u q : ℕ → Reader A) (t : ℕ → Symbol A) (none : (line : ℕ) (a : Lexemes) → (t line).front a a) (on : (a : Lexemes) → length (rest (r.◌>>=◌ (r.itself kind) q a)) ≤ length a) where
  open_more : (a : Lexemes) (b : Bool) → heads (code kind ∷ []) a ≡ b → (and_then (cond b (Failed TooDeep a) (Failed Syntax a)) u ≡ and_then (r.token (code kind) (λ t. t.line) a) q) ⊎ ((c : Lexemes) × (and_then (cond b (Failed TooDeep a) (Failed Syntax a)) u ≡ Failed TooDeep c) × (length (rest (and_then (r.token (code kind) (λ t. t.line) a) q)) ≤ length c))
  unfolding r.token
  open_more a true e = inr (a, refl, on a)
  open_more a false e = inl (rw (e, ← take_no (λ (t : Lexeme). t.line) a) refl)

  open_deep : (a c : Lexemes) (b : Bool) → heads (code kind ∷ []) a ≡ b → and_then (cond b (Failed TooDeep a) (Failed Syntax a)) u ≡ Failed TooDeep c → Takes (g.◌>>=◌ (g.itself kind) t) a c
  open_deep a c true e h =
      let w = head_token (code kind) a e in
      let a1 : a ≡ c = cc in
      (w.0, w.1, sym a1 ∙ w.2, inl (inr (w.0, w.2, w.3)))
  open_deep a c false e h = absurd cc

  -- from no level to one
  pub opened : {n : ℕ} → Levels n (r.◌>>=◌ (r.opening zero kind) u) (r.◌>>=◌ (r.itself kind) q) (g.◌>>=◌ (g.itself kind) t)
  unfolding r.opening
  opened = record {
    more = λ i. record { on = λ a. open_more a (heads (code kind ∷ []) a) refl };
    deep = λ i a c h. open_deep a c (heads (code kind ∷ []) a) refl h;
  }
