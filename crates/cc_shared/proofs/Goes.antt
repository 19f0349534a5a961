-- Readings that change the variables in scope.
use Rattle.std.proofs.Common.{◌≡◌, ℕ, suc, ◌+◌, ◌≤◌, List, [], ◌∷◌, ◌++◌, length, take, refl, sym, ap, ◌∙◌, subst, arith, append-nil, inr}
use Rattle.cc_scopes.specs.declared.state.Local.{Local}
use Rattle.cc_scopes.specs.declared.state.State.{State}
use Rattle.cc_scopes.specs.declared.types.Declared.{Declared}
use Rattle.cc_scopes.specs.Elab.{Elab, ◌>>=◌, ◌>>◌, pure, block, leave}
use Rattle.cc_shared.proofs.Det.{Ends, VariableFits, LocalsFit, Reads}

-- P is known of the variables in scope before, and Q of what is given and those behind
pub record Goes (ds : List Declared) {A : Type 0} (P : List Local → Type 0) (p : Elab A) (Q : A → List Local → Type 0) : Type 0 where
  pub go : (s : State) → Ends ds (p s).1 → Ends ds s × (P s.locals → Q (p s).0 (p s).1.locals)

module _ {ds : List Declared} where
  pub given_g : {A : Type 0} {P R : List Local → Type 0} {p : Elab A} {Q : A → List Local → Type 0}
      → ((ls : List Local) → P ls → R ls) → Goes ds R p Q → Goes ds P p Q
  given_g f r = record { go = λ s e. let q = r.go s e in (q.0, λ x. q.1 (f s.locals x)) }

  pub gives_g : {A : Type 0} {P : List Local → Type 0} {p : Elab A} {Q R : A → List Local → Type 0}
      → ((a : A) (ls : List Local) → Q a ls → R a ls) → Goes ds P p Q → Goes ds P p R
  gives_g f r = record { go = λ s e. let q = r.go s e in (q.0, λ x. f _ _ (q.1 x)) }

  pub bind_g : {A B : Type 0} {P : List Local → Type 0} {p : Elab A} {f : A → Elab B} {Q : A → List Local → Type 0} {R : B → List Local → Type 0}
      → Goes ds P p Q → ((a : A) → Goes ds (Q a) (f a) R) → Goes ds P (p >>= f) R
  bind_g {p = p} r q = record {
    go = λ s e.
        let z = (q (p s).0).go (p s).1 e in
        let y = r.go s z.0 in
        (y.0, λ x. z.1 (y.1 x));
  }

  pub next_g : {A B : Type 0} {P : List Local → Type 0} {p : Elab A} {q : Elab B} {Q : List Local → Type 0} {R : B → List Local → Type 0}
      → Goes ds P p (λ a. Q) → Goes ds Q q R → Goes ds P (p >> q) R
  next_g r q = bind_g r (λ a. q)

  pub done_g : {A : Type 0} {P : List Local → Type 0} {Q : A → List Local → Type 0} (a : A) → ((ls : List Local) → P ls → Q a ls) → Goes ds P (pure a) Q
  done_g a f = record { go = λ s e. (e, λ x. f s.locals x) }

  pub looking_g : {A : Type 0} {P : List Local → Type 0} (p : State → Elab A) {Q : A → List Local → Type 0}
      → ((s : State) → Goes ds (λ ls. P ls × (ls ≡ s.locals)) (p s) Q) → Goes ds P (λ s. p s s) Q
  looking_g p r = record { go = λ s e. let q = (r s).go s e in (q.0, λ x. q.1 (x, refl)) }

  -- what does not depend on the variables in scope stays known
  pub frame_g : {A : Type 0} {X : Type 0} {P : List Local → Type 0} {p : Elab A} {Q : A → List Local → Type 0}
      → Goes ds P p Q → Goes ds (λ ls. P ls × X) p (λ a ls. Q a ls × X)
  frame_g r = record { go = λ s e. let q = r.go s e in (q.0, λ x. (q.1 x.0, x.1)) }

  -- an expression leaves them
  pub reads_g : {F : Type 0} (part : ℕ) (own : List ℕ) {A : Type 0} {X : Type 0} {P : List Local → Type 0} {p : Elab A} {Q : A → Type 0}
      → ((ls : List Local) → Reads F ds ds part own ls X p Q) → ((ls : List Local) → P ls → X × LocalsFit ds part own ls × F)
      → Goes ds P p (λ a ls. P ls × Q a)
  reads_g part own {P = P} r f = record {
    go = λ s e. let q = (r s.locals).run s e in
        (q.0, λ x. let k = f s.locals x in let z = q.1 k.0 (refl, k.1, k.2) in (subst P (sym z.0.0) x, z.1));
  }

  pub block_g : {P : List Local → Type 0} (line : ℕ) → Goes ds P (block line) (λ u. P)
  block_g line = record { go = λ s e. (e, λ x. x) }

-- ---- the variables in scope

abbrev pub Extends : List Local → List Local → Type 0
Extends ls more = (zs : List Local) × (more ≡ ls ++ zs)

pub take_append : (ls zs : List Local) → take (length ls) (ls ++ zs) ≡ ls
take_append [] zs = refl
take_append (l ∷ ls) zs = ap (λ z. l ∷ z) (take_append ls zs)

pub extends_taken : (ls more : List Local) → Extends ls more → take (length ls) more ≡ ls
extends_taken ls more x = ap (λ l. take (length ls) l) x.1 ∙ take_append ls x.0

pub extends_same : (ls more : List Local) → more ≡ ls → Extends ls more
extends_same ls more is = ([], is ∙ sym (append-nil ls))

pub append_assoc : (xs ys zs : List Local) → (xs ++ ys) ++ zs ≡ xs ++ (ys ++ zs)
append_assoc [] ys zs = refl
append_assoc (x ∷ xs) ys zs = ap (λ l. x ∷ l) (append_assoc xs ys zs)

pub extends_more : (ls more most : List Local) → Extends ls more → Extends more most → Extends ls most
extends_more ls more most x z = (x.0 ++ z.0, z.1 ∙ (ap (λ l. l ++ z.0) x.1 ∙ append_assoc ls x.0 z.0))

-- a scope ends
pub leave_g : {ds : List Declared} {P : List Local → Type 0} (ls : List Local) (start : ℕ) → ((l : List Local) → P l → (start ≡ length ls) × Extends ls l)
    → Goes ds P (leave start) (λ u l. (l ≡ ls) × ((z : List Local) × P z))
leave_g ls start f = record {
  go = λ s e. (
    e,
    λ x. let k = f s.locals x in
        (ap (λ n. take n s.locals) k.0 ∙ extends_taken ls s.locals k.1, (s.locals, x)),
  );
}

-- the part of a variable is not behind the variable
abbrev pub PartsFrom : ℕ → List Local → Type 0
PartsFrom i [] = Unit {0}
PartsFrom i (l ∷ ls) = (l.part ≤ i) × PartsFrom (suc i) ls

module _ (ds : List Declared) where
  abbrev pub Good : (part : ℕ) → (own : List ℕ) → List Local → Type 0
  Good part own ls = LocalsFit ds part own ls × PartsFrom 0 ls

  rebased : (i n : ℕ) (part : ℕ) (own more : List ℕ) (ls : List Local) → i + length ls ≤ n → PartsFrom i ls → LocalsFit ds part own ls → LocalsFit ds n more ls
  rebased i n part own more [] le a b = tt
  rebased i n part own more (l ∷ ls) le a b = (
    ((b.0).0, (b.0).1, λ same. absurd (omega (arith, le, a.0, same))),
    rebased (suc i) n part own more ls (omega (arith, le)) a.1 b.1,
  )

  -- a part that begins here has declared none of them
  pub rebase : (part : ℕ) (own more : List ℕ) (ls : List Local) → Good part own ls → LocalsFit ds (length ls) more ls
  rebase part own more ls g = rebased 0 (length ls) part own more ls (omega arith) g.1 g.0

  fits_more : (part : ℕ) (own : List ℕ) (ls : List Local) (l : Local) → LocalsFit ds part own ls → VariableFits ds part own l.number l.declared l.part
      → LocalsFit ds part own (ls ++ l ∷ [])
  fits_more part own [] l a b = (b, tt)
  fits_more part own (x ∷ ls) l a b = (a.0, fits_more part own ls l a.1 b)

  parts_more : (i : ℕ) (ls : List Local) (l : Local) → PartsFrom i ls → l.part ≤ i + length ls → PartsFrom i (ls ++ l ∷ [])
  parts_more i [] l a b = (omega (arith, b), tt)
  parts_more i (x ∷ ls) l a b = (a.0, parts_more (suc i) ls l a.1 (omega (arith, b)))

  pub good_more : (part : ℕ) (own : List ℕ) (ls : List Local) (l : Local) → Good part own ls → VariableFits ds part own l.number l.declared l.part
      → l.part ≤ length ls → Good part own (ls ++ l ∷ [])
  good_more part own ls l g v le = (fits_more part own ls l g.0 v, parts_more 0 ls l g.1 (omega (arith, le)))

  fits_wider : (part k : ℕ) (own : List ℕ) (ls : List Local) → LocalsFit ds part own ls → LocalsFit ds part (k ∷ own) ls
  fits_wider part k own [] a = tt
  fits_wider part k own (l ∷ ls) a = (((a.0).0, (a.0).1, λ same. inr ((a.0).2 same)), fits_wider part k own ls a.1)

  pub good_wider : (part k : ℕ) (own : List ℕ) (ls : List Local) → Good part own ls → Good part (k ∷ own) ls
  good_wider part k own ls g = (fits_wider part k own ls g.0, g.1)

-- wherever the variables in scope stand
pub at_g : {ds : List Declared} {A : Type 0} {P : List Local → Type 0} {p : Elab A} {Q : A → List Local → Type 0}
    → ((ls : List Local) → Goes ds (λ l. P l × (l ≡ ls)) p Q) → Goes ds P p Q
at_g r = record { go = λ s e. let q = (r s.locals).go s e in (q.0, λ x. q.1 (x, refl)) }

-- where the variables in scope are known
pub exact_g : {ds : List Declared} {F : Type 0} (part : ℕ) (own : List ℕ) {A : Type 0} {X : Type 0} {P : List Local → Type 0} {p : Elab A} {Q : A → Type 0}
    (ls : List Local) → Reads F ds ds part own ls X p Q → ((l : List Local) → P l → (l ≡ ls) × X × LocalsFit ds part own ls × F)
    → Goes ds P p (λ a l. P l × Q a)
exact_g part own {P = P} ls r f = record {
  go = λ s e. let q = r.run s e in
      (q.0, λ x. let k = f s.locals x in let z = q.1 k.1 (k.0, k.2, k.3) in (subst P (k.0 ∙ sym (z.0).0) x, z.1));
}
