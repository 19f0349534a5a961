-- Readings that change the variables in scope.
use Rattle.std.proofs.Common.{◌≡◌, ℕ, true, List, [], ◌∷◌, ◌++◌, length, take, refl, sym, ap, ◌∙◌, subst, append-nil, inl, ⊎_elim}
use Rattle.cc_scopes.specs.declared.state.Local.{Local}
use Rattle.cc_scopes.specs.declared.state.State.{State}
use Rattle.cc_scopes.specs.Elab.{Elab, ◌>>=◌, ◌>>◌, pure, block, leave}
use Rattle.source_types.specs.Reading.{Grown, Ends, AllCalls, LocalsFit}
use Rattle.source_types.proofs.Fits.{Reads}
use Rattle.source_types.proofs.StateLaws.{not_empty}

-- P is known of the variables in scope before, and Q of what is given and those behind
pub record Goes (grown : Grown) {A : Type 0} (P : List Local → Type 0) (p : Elab A) (Q : A → List Local → Type 0) : Type 0 where
  pub go : (s : State) → Ends grown (p s).1 → Ends grown s × (P s.locals → Q (p s).0 (p s).1.locals)

module _ {grown : Grown} where
  pub given_g : {A : Type 0} {P R : List Local → Type 0} {p : Elab A} {Q : A → List Local → Type 0}
      → ((ls : List Local) → P ls → R ls) → Goes grown R p Q → Goes grown P p Q
  given_g f r = record { go = λ s e. let q = r.go s e in (q.0, λ x. q.1 (f s.locals x)) }

  pub gives_g : {A : Type 0} {P : List Local → Type 0} {p : Elab A} {Q R : A → List Local → Type 0}
      → ((a : A) (ls : List Local) → Q a ls → R a ls) → Goes grown P p Q → Goes grown P p R
  gives_g f r = record { go = λ s e. let q = r.go s e in (q.0, λ x. f _ _ (q.1 x)) }

  pub bind_g : {A B : Type 0} {P : List Local → Type 0} {p : Elab A} {f : A → Elab B} {Q : A → List Local → Type 0} {R : B → List Local → Type 0}
      → Goes grown P p Q → ((a : A) → Goes grown (Q a) (f a) R) → Goes grown P (p >>= f) R
  bind_g {p = p} r q = record {
    go = λ s e.
        let z = (q (p s).0).go (p s).1 e in
        let y = r.go s z.0 in
        (y.0, λ x. z.1 (y.1 x));
  }

  pub next_g : {A B : Type 0} {P : List Local → Type 0} {p : Elab A} {q : Elab B} {Q : List Local → Type 0} {R : B → List Local → Type 0}
      → Goes grown P p (λ a. Q) → Goes grown Q q R → Goes grown P (p >> q) R
  next_g r q = bind_g r (λ a. q)

  pub done_g : {A : Type 0} {P : List Local → Type 0} {Q : A → List Local → Type 0} (a : A) → ((ls : List Local) → P ls → Q a ls) → Goes grown P (pure a) Q
  done_g a f = record { go = λ s e. (e, λ x. f s.locals x) }

  pub looking_g : {A : Type 0} {P : List Local → Type 0} (p : State → Elab A) {Q : A → List Local → Type 0}
      → ((s : State) → Goes grown (λ ls. P ls × (ls ≡ s.locals)) (p s) Q) → Goes grown P (λ s. p s s) Q
  looking_g p r = record { go = λ s e. let q = (r s).go s e in (q.0, λ x. q.1 (x, refl)) }

  -- what does not depend on the variables in scope stays known
  pub frame_g : {A : Type 0} {X : Type 0} {P : List Local → Type 0} {p : Elab A} {Q : A → List Local → Type 0}
      → Goes grown P p Q → Goes grown (λ ls. P ls × X) p (λ a ls. Q a ls × X)
  frame_g r = record { go = λ s e. let q = r.go s e in (q.0, λ x. (q.1 x.0, x.1)) }

  -- an expression leaves them
  pub reads_g : {F : Type 0} {A : Type 0} {X : Type 0} {P : List Local → Type 0} {p : Elab A} {Q : A → Type 0}
      → ((ls : List Local) → Reads F grown grown.made ls X p Q) → ((ls : List Local) → P ls → X × LocalsFit grown.made ls × F)
      → Goes grown P p (λ a ls. P ls × Q a)
  reads_g {P = P} r f = record {
    go = λ s e. let q = (r s.locals).run s e in
        (q.0, λ x. let k = f s.locals x in let z = q.1 k.0 (refl, k.1, k.2) in (subst P (sym z.0.0) x, z.1));
  }

  -- what blocks is done only where the function may wait
  pub block_g : {P : List Local → Type 0} (line : ℕ) → Goes grown P (block line) (λ u ls. P ls × (grown.waits ≡ true))
  block_g line = record {
    go = λ s e.
        let w : grown.waits ≡ true = ⊎_elim (λ (a : grown.waits ≡ true). a)
        (λ (b : (s.blocks ++ line ∷ [] ≡ []) × AllCalls grown.calm s.calls). absurd (not_empty s.blocks line b.0)) e.1 in
        ((e.0, inl w, e.2, e.3), λ x. (x, w));
  }

-- ---- the variables in scope

abbrev pub Extends : List Local → List Local → Type 0
Extends ls more = (zs : List Local) × (more ≡ ls ++ zs)

pub take_append : (ls zs : List Local) → take (length ls) (ls ++ zs) ≡ ls
take_append [] zs = refl
take_append (l ∷ ls) zs = ap (λ z. l ∷ z) (take_append ls zs)

pub extends_taken : (ls more : List Local) → Extends ls more → take (length ls) more ≡ ls
extends_taken ls more x = ap (λ l. take (length ls) l) x.1 ∙ take_append ls x.0

pub extends_same : (ls more : List Local) → more ≡ ls → Extends ls more
extends_same ls more is = ([], is ∙ sym (append-nil ls))

pub append_assoc : (xs ys zs : List Local) → (xs ++ ys) ++ zs ≡ xs ++ (ys ++ zs)
append_assoc [] ys zs = refl
append_assoc (x ∷ xs) ys zs = ap (λ l. x ∷ l) (append_assoc xs ys zs)

pub extends_more : (ls more most : List Local) → Extends ls more → Extends more most → Extends ls most
extends_more ls more most x z = (x.0 ++ z.0, z.1 ∙ (ap (λ l. l ++ z.0) x.1 ∙ append_assoc ls x.0 z.0))

-- a scope ends
pub leave_g : {grown : Grown} {P : List Local → Type 0} (ls : List Local) (start : ℕ) → ((l : List Local) → P l → (start ≡ length ls) × Extends ls l)
    → Goes grown P (leave start) (λ u l. (l ≡ ls) × ((z : List Local) × P z))
leave_g ls start f = record {
  go = λ s e. (
    e,
    λ x. let k = f s.locals x in
        (ap (λ n. take n s.locals) k.0 ∙ extends_taken ls s.locals k.1, (s.locals, x)),
  );
}

-- wherever the variables in scope stand
pub at_g : {grown : Grown} {A : Type 0} {P : List Local → Type 0} {p : Elab A} {Q : A → List Local → Type 0}
    → ((ls : List Local) → Goes grown (λ l. P l × (l ≡ ls)) p Q) → Goes grown P p Q
at_g r = record { go = λ s e. let q = (r s.locals).go s e in (q.0, λ x. q.1 (x, refl)) }

-- where the variables in scope are known
pub exact_g : {grown : Grown} {F : Type 0} {A : Type 0} {X : Type 0} {P : List Local → Type 0} {p : Elab A} {Q : A → Type 0}
    (ls : List Local) → Reads F grown grown.made ls X p Q → ((l : List Local) → P l → (l ≡ ls) × X × LocalsFit grown.made ls × F)
    → Goes grown P p (λ a l. P l × Q a)
exact_g {P = P} ls r f = record {
  go = λ s e. let q = r.run s e in
      (q.0, λ x. let k = f s.locals x in let z = q.1 k.1 (k.0, k.2, k.3) in (subst P (k.0 ∙ sym (z.0).0) x, z.1));
}
