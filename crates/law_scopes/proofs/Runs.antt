-- What holds of a reading, where a property of its last state holds of each state before it.
use Rattle.std.proofs.Common.{Bool, true, false, cond, Option, Some, None}
use Rattle.cc_scopes.specs.declared.state.State.{State}
use Rattle.cc_scopes.specs.Elab.{Elab, ◌>>=◌, ◌>>◌, pure}

abbrev pub IfThere : {A : Type 0} → (A → Type 0) → Option A → Type 0
IfThere Q None = Unit {0}
IfThere Q (Some a) = Q a

abbrev pub Anything : {A : Type 0} → A → Type 0
Anything a = Unit {0}

-- Ends: what is known of the last state, and so of each before it. Keeps: what each state keeps. P: what is known before, and Q of
-- what is given
pub record Runs (Ends Keeps : State → Type 0) {A : Type 0} (P : Type 0) (p : Elab A) (Q : A → Type 0) : Type 0 where
  pub run : (s : State) → Ends (p s).1 → Ends s × (P → Keeps s → Keeps (p s).1 × Q (p s).0)

pub given : {Ends Keeps : State → Type 0} {A : Type 0} {P R : Type 0} {p : Elab A} {Q : A → Type 0}
    → (P → R) → Runs Ends Keeps R p Q → Runs Ends Keeps P p Q
given f r = record { run = λ s e. let q = r.run s e in (q.0, λ x k. q.1 (f x) k) }

-- whatever is known before
pub always : {Ends Keeps : State → Type 0} {A : Type 0} {P : Type 0} {p : Elab A} {Q : A → Type 0}
    → Runs Ends Keeps (Unit {0}) p Q → Runs Ends Keeps P p Q
always r = given (λ x. tt) r

pub gives : {Ends Keeps : State → Type 0} {A : Type 0} {P : Type 0} {p : Elab A} {Q R : A → Type 0}
    → ((a : A) → Q a → R a) → Runs Ends Keeps P p Q → Runs Ends Keeps P p R
gives f r = record { run = λ s e. let q = r.run s e in (q.0, λ x k. let y = q.1 x k in (y.0, f _ y.1)) }

pub bind : {Ends Keeps : State → Type 0} {A B : Type 0} {P : Type 0} {p : Elab A} {f : A → Elab B} {Q : A → Type 0} {R : B → Type 0}
    → Runs Ends Keeps P p Q → ((a : A) → Runs Ends Keeps (P × Q a) (f a) R) → Runs Ends Keeps P (p >>= f) R
bind {p = p} r q = record {
  run = λ s e.
      let z = (q (p s).0).run (p s).1 e in
      let y = r.run s z.0 in
      (y.0, λ x k. let w = y.1 x k in z.1 (x, w.1) w.0);
}

pub next : {Ends Keeps : State → Type 0} {A B : Type 0} {P : Type 0} {p : Elab A} {q : Elab B} {Q : A → Type 0} {R : B → Type 0}
    → Runs Ends Keeps P p Q → Runs Ends Keeps P q R → Runs Ends Keeps P (p >> q) R
next r q = bind r (λ a. given (λ x. x.0) q)

pub done : {Ends Keeps : State → Type 0} {A : Type 0} {P : Type 0} {Q : A → Type 0} (a : A)
    → (P → Q a) → Runs Ends Keeps P (pure a) Q
done a f = record { run = λ s e. (e, λ x k. (k, f x)) }

-- a reading that looks at the state that it begins in
pub looking : {Ends Keeps : State → Type 0} {A : Type 0} {P : Type 0} (p : State → Elab A) {Q : A → Type 0}
    → ((s : State) → Runs Ends Keeps (P × Keeps s) (p s) Q) → Runs Ends Keeps P (λ s. p s s) Q
looking p r = record { run = λ s e. let q = (r s).run s e in (q.0, λ x k. q.1 (x, k) k) }

pub either : {A : Type 0} (Q : A → Type 0) (b : Bool) (x y : A) → Q x → Q y → Q (cond b x y)
either Q true x y p q = p
either Q false x y p q = q
