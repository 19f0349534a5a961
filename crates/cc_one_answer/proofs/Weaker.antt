-- A good ask, where less is said of it.
use Rattle.std.proofs.Common.{◌≡◌, ◌⊎◌, ℕ, ◌+◌, ◌≤◌, true, List, [], ◌∷◌, ◌++◌}
use Rattle.std.proofs.Common.{⊎_elim, inl, inr, arith}
use Rattle.cc_ops.specs.Values.{Null}
use Rattle.cc_core.specs.Names.{Name}
use Rattle.cc_core.specs.Core.{Env}
use Rattle.cc_core.specs.Core.{Program, shapes}
use Rattle.cc_core.specs.Next.{variable}
use Rattle.cc_core.specs.Types.{Types, IsAmong}
use Rattle.cc_one_answer.specs.Sorts.{NamedCell}
use Rattle.cc_one_answer.specs.Sorts.{World, Grows}
use Rattle.cc_one_answer.specs.Owned.{IsOwnAt}
use Rattle.cc_core.specs.Asks.{Ask, Reads, Writes, Copies, Indexes, Shifts, Computes, Tests, Makes, MakesWith, Builds, Enters}
use Rattle.cc_core.specs.Asks.{Leaves, ForksAll, ForksOne, Joins, Spawns, Prints, Calls, Casts, NewProcessor}
use Rattle.cc_core.specs.Next.{Next, Ready, Asks}
use Rattle.cc_one_answer.proofs.Fine.{own_of, IsYoung}
use Rattle.cc_one_answer.proofs.Fine.{IsFineAsk, IsGood}

-- weaker: what is said of a value, and of what is left
pub good_map : (p : Program) (y : Types) (w : World) (t : Name) (lent : List Name) (hi m0 : ℕ) {V A : Type 0} (lo : ℕ) (Old : ℕ → Type 0)
    (C C' : V → Type 0) (F F' : World → ℕ → A → Type 0) (P : A → ℕ → Type 0) (n : Next V A) → ((v : V) → C v → C' v)
    → ((v : World) (h : ℕ) (x : A) → Grows w v → hi ≤ h → F v h x → F' v h x) → IsGood p y w t lent hi m0 lo Old C F P n
    → IsGood p y w t lent hi m0 lo Old C' F' P n
good_map p y w t lent hi m0 lo Old C C' F F' P (Ready v) up more g = (up v g.0, g.1)
good_map p y w t lent hi m0 lo Old C C' F F' P (Asks line q k) up more g = record {
  gift = g.gift;
  ask = g.ask;
  fine = λ v x grows answer. more v (hi + own_of (shapes p) q) (k x).left grows (omega arith) (g.fine v x grows answer);
  keeps = g.keeps;
  kids = g.kids;
  lends = g.lends;
  known = g.known;
  pends = g.pends;
}

-- fewer pending branches
pub good_fewer : (p : Program) (y : Types) (w : World) (t : Name) (lent : List Name) (hi m0 : ℕ) {V A : Type 0} (lo : ℕ) (Old Old' : ℕ → Type 0)
    (C : V → Type 0) (F : World → ℕ → A → Type 0) (P : A → ℕ → Type 0) (n : Next V A) → ((b : ℕ) → Old' b → Old b)
    → IsGood p y w t lent hi m0 lo Old C F P n → IsGood p y w t lent hi m0 lo Old' C F P n
good_fewer p y w t lent hi m0 lo Old Old' C F P (Ready v) sub g = (g.0, λ b h. g.1 b (sub b h))
good_fewer p y w t lent hi m0 lo Old Old' C F P (Asks line q k) sub g = record {
  gift = g.gift;
  ask = fewer_ask q g.ask;
  fine = g.fine;
  keeps = λ x b h. g.keeps x b (sub b h);
  kids = g.kids;
  lends = g.lends;
  known = g.known;
  pends = g.pends;
}
  where
    fewer_ask : (q : Ask Name) → IsFineAsk p y w t lent hi m0 lo Old g.gift q → IsFineAsk p y w t lent hi m0 lo Old' g.gift q
    fewer_ask (Reads remote a) h = h
    fewer_ask (Writes remote a v) h = (
      h.0,
      h.1,
      h.2,
      h.3,
      h.4,
      h.5,
      ⊎_elim
          (λ (x : h.1 ≡ true). inl x)
          (λ (x : (h.0 ≡ NamedCell h.2) × IsOwnAt t lo a × IsYoung p y w t lent hi m0 Old a). inr (x.0, x.1, λ i z e b d. x.2 i z e b (sub b d)))
          h.6,
    )
    fewer_ask (Copies a n) h = h
    fewer_ask (Indexes a n i) h = h
    fewer_ask (Shifts a i) h = h
    fewer_ask (Computes op vs) h = h
    fewer_ask Tests h = h
    fewer_ask (Makes kind n) h = h
    fewer_ask (MakesWith kind v) h = h
    fewer_ask (Builds c vs) h = h
    fewer_ask (Enters f o vs) h = h
    fewer_ask Leaves h = h
    fewer_ask (ForksAll n) h = h
    fewer_ask (ForksOne v) h = h
    fewer_ask (Joins made) h = h
    fewer_ask (Spawns f o vs) h = h
    fewer_ask (Prints parts vs) h = h
    fewer_ask (Calls f o vs) h = h
    fewer_ask (Casts f o vs) h = h
    fewer_ask (NewProcessor c vs) h = h

pub append_among : (b : ℕ) (xs ys : List ℕ) → IsAmong b (xs ++ ys) → IsAmong b xs ⊎ IsAmong b ys
append_among b [] ys h = inr h
append_among b (x ∷ xs) ys h = ⊎_elim
    (λ (e : b ≡ x). inl (inl e))
    (λ (i : IsAmong b (xs ++ ys)). ⊎_elim (λ (j : IsAmong b xs). inl (inr j)) (λ (j : IsAmong b ys). inr j) (append_among b xs ys i))
    h

pub among_left : (b : ℕ) (xs ys : List ℕ) → IsAmong b xs → IsAmong b (xs ++ ys)
among_left b [] ys h = absurd h
among_left b (x ∷ xs) ys h = ⊎_elim (λ (e : b ≡ x). inl e) (λ (i : IsAmong b xs). inr (among_left b xs ys i)) h

pub among_right : (b : ℕ) (xs ys : List ℕ) → IsAmong b ys → IsAmong b (xs ++ ys)
among_right b [] ys h = h
among_right b (x ∷ xs) ys h = inr (among_right b xs ys h)

-- variables keep that they are a thread's own
abbrev pub Keeps : Name → ℕ → Env → Env → Type 0
Keeps t lo env env' = (k : ℕ) → IsOwnAt t lo (variable env k Null) → IsOwnAt t lo (variable env' k Null)
