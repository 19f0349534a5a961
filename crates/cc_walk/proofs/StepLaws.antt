-- Steps of the machine, put together from their parts.
use Rattle.std.proofs.Common.{◌≡◌, ℕ, zero, suc, List, [], ◌∷◌, None, refl, sym, ap, ◌∙◌, subst}
use Rattle.cc_ops.specs.Values.{Value}
use Rattle.cc_ops.specs.Machine.{Address}
use Rattle.cc_ops.specs.declared.number.ThreadNo.{ThreadNo}
use Rattle.cc_ops.specs.Shelves.{changed}
use Rattle.cc_core.specs.Asks.{Ask, Answer}
use Rattle.cc_code.specs.Code.{Thread, Then, Move, move}
use Rattle.code_thread.specs.Moves.{IsAsk, after}
use Rattle.numbered_runs.specs.Machine.{Machine, Progress, Runner, put_thread}
use Rattle.numbered_runs.specs.Steps.{settle, freed, joined}
use Rattle.cc_walk.specs.Asking.{IsAsking}

-- of two changes of the same item
changed_twice : {X : Type 0} (f g : X → X) (xs : List X) (i : ℕ) → changed (changed xs i f) i g ≡ changed xs i (λ x. g (f x))
changed_twice f g [] i = refl
changed_twice f g (x ∷ xs) zero = refl
changed_twice f g (x ∷ xs) (suc i) = ap (λ ys. x ∷ ys) (changed_twice f g xs i)

-- changes that do the same
changed_alike : {X : Type 0} (f g : X → X) → ((x : X) → f x ≡ g x) → (xs : List X) (i : ℕ) → changed xs i f ≡ changed xs i g
changed_alike f g alike [] i = refl
changed_alike f g alike (x ∷ xs) zero = ap (λ y. y ∷ xs) (alike x)
changed_alike f g alike (x ∷ xs) (suc i) = ap (λ ys. x ∷ ys) (changed_alike f g alike xs i)

-- A thread that is put twice is the last one.
pub put_twice : (threads : List (List Progress)) (t : ThreadNo) (a b : Progress) → put_thread (put_thread threads t a) t b ≡ put_thread threads t b
put_twice threads t a b =
    let first : List Progress → List Progress = λ ts. changed ts t.thread (λ y. a) in
    let last : List Progress → List Progress = λ ts. changed ts t.thread (λ y. b) in
    changed_twice first last threads t.processor
    ∙ changed_alike (λ ts. last (first ts)) last (λ ts. changed_twice (λ y. a) (λ y. b) ts t.thread) threads t.processor

module _ (w : Machine) (t : ThreadNo) (r : Runner) (line : ℕ) (ask : Ask Address) (k : Answer Address → Then Address) (asking : IsAsking w t r line ask k) where
  pub is_ask : IsAsk (move w.code r.thread)
  is_ask = subst IsAsk (sym asking.asks) tt

  -- what is left after an answer, and what is forked
  pub then_is : (x : Answer Address) → after (move w.code r.thread) x ≡ k x
  then_is x = ap (λ (m : Move Address). after m x) asking.asks

  -- The join of a remote call: c is what is left of the thread, and the machine s has put it back after its silent moves.
  pub joined_is : (v : Value Address) (c : Thread Address) (threads : List (List Progress)) (y : Progress) (s : Machine)
      → (IsAsk (move w.code r.thread) → c ≡ (after (move w.code r.thread) (record { values = v ∷ []; made = [] })).left)
      → threads ≡ put_thread w.threads t y
      → (let x = settle w.code (record { thread = c; asked = None; kids = r.kids; inside = r.inside }) in s ≡ record {
        code = w.code;
        shelves = freed w.code x r.inside w.shelves;
        threads = put_thread threads t x;
        output = w.output;
      })
      → s ≡ joined w t r k v
  joined_is v c threads y s left out is =
      let of : Progress → List (List Progress) → Machine = λ x ts. record {
        code = w.code;
        shelves = freed w.code x r.inside w.shelves;
        threads = ts;
        output = w.output;
      } in
      let on : Thread Address → Progress = λ d. settle w.code (record { thread = d; asked = None; kids = r.kids; inside = r.inside }) in
      let back : List (List Progress) → Machine = λ ts. of (on c) (put_thread ts t (on c)) in
      is ∙ ap back out ∙ ap (of (on c)) (put_twice w.threads t y (on c))
      ∙ ap (λ d. of (on d) (put_thread w.threads t (on d))) (left is_ask ∙ ap (λ (a : Then Address). a.left) (then_is (record { values = v ∷ []; made = [] })))
