-- A repetition whose parts are lists, beside a loop that appends them.
use Rattle.std.proofs.Common.{◌≡◌, ℕ, zero, suc, ◌+◌, ◌-◌, ◌<◌, ◌≤◌, true, false, List, [], ◌∷◌, ◌++◌, length, refl, ap, ◌∙◌, sym, append_assoc, arith}
use Rattle.cc_grammar.specs.declared.fault.Fault.{Fault}
use Rattle.cc_grammar.specs.Lexeme.{Lexemes}
use Rattle.cc_grammar.specs.Kinds.{Kinds, heads}
use Rattle.cc_grammar.specs.Nodes.{joined}
use Rattle.cc_grammar.specs.Reading.{Answer, Good, Failed, Reader, and_then, pure, many_from, flat_from}
use Rattle.cc_grammar.proofs.Rules.{append_nil}
use Rattle.cc_expressions.proofs.RepeatLaws.{with_front}

module _ {A : Type 0} (ks : Kinds) (p : Reader (List A)) where
  stop : (n : ℕ) (a : Lexemes) → heads ks a ≡ false → flat_from ks p n a ≡ Good [] a
  unfolding many_from
  stop zero a h = refl
  stop (suc n) a h = rw h refl

  fail : (n : ℕ) (a b : Lexemes) (e : Fault) → heads ks a ≡ true → p a ≡ Failed e b → flat_from ks p (suc n) a ≡ Failed e b
  unfolding many_from
  fail n a b e h i = rw (h, i) refl

  front_step : (found x : List A) (o : Answer (List (List A))) → with_front found (and_then (and_then o (λ xs. pure (x ∷ xs))) (λ xs. pure (joined xs))) ≡ with_front (found ++ x) (and_then o (λ xs. pure (joined xs)))
  front_step found x (Good ys b) = ap (λ zs. Good zs b) (sym (append_assoc found x (joined ys)))
  front_step found x (Failed e b) = refl

  step : (n : ℕ) (a b : Lexemes) (x found : List A) → heads ks a ≡ true → p a ≡ Good x b → with_front found (flat_from ks p (suc n) a) ≡ with_front (found ++ x) (flat_from ks p n b)
  unfolding many_from
  step n a b x found h i = rw (h, i) (front_step found x (many_from ks p n b))

  pub flat_fails : (all : Answer (List A)) (end turn : ℕ) (a b : Lexemes) (e : Fault) (found : List A) → all ≡ with_front found (flat_from ks p (end - turn) a) → turn < end → heads ks a ≡ true → p a ≡ Failed e b → all ≡ Failed e b
  flat_fails all end turn a b e found h i j k =
      let m : end - turn ≡ suc (end - (turn + 1)) = omega arith in
      let f = fail (end - (turn + 1)) a b e j k in
      h ∙ (ap (λ n. with_front found (flat_from ks p n a)) m ∙ ap (with_front found) f)

  pub flat_stops : (all : Answer (List A)) (n : ℕ) (a : Lexemes) (found : List A) → all ≡ with_front found (flat_from ks p n a) → heads ks a ≡ false → all ≡ Good found a
  flat_stops all n a found h i = h ∙ (ap (with_front found) (stop n a i) ∙ ap (λ xs. Good xs a) (append_nil found))

  pub flat_ends : (all : Answer (List A)) (end turn : ℕ) (a : Lexemes) (found : List A) → all ≡ with_front found (flat_from ks p (end - turn) a) → end ≤ turn → all ≡ Good found a
  unfolding many_from
  flat_ends all end turn a found h i = let m : end - turn ≡ 0 = omega arith in h ∙ (ap (λ n. with_front found (flat_from ks p n a)) m ∙ ap (λ xs. Good xs a) (append_nil found))

  pub flat_goes : (all : Answer (List A)) (end turn : ℕ) (a b : Lexemes) (x found : List A) → all ≡ with_front found (flat_from ks p (end - turn) a) → turn < end → heads ks a ≡ true → p a ≡ Good x b
      → all ≡ with_front (found ++ x) (flat_from ks p (end - (turn + 1)) b)
  flat_goes all end turn a b x found h i j k =
      let m : end - turn ≡ suc (end - (turn + 1)) = omega arith in
      h ∙ (ap (λ n. with_front found (flat_from ks p n a)) m ∙ step (end - (turn + 1)) a b x found j k)

  pub flat_starts : (a : Lexemes) → flat_from ks p (length a) a ≡ with_front [] (flat_from ks p (length a - 0) a)
  flat_starts a = let m : length a - 0 ≡ length a = omega arith in sym (ap (λ n. with_front [] (flat_from ks p n a)) m ∙ go (flat_from ks p (length a) a))
    where
      go : (o : Answer (List A)) → with_front [] o ≡ o
      go (Good x b) = refl
      go (Failed e b) = refl
