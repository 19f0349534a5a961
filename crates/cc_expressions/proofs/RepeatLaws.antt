-- A repetition, beside a loop that counts up.
use Rattle.std.proofs.Common.{◌≡◌, ℕ, zero, suc, ◌+◌, ◌-◌, ◌<◌, ◌≤◌, true, false, List, [], ◌∷◌, ◌++◌, length, refl, ap, ◌∙◌, sym, append_assoc, arith}
use Rattle.cc_grammar.specs.declared.fault.Fault.{Fault}
use Rattle.cc_grammar.specs.Lexeme.{Lexemes}
use Rattle.cc_grammar.specs.Kinds.{Kinds, heads}
use Rattle.cc_grammar.specs.Reading.{Answer, Good, Failed, Reader, and_then, pure, many_from}
use Rattle.cc_grammar.proofs.Rules.{append_nil}

-- what was found before, in front of an answer
abbrev pub with_front : {A : Type 0} → List A → Answer (List A) → Answer (List A)
with_front found (Good xs b) = Good (found ++ xs) b
with_front found (Failed e b) = Failed e b

module _ {A : Type 0} (ks : Kinds) (p : Reader A) where
  stop : (n : ℕ) (a : Lexemes) → heads ks a ≡ false → many_from ks p n a ≡ Good [] a
  unfolding many_from
  stop zero a h = refl
  stop (suc n) a h = rw h refl

  fail : (n : ℕ) (a b : Lexemes) (e : Fault) → heads ks a ≡ true → p a ≡ Failed e b → many_from ks p (suc n) a ≡ Failed e b
  unfolding many_from
  fail n a b e h i = rw (h, i) refl

  front_step : (found : List A) (x : A) (o : Answer (List A)) → with_front found (and_then o (λ xs. pure (x ∷ xs))) ≡ with_front (found ++ x ∷ []) o
  front_step found x (Good ys b) = ap (λ zs. Good zs b) (sym (append_assoc found (x ∷ []) ys))
  front_step found x (Failed e b) = refl

  step : (n : ℕ) (a b : Lexemes) (x : A) (found : List A) → heads ks a ≡ true → p a ≡ Good x b → with_front found (many_from ks p (suc n) a) ≡ with_front (found ++ x ∷ []) (many_from ks p n b)
  unfolding many_from
  step n a b x found h i = rw (h, i) (front_step found x (many_from ks p n b))

  pub repeat_fails : (all : Answer (List A)) (end turn : ℕ) (a b : Lexemes) (e : Fault) (found : List A) → all ≡ with_front found (many_from ks p (end - turn) a) → turn < end → heads ks a ≡ true → p a ≡ Failed e b → all ≡ Failed e b
  repeat_fails all end turn a b e found h i j k =
      let m : end - turn ≡ suc (end - (turn + 1)) = omega arith in
      h ∙ (rw (m, fail (end - (turn + 1)) a b e j k) refl)

  pub repeat_stops : (all : Answer (List A)) (n : ℕ) (a : Lexemes) (found : List A) → all ≡ with_front found (many_from ks p n a) → heads ks a ≡ false → all ≡ Good found a
  repeat_stops all n a found h i = h ∙ (rw (stop n a i, append_nil found) refl)

  pub repeat_ends : (all : Answer (List A)) (end turn : ℕ) (a : Lexemes) (found : List A) → all ≡ with_front found (many_from ks p (end - turn) a) → end ≤ turn → all ≡ Good found a
  unfolding many_from
  repeat_ends all end turn a found h i = let m : end - turn ≡ 0 = omega arith in h ∙ (rw (m, append_nil found) refl)

  pub repeat_goes : (all : Answer (List A)) (end turn : ℕ) (a b : Lexemes) (x : A) (found : List A) → all ≡ with_front found (many_from ks p (end - turn) a) → turn < end → heads ks a ≡ true → p a ≡ Good x b
      → all ≡ with_front (found ++ x ∷ []) (many_from ks p (end - (turn + 1)) b)
  repeat_goes all end turn a b x found h i j k =
      let m : end - turn ≡ suc (end - (turn + 1)) = omega arith in
      h ∙ (rw m (step (end - (turn + 1)) a b x found j k))

  pub repeat_starts : (a : Lexemes) → many_from ks p (length a) a ≡ with_front [] (many_from ks p (length a - 0) a)
  repeat_starts a = let m : length a - 0 ≡ length a = omega arith in rw m (go (many_from ks p (length a) a))
    where
      go : (o : Answer (List A)) → o ≡ with_front [] o
      go (Good x b) = refl
      go (Failed e b) = refl
