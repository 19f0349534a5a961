-- From how a program is read as to the whole list of tokens: the tree that it spells, and the place of a fault.
use Rattle.std.proofs.Common.{◌≡◌, ℕ, zero, suc, pred, ◌+◌, ◌-◌, ◌<◌, ◌≤◌, List, [], ◌∷◌, ◌++◌, length, take, drop, ◌⊎◌, inl, inr, refl, ap, ◌∙◌, sym, arith}
use Rattle.std.proofs.Common.{length-drop, append_assoc}
use Rattle.std.proofs.lemmas.List.{length-append, take-append-drop, take-append-le}
use Rattle.std.proofs.lemmas.Bool.{cases_lt}
use Rattle.std.proofs.Math.Seq.{take-append_seam}
use Rattle.std.proofs.Math.Nat.{eq-or-lt_of_le}
use Rattle.cc_tree.specs.declared.declarations.Program.{Program}
use Rattle.cc_grammar.specs.declared.fault.Fault.{Fault}
use Rattle.cc_grammar.specs.declared.fault.Fault.TheVariants.{Syntax, TooDeep}
use Rattle.cc_grammar.specs.Lexeme.{Lexeme, Lexemes}
use Rattle.cc_grammar.specs.Program as g
use Rattle.cc_grammar.specs.Program.{Spells, Front, FrontWithin}
use Rattle.cc_grammar.specs.Places.{IsSyntaxAt, IsTooDeepAt}
use Rattle.cc_grammar.specs.Reading.{Answer, Good, Failed}
use Rattle.cc_grammar.specs.ReadItems as r
use Rattle.cc_grammar.proofs.Fronts.{Fronts, suffix_length}
use Rattle.cc_grammar.proofs.Exact.{rest}
use Rattle.cc_grammar.proofs.Levels.{More, more_same, more_trans}
use Rattle.cc_grammar.proofs.ItemLaws.{program}

-- ---- the tree

pub one : (a : Lexemes) (p q : Program) → Spells a p → Spells a q → p ≡ q
unfolding Spells
one a p q h i =
    let j = (program 64).exact.complete a [] p h refl in
    let k = (program 64).exact.complete a [] q i refl in
    cc

empty : (b : Lexemes) → length b ≡ 0 → b ≡ []
empty [] h = refl
empty (t ∷ b) h = absurd (omega arith)

pub found : (a b : Lexemes) (p : Program) → r.program 64 a ≡ Good p b → length b ≡ 0 → Spells a p
unfolding Spells
found a b p h i = let j = empty b i in let k = rw j at h in (program 64).exact.sound a [] p k

pub only_whole : (a b : Lexemes) (p q : Program) → r.program 64 a ≡ Good p b → Spells a q → p ≡ q
unfolding Spells
only_whole a b p q h i = let j = (program 64).exact.complete a [] q i refl in cc

pub only_more : (a b : Lexemes) (p q : Program) → r.program 64 a ≡ Good p b → (length b ≡ 0 → ⊥) → Spells a q → ⊥
unfolding Spells
only_more a b p q h k i =
    let j = (program 64).exact.complete a [] q i refl in
    let e : b ≡ [] = cc in
    k (ap length e)

pub only_failed : (a b : Lexemes) (w : Fault) (q : Program) → r.program 64 a ≡ Failed w b → Spells a q → ⊥
unfolding Spells
only_failed a b w q h i = let j = (program 64).exact.complete a [] q i refl in cc

-- ---- more levels

-- a program within more levels is read the same, or goes on where fewer were too few
more_to : (k m : ℕ) → k ≤ m → More (r.program k) (r.program m)
more_to k zero h = let e : k ≡ 0 = omega arith in rw e (more_same _)
more_to k (suc m) h = elim (eq-or-lt_of_le h) [
  | inl e ↦ rw e (more_same _)
  | inr i ↦ (let j : k ≤ m = omega arith in more_trans (more_to k m j) ((program (suc m)).levels.more tt))
]

-- the reader within 64 levels stopped here, and not for want of levels
abbrev Stops : Lexemes → Lexemes → Type 0
Stops a b = (rest (r.program 64 a) ≡ b) × ((c : Lexemes) → r.program 64 a ≡ Failed TooDeep c → ⊥)

reach : (a b c : Lexemes) (m : ℕ) → Stops a b → (g.program m).front a c → length b ≤ length c
reach a b c m (s, f) h = elim (cases_lt 64 m) [
  | inl i ↦ elim ((more_to 64 m (omega arith)).on a) [
    | inl e ↦ omega (arith, (program m).exact.stops a c h, ap length s, ap (λ o. length (rest o)) e)
    | inr w ↦ absurd (f w.0 w.1)
  ]
  | inr i ↦ elim ((more_to m 64 i).on a) [
    | inl e ↦ omega (arith, (program m).exact.stops a c h, ap length s, ap (λ o. length (rest o)) e)
    | inr w ↦ omega (arith, (program m).exact.stops a c h, ap length s, ap (λ o. length (rest o)) w.1, w.2)
  ]
]

-- ---- places in a list

-- a front, and what it begins with
fronts_before : (a b u : Lexemes) → a ≡ u ++ b → (g.program 64).front a b → (n : ℕ) → n ≤ length a - length b → FrontWithin 64 (take n a)
unfolding FrontWithin
fronts_before a b u h f n i =
    let j : n ≤ length u = omega (arith, ap length h, length-append u b) in
    let k : (g.program 64).front u [] = (program 64).fronts.cut_front u [] b (rw h at f) in
    let t : take n u ++ drop n u ≡ u = take-append-drop n u in
    let l : (g.program 64).front (take n u) [] = (program 64).fronts.short (take n u) (drop n u) (rw t k) in
    rw (h, take-append-le n u b j) l

-- a front of what the list begins with is one of the list
grown : (m n : ℕ) (a : Lexemes) → FrontWithin m (take n a) → (g.program m).front a (drop n a)
unfolding FrontWithin
grown m n a h =
    let j : (g.program m).front (take n a ++ drop n a) ([] ++ drop n a) = (program m).fronts.grow_front (take n a) [] (drop n a) h in
    let t : take n a ++ drop n a ≡ a = take-append-drop n a in
    rw t at j

stop_syntax : (a b u : Lexemes) → a ≡ u ++ b → (g.program 64).front a b → Stops a b → IsSyntaxAt a (length a - length b)
unfolding Front
stop_syntax a b u h f s = record {
  within = omega arith;
  before = fronts_before a b u h f;
  after = λ n i j (m, k). (let v = reach a b (drop n a) m s (grown m n a k) in omega (arith, v, length-drop n a, ap length h, length-append u b));
}

pub syntax_failed : (a b : Lexemes) → r.program 64 a ≡ Failed Syntax b → IsSyntaxAt a (length a - length b)
syntax_failed a b h =
    let v = (program 64).exact.viable a in
    let w = rw h at v in
    let s = (program 64).exact.ahead a in
    let q = rw h at s in
    stop_syntax a b q.0 q.1 (w tt) (ap rest h, λ c i. cc)

pub syntax_more : (a b : Lexemes) (p : Program) → r.program 64 a ≡ Good p b → IsSyntaxAt a (length a - length b)
syntax_more a b p h =
    let s = (program 64).exact.ahead a in
    let q = rw h at s in
    stop_syntax a b q.0 q.1 ((program 64).fronts.full a b p ((program 64).exact.sound a b p h)) (ap rest h, λ c i. cc)

-- one token more, with one level more
one_deeper : (a b u : Lexemes) (t : Lexeme) → a ≡ u ++ t ∷ b → (g.program 65).front a b → FrontWithin 65 (take (length a - length (t ∷ b) + 1) a)
unfolding FrontWithin
one_deeper a b u t h f =
    let e : a ≡ (u ++ t ∷ []) ++ b = h ∙ sym (append_assoc u (t ∷ []) b) in
    let i : (g.program 65).front (u ++ t ∷ []) [] = (program 65).fronts.cut_front (u ++ t ∷ []) [] b (rw e at f) in
    let n : length a - length (t ∷ b) + 1 ≡ length (u ++ t ∷ []) = omega (arith, ap length h, length-append u (t ∷ b), length-append u (t ∷ [])) in
    rw (n, e, take-append_seam (u ++ t ∷ []) b) i

too_deep : (a b u : Lexemes) → a ≡ u ++ b → (g.program 64).front a b → ((c : Lexemes) → (g.program 64).front a c → length b ≤ length c) → (t : Lexeme) (c : Lexemes) → b ≡ t ∷ c → (g.program 65).front a c → IsTooDeepAt a (length a - length b)
too_deep a b u h f s t c e d = record {
  within = omega (arith, ap length h, length-append u b, ap length e);
  before = fronts_before a b u h f;
  deeper = rw e (one_deeper a c u t (rw e at h) d);
  after = λ n i j k. (let x = s (drop n a) (grown 64 n a k) in omega (arith, x, length-drop n a, ap length h, length-append u b));
}

pub deep_failed : (a b : Lexemes) → r.program 64 a ≡ Failed TooDeep b → IsTooDeepAt a (length a - length b)
deep_failed a b h =
    let v = (program 64).exact.viable a in
    let w = rw h at v in
    let s = (program 64).exact.ahead a in
    let q = rw h at s in
    let z = (program 64).exact.stops a in
    let y = rw h at z in
    let d = (program 65).levels.deep tt a b h in
    too_deep a b q.0 q.1 (w tt) y d.0 d.1 d.2 d.3

-- what is left is no longer than the list
pub left_failed : (a b : Lexemes) (w : Fault) → r.program 64 a ≡ Failed w b → length b ≤ length a
left_failed a b w h = let s = (program 64).exact.ahead a in let q = rw h at s in suffix_length a b q

pub left_more : (a b : Lexemes) (p : Program) → r.program 64 a ≡ Good p b → length b ≤ length a
left_more a b p h = let s = (program 64).exact.ahead a in let q = rw h at s in suffix_length a b q
