-- What it is that a reader reads a symbol, one lemma for each way in which symbols are put together. So each symbol of the grammar
-- is one line, which follows its definition, and what there is to show of it are facts on sets of kinds, which compute.
use Rattle.std.proofs.Common.{◌≡◌, ℕ, zero, suc, pred, Bool, true, false, ◌&&◌, cond, List, [], ◌∷◌, ◌++◌, Option, Some, None, ◌⊎◌, inl, inr, refl, ap, subst}
use Rattle.cc_lexer.specs.declared.token.TokenKind.{TokenKind}
use Rattle.cc_lexer.specs.declared.token.TokenKind.TheVariants as k
use Rattle.cc_lexer.specs.declared.token.Keyword.{Keyword}
use Rattle.cc_lexer.specs.declared.token.Mark.{Mark}
use Rattle.cc_grammar.specs.Lexeme.{Lexeme, Lexemes}
use Rattle.cc_grammar.specs.Kinds.{Kinds, code, are_apart, is_within, heads}
use Rattle.cc_grammar.specs.Symbol.{Symbol}
use Rattle.cc_grammar.specs.Symbol as g
use Rattle.cc_grammar.specs.Reading.{Reader, choose, choose_by, at_word, at_mark}
use Rattle.cc_grammar.specs.Reading as r
use Rattle.cc_grammar.proofs.Sets.{apart_none}
use Rattle.cc_grammar.proofs.Fronts.{Fronts}
use Rattle.cc_grammar.proofs.Fronts as fronts
use Rattle.cc_grammar.proofs.Exact.{Exact, onward}
use Rattle.cc_grammar.proofs.Exact as exact
use Rattle.cc_grammar.proofs.Levels.{Levels, IsPositive, least}
use Rattle.cc_grammar.proofs.Levels as levels

-- Reader p reads symbol s within n levels, and `fewer` is the reader with one level fewer. The sets are the kinds that may begin
-- the symbol, and those with which a whole spelling may go on; the flag says whether no token at all may be a spelling.
pub record Reads {A : Type 0} (n : ℕ) (fewer p : Reader A) (s : Symbol A) (first goes : Kinds) (empty : Bool) : Type 0 where
  pub fronts : Fronts s
  pub exact : Exact p s first goes empty
  pub levels : Levels n fewer p s

-- ---- one token

pub token : {A : Type 0} {n : ℕ} (number : ℕ) (kept : Lexeme → A) → Reads n (r.token number kept) (r.token number kept) (g.token number kept) (number ∷ []) [] false
token number kept = record { fronts = fronts.token number kept; exact = exact.token number kept; levels = levels.token number kept }

pub word : {n : ℕ} (w : Keyword) → Reads n (r.word w) (r.word w) (g.word w) (at_word w) [] false
word w = token _ _

pub mark : {n : ℕ} (m : Mark) → Reads n (r.mark m) (r.mark m) (g.mark m) (at_mark m) [] false
mark m = token _ _

pub name : {n : ℕ} → Reads n r.name r.name g.name (0 ∷ []) [] false
name = token _ _

pub number : {n : ℕ} → Reads n r.number r.number g.number (1 ∷ []) [] false
number = token _ _

pub string : {n : ℕ} → Reads n r.string r.string g.string (2 ∷ []) [] false
string = token _ _

pub pure : {A : Type 0} {n : ℕ} (x : A) → Reads n (r.pure x) (r.pure x) (g.pure x) [] [] true
pure x = record { fronts = fronts.pure x; exact = exact.pure x; levels = levels.pure x }

-- ---- one after the other, one of two, any number of times

module _ {A B : Type 0} {n : ℕ} {o p : Reader A} {v q : A → Reader B} {s : Symbol A} {t : A → Symbol B} {f1 g1 f2 g2 : Kinds} {e1 e2 : Bool} where
  pub seq : Reads n o p s f1 g1 e1 → ((x : A) → Reads n (v x) (q x) (t x) f2 g2 e2) → are_apart f2 g1 ≡ true
      → Reads n (r.◌>>=◌ o v) (r.◌>>=◌ p q) (g.◌>>=◌ s t) (f1 ++ cond e1 f2 []) (g2 ++ cond e2 g1 []) (e1 && e2)
  seq l u apart = record {
    fronts = fronts.seq l.fronts (λ x. (u x).fronts);
    exact = exact.seq l.fronts (λ x. (u x).fronts) l.exact (λ x. (u x).exact) apart;
    levels = levels.seq l.levels (λ x. (u x).levels) l.exact (λ x. (u x).exact);
  }

module _ {A : Type 0} {n : ℕ} {o p v q : Reader A} {s t : Symbol A} {f1 g1 f2 g2 : Kinds} where
  pub either : {e2 : Bool} → Reads n o p s f1 g1 false → Reads n v q t f2 g2 e2 → are_apart f2 f1 ≡ true
      → Reads n (choose f1 o v) (choose f1 p q) (g.◌or◌ s t) (f1 ++ f2) ((g1 ++ g2) ++ cond e2 f1 []) e2
  either l u apart = record {
    fronts = fronts.either l.fronts u.fronts;
    exact = exact.either u.fronts l.exact u.exact apart;
    levels = levels.by (heads f1) l.levels u.levels;
  }

  pub told_apart : (test : Lexemes → Bool) → Reads n o p s f1 g1 false → Reads n v q t f2 g2 false
      → ((a b : Lexemes) (x : A) → s.spells a b x → test a ≡ true) → ((a b : Lexemes) (x : A) → t.spells a b x → test a ≡ false)
      → ((a c : Lexemes) → s.front a c → (test a ≡ true) ⊎ t.front a c) → ((a c : Lexemes) → t.front a c → (test a ≡ false) ⊎ s.front a c)
      → Reads n (choose_by test o v) (choose_by test p q) (g.◌or◌ s t) (f1 ++ f2) (g1 ++ g2) false
  told_apart test l u h i j k = record {
    fronts = fronts.either l.fronts u.fronts;
    exact = exact.told_apart test l.exact u.exact h i j k;
    levels = levels.by test l.levels u.levels;
  }

pub many : {A : Type 0} {n : ℕ} {o p : Reader A} {s : Symbol A} {f goes : Kinds} → Reads n o p s f goes false → are_apart f goes ≡ true → Reads n (r.many f o) (r.many f p) (g.many s) f (f ++ goes) true
many l apart = record { fronts = fronts.many l.fronts; exact = exact.many l.fronts l.exact apart; levels = levels.many l.levels l.exact }

pub nearest : {A : Type 0} {n : ℕ} {o p : Reader A} {s : Symbol A} {goes : Kinds} (kind : TokenKind) (x : A) → Reads n o p s (code kind ∷ []) goes false
    → Reads n (choose (code kind ∷ []) o (r.pure x)) (choose (code kind ∷ []) p (r.pure x)) (g.◌or◌ s (g.before_no kind x)) (code kind ∷ []) goes true
nearest kind x l = record {
  fronts = fronts.either l.fronts (fronts.before_no kind x);
  exact = exact.nearest kind x l.exact;
  levels = levels.nearest kind x l.levels;
}

-- ---- the sets as they are declared

module _ {A : Type 0} {n : ℕ} {o p : Reader A} {s : Symbol A} {f g : Kinds} {e : Bool} where
  pub declared : (f' g' : Kinds) → Reads n o p s f g e → is_within f f' ≡ true → is_within g g' ≡ true → Reads n o p s f' g' e
  declared f' g' l h i = record { fronts = l.fronts; exact = exact.declared f' g' l.exact h i; levels = l.levels }

  pub maybe : Reads n o p s f g e → Reads n o p s f g true
  maybe l = record { fronts = l.fronts; exact = exact.maybe l.exact; levels = l.levels }

pub append_nil : {A : Type 0} (xs : List A) → xs ++ [] ≡ xs
append_nil [] = refl
append_nil (x ∷ xs) = ap (λ ys. x ∷ ys) (append_nil xs)

-- a symbol with its value changed
pub kept : {A B : Type 0} {n : ℕ} {o p : Reader A} {s : Symbol A} {f goes : Kinds} (h : A → B) → Reads n o p s f goes false
    → Reads n (r.◌>>=◌ o (λ x. r.pure (h x))) (r.◌>>=◌ p (λ x. r.pure (h x))) (g.◌>>=◌ s (λ x. g.pure (h x))) f goes false
kept {n = n} {o = o} {p = p} {s = s} {f = f} {goes = goes} h l =
    let P : Kinds → Type 0 = λ ks. Reads n (r.◌>>=◌ o (λ x. r.pure (h x))) (r.◌>>=◌ p (λ x. r.pure (h x))) (g.◌>>=◌ s (λ x. g.pure (h x))) ks goes false in
    subst P (append_nil f) (seq l (λ x. pure (h x)) refl)

-- [ s ], with this value for none
pub or_else : {A : Type 0} {n : ℕ} {o p : Reader A} {s : Symbol A} {f goes : Kinds} (x : A) → Reads n o p s f goes false
    → Reads n (choose f o (r.pure x)) (choose f p (r.pure x)) (g.◌or◌ s (g.pure x)) f (goes ++ f) true
or_else {n = n} {o = o} {p = p} {s = s} {f = f} {goes = goes} x l =
    let P : Kinds → Type 0 = λ ks. Reads n (choose f o (r.pure x)) (choose f p (r.pure x)) (g.◌or◌ s (g.pure x)) ks (goes ++ f) true in
    let Q : Kinds → Type 0 = λ ks. Reads n (choose f o (r.pure x)) (choose f p (r.pure x)) (g.◌or◌ s (g.pure x)) (f ++ []) (ks ++ f) true in
    subst P (append_nil f) (subst Q (append_nil goes) (either l (pure x) refl))

pub opt : {A : Type 0} {n : ℕ} {o p : Reader A} {s : Symbol A} {f goes : Kinds} → Reads n o p s f goes false → Reads n (r.opt f o) (r.opt f p) (g.opt s) f (goes ++ f) true
opt l = or_else None (kept Some l)

pub has_word : {n : ℕ} (w : Keyword) → Reads n (r.has_word w) (r.has_word w) (g.has_word w) (at_word w) (at_word w) true
unfolding r.has_word
has_word w = or_else false (kept (λ _. true) (word w))

-- ---- levels

-- a refusal of a value
pub never : {A : Type 0} {n : ℕ} → Reads {A = A} n r.refuse r.refuse g.never [] [] false
never = record { fronts = fronts.never; exact = exact.never _; levels = record { more = λ _. levels.more_same _; deep = λ _ a c h. absurd cc } }

-- with no level fewer it does not matter which reader has one fewer
pub alone : {A : Type 0} {o o' p : Reader A} {s : Symbol A} {f g : Kinds} {e : Bool} → Reads zero o p s f g e → Reads zero o' p s f g e
alone l = record { fronts = l.fronts; exact = l.exact; levels = least }

more_levels : {A : Type 0} {n : ℕ} {o p : Reader A} {s : Symbol A} → Levels (suc n) o p s → Levels (suc (suc n)) o p s
more_levels l = record { more = λ i. l.more tt; deep = λ i. l.deep tt }

-- a token that opens a level, and what stands within it
pub nested : {A : Type 0} {v q : ℕ → Reader A} {t : ℕ → Symbol A} {f goes : Kinds} {e : Bool} (n : ℕ) (kind : TokenKind)
    → (IsPositive n → (line : ℕ) → Reads (pred n) (v line) (q line) (t line) f goes e)
    → Reads n (r.◌>>=◌ (r.opening (pred n) kind) v) (r.◌>>=◌ (r.opening n kind) q) (g.◌>>=◌ (g.opening n kind) t) (code kind ∷ []) (goes ++ cond e [] []) false
unfolding r.opening
nested {q = q} {t = t} zero kind u = record { fronts = fronts.closed t; exact = exact.closed kind q t _; levels = least }
nested {v = v} {q = q} {t = t} {f = f} (suc zero) kind u =
    let l = exact.seq (fronts.token (code kind) (λ t. t.line)) (λ x. (u tt x).fronts) (exact.token (code kind) (λ t. t.line)) (λ x. (u tt x).exact) (apart_none f) in
    record {
      fronts = fronts.seq (fronts.token (code kind) (λ t. t.line)) (λ x. (u tt x).fronts);
      exact = l;
      levels = levels.opened kind v q t (λ line a. (u tt line).fronts.none a) (λ a. onward l a);
    }
nested {f = f} (suc (suc n)) kind u = record {
  fronts = fronts.seq (fronts.token (code kind) (λ t. t.line)) (λ x. (u tt x).fronts);
  exact = exact.seq (fronts.token (code kind) (λ t. t.line)) (λ x. (u tt x).fronts) (exact.token (code kind) (λ t. t.line)) (λ x. (u tt x).exact) (apart_none f);
  levels = levels.seq (levels.token (code kind) (λ t. t.line)) (λ x. more_levels (u tt x).levels) (exact.token (code kind) (λ t. t.line)) (λ x. (u tt x).exact);
}
