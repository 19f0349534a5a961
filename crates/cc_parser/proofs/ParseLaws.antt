-- What the reader of a program says of a whole list of tokens.
use Rattle.std.proofs.Common.{◌≡◌, ◌≢◌, ℕ, suc, ◌+◌, ◌-◌, ◌<◌, ◌≤◌, ◌^◌, List, length, take, refl, ap, inl, inr, arith, Ok, Err}
use Rattle.std.specs.Prelude.{Result, IfOk, IfErr}
use Rattle.std.proofs.lemmas.Bool.{cases_lt}
use Rattle.std.proofs.lemmas.List.{length-map}
use Rattle.cc_lexer.specs.declared.token.Token.{Token}
use Rattle.cc_lexer.specs.Cut.{Cut}
use Rattle.cc_lexer.specs.Lexemes.{lexemes}
use Rattle.cc_lexer.proofs.Spans.{cut_count}
use Rattle.cc_tree.specs.declared.declarations.Program.{Program}
use Rattle.cc_grammar.specs.declared.fault.Fault.{Fault}
use Rattle.cc_grammar.specs.declared.fault.Fault.TheVariants as fault
use Rattle.cc_grammar.specs.Lexeme.{Lexemes}
use Rattle.cc_grammar.specs.Program.{Spells, Front, FrontWithin}
use Rattle.cc_grammar.specs.Places.{IsSyntaxAt, IsTooDeepAt}
use Rattle.cc_grammar.specs.Reading.{Good, Failed}
use Rattle.cc_grammar.specs.ReadItems.{program}
use Rattle.cc_grammar.proofs.Top as top
use Rattle.cc_parser.specs.declared.fault.ParseFault.{ParseFault}
use Rattle.cc_parser.specs.declared.fault.ParseFault.TheVariants.{Syntax, TooDeep, Memory}
use Rattle.cc_parser.specs.Faults.{IsRefusedFor, fault_at}

-- ---- what is read

pub reads_whole : (a b : Lexemes) (p : Program) → program 64 a ≡ Good p b → length b ≡ 0 → Spells a p
reads_whole a b p h i = top.found a b p h i

pub reads_more : (a b : Lexemes) (p : Program) → program 64 a ≡ Good p b → 0 < length b → IsRefusedFor a (fault_at fault.Syntax (length a - length b))
reads_more a b p h i = (λ q s. top.only_more a b p q h (λ e. omega arith) s, top.syntax_more a b p h)

pub reads_none : (a b : Lexemes) (w : Fault) → program 64 a ≡ Failed w b → w ≢ fault.Memory → IsRefusedFor a (fault_at w (length a - length b))
reads_none a b fault.Syntax h i = (λ q s. top.only_failed a b fault.Syntax q h s, top.syntax_failed a b h)
reads_none a b fault.TooDeep h i = (λ q s. top.only_failed a b fault.TooDeep q h s, top.deep_failed a b h)
reads_none a b fault.Memory h i = absurd (i refl)

-- a text has so few tokens that the number of one has 32 bits
pub few : (text : List ℕ) (tokens : List Token) → Cut text tokens → length (lexemes text tokens) < 2 ^ 32
few text tokens h = let e : length (lexemes text tokens) ≡ length tokens = length-map tokens _ in omega (arith, e, cut_count text tokens h, h.not_too_long)

-- ---- one fault

module _ (tokens : Lexemes) where
  front_at : (n : ℕ) → FrontWithin 64 (take n tokens) → Front (take n tokens)
  unfolding Front
  front_at n h = (64, h)

  deeper_at : (n : ℕ) → FrontWithin 65 (take n tokens) → Front (take n tokens)
  unfolding Front
  deeper_at n h = (65, h)

  syntax_last : (at other : ℕ) → IsSyntaxAt tokens at → IsSyntaxAt tokens other → other ≤ at
  syntax_last at other h i = elim (cases_lt at other) [
    | inl l ↦ absurd (h.after (suc at) (omega arith) (omega (arith, i.within)) (front_at (suc at) (i.before (suc at) (omega arith))))
    | inr l ↦ l
  ]

  deep_last : (at other : ℕ) → IsTooDeepAt tokens at → IsTooDeepAt tokens other → other ≤ at
  deep_last at other h i = elim (cases_lt at other) [
    | inl l ↦ absurd (h.after (suc at) (omega arith) (omega (arith, i.within)) (i.before (suc at) (omega arith)))
    | inr l ↦ l
  ]

  not_both : (at other : ℕ) → IsSyntaxAt tokens at → IsTooDeepAt tokens other → ⊥
  not_both at other h i = elim (cases_lt other at) [
    | inl l ↦ i.after (other + 1) (omega arith) (omega (arith, i.within)) (h.before (other + 1) (omega arith))
    | inr l ↦ h.after (other + 1) (omega arith) (omega (arith, i.within)) (deeper_at (other + 1) i.deeper)
  ]

  pub one_fault : (w v : ParseFault) → IsRefusedFor tokens w → IsRefusedFor tokens v → w ≡ v
  one_fault (Syntax at) (Syntax other) h i =
      let l = syntax_last at other h.1 i.1 in
      let m = syntax_last other at i.1 h.1 in
      let e : at ≡ other = omega arith in
      ap Syntax e
  one_fault (TooDeep at) (TooDeep other) h i =
      let l = deep_last at other h.1 i.1 in
      let m = deep_last other at i.1 h.1 in
      let e : at ≡ other = omega arith in
      ap TooDeep e
  one_fault (Syntax at) (TooDeep other) h i = absurd (not_both at other h.1 i.1)
  one_fault (TooDeep at) (Syntax other) h i = absurd (not_both other at i.1 h.1)
  one_fault Memory v h i = absurd h
  one_fault (Syntax at) Memory h i = absurd i
  one_fault (TooDeep at) Memory h i = absurd i

  refused_spells : (w : ParseFault) (p : Program) → IsRefusedFor tokens w → Spells tokens p → ⊥
  refused_spells (Syntax at) p h s = h.0 p s
  refused_spells (TooDeep at) p h s = h.0 p s
  refused_spells Memory p h s = h

  -- a result that is the program, or the fault, is the only one
  pub only_program : (r : Result Program ParseFault) → IfOk r (Spells tokens) → IfErr r (λ w. w ≢ Memory → IsRefusedFor tokens w) → (p : Program) → Spells tokens p → r ≢ Err Memory → r ≡ Ok p
  only_program (Ok q) h i p s n = ap Ok (top.one tokens q p h s)
  only_program (Err w) h i p s n = absurd (refused_spells w p (i (λ e. n (ap Err e))) s)

  pub only_fault : (r : Result Program ParseFault) → IfOk r (Spells tokens) → IfErr r (λ w. w ≢ Memory → IsRefusedFor tokens w) → (v : ParseFault) → IsRefusedFor tokens v → r ≢ Err Memory → r ≡ Err v
  only_fault (Ok q) h i v s n = absurd (refused_spells v q s h)
  only_fault (Err w) h i v s n = ap Err (one_fault w v (i (λ e. n (ap Err e))) s)
