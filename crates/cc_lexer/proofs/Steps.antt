-- One blank or token after another.
use Rattle.std.proofs.Common.{◌≡◌, ◌≢◌, ℕ, zero, suc, ◌+◌, ◌-◌, ◌<◌, ◌≤◌, Bool, true, false, ◌&&◌, ◌==◌, not, cond, List, [], ◌∷◌, ◌++◌, length, take, drop, Result, Ok, Err, refl, ap, sym, subst, ◌∙◌, arith, zero-add, add-zero, length-drop}
use Rattle.std.proofs.Math.Seq.{take-add}
use Rattle.std.proofs.lemmas.Bool.{and_parts, and_from, eqb-true}
use Rattle.std.proofs.lemmas.Bool.Decides.{nat_tests}
use Rattle.std.proofs.lemmas.List.Sums.{sum_by-cons, sum_by-append, prefix_len-le-length}
use Rattle.std.specs.Prelude.{codes, count_by, IfOk, IfErr}
use Rattle.std.specs.List.{list_all}
use Rattle.cc_lexer.specs.declared.piece.Piece.TheVariants as piece
use Rattle.cc_lexer.specs.declared.token.Mark.{Mark}
use Rattle.cc_lexer.specs.declared.token.Mark.TheVariants as mark
use Rattle.cc_lexer.specs.declared.token.Token.{Token}
use Rattle.cc_lexer.specs.declared.token.TokenKind.{TokenKind}
use Rattle.cc_lexer.specs.declared.token.TokenKind.TheVariants.{Name, Int, Str, Word, Mark as Marked}
use Rattle.cc_lexer.specs.declared.fault.LexFault.{LexFault}
use Rattle.cc_lexer.specs.declared.fault.LexFault.TheVariants.{Memory}
use Rattle.cc_lexer.specs.Spelling.{Text, is_word_byte, is_digit, is_word, is_inside, is_plain, is_escape, mark_text, Spells}
use Rattle.cc_lexer.specs.Cut.{is_line_feed, line_length, IsBlank, byte, line_comment, comment, include_line, IsLongest, IsWithinLimits, IsCutTo, nothing, blank, token, longest_text, Cut}
use Rattle.cc_lexer.specs.Faults.{IsFault, FirstFault, at_place}
use Rattle.cc_lexer.specs.Next.{IsNext}
use Rattle.cc_lexer.proofs.Classes.{spelled_class, word_is}
use Rattle.cc_lexer.proofs.Fronts.{all_weaker}
use Rattle.cc_lexer.proofs.Blanks.{none_counted}
use Rattle.cc_lexer.proofs.Longest.{word_passes, number_passes}
use Rattle.cc_lexer.proofs.Outcomes.{one_cut, cut_or_fault, one_fault}

-- ---- sizes

line_size : (here : Text) (b : ℕ) (rest : Text) → here ≡ b ∷ rest → is_line_feed b ≡ false → (0 < line_length here) × (line_length here ≤ length here)
line_size here b rest e h =
    let n : line_length here ≡ 1 + line_length rest = ap line_length e ∙ rw h refl in
    (omega (arith, n), prefix_len-le-length (λ c. not (is_line_feed c)) here)

pub blank_size : (before here : Text) (n : ℕ) → IsBlank before here n → (0 < n) × (n ≤ length here)
blank_size before here _ (byte e h) = (omega arith, omega (arith, ap length e))
blank_size before here _ (line_comment h) = line_size here 47 _ h.1 refl
blank_size before here _ (comment {n} h i) =
    (omega arith, omega (arith, ap length h.1, ap length i.found.1, length-drop n (drop 2 here), length-drop 2 here))
blank_size before here _ (include_line h i) = line_size here 35 _ h.1 refl

pub token_size : (here : Text) (kind : TokenKind) (n : ℕ) → IsLongest here kind n → (0 < n) × (n ≤ length here)
token_size here kind n h = (some n h.stands.spelled, h.stands.within)
  where
    empty : (k : TokenKind) → Spells k [] → ⊥
    empty Name s = let e = spelled_class Name [] s in cc
    empty (Int v) s = let e = spelled_class (Int v) [] s in cc
    empty Str s = let e = spelled_class Str [] s in cc
    empty (Word w) s = let e = spelled_class (Word w) [] s in cc
    empty (Marked m) s = let e = spelled_class (Marked m) [] s in cc

    some : (m : ℕ) → Spells kind (take m here) → 0 < m
    some zero s = absurd (empty kind s)
    some (suc m) s = omega arith

-- ---- line feeds

abbrev pub feeds : Text → ℕ
feeds text = count_by is_line_feed text

abbrev no_feed : ℕ → Bool
no_feed b = not (is_line_feed b)

word_byte : (b : ℕ) → is_word_byte b ≡ true → no_feed b ≡ true
word_byte b h = grind (arith, nat_tests)

digit_byte : (b : ℕ) → is_digit b ≡ true → no_feed b ≡ true
digit_byte b h = grind (arith, nat_tests)

plain_byte : (b : ℕ) → is_plain b ≡ true → no_feed b ≡ true
plain_byte b h = grind (arith, nat_tests)

escape_byte : (b : ℕ) → is_escape b ≡ true → no_feed b ≡ true
escape_byte b h = grind (arith, nat_tests)

inside_feeds : (t : Text) → is_inside t ≡ true → list_all no_feed t ≡ true
inside_feeds [] h = refl
inside_feeds (b ∷ []) h = and_from (no_feed b) true (plain_byte b h) refl
inside_feeds (b ∷ c ∷ bs) h = go (b == 92) refl h (λ k. inside_feeds bs k) (λ k. inside_feeds (c ∷ bs) k)
  where
    go : (x : Bool) → (b == 92) ≡ x → cond x (is_escape c && is_inside bs) (is_plain b && is_inside (c ∷ bs)) ≡ true
        → (is_inside bs ≡ true → list_all no_feed bs ≡ true) → (is_inside (c ∷ bs) ≡ true → list_all no_feed (c ∷ bs) ≡ true) → list_all no_feed (b ∷ c ∷ bs) ≡ true
    go true e f k l =
        let w = and_parts (is_escape c) (is_inside bs) f in
        and_from (no_feed b) _ (ap no_feed (eqb-true b 92 e)) (and_from (no_feed c) _ (escape_byte c w.0) (k w.1))
    go false e f k l = let w = and_parts (is_plain b) (is_inside (c ∷ bs)) f in and_from (no_feed b) _ (plain_byte b w.0) (l w.1)

mark_feeds : (m : Mark) → feeds (mark_text m) ≡ 0
mark_feeds mark.OpenParen = refl
mark_feeds _ = refl

word_feeds : (t : Text) → is_word t ≡ true → feeds t ≡ 0
word_feeds t h = none_counted t (all_weaker is_word_byte no_feed t word_byte (word_passes t h))

pub spelled_feeds : (kind : TokenKind) (t : Text) → Spells kind t → feeds t ≡ 0
spelled_feeds Name t h = word_feeds t h.word
spelled_feeds (Int v) t h = none_counted t (all_weaker is_digit no_feed t digit_byte (number_passes t h.0))
spelled_feeds Str t h =
    ap feeds h.2 ∙ sum_by-append (λ b. cond (is_line_feed b) 1 0) (codes "\"" ++ h.0) (codes "\"")
    ∙ add-zero (feeds (codes "\"" ++ h.0)) ∙ sum_by-cons (λ b. cond (is_line_feed b) 1 0) 34 h.0
    ∙ zero-add (feeds h.0) ∙ none_counted h.0 (inside_feeds h.0 h.1)
spelled_feeds (Word w) t h = word_feeds t (word_is (Word w) w t h)
spelled_feeds (Marked m) t h = ap feeds h ∙ mark_feeds m

-- ---- steps

module _ (text : Text) where
  more_feeds : (at n : ℕ) → feeds (take (at + n) text) ≡ feeds (take at text) + feeds (take n (drop at text))
  more_feeds at n = ap feeds (take-add at n text) ∙ sum_by-append (λ b. cond (is_line_feed b) 1 0) (take at text) (take n (drop at text))

  -- what has been read: these tokens, up to this place, in this line
  pub record IsRead (tokens : List Token) (at line : ℕ) : Type 0 where
    pub within : at ≤ length text
    pub cut : IsCutTo text at tokens
    pub line_is : line ≡ 1 + feeds (take at text)

  pub nothing_read : IsRead [] 0 1
  nothing_read = record { within = omega arith; cut = nothing; line_is = refl }

  module _ (tokens : List Token) (at line : ℕ) (before here : Text) (so_far : IsRead tokens at line) (behind : before ≡ take at text) (ahead : here ≡ drop at text) where
    here_length : length here ≡ length text - at
    here_length = ap length ahead ∙ length-drop at text

    more : (n : ℕ) → feeds (take (at + n) text) ≡ feeds (take at text) + feeds (take n here)
    more n = more_feeds at n ∙ ap (λ t. feeds (take at text) + feeds (take n t)) (sym ahead)

    pub blank_fits : (n line_feeds : ℕ) → IsNext before here (Ok (piece.Blank n line_feeds)) → (0 < n) × (at + n ≤ length text)
    blank_fits n line_feeds h = let w = blank_size before here n h.0 in (w.0, omega (arith, w.1, so_far.within, here_length))

    pub blank_read : (n line_feeds : ℕ) → IsNext before here (Ok (piece.Blank n line_feeds)) → IsRead tokens (at + n) (line + line_feeds)
    blank_read n line_feeds h =
        let b : IsBlank (take at text) (drop at text) n = subst (λ t. IsBlank (take at text) t n) ahead (subst (λ t. IsBlank t here n) behind h.0) in
        record { within = (blank_fits n line_feeds h).1; cut = blank so_far.cut b; line_is = omega (arith, so_far.line_is, h.1, more n) }

    pub token_fits : (kind : TokenKind) (n : ℕ) → IsNext before here (Ok (piece.Token kind n)) → (0 < n) × (at + n ≤ length text)
    token_fits kind n h = let w = token_size here kind n h.0 in (w.0, omega (arith, w.1, so_far.within, here_length))

    pub token_read : (kind : TokenKind) (n : ℕ) → IsNext before here (Ok (piece.Token kind n)) → IsRead (tokens ++ record { kind = kind; start = at; end = at + n; line = line } ∷ []) (at + n) line
    token_read kind n h =
        let size : n ≡ at + n - at = omega arith in
        let longest : IsLongest (drop at text) kind (at + n - at) = subst (λ k. IsLongest (drop at text) kind k) size (subst (λ t. IsLongest t kind n) ahead h.0) in
        let limits : IsWithinLimits kind (at + n - at) = subst (λ k. IsWithinLimits kind k) size h.1 in
        record {
          within = (token_fits kind n h).1;
          cut = token so_far.cut (record { in_order = omega arith; longest = longest; within_limits = limits; line = so_far.line_is });
          line_is = omega (arith, so_far.line_is, more n, spelled_feeds kind (take n here) h.0.stands.spelled);
        }

    pub all_read : length text ≤ longest_text → IsNext before here (Ok piece.End) → Cut text tokens
    all_read short h =
        let e : at ≡ length text = omega (arith, so_far.within, ap length h, here_length) in
        record { not_too_long = short; whole = subst (λ k. IsCutTo text k tokens) e so_far.cut }

    pub fault_read : length text ≤ longest_text → (fault : LexFault) → IsNext before here (Err fault) → FirstFault text fault
    fault_read short fault h = at_place short so_far.cut (subst (λ t. IsFault (take at text) t fault) ahead (subst (λ t. IsFault t here fault) behind h))

-- ---- the answer

pub only_cut_is : (text : Text) (r : Result (List Token) LexFault) → IfOk r (Cut text) → IfErr r (λ fault. fault ≢ Memory → FirstFault text fault) → (tokens : List Token) → Cut text tokens → r ≢ Err Memory → r ≡ Ok tokens
only_cut_is text (Ok others) h i tokens c m = ap Ok (one_cut text others tokens h c)
only_cut_is text (Err fault) h i tokens c m = absurd (cut_or_fault text tokens fault c (i (λ e. m (ap Err e))))

pub only_fault_is : (text : Text) (r : Result (List Token) LexFault) → IfOk r (Cut text) → IfErr r (λ fault. fault ≢ Memory → FirstFault text fault) → (fault : LexFault) → FirstFault text fault → r ≢ Err Memory → r ≡ Err fault
only_fault_is text (Ok tokens) h i fault f m = absurd (cut_or_fault text tokens fault h f)
only_fault_is text (Err other) h i fault f m = ap Err (one_fault text other fault (i (λ e. m (ap Err e))) f)
