-- The tokens of a text that is cut.
use Rattle.std.proofs.Common.{◌≡◌, ℕ, ◌+◌, ◌-◌, ◌<◌, ◌≤◌, List, [], ◌∷◌, ◌++◌, length, take, drop, ℤ, pos, ◌≤ℤ◌, refl, ap, sym, subst, ◌∙◌, arith, length-drop, length-append, length-take-le}
use Rattle.std.proofs.lemmas.Int.{ints}
use Rattle.std.proofs.lemmas.List.{take_at}
use Rattle.std.proofs.lemmas.List.Elements.{All-nil, All-push, All-weaker}
use Rattle.std.proofs.lemmas.List.Quantifiers.{all_pairs_push}
use Rattle.std.specs.Prelude.{codes, All, AllPairs}
use Rattle.cc_lexer.specs.declared.token.Token.{Token}
use Rattle.cc_lexer.specs.declared.token.TokenKind.TheVariants.{Name, Int}
use Rattle.cc_lexer.specs.Spelling.{Text, Spells, decimal_value}
use Rattle.cc_lexer.specs.Cut.{IsTokenOf, IsWithinLimits, IsCutTo, longest_name, largest_number, nothing, blank, token, Cut}
use Rattle.cc_lexer.specs.Lexemes.{token_text, IsSpelled, replaced_escapes, unescaped}
use Rattle.cc_lexer.proofs.Steps.{blank_size, token_size}

module _ (text : Text) where
  pub text_length : (t : Token) → t.end ≤ length text → length (token_text text t) ≡ t.end - t.start
  text_length t h = length-take-le (t.end - t.start) (drop t.start text) (omega (arith, h, length-drop t.start text))

  token_spelled : (t : Token) → IsTokenOf text t → t.start ≤ length text → IsSpelled text t
  token_spelled t h s =
      let w = token_size (drop t.start text) t.kind (t.end - t.start) h.longest in
      let e : t.end ≤ length text = omega (arith, w.1, s, h.in_order, length-drop t.start text) in
      record { some = omega (arith, w.0); within = e; spelled = h.longest.stands.spelled; limits = subst (IsWithinLimits t.kind) (sym (text_length t e)) h.within_limits }

  -- what holds of the tokens up to a place
  record AreSpans (at : ℕ) (tokens : List Token) : Type 0 where
    within : at ≤ length text
    count : length tokens ≤ at
    spelled : All (IsSpelled text) tokens
    before : All (λ t. t.end ≤ at) tokens
    in_order : AllPairs (λ a b. a.end ≤ b.start) tokens

  spans : {at : ℕ} {tokens : List Token} → IsCutTo text at tokens → AreSpans at tokens
  spans nothing = record { within = omega arith; count = omega arith; spelled = All-nil (IsSpelled text); before = All-nil (λ t. t.end ≤ 0); in_order = λ i j d h k. absurd (omega (arith, k)) }
  spans (blank {at} {n} {tokens} c h) =
      let s = spans c in
      let w = blank_size (take at text) (drop at text) n h in
      record {
        within = omega (arith, s.within, w.1, length-drop at text);
        count = omega (arith, s.count);
        spelled = s.spelled;
        before = All-weaker (λ t. t.end ≤ at) (λ t. t.end ≤ at + n) (λ t k. omega (arith, k)) tokens s.before;
        in_order = s.in_order;
      }
  spans (token {tokens} {t} c h) =
      let s = spans c in
      let p = token_spelled t h s.within in
      record {
        within = p.within;
        count = omega (arith, s.count, p.some, length-append tokens (t ∷ []));
        spelled = All-push (IsSpelled text) tokens t s.spelled p;
        before = All-push (λ u. u.end ≤ t.end) tokens t (All-weaker (λ u. u.end ≤ t.start) (λ u. u.end ≤ t.end) (λ u k. omega (arith, k, h.in_order)) tokens s.before) (omega arith);
        in_order = all_pairs_push (λ a b. a.end ≤ b.start) tokens t s.in_order (λ k d l. s.before k d l);
      }

  pub cut_spelled : (tokens : List Token) → Cut text tokens → All (IsSpelled text) tokens
  cut_spelled tokens h = (spans h.whole).spelled

  pub cut_in_order : (tokens : List Token) → Cut text tokens → AllPairs (λ a b. a.end ≤ b.start) tokens
  cut_in_order tokens h = (spans h.whole).in_order

  pub cut_count : (tokens : List Token) → Cut text tokens → length tokens ≤ length text
  cut_count tokens h = (spans h.whole).count

  pub name_length : (t : Token) → IsSpelled text t → t.kind ≡ Name → (0 < length (token_text text t)) × (length (token_text text t) ≤ longest_name)
  name_length t h e = let l = h.limits in (omega (arith, h.some, text_length t h.within), rw e at l)

  pub number_value : (t : Token) (value : ℤ) → IsSpelled text t → t.kind ≡ Int value → (value ≡ pos (decimal_value (token_text text t))) × (decimal_value (token_text text t) ≤ largest_number)
  number_value t value h e =
      let s : Spells (Int value) (token_text text t) = subst (λ k. Spells k (token_text text t)) e h.spelled in
      let l : value ≤ℤ pos largest_number = subst (λ k. IsWithinLimits k (length (token_text text t))) e h.limits in
      (s.1, omega (arith, ints, s.1, l))

pub unescaped_inside : (inside : Text) → unescaped (codes "\"" ++ inside ++ codes "\"") ≡ replaced_escapes inside
unescaped_inside inside =
    let n : length (codes "\"" ++ inside ++ codes "\"") - 1 ≡ length (codes "\"" ++ inside) = omega (arith, length-append (codes "\"" ++ inside) (codes "\"")) in
    ap (λ k. replaced_escapes (drop 1 (take k (codes "\"" ++ inside ++ codes "\"")))) n ∙ ap (λ t. replaced_escapes (drop 1 t)) (take_at (codes "\"" ++ inside) (codes "\"") (length (codes "\"" ++ inside)) refl)
