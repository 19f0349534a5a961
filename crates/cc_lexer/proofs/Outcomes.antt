-- A text has one outcome: one cut, or one first fault.
use Rattle.std.proofs.Common.{◌≡◌, ℕ, ◌+◌, ◌-◌, List, [], ◌∷◌, ◌++◌, length, take, drop, Result, Ok, Err, refl, ap, sym, subst, ◌∙◌, arith}
use Rattle.std.proofs.lemmas.List.{append_assoc, append-nil, drop_all}
use Rattle.std.specs.Prelude.{count_by}
use Rattle.cc_lexer.specs.declared.token.Token.{Token}
use Rattle.cc_lexer.specs.declared.fault.LexFault.{LexFault}
use Rattle.cc_lexer.specs.Spelling.{Text}
use Rattle.cc_lexer.specs.Cut.{IsBlank, IsTokenOf, is_line_feed, IsCutTo, nothing, blank, token, Cut}
use Rattle.cc_lexer.specs.Faults.{IsFault, FirstFault, too_long, at_place}
use Rattle.cc_lexer.specs.Next.{class_at}
use Rattle.cc_lexer.proofs.Moves.{Move, ends, skips, takes, fails, Settled, settled_once, blank_settled, token_settled, fault_settled}

abbrev pub Outcome : Type 0
Outcome = Result (List Token) LexFault

abbrev put : Token → Outcome → Outcome
put t (Ok tokens) = Ok (t ∷ tokens)
put t (Err fault) = Err fault

-- from this place on the text comes to this
data Leads (text : Text) : ℕ → Outcome → Type 0 where
  stops : {at : ℕ} → at ≡ length text → Leads text at (Ok [])
  breaks : {at : ℕ} {fault : LexFault} → IsFault (take at text) (drop at text) fault → Leads text at (Err fault)
  after_blank : {at n : ℕ} {r : Outcome} → IsBlank (take at text) (drop at text) n → Leads text (at + n) r → Leads text at r
  after_token : {at : ℕ} {t : Token} {r : Outcome} → t.start ≡ at → IsTokenOf text t → Leads text t.end r → Leads text at (put t r)

module _ (text : Text) where
  abbrev SettledAt : ℕ → Move → Type 0
  SettledAt at m = Settled (take at text) (drop at text) (class_at (drop at text)) m

  move_of : {at : ℕ} {r : Outcome} → Leads text at r → Move
  move_of (stops e) = ends
  move_of (breaks {at} {fault} h) = fails fault
  move_of (after_blank {at} {n} {r} h l) = skips n
  move_of (after_token {at} {t} {r} e h l) = takes t.kind (t.end - t.start)

  move_settled : {at : ℕ} {r : Outcome} → (l : Leads text at r) → SettledAt at (move_of l)
  unfolding move_of
  move_settled (stops {at} e) = let none : drop at text ≡ [] = drop_all at text (omega arith) in rw none refl
  move_settled (breaks {at} {fault} h) = fault_settled (take at text) (drop at text) fault h
  move_settled (after_blank {at} {n} {r} h l) = blank_settled (take at text) (drop at text) n h
  move_settled (after_token {at} {t} {r} e h l) = subst (λ k. SettledAt k (takes t.kind (t.end - t.start))) e (token_settled (take t.start text) (drop t.start text) (t.end - t.start) t.kind h.longest h.within_limits)

  token_eq : (t u : Token) → t.kind ≡ u.kind → t.start ≡ u.start → t.end ≡ u.end → t.line ≡ u.line → t ≡ u
  token_eq t u a b c d = λ i. record { kind = a i; start = b i; end = c i; line = d i }

  same_token : (t u : Token) → t.start ≡ u.start → IsTokenOf text t → IsTokenOf text u → takes t.kind (t.end - t.start) ≡ takes u.kind (u.end - u.start) → t ≡ u
  same_token t u s h i e =
      let k : t.kind ≡ u.kind = cc in
      let n : t.end - t.start ≡ u.end - u.start = cc in
      token_eq t u k s (omega (arith, h.in_order, i.in_order)) (h.line ∙ ap (λ a. 1 + count_by is_line_feed (take a text)) s ∙ sym i.line)

  same_move : {at : ℕ} {r s : Outcome} → (l : Leads text at r) → (k : Leads text at s) → move_of l ≡ move_of k
  same_move {at} l k = settled_once (take at text) (drop at text) (class_at (drop at text)) (move_of l) (move_of k) (move_settled l) (move_settled k)

  by_move : {at : ℕ} {r s : Outcome} → (l : Leads text at r) → (k : Leads text at s) → move_of l ≡ move_of k → r ≡ s
  unfolding move_of
  by_move (stops e) (stops f) m = refl
  by_move (breaks h) (breaks i) m = cc
  by_move (after_blank {at} {n} {r} h l) (after_blank {n = o} {r = s} i k) m =
      let e : o ≡ n = cc in
      let q : Leads text (at + n) s = subst (λ x. Leads text (at + x) s) e k in
      by_move l q (same_move l q)
  by_move (after_token {at} {t} {r} e h l) (after_token {t = u} {r = s} f i k) m =
      let same : t ≡ u = same_token t u (e ∙ sym f) h i m in
      let q : Leads text t.end s = subst (λ (x : Token). Leads text x.end s) (sym same) k in
      let w = by_move l q (same_move l q) in
      cc
  by_move _ _ m = cc

  one_outcome : (at : ℕ) (r s : Outcome) → Leads text at r → Leads text at s → r ≡ s
  one_outcome at r s l k = by_move l k (same_move l k)

  -- ---- from the tokens so far

  abbrev prepend : List Token → Outcome → Outcome
  prepend before (Ok tokens) = Ok (before ++ tokens)
  prepend before (Err fault) = Err fault

  prepend_nothing : (r : Outcome) → prepend [] r ≡ r
  prepend_nothing (Ok tokens) = refl
  prepend_nothing (Err fault) = refl

  prepend_put : (before : List Token) (t : Token) (r : Outcome) → prepend before (put t r) ≡ prepend (before ++ t ∷ []) r
  prepend_put before t (Ok tokens) = ap Ok (sym (append_assoc before (t ∷ []) tokens))
  prepend_put before t (Err fault) = refl

  leads : {at : ℕ} {tokens : List Token} → IsCutTo text at tokens → (r : Outcome) → Leads text at r → Leads text 0 (prepend tokens r)
  leads nothing r l = rw (prepend_nothing r) l
  leads (blank {at} {n} {tokens} c h) r l = leads c r (after_blank h l)
  leads (token {tokens} {t} c h) r l = let k = leads c (put t r) (after_token refl h l) in rw (prepend_put tokens t r) at k

  cut_leads : (tokens : List Token) → Cut text tokens → Leads text 0 (Ok tokens)
  cut_leads tokens h = let l = leads h.whole (Ok []) (stops refl) in rw (append-nil tokens) at l

  fault_leads : {at : ℕ} {tokens : List Token} {fault : LexFault} → IsCutTo text at tokens → IsFault (take at text) (drop at text) fault → Leads text 0 (Err fault)
  fault_leads c h = leads c (Err _) (breaks h)

  pub one_cut : (tokens others : List Token) → Cut text tokens → Cut text others → tokens ≡ others
  one_cut tokens others h i = let e = one_outcome 0 (Ok tokens) (Ok others) (cut_leads tokens h) (cut_leads others i) in cc

  pub cut_or_fault : (tokens : List Token) (fault : LexFault) → Cut text tokens → FirstFault text fault → ⊥
  cut_or_fault tokens _ h (too_long l) = omega (arith, h.not_too_long, l)
  cut_or_fault tokens fault h (at_place l c i) = let e = one_outcome 0 (Ok tokens) (Err fault) (cut_leads tokens h) (fault_leads c i) in cc

  pub one_fault : (fault other : LexFault) → FirstFault text fault → FirstFault text other → fault ≡ other
  one_fault _ _ (too_long l) (too_long m) = refl
  one_fault _ _ (too_long l) (at_place m c h) = absurd (omega (arith, l, m))
  one_fault _ _ (at_place l c h) (too_long m) = absurd (omega (arith, l, m))
  one_fault fault other (at_place l c h) (at_place m d i) = let e = one_outcome 0 (Err fault) (Err other) (fault_leads c h) (fault_leads d i) in cc
