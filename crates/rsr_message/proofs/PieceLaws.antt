-- A stream is cut in one way, and its pieces may be joined.
use Rattle.std.proofs.Common.{◌≡◌, ℕ, ◌+◌, List, [], ◌∷◌, ◌++◌, length, refl, sym, ◌∙◌, ap, subst, arith, append_assoc, length-append}
use Rattle.std.proofs.lemmas.List.{append_cancel_left}
use Rattle.marshal.specs.Spellings.{BeginsWith, IsPartial, IsWrongAt}
use Rattle.marshal.proofs.Laws.{whole_is_not_partial, wrong_is_not_whole}
use Rattle.rsr_message.specs.declared.requests.Request.{Request}
use Rattle.rsr_message.specs.Requests.{IsMessage}
use Rattle.rsr_message.specs.Streams.{SpellsAll, Flow, CutsInto, Passes}
use Rattle.rsr_message.proofs.MessageLaws.{IsMessage-free}
use Rattle.rsr_message.proofs.RequestLaws.{one_request}

abbrev pub BeginsWithNone : List ℕ → Type 0
BeginsWithNone bytes = (n : ℕ) → BeginsWith IsMessage bytes n → ⊥

pub partial_none : (bytes : List ℕ) → IsPartial IsMessage bytes → BeginsWithNone bytes
partial_none bytes p n b = whole_is_not_partial IsMessage IsMessage-free bytes n b p

pub wrong_none : (bytes : List ℕ) (at : ℕ) → IsWrongAt IsMessage bytes at → BeginsWithNone bytes
wrong_none bytes at w n b = wrong_is_not_whole IsMessage IsMessage-free bytes at n w b

begun : (r : Request) (rs : List Request) (bytes rest : List ℕ) (all : SpellsAll (r ∷ rs) bytes) → BeginsWith IsMessage (bytes ++ rest) (length all.front)
begun r rs bytes rest all =
    record { spelling = all.front; rest = all.back ++ rest; spelled = (r, all.first); long = refl; whole = ap (λ l. l ++ rest) all.whole ∙ append_assoc all.front all.back rest }

one_list : (rs qs : List Request) (s t x y : List ℕ) → SpellsAll rs s → SpellsAll qs t → BeginsWithNone x → BeginsWithNone y → s ++ x ≡ t ++ y → (rs ≡ qs) × (x ≡ y)
one_list [] [] s t x y a b p q e = (refl, ap (λ l. l ++ x) (sym a) ∙ e ∙ ap (λ l. l ++ y) b)
one_list [] (u ∷ us) s t x y a b p q e =
    let is : x ≡ t ++ y = ap (λ l. l ++ x) (sym a) ∙ e in
    absurd (p (length b.front) (subst (λ l. BeginsWith IsMessage l (length b.front)) (sym is) (begun u us t y b)))
one_list (r ∷ rs) [] s t x y a b p q e =
    let is : y ≡ s ++ x = ap (λ l. l ++ y) (sym b) ∙ sym e in
    absurd (q (length a.front) (subst (λ l. BeginsWith IsMessage l (length a.front)) (sym is) (begun r rs s x a)))
one_list (r ∷ rs) (u ∷ us) s t x y a b p q e =
    let regrouped : a.front ++ (a.back ++ x) ≡ b.front ++ (b.back ++ y) = sym (append_assoc a.front a.back x) ∙ ap (λ l. l ++ x) (sym a.whole) ∙ e ∙ ap (λ l. l ++ y) b.whole ∙ append_assoc b.front b.back y in
    let first = one_request r u a.front b.front (a.back ++ x) (b.back ++ y) a.first b.first regrouped in
    let behind : a.back ++ x ≡ b.back ++ y = append_cancel_left a.front (a.back ++ x) (b.back ++ y) (regrouped ∙ ap (λ l. l ++ (b.back ++ y)) (sym first.1)) in
    let others = one_list rs us a.back b.back x y a.second b.second p q behind in
    (cc (first.0, others.0), others.1)

-- bytes are cut in one way into messages and what begins with none
pub one_cut : (bytes : List ℕ) (rs qs : List Request) (x y : List ℕ) → CutsInto bytes rs x → CutsInto bytes qs y → BeginsWithNone x → BeginsWithNone y → (rs ≡ qs) × (x ≡ y)
one_cut bytes rs qs x y a b p q = one_list rs qs a.spelling b.spelling x y a.spelled b.spelled p q (sym a.whole ∙ b.whole)

SpellsAll-append : (rs qs : List Request) (s t : List ℕ) → SpellsAll rs s → SpellsAll qs t → SpellsAll (rs ++ qs) (s ++ t)
SpellsAll-append [] qs s t a b = let same : t ≡ s ++ t = ap (λ l. l ++ t) (sym a) in subst (SpellsAll qs) same b
SpellsAll-append (r ∷ rs) qs s t a b = record {
  front = a.front;
  back = a.back ++ t;
  first = a.first;
  second = SpellsAll-append rs qs a.back t a.second b;
  whole = ap (λ l. l ++ t) a.whole ∙ append_assoc a.front a.back t;
}

-- two pieces do what they do as one
pub pieces_joined : (first second third : Flow) (piece more : List ℕ) (before between after : List Request) → Passes first piece second before between → Passes second more third between after → Passes first (piece ++ more) third before after
pieces_joined first second third piece more before between after p q = record {
  was_open = p.was_open;
  stays_open = q.stays_open;
  requests = p.requests ++ q.requests;
  cut = record {
    spelling = p.cut.spelling ++ q.cut.spelling;
    spelled = SpellsAll-append p.requests q.requests p.cut.spelling q.cut.spelling p.cut.spelled q.cut.spelled;
    whole = sym (append_assoc first.rest piece more) ∙ ap (λ l. l ++ more) p.cut.whole ∙ append_assoc p.cut.spelling second.rest more ∙ ap (λ l. p.cut.spelling ++ l) q.cut.whole ∙ sym (append_assoc p.cut.spelling q.cut.spelling third.rest);
  };
  passed = q.passed ∙ ap (λ n. n + length q.cut.spelling) p.passed ∙ (let parts = length-append p.cut.spelling q.cut.spelling in omega arith);
  given = q.given ∙ ap (λ l. l ++ q.requests) p.given ∙ append_assoc before p.requests q.requests;
  partial = q.partial;
}
