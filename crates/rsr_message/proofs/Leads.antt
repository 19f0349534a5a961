-- What is found behind a front of the bytes holds of all of them.
use Rattle.std.proofs.Common.{◌≡◌, ℕ, ◌+◌, List, [], ◌∷◌, ◌++◌, length, refl, sym, ◌∙◌, ap, subst, arith, append_assoc, length-append}
use Rattle.std.proofs.lemmas.List.{append_cancel_left}
use Rattle.marshal.specs.Spellings.{◌▸◌, BeginsWith, IsPartial, IsWrongAt, IsPrefixFree}
use Rattle.marshal.proofs.Laws.{wrong_is_not_whole}

-- The bytes are a front of this length and the rest, and whatever the rest is of Q, with that front it is of P.
pub record Leads (P Q : List ℕ → Type 0) (bytes rest : List ℕ) (n : ℕ) : Type 0 where
  pub front : List ℕ
  pub long : length front ≡ n
  pub cut : bytes ≡ front ++ rest
  pub whole : (back : List ℕ) → Q back → P (front ++ back)
  pub only : (back : List ℕ) → P (front ++ back) → Q back

module _ (P Q : List ℕ → Type 0) (bytes rest : List ℕ) (n : ℕ) (leads : Leads P Q bytes rest n) where
  pub leads_whole : (m : ℕ) → BeginsWith Q rest m → BeginsWith P bytes (n + m)
  leads_whole m b = record {
    spelling = leads.front ++ b.spelling;
    rest = b.rest;
    spelled = leads.whole b.spelling b.spelled;
    long = (let front = leads.long in let back = b.long in length-append leads.front b.spelling ∙ omega arith);
    whole = leads.cut ∙ ap (λ l. leads.front ++ l) b.whole ∙ sym (append_assoc leads.front b.spelling b.rest);
  }

  pub leads_partial : IsPartial Q rest → IsPartial P bytes
  leads_partial p = record {
    missing = p.missing;
    some = p.some;
    spelled = subst P (sym (append_assoc leads.front rest p.missing) ∙ ap (λ l. l ++ p.missing) (sym leads.cut)) (leads.whole (rest ++ p.missing) p.spelled);
  }

  pub leads_wrong : (at : ℕ) → IsWrongAt Q rest at → IsWrongAt P bytes (n + at)
  leads_wrong at w = record {
    before = leads.front ++ w.before;
    byte = w.byte;
    after = w.after;
    whole = leads.cut ∙ ap (λ l. leads.front ++ l) w.whole ∙ sym (append_assoc leads.front w.before (w.byte ∷ w.after));
    place = (let front = leads.long in let place = w.place in length-append leads.front w.before ∙ omega arith);
    partial = record {
      missing = w.partial.missing;
      some = w.partial.some;
      spelled = subst P (sym (append_assoc leads.front w.before w.partial.missing)) (leads.whole (w.before ++ w.partial.missing) w.partial.spelled);
    };
    none = λ more p. w.none more (leads.only (w.before ++ w.byte ∷ more) (subst P (append_assoc leads.front w.before (w.byte ∷ more)) p));
  }

pub leads_nothing : (P : List ℕ → Type 0) (bytes : List ℕ) → Leads P P bytes bytes 0
leads_nothing P bytes = record { front = []; long = refl; cut = refl; whole = λ back q. q; only = λ back p. p }

pub leads_on : (P Q R : List ℕ → Type 0) (bytes between rest : List ℕ) (m n : ℕ) → Leads P Q bytes between m → Leads Q R between rest n → Leads P R bytes rest (m + n)
leads_on P Q R bytes between rest m n p q = record {
  front = p.front ++ q.front;
  long = (let front = p.long in let back = q.long in length-append p.front q.front ∙ omega arith);
  cut = p.cut ∙ ap (λ l. p.front ++ l) q.cut ∙ sym (append_assoc p.front q.front rest);
  whole = λ back r. subst P (sym (append_assoc p.front q.front back)) (p.whole (q.front ++ back) (q.whole back r));
  only = λ back r. q.only back (p.only (q.front ++ back) (subst P (append_assoc p.front q.front back) r));
}

-- a whole spelling of the first set
pub leads_first : (P Q : List ℕ → Type 0) → IsPrefixFree P → (bytes spelling rest : List ℕ) (n : ℕ) → P spelling → length spelling ≡ n → bytes ≡ spelling ++ rest → Leads (P ▸ Q) Q bytes rest n
leads_first P Q free bytes spelling rest n p long cut = record {
  front = spelling;
  long = long;
  cut = cut;
  whole = λ back q. record { front = spelling; back = back; first = p; second = q; whole = refl };
  only = λ back f.
      let same : spelling ≡ f.front = free spelling f.front back f.back p f.first f.whole in
      let backs : back ≡ f.back = append_cancel_left spelling back f.back (f.whole ∙ ap (λ l. l ++ f.back) (sym same)) in
      subst Q (sym backs) f.second;
}

-- bytes that are less than a spelling of the first set, where the second is not empty
pub partial_first : (P Q : List ℕ → Type 0) (bytes some : List ℕ) → Q some → IsPartial P bytes → IsPartial (P ▸ Q) bytes
partial_first P Q bytes some q p = record {
  missing = p.missing ++ some;
  some = (let missing = p.some in let long = length-append p.missing some in omega arith);
  spelled = record { front = bytes ++ p.missing; back = some; first = p.spelled; second = q; whole = sym (append_assoc bytes p.missing some) };
}

pub wrong_first : (P Q : List ℕ → Type 0) → IsPrefixFree P → (bytes some : List ℕ) (at : ℕ) → Q some → IsWrongAt P bytes at → IsWrongAt (P ▸ Q) bytes at
wrong_first P Q free bytes some at q w = record {
  before = w.before;
  byte = w.byte;
  after = w.after;
  whole = w.whole;
  place = w.place;
  partial = partial_first P Q w.before some q w.partial;
  none = λ more f. wrong_is_not_whole P free (w.before ++ w.byte ∷ more) at (length f.front)
      (record { before = w.before; byte = w.byte; after = more; whole = refl; place = w.place; partial = w.partial; none = w.none })
      (record { spelling = f.front; rest = f.back; spelled = f.first; long = refl; whole = f.whole });
}
