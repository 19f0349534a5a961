-- Entries are read one after another.
use Rattle.std.proofs.Common.{◌≡◌, ℕ, zero, suc, ◌+◌, ◌<◌, List, [], ◌∷◌, ◌++◌, length, get_or, take, Option, refl, sym, ap, ◌∙◌, subst, arith, append_assoc, length-append}
use Rattle.std.specs.Prelude.{ℤ}
use Rattle.std.proofs.lemmas.List.{take_more}
use Rattle.std.specs.List.{AllByRecursion}
use Rattle.cc_core.specs.Core.{Program}
use Rattle.global_ptr.specs.declared.ends.Standing.{Standing}
use Rattle.cc_ops.specs.declared.number.ThreadNo.{ThreadNo}
use Rattle.cc_explains.specs.declared.why.Why.{Why}
use Rattle.cc_explains.specs.declared.why.Why.TheVariants.{OtherEnd}
use Rattle.cc_explains.specs.Places.{Place, Step, beginning}
use Rattle.cc_explains.specs.Explains.{IsOwnStep, Explains, IsEnd, IsRead, AreRead}
use Rattle.cc_explains.specs.Unexplained.{Fails, FirstUnexplained}
use Rattle.cc_explains.proofs.Reading.{joined, read_explained}
use Rattle.effect_journal.specs.declared.entry.Entry.{Entry}
use Rattle.effect_journal.specs.declared.entry.Entry.TheVariants.{Run, End}
use Rattle.effect_journal.specs.declared.entry.FaultBy.{FaultBy}

own_joined : (p : Program) (t : ThreadNo) (ms ns : List Step) → AllByRecursion (IsOwnStep p t) ms → AllByRecursion (IsOwnStep p t) ns
    → AllByRecursion (IsOwnStep p t) (ms ++ ns)
own_joined p t [] ns u v = v
own_joined p t (m ∷ ms) ns u v = (u.0, own_joined p t ms ns u.1 v)

-- a thread's steps and one more
pub one_more : (p : Program) (q k n : ℕ) (a b c : Place) → IsRead p (Run q k n) a b → IsRead p (Run q k 1) b c → IsRead p (Run q k (n + 1)) a c
one_more p q k n a b c (ms, h, (long, own)) (ns, l, (one, last)) =
    let count = length-append ms ns in
    (ms ++ ns, joined p ms ns a b c h l, (omega (arith, count, long, one), own_joined p (record { processor = q; thread = k }) ms ns own last))

-- entries and one more
pub read_on : (p : Program) (es : List Entry) (e : Entry) (a b c : Place) → AreRead p es a b → IsRead p e b c → AreRead p (es ++ e ∷ []) a c
read_on p [] e a b c h r = (c, subst (λ (z : Place). IsRead p e z c) (sym h) r, refl)
read_on p (d ∷ es) e a b c h r = (h.0, h.1, read_on p es e h.0 b c h.2 r)

-- ---- the entries before the end, and the end

-- the last of entries, and those before it
last_split : (es : List Entry) (n : ℕ) (e : Entry) → length es ≡ suc n → e ≡ get_or es n e → es ≡ take n es ++ e ∷ []
last_split [] n e long is = absurd (omega (arith, long))
last_split (x ∷ []) zero e long is = ap (λ (z : Entry). z ∷ []) (sym is)
last_split (x ∷ y ∷ ys) zero e long is = absurd (omega (arith, long))
last_split (x ∷ xs) (suc n) e long is = ap (λ (l : List Entry). x ∷ l) (last_split xs n e (omega (arith, long)) is)

-- entry k, those before it and those behind it
record CutAt (es : List Entry) (k : ℕ) (e : Entry) : Type 0 where
  rest : List Entry
  whole : es ≡ take k es ++ e ∷ rest
  count : k ≡ length (take k es)

cut_at : (es : List Entry) (k : ℕ) (e : Entry) → k < length es → e ≡ get_or es k e → CutAt es k e
cut_at [] k e less is = absurd (omega (arith, less))
cut_at (x ∷ xs) zero e less is = record { rest = xs; whole = ap (λ (z : Entry). z ∷ xs) (sym is); count = refl }
cut_at (x ∷ xs) (suc k) e less is =
    let r = cut_at xs k e (omega (arith, less)) is in
    record { rest = r.rest; whole = ap (λ (l : List Entry). x ∷ l) r.whole; count = ap suc r.count }

-- one entry more is read
pub reads_on : (p : Program) (es : List Entry) (k : ℕ) (e : Entry) (a b c : Place) → k < length es → e ≡ get_or es k e → AreRead p (take k es) a b
    → IsRead p e b c → AreRead p (take (k + 1) es) a c
reads_on p es k e a b c less is read more =
    let next : take (k + 1) es ≡ take k es ++ e ∷ [] = take_more es k e less ∙ ap (λ (z : Entry). take k es ++ z ∷ []) (sym is) in
    subst (λ (l : List Entry). AreRead p l a c) (sym next) (read_on p (take k es) e a b c read more)

whole_taken : (es : List Entry) (k : ℕ) → k ≡ length es → take k es ≡ es
whole_taken [] zero is = refl
whole_taken [] (suc k) is = absurd (omega (arith, is))
whole_taken (x ∷ xs) zero is = absurd (omega (arith, is))
whole_taken (x ∷ xs) (suc k) is = ap (λ (l : List Entry). x ∷ l) (whole_taken xs k (omega (arith, is)))

module _ (p : Program) (is : List ℤ) (es : List Entry) (n : ℕ) (last : Entry) (long : length es ≡ suc n) (at_end : last ≡ get_or es n last) where
  -- entry k fails, which is not the last
  pub fails_first : (k : ℕ) (e : Entry) (why : Why) (a : Place) → k < length (take n es) → e ≡ get_or (take n es) k e
      → AreRead p (take k (take n es)) (beginning p is) a → Fails p e a why → FirstUnexplained p is es k why
  fails_first k e why a less here read fails =
      let cut = cut_at (take n es) k e less here in
      let whole : es ≡ take k (take n es) ++ e ∷ (cut.rest ++ last ∷ []) =
      last_split es n last long at_end
      ∙ (ap (λ (l : List Entry). l ++ last ∷ []) cut.whole ∙ append_assoc (take k (take n es)) (e ∷ cut.rest) (last ∷ [])) in
      record {
        before = take k (take n es);
        entry = e;
        rest = cut.rest ++ last ∷ [];
        whole = whole;
        number = cut.count;
        place = a;
        read = read;
        fails = fails;
      }

  module _ (s : Standing) (by : Option FaultBy) (is_end : last ≡ End s by) (k : ℕ) (all : k ≡ length (take n es)) (a : Place)
      (read : AreRead p (take k (take n es)) (beginning p is) a) where
    whole : es ≡ take n es ++ End s by ∷ []
    whole = last_split es n last long at_end ∙ ap (λ (z : Entry). take n es ++ z ∷ []) is_end

    read_all : AreRead p (take n es) (beginning p is) a
    read_all = subst (λ (l : List Entry). AreRead p l (beginning p is) a) (whole_taken (take n es) k all) read

    pub ends_so : IsEnd p a s by → Explains p is es s
    ends_so end = read_explained p is es s (record { before = take n es; by = by; whole = whole; end = a; read = read_all; ends = end })

    pub ends_otherwise : ¬ IsEnd p a s by → FirstUnexplained p is es (length (take n es)) OtherEnd
    ends_otherwise other = record {
      before = take n es;
      entry = End s by;
      rest = [];
      whole = whole;
      number = refl;
      place = a;
      read = read_all;
      fails = (refl, other);
    }
