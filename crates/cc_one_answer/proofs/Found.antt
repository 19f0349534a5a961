-- What asks find, and what they make.
use Rattle.std.proofs.Common.{◌≡◌, ◌⊎◌, ℕ, ◌<◌, Bool, true, false, cond, List, [], ◌∷◌, ◌++◌, Option, Some, None, refl, sym, ap, subst, ◌∙◌}
use Rattle.std.proofs.Common.{inl, inr, arith}
use Rattle.std.specs.Prelude.{ℤ}
use Rattle.cc_ops.specs.Values.{Void, Int, Null, Ptr, Plain, Empty as EmptyCell, Full, Result, Gives, Fails, first, second, moved, int_of}
use Rattle.cc_core.specs.Names.{Name, Value, Cell}
use Rattle.cc_core.specs.Core.{Shapes}
use Rattle.cc_core.specs.Asks.{Indexes, Shifts, Computes}
use Rattle.cc_one_answer.proofs.Fine.{IsNumber, IsShifted}
use Rattle.cc_core.specs.Config.{Config, Thread, cell}
use Rattle.cc_core.specs.Needs.{Known as KnownNeed, Filled}
use Rattle.cc_core.specs.Needs.{Go, needs, check, check_all}
use Rattle.cc_one_answer.proofs.Distinct.{bad_not_go, hold_not_go, fails_not_gives}
use Rattle.std.specs.Prelude.{int_lt, nat_abs, not, ◌&&◌, pos, int_div, int_rem, neg_ℤ, ◌+ℤ◌, ◌-ℤ◌, ◌*ℤ◌}
use Rattle.std.proofs.lemmas.Int.{ints}
use Rattle.global_ptr.specs.declared.ends.FaultKind.TheVariants.{Overflow, DivideByZero, IndexOut, NullPointer}
use Rattle.cc_ops.specs.Values.{same_int, on_gives}
use Rattle.cc_ops.specs.Operators.{compute, operate, number, truth, fits}
use Rattle.cc_ops.specs.Addresses.{element, indexed, shifted}
use Rattle.cc_ops.specs.declared.operator.Op.{Op}
use Rattle.cc_ops.specs.declared.operator.Op.TheVariants.{Neg, Not, Bool as Bool', Add, Sub, Mul, Div, Rem, Eq, Ne, Lt, Le, Gt, Ge}
use Rattle.cc_core.specs.Names.{same_name}
use Rattle.cc_core.specs.Needs.{read, of_result, one}
use Rattle.cc_one_answer.proofs.Adds.{both_go}

pub same_gives : {X : Type 0} (a b : X) → Gives a ≡ Gives b → a ≡ b
same_gives a b e = cc

pub same_go : (a b : List Value) → Go a ≡ Go b → a ≡ b
same_go a b e = cc

number_gives : (n : ℤ) (v : Value) → number n ≡ Gives v → IsNumber v
number_gives n v e = from (fits n) e
  where
    from : (b : Bool) → cond b (Gives (Int n)) (Fails Overflow) ≡ Gives v → IsNumber v
    from true g = subst IsNumber (same_gives (Int n) v g) tt
    from false g = absurd (fails_not_gives Overflow v g)

pub truth_gives : (b : Bool) (v : Value) → Gives (truth b) ≡ Gives v → IsNumber v
truth_gives true v e = subst IsNumber (same_gives (truth true) v e) tt
truth_gives false v e = subst IsNumber (same_gives (truth false) v e) tt

divided_gives : (b : Bool) (n : ℤ) (v : Value) → cond b (Fails DivideByZero) (number n) ≡ Gives v → IsNumber v
divided_gives true n v e = absurd (fails_not_gives DivideByZero v e)
divided_gives false n v e = number_gives n v e

pub operated : (op : Op) (a b v : Value) → operate same_name op a b ≡ Gives v → IsNumber v
operated Neg a b v e = number_gives (neg_ℤ (int_of a)) v e
operated Not a b v e = truth_gives _ v e
operated Bool' a b v e = truth_gives _ v e
operated Add a b v e = number_gives (int_of a +ℤ int_of b) v e
operated Sub a b v e = number_gives (int_of a -ℤ int_of b) v e
operated Mul a b v e = number_gives (int_of a *ℤ int_of b) v e
operated Div a b v e = divided_gives (same_int (int_of b) (pos 0)) (int_div (int_of a) (int_of b)) v e
operated Rem a b v e = divided_gives (same_int (int_of b) (pos 0)) (int_rem (int_of a) (int_of b)) v e
operated Eq a b v e = truth_gives _ v e
operated Ne a b v e = truth_gives _ v e
operated Lt a b v e = truth_gives _ v e
operated Le a b v e = truth_gives _ v e
operated Gt a b v e = truth_gives _ v e
operated Ge a b v e = truth_gives _ v e

shifted_gives : (a : Value) (i : ℤ) (v : Value) → shifted a i ≡ Gives v → IsShifted a v
shifted_gives Void i v e = absurd (fails_not_gives NullPointer v e)
shifted_gives (Int n) i v e = absurd (fails_not_gives NullPointer v e)
shifted_gives Null i v e = absurd (fails_not_gives NullPointer v e)
shifted_gives (Ptr o x) i v e = from _ _ e
  where
    from : (b : Bool) (z : ℕ) → cond b (Fails IndexOut) (Gives (Ptr o z)) ≡ Gives v → (z : ℕ) × (v ≡ Ptr o z)
    from true z g = absurd (fails_not_gives IndexOut v g)
    from false z g = (z, sym (same_gives (Ptr o z) v g))

size_below : (z : ℤ) (n : ℕ) (a b : Bool) → int_lt z (pos n) ≡ a → int_lt z (pos 0) ≡ b → a && not b ≡ true → nat_abs z < n
size_below z n true true e f g = let h : false ≡ true = g in cc
size_below z n false b e f g = let h : false ≡ true = g in cc
size_below z n true false e f g = from z e f
  where
    from : (z : ℤ) → int_lt z (pos n) ≡ true → int_lt z (pos 0) ≡ false → nat_abs z < n
    from z h k = omega (arith, ints, h, k)

pub element_gives : (n : ℕ) (i : Value) (j : ℕ) → element n i ≡ Gives j → j < n
element_gives n i j e = from (int_lt (int_of i) (pos n) && not (int_lt (int_of i) (pos 0))) refl e
  where
    from : (b : Bool) → int_lt (int_of i) (pos n) && not (int_lt (int_of i) (pos 0)) ≡ b
        → cond b (Gives (nat_abs (int_of i))) (Fails IndexOut) ≡ Gives j → j < n
    from true f g =
        let small = size_below (int_of i) n (int_lt (int_of i) (pos n)) (int_lt (int_of i) (pos 0)) refl refl f in
        let same = same_gives (nat_abs (int_of i)) j g in
        omega (arith, small, same)
    from false f g = absurd (fails_not_gives IndexOut j g)

indexed_gives : (a : Value) (n : ℕ) (i v : Value) → indexed a n i ≡ Gives v → (j : ℕ) × (j < n) × (v ≡ moved a j)
indexed_gives a n i v e = from (element n i) refl e
  where
    from : (r : Result ℕ) → element n i ≡ r → on_gives r (λ k. Gives (moved a k)) ≡ Gives v → (j : ℕ) × (j < n) × (v ≡ moved a j)
    from (Gives k) f g = (k, element_gives n i k f, sym (same_gives (moved a k) v g))
    from (Fails kind) f g = absurd (fails_not_gives kind v g)

-- what one result finds
result_found : (r : Result Value) (found a b : List Value) → of_result (one r) (λ vs. vs) ≡ Go a → Go [] ≡ Go b → found ≡ a ++ b
    → (v : Value) × (r ≡ Gives v) × (first found ≡ v)
result_found (Gives v) found a b e f g =
    (v, refl, ap first (g ∙ (ap (λ z. z ++ b) (sym (same_go (v ∷ []) a e)) ∙ ap (λ z. (v ∷ []) ++ z) (sym (same_go [] b f)))))
result_found (Fails kind) found a b e f g = absurd (bad_not_go kind a e)

-- one value and nothing more
pub only_one : (x : List Value) (v : Value) (found a b : List Value) → a ≡ v ∷ [] → b ≡ [] → found ≡ a ++ b → first found ≡ v
only_one x v found a b e f g = ap first (g ∙ (ap (λ z. z ++ b) e ∙ ap (λ z. (v ∷ []) ++ z) f))

module _ (h : Shapes) (s : Config) (t : Name) (l : Thread) where
  known_found : (r : Result Value) (found : List Value) → check_all h s t l (KnownNeed (one r) ∷ []) ≡ Go found
      → (v : Value) × (r ≡ Gives v) × (first found ≡ v)
  known_found r found e = let b = both_go h s t l (check h s t l (KnownNeed (one r))) (Go []) found e in result_found r found b.0 b.1 b.2 b.3 b.4

  pub index_found : (a : Value) (n : ℕ) (i : Value) (found : List Value) → check_all h s t l (needs h (Indexes a n i)) ≡ Go found
      → (j : ℕ) × (j < n) × (first found ≡ moved a j)
  index_found a n i found e =
      let k = known_found (indexed a n i) found e in let j = indexed_gives a n i k.0 k.1 in (j.0, j.1, k.2 ∙ j.2)

  pub shift_found : (a i : Value) (found : List Value) → check_all h s t l (needs h (Shifts a i)) ≡ Go found → IsShifted a (first found)
  shift_found a i found e =
      let k = known_found (shifted a (int_of i)) found e in subst (IsShifted a) (sym k.2) (shifted_gives a (int_of i) k.0 k.1)

  pub compute_found : (op : Op) (vs : List Value) (found : List Value) → check_all h s t l (needs h (Computes op vs)) ≡ Go found
      → IsNumber (first found)
  compute_found op vs found e =
      let k = known_found (compute same_name op vs) found e in subst IsNumber (sym k.2) (operated op (first vs) (second vs) k.0 k.1)

  -- a cell that is read
  abbrev HasRead : Value → Value → Type 0
  HasRead a v = (o : Name) × (x : ℕ) × (a ≡ Ptr o x) × ((cell s o x ≡ Some (Plain v)) ⊎ (cell s o x ≡ Some (Full v)))

  read_is : (c : Option Cell) (a : List Value) → read c ≡ Go a → (v : Value) × (a ≡ v ∷ []) × ((c ≡ Some (Plain v)) ⊎ (c ≡ Some (Full v)))
  read_is None a e = absurd (bad_not_go IndexOut a e)
  read_is (Some (Plain v)) a e = (v, sym (same_go (v ∷ []) a e), inl refl)
  read_is (Some EmptyCell) a e = absurd (hold_not_go a e)
  read_is (Some (Full v)) a e = (v, sym (same_go (v ∷ []) a e), inr refl)

  pub filled_found : (p : Value) (a : List Value) → check h s t l (Filled p) ≡ Go a → (v : Value) × (a ≡ v ∷ []) × HasRead p v
  filled_found Void a e = absurd (bad_not_go NullPointer a e)
  filled_found (Int n) a e = absurd (bad_not_go NullPointer a e)
  filled_found Null a e = absurd (bad_not_go NullPointer a e)
  filled_found (Ptr o x) a e = let r = read_is (cell s o x) a e in (r.0, r.1, (o, x, refl, r.2))
