-- What asks find has the types that their answers have.
use Rattle.std.proofs.Common.{◌≡◌, ℕ, suc, ◌+◌, ◌<◌, ◌≤◌, Bool, true, false, cond, List, [], ◌∷◌, ◌++◌, length, Option, Some, None, refl, sym, ap, subst, ◌∙◌}
use Rattle.std.proofs.Common.{arith, append-nil}
use Rattle.std.specs.Prelude.{ℤ, slice_get, map, nat_lt, min, int_lt, nat_abs, not, ◌&&◌, nat_le, pos, int_div, int_rem, neg_ℤ, ◌+ℤ◌, ◌-ℤ◌, ◌*ℤ◌}
use Rattle.std.specs.FinMap as fin
use Rattle.std.proofs.lemmas.Int.{ints}
use Rattle.std.proofs.lemmas.Bool.{ltb-false}
use Rattle.global_ptr.specs.declared.ends.FaultKind.{FaultKind}
use Rattle.global_ptr.specs.declared.ends.FaultKind.TheVariants.{Overflow, DivideByZero, IndexOut, NullPointer, SyncTwice}
use Rattle.cc_ops.specs.Values.{Void, Int, Null, Ptr, Plain, Empty as EmptyCell, Full, Result, Gives, Fails, moved, int_of, same_int, on_gives, last_offset}
use Rattle.cc_ops.specs.Operators.{operate, number, truth, fits}
use Rattle.cc_ops.specs.Addresses.{element, indexed, shifted}
use Rattle.cc_ops.specs.declared.operator.Op.{Op}
use Rattle.cc_ops.specs.declared.operator.Op.TheVariants.{Neg, Not, Bool as Bool', Add, Sub, Mul, Div, Rem, Eq, Ne, Lt, Le, Gt, Ge}
use Rattle.cc_core.specs.Names.{Name, same_name, Value, Cell}
use Rattle.cc_core.specs.Core.{Shapes}
use Rattle.cc_core.specs.Config.{Config, Thread, cell, cells_of}
use Rattle.cc_core.specs.Needs.{Need, Known as KnownNeed, Filled, Unfilled, AllCells, Object as ObjectNeed, Free, Done, Deeper, Threads, ThreadAt}
use Rattle.cc_core.specs.Needs.{Slots, FirstSlots, Processor, Constructs, Verdict, Go, Hold, Bad, room, read, writable, object_there, check, and_also, check_all, of_result, one, all_in, value_in}
use Rattle.core_types.specs.Types.{ValueType, Pointer, Target, Cells, ObjectOf, MemberOf, PartOf, Holds, Types, member, Passes, IsCell, IsCopied, IsElement}
use Rattle.core_types.specs.Values.{Content, ObjectEntry, World, IsNear, IsIn, cell_type, Leads, Fits, AllFit, CellFits}
use Rattle.core_types.specs.Runs.{InStep}
use Rattle.core_types.proofs.Basics.{no_pointer, no_int, leads_of, pointer_fits, null_fits, crosses}

pub bad_not_go : (kind : FaultKind) (found : List Value) → Bad kind ≡ Go found → ⊥
bad_not_go kind found e = cc

pub hold_not_go : (found : List Value) → Hold ≡ Go found → ⊥
hold_not_go found e = cc

pub fails_not_gives : {X : Type 0} (kind : FaultKind) (x : X) → Fails kind ≡ Gives x → ⊥
fails_not_gives kind x e = cc

pub same_gives : {X : Type 0} (a b : X) → Gives a ≡ Gives b → a ≡ b
same_gives a b e = cc

pub same_go : (a b : List Value) → Go a ≡ Go b → a ≡ b
same_go a b e = cc

-- operators give ints

abbrev pub IsNumber : Value → Type 0
IsNumber v = (n : ℤ) × (v ≡ Int n)

number_gives : (n : ℤ) (v : Value) → number n ≡ Gives v → IsNumber v
number_gives n v e = from (fits n) e
  where
    from : (b : Bool) → cond b (Gives (Int n)) (Fails Overflow) ≡ Gives v → IsNumber v
    from true g = (n, sym (same_gives (Int n) v g))
    from false g = absurd (fails_not_gives Overflow v g)

pub truth_gives : (b : Bool) (v : Value) → Gives (truth b) ≡ Gives v → IsNumber v
truth_gives true v e = (pos 1, sym (same_gives (truth true) v e))
truth_gives false v e = (pos 0, sym (same_gives (truth false) v e))

divided_gives : (b : Bool) (n : ℤ) (v : Value) → cond b (Fails DivideByZero) (number n) ≡ Gives v → IsNumber v
divided_gives true n v e = absurd (fails_not_gives DivideByZero v e)
divided_gives false n v e = number_gives n v e

pub operated : (op : Op) (a b v : Value) → operate same_name op a b ≡ Gives v → IsNumber v
operated Neg a b v e = number_gives (neg_ℤ (int_of a)) v e
operated Not a b v e = truth_gives _ v e
operated Bool' a b v e = truth_gives _ v e
operated Add a b v e = number_gives (int_of a +ℤ int_of b) v e
operated Sub a b v e = number_gives (int_of a -ℤ int_of b) v e
operated Mul a b v e = number_gives (int_of a *ℤ int_of b) v e
operated Div a b v e = divided_gives (same_int (int_of b) (pos 0)) (int_div (int_of a) (int_of b)) v e
operated Rem a b v e = divided_gives (same_int (int_of b) (pos 0)) (int_rem (int_of a) (int_of b)) v e
operated Eq a b v e = truth_gives _ v e
operated Ne a b v e = truth_gives _ v e
operated Lt a b v e = truth_gives _ v e
operated Le a b v e = truth_gives _ v e
operated Gt a b v e = truth_gives _ v e
operated Ge a b v e = truth_gives _ v e

-- elements

size_below : (z : ℤ) (n : ℕ) (a b : Bool) → int_lt z (pos n) ≡ a → int_lt z (pos 0) ≡ b → a && not b ≡ true → nat_abs z < n
size_below z n true true e f g = let h : false ≡ true = g in cc
size_below z n false b e f g = let h : false ≡ true = g in cc
size_below z n true false e f g = from z e f
  where
    from : (z : ℤ) → int_lt z (pos n) ≡ true → int_lt z (pos 0) ≡ false → nat_abs z < n
    from z h k = omega (arith, ints, h, k)

pub element_gives : (n : ℕ) (i : Value) (j : ℕ) → element n i ≡ Gives j → j < n
element_gives n i j e = from (int_lt (int_of i) (pos n) && not (int_lt (int_of i) (pos 0))) refl e
  where
    from : (b : Bool) → int_lt (int_of i) (pos n) && not (int_lt (int_of i) (pos 0)) ≡ b
        → cond b (Gives (nat_abs (int_of i))) (Fails IndexOut) ≡ Gives j → j < n
    from true f g =
        let small = size_below (int_of i) n (int_lt (int_of i) (pos n)) (int_lt (int_of i) (pos 0)) refl refl f in
        let same = same_gives (nat_abs (int_of i)) j g in
        omega (arith, small, same)
    from false f g = absurd (fails_not_gives IndexOut j g)

indexed_gives : (a : Value) (n : ℕ) (i v : Value) → indexed a n i ≡ Gives v → (j : ℕ) × (j < n) × (v ≡ moved a j)
indexed_gives a n i v e = from (element n i) refl e
  where
    from : (r : Result ℕ) → element n i ≡ r → on_gives r (λ k. Gives (moved a k)) ≡ Gives v → (j : ℕ) × (j < n) × (v ≡ moved a j)
    from (Gives k) f g = (k, element_gives n i k f, sym (same_gives (moved a k) v g))
    from (Fails kind) f g = absurd (fails_not_gives kind v g)

module _ (y : Types) (w : World) (q : Name) where
  element_fits : (v : Value) (n j : ℕ) (remote : Bool) (a b : Target) → Fits y w q v (Pointer remote a) → IsElement y n a b → j < n
      → Fits y w q (moved v j) (Pointer remote b)
  element_fits Void n j remote a b f i lt = absurd (no_pointer remote a f)
  element_fits (Int m) n j remote a b f i lt = absurd (no_int remote a f)
  element_fits Null n j remote a b f i lt = null_fits y w q remote b
  element_fits (Ptr o x) n j remote a b f i lt = from a (leads_of y w q o x remote a f) i
    where
      from : (a : Target) → Leads y w q o x remote a → IsElement y n a b → Fits y w q (Ptr o (min (x + j) last_offset)) (Pointer remote b)
      from (Cells sync u) l i = subst (λ z. Fits y w q (Ptr o (min (x + j) last_offset)) (Pointer remote z)) (sym i)
          (pointer_fits y w q o (min (x + j) last_offset) remote (Cells sync u) l)
      from (ObjectOf c) l i = absurd i
      from (MemberOf c k) l i =
          let at = l.2.1 in
          let below = i.2 in
          let same : k + j ≡ min (x + j) last_offset = omega (arith, at, below, lt) in
          subst (λ z. Fits y w q (Ptr o (min (x + j) last_offset)) (Pointer remote z)) (sym i.4)
          (pointer_fits y w q o (min (x + j) last_offset) remote (PartOf c i.0 i.1)
          (l.0, l.1, (l.2.0, subst (λ z. member y c z ≡ Some (Holds i.0 i.1)) same (i.3 j lt)), l.3))
      from (PartOf c sync u) l i = absurd i

  pub indexed_fits : (a : Value) (n : ℕ) (i v : Value) (remote : Bool) (s t : Target) → Fits y w q a (Pointer remote s) → IsElement y n s t
      → indexed a n i ≡ Gives v → Fits y w q v (Pointer remote t)
  indexed_fits a n i v remote s t f e g =
      let k = indexed_gives a n i v g in
      subst (λ z. Fits y w q z (Pointer remote t)) (sym k.2) (element_fits a n k.0 remote s t f e k.1)

  pub shifted_fits : (a : Value) (i : ℤ) (v : Value) (remote sync : Bool) (u : ValueType) → Fits y w q a (Pointer remote (Cells sync u))
      → shifted a i ≡ Gives v → Fits y w q v (Pointer remote (Cells sync u))
  shifted_fits Void i v remote sync u f e = absurd (fails_not_gives NullPointer v e)
  shifted_fits (Int n) i v remote sync u f e = absurd (fails_not_gives NullPointer v e)
  shifted_fits Null i v remote sync u f e = absurd (fails_not_gives NullPointer v e)
  shifted_fits (Ptr o x) i v remote sync u f e = from _ _ e
    where
      from : (b : Bool) (z : ℕ) → cond b (Fails IndexOut) (Gives (Ptr o z)) ≡ Gives v → Fits y w q v (Pointer remote (Cells sync u))
      from true z g = absurd (fails_not_gives IndexOut v g)
      from false z g = subst (λ r. Fits y w q r (Pointer remote (Cells sync u))) (same_gives (Ptr o z) v g)
          (pointer_fits y w q o z remote (Cells sync u) (leads_of y w q o x remote (Cells sync u) f))

  -- the cell at an address
  pub place_of : (o : Name) (x : ℕ) (remote : Bool) (a : Target) (sync : Bool) (u : ValueType) → Fits y w q (Ptr o x) (Pointer remote a)
      → IsCell y a sync u → (e : ObjectEntry) × (fin.get w.objects o ≡ Some e) × (cell_type y e.content x ≡ Some (Holds sync u)) × IsNear remote e.home q
  place_of o x remote a sync u f i = let l = leads_of y w q o x remote a f in (l.0, l.1, from a l.0.content l.2 i, l.3)
    where
      from : (a : Target) (k : Content) → IsIn y k x a → IsCell y a sync u → cell_type y k x ≡ Some (Holds sync u)
      from (Cells s t) k h i = ap (λ z. cell_type y z x) h ∙ (ap (λ z. Some (Holds z t)) i.0 ∙ ap (λ z. Some (Holds sync z)) i.1)
      from (ObjectOf c) k h i = absurd i
      from (MemberOf c b) k h i = ap (λ z. cell_type y z x) h.0 ∙ (ap (member y c) h.1 ∙ i)
      from (PartOf c s t) k h i =
          ap (λ z. cell_type y z x) h.0 ∙ (h.1 ∙ (ap (λ z. Some (Holds z t)) i.0 ∙ ap (λ z. Some (Holds sync z)) i.1))

  -- a value goes to where its cell is, and from there
  pub goes : (remote : Bool) (home : Name) (v : Value) (u : ValueType) → IsNear remote home q → Passes remote u → Fits y w q v u → Fits y w home v u
  goes true home v u n c f = crosses y w q home v u c f
  goes false home v u n c f = subst (λ z. Fits y w z v u) (sym n) f

  pub comes : (remote : Bool) (home : Name) (v : Value) (u : ValueType) → IsNear remote home q → Passes remote u → Fits y w home v u → Fits y w q v u
  comes true home v u n c f = crosses y w home q v u c f
  comes false home v u n c f = subst (λ z. Fits y w z v u) n f

-- needs that find nothing
room_found : (made n most : ℕ) (kind : FaultKind) (a : List Value) → room made n most kind ≡ Go a → a ≡ []
room_found made n most kind a e = from (nat_le (made + n) most) e
  where
    from : (b : Bool) → cond b (Go []) (Bad kind) ≡ Go a → a ≡ []
    from true g = sym (same_go [] a g)
    from false g = absurd (bad_not_go kind a g)

hold_found : (b : Bool) (a : List Value) → cond b Hold (Go []) ≡ Go a → a ≡ []
hold_found true a e = absurd (hold_not_go a e)
hold_found false a e = sym (same_go [] a e)

done_found : (b : Bool) (a : List Value) → cond b (Go []) Hold ≡ Go a → a ≡ []
done_found true a e = sym (same_go [] a e)
done_found false a e = absurd (hold_not_go a e)

writable_found : (c : Option Cell) (a : List Value) → writable c ≡ Go a → a ≡ []
writable_found None a e = absurd (bad_not_go IndexOut a e)
writable_found (Some (Plain v)) a e = sym (same_go [] a e)
writable_found (Some EmptyCell) a e = sym (same_go [] a e)
writable_found (Some (Full v)) a e = absurd (bad_not_go SyncTwice a e)

object_found : (v : Value) (a : List Value) → object_there v ≡ Go a → a ≡ []
object_found Void a e = sym (same_go [] a e)
object_found (Int n) a e = absurd (bad_not_go NullPointer a e)
object_found Null a e = absurd (bad_not_go NullPointer a e)
object_found (Ptr o x) a e = sym (same_go [] a e)

result_none : {A : Type 0} (r : Result A) (a : List Value) → of_result r (λ c. []) ≡ Go a → a ≡ []
result_none (Gives x) a e = sym (same_go [] a e)
result_none (Fails kind) a e = absurd (bad_not_go kind a e)

abbrev pub FindsNothing : Need Name → Type 0
FindsNothing (KnownNeed r) = ⊥
FindsNothing (Filled a) = ⊥
FindsNothing (Unfilled a) = Unit {0}
FindsNothing (AllCells a n) = ⊥
FindsNothing (ObjectNeed o) = Unit {0}
FindsNothing (Free f o) = Unit {0}
FindsNothing (Done made) = Unit {0}
FindsNothing Deeper = Unit {0}
FindsNothing (Threads n) = Unit {0}
FindsNothing (ThreadAt o) = Unit {0}
FindsNothing (Slots n) = Unit {0}
FindsNothing (FirstSlots n) = Unit {0}
FindsNothing Processor = Unit {0}
FindsNothing (Constructs c vs) = Unit {0}

abbrev pub FindNothing : List (Need Name) → Type 0
FindNothing [] = Unit {0}
FindNothing (n ∷ ns) = FindsNothing n × FindNothing ns

pub both_go : (v w : Verdict Name) (found : List Value) → and_also v w ≡ Go found
    → (a : List Value) × (b : List Value) × (v ≡ Go a) × (w ≡ Go b) × (found ≡ a ++ b)
both_go (Go a) (Go b) found e = (a, b, refl, refl, sym (same_go _ _ e))
both_go (Go a) Hold found e = let f : Hold ≡ Go found = e in absurd (hold_not_go found f)
both_go (Go a) (Bad kind) found e = let f : Bad kind ≡ Go found = e in absurd (bad_not_go kind found f)
both_go Hold w found e = let f : Hold ≡ Go found = e in absurd (hold_not_go found f)
both_go (Bad kind) w found e = let f : Bad kind ≡ Go found = e in absurd (bad_not_go kind found f)

module _ (h : Shapes) (s : Config) (t : Name) (l : Thread) where
  pub nothing_found : (n : Need Name) → FindsNothing n → (a : List Value) → check h s t l n ≡ Go a → a ≡ []
  nothing_found (KnownNeed r) k a e = absurd k
  nothing_found (Filled v) k a e = absurd k
  nothing_found (Unfilled Void) k a e = absurd (bad_not_go NullPointer a e)
  nothing_found (Unfilled (Int n)) k a e = absurd (bad_not_go NullPointer a e)
  nothing_found (Unfilled Null) k a e = absurd (bad_not_go NullPointer a e)
  nothing_found (Unfilled (Ptr o x)) k a e = writable_found (cell s o x) a e
  nothing_found (AllCells v n) k a e = absurd k
  nothing_found (ObjectNeed o) k a e = object_found o a e
  nothing_found (Free f o) k a e = hold_found _ a e
  nothing_found (Done made) k a e = done_found _ a e
  nothing_found Deeper k a e = room_found _ _ _ _ a e
  nothing_found (Threads n) k a e = room_found _ _ _ _ a e
  nothing_found (ThreadAt o) k a e = room_found _ _ _ _ a e
  nothing_found (Slots n) k a e = room_found _ _ _ _ a e
  nothing_found (FirstSlots n) k a e = room_found _ _ _ _ a e
  nothing_found Processor k a e = room_found _ _ _ _ a e
  nothing_found (Constructs c vs) k a e = result_none _ a e

  pub none_found : (ns : List (Need Name)) → FindNothing ns → (found : List Value) → check_all h s t l ns ≡ Go found → found ≡ []
  none_found [] k found e = sym (same_go [] found e)
  none_found (n ∷ ns) k found e =
      let b = both_go (check h s t l n) (check_all h s t l ns) found e in
      let x = nothing_found n k.0 b.0 b.2 in
      let z = none_found ns k.1 b.1 b.3 in
      b.4 ∙ (ap (λ r. r ++ b.1) x ∙ z)

  result_found : (r : Result Value) (a : List Value) → of_result (one r) (λ vs. vs) ≡ Go a → (v : Value) × (r ≡ Gives v) × (a ≡ v ∷ [])
  result_found (Gives v) a e = (v, refl, sym (same_go (v ∷ []) a e))
  result_found (Fails kind) a e = absurd (bad_not_go kind a e)

  -- one need, and what it finds
  pub only_need : (n : Need Name) (found : List Value) → check_all h s t l (n ∷ []) ≡ Go found → check h s t l n ≡ Go found
  only_need n found e =
      let b = both_go (check h s t l n) (Go []) found e in
      let nothing = same_go [] b.1 b.3 in
      b.2 ∙ ap Go (sym (b.4 ∙ (ap (λ z. b.0 ++ z) (sym nothing) ∙ append-nil b.0)))

  pub known_found : (r : Result Value) (found : List Value) → check_all h s t l (KnownNeed (one r) ∷ []) ≡ Go found
      → (v : Value) × (r ≡ Gives v) × (found ≡ v ∷ [])
  known_found r found e = result_found r found (only_need (KnownNeed (one r)) found e)

  module _ (y : Types) (w : World) (q : Name) (stored : InStep y w s.objects w.objects) where
    -- a cell that is there has its type
    pub cell_there : (o : Name) (x : ℕ) (remote : Bool) (a : Target) (sync : Bool) (u : ValueType) (c : Cell) → Fits y w q (Ptr o x) (Pointer remote a)
        → IsCell y a sync u → cell s o x ≡ Some c
        → (home : Name) × IsNear remote home q × CellFits y w home c (Some (Holds sync u))
    cell_there o x remote a sync u c f i at =
        let e = place_of y w q o x remote a sync u f i in
        let b = stored o e.0 e.1 in (
          e.0.home,
          e.3,
          subst (CellFits y w e.0.home c) e.2 (b.2.1 x c (sym (ap (λ z. slice_get (cells_of z) x) b.1) ∙ at)),
        )

    read_is : (o : Name) (x : ℕ) (remote : Bool) (a : Target) (sync : Bool) (u : ValueType) → Fits y w q (Ptr o x) (Pointer remote a)
        → IsCell y a sync u → Passes remote u → (c : Option Cell) → cell s o x ≡ c → (found : List Value) → read c ≡ Go found
        → (v : Value) × (found ≡ v ∷ []) × Fits y w q v u
    read_is o x remote a sync u f i ps None at found e = absurd (bad_not_go IndexOut found e)
    read_is o x remote a sync u f i ps (Some (Plain v)) at found e =
        let r = cell_there o x remote a sync u (Plain v) f i at in
        (v, sym (same_go (v ∷ []) found e), comes y w q remote r.0 v u r.1 ps r.2.1)
    read_is o x remote a sync u f i ps (Some EmptyCell) at found e = absurd (hold_not_go found e)
    read_is o x remote a sync u f i ps (Some (Full v)) at found e =
        let r = cell_there o x remote a sync u (Full v) f i at in
        (v, sym (same_go (v ∷ []) found e), comes y w q remote r.0 v u r.1 ps r.2.1)

    -- what is read has its type
    pub filled_fits : (p : Value) (remote : Bool) (a : Target) (sync : Bool) (u : ValueType) → Fits y w q p (Pointer remote a)
        → IsCell y a sync u → Passes remote u → (found : List Value) → check h s t l (Filled p) ≡ Go found
        → (v : Value) × (found ≡ v ∷ []) × Fits y w q v u
    filled_fits Void remote a sync u f i ps found e = absurd (bad_not_go NullPointer found e)
    filled_fits (Int n) remote a sync u f i ps found e = absurd (bad_not_go NullPointer found e)
    filled_fits Null remote a sync u f i ps found e = absurd (bad_not_go NullPointer found e)
    filled_fits (Ptr o x) remote a sync u f i ps found e = read_is o x remote a sync u f i ps (cell s o x) refl found e

    copied_is : (home : Name) (cells : List Cell) (us : List ValueType) → home ≡ q
        → ((x : ℕ) (c : Cell) → slice_get cells x ≡ Some c → CellFits y w home c (slice_get (map (Holds false) us) x))
        → length us ≤ length cells → AllFit y w q (map value_in cells) us
    copied_is home [] [] n f e = refl
    copied_is home [] (u ∷ us) n f e = absurd (omega (arith, e))
    copied_is home (c ∷ cells) [] n f e = absurd (f 0 c refl)
    copied_is home (c ∷ cells) (u ∷ us) n f e = (value c (f 0 c refl), copied_is home cells us n (λ x d i. f (suc x) d i) (omega (arith, e)))
      where
        value : (c : Cell) → CellFits y w home c (Some (Holds false u)) → Fits y w q (value_in c) u
        value (Plain v) g = subst (λ z. Fits y w z v u) n g.1
        value EmptyCell g = let z : false ≡ true = g.0 in cc
        value (Full v) g = let z : false ≡ true = g.0 in cc

    -- the values of a class argument's cells have their types
    pub copied_fits : (v : Value) (n c : ℕ) (us : List ValueType) → Fits y w q v (Pointer false (ObjectOf c)) → IsCopied y c us → length us ≡ n
        → (found : List Value) → check h s t l (AllCells v n) ≡ Go found → AllFit y w q found us
    copied_fits Void n c us f i many found e = absurd (bad_not_go NullPointer found e)
    copied_fits (Int m) n c us f i many found e = absurd (bad_not_go NullPointer found e)
    copied_fits Null n c us f i many found e = absurd (bad_not_go NullPointer found e)
    copied_fits (Ptr o x) n c us f i many found e =
        let d = leads_of y w q o x false (ObjectOf c) f in
        let b = stored o d.0 d.1 in
        from d.0.home b.0.cells d.3
        (λ x z g. subst (λ r. CellFits y w d.0.home z (slice_get r x)) i
        (subst (λ r. CellFits y w d.0.home z (cell_type y r x)) d.2.0 (b.2.1 x z g)))
        (nat_lt (length b.0.cells) n) refl (subst (λ z. all_in n (cells_of z) ≡ Go found) b.1 e)
      where
        from : (home : Name) (cells : List Cell) → home ≡ q
            → ((x : ℕ) (c : Cell) → slice_get cells x ≡ Some c → CellFits y w home c (slice_get (map (Holds false) us) x))
            → (r : Bool) → nat_lt (length cells) n ≡ r → cond r (Bad IndexOut) (Go (map value_in cells)) ≡ Go found → AllFit y w q found us
        from home cells near fit true k g = absurd (bad_not_go IndexOut found g)
        from home cells near fit false k g = subst (λ z. AllFit y w q z us) (same_go (map value_in cells) found g)
            (let le = ltb-false (length cells) n k in copied_is home cells us near fit (omega (arith, le, many)))
