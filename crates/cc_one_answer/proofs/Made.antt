-- What asks make, and that it has the types that their terms have.
use Rattle.std.proofs.Common.{◌≡◌, ◌≢◌, ◌⊎◌, ℕ, zero, suc, ◌+◌, ◌<◌, ◌≤◌, Bool, true, false, cond, List, [], ◌∷◌, ◌++◌, length, Option, Some, None, refl, sym, ap, subst, ◌∙◌}
use Rattle.std.proofs.Common.{⊎_elim, inl, inr, arith}
use Rattle.std.specs.Prelude.{get_or, replicate, drop}
use Rattle.std.specs.FinMap as fin
use Rattle.cc_ops.specs.Values.{Void, Int, Null, Ptr, Plain, Full, Gives, first}
use Rattle.cc_ops.specs.declared.kind.Kind.{Kind}
use Rattle.cc_core.specs.Names.{Name, Map, Value, Cell, puts}
use Rattle.cc_core.specs.Core.{Term}
use Rattle.cc_core.specs.Core.{Starts}
use Rattle.cc_core.specs.Core.{Program, Shapes, shapes, function_shape, class_shape}
use Rattle.cc_core.specs.Types.{ValueType, AnAddress, Target, ObjectOf, Types, function_types, no_types, IsAmong}
use Rattle.cc_one_answer.specs.Sorts.{Sort, Valued, NamedCell, IsCell, ObjectType, Named, Instance}
use Rattle.cc_one_answer.specs.Sorts.{Kin, World, Grows, Fits, AllFit, HasSort, cell_type, CellsFit}
use Rattle.cc_one_answer.specs.Owned.{PendTerm}
use Rattle.cc_one_answer.specs.Owned.{FineTerm}
use Rattle.cc_ops.specs.declared.shape.FunShape.{FunShape}
use Rattle.cc_core.specs.Asks.{Ask, Reads, Writes, Copies, Indexes, Shifts, Computes, Tests, Makes, MakesWith, Builds, Enters}
use Rattle.cc_core.specs.Asks.{Leaves, ForksAll, ForksOne, Joins, Spawns, Prints, Calls, Casts, NewProcessor}
use Rattle.cc_core.specs.Effects.{branch_count, first_objects, numbers}
use Rattle.cc_one_answer.proofs.More.{fits_more, all_fit_more}
use Rattle.cc_one_answer.proofs.Fine.{Gift, content, parameter_types, AreMade, IsJoined, own_of, ValuesOf, IsStart}
use Rattle.cc_one_answer.proofs.Fine.{IsFineAsk, AreFineKids}
use Rattle.cc_core.specs.Config.{Config, Thread, State, Live, Ended, Object, cell, home}
use Rattle.cc_core.specs.Needs.{Filled}
use Rattle.cc_core.specs.Needs.{Go, Hold, Bad, needs, check, check_all}
use Rattle.cc_core.specs.Laws.{NamesAreFree}
use Rattle.cc_core.proofs.Maps.{cases_name, get_same, get_other, IsKey, IsEntry, puts_other}
use Rattle.cc_core.proofs.Fresh.{head_of}
use Rattle.cc_one_answer.specs.Apart.{IsPlace}
use Rattle.cc_one_answer.specs.Determinate.{IsDeterminate}
use Rattle.cc_one_answer.specs.Owned.{IsCallOf, IsOwned}
use Rattle.cc_one_answer.proofs.Distinct.{same_some, bad_not_go, hold_not_go}
use Rattle.cc_one_answer.proofs.Values.{shape_is}
use Rattle.std.proofs.Common.{append-nil}
use Rattle.std.specs.Prelude.{◌&&◌}
use Rattle.cc_core.specs.Config.{home_of}
use Rattle.cc_one_answer.proofs.Swaps.{cases_number}
use Rattle.cc_one_answer.proofs.More.{cell_fits_more}
use Rattle.cc_ops.specs.Values.{fresh, started}
use Rattle.cc_ops.specs.Classes.{construct}
use Rattle.global_ptr.specs.declared.ends.FaultKind.{FaultKind}
use Rattle.global_ptr.specs.declared.ends.FaultKind.TheVariants.{NullPointer}
use Rattle.cc_core.specs.Names.{same_name}
use Rattle.cc_core.specs.Needs.{room, object_there, all_ended, ended}
use Rattle.cc_core.specs.Effects.{effect, addresses, parameters, is_call, start_home, constructed}
use Rattle.cc_core.specs.Steps.{new_threads}
use Rattle.cc_one_answer.specs.Determinate.{AreParameters}
use Rattle.cc_one_answer.proofs.Adds.{both_go, room_case, constructs}
use Rattle.cc_one_answer.proofs.Owners.{stored_cell}
use Rattle.cc_one_answer.proofs.Found.{index_found, shift_found, compute_found, filled_found, same_go}
use Rattle.cc_one_answer.proofs.Built.{fresh_object, one_cell, started_object, constructed_fit, typed, AreFineObjects, parameters_fit}

-- what is put in beside threads
abbrev pub kinned : List (Name × Thread) → Kin → List (Name × Kin)
kinned [] k = []
kinned (e ∷ es) k = (e.0, k) ∷ kinned es k

pub kinned_key : (es : List (Name × Thread)) (k : Kin) (u : Name) → IsKey u (kinned es k) → IsKey u es
kinned_key [] k u h = h
kinned_key (e ∷ es) k u h = ⊎_elim (λ (a : u ≡ e.0). inl a) (λ (b : IsKey u (kinned es k)). inr (kinned_key es k u b)) h

pub key_kinned : (es : List (Name × Thread)) (k : Kin) (u : Name) → IsKey u es → IsKey u (kinned es k)
key_kinned [] k u h = h
key_kinned (e ∷ es) k u h = ⊎_elim (λ (a : u ≡ e.0). inl a) (λ (b : IsKey u es). inr (key_kinned es k u b)) h

pub kinned_entry : (es : List (Name × Thread)) (k j : Kin) (u : Name) → IsEntry u j (kinned es k) → j ≡ k
kinned_entry [] k j u h = absurd h
kinned_entry (e ∷ es) k j u h = ⊎_elim (λ (a : (u ≡ e.0) × (j ≡ k)). a.1) (λ (b : IsEntry u j (kinned es k)). kinned_entry es k j u b) h

pub typed_key : (es : List (Name × Object)) (as' : List ObjectType) (o : Name) → IsKey o (typed es as') → IsKey o es
typed_key [] as' o h = h
typed_key (e ∷ es) [] o h = absurd h
typed_key (e ∷ es) (a ∷ as') o h =
    ⊎_elim (λ (x : o ≡ e.0). inl x) (λ (x : IsKey o (typed es as')). inr (typed_key es as' o x)) h

-- needs that find nothing
pub room_found : (made n most : ℕ) (kind : FaultKind) (a : List Value) → room made n most kind ≡ Go a → a ≡ []
room_found made n most kind a e = ⊎_elim
    (λ (x : (room made n most kind ≡ Go []) × (made + n ≤ most)). sym (same_go [] a (sym x.0 ∙ e)))
    (λ (x : (room made n most kind ≡ Bad kind) × (most < made + n)). absurd (bad_not_go kind a (sym x.0 ∙ e)))
    (room_case made n most kind)

pub object_found : (v : Value) (a : List Value) → object_there v ≡ Go a → a ≡ []
object_found Void a e = sym (same_go [] a e)
object_found (Int n) a e = absurd (bad_not_go NullPointer a e)
object_found Null a e = absurd (bad_not_go NullPointer a e)
object_found (Ptr o x) a e = sym (same_go [] a e)

pub free_found : (b : Bool) (a : List Value) → cond b Hold (Go []) ≡ Go a → a ≡ []
free_found true a e = absurd (hold_not_go a e)
free_found false a e = sym (same_go [] a e)

pub nothing_and : (a b found : List Value) → a ≡ [] → b ≡ [] → found ≡ a ++ b → found ≡ []
nothing_and a b found e f g = g ∙ (ap (λ z. z ++ b) e ∙ f)

module _ (h : Shapes) (s : Config) (t : Name) (l : Thread) where
  pub entered_found : (f : ℕ) (o : Value) (vs found : List Value) → check_all h s t l (needs h (Enters f o vs)) ≡ Go found → found ≡ []
  entered_found f o vs found e =
      let a = both_go h s t l _ _ found e in
      let b = both_go h s t l _ _ a.1 a.3 in
      let c = both_go h s t l _ _ b.1 b.3 in
      let d = both_go h s t l _ _ c.1 c.3 in
      nothing_and a.0 a.1 found (object_found o a.0 a.2)
      (nothing_and b.0 b.1 a.1 (free_found _ b.0 b.2)
      (nothing_and c.0 c.1 b.1 (room_found _ _ _ _ c.0 c.2)
      (nothing_and d.0 d.1 c.1 (room_found _ _ _ _ d.0 d.2) (sym (same_go [] d.1 d.3)) d.4) c.4) b.4) a.4

  pub called_found : (f : ℕ) (o : Value) (vs found : List Value) → check_all h s t l (needs h (Calls f o vs)) ≡ Go found → found ≡ []
  called_found f o vs found e =
      let a = both_go h s t l _ _ found e in
      let b = both_go h s t l _ _ a.1 a.3 in
      nothing_and a.0 a.1 found (object_found o a.0 a.2)
      (nothing_and b.0 b.1 a.1 (room_found _ _ _ _ b.0 b.2) (sym (same_go [] b.1 b.3)) b.4) a.4

  pub copy_found : (v : Value) (found : List Value) → check_all h s t l (needs h (ForksOne v)) ≡ Go found
      → (a : List Value) × (check h s t l (Filled v) ≡ Go a) × (found ≡ a)
  copy_found v found e =
      let a = both_go h s t l _ _ found e in
      let b = both_go h s t l _ _ a.1 a.3 in
      let c = both_go h s t l _ _ b.1 b.3 in (
        c.0,
        c.2,
        a.4 ∙ (ap (λ z. z ++ a.1) (room_found _ _ _ _ a.0 a.2) ∙ (b.4 ∙ (ap (λ z. z ++ b.1) (room_found _ _ _ _ b.0 b.2)
            ∙ (c.4 ∙ (ap (λ z. c.0 ++ z) (sym (same_go [] c.1 c.3)) ∙ append-nil c.0))))),
      )

  pub read_found : (r : Bool) (v : Value) (found : List Value) → check_all h s t l (needs h (Reads r v)) ≡ Go found
      → (a : List Value) × (check h s t l (Filled v) ≡ Go a) × (found ≡ a)
  read_found r v found e =
      let a = both_go h s t l _ _ found e in (a.0, a.2, a.4 ∙ (ap (λ z. a.0 ++ z) (sym (same_go [] a.1 a.3)) ∙ append-nil a.0))

  pub all_done : (made : List ℕ) (found : List Value) → check_all h s t l (needs h (Joins made)) ≡ Go found → all_ended s.threads t made ≡ true
  all_done made found e = let a = both_go h s t l _ _ found e in from (all_ended s.threads t made) a.0 a.2
    where
      from : (b : Bool) (a : List Value) → cond b (Go []) Hold ≡ Go a → b ≡ true
      from true a g = refl
      from false a g = absurd (hold_not_go a g)

pub and_parts : (a b : Bool) → a && b ≡ true → (a ≡ true) × (b ≡ true)
and_parts true true e = (refl, refl)
and_parts true false e = let f : false ≡ true = e in cc
and_parts false b e = let f : false ≡ true = e in cc

pub ended_one : (x : Option State) → ended x ≡ true → (v : Value) × (x ≡ Some (Ended v))
ended_one None e = let f : false ≡ true = e in cc
ended_one (Some (Live l)) e = let f : false ≡ true = e in cc
ended_one (Some (Ended v)) e = (v, refl)

-- a branch that was waited for has ended
pub joined_one : (s : Config) (t : Name) (made : List ℕ) (b : ℕ) → all_ended s.threads t made ≡ true → IsAmong b made
    → (v : Value) × (fin.get s.threads (b ∷ t) ≡ Some (Ended v))
joined_one s t [] b e h = absurd h
joined_one s t (k ∷ ks) b e h =
    let parts = and_parts (ended (fin.get s.threads (k ∷ t))) (all_ended s.threads t ks) e in
    ⊎_elim
    (λ (a : b ≡ k). let z = ended_one (fin.get s.threads (k ∷ t)) parts.0 in (z.0, ap (λ q. fin.get s.threads (q ∷ t)) a ∙ z.1))
    (λ (i : IsAmong b ks). joined_one s t ks b parts.1 i)
    h

-- the new objects' types
pub types_at_one : (m : Map ObjectType) (o : Name) (x : Object) (a : ObjectType) (makes : List ObjectType) → makes ≡ a ∷ []
    → fin.get (puts (typed ((o, x) ∷ []) makes) m) o ≡ Some a
types_at_one m o x a makes e = ap (λ z. fin.get (puts (typed ((o, x) ∷ []) z) m) o) e ∙ get_same m o a

pub later_names : (t : Name) (k : ℕ) (q : Name) (params : List (List Kind)) (vs : List Value) (as' : List ObjectType) (o : Name)
    → IsKey o (typed (parameters t k q params vs) as') → (i : ℕ) × (o ≡ i ∷ t) × (k ≤ i)
later_names t k q [] vs as' o h = absurd h
later_names t k q (kinds ∷ more) vs [] o h = absurd h
later_names t k q (kinds ∷ more) vs (a ∷ as') o h = ⊎_elim
    (λ (e : o ≡ k ∷ t). (k, e, omega arith))
    (λ (e : IsKey o (typed (parameters t (suc k) q more (drop (length kinds) vs)) as')).
    let i = later_names t (suc k) q more (drop (length kinds) vs) as' o e in let low = i.2 in (i.0, i.1, omega (arith, low)))
    h

pub made_parameters : (v : World) (t : Name) (k : ℕ) (q : Name) (params : List (List Kind)) (vs : List Value) (as' : List ObjectType)
    (m : Map ObjectType) → v.types ≡ puts (typed (parameters t k q params vs) as') m → length as' ≡ length params
    → AreMade v t k as' (addresses (parameters t k q params vs))
made_parameters v t k q params vs [] m e len = tt
made_parameters v t k q [] vs (a ∷ as') m e len = absurd (omega (arith, len))
made_parameters v t k q (kinds ∷ more) vs (a ∷ as') m e len = (
  refl,
  ap (λ z. fin.get z (k ∷ t)) e
      ∙ (puts_other (typed (parameters t (suc k) q more (drop (length kinds) vs)) as') (fin.insert m (k ∷ t) a) (k ∷ t) (λ h.
      let i = later_names t (suc k) q more (drop (length kinds) vs) as' (k ∷ t) h in
      let same = head_of k i.0 t t i.1 in let low = i.2 in absurd (omega (arith, same, low)))
      ∙ get_same m (k ∷ t) a),
  made_parameters v t (suc k) q more (drop (length kinds) vs) as' (fin.insert m (k ∷ t) a) e (omega (arith, len)),
)

pub length_types : (vars : List Target) (n : ℕ) (params : List (List Kind)) (us : List ValueType) → AreParameters vars n params us
    → length (parameter_types params us) ≡ length params
length_types vars n [] us a = refl
length_types vars n ([] ∷ more) us a = absurd a
length_types vars n ((kind ∷ other ∷ kinds) ∷ more) us a = absurd a
length_types vars n ((kind ∷ []) ∷ more) us a =
    ap (λ z. length (parameter_types ((kind ∷ []) ∷ more) z)) a.2 ∙ ap suc (length_types vars (suc n) more a.1 a.4)

pub length_addresses : (es : List (Name × Object)) → length (addresses es) ≡ length es
length_addresses [] = refl
length_addresses (e ∷ es) = ap suc (length_addresses es)

pub length_parameters : (t : Name) (k : ℕ) (q : Name) (params : List (List Kind)) (vs : List Value) → length (parameters t k q params vs) ≡ length params
length_parameters t k q [] vs = refl
length_parameters t k q (kinds ∷ more) vs = ap suc (length_parameters t (suc k) q more (drop (length kinds) vs))

pub made_more : (v : World) (t : Name) (k : ℕ) (as' : List ObjectType) (xs ys : List Value) → AreMade v t k as' xs → AreMade v t k as' (xs ++ ys)
made_more v t k [] xs ys h = tt
made_more v t k (a ∷ as') [] ys h = absurd h
made_more v t k (a ∷ as') (x ∷ xs) ys h = (h.0, h.1, made_more v t (suc k) as' xs ys h.2)

-- objects in step with types, in a world v
abbrev pub InStep : World → Types → Map Object → Map ObjectType → Type 0
InStep v y mo mt = (o : Name) (a : ObjectType) → fin.get mt o ≡ Some a → (x : Object) × (fin.get mo o ≡ Some x) × CellsFit v y a x.cells

pub in_step : (v : World) (y : Types) (es : List (Name × Object)) (as' : List ObjectType) (mo : Map Object) (mt : Map ObjectType)
    → AreFineObjects v y es as' → InStep v y mo mt → InStep v y (puts es mo) (puts (typed es as') mt)
in_step v y [] as' mo mt fine h = h
in_step v y (e ∷ es) [] mo mt fine h = absurd fine
in_step v y (e ∷ es) (a ∷ as') mo mt fine h =
    in_step v y es as' (fin.insert mo e.0 e.1) (fin.insert mt e.0 a) fine.1 (λ o b g. ⊎_elim
    (λ (q : o ≡ e.0).
    let same : a ≡ b = same_some a b (sym (get_same mt e.0 a) ∙ (ap (fin.get (fin.insert mt e.0 a)) (sym q) ∙ g)) in
    (e.1, ap (fin.get (fin.insert mo e.0 e.1)) q ∙ get_same mo e.0 e.1, subst (λ z. CellsFit v y z e.1.cells) same fine.0))
    (λ (q : o ≢ e.0).
    let z = h o b (sym (get_other mt e.0 a o q) ∙ g) in (z.0, get_other mo e.0 e.1 o q ∙ z.1, z.2))
    (cases_name o e.0))

pub cells_more : (w v : World) → Grows w v → (y : Types) (a : ObjectType) (cells : List Cell) → CellsFit w y a cells → CellsFit v y a cells
cells_more w v g y a cells h = λ x c e. cell_fits_more w v g c (cell_type y a x) (h x c e)

pub among_numbers : (k n b : ℕ) → k ≤ b → b < k + n → IsAmong b (numbers k n)
among_numbers k zero b low high = absurd (omega (arith, low, high))
among_numbers k (suc n) b low high = ⊎_elim
    (λ (e : b ≡ k). inl e)
    (λ (ne : b ≢ k). inr (among_numbers (suc k) n b (omega (arith, low, ne)) (omega (arith, high))))
    (cases_number b k)

pub numbers_among : (k n b : ℕ) → IsAmong b (numbers k n) → (k ≤ b) × (b < k + n)
numbers_among k zero b h = absurd h
numbers_among k (suc n) b h = ⊎_elim
    (λ (e : b ≡ k). (omega (arith, e), omega (arith, e)))
    (λ (i : IsAmong b (numbers (suc k) n)).
    let r = numbers_among (suc k) n b i in let low = r.0 in let high = r.1 in (omega (arith, low), omega (arith, high)))
    h

pub number_key : (t : Name) (k : ℕ) (q : Name) (own : ℕ) (terms : List Term) (b : ℕ) → k ≤ b → b < k + length terms
    → IsKey (b ∷ t) (new_threads t k q own terms)
number_key t k q own [] b low high = absurd (omega (arith, low, high))
number_key t k q own (term ∷ terms) b low high = ⊎_elim
    (λ (e : b ≡ k). inl (ap (λ z. z ∷ t) e))
    (λ (ne : b ≢ k). inr (number_key t (suc k) q own terms b (omega (arith, low, ne)) (omega (arith, high))))
    (cases_number b k)

-- a new thread, as its list says
pub kid_at : (p : Program) (y : Types) (w : World) (t : Name) (lent : List Name) (hi m0 : ℕ) (v : World) (own : ℕ) (kin : Kin) (k : ℕ) (q : Name)
    (terms : List Term) (u : Name) (m : Thread) → AreFineKids p y w t lent hi m0 v own kin k terms → IsEntry u m (new_threads t k q own terms)
    → FineTerm y p.main u kin.lent v no_types 0 m.objects m.term (Valued kin.result) × (m.asked ≡ None) × (m.home ≡ q)
kid_at p y w t lent hi m0 v own kin k q [] u m fine h = absurd h
kid_at p y w t lent hi m0 v own kin k q (term ∷ terms) u m fine h = ⊎_elim
    (λ (a : (u ≡ k ∷ t) × (m ≡ record { home = q; term = term; asked = None; threads = 0; objects = own; inside = [] })). (
      subst (λ z. FineTerm y p.main z kin.lent v no_types 0 m.objects m.term (Valued kin.result)) (sym a.0)
          (subst (λ (z : Thread). FineTerm y p.main (k ∷ t) kin.lent v no_types 0 z.objects z.term (Valued kin.result)) (sym a.1) fine.0),
      ap (λ (z : Thread). z.asked) a.1,
      ap (λ (z : Thread). z.home) a.1,
    ))
    (λ (b : IsEntry u m (new_threads t (suc k) q own terms)). kid_at p y w t lent hi m0 v own kin (suc k) q terms u m fine.1 b)
    h

pub own_is : (h : Shapes) (t : Name) (l : Thread) (ask : Ask Name) (found : List Value) → (effect h t l ask found).own ≡ own_of h ask
own_is h t l (Reads remote a) found = refl
own_is h t l (Writes remote a v) found = refl
own_is h t l (Copies a n) found = refl
own_is h t l (Indexes a n i) found = refl
own_is h t l (Shifts a i) found = refl
own_is h t l (Computes op vs) found = refl
own_is h t l Tests found = refl
own_is h t l (Makes kind n) found = refl
own_is h t l (MakesWith kind v) found = refl
own_is h t l (Builds c vs) found = refl
own_is h t l (Enters f o vs) found = refl
own_is h t l Leaves found = refl
own_is h t l (ForksAll n) found = refl
own_is h t l (ForksOne v) found = refl
own_is h t l (Joins made) found = refl
own_is h t l (Spawns f o vs) found = refl
own_is h t l (Prints parts vs) found = refl
own_is h t l (Calls f o vs) found = refl
own_is h t l (Casts f o vs) found = refl
own_is h t l (NewProcessor c vs) found = refl

module _ (p : Program) (y : Types) (det : IsDeterminate p y) (w : World) (s : Config) (owned : IsOwned p y w s) (free : NamesAreFree s)
    (t : Name) (l : Thread) (k : Kin) (live : fin.get s.threads t ≡ Some (Live l)) (kin_t : fin.get w.kin t ≡ Some k) where
  abbrev pub h : Shapes
  h = shapes p

  abbrev pub FineAsk : Gift → Ask Name → Type 0
  FineAsk = IsFineAsk p y w t k.lent l.objects l.threads 0 (PendTerm l.term)

  -- what is read has its type
  pub read_fits : (a : Value) (q : Sort) (sync : Bool) (u : ValueType) (v : World) → Grows w v → HasSort w y t k.lent a q → IsCell y q sync u
      → (r : List Value) → check h s t l (Filled a) ≡ Go r → Fits v (first r) u
  read_fits a q sync u v g has is_cell r e =
      let f = filled_found h s t l a r e in
      let to = subst (λ z. HasSort w y t k.lent z q) f.2.2 has in
      subst (λ z. Fits v (first z) u) (sym f.1)
      (fits_more w v g f.0 u (⊎_elim
      (λ (c : cell s f.2.0 f.2.1 ≡ Some (Plain f.0)).
      (stored_cell p y det w s owned t k.lent f.2.0 f.2.1 q sync u (Plain f.0) to is_cell c).1)
      (λ (c : cell s f.2.0 f.2.1 ≡ Some (Full f.0)).
      (stored_cell p y det w s owned t k.lent f.2.0 f.2.1 q sync u (Full f.0) to is_cell c).1)
      f.2.3))

  pub enters_values : (f' : ℕ) (o : Value) (vs : List Value) (g : Gift) (found : List Value) → FineAsk g (Enters f' o vs)
      → check_all h s t l (needs h (Enters f' o vs)) ≡ Go found → (v : World)
      → v.types ≡ puts (typed (effect h t l (Enters f' o vs) found).objects g.makes) w.types
      → ValuesOf p y w t k.lent l.objects l.threads v g (Enters f' o vs) (addresses (effect h t l (Enters f' o vs) found).objects ++ found)
  enters_values f' o vs g found f met v e =
      let params = (function_shape h f').params in
      let objs = parameters t l.objects l.home params vs in
      let ok : AreParameters (function_types y f').vars 0 params (function_types y f').params =
      subst (λ (z : FunShape). AreParameters (function_types y f').vars 0 z.params (function_types y f').params) (sym (shape_is p f')) (det.parameters f') in
      let len : length g.makes ≡ length params = ap length f.0 ∙ length_types (function_types y f').vars 0 params (function_types y f').params ok in
      let none = entered_found h s t l f' o vs found met in (
        made_more v t l.objects g.makes (addresses objs) found (made_parameters v t l.objects l.home params vs g.makes w.types e len),
        ap (λ z. length (addresses objs ++ z)) none
            ∙ (ap length (append-nil (addresses objs)) ∙ (length_addresses objs ∙ (length_parameters t l.objects l.home params vs ∙ sym len))),
      )

  pub built : (c : ℕ) (vs : List Value) → AllFit w vs (get_or y.makers c []) → (cells : List Cell) × (construct same_name (class_shape h c) vs ≡ Gives cells)
      → (v : World) → Grows w v → CellsFit v y (Instance c) (constructed (construct same_name (class_shape h c) vs))
  built c vs fit made v grows =
      subst (CellsFit v y (Instance c)) (sym (ap constructed made.1))
      (constructed_fit v y c vs (get_or y.makers c []) (all_fit_more w v grows vs (get_or y.makers c []) fit) (class_shape h c) refl
      (det.runs c) (det.sets c) made.0 made.1)

  pub copy_fits : (b : Value) (u : ValueType) (found : List Value) → HasSort w y t k.lent b (NamedCell u)
      → check_all h s t l (needs h (ForksOne b)) ≡ Go found → (v : World) → Grows w v → CellsFit v y (Named u) (Plain (first found) ∷ [])
  copy_fits b u found has met v grows =
      let r = copy_found h s t l b found met in
      one_cell v y (Named u) (Plain (first found)) (λ x. (
        refl,
        subst (λ z. Fits v (first z) u) (sym r.2) (read_fits b (NamedCell u) false u v grows has (refl, refl) r.0 r.1),
      ))

  pub home_place : (o : Value) → IsPlace s (home s o)
  home_place Void = inl refl
  home_place (Int n) = inl refl
  home_place Null = inl refl
  home_place (Ptr o x) = from (fin.get s.objects o) refl
    where
      from : (a : Option Object) → fin.get s.objects o ≡ a → IsPlace s (home_of a)
      from None e = inl refl
      from (Some a) e = owned.homes o a e

  pub parameter_home : (n : ℕ) (params : List (List Kind)) (vs : List Value) (o : Name) (x : Object)
      → IsEntry o x (parameters t n l.home params vs) → x.home ≡ l.home
  parameter_home n [] vs o x e = absurd e
  parameter_home n (kinds ∷ more) vs o x e = ⊎_elim
      (λ (a : (o ≡ n ∷ t) × (x ≡ _)). ap (λ (z : Object). z.home) a.1)
      (λ (b : IsEntry o x (parameters t (suc n) l.home more (drop (length kinds) vs))).
      parameter_home (suc n) more (drop (length kinds) vs) o x b)
      e

  -- the values of an answer
  pub values_of : (ask : Ask Name) (g : Gift) (found : List Value) → FineAsk g ask → check_all h s t l (needs h ask) ≡ Go found → (v : World)
      → v.types ≡ puts (typed (effect h t l ask found).objects g.makes) w.types → Grows w v
      → ValuesOf p y w t k.lent l.objects l.threads v g ask (addresses (effect h t l ask found).objects ++ found)
  values_of (Reads remote a) g found f met v e grows = let r = read_found h s t l remote a found met in subst (λ z. Fits v (first z) g.reads) (sym r.2) (read_fits a f.0 f.1 g.reads v grows f.2 f.3 r.0 r.1)
  values_of (Writes remote a b) g found f met v e grows = tt
  values_of (Copies a n) g found f met v e grows = tt
  values_of (Indexes a n i) g found f met v e grows = index_found h s t l a n i found met
  values_of (Shifts a i) g found f met v e grows = shift_found h s t l a i found met
  values_of (Computes op vs) g found f met v e grows = compute_found h s t l op vs found met
  values_of Tests g found f met v e grows = tt
  values_of (Makes kind n) g found f met v e grows = subst (λ ms. AreMade v t l.objects ms (Ptr (l.objects ∷ t) 0 ∷ found)) (sym f.1) (refl, ap (λ z. fin.get z (l.objects ∷ t)) e ∙ types_at_one w.types (l.objects ∷ t) (record { home = l.home; cells = replicate n (fresh kind) }) f.0 g.makes f.1, tt)
  values_of (MakesWith kind b) g found f met v e grows = subst (λ ms. AreMade v t l.objects ms (Ptr (l.objects ∷ t) 0 ∷ found)) (sym f.1) (refl, ap (λ z. fin.get z (l.objects ∷ t)) e ∙ types_at_one w.types (l.objects ∷ t) (record { home = l.home; cells = started kind b ∷ [] }) f.0 g.makes f.1, tt)
  values_of (Builds c vs) g found f met v e grows = subst (λ ms. AreMade v t l.objects ms (Ptr (l.objects ∷ t) 0 ∷ found)) (sym f.0) (refl, ap (λ z. fin.get z (l.objects ∷ t)) e ∙ types_at_one w.types (l.objects ∷ t) (record { home = l.home; cells = constructed (construct same_name (class_shape h c) vs) }) (Instance c) g.makes f.0, tt)
  values_of (Enters f' o vs) g found f met v e grows = enters_values f' o vs g found f met v e
  values_of Leaves g found f met v e grows = tt
  values_of (ForksAll n) g found f met v e grows = tt
  values_of (ForksOne b) g found f met v e grows = subst (λ ms. AreMade v (l.threads ∷ t) 0 ms (Ptr (0 ∷ (l.threads ∷ t)) 0 ∷ found)) (sym f.1) (refl, ap (λ z. fin.get z (0 ∷ (l.threads ∷ t))) e ∙ types_at_one w.types (0 ∷ (l.threads ∷ t)) (record { home = l.home; cells = Plain (first found) ∷ [] }) (Named f.0) g.makes f.1, tt)
  values_of (Joins made) g found f met v e grows = tt
  values_of (Spawns f' o vs) g found f met v e grows = tt
  values_of (Prints parts vs) g found f met v e grows = tt
  values_of (Calls f' o vs) g found f met v e grows = subst (λ z. Fits v (first z) g.reads) (sym (called_found h s t l f' o vs found met)) tt
  values_of (Casts f' o vs) g found f met v e grows = tt
  values_of (NewProcessor c vs) g found f met v e grows = subst (λ ms. AreMade v t l.objects ms (Ptr (l.objects ∷ t) 0 ∷ found)) (sym f.0) (refl, ap (λ z. fin.get z (l.objects ∷ t)) e ∙ types_at_one w.types (l.objects ∷ t) (record { home = l.objects ∷ t; cells = constructed (construct same_name (class_shape h c) vs) }) (Instance c) g.makes f.0, tt)

  -- the objects that an ask makes have their types
  pub objects_fit : (ask : Ask Name) (g : Gift) (found : List Value) → FineAsk g ask → check_all h s t l (needs h ask) ≡ Go found → (v : World)
      → Grows w v → AreFineObjects v y (effect h t l ask found).objects g.makes
  objects_fit (Reads remote a) g found f met v grows = tt
  objects_fit (Writes remote a b) g found f met v grows = tt
  objects_fit (Copies a n) g found f met v grows = tt
  objects_fit (Indexes a n i) g found f met v grows = tt
  objects_fit (Shifts a i) g found f met v grows = tt
  objects_fit (Computes op vs) g found f met v grows = tt
  objects_fit Tests g found f met v grows = tt
  objects_fit (Makes kind n) g found f met v grows = subst (λ ms. AreFineObjects v y (effect h t l (Makes kind n) found).objects ms) (sym f.1) (fresh_object v y kind n f.0 f.2, tt)
  objects_fit (MakesWith kind b) g found f met v grows = subst (λ ms. AreFineObjects v y (effect h t l (MakesWith kind b) found).objects ms) (sym f.1) (started_object v y kind b f.0 f.2 (fits_more w v grows b (content f.0) f.3), tt)
  objects_fit (Builds c vs) g found f met v grows = subst (λ ms. AreFineObjects v y (effect h t l (Builds c vs) found).objects ms) (sym f.0) (built c vs f.1 (constructs h s t l (Builds c vs) found met) v grows, tt)
  objects_fit (Enters f' o vs) g found f met v grows = subst (λ ms. AreFineObjects v y (effect h t l (Enters f' o vs) found).objects ms) (sym f.0)
      (parameters_fit v y (function_types y f').vars 0 t l.objects l.home (function_shape h f').params vs (function_types y f').params
      (subst (λ (z : FunShape). AreParameters (function_types y f').vars 0 z.params (function_types y f').params) (sym (shape_is p f')) (det.parameters f'))
      (all_fit_more w v grows vs (function_types y f').params f.1))
  objects_fit Leaves g found f met v grows = tt
  objects_fit (ForksAll n) g found f met v grows = tt
  objects_fit (ForksOne b) g found f met v grows = subst (λ ms. AreFineObjects v y (effect h t l (ForksOne b) found).objects ms) (sym f.1) (copy_fits b f.0 found f.2 met v grows, tt)
  objects_fit (Joins made) g found f met v grows = tt
  objects_fit (Spawns f' o vs) g found f met v grows = tt
  objects_fit (Prints parts vs) g found f met v grows = tt
  objects_fit (Calls f' o vs) g found f met v grows = tt
  objects_fit (Casts f' o vs) g found f met v grows = tt
  objects_fit (NewProcessor c vs) g found f met v grows = subst (λ ms. AreFineObjects v y (effect h t l (NewProcessor c vs) found).objects ms) (sym f.0) (built c vs f.1 (constructs h s t l (NewProcessor c vs) found met) v grows, tt)

  -- the threads that start with a call
  pub started_fine : (g : Gift) (f : ℕ) (o : Value) (vs : List Value) (u : Name) (v : World) → Grows w v
      → IsStart p y w t k.lent l.objects l.threads g f o vs
      → FineTerm y p.main u g.kin.lent v no_types 0 0 (Starts f o vs) (Valued g.kin.result)
  started_fine g f o vs u v grows st =
      (st.0, ap Valued st.3, (λ c e. fits_more w v grows o (AnAddress (ObjectOf c)) (st.1 c e)), all_fit_more w v grows vs (function_types y f).params st.2)

  pub no_terms : (terms : List Term) → length terms ≡ 0 → (v : World) (own : ℕ) (kin : Kin) (n : ℕ)
      → AreFineKids p y w t k.lent l.objects l.threads v own kin n terms
  no_terms [] e v own kin n = tt
  no_terms (term ∷ terms) e v own kin n = absurd (omega (arith, e))

  pub kids_of : (ask : Ask Name) (g : Gift) (found : List Value) (branches : List Term) → FineAsk g ask → length branches ≡ branch_count ask
      → (v : World) → Grows w v → AreFineKids p y w t k.lent l.objects l.threads v (first_objects ask) g.kin l.threads branches
      → AreFineKids p y w t k.lent l.objects l.threads v (first_objects ask) g.kin l.threads ((effect h t l ask found).starts ++ branches)
  kids_of (Reads remote a) g found branches f len v grows kids = kids
  kids_of (Writes remote a b) g found branches f len v grows kids = kids
  kids_of (Copies a n) g found branches f len v grows kids = kids
  kids_of (Indexes a n i) g found branches f len v grows kids = kids
  kids_of (Shifts a i) g found branches f len v grows kids = kids
  kids_of (Computes op vs) g found branches f len v grows kids = kids
  kids_of Tests g found branches f len v grows kids = kids
  kids_of (Makes kind n) g found branches f len v grows kids = kids
  kids_of (MakesWith kind b) g found branches f len v grows kids = kids
  kids_of (Builds c vs) g found branches f len v grows kids = kids
  kids_of (Enters f' o vs) g found branches f len v grows kids = kids
  kids_of Leaves g found branches f len v grows kids = kids
  kids_of (ForksAll n) g found branches f len v grows kids = kids
  kids_of (ForksOne b) g found branches f len v grows kids = kids
  kids_of (Joins made) g found branches f len v grows kids = kids
  kids_of (Spawns f' o vs) g found branches f len v grows kids = (started_fine g f' o vs (l.threads ∷ t) v grows f, no_terms branches len v 0 g.kin (suc l.threads))
  kids_of (Prints parts vs) g found branches f len v grows kids = kids
  kids_of (Calls f' o vs) g found branches f len v grows kids = (started_fine g f' o vs (l.threads ∷ t) v grows f.0, no_terms branches len v 0 g.kin (suc l.threads))
  kids_of (Casts f' o vs) g found branches f len v grows kids = (started_fine g f' o vs (l.threads ∷ t) v grows f.0, no_terms branches len v 0 g.kin (suc l.threads))
  kids_of (NewProcessor c vs) g found branches f len v grows kids = kids

  -- threads are made by forks, or are lent nothing
  pub starts_or : (ask : Ask Name) (g : Gift) (found : List Value) → FineAsk g ask
      → (length (effect h t l ask found).starts ≡ 0) ⊎ (g.kin.lent ≡ [])
  starts_or (Reads remote a) g found f = inl refl
  starts_or (Writes remote a v) g found f = inl refl
  starts_or (Copies a n) g found f = inl refl
  starts_or (Indexes a n i) g found f = inl refl
  starts_or (Shifts a i) g found f = inl refl
  starts_or (Computes op vs) g found f = inl refl
  starts_or Tests g found f = inl refl
  starts_or (Makes kind n) g found f = inl refl
  starts_or (MakesWith kind v) g found f = inl refl
  starts_or (Builds c vs) g found f = inl refl
  starts_or (Enters f' o vs) g found f = inl refl
  starts_or Leaves g found f = inl refl
  starts_or (ForksAll n) g found f = inl refl
  starts_or (ForksOne v) g found f = inl refl
  starts_or (Joins made) g found f = inl refl
  starts_or (Spawns f' o vs) g found f = inr f.4
  starts_or (Prints parts vs) g found f = inl refl
  starts_or (Calls f' o vs) g found f = inr f.0.4
  starts_or (Casts f' o vs) g found f = inr f.0.4
  starts_or (NewProcessor c vs) g found f = inl refl

  -- branches that an ask joins have ended
  pub joined_ended : (ask : Ask Name) (found : List Value) → check_all h s t l (needs h ask) ≡ Go found → (b : ℕ) → IsJoined ask b
      → (v : Value) × (fin.get s.threads (b ∷ t) ≡ Some (Ended v))
  joined_ended (Reads remote a) found met b j = absurd j
  joined_ended (Writes remote a v) found met b j = absurd j
  joined_ended (Copies a n) found met b j = absurd j
  joined_ended (Indexes a n i) found met b j = absurd j
  joined_ended (Shifts a i) found met b j = absurd j
  joined_ended (Computes op vs) found met b j = absurd j
  joined_ended Tests found met b j = absurd j
  joined_ended (Makes kind n) found met b j = absurd j
  joined_ended (MakesWith kind v) found met b j = absurd j
  joined_ended (Builds c vs) found met b j = absurd j
  joined_ended (Enters f o vs) found met b j = absurd j
  joined_ended Leaves found met b j = absurd j
  joined_ended (ForksAll n) found met b j = absurd j
  joined_ended (ForksOne v) found met b j = absurd j
  joined_ended (Joins made) found met b j = joined_one s t made b (all_done h s t l made found met) j
  joined_ended (Spawns f o vs) found met b j = absurd j
  joined_ended (Prints parts vs) found met b j = absurd j
  joined_ended (Calls f o vs) found met b j = absurd j
  joined_ended (Casts f o vs) found met b j = absurd j
  joined_ended (NewProcessor c vs) found met b j = absurd j

  -- where what is made is
  pub start_place : (ask : Ask Name) → IsPlace s (start_home s l ask)
  start_place (Reads remote a) = owned.places t l live
  start_place (Writes remote a v) = owned.places t l live
  start_place (Copies a n) = owned.places t l live
  start_place (Indexes a n i) = owned.places t l live
  start_place (Shifts a i) = owned.places t l live
  start_place (Computes op vs) = owned.places t l live
  start_place Tests = owned.places t l live
  start_place (Makes kind n) = owned.places t l live
  start_place (MakesWith kind v) = owned.places t l live
  start_place (Builds c vs) = owned.places t l live
  start_place (Enters f o vs) = owned.places t l live
  start_place Leaves = owned.places t l live
  start_place (ForksAll n) = owned.places t l live
  start_place (ForksOne v) = owned.places t l live
  start_place (Joins made) = owned.places t l live
  start_place (Spawns f o vs) = owned.places t l live
  start_place (Prints parts vs) = owned.places t l live
  start_place (Calls f o vs) = home_place o
  start_place (Casts f o vs) = home_place o
  start_place (NewProcessor c vs) = owned.places t l live

  pub object_places : (ask : Ask Name) (found : List Value) (o : Name) (x : Object) → IsEntry o x (effect h t l ask found).objects
      → (x.home ≡ l.home) ⊎ IsKey x.home (effect h t l ask found).objects
  object_places (Reads remote a) found o x e = absurd e
  object_places (Writes remote a v) found o x e = absurd e
  object_places (Copies a n) found o x e = absurd e
  object_places (Indexes a n i) found o x e = absurd e
  object_places (Shifts a i) found o x e = absurd e
  object_places (Computes op vs) found o x e = absurd e
  object_places Tests found o x e = absurd e
  object_places (Makes kind n) found o x e = ⊎_elim (λ (a : (o ≡ _) × (x ≡ _)). inl (ap (λ (z : Object). z.home) a.1)) (λ (b : ⊥). absurd b) e
  object_places (MakesWith kind v) found o x e = ⊎_elim (λ (a : (o ≡ _) × (x ≡ _)). inl (ap (λ (z : Object). z.home) a.1)) (λ (b : ⊥). absurd b) e
  object_places (Builds c vs) found o x e = ⊎_elim (λ (a : (o ≡ _) × (x ≡ _)). inl (ap (λ (z : Object). z.home) a.1)) (λ (b : ⊥). absurd b) e
  object_places (Enters f o' vs) found o x e = inl (parameter_home l.objects (function_shape h f).params vs o x e)
  object_places Leaves found o x e = absurd e
  object_places (ForksAll n) found o x e = absurd e
  object_places (ForksOne v) found o x e = ⊎_elim (λ (a : (o ≡ _) × (x ≡ _)). inl (ap (λ (z : Object). z.home) a.1)) (λ (b : ⊥). absurd b) e
  object_places (Joins made) found o x e = absurd e
  object_places (Spawns f o' vs) found o x e = absurd e
  object_places (Prints parts vs) found o x e = absurd e
  object_places (Calls f o' vs) found o x e = absurd e
  object_places (Casts f o' vs) found o x e = absurd e
  object_places (NewProcessor c vs) found o x e = ⊎_elim (λ (a : (o ≡ l.objects ∷ t) × (x ≡ _)). inr (inl (ap (λ (z : Object). z.home) a.1))) (λ (b : ⊥). absurd b) e

  -- an ask that waits for its call
  pub call_kin : (ask : Ask Name) (g : Gift) → FineAsk g ask → is_call ask ≡ true → IsCallOf y ask g.kin.result
  call_kin (Reads remote a) g f e = let c : false ≡ true = e in cc
  call_kin (Writes remote a v) g f e = let c : false ≡ true = e in cc
  call_kin (Copies a n) g f e = let c : false ≡ true = e in cc
  call_kin (Indexes a n i) g f e = let c : false ≡ true = e in cc
  call_kin (Shifts a i) g f e = let c : false ≡ true = e in cc
  call_kin (Computes op vs) g f e = let c : false ≡ true = e in cc
  call_kin Tests g f e = let c : false ≡ true = e in cc
  call_kin (Makes kind n) g f e = let c : false ≡ true = e in cc
  call_kin (MakesWith kind v) g f e = let c : false ≡ true = e in cc
  call_kin (Builds c vs) g f e = let c : false ≡ true = e in cc
  call_kin (Enters f' o vs) g f e = let c : false ≡ true = e in cc
  call_kin Leaves g f e = let c : false ≡ true = e in cc
  call_kin (ForksAll n) g f e = let c : false ≡ true = e in cc
  call_kin (ForksOne v) g f e = let c : false ≡ true = e in cc
  call_kin (Joins made) g f e = let c : false ≡ true = e in cc
  call_kin (Spawns f' o vs) g f e = let c : false ≡ true = e in cc
  call_kin (Prints parts vs) g f e = let c : false ≡ true = e in cc
  call_kin (Calls f' o vs) g f e = f.0.3
  call_kin (Casts f' o vs) g f e = let c : false ≡ true = e in cc
  call_kin (NewProcessor c vs) g f e = let c : false ≡ true = e in cc

  pub call_starts : (ask : Ask Name) (found : List Value) → is_call ask ≡ true → length (effect h t l ask found).starts ≡ 1
  call_starts (Reads remote a) found e = let c : false ≡ true = e in cc
  call_starts (Writes remote a v) found e = let c : false ≡ true = e in cc
  call_starts (Copies a n) found e = let c : false ≡ true = e in cc
  call_starts (Indexes a n i) found e = let c : false ≡ true = e in cc
  call_starts (Shifts a i) found e = let c : false ≡ true = e in cc
  call_starts (Computes op vs) found e = let c : false ≡ true = e in cc
  call_starts Tests found e = let c : false ≡ true = e in cc
  call_starts (Makes kind n) found e = let c : false ≡ true = e in cc
  call_starts (MakesWith kind v) found e = let c : false ≡ true = e in cc
  call_starts (Builds c vs) found e = let c : false ≡ true = e in cc
  call_starts (Enters f o vs) found e = let c : false ≡ true = e in cc
  call_starts Leaves found e = let c : false ≡ true = e in cc
  call_starts (ForksAll n) found e = let c : false ≡ true = e in cc
  call_starts (ForksOne v) found e = let c : false ≡ true = e in cc
  call_starts (Joins made) found e = let c : false ≡ true = e in cc
  call_starts (Spawns f o vs) found e = let c : false ≡ true = e in cc
  call_starts (Prints parts vs) found e = let c : false ≡ true = e in cc
  call_starts (Calls f o vs) found e = refl
  call_starts (Casts f o vs) found e = let c : false ≡ true = e in cc
  call_starts (NewProcessor c vs) found e = let c : false ≡ true = e in cc

  pub call_own : (ask : Ask Name) (found : List Value) → is_call ask ≡ true → (effect h t l ask found).own ≡ 0
  call_own (Reads remote a) found e = let c : false ≡ true = e in cc
  call_own (Writes remote a v) found e = let c : false ≡ true = e in cc
  call_own (Copies a n) found e = let c : false ≡ true = e in cc
  call_own (Indexes a n i) found e = let c : false ≡ true = e in cc
  call_own (Shifts a i) found e = let c : false ≡ true = e in cc
  call_own (Computes op vs) found e = let c : false ≡ true = e in cc
  call_own Tests found e = let c : false ≡ true = e in cc
  call_own (Makes kind n) found e = let c : false ≡ true = e in cc
  call_own (MakesWith kind v) found e = let c : false ≡ true = e in cc
  call_own (Builds c vs) found e = let c : false ≡ true = e in cc
  call_own (Enters f o vs) found e = let c : false ≡ true = e in cc
  call_own Leaves found e = let c : false ≡ true = e in cc
  call_own (ForksAll n) found e = let c : false ≡ true = e in cc
  call_own (ForksOne v) found e = let c : false ≡ true = e in cc
  call_own (Joins made) found e = let c : false ≡ true = e in cc
  call_own (Spawns f o vs) found e = let c : false ≡ true = e in cc
  call_own (Prints parts vs) found e = let c : false ≡ true = e in cc
  call_own (Calls f o vs) found e = refl
  call_own (Casts f o vs) found e = let c : false ≡ true = e in cc
  call_own (NewProcessor c vs) found e = let c : false ≡ true = e in cc
