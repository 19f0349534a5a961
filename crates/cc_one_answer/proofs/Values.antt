-- The sorts of values, and the variables that a thread makes.
use Rattle.std.proofs.Common.{◌≡◌, ◌≢◌, ◌⊎◌, ℕ, zero, suc, ◌+◌, ◌<◌, ◌≤◌, Bool, true, false, cond, List, [], ◌∷◌, length, Option, Some, refl, sym, ap, subst, ◌∙◌}
use Rattle.std.proofs.Common.{⊎_elim, inl, inr, arith}
use Rattle.std.specs.Prelude.{slice_get, get_or, set, min, map}
use Rattle.std.specs.FinMap as fin
use Rattle.cc_ops.specs.Values as values
use Rattle.cc_ops.specs.Values.{Constant, VoidC, IntC, NullC, constant, Void, Int, Null, Ptr, Plain, Empty as EmptyCell, Full, Result, Gives, Fails, first, second, after_first, moved, last_offset, resized, sent, no_void, as_kind, as_kinds, is_zero, int_of}
use Rattle.cc_ops.specs.declared.kind.Kind.{Kind}
use Rattle.cc_core.specs.Names.{Name, Value}
use Rattle.cc_core.specs.Core.{Env}
use Rattle.cc_core.specs.Core.{Program, Function, shapes, function, function_shape}
use Rattle.cc_core.specs.Next.{variable}
use Rattle.cc_core.specs.Types.{ValueType, AnAddress, Target, Cells, ObjectOf, Types}
use Rattle.cc_one_answer.specs.Sorts.{Sort, Valued, NamedCell, MemberAt, MemberCell, is_sync, member, IsElement, ObjectType, Named, Uniform, Instance}
use Rattle.cc_one_answer.specs.Sorts.{World, IsNameIn, IsMine, Leads, Fits, AllFit, LeadsTo, HasSort}
use Rattle.cc_one_answer.specs.Owned.{IsOwnAt, IsEntryOf, IsEntry}
use Rattle.cc_ops.specs.Classes.{all_kinds}
use Rattle.cc_ops.specs.declared.kind.Kind.TheVariants.{Int as IntK, SyncInt as SyncIntK, Ptr as PtrK, SyncPtr as SyncPtrK}
use Rattle.cc_core.specs.Core.{no_shape, no_function}
use Rattle.cc_one_answer.specs.Determinate.{AreParameters}
use Rattle.cc_one_answer.proofs.Fine.{type_of, Holds, content, parameter_types, IsNumber, IsShifted, AreMade}

some_target : (a b : Target) → Some a ≡ Some b → a ≡ b
some_target a b e = cc

some_object : (a b : ObjectType) → Some a ≡ Some b → a ≡ b
some_object a b e = cc

pub not_uniform : (u v : ValueType) (sync : Bool) → Some (Uniform sync u) ≡ Some (Named v) → ⊥
not_uniform u v sync e = cc

pub not_instance : (c : ℕ) (v : ValueType) → Some (Instance c) ≡ Some (Named v) → ⊥
not_instance c v e = cc

pub null_no_pointer : (o : Name) (x : ℕ) → ◌≡◌ {A = Value} Null (Ptr o x) → ⊥
null_no_pointer o x e = cc

pub same_pointer : (o q : Name) (x z : ℕ) → ◌≡◌ {A = Value} (Ptr o x) (Ptr q z) → o ≡ q
same_pointer o q x z e = cc

pub cond_case : {A : Type 0} (P : A → Type 0) (b : Bool) (x z : A) → P x → P z → P (cond b x z)
cond_case P true x z a b = a
cond_case P false x z a b = b

capped : (x k : ℕ) → x + k ≤ last_offset → min (x + k) last_offset ≡ x + k
capped x k le = omega (arith, le)

pub own_moved : (t : Name) (lo : ℕ) (v : Value) (j : ℕ) → IsOwnAt t lo v → IsOwnAt t lo (moved v j)
own_moved t lo Void j h = tt
own_moved t lo (Int n) j h = tt
own_moved t lo Null j h = tt
own_moved t lo (Ptr o x) j h = h

module _ (w : World) (y : Types) (t : Name) (lent : List Name) where
  abbrev H : Value → Sort → Type 0
  H = HasSort w y t lent

  pub constant_has : (c : Constant) (r : Sort) → H (constant c) r
  constant_has VoidC r = tt
  constant_has (IntC n) r = tt
  constant_has NullC r = tt

  pub fits_sort : (v : Value) (u : ValueType) → Fits w v u → H v (Valued u)
  fits_sort Void u h = h
  fits_sort (Int n) u h = h
  fits_sort Null u h = h
  fits_sort (Ptr o x) u h = h

  pub sort_fits : (v : Value) (u : ValueType) → H v (Valued u) → Fits w v u
  sort_fits Void u h = h
  sort_fits (Int n) u h = h
  sort_fits Null u h = h
  sort_fits (Ptr o x) u h = h

  pub number_has : (v : Value) (r : Sort) → IsNumber v → H v r
  number_has Void r h = tt
  number_has (Int n) r h = tt
  number_has Null r h = tt
  number_has (Ptr o x) r h = absurd h

  pub shifted_has : (a v : Value) (sync : Bool) (u : ValueType) → IsShifted a v → H a (Valued (AnAddress (Cells sync u)))
      → H v (Valued (AnAddress (Cells sync u)))
  shifted_has Void v sync u s h = absurd s
  shifted_has (Int n) v sync u s h = absurd s
  shifted_has Null v sync u s h = absurd s
  shifted_has (Ptr o x) v sync u s h = subst (λ z. H z (Valued (AnAddress (Cells sync u)))) (sym s.1) h

  pub member_moved : (v : Value) (c o : ℕ) → o ≤ last_offset → H v (Valued (AnAddress (ObjectOf c))) → H (moved v o) (MemberAt c o)
  member_moved Void c o le h = tt
  member_moved (Int n) c o le h = tt
  member_moved Null c o le h = tt
  member_moved (Ptr q x) c o le h =
      let zero_at = h.1 in
      let sum : x + o ≡ o = omega (arith, zero_at) in
      (h.0, capped x o (omega (arith, sum, le)) ∙ sum)

  element_at : (n : ℕ) (q r : Sort) (o : Name) (x j : ℕ) → IsElement y n q r → j < n → LeadsTo w y t lent o x q
      → LeadsTo w y t lent o (min (x + j) last_offset) r
  element_at n (Valued v) r o x j e lt h = subst (λ z. LeadsTo w y t lent o (min (x + j) last_offset) z) (sym e.3)
      (subst (λ z. Leads w o (min (x + j) last_offset) z) (sym e.2) (subst (λ z. Leads w o x z) e.2 h))
  element_at n (NamedCell u) r o x j e lt h = subst (λ z. LeadsTo w y t lent o (min (x + j) last_offset) z) (sym e) h
  element_at n (MemberAt c k) r o x j e lt h =
      let le = e.2 in let at = h.1 in
      let sum : x + j ≡ k + j = omega (arith, at) in
      let to : min (x + j) last_offset ≡ k + j = capped x j (omega (arith, sum, le, lt)) ∙ sum in
      subst (λ z. LeadsTo w y t lent o (min (x + j) last_offset) z) (sym e.4) (c, h.0, ap (member y c) to ∙ e.3 j lt)
  element_at n (MemberCell s u) r o x j e lt h = absurd e

  pub element_has : (n : ℕ) (q r : Sort) (v : Value) (j : ℕ) → IsElement y n q r → j < n → H v q → H (moved v j) r
  element_has n q r Void j e lt h = tt
  element_has n q r (Int i) j e lt h = tt
  element_has n q r Null j e lt h = tt
  element_has n q r (Ptr o x) j e lt h = element_at n q r o x j e lt h

  pub named_own : (v : Value) (u : ValueType) → H v (NamedCell u) → IsNumber v ⊎ ((o : Name) × (x : ℕ) × (v ≡ Ptr o x) × (fin.get w.types o ≡ Some (Named u)) × (IsMine t o ⊎ IsNameIn o lent))
  named_own Void u h = inl tt
  named_own (Int n) u h = inl tt
  named_own Null u h = inl tt
  named_own (Ptr o x) u h = inr (o, x, refl, h.0, h.1)

  -- values that are handed over

  pub no_void_fits : (v : Value) (u : ValueType) → Fits w v u → Fits w (no_void v) u
  no_void_fits Void u h = tt
  no_void_fits (Int n) u h = tt
  no_void_fits Null u h = tt
  no_void_fits (Ptr o x) u h = h

  pub sent_fits : (remote : Bool) (v : Value) (u : ValueType) → Fits w v u → Fits w (sent remote v) u
  sent_fits false v u h = h
  sent_fits true v u h = no_void_fits v u h

  pub no_voids_fit : (vs : List Value) (us : List ValueType) → AllFit w vs us → AllFit w (map no_void vs) us
  no_voids_fit vs [] h = ap (map no_void) h
  no_voids_fit [] (u ∷ us) h = h
  no_voids_fit (v ∷ vs) (u ∷ us) h = (no_void_fits v u h.0, no_voids_fit vs us h.1)

  address_fits : (v : Value) (u : ValueType) → Fits w v u → Fits w (values.address_of v) u
  address_fits Void u h = tt
  address_fits (Int n) u h = tt
  address_fits Null u h = tt
  address_fits (Ptr o x) u h = h

  as_kind_fits : (kind : Kind) (v : Value) (u : ValueType) → Fits w v u → Fits w (as_kind kind v) u
  as_kind_fits IntK v u h = tt
  as_kind_fits SyncIntK v u h = tt
  as_kind_fits PtrK v u h = address_fits v u h
  as_kind_fits SyncPtrK v u h = address_fits v u h

  pub kinds_fit : (vars : List Target) (k : ℕ) (params : List (List Kind)) (us : List ValueType) (vs : List Value)
      → AreParameters vars k params us → AllFit w vs us → AllFit w (as_kinds (all_kinds params) vs) us
  kinds_fit vars k [] us vs a h = subst (AllFit w []) (sym a) refl
  kinds_fit vars k ([] ∷ more) us vs a h = absurd a
  kinds_fit vars k ((kind ∷ other ∷ kinds) ∷ more) us vs a h = absurd a
  kinds_fit vars k ((kind ∷ []) ∷ more) us vs a h = subst (λ z. AllFit w (as_kinds (kind ∷ all_kinds more) vs) z) (sym a.2) (from vs (subst (AllFit w vs) a.2 h) (λ ws g. kinds_fit vars (suc k) more a.1 ws a.4 g))
    where
      from : (vs : List Value) → AllFit w vs (a.0 ∷ a.1) → ((ws : List Value) → AllFit w ws a.1 → AllFit w (as_kinds (all_kinds more) ws) a.1)
          → AllFit w (as_kinds (kind ∷ all_kinds more) vs) (a.0 ∷ a.1)
      from [] g again = absurd g
      from (v ∷ ws) g again = (as_kind_fits kind v a.0 g.0, again ws g.1)

-- a variable is set

pub set_here : (env : Env) (k : ℕ) (v : Value) → (variable (set env k v) k Null ≡ v) ⊎ (variable (set env k v) k Null ≡ Null)
set_here [] k v = inr refl
set_here (x ∷ env) zero v = inl refl
set_here (x ∷ env) (suc k) v = set_here env k v

pub set_other : (env : Env) (k j : ℕ) (v : Value) → j ≢ k → variable (set env k v) j Null ≡ variable env j Null
set_other [] k j v ne = refl
set_other (x ∷ env) zero zero v ne = absurd (ne refl)
set_other (x ∷ env) zero (suc j) v ne = refl
set_other (x ∷ env) (suc k) zero v ne = refl
set_other (x ∷ env) (suc k) (suc j) v ne = set_other env k j v (λ e. ne (ap suc e))

pub resized_case : (n : ℕ) (xs : List Value) (j : ℕ)
    → (variable (resized n xs) j Null ≡ variable xs j Null) ⊎ (variable (resized n xs) j Null ≡ Null)
resized_case zero xs j = inr refl
resized_case (suc n) [] zero = inl refl
resized_case (suc n) [] (suc j) = inr (none n j)
  where
    none : (n j : ℕ) → variable (resized {N = Name} n []) j Null ≡ Null
    none zero j = refl
    none (suc n) zero = refl
    none (suc n) (suc j) = none n j
resized_case (suc n) (x ∷ xs) zero = inl refl
resized_case (suc n) (x ∷ xs) (suc j) = resized_case n xs j

-- the objects that variables lead to
abbrev pub names_in : Env → List Name
names_in [] = []
names_in (Void ∷ env) = names_in env
names_in (Int n ∷ env) = names_in env
names_in (Null ∷ env) = names_in env
names_in (Ptr o x ∷ env) = o ∷ names_in env

pub name_there : (env : Env) (k : ℕ) (o : Name) (x : ℕ) → variable env k Null ≡ Ptr o x → IsNameIn o (names_in env)
name_there [] k o x e = absurd (null_no_pointer o x e)
name_there (Void ∷ env) zero o x e = let f : ◌≡◌ {A = Value} Void (Ptr o x) = e in cc
name_there (Void ∷ env) (suc k) o x e = name_there env k o x e
name_there (Int n ∷ env) zero o x e = let f : ◌≡◌ {A = Value} (Int n) (Ptr o x) = e in cc
name_there (Int n ∷ env) (suc k) o x e = name_there env k o x e
name_there (Null ∷ env) zero o x e = absurd (null_no_pointer o x e)
name_there (Null ∷ env) (suc k) o x e = name_there env k o x e
name_there (Ptr q z ∷ env) zero o x e = inl (sym (same_pointer q o z x e))
name_there (Ptr q z ∷ env) (suc k) o x e = inr (name_there env k o x e)

pub name_at : (env : Env) (o : Name) → IsNameIn o (names_in env) → (k : ℕ) × (x : ℕ) × (variable env k Null ≡ Ptr o x)
name_at [] o h = absurd h
name_at (Void ∷ env) o h = let r = name_at env o h in (suc r.0, r.1, r.2)
name_at (Int n ∷ env) o h = let r = name_at env o h in (suc r.0, r.1, r.2)
name_at (Null ∷ env) o h = let r = name_at env o h in (suc r.0, r.1, r.2)
name_at (Ptr q z ∷ env) o h = ⊎_elim
    (λ (a : o ≡ q). (0, z, ap (λ n. Ptr n z) (sym a)))
    (λ (b : IsNameIn o (names_in env)). let r = name_at env o b in (suc r.0, r.1, r.2))
    h

pub holds_kind : (kind : Kind) (u : ValueType) → Holds kind (type_of (Cells (is_sync kind) u))
holds_kind IntK u = refl
holds_kind SyncIntK u = refl
holds_kind PtrK u = refl
holds_kind SyncPtrK u = refl

pub content_is : (sync : Bool) (u : ValueType) → content (type_of (Cells sync u)) ≡ u
content_is false u = refl
content_is true u = refl

pub first_made : (v : World) (t : Name) (k : ℕ) (a : ObjectType) (more : List ObjectType) (xs : List Value) → AreMade v t k (a ∷ more) xs
    → (first xs ≡ Ptr (k ∷ t) 0) × (fin.get v.types (k ∷ t) ≡ Some a)
first_made v t k a more [] h = absurd h
first_made v t k a more (x ∷ xs) h = (h.0, h.1)

-- a thread's own new object, as a variable
module _ (y : Types) (main : ℕ) (t : Name) (lent : List Name) (v : World) (lo hi n : ℕ) (low : lo ≤ n) (high : n < hi) where
  entry_new : (a : Target) → fin.get v.types (n ∷ t) ≡ Some (type_of a) → IsEntryOf y main t lent v lo hi (n ∷ t) 0 (Some a)
  entry_new (Cells false u) h = (h, inl (n, refl, low, high))
  entry_new (Cells true u) h = h
  entry_new (ObjectOf c) h = (h, refl)

  pub entry_made : (z : Value) (b : Option Target) (a : Target) → z ≡ Ptr (n ∷ t) 0 → b ≡ Some a
      → fin.get v.types (n ∷ t) ≡ Some (type_of a) → IsEntry y main t lent v lo hi z b
  entry_made z b a e f h =
      subst (λ q. IsEntry y main t lent v lo hi q b) (sym e) (subst (IsEntryOf y main t lent v lo hi (n ∷ t) 0) (sym f) (entry_new a h))

  pub own_made : (z : Value) → z ≡ Ptr (n ∷ t) 0 → IsOwnAt t lo z
  own_made z e = subst (IsOwnAt t lo) (sym e) (n, refl, low)

-- the variables of a function that is entered
module _ (y : Types) (main : ℕ) (t : Name) (lent : List Name) (v : World) (lo hi : ℕ) where
  none_made : (vars : List Target) (k : ℕ) (xs : List Value) → length xs ≡ 0 → (j : ℕ)
      → IsEntry y main t lent v lo hi (variable xs j Null) (slice_get vars (k + j))
  none_made vars k [] e j = tt
  none_made vars k (x ∷ xs) e j = absurd (omega (arith, e))

  at_place : (vars : List Target) (z : Value) (m n : ℕ) → m ≡ n → IsEntry y main t lent v lo hi z (slice_get vars n)
      → IsEntry y main t lent v lo hi z (slice_get vars m)
  at_place vars z m n e h = subst (λ q. IsEntry y main t lent v lo hi z (slice_get vars q)) (sym e) h

  pub parameters_are : (vars : List Target) (k n : ℕ) → lo ≤ n → (params : List (List Kind)) (us : List ValueType) (xs : List Value)
      → n + length params ≤ hi → AreParameters vars k params us → AreMade v t n (parameter_types params us) xs
      → length xs ≡ length (parameter_types params us) → (j : ℕ)
      → IsEntry y main t lent v lo hi (variable xs j Null) (slice_get vars (k + j))
  parameters_are vars k n low [] us xs room a made len j = none_made vars k xs len j
  parameters_are vars k n low ([] ∷ more) us xs room a made len j = absurd a
  parameters_are vars k n low ((kind ∷ other ∷ kinds) ∷ more) us xs room a made len j = absurd a
  parameters_are vars k n low ((kind ∷ []) ∷ more) us xs room a made len j =
      from xs
      (subst (λ z. AreMade v t n (parameter_types ((kind ∷ []) ∷ more) z) xs) a.2 made)
      (len ∙ ap (λ z. length (parameter_types ((kind ∷ []) ∷ more) z)) a.2)
      j
      (λ zs made' len' i. parameters_are vars (suc k) (suc n) (omega (arith, low)) more a.1 zs (omega (arith, room)) a.4 made' len' i)
    where
      from : (xs : List Value) → AreMade v t n (type_of (Cells (is_sync kind) a.0) ∷ parameter_types more a.1) xs
          → length xs ≡ suc (length (parameter_types more a.1)) → (j : ℕ)
          → ((zs : List Value) → AreMade v t (suc n) (parameter_types more a.1) zs → length zs ≡ length (parameter_types more a.1) → (i : ℕ)
          → IsEntry y main t lent v lo hi (variable zs i Null) (slice_get vars (suc k + i)))
          → IsEntry y main t lent v lo hi (variable xs j Null) (slice_get vars (k + j))
      from [] m l j again = absurd m
      from (x ∷ zs) m l zero again =
          at_place vars x (k + 0) k (omega arith)
          (entry_made y main t lent v lo hi n low (omega (arith, room)) x (slice_get vars k) (Cells (is_sync kind) a.0) m.0 a.3 m.1)
      from (x ∷ zs) m l (suc i) again =
          at_place vars (variable zs i Null) (k + suc i) (suc k + i) (omega arith) (again zs m.2 (omega (arith, l)) i)

  pub parameters_own : (n : ℕ) → lo ≤ n → (makes : List ObjectType) (xs : List Value) → AreMade v t n makes xs → length xs ≡ length makes
      → (j : ℕ) → IsOwnAt t lo (variable xs j Null)
  parameters_own n low [] [] made len j = tt
  parameters_own n low [] (x ∷ xs) made len j = absurd (omega (arith, len))
  parameters_own n low (a ∷ makes) [] made len j = absurd made
  parameters_own n low (a ∷ makes) (x ∷ xs) made len zero = subst (IsOwnAt t lo) (sym made.0) (n, refl, low)
  parameters_own n low (a ∷ makes) (x ∷ xs) made len (suc j) =
      parameters_own (suc n) (omega (arith, low)) makes xs made.2 (omega (arith, len)) j

-- the shapes of a program are those of its functions
pub shape_is : (p : Program) (f : ℕ) → function_shape (shapes p) f ≡ (function p f).shape
shape_is p f = from p.functions f
  where
    from : (fs : List Function) (i : ℕ) → get_or (map (λ (g : Function). g.shape) fs) i no_shape ≡ (get_or fs i no_function).shape
    from [] i = refl
    from (g ∷ fs) zero = refl
    from (g ∷ fs) (suc i) = from fs i
