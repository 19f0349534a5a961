-- Values of types.
use Rattle.std.proofs.Common.{◌≡◌, ◌⊎◌, ℕ, zero, suc, ◌+◌, ◌≤◌, Bool, true, false, List, [], ◌∷◌, ◌++◌, length, Some, None, refl, sym, ap, subst, ◌∙◌}
use Rattle.std.proofs.Common.{⊎_elim, inl, inr, arith}
use Rattle.std.specs.Prelude.{slice_get, get_or, set, map, drop, min, ◌||◌}
use Rattle.cc_ops.specs.Values.{Constant, VoidC, IntC, NullC, constant, Void, Int, Null, Ptr, first, after_first, resized, moved, as_kind, as_kinds, no_void, sent, last_offset}
use Rattle.cc_ops.specs.Classes.{all_kinds}
use Rattle.cc_ops.specs.declared.kind.Kind.{Kind}
use Rattle.cc_ops.specs.declared.kind.Kind.TheVariants.{Int as IntK, SyncInt as SyncIntK, Ptr as PtrK, SyncPtr as SyncPtrK}
use Rattle.cc_core.specs.Names.{Name, Value}
use Rattle.cc_core.specs.Core.{Env}
use Rattle.core_types.specs.Types.{ValueType, NoValue, AnInt, Pointer, Target, ObjectOf, MemberOf, Types}
use Rattle.core_types.specs.Types.{IsKind, IsConstant, Serves, Crosses, AllCross, ComesBack, Passes, Allowed, addressed}
use Rattle.core_types.specs.Values.{IsNear, World, Leads, Fits, AllFit, EnvFits}
use Rattle.core_types.specs.Programs.{AreKinds, AreParameters}

-- different types

pub no_pointer : (remote : Bool) (a : Target) → Pointer remote a ≡ NoValue → ⊥
no_pointer remote a e = cc

pub no_int : (remote : Bool) (a : Target) → Pointer remote a ≡ AnInt → ⊥
no_int remote a e = cc

pub same_remote : (f g : Bool) (a b : Target) → Pointer f a ≡ Pointer g b → f ≡ g
same_remote f g a b e = cc

pub same_target : (f g : Bool) (a b : Target) → Pointer f a ≡ Pointer g b → a ≡ b
same_target f g a b e = cc

pub same_some : {X : Type 0} (x z : X) → Some x ≡ Some z → x ≡ z
same_some x z e = cc

pub some_not_none : {X : Type 0} (x : X) → Some x ≡ None → ⊥
some_not_none x e = cc

module _ (y : Types) (w : World) (q : Name) where
  pub null_fits : (remote : Bool) (a : Target) → Fits y w q Null (Pointer remote a)
  null_fits remote a = (remote, a, refl)

  pub leads_of : (o : Name) (x : ℕ) (remote : Bool) (a : Target) → Fits y w q (Ptr o x) (Pointer remote a) → Leads y w q o x remote a
  leads_of o x remote a f =
      subst (λ z. Leads y w q o x z a) (sym (same_remote remote f.0 a f.1 f.2))
      (subst (λ z. Leads y w q o x f.0 z) (sym (same_target remote f.0 a f.1 f.2)) f.3)

  pub pointer_fits : (o : Name) (x : ℕ) (remote : Bool) (a : Target) → Leads y w q o x remote a → Fits y w q (Ptr o x) (Pointer remote a)
  pointer_fits o x remote a l = (remote, a, refl, l)

  pub constant_fits : (c : Constant) (u : ValueType) → IsConstant c u → Fits y w q (constant c) u
  constant_fits VoidC u h = h
  constant_fits (IntC n) u h = h
  constant_fits NullC u h = h

  -- a local pointer is a global one
  pub local_is_global : (v : Value) (remote : Bool) (a : Target) → Fits y w q v (Pointer false a) → Fits y w q v (Pointer remote a)
  local_is_global Void remote a f = absurd (no_pointer false a f)
  local_is_global (Int n) remote a f = absurd (no_int false a f)
  local_is_global Null remote a f = (remote, a, refl)
  local_is_global (Ptr o x) remote a f = let l = leads_of o x false a f in (remote, a, refl, (l.0, l.1, l.2, near remote l.0.home l.3))
    where
      near : (remote : Bool) (home : Name) → home ≡ q → IsNear remote home q
      near true home e = tt
      near false home e = e

  pub serves : (v : Value) (t u : ValueType) → Fits y w q v t → Serves t u → Fits y w q v u
  serves v t u f s = ⊎_elim (λ (e : t ≡ u). subst (Fits y w q v) e f)
      (λ (e : (a : Target) × (t ≡ Pointer false a) × (u ≡ Pointer true a)).
      subst (Fits y w q v) (sym e.2) (local_is_global v true e.0 (subst (Fits y w q v) e.1 f))) s

  pub is_int : (v : Value) → Fits y w q v AnInt → (n : _) × (v ≡ Int n)
  is_int Void f = cc
  is_int (Int n) f = (n, refl)
  is_int Null f = absurd (no_int f.0 f.1 (sym f.2))
  is_int (Ptr o x) f = absurd (no_int f.0 f.1 (sym f.2))

  -- what crosses has its type everywhere
  pub crosses : (r : Name) (v : Value) (u : ValueType) → Crosses u → Fits y w q v u → Fits y w r v u
  crosses r Void u c f = f
  crosses r (Int n) u c f = f
  crosses r Null u c f = f
  crosses r (Ptr o x) u c f =
      let remote : f.0 ≡ true = subst Crosses f.2 c in
      let e : Leads y w q o x true f.1 = subst (λ z. Leads y w q o x z f.1) remote f.3 in
      let l : Leads y w r o x true f.1 = (e.0, e.1, e.2, tt) in
      (f.0, f.1, f.2, subst (λ z. Leads y w r o x z f.1) (sym remote) l)

  pub all_cross : (r : Name) (vs : List Value) (us : List ValueType) → AllCross us → AllFit y w q vs us → AllFit y w r vs us
  all_cross r vs [] c f = f
  all_cross r [] (u ∷ us) c f = f
  all_cross r (v ∷ vs) (u ∷ us) c f = (crosses r v u c.0 f.0, all_cross r vs us c.1 f.1)

  pub comes_back : (r : Name) (v : Value) (u : ValueType) → ComesBack u → Fits y w q v u → Fits y w r v u
  comes_back r v u c f = ⊎_elim
      (λ (e : u ≡ NoValue). subst (Fits y w r v) (sym e) (from v (subst (Fits y w q v) e f)))
      (λ (k : Crosses u). crosses r v u k f) c
    where
      from : (v : Value) → Fits y w q v NoValue → Fits y w r v NoValue
      from Void f = f
      from (Int n) f = f
      from Null f = f
      from (Ptr o x) f = absurd (no_pointer f.0 f.1 (sym f.2))

  -- what is sent is sent as it is

  pub no_void_same : (v : Value) (u : ValueType) → Crosses u → Fits y w q v u → no_void v ≡ v
  no_void_same Void u c f = absurd (subst Crosses f c)
  no_void_same (Int n) u c f = refl
  no_void_same Null u c f = refl
  no_void_same (Ptr o x) u c f = refl

  pub sent_fits : (remote : Bool) (v : Value) (u : ValueType) → Passes remote u → Fits y w q v u → Fits y w q (sent remote v) u
  sent_fits false v u h f = f
  sent_fits true v u h f = subst (λ z. Fits y w q z u) (sym (no_void_same v u h f)) f

  pub sent_all : (vs : List Value) (us : List ValueType) → AllCross us → AllFit y w q vs us → AllFit y w q (map no_void vs) us
  sent_all [] [] c f = refl
  sent_all (v ∷ vs) [] c f = cc
  sent_all [] (u ∷ us) c f = f
  sent_all (v ∷ vs) (u ∷ us) c f =
      (subst (λ z. Fits y w q z u) (sym (no_void_same v u c.0 f.0)) f.0, sent_all vs us c.1 f.1)

  pub as_int : (v : Value) → Fits y w q v AnInt → as_kind IntK v ≡ v
  as_int v f = let n = is_int v f in subst (λ z. as_kind IntK z ≡ z) (sym n.1) refl

  pub as_pointer : (v : Value) (remote : Bool) (a : Target) → Fits y w q v (Pointer remote a) → as_kind PtrK v ≡ v
  as_pointer Void remote a f = absurd (no_pointer remote a f)
  as_pointer (Int n) remote a f = absurd (no_int remote a f)
  as_pointer Null remote a f = refl
  as_pointer (Ptr o x) remote a f = refl

  pub kind_same : (kind : Kind) (u : ValueType) (v : Value) → IsKind kind u → Fits y w q v u → as_kind kind v ≡ v
  kind_same IntK u v k f = as_int v (subst (Fits y w q v) k f)
  kind_same SyncIntK u v k f = as_int v (subst (Fits y w q v) k f)
  kind_same PtrK u v k f = as_pointer v k.0 k.1 (subst (Fits y w q v) k.2 f)
  kind_same SyncPtrK u v k f = as_pointer v k.0 k.1 (subst (Fits y w q v) k.2 f)

  part_same : (kinds rest : List Kind) (these more : List ValueType) (vs : List Value) → AreKinds kinds these
      → AllFit y w q vs (these ++ more) → ((zs : List Value) → AllFit y w q zs more → as_kinds rest zs ≡ zs)
      → as_kinds (kinds ++ rest) vs ≡ vs
  part_same [] rest these more vs k f on = on vs (subst (λ z. AllFit y w q vs (z ++ more)) k f)
  part_same (kind ∷ kinds) rest these more [] k f on = absurd (subst (λ z. AllFit y w q [] (z ++ more)) k.5 f)
  part_same (kind ∷ kinds) rest these more (v ∷ vs) k f on =
      let g : AllFit y w q (v ∷ vs) (k.0 ∷ (k.1 ++ more)) = subst (λ z. AllFit y w q (v ∷ vs) (z ++ more)) k.5 f in
      let a = kind_same kind k.0 v k.2 g.0 in let b = part_same kinds rest k.1 more vs k.4 g.1 on in cc

  pub kinds_same : (kinds : List (List Kind)) (us : List ValueType) (vars : List Target) (vs : List Value) → AreParameters y kinds us vars
      → AllFit y w q vs us → as_kinds (all_kinds kinds) vs ≡ vs
  kinds_same [] us vars vs h f = sym (subst (AllFit y w q vs) h f)
  kinds_same (kinds ∷ more) us vars vs h f =
      part_same kinds (all_kinds more) h.1 h.2 vs h.4 (subst (AllFit y w q vs) h.7 f) (λ zs g. kinds_same more h.2 h.3 zs h.6 g)

  -- the values of a parameter's cells, and those after them
  pub rest_fits : (kinds : List Kind) (these more : List ValueType) (vs : List Value) → AreKinds kinds these
      → AllFit y w q vs (these ++ more) → AllFit y w q (drop (length kinds) vs) more
  rest_fits [] these more vs k f = subst (λ z. AllFit y w q vs (z ++ more)) k f
  rest_fits (kind ∷ kinds) these more [] k f = absurd (subst (λ z. AllFit y w q [] (z ++ more)) k.5 f)
  rest_fits (kind ∷ kinds) these more (v ∷ vs) k f =
      let g : AllFit y w q (v ∷ vs) (k.0 ∷ (k.1 ++ more)) = subst (λ z. AllFit y w q (v ∷ vs) (z ++ more)) k.5 f in
      rest_fits kinds k.1 more vs k.4 g.1

  pub both_fit : (vs ws : List Value) (us more : List ValueType) → AllFit y w q vs us → AllFit y w q ws more
      → AllFit y w q (vs ++ ws) (us ++ more)
  both_fit vs ws [] more f g = subst (λ z. AllFit y w q (z ++ ws) more) (sym f) g
  both_fit [] ws (u ∷ us) more f g = absurd f
  both_fit (v ∷ vs) ws (u ∷ us) more f g = (f.0, both_fit vs ws us more f.1 g)

  pub resized_fits : (n : ℕ) (us : List ValueType) (xs : List Value) → length us ≡ n → AllFit y w q xs us → AllFit y w q (resized n xs) us
  resized_fits zero [] xs e f = refl
  resized_fits zero (u ∷ us) xs e f = absurd (omega (arith, e))
  resized_fits (suc n) [] xs e f = absurd (omega (arith, e))
  resized_fits (suc n) (u ∷ us) [] e f = absurd f
  resized_fits (suc n) (u ∷ us) (x ∷ xs) e f = (f.0, resized_fits n us xs (omega (arith, e)) f.1)

  -- lists

  pub first_fits : (vs : List Value) (u : ValueType) (us : List ValueType) → AllFit y w q vs (u ∷ us)
      → Fits y w q (first vs) u × AllFit y w q (after_first vs) us
  first_fits [] u us f = absurd f
  first_fits (v ∷ vs) u us f = f

  pub one_fits : (vs us : _) (u : ValueType) → us ≡ u ∷ [] → AllFit y w q vs us → Fits y w q (first vs) u
  one_fits vs us u e f = (first_fits vs u [] (subst (AllFit y w q vs) e f)).0

  -- members

  pub member_fits : (v : Value) (remote : Bool) (c o : ℕ) → o ≤ last_offset → Fits y w q v (Pointer remote (ObjectOf c))
      → Fits y w q (moved v o) (Pointer remote (MemberOf c o))
  member_fits Void remote c o le f = absurd (no_pointer remote (ObjectOf c) f)
  member_fits (Int n) remote c o le f = absurd (no_int remote (ObjectOf c) f)
  member_fits Null remote c o le f = null_fits remote (MemberOf c o)
  member_fits (Ptr b x) remote c o le f =
      let l = leads_of b x remote (ObjectOf c) f in
      let zero' = l.2.1 in
      pointer_fits b (min (x + o) last_offset) remote (MemberOf c o)
      (l.0, l.1, (l.2.0, small x o le zero'), l.3)
    where
      small : (x o : ℕ) → o ≤ last_offset → x ≡ 0 → min (x + o) last_offset ≡ o
      small x o le e = omega (arith, le, e)

  -- variables

  set_case : (env : Env) (k : ℕ) (v : Value) (j : ℕ)
      → (get_or (set env k v) j Null ≡ get_or env j Null) ⊎ ((j ≡ k) × (get_or (set env k v) j Null ≡ v))
  set_case [] k v j = inl refl
  set_case (x ∷ env) zero v zero = inr (refl, refl)
  set_case (x ∷ env) zero v (suc j) = inl refl
  set_case (x ∷ env) (suc k) v zero = inl refl
  set_case (x ∷ env) (suc k) v (suc j) = ⊎_elim
      (λ (e : get_or (set env k v) j Null ≡ get_or env j Null). inl e)
      (λ (e : (j ≡ k) × (get_or (set env k v) j Null ≡ v)). inr (ap suc e.0, e.1))
      (set_case env k v j)

  pub env_set : (vars : List Target) (env : Env) (k : ℕ) (a : Target) (v : Value) → EnvFits y w q vars env → slice_get vars k ≡ Some a
      → Fits y w q v (Pointer false a) → EnvFits y w q vars (set env k v)
  env_set vars env k a v h e f = λ j b g. ⊎_elim
      (λ (s : get_or (set env k v) j Null ≡ get_or env j Null). subst (λ z. Fits y w q z (Pointer false b)) (sym s) (h j b g))
      (λ (s : (j ≡ k) × (get_or (set env k v) j Null ≡ v)).
      let same : a ≡ b = same_some a b (sym e ∙ (ap (slice_get vars) (sym s.0) ∙ g)) in
      subst (λ z. Fits y w q z (Pointer false b)) (sym s.1) (subst (λ z. Fits y w q v (Pointer false z)) same f))
      (set_case env k v j)

  resized_case : (n : ℕ) (xs : List Value) (k : ℕ)
      → (get_or (resized n xs) k Null ≡ Null) ⊎ (get_or (resized n xs) k Null ≡ get_or xs k Null)
  resized_case zero xs k = inl refl
  resized_case (suc n) [] zero = inl refl
  resized_case (suc n) [] (suc k) = ⊎_elim (λ (e : get_or (resized n []) k Null ≡ Null). inl e)
      (λ (e : get_or (resized n []) k Null ≡ get_or [] k Null). inl e) (resized_case n [] k)
  resized_case (suc n) (x ∷ xs) zero = inr refl
  resized_case (suc n) (x ∷ xs) (suc k) = ⊎_elim (λ (e : get_or (resized n xs) k Null ≡ Null). inl e)
      (λ (e : get_or (resized n xs) k Null ≡ get_or xs k Null). inr e) (resized_case n xs k)

  address_at : (kinds : List (List Kind)) (us : List ValueType) (vars : List Target) (xs : List Value) → AreParameters y kinds us vars
      → AllFit y w q xs (addressed kinds vars) → (k : ℕ) (a : Target) → slice_get vars k ≡ Some a
      → Fits y w q (get_or xs k Null) (Pointer false a)
  address_at [] us vars xs h f k a e = subst (λ z. Fits y w q (get_or z k Null) (Pointer false a)) (sym f) (null_fits false a)
  address_at (kinds ∷ more) us vars xs h f k a e =
      from xs k (subst (λ z. AllFit y w q xs (addressed (kinds ∷ more) z)) h.8 f) (sym (ap (λ z. slice_get z k) h.8) ∙ e)
      (λ xs g k i. address_at more h.2 h.3 xs h.6 g k a i)
    where
      from : (xs : List Value) (k : ℕ) → AllFit y w q xs (Pointer false h.0 ∷ addressed more h.3)
          → slice_get (h.0 ∷ h.3) k ≡ Some a
          → ((xs : List Value) → AllFit y w q xs (addressed more h.3) → (k : ℕ) → slice_get h.3 k ≡ Some a
          → Fits y w q (get_or xs k Null) (Pointer false a))
          → Fits y w q (get_or xs k Null) (Pointer false a)
      from [] k g i again = absurd g
      from (x ∷ xs) zero g i again = subst (λ z. Fits y w q x (Pointer false z)) (same_some _ _ i) g.0
      from (x ∷ xs) (suc k) g i again = again xs g.1 k i

  pub env_entered : (n : ℕ) (kinds : List (List Kind)) (us : List ValueType) (vars : List Target) (xs : List Value)
      → AreParameters y kinds us vars → AllFit y w q xs (addressed kinds vars) → EnvFits y w q vars (resized n xs)
  env_entered n kinds us vars xs h f = λ k a e. ⊎_elim
      (λ (g : get_or (resized n xs) k Null ≡ Null). subst (λ z. Fits y w q z (Pointer false a)) (sym g) (null_fits false a))
      (λ (g : get_or (resized n xs) k Null ≡ get_or xs k Null).
      subst (λ z. Fits y w q z (Pointer false a)) (sym g) (address_at kinds us vars xs h f k a e))
      (resized_case n xs k)

-- what waits is allowed further out

pub allowed_left : (waits a b : Bool) → Allowed waits (a || b) → Allowed waits a
allowed_left waits true b h = h
allowed_left waits false b h = tt

pub allowed_within : (inner outer b : Bool) → Allowed outer inner → Allowed inner b → Allowed outer b
allowed_within inner outer false h g = tt
allowed_within inner outer true h g = subst (Allowed outer) g h
