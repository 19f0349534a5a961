-- The laws say something, and the rules refuse something.
use Rattle.std.proofs.Common.{◌≡◌, ℕ, zero, suc, true, false, [], ◌∷◌, Some, None, refl, sym, ap, subst, ◌∙◌, ⊎_elim, inl, inr, arith}
use Rattle.std.specs.FinMap as fin
use Rattle.std.specs.Prelude.{slice_get, length, map, List, Bool, ◌++◌, ◌||◌, ◌<◌, ◌≤◌, ◌+◌}
use Rattle.cc_core.specs.Names.{Name}
use Rattle.cc_core.specs.Core.{function, shapes, class_shape, Load, Variable, Member, Drop, Call, Remote, MoreTerms, MoreCells, NoTerms}
use Rattle.cc_ops.specs.Classes.{size}
use Rattle.cc_ops.specs.declared.kind.Kind.{Kind}
use Rattle.cc_ops.specs.declared.kind.Kind.TheVariants.{Int as IntK, SyncInt as SyncIntK, Ptr as PtrK}
use Rattle.core_types.specs.Types.{ValueType, NoValue, AnInt, Pointer, Target, Cells, ObjectOf, MemberOf, PartOf, Holds, FunctionTypes, ClassTypes, Types, function_types, class_types, Serves, Allowed, IsConstant, IsKind, is_sync, member, IsCell, IsCopied, Crosses, AllCross}
use Rattle.core_types.specs.Values.{World}
use Rattle.core_types.specs.Typing.{Scope, scope_of, branch, is_atomic, HasType, HaveTypes, IsTyped, AreTyped}
use Rattle.core_types.specs.Programs.{IsParameter, AreParameters, WellTyped, AreRuns, AreSets}
use Rattle.core_types.specs.Examples.{good, pointer_as_int, pointer_given, atomic_waits, local_sent, holder_kept, holder_sent, sync_copied}
use Rattle.core_types.proofs.Basics.{no_int, same_some, same_target}

abbrev global_cell : ValueType
global_cell = Pointer true (ObjectOf 0)

abbrev main_types : FunctionTypes
main_types = record {
  this = None;
  result = AnInt;
  params = AnInt ∷ [];
  vars = Cells false AnInt ∷ Cells false global_cell ∷ Cells false AnInt ∷ ObjectOf 1 ∷ [];
  waits = true;
}

abbrev add_types : FunctionTypes
add_types = record { this = Some 0; result = NoValue; params = AnInt ∷ []; vars = Cells false AnInt ∷ []; waits = false }

abbrev get_types : FunctionTypes
get_types = record { this = Some 0; result = AnInt; params = []; vars = []; waits = true }

abbrev cell_types : ClassTypes
cell_types = record { cells = Holds false AnInt ∷ Holds true AnInt ∷ []; params = AnInt ∷ [] }

-- a Pair is handed over by value, as two ints
abbrev put_types : FunctionTypes
put_types = record { this = Some 0; result = NoValue; params = AnInt ∷ AnInt ∷ []; vars = ObjectOf 1 ∷ []; waits = false }

abbrev sum_types : FunctionTypes
sum_types = record { this = None; result = AnInt; params = AnInt ∷ AnInt ∷ []; vars = ObjectOf 1 ∷ []; waits = false }

abbrev pair_types : ClassTypes
pair_types = record { cells = Holds false AnInt ∷ Holds false AnInt ∷ []; params = AnInt ∷ AnInt ∷ [] }

abbrev types : Types
types = record {
  functions = main_types ∷ add_types ∷ get_types ∷ put_types ∷ sum_types ∷ [];
  classes = cell_types ∷ pair_types ∷ [];
}

-- a plain variable is read
reads : (w : World) (q : Name) (here : Scope) (k : ℕ) (u : ValueType) → slice_get here.vars k ≡ Some (Cells false u)
    → HasType good types w q here (Load false (Variable k)) u
reads w q here k u e = (Cells false u, false, (Cells false u, e, refl), (refl, refl), tt, tt)

-- a call of `add` through variable 1, with an int in variable k
adds : (w : World) (q : Name) (here : Scope) (k : ℕ) → slice_get here.vars 1 ≡ Some (Cells false global_cell)
    → slice_get here.vars k ≡ Some (Cells false AnInt) → here.waits ≡ true
    → IsTyped good types w q here (Drop (Call Remote 1 (MoreTerms (Load false (Variable 1)) (MoreTerms (Load false (Variable k)) NoTerms))))
adds w q here k c n b = (
  NoValue,
  (
    global_cell ∷ AnInt ∷ [],
    (0, refl, refl, (tt, tt), inl refl),
    (
      global_cell,
      AnInt ∷ [],
      (global_cell, reads w q here 1 global_cell c, inl refl),
      (AnInt, [], (AnInt, reads w q here k AnInt n, inl refl), refl, refl),
      refl,
    ),
    b,
    refl,
  ),
)

-- variable k, a Pair, by value
copies : (w : World) (q : Name) (here : Scope) (k : ℕ) → slice_get here.vars k ≡ Some (ObjectOf 1)
    → HaveTypes good types w q here (MoreCells (Variable k) 2 NoTerms) (AnInt ∷ AnInt ∷ [])
copies w q here k e = (1, AnInt ∷ AnInt ∷ [], [], (ObjectOf 1, e, refl), refl, refl, refl, refl)

-- a member of a Pair in variable 0
member_read : (w : World) (q : Name) (o : ℕ) → o ≤ 1 → member types 1 o ≡ Some (Holds false AnInt)
    → HasType good types w q (scope_of sum_types) (Load false (Member (Variable 0) o)) AnInt
member_read w q o le e = (MemberOf 1 o, false, (false, 1, (ObjectOf 1, refl, refl), omega (arith, le), refl), e, tt, tt)

bodies : (f : ℕ) (w : World) (q : Name) → AreTyped good types w q (scope_of (function_types types f)) (function good f).body
bodies zero w q =
    let here = scope_of main_types in (
      (
        global_cell,
        (true, ObjectOf 0, refl),
        refl,
        (global_cell, ((AnInt, [], (AnInt, reads w q here 0 AnInt refl, inl refl), refl, refl), (tt, tt), refl, refl), inl refl),
      ),
      (
        (
          refl,
          (
            adds w q (branch here) 0 refl refl refl,
            (
              (
                MemberOf 0 1,
                true,
                AnInt,
                (true, 0, reads w q (branch here) 1 global_cell refl, omega arith, refl),
                (AnInt, refl, inl refl),
                refl,
                tt,
                refl,
              ),
              tt,
            ),
          ),
        ),
        (
          (
            refl,
            refl,
            refl,
            (AnInt, AnInt, reads w q here 2 AnInt refl, reads w q here 0 AnInt refl, refl, refl),
            (AnInt, AnInt, reads w q here 2 AnInt refl, refl, refl, refl),
            adds w q (branch here) 2 refl refl refl,
          ),
          (
            (
              refl,
              (AnInt, AnInt ∷ [], (AnInt, reads w q here 0 AnInt refl, inl refl), (AnInt, [], (AnInt, refl, inl refl), refl, refl), refl),
            ),
            (
              (
                NoValue,
                (
                  global_cell ∷ AnInt ∷ AnInt ∷ [],
                  (0, refl, refl, (tt, (tt, tt)), inl refl),
                  (global_cell, AnInt ∷ AnInt ∷ [], (global_cell, reads w q here 1 global_cell refl, inl refl), copies w q here 3 refl, refl),
                  refl,
                  refl,
                ),
              ),
              (
                (
                  AnInt,
                  refl,
                  (
                    AnInt,
                    (
                      global_cell ∷ [],
                      (0, refl, refl, tt, inr tt),
                      (global_cell, [], (global_cell, reads w q here 1 global_cell refl, inl refl), refl, refl),
                      refl,
                      refl,
                    ),
                    inl refl,
                  ),
                ),
                tt,
              ),
            ),
          ),
        ),
      ),
    )
bodies (suc zero) w q = (
  (
    MemberOf 0 0,
    false,
    AnInt,
    (false, 0, (0, false, refl, refl), omega arith, refl),
    (
      AnInt,
      (
        AnInt,
        AnInt,
        (MemberOf 0 0, false, (false, 0, (0, false, refl, refl), omega arith, refl), refl, tt, tt),
        reads w q (scope_of add_types) 0 AnInt refl,
        refl,
        refl,
      ),
      inl refl,
    ),
    refl,
    tt,
    tt,
  ),
  tt,
)
bodies (suc (suc zero)) w q = (
  (
    AnInt,
    refl,
    (AnInt, (MemberOf 0 1, true, (false, 0, (0, false, refl, refl), omega arith, refl), refl, tt, refl), inl refl),
  ),
  tt,
)
bodies (suc (suc (suc zero))) w q = (
  (
    MemberOf 0 0,
    false,
    AnInt,
    (false, 0, (0, false, refl, refl), omega arith, refl),
    (AnInt, (AnInt ∷ AnInt ∷ [], (refl, refl), copies w q (scope_of put_types) 0 refl, tt, refl), inl refl),
    refl,
    tt,
    tt,
  ),
  tt,
)
bodies (suc (suc (suc (suc zero)))) w q = (
  (
    AnInt,
    refl,
    (AnInt, (AnInt, AnInt, member_read w q 0 (omega arith) refl, member_read w q 1 (omega arith) refl, refl, refl), inl refl),
  ),
  tt,
)
bodies (suc (suc (suc (suc (suc f))))) w q = tt

ends : (f : ℕ) → IsConstant (function good f).default (function_types types f).result
ends zero = refl
ends (suc zero) = refl
ends (suc (suc zero)) = refl
ends (suc (suc (suc zero))) = refl
ends (suc (suc (suc (suc zero)))) = refl
ends (suc (suc (suc (suc (suc f))))) = refl

an_int : (more : List Target) → AreParameters types ((IntK ∷ []) ∷ []) (AnInt ∷ []) (Cells false AnInt ∷ more)
an_int more = (Cells false AnInt, AnInt ∷ [], [], more, (AnInt, [], refl, refl, refl, refl), (refl, refl), refl, refl, refl)

a_pair : AreParameters types ((IntK ∷ IntK ∷ []) ∷ []) (AnInt ∷ AnInt ∷ []) (ObjectOf 1 ∷ [])
a_pair = (
  ObjectOf 1,
  AnInt ∷ AnInt ∷ [],
  [],
  [],
  (AnInt, AnInt ∷ [], refl, refl, (AnInt, [], refl, refl, refl, refl), refl),
  refl,
  refl,
  refl,
  refl,
)

parameters : (f : ℕ) → AreParameters types (function good f).shape.params (function_types types f).params (function_types types f).vars
parameters zero = an_int _
parameters (suc zero) = an_int _
parameters (suc (suc zero)) = refl
parameters (suc (suc (suc zero))) = a_pair
parameters (suc (suc (suc (suc zero)))) = a_pair
parameters (suc (suc (suc (suc (suc f))))) = refl

one_run : (y : Types) (c : ℕ) (u : ValueType) (at : ℕ) (kind : Kind) → IsKind kind u → member y c at ≡ Some (Holds (is_sync kind) u) → (j : ℕ) → j < 1
    → (u : ValueType) × IsKind kind u × (member y c (at + j) ≡ Some (Holds (is_sync kind) u))
one_run y c u at kind k e j lt =
    let same : at ≡ at + j = omega (arith, lt) in
    (u, k, subst (λ z. member y c z ≡ Some (Holds (is_sync kind) u)) same e)

runs : (c : ℕ) → AreRuns types c 0 (class_shape (shapes good) c).cells
runs zero = (one_run types 0 AnInt 0 IntK refl refl, (one_run types 0 AnInt 1 SyncIntK refl refl, tt))
runs (suc zero) = (one_run types 1 AnInt 0 IntK refl refl, (one_run types 1 AnInt 1 IntK refl refl, tt))
runs (suc (suc c)) = tt

sizes : (c : ℕ) → length (class_types types c).cells ≡ size (class_shape (shapes good) c).cells
sizes zero = refl
sizes (suc zero) = refl
sizes (suc (suc c)) = refl

sets : (c : ℕ) → AreSets types c (class_shape (shapes good) c).sets
sets zero = (AnInt, (false, refl), (AnInt, refl, inl refl), tt)
sets (suc zero) = (AnInt, (false, refl), (AnInt, refl, inl refl), (AnInt, (false, refl), (AnInt, refl, inl refl), tt))
sets (suc (suc c)) = tt

atomics : (f : ℕ) → is_atomic good f ≡ true → (function_types types f).waits ≡ false
atomics zero e = let z : false ≡ true = e in cc
atomics (suc zero) e = refl
atomics (suc (suc zero)) e = let z : false ≡ true = e in cc
atomics (suc (suc (suc zero))) e = refl
atomics (suc (suc (suc (suc zero)))) e = let z : false ≡ true = e in cc
atomics (suc (suc (suc (suc (suc f))))) e = let z : false ≡ true = e in cc

pub good_is_typed : WellTyped good
good_is_typed = (
  types,
  record {
    bodies = bodies;
    ends = ends;
    parameters = parameters;
    sizes = sizes;
    runs = runs;
    sets = sets;
    atomics = atomics;
    main_alone = refl;
    main_result = refl;
    main_params = refl;
  },
)

-- an object with a local pointer is handed over by value here

abbrev local : ValueType
local = Pointer false (Cells false AnInt)

abbrev keeper : FunctionTypes
keeper = record { this = None; result = AnInt; params = []; vars = ObjectOf 0 ∷ []; waits = true }

abbrev reader : FunctionTypes
reader = record { this = None; result = NoValue; params = local ∷ []; vars = ObjectOf 0 ∷ []; waits = false }

abbrev held : Types
held = record { functions = keeper ∷ reader ∷ []; classes = record { cells = Holds false local ∷ []; params = [] } ∷ [] }

held_bodies : (f : ℕ) (w : World) (q : Name) → AreTyped holder_kept held w q (scope_of (function_types held f)) (function holder_kept f).body
held_bodies zero w q = (
  (refl, refl),
  (
    (NoValue, (local ∷ [], (refl, refl), (0, local ∷ [], [], (ObjectOf 0, refl, refl), refl, refl, refl, refl), tt, refl)),
    ((AnInt, refl, (AnInt, refl, inl refl)), tt),
  ),
)
held_bodies (suc zero) w q = (
  (
    AnInt,
    (
      Cells false AnInt,
      false,
      (MemberOf 0 0, false, (false, 0, (ObjectOf 0, refl, refl), omega arith, refl), refl, tt, tt),
      (refl, refl),
      tt,
      tt,
    ),
  ),
  tt,
)
held_bodies (suc (suc f)) w q = tt

held_ends : (f : ℕ) → IsConstant (function holder_kept f).default (function_types held f).result
held_ends zero = refl
held_ends (suc zero) = refl
held_ends (suc (suc f)) = refl

held_parameters : (f : ℕ)
    → AreParameters held (function holder_kept f).shape.params (function_types held f).params (function_types held f).vars
held_parameters zero = refl
held_parameters (suc zero) =
    (ObjectOf 0, local ∷ [], [], [], (local, [], (false, Cells false AnInt, refl), refl, refl, refl), refl, refl, refl, refl)
held_parameters (suc (suc f)) = refl

held_sizes : (c : ℕ) → length (class_types held c).cells ≡ size (class_shape (shapes holder_kept) c).cells
held_sizes zero = refl
held_sizes (suc c) = refl

held_runs : (c : ℕ) → AreRuns held c 0 (class_shape (shapes holder_kept) c).cells
held_runs zero = (one_run held 0 local 0 PtrK (false, Cells false AnInt, refl) refl, tt)
held_runs (suc c) = tt

held_sets : (c : ℕ) → AreSets held c (class_shape (shapes holder_kept) c).sets
held_sets zero = tt
held_sets (suc c) = tt

held_atomics : (f : ℕ) → is_atomic holder_kept f ≡ true → (function_types held f).waits ≡ false
held_atomics zero e = let z : false ≡ true = e in cc
held_atomics (suc zero) e = refl
held_atomics (suc (suc f)) e = let z : false ≡ true = e in cc

pub holder_is_kept : WellTyped holder_kept
holder_is_kept = (
  held,
  record {
    bodies = held_bodies;
    ends = held_ends;
    parameters = held_parameters;
    sizes = held_sizes;
    runs = held_runs;
    sets = held_sets;
    atomics = held_atomics;
    main_alone = refl;
    main_result = refl;
    main_params = refl;
  },
)

-- what is refused

nowhere_world : World
nowhere_world = record { objects = fin.empty; threads = fin.empty }

-- a local pointer serves no int
not_an_int : (a : Target) → Serves (Pointer false a) AnInt → ⊥
not_an_int a s = ⊎_elim
    (λ (e : Pointer false a ≡ AnInt). no_int false a e)
    (λ (e : (b : Target) × (Pointer false a ≡ Pointer false b) × (AnInt ≡ Pointer true b)). no_int true e.0 (sym e.2))
    s

pub pointer_is_no_int : WellTyped pointer_as_int → ⊥
pointer_is_no_int t =
    let b = t.1.bodies 0 nowhere_world [] in
    let s = b.0 in
    let kind : s.0 ≡ AnInt = s.1 in
    let g = s.3 in
    not_an_int (Cells false g.1.0) (subst (λ z. Serves z AnInt) g.1.2 (subst (Serves g.0) kind g.2))

pub main_gives_no_pointer : WellTyped pointer_given → ⊥
main_gives_no_pointer t =
    let b = t.1.bodies 0 nowhere_world [] in
    let s = b.0 in
    let result : s.0 ≡ AnInt = same_some s.0 AnInt (sym s.1 ∙ ap Some t.1.main_result) in
    let g = s.2 in
    not_an_int (Cells false g.1.0) (subst (λ z. Serves z AnInt) g.1.2 (subst (Serves g.0) result g.2))

pub atomic_waits_not : WellTyped atomic_waits → ⊥
atomic_waits_not t =
    let y = t.0 in
    let g = function_types y 1 in
    let b = t.1.bodies 1 nowhere_world [] in
    let make = b.0 in
    let load = b.1.0.2.1 in
    let waits : g.waits ≡ false = t.1.atomics 1 refl in
    let place = load.2 in
    let variable : load.0 ≡ place.0 = same_target false false load.0 place.0 place.2 in
    let target : place.0 ≡ Cells true make.0 = same_some place.0 (Cells true make.0) (sym place.1 ∙ make.2) in
    let cell : IsCell y (Cells true make.0) load.1 b.1.0.2.0 = subst (λ z. IsCell y z load.1 b.1.0.2.0) (variable ∙ target) load.3 in
    let allowed : Allowed g.waits true = subst (λ z. Allowed g.waits (false || z)) (sym cell.0) load.5 in
    let e : false ≡ true = sym waits ∙ allowed in
    cc

-- what a parameter of one plain cell takes crosses, where its function is called from elsewhere
one_crosses : (y : Types) (a : Target) (these more : List ValueType) (sync : Bool) (u : ValueType) → IsParameter y these a → IsCell y a sync u
    → AllCross (these ++ more) → Crosses u
one_crosses y (Cells s t) these more sync u i c x = subst Crosses c.1 (subst (λ z. AllCross (z ++ more)) i.1 x).0
one_crosses y (ObjectOf d) these more sync u i c x = absurd c
one_crosses y (MemberOf d o) these more sync u i c x = absurd i
one_crosses y (PartOf d s t) these more sync u i c x = absurd i

pub local_sent_not : WellTyped local_sent → ⊥
local_sent_not t =
    let y = t.0 in
    let g = function_types y 1 in
    let load = (t.1.bodies 1 nowhere_world []).0.1 in
    let inner = load.2 in
    let place = inner.2 in
    let params = t.1.parameters 1 in
    let variable : inner.0 ≡ place.0 = same_target false false inner.0 place.0 place.2 in
    let first : slice_get g.vars 0 ≡ Some params.0 = ap (λ z. slice_get z 0) params.8 in
    let target : place.0 ≡ params.0 = same_some place.0 params.0 (sym place.1 ∙ first) in
    let cell : IsCell y params.0 inner.1 (Pointer false load.0) =
    subst (λ z. IsCell y z inner.1 (Pointer false load.0)) (variable ∙ target) inner.3 in
    let call = (t.1.bodies 0 nowhere_world []).0.1.1 in
    let cross : AllCross (params.1 ++ params.2) = subst AllCross params.7 call.3 in
    let e : false ≡ true = one_crosses y params.0 params.1 params.2 inner.1 (Pointer false load.0) params.5 cell cross in
    cc

same_held : (s s' : Bool) (u v : ValueType) → Some (Holds s u) ≡ Some (Holds s' v) → u ≡ v
same_held s s' u v e = cc

pub holder_sent_not : WellTyped holder_sent → ⊥
holder_sent_not t =
    let y = t.0 in
    let g = function_types y 1 in
    let load = (t.1.bodies 1 nowhere_world []).0.1 in
    let inner = load.2 in
    let place = inner.2 in
    let c = place.1 in
    let object = place.2 in
    let params = t.1.parameters 1 in
    let kinds = params.4 in
    let one : params.1 ≡ kinds.0 ∷ [] = kinds.5 ∙ ap (λ z. kinds.0 ∷ z) kinds.4 in
    let at : inner.0 ≡ MemberOf c 0 = same_target false place.0 inner.0 (MemberOf c 0) place.4 in
    let variable : object.0 ≡ ObjectOf c = sym (same_target place.0 false (ObjectOf c) object.0 object.2) in
    let first : slice_get g.vars 0 ≡ Some params.0 = ap (λ z. slice_get z 0) params.8 in
    let target : params.0 ≡ ObjectOf c = same_some params.0 (ObjectOf c) (sym first ∙ (object.1 ∙ ap Some variable)) in
    let copied : IsCopied y c params.1 = subst (IsParameter y params.1) target params.5 in
    let cell : IsCell y (MemberOf c 0) inner.1 (Pointer false load.0) = subst (λ z. IsCell y z inner.1 (Pointer false load.0)) at inner.3 in
    let kept : member y c 0 ≡ Some (Holds false kinds.0) =
    ap (λ z. slice_get z 0) copied ∙ ap (λ z. slice_get (map (Holds false) z) 0) one in
    let same : kinds.0 ≡ Pointer false load.0 = same_held false inner.1 kinds.0 (Pointer false load.0) (sym kept ∙ cell) in
    let call = (t.1.bodies 0 nowhere_world []).1.0.1 in
    let cross : AllCross (params.1 ++ params.2) = subst AllCross params.7 call.1.3 in
    let e : false ≡ true = subst Crosses same (subst (λ z. AllCross (z ++ params.2)) one cross).0 in
    cc

pub sync_copied_not : WellTyped sync_copied → ⊥
sync_copied_not t =
    let second = (t.1.parameters 1).4.4 in
    let e : true ≡ false = second.3 in
    cc
