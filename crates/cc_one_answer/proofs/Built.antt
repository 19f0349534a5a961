-- New objects have the cells of their types.
use Rattle.std.proofs.Common.{◌≡◌, ◌≢◌, ℕ, zero, suc, ◌+◌, ◌<◌, Bool, true, false, cond, List, [], ◌∷◌, ◌++◌, Option, Some, None, refl, sym, ap, subst, ◌∙◌}
use Rattle.std.proofs.Common.{⊎_elim, arith}
use Rattle.std.specs.Prelude.{slice_get, get_or, set, replicate}
use Rattle.cc_ops.specs.Values.{Constant, VoidC, IntC, NullC, constant, Void, Int, Null, Ptr, Plain, Empty as EmptyCell, Full, Result, Gives, Fails, first, second, is_zero}
use Rattle.cc_ops.specs.declared.kind.Kind.{Kind}
use Rattle.cc_core.specs.Names.{Name, Value, Cell}
use Rattle.cc_core.specs.Types.{ValueType, Target, Cells, Types}
use Rattle.cc_one_answer.specs.Sorts.{is_sync, member, ObjectType, Named, Uniform, Instance}
use Rattle.cc_one_answer.specs.Sorts.{World, Fits, CellFits, AllFit, cell_type, CellsFit}
use Rattle.cc_one_answer.proofs.Fine.{type_of, Holds, content, parameter_types, IsNumber}
use Rattle.cc_core.specs.Config.{Object}
use Rattle.cc_one_answer.proofs.Distinct.{some_not_none, same_some, fails_not_gives}
use Rattle.std.specs.Prelude.{slice_set}
use Rattle.cc_ops.specs.Values.{fresh, started, on_gives}
use Rattle.cc_ops.specs.Cells.{written, write_at, write_cell}
use Rattle.cc_ops.specs.Classes.{BuildExpr, Literal, Param, Apply, Both, Either, BuildSet, ClassShape, construct, assign, assign_all, fresh_cells}
use Rattle.cc_ops.specs.Classes.{evaluate, evaluate_all, place}
use Rattle.cc_ops.specs.Operators.{compute, truth, truth_of}
use Rattle.cc_ops.specs.Addresses.{element}
use Rattle.cc_ops.specs.declared.shape.CellRun.{CellRun}
use Rattle.cc_ops.specs.declared.kind.Kind.TheVariants.{Int as IntK, SyncInt as SyncIntK, Ptr as PtrK, SyncPtr as SyncPtrK}
use Rattle.global_ptr.specs.declared.ends.FaultKind.TheVariants.{SyncTwice, IndexOut}
use Rattle.cc_core.specs.Names.{same_name}
use Rattle.cc_core.specs.Effects.{parameters}
use Rattle.cc_one_answer.specs.Determinate.{AreParameters, IsBuiltFrom, AreRuns, AreSets, IsSetAt}
use Rattle.cc_one_answer.proofs.Swaps.{cases_number, get_set_same, get_set_other}
use Rattle.cc_one_answer.proofs.Found.{same_gives, truth_gives, operated, element_gives}

pub number_fits : (w : World) (v : Value) (u : ValueType) → IsNumber v → Fits w v u
number_fits w Void u h = tt
number_fits w (Int n) u h = tt
number_fits w Null u h = tt
number_fits w (Ptr o x) u h = absurd h

constant_fits : (w : World) (c : Constant) (u : ValueType) → Fits w (constant c) u
constant_fits w VoidC u = tt
constant_fits w (IntC n) u = tt
constant_fits w NullC u = tt

fresh_fits : (w : World) (kind : Kind) (u : ValueType) → CellFits w (fresh kind) (Some (Cells (is_sync kind) u))
fresh_fits w IntK u = (refl, tt)
fresh_fits w SyncIntK u = refl
fresh_fits w PtrK u = (refl, tt)
fresh_fits w SyncPtrK u = refl

pub started_fits : (w : World) (kind : Kind) (v : Value) (u : ValueType) → Fits w v u → CellFits w (started kind v) (Some (Cells (is_sync kind) u))
started_fits w IntK v u h = (refl, h)
started_fits w SyncIntK v u h = (refl, h)
started_fits w PtrK v u h = (refl, h)
started_fits w SyncPtrK v u h = (refl, h)

some_cell : (a b : Cell) → Some a ≡ Some b → a ≡ b
some_cell a b e = cc

no_cell : (c : Cell) → ◌≡◌ {A = Option Cell} None (Some c) → ⊥
no_cell c e = cc

replicated : (n : ℕ) (c d : Cell) (x : ℕ) → slice_get (replicate n c) x ≡ Some d → d ≡ c
replicated zero c d x e = absurd (no_cell d e)
replicated (suc n) c d zero e = sym (some_cell c d e)
replicated (suc n) c d (suc x) e = replicated n c d x e

holds_fresh : (w : World) (y : Types) (kind : Kind) (a : ObjectType) (x : ℕ) → Holds kind a → CellFits w (fresh kind) (cell_type y a x)
holds_fresh w y kind (Named u) x h = subst (λ b. CellFits w (fresh kind) (Some (Cells b u))) h (fresh_fits w kind u)
holds_fresh w y kind (Uniform sync u) x h = subst (λ b. CellFits w (fresh kind) (Some (Cells b u))) h (fresh_fits w kind u)
holds_fresh w y kind (Instance c) x h = absurd h

holds_started : (w : World) (y : Types) (kind : Kind) (v : Value) (a : ObjectType) (x : ℕ) → Holds kind a → Fits w v (content a)
    → CellFits w (started kind v) (cell_type y a x)
holds_started w y kind v (Named u) x h f = subst (λ b. CellFits w (started kind v) (Some (Cells b u))) h (started_fits w kind v u f)
holds_started w y kind v (Uniform sync u) x h f = subst (λ b. CellFits w (started kind v) (Some (Cells b u))) h (started_fits w kind v u f)
holds_started w y kind v (Instance c) x h f = absurd h

pub fresh_object : (w : World) (y : Types) (kind : Kind) (n : ℕ) (a : ObjectType) → Holds kind a → CellsFit w y a (replicate n (fresh kind))
fresh_object w y kind n a h = λ x c e.
    subst (λ z. CellFits w z (cell_type y a x)) (sym (replicated n (fresh kind) c x e)) (holds_fresh w y kind a x h)

pub one_cell : (w : World) (y : Types) (a : ObjectType) (c : Cell) → ((x : ℕ) → CellFits w c (cell_type y a x)) → CellsFit w y a (c ∷ [])
one_cell w y a c h = λ x d e. from x d e
  where
    from : (x : ℕ) (d : Cell) → slice_get (c ∷ []) x ≡ Some d → CellFits w d (cell_type y a x)
    from zero d e = subst (λ z. CellFits w z (cell_type y a zero)) (some_cell c d e) (h zero)
    from (suc x) d e = absurd (no_cell d e)

pub started_object : (w : World) (y : Types) (kind : Kind) (v : Value) (a : ObjectType) → Holds kind a → Fits w v (content a)
    → CellsFit w y a (started kind v ∷ [])
started_object w y kind v a h f = one_cell w y a (started kind v) (λ x. holds_started w y kind v a x h f)

-- a cell after a write
cell_written : (w : World) (old new : Cell) (v : Value) (sync : Bool) (u : ValueType) → CellFits w old (Some (Cells sync u)) → Fits w v u
    → written old v ≡ Gives new → CellFits w new (Some (Cells sync u))
cell_written w (Plain z) new v sync u h f e = subst (λ q. CellFits w q (Some (Cells sync u))) (same_gives (Plain v) new e) (h.0, f)
cell_written w EmptyCell new v sync u h f e = subst (λ q. CellFits w q (Some (Cells sync u))) (same_gives (Full v) new e) (h, f)
cell_written w (Full z) new v sync u h f e = absurd (fails_not_gives SyncTwice new e)

pub cells_written : (w : World) (y : Types) (a : ObjectType) (cells : List Cell) (i : ℕ) (old new : Cell) (v : Value) (sync : Bool) (u : ValueType)
    → CellsFit w y a cells → slice_get cells i ≡ Some old → cell_type y a i ≡ Some (Cells sync u) → Fits w v u → written old v ≡ Gives new
    → CellsFit w y a (slice_set cells i new)
cells_written w y a cells i old new v sync u fit at type f e = λ x c g. ⊎_elim
    (λ (q : x ≡ i).
    let here : c ≡ new = sym (some_cell new c (sym (get_set_same cells i new old at) ∙ (ap (slice_get (slice_set cells i new)) (sym q) ∙ g))) in
    subst (λ z. CellFits w z (cell_type y a x)) (sym here)
    (subst (λ z. CellFits w new z) (sym (ap (cell_type y a) q ∙ type))
    (cell_written w old new v sync u (subst (CellFits w old) type (fit i old at)) f e)))
    (λ (q : x ≢ i). fit x c (sym (get_set_other cells i x new (λ z. q (sym z))) ∙ g))
    (cases_number x i)

-- constructors

module _ (w : World) (y : Types) (c : ℕ) (args : List Value) (params : List ValueType) (fit : AllFit w args params) where
  abbrev Cs : List Cell → Type 0
  Cs cells = CellsFit w y (Instance c) cells

  argument : (vs : List Value) (us : List ValueType) (k : ℕ) (u : ValueType) → AllFit w vs us → slice_get us k ≡ Some u → Fits w (get_or vs k Void) u
  argument vs [] k u f e = absurd (some_not_none u (sym e))
  argument [] (z ∷ us) k u f e = absurd f
  argument (v ∷ vs) (z ∷ us) zero u f e = subst (Fits w v) (same_some z u e) f.0
  argument (v ∷ vs) (z ∷ us) (suc k) u f e = argument vs us k u f.1 e

  truth_is : (r : Result Value) (v : Value) → truth_of r ≡ Gives v → IsNumber v
  truth_is (Gives z) v e = truth_gives _ v e
  truth_is (Fails kind) v e = absurd (fails_not_gives kind v e)

  applied : (r : Result (List Value)) (op : _) (v : Value) → on_gives r (compute same_name op) ≡ Gives v → IsNumber v
  applied (Gives vs) op v e = operated op (first vs) (second vs) v e
  applied (Fails kind) op v e = absurd (fails_not_gives kind v e)

  either_is : (b : Bool) (r : Result Value) (z : Bool) (v : Value) → cond b (Gives (truth z)) (truth_of r) ≡ Gives v → IsNumber v
  either_is true r z v e = truth_gives z v e
  either_is false r z v e = truth_is r v e

  both_is : (b : Bool) (r : Result Value) (z : Bool) (v : Value) → cond b (truth_of r) (Gives (truth z)) ≡ Gives v → IsNumber v
  both_is true r z v e = truth_is r v e
  both_is false r z v e = truth_gives z v e

  after_test : (q : Result Value) (go : Value → Result Value) (v : Value) → ((z u : Value) → go z ≡ Gives u → IsNumber u)
      → on_gives q go ≡ Gives v → IsNumber v
  after_test (Gives z) go v h e = h z v e
  after_test (Fails kind) go v h e = absurd (fails_not_gives kind v e)

  evaluated : (b : BuildExpr) (u : ValueType) (v : Value) → IsBuiltFrom params b u → evaluate same_name args b ≡ Gives v → Fits w v u
  evaluated (Literal k) u v h e = subst (λ z. Fits w z u) (same_gives (constant k) v e) (constant_fits w k u)
  evaluated (Param k) u v h e = subst (λ z. Fits w z u) (same_gives (get_or args k Void) v e) (argument args params k u fit h)
  evaluated (Apply op es) u v h e = number_fits w v u (applied (evaluate_all same_name args es) op v e)
  evaluated (Both a b) u v h e = number_fits w v u
      (after_test (evaluate same_name args a) _ v (λ z q g. either_is (is_zero z) (evaluate same_name args b) false q g) e)
  evaluated (Either a b) u v h e = number_fits w v u
      (after_test (evaluate same_name args a) _ v (λ z q g. both_is (is_zero z) (evaluate same_name args b) true q g) e)

  abbrev Ok : Result (List Cell) → Type 0
  Ok r = (cells : List Cell) → r ≡ Gives cells → Cs cells

  ok_on : {A : Type 0} (r : Result A) (go : A → Result (List Cell)) → ((a : A) → r ≡ Gives a → Ok (go a)) → Ok (on_gives r go)
  ok_on (Gives a) go h = h a refl
  ok_on {A} (Fails kind) go h = λ cells e. absurd (fails_not_gives kind cells e)

  write_ok : (cells : List Cell) (i : ℕ) (v : Value) (sync : Bool) (u : ValueType) → Cs cells → member y c i ≡ Some (Cells sync u) → Fits w v u
      → Ok (write_cell cells i v)
  write_ok cells i v sync u fits type f = from (slice_get cells i) refl
    where
      from : (o : Option Cell) → slice_get cells i ≡ o → Ok (write_at cells i v o)
      from None at = λ z e. absurd (fails_not_gives IndexOut z e)
      from (Some old) at = ok_on (written old v) (λ d. Gives (slice_set cells i d)) (λ new e z g.
          subst Cs (same_gives (slice_set cells i new) z g) (cells_written w y (Instance c) cells i old new v sync u fits at type f e))

  -- where a constructor assigns
  placed : (set : BuildSet) (index : Option BuildExpr) (u : ValueType) → IsSetAt y c index set u → (i : ℕ)
      → place same_name args set index ≡ Gives i → (sync : Bool) × (member y c i ≡ Some (Cells sync u))
  placed set None u h i e = (h.0, subst (λ z. member y c z ≡ Some (Cells h.0 u)) (same_gives set.offset i e) h.1)
  placed set (Some b) u h i e = (h.0, from (evaluate same_name args b) e)
    where
      at : (r : Result ℕ) → ((j : ℕ) → r ≡ Gives j → j < set.length) → on_gives r (λ k. Gives (set.offset + k)) ≡ Gives i
          → member y c i ≡ Some (Cells h.0 u)
      at (Gives j) low g = subst (λ z. member y c z ≡ Some (Cells h.0 u)) (same_gives (set.offset + j) i g) (h.1 j (low j refl))
      at (Fails kind) low g = absurd (fails_not_gives kind i g)

      from : (r : Result Value) → on_gives r (λ v. on_gives (element set.length v) (λ k. Gives (set.offset + k))) ≡ Gives i
          → member y c i ≡ Some (Cells h.0 u)
      from (Gives v) g = at (element set.length v) (λ j q. element_gives set.length v j q) g
      from (Fails kind) g = absurd (fails_not_gives kind i g)

  assigned : (cells : List Cell) (set : BuildSet) (u : ValueType) → IsSetAt y c set.index set u → IsBuiltFrom params set.value u → Cs cells
      → Ok (assign same_name args cells set)
  assigned cells set u h b fits =
      ok_on (place same_name args set set.index) _ (λ i e.
      ok_on (evaluate same_name args set.value) _ (λ v g.
      let q = placed set set.index u h i e in write_ok cells i v q.0 u fits q.1 (evaluated set.value u v b g)))

  all_assigned : (sets : List BuildSet) (cells : List Cell) → params ≡ get_or y.makers c [] → AreSets y c sets → Cs cells
      → Ok (assign_all same_name args cells sets)
  all_assigned [] cells e h fits = λ z g. subst Cs (same_gives cells z g) fits
  all_assigned (set ∷ more) cells e h fits =
      ok_on (assign same_name args cells set) _ (λ next g.
      all_assigned more next e h.3 (assigned cells set h.0 h.1 (subst (λ q. IsBuiltFrom q set.value h.0) (sym e) h.2) fits next g))

  run_at : (n : ℕ) (f : Cell) (rest : List Cell) (at x : ℕ) (d : Cell) → ((j : ℕ) → j < n → CellFits w f (member y c (at + j)))
      → ((z : ℕ) (b : Cell) → slice_get rest z ≡ Some b → CellFits w b (member y c (at + n + z)))
      → slice_get (replicate n f ++ rest) x ≡ Some d → CellFits w d (member y c (at + x))
  run_at zero f rest at x d run more e = subst (λ q. CellFits w d (member y c q)) (sum at x) (more x d e)
    where
      sum : (a b : ℕ) → a + 0 + b ≡ a + b
      sum a b = omega arith
  run_at (suc n) f rest at zero d run more e = subst (λ z. CellFits w z (member y c (at + zero))) (some_cell f d e) (run zero (omega arith))
  run_at (suc n) f rest at (suc x) d run more e =
      subst (λ q. CellFits w d (member y c q)) (shift at x)
      (run_at n f rest (at + 1) x d
      (λ j lt. subst (λ q. CellFits w f (member y c q)) (sym (shift at j)) (run (suc j) (omega (arith, lt))))
      (λ z b g. subst (λ q. CellFits w b (member y c q)) (wide at n z) (more z b g)) e)
    where
      shift : (a b : ℕ) → (a + 1) + b ≡ a + suc b
      shift a b = omega arith

      wide : (a b z : ℕ) → a + suc b + z ≡ (a + 1) + b + z
      wide a b z = omega arith

  fresh_fit : (runs : List CellRun) (at : ℕ) → AreRuns y c at runs → (x : ℕ) (d : Cell) → slice_get (fresh_cells {N = Name} runs) x ≡ Some d
      → CellFits w d (member y c (at + x))
  fresh_fit [] at h x d e = absurd (no_cell d e)
  fresh_fit (run ∷ more) at h x d e =
      run_at run.count (fresh run.kind) (fresh_cells more) at x d
      (λ j lt. let u = h.0 j lt in subst (CellFits w (fresh run.kind)) (sym u.1) (fresh_fits w run.kind u.0))
      (λ z b g. fresh_fit more (at + run.count) h.1 z b g) e

  from_zero : (x : ℕ) → 0 + x ≡ x
  from_zero x = omega arith

  pub constructed_fit : (class : ClassShape) → params ≡ get_or y.makers c [] → AreRuns y c 0 class.cells → AreSets y c class.sets
      → (cells : List Cell) → construct same_name class args ≡ Gives cells → Cs cells
  constructed_fit class e runs sets cells g =
      all_assigned class.sets (fresh_cells class.cells) e sets
      (λ x d h. subst (λ q. CellFits w d (member y c q)) (from_zero x) (fresh_fit class.cells 0 runs x d h)) cells g

-- objects and their types in step
abbrev pub typed : List (Name × Object) → List ObjectType → List (Name × ObjectType)
typed [] as' = []
typed (e ∷ es) [] = []
typed (e ∷ es) (a ∷ as') = (e.0, a) ∷ typed es as'

abbrev pub AreFineObjects : World → Types → List (Name × Object) → List ObjectType → Type 0
AreFineObjects w y [] as' = Unit {0}
AreFineObjects w y (e ∷ es) [] = ⊥
AreFineObjects w y (e ∷ es) (a ∷ as') = CellsFit w y a e.1.cells × AreFineObjects w y es as'

-- the objects of parameters
pub parameters_fit : (w : World) (y : Types) (vars : List Target) (n : ℕ) (t : Name) (k : ℕ) (q : Name) (params : List (List Kind))
    (vs : List Value) (us : List ValueType) → AreParameters vars n params us → AllFit w vs us
    → AreFineObjects w y (parameters t k q params vs) (parameter_types params us)
parameters_fit w y vars n t k q [] vs us a fit = tt
parameters_fit w y vars n t k q ([] ∷ more) vs us a fit = absurd a
parameters_fit w y vars n t k q ((kind ∷ other ∷ kinds) ∷ more) vs us a fit = absurd a
parameters_fit w y vars n t k q ((kind ∷ []) ∷ more) vs us a fit =
    subst (λ z. AreFineObjects w y (parameters t k q ((kind ∷ []) ∷ more) vs) (parameter_types ((kind ∷ []) ∷ more) z)) (sym a.2)
    (from vs (subst (AllFit w vs) a.2 fit) (λ ws g. parameters_fit w y vars (suc n) t (suc k) q more ws a.1 a.4 g))
  where
    cell_fits : (v : Value) → Fits w v a.0 → (x : ℕ) → CellFits w (started kind v) (cell_type y (type_of (Cells (is_sync kind) a.0)) x)
    cell_fits v f x = from_sync (is_sync kind) (started_fits w kind v a.0 f)
      where
        from_sync : (b : Bool) → CellFits w (started kind v) (Some (Cells b a.0)) → CellFits w (started kind v) (cell_type y (type_of (Cells b a.0)) x)
        from_sync true h = h
        from_sync false h = h

    from : (vs : List Value) → AllFit w vs (a.0 ∷ a.1)
        → ((ws : List Value) → AllFit w ws a.1 → AreFineObjects w y (parameters t (suc k) q more ws) (parameter_types more a.1))
        → AreFineObjects w y (parameters t k q ((kind ∷ []) ∷ more) vs) (parameter_types ((kind ∷ []) ∷ more) (a.0 ∷ a.1))
    from [] f again = absurd f
    from (v ∷ ws) f again = (one_cell w y (type_of (Cells (is_sync kind) a.0)) (started kind v) (cell_fits v f.0), again ws f.1)
