-- New objects, and written ones, have cells of their types.
use Rattle.std.proofs.Common.{◌≡◌, ◌≢◌, ℕ, zero, suc, ◌+◌, ◌<◌, Bool, true, false, cond, List, [], ◌∷◌, ◌++◌, length, Option, Some, None, refl, sym, ap, subst, ◌∙◌}
use Rattle.std.proofs.Common.{⊎_elim, arith}
use Rattle.std.specs.Prelude.{slice_get, slice_set, get_or, map, replicate}
use Rattle.std.proofs.lemmas.Bool.{cases_eq}
use Rattle.std.proofs.lemmas.List.{length-append, length-replicate}
use Rattle.cc_ops.specs.Values.{constant, Void, Plain, Empty as EmptyCell, Full, Result, Gives, Fails, first, after_first, second, is_zero, fresh, started, on_gives}
use Rattle.cc_ops.specs.Cells.{written, write_at, write_cell}
use Rattle.cc_ops.specs.Classes.{BuildExpr, Literal, Param, Apply, Both, Either, BuildExprs, NoParts, MoreParts, BuildSet, ClassShape, construct, assign, assign_all, fresh_cells, size}
use Rattle.cc_ops.specs.Classes.{evaluate, evaluate_all, place}
use Rattle.cc_ops.specs.Operators.{compute, truth, truth_of}
use Rattle.cc_ops.specs.Addresses.{element}
use Rattle.cc_ops.specs.declared.kind.Kind.{Kind}
use Rattle.cc_ops.specs.declared.kind.Kind.TheVariants.{Int as IntK, SyncInt as SyncIntK, Ptr as PtrK, SyncPtr as SyncPtrK}
use Rattle.cc_ops.specs.declared.shape.CellRun.{CellRun}
use Rattle.global_ptr.specs.declared.ends.FaultKind.TheVariants.{SyncTwice, IndexOut}
use Rattle.cc_core.specs.Names.{Name, same_name, Value, Cell}
use Rattle.cc_core.specs.Effects.{cells_with}
use Rattle.core_types.specs.Types.{ValueType, AnInt, Holds, Types, member, class_types, is_sync, IsKind, IsValue}
use Rattle.core_types.specs.Values.{Content, Row, Instance, IsWhole, World, Fits, AllFit, CellFits, CellsFit, cell_type}
use Rattle.core_types.specs.Typing.{Gives as GivesOne}
use Rattle.core_types.specs.Programs.{AreKinds, IsBuilt, AreBuilt, AreRuns, IsSetAt, AreSets}
use Rattle.core_types.proofs.Basics.{same_some, some_not_none, constant_fits, serves}
use Rattle.core_types.proofs.Found.{fails_not_gives, same_gives, IsNumber, truth_gives, operated, element_gives}

some_cell : (a b : Cell) → Some a ≡ Some b → a ≡ b
some_cell a b e = cc

no_cell : (c : Cell) → ◌≡◌ {A = Option Cell} None (Some c) → ⊥
no_cell c e = cc

replicated : (n : ℕ) (c d : Cell) (x : ℕ) → slice_get (replicate n c) x ≡ Some d → d ≡ c
replicated zero c d x e = absurd (no_cell d e)
replicated (suc n) c d zero e = sym (some_cell c d e)
replicated (suc n) c d (suc x) e = replicated n c d x e

get_set_same : (cells : List Cell) (i : ℕ) (c d : Cell) → slice_get cells i ≡ Some d → slice_get (slice_set cells i c) i ≡ Some c
get_set_same [] i c d e = absurd (no_cell d e)
get_set_same (b ∷ cells) zero c d e = refl
get_set_same (b ∷ cells) (suc i) c d e = get_set_same cells i c d e

get_set_other : (cells : List Cell) (i x : ℕ) (c : Cell) → i ≢ x → slice_get (slice_set cells i c) x ≡ slice_get cells x
get_set_other [] i x c ne = refl
get_set_other (b ∷ cells) zero zero c ne = absurd (ne refl)
get_set_other (b ∷ cells) zero (suc x) c ne = refl
get_set_other (b ∷ cells) (suc i) zero c ne = refl
get_set_other (b ∷ cells) (suc i) (suc x) c ne = get_set_other cells i x c (λ e. ne (ap suc e))

-- writes keep the number of cells

same_length : (cells : List Cell) (i : ℕ) (c : Cell) → length (slice_set cells i c) ≡ length cells
same_length [] i c = refl
same_length (b ∷ cells) zero c = refl
same_length (b ∷ cells) (suc i) c = ap suc (same_length cells i c)

-- so many cells, where there are some
abbrev Long : ℕ → Result (List Cell) → Type 0
Long n r = (cells : List Cell) → r ≡ Gives cells → length cells ≡ n

long_on : {A : Type 0} (n : ℕ) (r : Result A) (go : A → Result (List Cell)) → ((a : A) → r ≡ Gives a → Long n (go a)) → Long n (on_gives r go)
long_on n (Gives a) go h = h a refl
long_on {A} n (Fails kind) go h = λ cells e. absurd (fails_not_gives kind cells e)

pub write_long : (cells : List Cell) (i : ℕ) (v : Value) → Long (length cells) (write_cell cells i v)
write_long cells i v = from (slice_get cells i)
  where
    from : (o : Option Cell) → Long (length cells) (write_at cells i v o)
    from None = λ z e. absurd (fails_not_gives IndexOut z e)
    from (Some old) = long_on (length cells) (written old v) (λ d. Gives (slice_set cells i d)) (λ d e z g.
        ap length (sym (same_gives (slice_set cells i d) z g)) ∙ same_length cells i d)

all_long : (args : List Value) (sets : List BuildSet) (cells : List Cell) → Long (length cells) (assign_all same_name args cells sets)
all_long args [] cells = λ z g. ap length (sym (same_gives cells z g))
all_long args (set ∷ more) cells =
    long_on (length cells) (assign same_name args cells set) _ (λ next e z g.
    all_long args more next z g
    ∙ long_on (length cells) (place same_name args set set.index) _ (λ i e'.
    long_on (length cells) (evaluate same_name args set.value) _ (λ v e''. write_long cells i v)) next e)

fresh_long : (runs : List CellRun) → length (fresh_cells {N = Name} runs) ≡ size runs
fresh_long [] = refl
fresh_long (run ∷ more) =
    length-append (replicate run.count (fresh run.kind)) (fresh_cells more)
    ∙ (ap (λ z. z + length (fresh_cells {N = Name} more)) (length-replicate run.count (fresh run.kind))
    ∙ ap (λ z. run.count + z) (fresh_long more))

-- a new object of a class has its cells
pub constructed_long : (class : ClassShape) (args : List Value) → Long (size class.cells) (construct same_name class args)
constructed_long class args = λ cells e. all_long args class.sets (fresh_cells class.cells) cells e ∙ fresh_long class.cells

pub with_long : (kinds : List Kind) (us : List ValueType) (vs : List Value) → AreKinds kinds us → length (cells_with kinds vs) ≡ length us
with_long [] us vs k = ap length (sym k)
with_long (kind ∷ kinds) us vs k = ap suc (with_long kinds k.1 (after_first vs) k.4) ∙ ap length (sym k.5)

pub whole_same : (y : Types) (k : Content) (cells new : List Cell) → length new ≡ length cells → IsWhole y k cells → IsWhole y k new
whole_same y (Row sync u) cells new e h = tt
whole_same y (Instance c) cells new e h = e ∙ h

module _ (y : Types) (w : World) (q : Name) where
  number_fits : (v : Value) (u : ValueType) → u ≡ AnInt → IsNumber v → Fits y w q v u
  number_fits v u e n = subst (Fits y w q v) (sym e) (subst (λ z. Fits y w q z AnInt) (sym n.1) refl)

  kind_value : (kind : Kind) (u : ValueType) → IsKind kind u → IsValue u
  kind_value IntK u k = subst IsValue (sym k) tt
  kind_value SyncIntK u k = subst IsValue (sym k) tt
  kind_value PtrK u k = subst IsValue (sym k.2) tt
  kind_value SyncPtrK u k = subst IsValue (sym k.2) tt

  fresh_fits : (kind : Kind) (u : ValueType) → IsKind kind u → CellFits y w q (fresh kind) (Some (Holds (is_sync kind) u))
  fresh_fits IntK u k = (refl, k, kind_value IntK u k)
  fresh_fits SyncIntK u k = (refl, kind_value SyncIntK u k)
  fresh_fits PtrK u k = (refl, k, kind_value PtrK u k)
  fresh_fits SyncPtrK u k = (refl, kind_value SyncPtrK u k)

  pub started_fits : (kind : Kind) (v : Value) (u : ValueType) → IsKind kind u → Fits y w q v u
      → CellFits y w q (started kind v) (Some (Holds (is_sync kind) u))
  started_fits IntK v u k h = (refl, h, kind_value IntK u k)
  started_fits SyncIntK v u k h = (refl, h, kind_value SyncIntK u k)
  started_fits PtrK v u k h = (refl, h, kind_value PtrK u k)
  started_fits SyncPtrK v u k h = (refl, h, kind_value SyncPtrK u k)

  pub fresh_object : (kind : Kind) (n : ℕ) (u : ValueType) → IsKind kind u → CellsFit y w q (Row (is_sync kind) u) (replicate n (fresh kind))
  fresh_object kind n u k = λ x c e.
      subst (λ z. CellFits y w q z (Some (Holds (is_sync kind) u))) (sym (replicated n (fresh kind) c x e)) (fresh_fits kind u k)

  pub one_cell : (sync : Bool) (u : ValueType) (c : Cell) → CellFits y w q c (Some (Holds sync u)) → CellsFit y w q (Row sync u) (c ∷ [])
  one_cell sync u c h = λ x d e. from x d e
    where
      from : (x : ℕ) (d : Cell) → slice_get (c ∷ []) x ≡ Some d → CellFits y w q d (Some (Holds sync u))
      from zero d e = subst (λ z. CellFits y w q z (Some (Holds sync u))) (some_cell c d e) h
      from (suc x) d e = absurd (no_cell d e)

  -- the cells of a parameter
  pub cells_with_fit : (kinds : List Kind) (these more : List ValueType) (vs : List Value) → AreKinds kinds these
      → AllFit y w q vs (these ++ more) → (x : ℕ) (c : Cell) → slice_get (cells_with kinds vs) x ≡ Some c
      → CellFits y w q c (slice_get (map (Holds false) these) x)
  cells_with_fit [] these more vs k f x c e = absurd (no_cell c e)
  cells_with_fit (kind ∷ kinds) these more [] k f x c e = absurd (subst (λ z. AllFit y w q [] (z ++ more)) k.5 f)
  cells_with_fit (kind ∷ kinds) these more (v ∷ vs) k f x c e =
      let g : AllFit y w q (v ∷ vs) (k.0 ∷ (k.1 ++ more)) = subst (λ z. AllFit y w q (v ∷ vs) (z ++ more)) k.5 f in
      subst (λ z. CellFits y w q c (slice_get (map (Holds false) z) x)) (sym k.5)
      (from x c e g.0 (λ x c e. cells_with_fit kinds k.1 more vs k.4 g.1 x c e))
    where
      from : (x : ℕ) (c : Cell) → slice_get (started kind v ∷ cells_with kinds vs) x ≡ Some c → Fits y w q v k.0
          → ((x : ℕ) (c : Cell) → slice_get (cells_with kinds vs) x ≡ Some c → CellFits y w q c (slice_get (map (Holds false) k.1) x))
          → CellFits y w q c (slice_get (Holds false k.0 ∷ map (Holds false) k.1) x)
      from zero c e h again = subst (λ z. CellFits y w q z (Some (Holds false k.0))) (some_cell (started kind v) c e)
          (subst (λ z. CellFits y w q (started kind v) (Some (Holds z k.0))) k.3 (started_fits kind v k.0 k.2 h))
      from (suc x) c e h again = again x c e

  -- a cell after a write
  cell_written : (old new : Cell) (v : Value) (sync : Bool) (u : ValueType) → CellFits y w q old (Some (Holds sync u)) → Fits y w q v u
      → written old v ≡ Gives new → CellFits y w q new (Some (Holds sync u))
  cell_written (Plain z) new v sync u h f e = subst (λ r. CellFits y w q r (Some (Holds sync u))) (same_gives (Plain v) new e) (h.0, f, h.2)
  cell_written EmptyCell new v sync u h f e = subst (λ r. CellFits y w q r (Some (Holds sync u))) (same_gives (Full v) new e) (h.0, f, h.1)
  cell_written (Full z) new v sync u h f e = absurd (fails_not_gives SyncTwice new e)

  cells_written : (k : Content) (cells : List Cell) (i : ℕ) (old new : Cell) (v : Value) (sync : Bool) (u : ValueType)
      → CellsFit y w q k cells → slice_get cells i ≡ Some old → cell_type y k i ≡ Some (Holds sync u) → Fits y w q v u
      → written old v ≡ Gives new → CellsFit y w q k (slice_set cells i new)
  cells_written k cells i old new v sync u fit at type f e = λ x c g. ⊎_elim
      (λ (r : x ≡ i).
      let here : c ≡ new = sym (some_cell new c (sym (get_set_same cells i new old at) ∙ (ap (slice_get (slice_set cells i new)) (sym r) ∙ g))) in
      subst (λ z. CellFits y w q z (cell_type y k x)) (sym here)
      (subst (λ z. CellFits y w q new z) (sym (ap (cell_type y k) r ∙ type))
      (cell_written old new v sync u (subst (CellFits y w q old) type (fit i old at)) f e)))
      (λ (r : x ≢ i). fit x c (sym (get_set_other cells i x new (λ z. r (sym z))) ∙ g))
      (cases_eq x i)

  module _ (k : Content) where
    abbrev Ok : Result (List Cell) → Type 0
    Ok r = (cells : List Cell) → r ≡ Gives cells → CellsFit y w q k cells

    ok_on : {A : Type 0} (r : Result A) (go : A → Result (List Cell)) → ((a : A) → r ≡ Gives a → Ok (go a)) → Ok (on_gives r go)
    ok_on (Gives a) go h = h a refl
    ok_on {A} (Fails kind) go h = λ cells e. absurd (fails_not_gives kind cells e)

    pub write_ok : (cells : List Cell) (i : ℕ) (v : Value) (sync : Bool) (u : ValueType) → CellsFit y w q k cells
        → cell_type y k i ≡ Some (Holds sync u) → Fits y w q v u → Ok (write_cell cells i v)
    write_ok cells i v sync u fits type f = from (slice_get cells i) refl
      where
        from : (o : Option Cell) → slice_get cells i ≡ o → Ok (write_at cells i v o)
        from None at = λ z e. absurd (fails_not_gives IndexOut z e)
        from (Some old) at = ok_on (written old v) (λ d. Gives (slice_set cells i d)) (λ new e z g.
            subst (CellsFit y w q k) (same_gives (slice_set cells i new) z g) (cells_written k cells i old new v sync u fits at type f e))

  -- constructors

  module _ (c : ℕ) (args : List Value) (fit : AllFit y w q args (class_types y c).params) where
    abbrev Cs : List Cell → Type 0
    Cs = CellsFit y w q (Instance c)

    abbrev params : List ValueType
    params = (class_types y c).params

    argument : (vs : List Value) (us : List ValueType) (k : ℕ) (u : ValueType) → AllFit y w q vs us → slice_get us k ≡ Some u
        → Fits y w q (get_or vs k Void) u
    argument vs [] k u f e = absurd (some_not_none u (sym e))
    argument [] (z ∷ us) k u f e = absurd f
    argument (v ∷ vs) (z ∷ us) zero u f e = subst (Fits y w q v) (same_some z u e) f.0
    argument (v ∷ vs) (z ∷ us) (suc k) u f e = argument vs us k u f.1 e

    truth_is : (r : Result Value) (v : Value) → truth_of r ≡ Gives v → IsNumber v
    truth_is (Gives z) v e = truth_gives _ v e
    truth_is (Fails kind) v e = absurd (fails_not_gives kind v e)

    applied : (r : Result (List Value)) (op : _) (v : Value) → on_gives r (compute same_name op) ≡ Gives v → IsNumber v
    applied (Gives vs) op v e = operated op (first vs) (second vs) v e
    applied (Fails kind) op v e = absurd (fails_not_gives kind v e)

    either_is : (b : Bool) (r : Result Value) (z : Bool) (v : Value) → cond b (Gives (truth z)) (truth_of r) ≡ Gives v → IsNumber v
    either_is true r z v e = truth_gives z v e
    either_is false r z v e = truth_is r v e

    both_is : (b : Bool) (r : Result Value) (z : Bool) (v : Value) → cond b (truth_of r) (Gives (truth z)) ≡ Gives v → IsNumber v
    both_is true r z v e = truth_is r v e
    both_is false r z v e = truth_gives z v e

    after_test : (r : Result Value) (go : Value → Result Value) (v : Value) → ((z u : Value) → go z ≡ Gives u → IsNumber u)
        → on_gives r go ≡ Gives v → IsNumber v
    after_test (Gives z) go v h e = h z v e
    after_test (Fails kind) go v h e = absurd (fails_not_gives kind v e)

    pub evaluated : (b : BuildExpr) (u : ValueType) (v : Value) → IsBuilt params b u → evaluate same_name args b ≡ Gives v → Fits y w q v u
    evaluated (Literal k) u v h e = subst (λ z. Fits y w q z u) (same_gives (constant k) v e) (constant_fits y w q k u h)
    evaluated (Param k) u v h e = subst (λ z. Fits y w q z u) (same_gives (get_or args k Void) v e) (argument args params k u fit h)
    evaluated (Apply op es) u v h e = number_fits v u h.3 (applied (evaluate_all same_name args es) op v e)
    evaluated (Both a b) u v h e = number_fits v u h.2
        (after_test (evaluate same_name args a) _ v (λ z r g. either_is (is_zero z) (evaluate same_name args b) false r g) e)
    evaluated (Either a b) u v h e = number_fits v u h.2
        (after_test (evaluate same_name args a) _ v (λ z r g. both_is (is_zero z) (evaluate same_name args b) true r g) e)

    pub evaluated_all : (es : BuildExprs) (us : List ValueType) (vs : List Value) → AreBuilt params es us
        → evaluate_all same_name args es ≡ Gives vs → AllFit y w q vs us
    evaluated_all NoParts us vs h e = subst (AllFit y w q vs) (sym h) (sym (same_gives [] vs e))
    evaluated_all (MoreParts b es) us vs h e = from (evaluate same_name args b) (evaluate_all same_name args es)
        (λ v g. evaluated b h.0 v h.2 g) (λ xs g. evaluated_all es h.1 xs h.3 g) e
      where
        from : (r : Result Value) (rs : Result (List Value)) → ((v : Value) → r ≡ Gives v → Fits y w q v h.0)
            → ((xs : List Value) → rs ≡ Gives xs → AllFit y w q xs h.1)
            → on_gives r (λ v. on_gives rs (λ xs. Gives (v ∷ xs))) ≡ Gives vs → AllFit y w q vs us
        from (Gives v) (Gives xs) f g i =
            subst (AllFit y w q vs) (sym h.4) (subst (λ z. AllFit y w q z (h.0 ∷ h.1)) (same_gives (v ∷ xs) vs i) (f v refl, g xs refl))
        from (Gives v) (Fails kind) f g i = absurd (fails_not_gives kind vs i)
        from (Fails kind) rs f g i = absurd (fails_not_gives kind vs i)

    pub argument_there : (vs : List Value) (us : List ValueType) (k : ℕ) (u : ValueType) → AllFit y w q vs us → slice_get us k ≡ Some u
        → (v : Value) × (slice_get vs k ≡ Some v)
    argument_there vs [] k u f e = absurd (some_not_none u (sym e))
    argument_there [] (z ∷ us) k u f e = absurd f
    argument_there (v ∷ vs) (z ∷ us) zero u f e = (v, refl)
    argument_there (v ∷ vs) (z ∷ us) (suc k) u f e = argument_there vs us k u f.1 e

    -- where a constructor assigns
    placed : (set : BuildSet) (index : Option BuildExpr) (u : ValueType) → IsSetAt y c index set u → (i : ℕ)
        → place same_name args set index ≡ Gives i → (sync : Bool) × (member y c i ≡ Some (Holds sync u))
    placed set None u h i e = (h.0, subst (λ z. member y c z ≡ Some (Holds h.0 u)) (same_gives set.offset i e) h.1)
    placed set (Some b) u h i e = (h.1, from (evaluate same_name args b) e)
      where
        at : (r : Result ℕ) → ((j : ℕ) → r ≡ Gives j → j < set.length) → on_gives r (λ k. Gives (set.offset + k)) ≡ Gives i
            → member y c i ≡ Some (Holds h.1 u)
        at (Gives j) low g = subst (λ z. member y c z ≡ Some (Holds h.1 u)) (same_gives (set.offset + j) i g) (h.2 j (low j refl))
        at (Fails kind) low g = absurd (fails_not_gives kind i g)

        from : (r : Result Value) → on_gives r (λ v. on_gives (element set.length v) (λ k. Gives (set.offset + k))) ≡ Gives i
            → member y c i ≡ Some (Holds h.1 u)
        from (Gives v) g = at (element set.length v) (λ j r. element_gives set.length v j r) g
        from (Fails kind) g = absurd (fails_not_gives kind i g)

    assigned : (cells : List Cell) (set : BuildSet) (u : ValueType) → IsSetAt y c set.index set u → GivesOne (IsBuilt params set.value) u → Cs cells
        → Ok (Instance c) (assign same_name args cells set)
    assigned cells set u h b fits =
        ok_on (Instance c) (place same_name args set set.index) _ (λ i e.
        ok_on (Instance c) (evaluate same_name args set.value) _ (λ v g.
        let r = placed set set.index u h i e in
        write_ok (Instance c) cells i v r.0 u fits r.1 (serves y w q v b.0 u (evaluated set.value b.0 v b.1 g) b.2)))

    all_assigned : (sets : List BuildSet) (cells : List Cell) → AreSets y c sets → Cs cells → Ok (Instance c) (assign_all same_name args cells sets)
    all_assigned [] cells h fits = λ z g. subst Cs (same_gives cells z g) fits
    all_assigned (set ∷ more) cells h fits =
        ok_on (Instance c) (assign same_name args cells set) _ (λ next g.
        all_assigned more next h.3 (assigned cells set h.0 h.1 h.2 fits next g))

    run_at : (n : ℕ) (f : Cell) (rest : List Cell) (at x : ℕ) (d : Cell) → ((j : ℕ) → j < n → CellFits y w q f (member y c (at + j)))
        → ((z : ℕ) (b : Cell) → slice_get rest z ≡ Some b → CellFits y w q b (member y c (at + n + z)))
        → slice_get (replicate n f ++ rest) x ≡ Some d → CellFits y w q d (member y c (at + x))
    run_at zero f rest at x d run more e = subst (λ r. CellFits y w q d (member y c r)) (sum at x) (more x d e)
      where
        sum : (a b : ℕ) → a + 0 + b ≡ a + b
        sum a b = omega arith
    run_at (suc n) f rest at zero d run more e = subst (λ z. CellFits y w q z (member y c (at + zero))) (some_cell f d e) (run zero (omega arith))
    run_at (suc n) f rest at (suc x) d run more e =
        subst (λ r. CellFits y w q d (member y c r)) (shift at x)
        (run_at n f rest (at + 1) x d
        (λ j lt. subst (λ r. CellFits y w q f (member y c r)) (sym (shift at j)) (run (suc j) (omega (arith, lt))))
        (λ z b g. subst (λ r. CellFits y w q b (member y c r)) (wide at n z) (more z b g)) e)
      where
        shift : (a b : ℕ) → (a + 1) + b ≡ a + suc b
        shift a b = omega arith

        wide : (a b z : ℕ) → a + suc b + z ≡ (a + 1) + b + z
        wide a b z = omega arith

    fresh_fit : (runs : List CellRun) (at : ℕ) → AreRuns y c at runs → (x : ℕ) (d : Cell) → slice_get (fresh_cells {N = Name} runs) x ≡ Some d
        → CellFits y w q d (member y c (at + x))
    fresh_fit [] at h x d e = absurd (no_cell d e)
    fresh_fit (run ∷ more) at h x d e =
        run_at run.count (fresh run.kind) (fresh_cells more) at x d
        (λ j lt. let u = h.0 j lt in subst (CellFits y w q (fresh run.kind)) (sym u.2) (fresh_fits run.kind u.0 u.1))
        (λ z b g. fresh_fit more (at + run.count) h.1 z b g) e

    from_zero : (x : ℕ) → 0 + x ≡ x
    from_zero x = omega arith

    pub constructed_fit : (class : ClassShape) → AreRuns y c 0 class.cells → AreSets y c class.sets
        → (cells : List Cell) → construct same_name class args ≡ Gives cells → Cs cells
    constructed_fit class runs sets cells g =
        all_assigned class.sets (fresh_cells class.cells) sets
        (λ x d h. subst (λ r. CellFits y w q d (member y c r)) (from_zero x) (fresh_fit class.cells 0 runs x d h)) cells g
