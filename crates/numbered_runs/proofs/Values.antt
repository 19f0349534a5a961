-- Operators, addresses and constructors give alike results of values that are the same but for names.
use Rattle.std.proofs.Common.{◌≡◌, ℕ, zero, suc, ◌+◌, List, [], ◌∷◌, Bool, true, false, not, ◌&&◌, ◌||◌, Option, Some, None, refl, ap, ◌∙◌, subst}
use Rattle.std.specs.Prelude.{ℤ, pos, ◌+ℤ◌, ◌-ℤ◌, ◌*ℤ◌, neg_ℤ, int_lt, int_le, int_div, int_rem, nat_abs, if◌then◌else◌, get_or, slice_get, slice_set, replicate, ◌==◌}
use Rattle.cc_ops.specs.Values.{Value, Void, Int, Null, Ptr, int_of, is_zero, first, second, moved, same_int, last_offset, Result, Gives, Fails, on_gives, Cell, Plain, Empty, Full, fresh, started}
use Rattle.cc_ops.specs.Operators.{number, truth, truth_of, quotient, remainder, same_value, operate, compute, fits}
use Rattle.cc_ops.specs.Addresses.{element, indexed, shifted}
use Rattle.cc_ops.specs.Cells.{written, write_at, write_cell}
use Rattle.cc_ops.specs.Classes.{BuildExpr, Literal, Param, Apply, Both, Either, BuildExprs, NoParts, MoreParts, BuildSet, ClassShape, fresh_cells, evaluate, evaluate_all, place, assign, assign_all, construct}
use Rattle.cc_ops.specs.Machine.{Address, same_address}
use Rattle.cc_ops.specs.declared.kind.Kind.{Kind}
use Rattle.cc_ops.specs.declared.kind.Kind.TheVariants as kind
use Rattle.cc_ops.specs.declared.operator.Op.{Op}
use Rattle.cc_ops.specs.declared.operator.Op.TheVariants.{Neg, Not, Bool as Bool', Add, Sub, Mul, Div, Rem, Eq, Ne, Lt, Le, Gt, Ge}
use Rattle.cc_ops.specs.declared.shape.CellRun.{CellRun}
use Rattle.global_ptr.specs.declared.ends.FaultKind.TheVariants.{Overflow, DivideByZero, IndexOut}
use Rattle.cc_core.specs.Names.{Name, same_name}
use Rattle.cc_core.specs.Numbers.{Numbers}
use Rattle.code_names.specs.Same.{Pairwise, Told, SameValue, SameValues}
use Rattle.code_names.proofs.Values.{int_same, zero_same, moved_same, truth_same, constant_same}
use Rattle.numbered_runs.specs.Stands.{is_object, Alike, SameCell}
use Rattle.numbered_runs.proofs.Lists.{pairwise_append, SameOption, same_option}

-- ---- results

abbrev pub SameResult : {A B : Type 0} → (A → B → Type 0) → Result A → Result B → Type 0
SameResult S (Gives a) (Gives b) = S a b
SameResult S (Fails k) (Fails j) = k ≡ j
SameResult S r q = ⊥

module _ {A B C D : Type 0} (S : A → B → Type 0) (T : C → D → Type 0) where
  pub on_same : (r : Result A) (q : Result B) (f : A → Result C) (g : B → Result D) → SameResult S r q
      → ((a : A) (b : B) → S a b → SameResult T (f a) (g b)) → SameResult T (on_gives r f) (on_gives q g)
  on_same (Gives a) (Gives b) f g h each = each a b h
  on_same (Fails k) (Fails j) f g h each = h
  on_same r q f g h each = absurd h

module _ {A B : Type 0} (S : A → B → Type 0) where
  pub either_same : (b c : Bool) (x x' : Result A) (y y' : Result B) → b ≡ c → SameResult S x y → SameResult S x' y'
      → SameResult S (if b then x else x') (if c then y else y')
  either_same b c x x' y y' e h g = subst (λ (d : Bool). SameResult S (if b then x else x') (if d then y else y')) e (either b)
    where
      either : (d : Bool) → SameResult S (if d then x else x') (if d then y else y')
      either true = h
      either false = g

module _ {N M : Type 0} (R : N → M → Type 0) where
  abbrev Same : Value N → Value M → Type 0
  Same = SameValue R

  -- ---- numbers and truths

  pub number_same : (i j : ℤ) → i ≡ j → SameResult Same (number i) (number j)
  number_same i j e = either_same Same (fits i) (fits j) (Gives (Int i)) (Fails Overflow) (Gives (Int j)) (Fails Overflow) (ap fits e) e refl

  truths_same : (b c : Bool) → b ≡ c → Same (truth b) (truth c)
  truths_same b c e = subst (λ d. Same (truth b) (truth d)) e (truth_same R b)

  quotient_same : (i i' j j' : ℤ) → i ≡ i' → j ≡ j' → SameResult Same (quotient i j) (quotient i' j')
  quotient_same i i' j j' e f = either_same Same (same_int j (pos 0)) (same_int j' (pos 0)) (Fails DivideByZero) (number (int_div i j)) (Fails DivideByZero) (number (int_div i' j'))
      (ap (λ k. same_int k (pos 0)) f) refl (number_same (int_div i j) (int_div i' j') (ap (λ k. int_div k j) e ∙ ap (int_div i') f))

  remainder_same : (i i' j j' : ℤ) → i ≡ i' → j ≡ j' → SameResult Same (remainder i j) (remainder i' j')
  remainder_same i i' j j' e f = either_same Same (same_int j (pos 0)) (same_int j' (pos 0)) (Fails DivideByZero) (number (int_rem i j)) (Fails DivideByZero) (number (int_rem i' j'))
      (ap (λ k. same_int k (pos 0)) f) refl (number_same (int_rem i j) (int_rem i' j') (ap (λ k. int_rem k j) e ∙ ap (int_rem i') f))

  -- at two ints
  both : {A : Type 0} → (f : ℤ → ℤ → A) → (v : Value N) (v' : Value M) (w : Value N) (w' : Value M) → Same v v' → Same w w'
      → f (int_of v) (int_of w) ≡ f (int_of v') (int_of w')
  both f v v' w w' h g = ap (λ i. f i (int_of w)) (int_same R v v' h) ∙ ap (f (int_of v')) (int_same R w w' g)

  -- the k-th value, void where there is none
  pub argument_same : (vs : List (Value N)) (ws : List (Value M)) (k : ℕ) → SameValues R vs ws → Same (get_or vs k Void) (get_or ws k Void)
  argument_same [] [] k h = tt
  argument_same [] (w ∷ ws) k h = absurd h
  argument_same (v ∷ vs) [] k h = absurd h
  argument_same (v ∷ vs) (w ∷ ws) zero h = h.0
  argument_same (v ∷ vs) (w ∷ ws) (suc k) h = argument_same vs ws k h.1

  -- ---- the addresses of elements

  element_same : (n : ℕ) (v : Value N) (w : Value M) → Same v w → SameResult ◌≡◌ (element n v) (element n w)
  element_same n v w h = subst (λ (i : ℤ). SameResult ◌≡◌ (at (int_of v)) (at i)) (int_same R v w h)
      (either_same ◌≡◌ (within (int_of v)) (within (int_of v)) _ _ _ _ refl refl refl)
    where
      within : ℤ → Bool
      within i = int_lt i (pos n) && not (int_lt i (pos 0))

      at : ℤ → Result ℕ
      at i = if within i then Gives (nat_abs i) else Fails IndexOut

  pub indexed_same : (a : Value N) (b : Value M) (n : ℕ) (i : Value N) (j : Value M) → Same a b → Same i j
      → SameResult Same (indexed a n i) (indexed b n j)
  indexed_same a b n i j h g = on_same ◌≡◌ Same (element n i) (element n j) _ _ (element_same n i j g)
      (λ k m e. subst (λ u. Same (moved a k) (moved b u)) e (moved_same R a b k h))

  pub shifted_same : (a : Value N) (b : Value M) (i : ℤ) → Same a b → SameResult Same (shifted a i) (shifted b i)
  shifted_same Void Void i h = refl
  shifted_same (Int k) (Int m) i h = refl
  shifted_same Null Null i h = refl
  shifted_same (Ptr o x) (Ptr q y) i h = subst (λ z. SameResult Same (shifted (Ptr o x) i) (shifted (Ptr q z) i)) h.1
      (either_same Same (beyond x) (beyond x) _ _ _ _ refl refl (h.0, refl))
    where
      beyond : ℕ → Bool
      beyond z = int_lt (pos z +ℤ i) (pos 0) || int_lt (pos last_offset) (pos z +ℤ i)
  shifted_same a b i h = absurd h

  -- ---- operators, where one test tells of names on both sides whether they are the same

  module _ (same : N → N → Bool) (like : M → M → Bool)
      (told : (a : N) (o : M) (b : N) (u : M) → R a o → R b u → same a b ≡ like o u) where
    voids_told : (w : Value N) (w' : Value M) → Same w w' → same_value same Void w ≡ same_value like Void w'
    voids_told Void Void g = refl
    voids_told (Int j) (Int j') g = refl
    voids_told Null Null g = refl
    voids_told (Ptr b y) (Ptr u y') g = refl
    voids_told w w' g = absurd g

    ints_told : (i i' : ℤ) → i ≡ i' → (w : Value N) (w' : Value M) → Same w w' → same_value same (Int i) w ≡ same_value like (Int i') w'
    ints_told i i' e Void Void g = refl
    ints_told i i' e (Int j) (Int j') g = ap (λ k. same_int k j) e ∙ ap (same_int i') g
    ints_told i i' e Null Null g = refl
    ints_told i i' e (Ptr b y) (Ptr u y') g = refl
    ints_told i i' e w w' g = absurd g

    nulls_told : (w : Value N) (w' : Value M) → Same w w' → same_value same Null w ≡ same_value like Null w'
    nulls_told Void Void g = refl
    nulls_told (Int j) (Int j') g = refl
    nulls_told Null Null g = refl
    nulls_told (Ptr b y) (Ptr u y') g = refl
    nulls_told w w' g = absurd g

    pointers_told : (a : N) (o : M) (x x' : ℕ) → R a o → x ≡ x' → (w : Value N) (w' : Value M) → Same w w'
        → same_value same (Ptr a x) w ≡ same_value like (Ptr o x') w'
    pointers_told a o x x' h e Void Void g = refl
    pointers_told a o x x' h e (Int j) (Int j') g = refl
    pointers_told a o x x' h e Null Null g = refl
    pointers_told a o x x' h e (Ptr b y) (Ptr u y') g =
        ap (λ t. t && (x == y)) (told a o b u h g.0) ∙ ap (λ z. like o u && (z == y)) e ∙ ap (λ z. like o u && (x' == z)) g.1
    pointers_told a o x x' h e w w' g = absurd g

    values_told : (v : Value N) (v' : Value M) (w : Value N) (w' : Value M) → Same v v' → Same w w'
        → same_value same v w ≡ same_value like v' w'
    values_told Void Void w w' h g = voids_told w w' g
    values_told (Int i) (Int i') w w' h g = ints_told i i' h w w' g
    values_told Null Null w w' h g = nulls_told w w' g
    values_told (Ptr a x) (Ptr o x') w w' h g = pointers_told a o x x' h.0 h.1 w w' g
    values_told v v' w w' h g = absurd h

    operate_same : (op : Op) (v : Value N) (v' : Value M) (w : Value N) (w' : Value M) → Same v v' → Same w w'
        → SameResult Same (operate same op v w) (operate like op v' w')
    operate_same Neg v v' w w' h g = number_same _ _ (ap neg_ℤ (int_same R v v' h))
    operate_same Not v v' w w' h g = truths_same _ _ (zero_same R v v' h)
    operate_same Bool' v v' w w' h g = truths_same _ _ (ap not (zero_same R v v' h))
    operate_same Add v v' w w' h g = number_same _ _ (both ◌+ℤ◌ v v' w w' h g)
    operate_same Sub v v' w w' h g = number_same _ _ (both ◌-ℤ◌ v v' w w' h g)
    operate_same Mul v v' w w' h g = number_same _ _ (both ◌*ℤ◌ v v' w w' h g)
    operate_same Div v v' w w' h g = quotient_same _ _ _ _ (int_same R v v' h) (int_same R w w' g)
    operate_same Rem v v' w w' h g = remainder_same _ _ _ _ (int_same R v v' h) (int_same R w w' g)
    operate_same Eq v v' w w' h g = truths_same _ _ (values_told v v' w w' h g)
    operate_same Ne v v' w w' h g = truths_same _ _ (ap not (values_told v v' w w' h g))
    operate_same Lt v v' w w' h g = truths_same _ _ (both int_lt v v' w w' h g)
    operate_same Le v v' w w' h g = truths_same _ _ (both int_le v v' w w' h g)
    operate_same Gt v v' w w' h g = truths_same _ _ (both int_lt w w' v v' g h)
    operate_same Ge v v' w w' h g = truths_same _ _ (both int_le w w' v v' g h)

    pub compute_same : (op : Op) (vs : List (Value N)) (ws : List (Value M)) → SameValues R vs ws
        → SameResult Same (compute same op vs) (compute like op ws)
    compute_same op vs ws h =
        operate_same op (first vs) (first ws) (second vs) (second ws) (argument_same vs ws 0 h) (argument_same vs ws 1 h)

    -- ---- the expressions of constructors

    truth_of_same : (r : Result (Value N)) (q : Result (Value M)) → SameResult Same r q → SameResult Same (truth_of r) (truth_of q)
    truth_of_same r q h = on_same Same Same r q _ _ h (λ v w g. truths_same _ _ (ap not (zero_same R v w g)))

    module _ (args : List (Value N)) (args' : List (Value M)) (alike : SameValues R args args') where
      mutual
        evaluate_same : (e : BuildExpr) → SameResult Same (evaluate same args e) (evaluate like args' e)
        evaluate_same (Literal c) = constant_same R c
        evaluate_same (Param k) = argument_same args args' k alike
        evaluate_same (Apply op es) =
            on_same (SameValues R) Same (evaluate_all same args es) (evaluate_all like args' es) _ _ (evaluate_all_same es) (compute_same op)
        evaluate_same (Both a b) = on_same Same Same (evaluate same args a) (evaluate like args' a) _ _ (evaluate_same a) (λ v w h.
            either_same Same (is_zero v) (is_zero w) _ _ _ _ (zero_same R v w h) (truths_same false false refl)
            (truth_of_same (evaluate same args b) (evaluate like args' b) (evaluate_same b)))
        evaluate_same (Either a b) = on_same Same Same (evaluate same args a) (evaluate like args' a) _ _ (evaluate_same a) (λ v w h.
            either_same Same (is_zero v) (is_zero w) _ _ _ _ (zero_same R v w h)
            (truth_of_same (evaluate same args b) (evaluate like args' b) (evaluate_same b)) (truths_same true true refl))

        evaluate_all_same : (es : BuildExprs) → SameResult (SameValues R) (evaluate_all same args es) (evaluate_all like args' es)
        evaluate_all_same NoParts = tt
        evaluate_all_same (MoreParts e es) =
            on_same Same (SameValues R) (evaluate same args e) (evaluate like args' e) _ _ (evaluate_same e) (λ v w h.
            on_same (SameValues R) (SameValues R) (evaluate_all same args es) (evaluate_all like args' es) _ _ (evaluate_all_same es) (λ vs ws g. (h, g)))

      place_same : (set : BuildSet) (index : Option BuildExpr) → SameResult ◌≡◌ (place same args set index) (place like args' set index)
      place_same set None = refl
      place_same set (Some e) = on_same Same ◌≡◌ (evaluate same args e) (evaluate like args' e) _ _ (evaluate_same e) (λ v w h.
          on_same ◌≡◌ ◌≡◌ (element set.length v) (element set.length w) _ _ (element_same set.length v w h) (λ i j g.
          ap (λ k. set.offset + k) g))

-- ---- cells

module _ (n : Numbers) where
  abbrev pub SameCells : List (Cell Address) → List (Cell Name) → Type 0
  SameCells = Pairwise (SameCell n)

  pub fresh_same : (k : Kind) → SameCell n (fresh k) (fresh k)
  fresh_same kind.Int = refl
  fresh_same kind.SyncInt = tt
  fresh_same kind.Ptr = tt
  fresh_same kind.SyncPtr = tt

  pub started_same : (k : Kind) (v : Value Address) (w : Value Name) → Alike n v w → SameCell n (started k v) (started k w)
  started_same kind.Int v w h = h
  started_same kind.SyncInt v w h = h
  started_same kind.Ptr v w h = h
  started_same kind.SyncPtr v w h = h

  pub replicated_same : (k : ℕ) (c : Cell Address) (d : Cell Name) → SameCell n c d → SameCells (replicate k c) (replicate k d)
  replicated_same zero c d h = tt
  replicated_same (suc k) c d h = (h, replicated_same k c d h)

  fresh_cells_same : (runs : List CellRun) → SameCells (fresh_cells runs) (fresh_cells runs)
  fresh_cells_same [] = tt
  fresh_cells_same (run ∷ more) = pairwise_append (SameCell n) (replicate run.count (fresh run.kind)) (fresh_cells more)
      (replicate run.count (fresh run.kind)) (fresh_cells more)
      (replicated_same run.count (fresh run.kind) (fresh run.kind) (fresh_same run.kind)) (fresh_cells_same more)

  pub written_same : (c : Cell Address) (d : Cell Name) (v : Value Address) (w : Value Name) → SameCell n c d → Alike n v w
      → SameResult (SameCell n) (written c v) (written d w)
  written_same (Plain u) (Plain x) v w h g = g
  written_same Empty Empty v w h g = g
  written_same (Full u) (Full x) v w h g = refl
  written_same c d v w h g = absurd h

  cell_set : (cs : List (Cell Address)) (ds : List (Cell Name)) (i : ℕ) (c : Cell Address) (d : Cell Name) → SameCells cs ds → SameCell n c d
      → SameCells (slice_set cs i c) (slice_set ds i d)
  cell_set [] [] i c d h g = tt
  cell_set [] (y ∷ ds) i c d h g = absurd h
  cell_set (x ∷ cs) [] i c d h g = absurd h
  cell_set (x ∷ cs) (y ∷ ds) zero c d h g = (g, h.1)
  cell_set (x ∷ cs) (y ∷ ds) (suc i) c d h g = (h.0, cell_set cs ds i c d h.1 g)

  write_at_same : (cs : List (Cell Address)) (ds : List (Cell Name)) (i : ℕ) (v : Value Address) (w : Value Name) → SameCells cs ds → Alike n v w
      → (c : Option (Cell Address)) (d : Option (Cell Name)) → SameOption (SameCell n) c d
      → SameResult SameCells (write_at cs i v c) (write_at ds i w d)
  write_at_same cs ds i v w h g None None e = refl
  write_at_same cs ds i v w h g (Some c) (Some d) e =
      on_same (SameCell n) SameCells (written c v) (written d w) _ _ (written_same c d v w e g) (λ c' d' f. cell_set cs ds i c' d' h f)
  write_at_same cs ds i v w h g c d e = absurd e

  pub write_cell_same : (cs : List (Cell Address)) (ds : List (Cell Name)) (i : ℕ) (v : Value Address) (w : Value Name) → SameCells cs ds
      → Alike n v w → SameResult SameCells (write_cell cs i v) (write_cell ds i w)
  write_cell_same cs ds i v w h g = write_at_same cs ds i v w h g (slice_get cs i) (slice_get ds i) (same_option (SameCell n) cs ds h i)

  -- ---- constructors, where one test tells of numbers and of names whether they are the same

  module _ (told : (a : Address) (o : Name) (b : Address) (u : Name) → Told (is_object n) a o → Told (is_object n) b u
      → same_address a b ≡ same_name o u) where
    pub computed_same : (op : Op) (vs : List (Value Address)) (ws : List (Value Name)) → SameValues (Told (is_object n)) vs ws
        → SameResult (Alike n) (compute same_address op vs) (compute same_name op ws)
    computed_same = compute_same (Told (is_object n)) same_address same_name told

    module _ (vs : List (Value Address)) (ws : List (Value Name)) (alike : SameValues (Told (is_object n)) vs ws) where
      assign_same : (cs : List (Cell Address)) (ds : List (Cell Name)) (set : BuildSet) → SameCells cs ds
          → SameResult SameCells (assign same_address vs cs set) (assign same_name ws ds set)
      assign_same cs ds set h =
          on_same ◌≡◌ SameCells (place same_address vs set set.index) (place same_name ws set set.index) _ _
          (place_same (Told (is_object n)) same_address same_name told vs ws alike set set.index) (λ i j e.
          on_same (Alike n) SameCells (evaluate same_address vs set.value) (evaluate same_name ws set.value) _ _
          (evaluate_same (Told (is_object n)) same_address same_name told vs ws alike set.value) (λ v w g.
          subst (λ k. SameResult SameCells (write_cell cs i v) (write_cell ds k w)) e (write_cell_same cs ds i v w h g)))

      assign_all_same : (sets : List BuildSet) (cs : List (Cell Address)) (ds : List (Cell Name)) → SameCells cs ds
          → SameResult SameCells (assign_all same_address vs cs sets) (assign_all same_name ws ds sets)
      assign_all_same [] cs ds h = h
      assign_all_same (set ∷ more) cs ds h =
          on_same SameCells SameCells (assign same_address vs cs set) (assign same_name ws ds set) _ _ (assign_same cs ds set h)
          (assign_all_same more)

      pub construct_same : (c : ClassShape) → SameResult SameCells (construct same_address c vs) (construct same_name c ws)
      construct_same c = assign_all_same c.sets (fresh_cells c.cells) (fresh_cells c.cells) (fresh_cells_same c.cells)
