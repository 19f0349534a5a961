-- The cells of each class of a program are those that the tables have.
use Rattle.std.proofs.Common.{◌≡◌, ℕ, zero, suc, ◌+◌, ◌≤◌, ℤ, true, List, [], ◌∷◌, length, map, Option, Some, None, refl, sym, ap, subst, ◌∙◌, arith}
use Rattle.std.specs.Prelude.{slice_get, get_or, nat_lt}
use Rattle.cc_core.specs.Core.{no_class}
use Rattle.core_types.specs.Types.{Types, class_types, ClassTypes, function_types}
use Rattle.cc_names.specs.Declarations.{after_methods}
use Rattle.cc_names.specs.declared.declarations.Entity.TheVariants as entity
use Rattle.cc_names.specs.declared.declarations.FunId.{FunId}
use Rattle.cc_names.specs.Names.{NameTables, entity_named}
use Rattle.cc_names.specs.Table.{Name}
use Rattle.cc_ops.specs.Classes.{size}
use Rattle.cc_ops.specs.declared.shape.CellRun.{CellRun}
use Rattle.core_types.specs.Types.{no_class as no_class_types}
use Rattle.core_types.specs.Programs.{AreRuns}
use Rattle.cc_ops.specs.Shapes.{shape_of}
use Rattle.cc_names.specs.declared.declarations.ClassId.{ClassId}
use Rattle.cc_ops.specs.declared.shape.ClassShape.{ClassShape}
use Rattle.cc_functions.specs.declared.done.Done.{Done}
use Rattle.cc_functions.specs.Items.{run_of, filled_runs, no_members, class_item}
use Rattle.cc_functions.specs.Items.{function_item, class_id, after_constant, after_class, after_function, items_from}
use Rattle.cc_scopes.specs.declared.state.State.{State}
use Rattle.cc_scopes.specs.declared.tables.Class.{Class}
use Rattle.cc_scopes.specs.declared.tables.Tables.{Tables}
use Rattle.cc_scopes.specs.Meaning.{value_in}
use Rattle.cc_tables.specs.Tables.{outside, classes_from}
use Rattle.cc_tree.specs.declared.declarations.Item.{Item}
use Rattle.cc_tree.specs.declared.declarations.Item.TheVariants as item
use Rattle.cc_source.proofs.CleanLaws.{items_clean}
use Rattle.cc_source.proofs.Fits.{Clean}
use Rattle.cc_shared.proofs.CellLaws.{items_shapes}
use Rattle.cc_shared.proofs.ItemLaws.{constant_count}
use Rattle.source_types.specs.Reading.{IsThere, Anything, Matches}
use Rattle.source_types.proofs.FunctionLaws.{At}
use Rattle.source_types.proofs.RunLaws.{cells_same}
use Rattle.source_types.proofs.TypeTables.{EntriesKnown, types_of_class, entry_cells, filled_cells, fields_of, runs_match, sizes_match}

-- ---- each class has the cells of its members

abbrev pub CellsOf : Class → ClassShape → Type 0
CellsOf k x = x.cells ≡ filled_runs (map run_of (fields_of k.members))

abbrev pub AllCells : List Class → List ClassShape → Type 0
AllCells [] [] = Unit {0}
AllCells [] (x ∷ xs) = ⊥
AllCells (k ∷ ks) [] = ⊥
AllCells (k ∷ ks) (x ∷ xs) = CellsOf k x × AllCells ks xs

module _ (names : NameTables) (t bare : Tables) (no_classes : bare.classes ≡ []) (same : t.constants ≡ bare.constants) (y : Types)
    (matches : Matches y t) (total : ℕ)
    (constants : (k : ℕ) → k ≤ total → (j : ℕ) → nat_lt j k ≡ true → IsThere {A = ℤ} Anything (value_in (slice_get t.constants j)))
    (functions : (text : Name) (f : FunId) → entity_named names text ≡ Some (entity.Function f) → (function_types y f.0).this ≡ None) where
  pub cells_all : (k c f : ℕ) (d : Done) (xs : List Item) (s : State) → k + constant_count xs ≤ total → Clean (items_from names t (record { constants = k; classes = c; done = d }) xs s).1
      → AllCells (classes_from names bare k c f xs) (items_shapes names t k c d xs s)
  unfolding after_constant after_class after_function class_item function_item
  cells_all k c f d [] s le q = tt
  cells_all k c f d (item.Const name value line ∷ xs) s le q =
      let w = after_constant names t (record { constants = k; classes = c; done = d }) value line s in
      cells_all w.0.constants w.0.classes f w.0.done xs w.1 (omega (arith, le)) q
  cells_all k c f d (item.Class class ∷ xs) s le q =
      let w = after_class names t (record { constants = k; classes = c; done = d }) class s in
      let cx = outside names t k (Some (class_id c)) class.line in
      let b = outside names bare k (Some (record { 0 = c })) class.line in
      let at : At y cx (Some c) = record {
        matches = matches;
        this_is = λ z is. ap (λ (o : Option ClassId). elim o as (λ v. Option ℕ) [ None ↦ None | Some v ↦ Some v.0 ]) is;
        constants = constants k (omega (arith, le));
        functions = functions;
      } in
      let quiet = items_clean names t w.0.constants w.0.classes w.0.done xs w.1 q in (
        ap filled_runs (cells_same y cx (Some c) at b class
            (λ line. record { plain = record { names = refl; classes = no_classes }; known = refl; constants = λ j lt. ap (λ vs. value_in (slice_get vs j)) same })
            d no_members class.members s 0 f quiet),
        cells_all w.0.constants w.0.classes (after_methods f class.members) w.0.done xs w.1 le q,
      )
  cells_all k c f d (item.Func x ∷ xs) s le q =
      let w = after_function names t (record { constants = k; classes = c; done = d }) x s in
      cells_all w.0.constants w.0.classes (f + 1) w.0.done xs w.1 le q

-- ---- the cells of a class by its number

module _ (y : Types) where
  abbrev HasCells : ℕ → List CellRun → Type 0
  HasCells c runs = AreRuns y c 0 runs × (length (class_types y c).cells ≡ size runs)

  pub cells_at : (ks : List Class) (xs : List ClassShape) (c n : ℕ) → AllCells ks xs
      → ((i : ℕ) (k : Class) → slice_get ks i ≡ Some k → EntriesKnown k.members × (class_types y (n + i) ≡ types_of_class k))
      → ((i : ℕ) → slice_get ks i ≡ None → class_types y (n + i) ≡ no_class_types)
      → HasCells (n + c) (get_or (map shape_of xs) c no_class).cells
  cells_at [] [] c n p f g = (tt, ap (λ (k : ClassTypes). length k.cells) (g c refl))
  cells_at [] (x ∷ xs) c n p f g = absurd p
  cells_at (k ∷ ks) [] c n p f g = absurd p
  cells_at (k ∷ ks) (x ∷ xs) zero n p f g = let q = f 0 k refl in
      let cells : (class_types y (n + 0)).cells ≡ filled_cells (entry_cells k.members) = ap (λ (z : ClassTypes). z.cells) q.1 in
      subst (λ rs. HasCells (n + 0) rs) (sym p.0)
      (runs_match y (n + 0) k.members q.0 cells, ap (λ ts. length ts) cells ∙ sizes_match k.members q.0)
  cells_at (k ∷ ks) (x ∷ xs) (suc c) n p f g =
      let same : suc n + c ≡ n + suc c = omega arith in
      subst (λ m. HasCells m (get_or (map shape_of xs) c no_class).cells) same
      (cells_at ks xs c (suc n) p.1
      (λ i z is. let q = f (suc i) z is in let e : n + suc i ≡ suc n + i = omega arith in (q.0, ap (λ m. class_types y m) (sym e) ∙ q.1))
      (λ i is. let e : n + suc i ≡ suc n + i = omega arith in ap (λ m. class_types y m) (sym e) ∙ g (suc i) is))
