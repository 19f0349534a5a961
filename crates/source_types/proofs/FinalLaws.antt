-- The core of a program that breaks no rule is well typed.
use Rattle.std.proofs.Common.{◌≡◌, ℕ, zero, suc, ◌+◌, Bool, true, false, List, [], ◌∷◌, length, map, Some, None, refl, sym, ap, subst, ◌∙◌, ◌⊎◌, inl, inr, ⊎_elim, zero-add, arith}
use Rattle.std.specs.Prelude.{slice_get, get_or}
use Rattle.std.proofs.lemmas.Bool.{true≢false}
use Rattle.std.proofs.lemmas.Option.{none-some}
use Rattle.cc_blocking.specs.Rounds.{is_marked, may_block}
use Rattle.cc_blocking.specs.Conduct.{MayBlock}
use Rattle.cc_core.specs.Core as core
use Rattle.cc_core.specs.Core.{shapes, class_shape}
use Rattle.cc_core.specs.Names as core_names
use Rattle.cc_core.specs.View.{function_of, program_of}
use Rattle.cc_functions.specs.Items.{nothing_done, items}
use Rattle.cc_names.specs.Names.{names_of}
use Rattle.cc_ops.specs.Classes.{size}
use Rattle.cc_ops.specs.Shapes.{shape_of}
use Rattle.cc_ops.specs.declared.kind.Kind.{Kind}
use Rattle.cc_scopes.specs.declared.tables.Class.{Class}
use Rattle.cc_scopes.specs.declared.tables.Signature.{Signature}
use Rattle.cc_scopes.specs.Elab.{nothing_yet}
use Rattle.cc_shared.proofs.CellLaws.{items_shapes, shapes_done}
use Rattle.cc_shared.proofs.FunctionLaws.{slice_mapped}
use Rattle.cc_shared.proofs.ItemLaws.{constant_count}
use Rattle.cc_source.proofs.MainLaws.{some_main, main_has_its_number}
use Rattle.cc_source.proofs.RuleLaws.{rules_of_file}
use Rattle.cc_tables.specs.Tables.{classes_from, constants_of, functions_of, tables_of}
use Rattle.cc_tree.specs.declared.declarations.Program.{Program}
use Rattle.cc_types.specs.Elaboration.{read, main_of, elaboration_of}
use Rattle.cc_types.specs.Program.{IsWellFormed, core_program, Blocks}
use Rattle.core_types.specs.Programs.{AreParameters, AreRuns, AreSets, HasTypes, WellTyped}
use Rattle.core_types.specs.Types.{AnInt, FunctionTypes, ClassTypes, Types, function_types, class_types, no_function, IsConstant}
use Rattle.core_types.specs.Types.{no_class as no_class_types}
use Rattle.core_types.specs.Typing.{scope_of, is_atomic, AreTyped}
use Rattle.core_types.specs.Values.{World}
use Rattle.source_types.proofs.CellLaws.{cells_all, cells_at}
use Rattle.source_types.proofs.Counts.{conduct_in, mapped_none, marked_none}
use Rattle.source_types.proofs.FunctionItems.{AllFit}
use Rattle.source_types.proofs.FunctionLaws.{ReadFunction, FunctionFits}
use Rattle.source_types.proofs.Marks.{must_be_false, blocks_marked, marked_blocks, calm_conduct, atomic_unmarked}
use Rattle.source_types.proofs.SetsAll.{sets_all, sets_at}
use Rattle.source_types.proofs.TypeTables.{class_is, types_of, types_of_class, some_inside}
use Rattle.source_types.proofs.WholeLaws.{plain, clean_reading, clean_items, known, left, conducts, vars_all, types_all, matches_all, functions_alone, below, core_left}
use Rattle.source_types.proofs.WholeLaws.{functions_left, conducts_are, rules_none, function_is, typed, types_at, atomic_is, calm, calm_says, functions_fit}

-- ---- the function of a number

-- it is one of these, or there is none
pub record Found (program : core.Program) (y : Types) (calm : ℕ → Bool) (gs : List Signature) (ts : List FunctionTypes) (xs : List ReadFunction) (f : ℕ) : Type 0 where
  pub signature : Signature
  pub here : ReadFunction
  pub is : slice_get gs f ≡ Some signature
  pub at : slice_get xs f ≡ Some here
  pub fits : FunctionFits program y calm signature.is_main (get_or ts f no_function) here

pub record Absent (gs : List Signature) (ts : List FunctionTypes) (xs : List ReadFunction) (f : ℕ) : Type 0 where
  pub signature : slice_get gs f ≡ None
  pub types : slice_get ts f ≡ None
  pub here : slice_get xs f ≡ None

module _ (program : core.Program) (y : Types) (calm : ℕ → Bool) where
  deeper : (g : Signature) (gs : List Signature) (t : FunctionTypes) (ts : List FunctionTypes) (x : ReadFunction) (xs : List ReadFunction) (f : ℕ)
      → Found program y calm gs ts xs f ⊎ Absent gs ts xs f → Found program y calm (g ∷ gs) (t ∷ ts) (x ∷ xs) (suc f) ⊎ Absent (g ∷ gs) (t ∷ ts) (x ∷ xs) (suc f)
  deeper g gs t ts x xs f p = ⊎_elim
      (λ a. inl (record { signature = a.signature; here = a.here; is = a.is; at = a.at; fits = a.fits }))
      (λ b. inr (record { signature = b.signature; types = b.types; here = b.here })) p

  at_number : (gs : List Signature) (ts : List FunctionTypes) (xs : List ReadFunction) (f : ℕ) → AllFit program y calm gs ts xs
      → Found program y calm gs ts xs f ⊎ Absent gs ts xs f
  at_number [] [] [] f p = inr (record { signature = refl; types = refl; here = refl })
  at_number [] [] (x ∷ xs) f p = absurd p
  at_number [] (t ∷ ts) xs f p = absurd p
  at_number (g ∷ gs) [] xs f p = absurd p
  at_number (g ∷ gs) (t ∷ ts) [] f p = absurd p
  at_number (g ∷ gs) (t ∷ ts) (x ∷ xs) zero p = inl (record { signature = g; here = x; is = refl; at = refl; fits = p.0 })
  at_number (g ∷ gs) (t ∷ ts) (x ∷ xs) (suc f) p = deeper g gs t ts x xs f (at_number gs ts xs f p.1)

-- ---- the program

module _ (p : Program) (well : IsWellFormed p) where
  abbrev pub y : Types
  y = types_all p well

  abbrev gs : List Signature
  gs = functions_of (plain p well) p.items

  abbrev marks : List Bool
  marks = may_block (conducts p well)

  abbrev Here : ℕ → Type 0
  Here f = Found (core_left p well) y (calm p well) gs (typed p well) (left p well) f

  -- there is no function of this number
  record Nowhere (f : ℕ) : Type 0 where
    signature : slice_get gs f ≡ None
    types : function_types y f ≡ no_function
    function : core.function (core_left p well) f ≡ core.no_function

  nowhere : (f : ℕ) → Absent gs (typed p well) (left p well) f → Nowhere f
  unfolding types_of
  nowhere f b = record {
    signature = b.signature;
    types = marked_none (typed p well) marks f b.types;
    function = ap (λ fs. core.function (record { functions = map function_of fs; classes = []; main = 0 }) f) (functions_left p well)
        ∙ mapped_none function_of (map (λ (x : ReadFunction). x.function) (left p well)) f core.no_function (none_mapped (left p well) f b.here);
  }
    where
      none_mapped : (xs : List ReadFunction) (f : ℕ) → slice_get xs f ≡ None → slice_get (map (λ (x : ReadFunction). x.function) xs) f ≡ None
      none_mapped [] f is = refl
      none_mapped (x ∷ xs) zero is = absurd (none-some x (sym is))
      none_mapped (x ∷ xs) (suc f) is = none_mapped xs f is

  there : (f : ℕ) → Here f ⊎ Nowhere f
  there f = ⊎_elim (λ a. inl a) (λ b. inr (nowhere f b))
      (at_number (core_left p well) y (calm p well) gs (typed p well) (left p well) f (functions_fit p well))

  abbrev mine : ℕ → FunctionTypes
  mine f = get_or (typed p well) f no_function

  types_here : (f : ℕ) → Here f → function_types y f ≡ record (mine f) { waits = is_marked marks f }
  types_here f a = types_at p well f a.signature a.is

  body : (f : ℕ) (w : World) (q : core_names.Name) → AreTyped (core_left p well) y w q (scope_of (function_types y f)) (core.function (core_left p well) f).body
  body f w q = ⊎_elim
      (λ (a : Here f).
      let quiet = calm_conduct (conducts p well) (calm p well) (calm_says p well) f (a.here).conduct (slice_mapped conduct_in (left p well) f a.here a.at) in
      subst (λ t. AreTyped (core_left p well) y w q (scope_of t) (core.function (core_left p well) f).body) (sym (types_here f a))
      (subst (λ (x : core.Function). AreTyped (core_left p well) y w q (scope_of (record (mine f) { waits = is_marked marks f })) x.body)
      (sym (function_is p well f a.here a.at)) (a.fits.body (is_marked marks f) quiet w q)))
      (λ (b : Nowhere f). subst (λ (x : core.Function). AreTyped (core_left p well) y w q (scope_of (function_types y f)) x.body) (sym b.function) tt)
      (there f)

  ends : (f : ℕ) → IsConstant (core.function (core_left p well) f).default (function_types y f).result
  ends f = ⊎_elim
      (λ (a : Here f). subst (λ t. IsConstant (core.function (core_left p well) f).default t.result) (sym (types_here f a))
      (subst (λ (x : core.Function). IsConstant x.default (mine f).result) (sym (function_is p well f a.here a.at)) a.fits.ends))
      (λ (b : Nowhere f). subst (λ t. IsConstant (core.function (core_left p well) f).default t.result) (sym b.types)
      (subst (λ (x : core.Function). IsConstant x.default no_function.result) (sym b.function) refl))
      (there f)

  parameters : (f : ℕ) → AreParameters y (core.function (core_left p well) f).shape.params (function_types y f).params (function_types y f).vars
  parameters f = ⊎_elim
      (λ (a : Here f). subst (λ t. AreParameters y (core.function (core_left p well) f).shape.params t.params t.vars) (sym (types_here f a))
      (subst (λ (x : core.Function). AreParameters y x.shape.params (mine f).params (mine f).vars) (sym (function_is p well f a.here a.at)) a.fits.parameters))
      (λ (b : Nowhere f). subst (λ t. AreParameters y (core.function (core_left p well) f).shape.params t.params t.vars) (sym b.types)
      (subst (λ (x : core.Function). AreParameters y x.shape.params no_function.params no_function.vars) (sym b.function) refl))
      (there f)

  pub atomics : (f : ℕ) → is_atomic (core_left p well) f ≡ true → (function_types y f).waits ≡ false
  atomics f is = ⊎_elim
      (λ (a : Here f). ap (λ (t : FunctionTypes). t.waits) (types_here f a)
      ∙ atomic_unmarked (conducts p well) (rules_none p well) f (a.here).conduct (slice_mapped conduct_in (left p well) f a.here a.at)
      (sym (atomic_is p well f a.here a.at) ∙ is))
      (λ (b : Nowhere f). absurd (true≢false (sym is ∙ ap (λ (x : core.Function). x.shape.atomic) b.function)))
      (there f)

  -- ---- main

  main_is : (core_left p well).main ≡ main_of (names_of p.items)
  unfolding elaboration_of
  main_is = refl

  record IsMain (f : ℕ) : Type 0 where
    alone : (function_types y f).this ≡ None
    result : (function_types y f).result ≡ AnInt
    params : (function_types y f).params ≡ map (λ (kinds : List Kind). AnInt) (core.function (core_left p well) f).shape.params

  main_at : (f : ℕ) → ((g : Signature) → slice_get gs f ≡ Some g → g.is_main ≡ true) → ((slice_get gs f ≡ None) → ⊥) → IsMain f
  main_at f main some = ⊎_elim
      (λ (a : Here f). let is = main a.signature a.is in
      record {
        alone = ap (λ (t : FunctionTypes). t.this) (types_here f a) ∙ a.fits.main_alone is;
        result = ap (λ (t : FunctionTypes). t.result) (types_here f a) ∙ a.fits.main_result is;
        params = ap (λ (t : FunctionTypes). t.params) (types_here f a) ∙ (a.fits.main_params is
            ∙ ap (λ (x : core.Function). map (λ (kinds : List Kind). AnInt) x.shape.params) (sym (function_is p well f a.here a.at)));
      })
      (λ (b : Nowhere f). absurd (some b.signature))
      (there f)

  main : IsMain (core_left p well).main
  main =
      let rules = rules_of_file p.items (clean_reading p well).0 in
      let m = some_main (plain p well) p.items rules.main in
      let number : main_of (names_of p.items) ≡ m.number = main_has_its_number p.items rules.names (plain p well) m.number m.found m.is m.main in
      let same : m.number ≡ (core_left p well).main = sym (main_is ∙ number) in
      subst IsMain same (main_at m.number
      (λ g got. ap (λ (z : Signature). z.is_main) (some_inside g m.found (sym got ∙ m.is)) ∙ m.main)
      (λ none. none-some m.found (sym none ∙ m.is)))

  -- ---- classes

  classes_are : (core_program p).classes ≡ items_shapes (names_of p.items) (tables_of (names_of p.items) p.items) 0 0 nothing_done p.items nothing_yet
  unfolding elaboration_of read items
  classes_are = shapes_done (names_of p.items) (tables_of (names_of p.items) p.items) 0 0 nothing_done p.items nothing_yet

  abbrev ks : List Class
  ks = classes_from (names_of p.items) (constants_of (names_of p.items) p.items) 0 0 0 p.items

  class_at : (i : ℕ) (k : Class) → slice_get ks i ≡ Some k → class_types y (0 + i) ≡ types_of_class k
  unfolding tables_of
  class_at i k got = ap (λ m. class_types y m) (zero-add i) ∙ class_is (names_of p.items) p.items (vars_all p well) marks (known p well) i k got

  no_class_at : (i : ℕ) → slice_get ks i ≡ None → class_types y (0 + i) ≡ no_class_types
  unfolding tables_of types_of
  no_class_at i none = ap (λ m. class_types y m) (zero-add i) ∙ mapped_none types_of_class ks i no_class_types none

  abbrev HasCells : ℕ → core.Program → Type 0
  HasCells c program = AreRuns y c 0 (class_shape (shapes program) c).cells × (length (class_types y c).cells ≡ size (class_shape (shapes program) c).cells)

  cells : (c : ℕ) → HasCells c (core_left p well)
  unfolding tables_of
  cells c =
      let all = cells_all (names_of p.items) (tables_of (names_of p.items) p.items) (constants_of (names_of p.items) p.items) refl refl y
      (matches_all p well) (constant_count p.items) (below p well) (functions_alone p well) 0 0 0 nothing_done p.items nothing_yet (omega arith) (clean_items p well) in
      let got = cells_at y ks _ c 0 all (λ i k is. ((known p well).members i k is, class_at i k is)) no_class_at in
      subst (λ zs. AreRuns y c 0 (get_or (map shape_of zs) c core.no_class).cells × (length (class_types y c).cells ≡ size (get_or (map shape_of zs) c core.no_class).cells))
      (sym classes_are)
      (subst (λ m. AreRuns y m 0 (get_or (map shape_of (items_shapes (names_of p.items) (tables_of (names_of p.items) p.items) 0 0 nothing_done p.items nothing_yet)) c core.no_class).cells
      × (length (class_types y m).cells ≡ size (get_or (map shape_of (items_shapes (names_of p.items) (tables_of (names_of p.items) p.items) 0 0 nothing_done p.items nothing_yet)) c core.no_class).cells))
      (zero-add c) got)

  sets : (c : ℕ) → AreSets y c (class_shape (shapes (core_left p well)) c).sets
  unfolding tables_of
  sets c =
      let rules = rules_of_file p.items (clean_reading p well).0 in
      let all = sets_all (names_of p.items) (tables_of (names_of p.items) p.items) (constants_of (names_of p.items) p.items) refl y
      (matches_all p well) (constant_count p.items) (below p well) (functions_alone p well) 0 0 0 nothing_done p.items nothing_yet
      (omega arith) rules.items (λ i k is. ap (λ (z : ClassTypes). z.params) (class_at i k is)) (clean_items p well) in
      subst (λ zs. AreSets y c (get_or (map shape_of zs) c core.no_class).sets) (sym classes_are)
      (subst (λ m. AreSets y m
      (get_or (map shape_of (items_shapes (names_of p.items) (tables_of (names_of p.items) p.items) 0 0 nothing_done p.items nothing_yet)) c core.no_class).sets)
      (zero-add c) (sets_at y ks _ c 0 all))

  pub has_types : HasTypes (core_left p well) y
  has_types = record {
    bodies = body;
    ends = ends;
    parameters = parameters;
    sizes = λ c. (cells c).1;
    runs = λ c. (cells c).0;
    sets = sets;
    atomics = atomics;
    main_alone = main.alone;
    main_result = main.result;
    main_params = main.params;
  }

  pub well_typed : WellTyped (program_of (core_program p))
  well_typed = (types_all p well, has_types)

  -- ---- a function may wait in these types where it is marked

  marked : (f : ℕ) → Blocks p f → is_marked marks f ≡ true
  marked f may = blocks_marked (conducts p well) f (subst (λ cs. MayBlock cs f) (conducts_are p well) may)

  blocks : (f : ℕ) → is_marked marks f ≡ true → Blocks p f
  blocks f is = subst (λ cs. MayBlock cs f) (sym (conducts_are p well)) (marked_blocks (conducts p well) f is)

  pub unmarked_is_calm : (f : ℕ) → (Blocks p f → ⊥) → ((function_types y f).waits ≡ false) ⊎ (core.function (core_left p well) f ≡ core.no_function)
  unmarked_is_calm f never = ⊎_elim
      (λ (a : Here f). inl (ap (λ (t : FunctionTypes). t.waits) (types_here f a) ∙ must_be_false (is_marked marks f) (λ m. never (blocks f m))))
      (λ (b : Nowhere f). inr b.function)
      (there f)

  pub calm_is_unmarked : (f : ℕ) → (function_types y f).waits ≡ false → Blocks p f → ⊥
  calm_is_unmarked f calm_one may = ⊎_elim
      (λ (a : Here f). true≢false (sym (marked f may) ∙ (sym (ap (λ (t : FunctionTypes). t.waits) (types_here f a)) ∙ calm_one)))
      (λ (b : Nowhere f). true≢false (sym (ap (λ (t : FunctionTypes). t.waits) b.types) ∙ calm_one))
      (there f)
