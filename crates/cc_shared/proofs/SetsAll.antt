-- The assignments of each class of a program, by its number.
use Rattle.std.proofs.Common.{◌≡◌, ℕ, zero, suc, ◌+◌, ◌≤◌, ℤ, true, List, [], ◌∷◌, map, Option, Some, None, refl, sym, ap, subst, ◌∙◌, arith, zero-add}
use Rattle.std.specs.Prelude.{slice_get, get_or, nat_lt}
use Rattle.cc_core.specs.Core.{shapes, class_shape, no_class}
use Rattle.cc_core.specs.Types.{ValueType, Types}
use Rattle.cc_core.specs.View.{program_of}
use Rattle.cc_names.specs.Declarations.{after_methods}
use Rattle.cc_names.specs.Group.{class_rules, item_rules, parameter_rules}
use Rattle.cc_names.specs.Names.{NameTables, names_of}
use Rattle.cc_names.specs.declared.declarations.ClassId.{ClassId}
use Rattle.cc_one_answer.specs.Determinate.{IsSetAt, IsBuiltFrom, AreSets, IsDeterminate}
use Rattle.cc_ops.specs.Shapes.{shape_of, set_of as shape_set}
use Rattle.cc_ops.specs.declared.build.BuildSet.{BuildSet}
use Rattle.cc_ops.specs.declared.shape.ClassShape.{ClassShape}
use Rattle.cc_functions.specs.declared.done.Done.{Done}
use Rattle.cc_functions.specs.Items.{nothing_done, no_members, function_item, class_item, class_id, after_constant, after_class, after_function, items_from}
use Rattle.cc_scopes.specs.declared.state.State.{State}
use Rattle.cc_scopes.specs.declared.tables.Class.{Class}
use Rattle.cc_scopes.specs.declared.tables.Tables.{Tables}
use Rattle.cc_scopes.specs.Elab.{nothing_yet}
use Rattle.cc_scopes.specs.Meaning.{value_in}
use Rattle.cc_tables.specs.Tables.{outside, classes_from, constants_of, tables_of}
use Rattle.cc_tree.specs.declared.declarations.Item.{Item}
use Rattle.cc_tree.specs.declared.declarations.Item.TheVariants as item
use Rattle.cc_tree.specs.declared.declarations.Program as tree
use Rattle.cc_types.specs.Elaboration.{main_of}
use Rattle.cc_types.specs.Program.{IsSpelled, IsWellFormed, core_program, rules_shared}
use Rattle.cc_source.proofs.RuleLaws.{empty_before, empty_behind, rules_of_class, rules_of_file}
use Rattle.cc_shared.proofs.Runs.{IsThere, Anything}
use Rattle.cc_shared.proofs.TypesOf.{value_type}
use Rattle.cc_shared.proofs.Det.{Matches}
use Rattle.cc_shared.proofs.Proper.{EachOf}
use Rattle.cc_shared.proofs.GrammarLaws.{ProperItem}
use Rattle.cc_shared.proofs.QuietLaws.{Quiet, items_quiet}
use Rattle.cc_shared.proofs.ItemLaws.{At, constant_count}
use Rattle.cc_shared.proofs.CellLaws.{items_shapes}
use Rattle.cc_shared.proofs.TypeTables.{maker_types, types_of}
use Rattle.cc_shared.proofs.SetItems.{members_sets}
use Rattle.cc_shared.proofs.WholeLaws.{proper, quiet_reading, quiet_items, matches_all, below, types_all}
use Rattle.cc_shared.proofs.FinalLaws.{mapped_at, classes_are, determinate_but_sets}

abbrev AllSets : Types → ℕ → List Class → List ClassShape → Type 0
AllSets y n [] [] = Unit {0}
AllSets y n [] (x ∷ xs) = ⊥
AllSets y n (k ∷ ks) [] = ⊥
AllSets y n (k ∷ ks) (x ∷ xs) = EachOf (λ s. (u : ValueType) × IsSetAt y n (shape_set s).index (shape_set s) u × IsBuiltFrom (map value_type k.constructor) (shape_set s).value u) x.sets
    × AllSets y (n + 1) ks xs

module _ (names : NameTables) (t bare : Tables) (no_classes : bare.classes ≡ []) (y : Types) (main : ℕ) (matches : Matches y main t) (total : ℕ)
    (constants : (k : ℕ) → k ≤ total → (j : ℕ) → nat_lt j k ≡ true → IsThere {A = ℤ} Anything (value_in (slice_get t.constants j))) where
  sets_all : (k c f : ℕ) (d : Done) (xs : List Item) (s : State) → k + constant_count xs ≤ total → item_rules xs ≡ [] → EachOf ProperItem xs
      → Quiet (items_from names t (record { constants = k; classes = c; done = d }) xs s).1
      → AllSets y c (classes_from names bare k c f xs) (items_shapes names t k c d xs s)
  unfolding after_constant after_class after_function class_item function_item
  sets_all k c f d [] s le rules p q = tt
  sets_all k c f d (item.Const name value line ∷ xs) s le rules p q =
      let w = after_constant names t (record { constants = k; classes = c; done = d }) value line s in
      sets_all w.0.constants w.0.classes f w.0.done xs w.1 (omega (arith, le)) rules p.1 q
  sets_all k c f d (item.Class class ∷ xs) s le rules p q =
      let w = after_class names t (record { constants = k; classes = c; done = d }) class s in
      let cx = outside names t k (Some (class_id c)) class.line in
      let b = outside names bare k (Some (record { 0 = c })) class.line in
      let at : At y main cx (Some c) = record {
        matches = matches;
        this_is = λ z is. ap (λ (o : Option ClassId). elim o as (λ v. Option ℕ) [ None ↦ None | Some v ↦ Some v.0 ]) is;
        constants = constants k (omega (arith, le));
      } in
      let quiet = items_quiet names t w.0.constants w.0.classes w.0.done xs w.1 p.1 q in
      let one = (rules_of_class class.members (empty_before (class_rules class.members) (item_rules xs) rules)).constructors in (
        members_sets b no_classes y main cx c at refl _ class d no_members class.members s p.0 quiet refl one refl,
        sets_all w.0.constants w.0.classes (after_methods f class.members) w.0.done xs w.1 le (empty_behind (class_rules class.members) (item_rules xs) rules) p.1 q,
      )
  sets_all k c f d (item.Func x ∷ xs) s le rules p q =
      let w = after_function names t (record { constants = k; classes = c; done = d }) x s in
      sets_all w.0.constants w.0.classes (f + 1) w.0.done xs w.1 le (empty_behind (parameter_rules x.params) (item_rules xs) rules) p.1 q

module _ (y : Types) where
  sets_of : (c : ℕ) (makers : List ValueType) (xs : List BuildSet) → get_or y.makers c [] ≡ makers
      → EachOf (λ s. (u : ValueType) × IsSetAt y c (shape_set s).index (shape_set s) u × IsBuiltFrom makers (shape_set s).value u) xs
      → AreSets y c (map shape_set xs)
  sets_of c makers [] is p = tt
  sets_of c makers (x ∷ xs) is p =
      let q = p.0 in (q.0, q.1, subst (λ ms. IsBuiltFrom ms (shape_set x).value q.0) (sym is) q.2, sets_of c makers xs is p.1)

  sets_at : (ks : List Class) (xs : List ClassShape) (c n : ℕ) → AllSets y n ks xs
      → ((i : ℕ) (k : Class) → slice_get ks i ≡ Some k → get_or y.makers (n + i) [] ≡ map value_type k.constructor)
      → AreSets y (n + c) (get_or (map shape_of xs) c no_class).sets
  sets_at [] [] c n p f = tt
  sets_at [] (x ∷ xs) c n p f = absurd p
  sets_at (k ∷ ks) [] c n p f = absurd p
  sets_at (k ∷ ks) (x ∷ xs) zero n p f =
      let same : n + 0 ≡ n = omega arith in
      subst (λ m. AreSets y m (map shape_set x.sets)) (sym same) (sets_of n (map value_type k.constructor) x.sets (ap (λ m. get_or y.makers m []) (sym same) ∙ f 0 k refl) p.0)
  sets_at (k ∷ ks) (x ∷ xs) (suc c) n p f =
      let same : n + 1 + c ≡ n + suc c = omega arith in
      subst (λ m. AreSets y m (get_or (map shape_of xs) c no_class).sets) same
      (sets_at ks xs c (n + 1) p.1 (λ i z is. let e : n + 1 + i ≡ n + suc i = omega arith in ap (λ m. get_or y.makers m []) e ∙ f (suc i) z is))

module _ (p : tree.Program) (spelled : IsSpelled p) (well : IsWellFormed p) (none : rules_shared p ≡ []) where
  sets : (c : ℕ) → AreSets (types_all p spelled well none) c (class_shape (shapes (program_of (core_program p))) c).sets
  unfolding tables_of types_of
  sets c =
      let y = types_all p spelled well none in
      let rules = rules_of_file p.items (quiet_reading p well none).0 in
      let all = sets_all (names_of p.items) (tables_of (names_of p.items) p.items) (constants_of (names_of p.items) p.items) refl (types_all p spelled well none)
      (main_of (names_of p.items)) (matches_all p spelled well none) (constant_count p.items) (below p spelled well none) 0 0 0 nothing_done p.items nothing_yet
      (omega arith) rules.items (proper p spelled well none) (quiet_items p spelled well none) in
      let got = sets_at (types_all p spelled well none) (classes_from (names_of p.items) (constants_of (names_of p.items) p.items) 0 0 0 p.items) _ c 0 all (λ i k is.
      ap (λ m. get_or (types_all p spelled well none).makers m []) (zero-add i) ∙ mapped_at maker_types _ i k [] is) in
      subst (λ zs. AreSets (types_all p spelled well none) c (get_or (map shape_of zs) c no_class).sets) (sym (classes_are p spelled well none))
      (subst (λ m. AreSets (types_all p spelled well none) m
      (get_or (map shape_of (items_shapes (names_of p.items) (tables_of (names_of p.items) p.items) 0 0 nothing_done p.items nothing_yet)) c no_class).sets) (zero-add c) got)

  -- a source that breaks no rule of sharing is determinate
  pub determinate : (y : Types) × IsDeterminate (program_of (core_program p)) y
  determinate = (types_all p spelled well none, determinate_but_sets p spelled well none sets)
