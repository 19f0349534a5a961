-- What the constructors of a program assign has the types of their classes, by the classes' numbers.
use Rattle.std.proofs.Common.{◌≡◌, ℕ, zero, suc, ◌+◌, ◌≤◌, ℤ, true, List, [], ◌∷◌, map, Option, Some, None, refl, sym, ap, subst, arith}
use Rattle.std.specs.Prelude.{slice_get, get_or, nat_lt}
use Rattle.cc_core.specs.Core.{no_class}
use Rattle.cc_functions.specs.declared.done.Done.{Done}
use Rattle.cc_functions.specs.Items.{no_members, function_item, class_item, class_id, after_constant, after_class, after_function, items_from}
use Rattle.cc_names.specs.Declarations.{after_methods}
use Rattle.cc_names.specs.Group.{class_rules, item_rules, parameter_rules}
use Rattle.cc_names.specs.Names.{NameTables, entity_named}
use Rattle.cc_names.specs.Table.{Name}
use Rattle.cc_names.specs.declared.declarations.ClassId.{ClassId}
use Rattle.cc_names.specs.declared.declarations.Entity.TheVariants as entity
use Rattle.cc_names.specs.declared.declarations.FunId.{FunId}
use Rattle.cc_ops.specs.Shapes.{shape_of, set_of as shape_set}
use Rattle.cc_ops.specs.declared.build.BuildSet.{BuildSet}
use Rattle.cc_ops.specs.declared.shape.ClassShape.{ClassShape}
use Rattle.cc_scopes.specs.declared.state.State.{State}
use Rattle.cc_scopes.specs.declared.tables.Class.{Class}
use Rattle.cc_scopes.specs.declared.tables.Tables.{Tables}
use Rattle.cc_scopes.specs.Meaning.{value_in}
use Rattle.cc_shared.proofs.CellLaws.{items_shapes}
use Rattle.cc_shared.proofs.ItemLaws.{constant_count}
use Rattle.cc_shared.proofs.Proper.{EachOf}
use Rattle.cc_source.proofs.CleanLaws.{items_clean}
use Rattle.cc_source.proofs.Fits.{Clean}
use Rattle.cc_source.proofs.RuleLaws.{empty_before, empty_behind, rules_of_class}
use Rattle.cc_tables.specs.Tables.{outside, constructor_types, class_of, classes_from}
use Rattle.cc_tree.specs.declared.declarations.Item.{Item}
use Rattle.cc_tree.specs.declared.declarations.Item.TheVariants as item
use Rattle.core_types.specs.Programs.{AreSets}
use Rattle.core_types.specs.Types.{Types, function_types, class_types}
use Rattle.source_types.specs.TypesOf.{value_type}
use Rattle.source_types.specs.Reading.{IsThere, Anything, Matches}
use Rattle.source_types.proofs.ConstructorLaws.{SetFits}
use Rattle.source_types.proofs.FunctionLaws.{At}
use Rattle.source_types.proofs.SetItems.{members_sets}

abbrev pub AllSets : Types → ℕ → List Class → List ClassShape → Type 0
AllSets y n [] [] = Unit {0}
AllSets y n [] (x ∷ xs) = ⊥
AllSets y n (k ∷ ks) [] = ⊥
AllSets y n (k ∷ ks) (x ∷ xs) = EachOf (SetFits y n) x.sets × AllSets y (n + 1) ks xs

module _ (names : NameTables) (t bare : Tables) (no_classes : bare.classes ≡ []) (y : Types) (matches : Matches y t) (total : ℕ)
    (constants : (k : ℕ) → k ≤ total → (j : ℕ) → nat_lt j k ≡ true → IsThere {A = ℤ} Anything (value_in (slice_get t.constants j)))
    (functions : (text : Name) (f : FunId) → entity_named names text ≡ Some (entity.Function f) → (function_types y f.0).this ≡ None) where
  pub sets_all : (k c f : ℕ) (d : Done) (xs : List Item) (s : State) → k + constant_count xs ≤ total → item_rules xs ≡ []
      → ((i : ℕ) (z : Class) → slice_get (classes_from names bare k c f xs) i ≡ Some z → (class_types y (c + i)).params ≡ map value_type z.constructor)
      → Clean (items_from names t (record { constants = k; classes = c; done = d }) xs s).1
      → AllSets y c (classes_from names bare k c f xs) (items_shapes names t k c d xs s)
  unfolding after_constant after_class after_function class_item function_item
  sets_all k c f d [] s le rules has q = tt
  sets_all k c f d (item.Const name value line ∷ xs) s le rules has q =
      let w = after_constant names t (record { constants = k; classes = c; done = d }) value line s in
      sets_all w.0.constants w.0.classes f w.0.done xs w.1 (omega (arith, le)) rules has q
  sets_all k c f d (item.Class class ∷ xs) s le rules has q =
      let w = after_class names t (record { constants = k; classes = c; done = d }) class s in
      let cx = outside names t k (Some (class_id c)) class.line in
      let b = outside names bare k (Some (record { 0 = c })) class.line in
      let at : At y cx (Some c) = record {
        matches = matches;
        this_is = λ z is. ap (λ (o : Option ClassId). elim o as (λ v. Option ℕ) [ None ↦ None | Some v ↦ Some v.0 ]) is;
        constants = constants k (omega (arith, le));
        functions = functions;
      } in
      let quiet = items_clean names t w.0.constants w.0.classes w.0.done xs w.1 q in
      let one = (rules_of_class class.members (empty_before (class_rules class.members) (item_rules xs) rules)).constructors in (
        members_sets b no_classes y cx c at refl class d no_members class.members s quiet refl one
            (let first : c + 0 ≡ c = omega arith in subst (λ m. (class_types y m).params ≡ map value_type (constructor_types b class.members)) first (has 0 (class_of b f class) refl)),
        sets_all w.0.constants w.0.classes (after_methods f class.members) w.0.done xs w.1 le (empty_behind (class_rules class.members) (item_rules xs) rules)
            (λ i z is. let next : c + suc i ≡ c + 1 + i = omega arith in subst (λ m. (class_types y m).params ≡ map value_type z.constructor) next (has (suc i) z is)) q,
      )
  sets_all k c f d (item.Func x ∷ xs) s le rules has q =
      let w = after_function names t (record { constants = k; classes = c; done = d }) x s in
      sets_all w.0.constants w.0.classes (f + 1) w.0.done xs w.1 le (empty_behind (parameter_rules x.params) (item_rules xs) rules) has q

module _ (y : Types) where
  sets_of : (c : ℕ) (xs : List BuildSet) → EachOf (SetFits y c) xs → AreSets y c (map shape_set xs)
  sets_of c [] p = tt
  sets_of c (x ∷ xs) p = let q = p.0 in (q.0, q.1, q.2, sets_of c xs p.1)

  pub sets_at : (ks : List Class) (xs : List ClassShape) (c n : ℕ) → AllSets y n ks xs → AreSets y (n + c) (get_or (map shape_of xs) c no_class).sets
  sets_at [] [] c n p = tt
  sets_at [] (x ∷ xs) c n p = absurd p
  sets_at (k ∷ ks) [] c n p = absurd p
  sets_at (k ∷ ks) (x ∷ xs) zero n p =
      let same : n + 0 ≡ n = omega arith in
      subst (λ m. AreSets y m (map shape_set x.sets)) (sym same) (sets_of n x.sets p.0)
  sets_at (k ∷ ks) (x ∷ xs) (suc c) n p =
      let same : n + 1 + c ≡ n + suc c = omega arith in
      subst (λ m. AreSets y m (get_or (map shape_of xs) c no_class).sets) same (sets_at ks xs c (n + 1) p.1)
