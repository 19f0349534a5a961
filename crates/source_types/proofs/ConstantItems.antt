-- Each named constant of a program that is read without a broken rule has a value.
use Rattle.std.proofs.Common.{◌≡◌, ℕ, ℤ, true, List, [], ◌∷◌, map, Option, Some, None, refl, sym, subst}
use Rattle.std.proofs.lemmas.Option.{none-some}
use Rattle.core_types.specs.Types.{Types, function_types}
use Rattle.core_types.specs.Typing.{Scope}
use Rattle.cc_names.specs.declared.declarations.Entity.TheVariants as entity
use Rattle.cc_names.specs.declared.declarations.FunId.{FunId}
use Rattle.cc_names.specs.Names.{NameTables, entity_named}
use Rattle.cc_names.specs.Table.{Name}
use Rattle.std.proofs.lemmas.Bool.{false≢true}
use Rattle.cc_functions.specs.declared.done.Done.{Done}
use Rattle.cc_functions.specs.Functions.{begin}
use Rattle.cc_functions.specs.Items.{constant_item, function_item, class_item, after_constant, after_class, after_function, items_from}
use Rattle.cc_scopes.specs.declared.state.State.{State}
use Rattle.cc_scopes.specs.declared.tables.Tables.{Tables}
use Rattle.cc_tables.specs.Tables.{outside}
use Rattle.cc_tree.specs.declared.declarations.Item.{Item}
use Rattle.cc_tree.specs.declared.declarations.Item.TheVariants as item
use Rattle.cc_tree.specs.declared.expressions.Expr.{Expr}
use Rattle.cc_typing.specs.Whole.{constant}
use Rattle.cc_source.proofs.CleanLaws.{items_clean}
use Rattle.cc_source.proofs.Fits.{Clean}
use Rattle.cc_shared.proofs.KnownConstants.{EachConstant, HasValue}
use Rattle.cc_shared.proofs.FunctionLaws.{slice_mapped}
use Rattle.source_types.specs.TypesOf.{target_of}
use Rattle.source_types.specs.Reading.{IsThere, Anything, Matches, Stands}
use Rattle.source_types.proofs.CleanEnds.{free, clean_ends, no_program, no_world}
use Rattle.source_types.proofs.ExpressionLaws.{constant_runs}

some_of : (o : Option ℤ) → IsThere {A = ℤ} Anything o → (n : ℤ) × (o ≡ Some n)
some_of None p = absurd p
some_of (Some n) p = (n, refl)

module _ (names : NameTables) (t : Tables) (y : Types) (matches : Matches y t)
    (functions : (text : Name) (f : FunId) → entity_named names text ≡ Some (entity.Function f) → (function_types y f.0).this ≡ None) where
  has_value : (k : ℕ) (value : Expr) (line : ℕ) (s : State) → Clean (constant (outside names t k None line) value (begin s).1).1 → HasValue names t k value line
  has_value k value line s q known =
      let cx = outside names t k None line in
      let r = constant cx value (begin s).1 in
      let here : Scope = record { this = None; vars = map target_of (r.1).made; returns = None; waits = true } in
      let stands : Stands no_program y here (free (r.1).made) cx = record {
        matches = matches;
        this = λ class is. absurd (none-some class is);
        constants = λ j lt. let w = known j lt in subst (IsThere {A = ℤ} Anything) (sym w.1) tt;
        functions = functions;
        waits = refl;
        calm = λ f g is c. absurd (false≢true c);
      } in
      let law = (constant_runs no_program y no_world [] here (Unit {0}) (free (r.1).made) (r.1).made [] cx (λ u. stands)
      (λ u j d is. slice_mapped target_of (r.1).made j d is) value).run (begin s).1 (clean_ends r.1 q) in
      let there = some_of r.0 ((law.1 tt (refl, tt, tt)).1) in
      ((begin s).1, there.0, there.1)

  pub constants_read : (k c : ℕ) (d : Done) (xs : List Item) (s : State) → Clean (items_from names t (record { constants = k; classes = c; done = d }) xs s).1 → EachConstant (HasValue names t) k xs
  unfolding after_constant after_class after_function class_item function_item constant_item
  constants_read k c d [] s q = tt
  constants_read k c d (item.Const name value line ∷ xs) s q =
      let w = after_constant names t (record { constants = k; classes = c; done = d }) value line s in (
        has_value k value line s (items_clean names t w.0.constants w.0.classes w.0.done xs w.1 q),
        constants_read w.0.constants w.0.classes w.0.done xs w.1 q,
      )
  constants_read k c d (item.Class class ∷ xs) s q =
      let w = after_class names t (record { constants = k; classes = c; done = d }) class s in
      constants_read w.0.constants w.0.classes w.0.done xs w.1 q
  constants_read k c d (item.Func f ∷ xs) s q =
      let w = after_function names t (record { constants = k; classes = c; done = d }) f s in
      constants_read w.0.constants w.0.classes w.0.done xs w.1 q
