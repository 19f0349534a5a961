-- Each named constant of a program that is read without a broken rule has a value.
use Rattle.std.proofs.Common.{◌≡◌, ℕ, ℤ, List, [], ◌∷◌, map, Option, Some, None, refl, sym, subst}
use Rattle.std.proofs.lemmas.Option.{none-some}
use Rattle.cc_core.specs.Types.{FunctionTypes, Types, no_types}
use Rattle.cc_names.specs.Names.{NameTables}
use Rattle.cc_functions.specs.declared.done.Done.{Done}
use Rattle.cc_functions.specs.Functions.{begin}
use Rattle.cc_functions.specs.Items.{constant_item, function_item, class_item, after_constant, after_class, after_function, items_from}
use Rattle.cc_scopes.specs.declared.state.State.{State}
use Rattle.cc_scopes.specs.declared.tables.Tables.{Tables}
use Rattle.cc_tables.specs.Tables.{outside}
use Rattle.cc_tree.specs.declared.declarations.Item.{Item}
use Rattle.cc_tree.specs.declared.declarations.Item.TheVariants as item
use Rattle.cc_tree.specs.declared.expressions.Expr.{Expr}
use Rattle.cc_typing.specs.Whole.{constant}
use Rattle.cc_shared.proofs.KnownConstants.{EachConstant, HasValue}
use Rattle.cc_shared.proofs.Runs.{IsThere, Anything}
use Rattle.cc_shared.proofs.TypesOf.{target_of}
use Rattle.cc_shared.proofs.Det.{Matches, Stands}
use Rattle.cc_shared.proofs.FunctionLaws.{slice_mapped}
use Rattle.cc_shared.proofs.ExpressionLaws.{constant_runs}
use Rattle.cc_shared.proofs.Proper.{EachOf}
use Rattle.cc_shared.proofs.GrammarLaws.{ProperItem}
use Rattle.cc_shared.proofs.QuietLaws.{Quiet, quiet_ends, items_quiet}

some_of : (o : Option ℤ) → IsThere {A = ℤ} Anything o → (n : ℤ) × (o ≡ Some n)
some_of None p = absurd p
some_of (Some n) p = (n, refl)

module _ (names : NameTables) (t : Tables) (y : Types) (main : ℕ) (matches : Matches y main t) where
  has_value : (k : ℕ) (value : Expr) (line : ℕ) (s : State) → Quiet (constant (outside names t k None line) value (begin s).1).1 → HasValue names t k value line
  has_value k value line s q known =
      let cx = outside names t k None line in
      let r = constant cx value (begin s).1 in
      let here : FunctionTypes = record no_types { vars = map target_of (r.1).made } in
      let stands : Stands y main here cx = record {
        matches = matches;
        this = λ class is. absurd (none-some class is);
        result = refl;
        gives = tt;
        constants = λ j lt. let w = known j lt in subst (IsThere {A = ℤ} Anything) (sym w.1) tt;
      } in
      let law = (constant_runs y main here (Unit {0}) (r.1).made (r.1).made 0 [] [] cx (λ u. stands) (λ u j d is. slice_mapped target_of (r.1).made j d is) value).run
      (begin s).1 (quiet_ends r.1 q) in
      let there = some_of r.0 ((law.1 tt (refl, tt, tt)).1) in
      ((begin s).1, there.0, there.1)

  pub constants_read : (k c : ℕ) (d : Done) (xs : List Item) (s : State) → EachOf ProperItem xs
      → Quiet (items_from names t (record { constants = k; classes = c; done = d }) xs s).1 → EachConstant (HasValue names t) k xs
  unfolding after_constant after_class after_function class_item function_item constant_item
  constants_read k c d [] s p q = tt
  constants_read k c d (item.Const name value line ∷ xs) s p q =
      let w = after_constant names t (record { constants = k; classes = c; done = d }) value line s in (
        has_value k value line s (items_quiet names t w.0.constants w.0.classes w.0.done xs w.1 p.1 q),
        constants_read w.0.constants w.0.classes w.0.done xs w.1 p.1 q,
      )
  constants_read k c d (item.Class class ∷ xs) s p q =
      let w = after_class names t (record { constants = k; classes = c; done = d }) class s in
      constants_read w.0.constants w.0.classes w.0.done xs w.1 p.1 q
  constants_read k c d (item.Func f ∷ xs) s p q =
      let w = after_function names t (record { constants = k; classes = c; done = d }) f s in
      constants_read w.0.constants w.0.classes w.0.done xs w.1 p.1 q
