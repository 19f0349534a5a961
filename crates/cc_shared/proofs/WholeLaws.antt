-- Each function of a program that breaks no rule is determinate, with the types of the tables.
use Rattle.std.proofs.Common.{◌≡◌, ◌≢◌, ℕ, suc, ◌+◌, ◌<◌, ◌≤◌, ℤ, true, false, List, [], ◌∷◌, ◌++◌, length, length-append, Option, Some, None, refl, sym, ap, subst, arith}
use Rattle.std.specs.Prelude.{slice_get, nat_lt}
use Rattle.std.proofs.lemmas.Bool.{ltb-true, lt-ltb}
use Rattle.cc_core.specs.Types.{Target, Types}
use Rattle.cc_functions.specs.Items.{nothing_done, items, items_from}
use Rattle.cc_functions.specs.declared.done.Done.{Done}
use Rattle.cc_names.specs.Declarations.{after_methods}
use Rattle.cc_names.specs.Group.{member_lines, class_rules, item_rules, parameter_rules, first_group}
use Rattle.cc_names.specs.Names.{NameTables, names_of}
use Rattle.cc_names.specs.declared.broken.Broken.{Broken}
use Rattle.cc_scopes.specs.declared.state.State.{State}
use Rattle.cc_scopes.specs.declared.tables.Class.{Class}
use Rattle.cc_scopes.specs.declared.tables.Signature.{Signature}
use Rattle.cc_scopes.specs.declared.tables.Tables.{Tables}
use Rattle.cc_scopes.specs.Elab.{nothing_yet}
use Rattle.cc_scopes.specs.Meaning.{value_in}
use Rattle.cc_scopes.specs.Scope.{Context}
use Rattle.cc_tables.specs.Tables.{constants_alone, outside, width, field_of, members_from, class_of, classes_from, functions_of, constants_of, constants_from, tables_of}
use Rattle.cc_tree.specs.declared.declarations.Item.{Item}
use Rattle.cc_tree.specs.declared.declarations.Item.TheVariants as item
use Rattle.cc_tree.specs.declared.declarations.Member.{Member}
use Rattle.cc_tree.specs.declared.declarations.Member.TheVariants as member
use Rattle.cc_tree.specs.declared.declarations.Program.{Program}
use Rattle.cc_tables.specs.Tables as tables
use Rattle.cc_types.specs.Elaboration.{read, main_of, elaboration_of}
use Rattle.cc_types.specs.Program.{IsSpelled, IsWellFormed, first_or, rules_shared}
use Rattle.cc_shared.proofs.KnownConstants.{AreKnown, constants_known}
use Rattle.cc_source.proofs.MainLaws.{other_number}
use Rattle.cc_source.proofs.RuleLaws.{empty_before, empty_behind, rules_of_class, rules_of_file}
use Rattle.cc_shared.proofs.Runs.{IsThere, Anything}
use Rattle.cc_shared.proofs.Det.{Matches}
use Rattle.cc_shared.proofs.Proper.{EachOf}
use Rattle.cc_shared.proofs.GrammarLaws.{ProperItem, spelled_proper}
use Rattle.cc_shared.proofs.QuietLaws.{Quiet}
use Rattle.cc_shared.proofs.KnownLaws.{SignatureKnown, each_got, functions_known}
use Rattle.cc_shared.proofs.ClassLaws.{ClassKnown, classes_known}
use Rattle.cc_shared.proofs.ConstantItems.{constants_read}
use Rattle.cc_shared.proofs.ItemLaws.{AllFit, constant_count, items_functions, items_variables, items_fit}
use Rattle.cc_shared.proofs.TypeTables.{Known, EntryKnown, types_of, matches, typed_functions, with_vars}

-- ---- a class has few members

members_counted : (b : Context) (at f : ℕ) (ms : List Member) → length (members_from b at f ms) ≡ length (member_lines ms)
members_counted b at f [] = refl
members_counted b at f (member.Field x ∷ ms) = ap suc (members_counted b (at + width (field_of b x).shape) f ms)
members_counted b at f (member.Func x ∷ ms) = ap suc (members_counted b at (f + 1) ms)
members_counted b at f (member.Build name params body line ∷ ms) = members_counted b at f ms

abbrev pub HasFew : Class → Type 0
HasFew k = length k.members ≤ 256

classes_few : (names : NameTables) (t : Tables) (k c f : ℕ) (xs : List Item) → item_rules xs ≡ [] → EachOf HasFew (classes_from names t k c f xs)
classes_few names t k c f [] rules = tt
classes_few names t k c f (item.Const name value line ∷ xs) rules = classes_few names t (k + 1) c f xs rules
classes_few names t k c f (item.Class class ∷ xs) rules =
    let b = outside names t k (Some (record { 0 = c })) class.line in
    let few : length (member_lines class.members) ≤ 256 = (rules_of_class class.members (empty_before (class_rules class.members) (item_rules xs) rules)).few in
    let same : length (members_from b 0 f class.members) ≡ length (member_lines class.members) = members_counted b 0 f class.members in (
      omega (arith, few, same),
      classes_few names t k (c + 1) (after_methods f class.members) xs (empty_behind (class_rules class.members) (item_rules xs) rules),
    )
classes_few names t k c f (item.Func x ∷ xs) rules = classes_few names t k c (f + 1) xs (empty_behind (parameter_rules x.params) (item_rules xs) rules)

-- ---- the constants

counted_from : (names : NameTables) (before : List (Option ℤ)) (xs : List Item) → length (constants_from names before xs) ≡ length before + constant_count xs
counted_from names before [] = let same : length before ≡ length before + 0 = omega arith in same
counted_from names before (item.Const name value line ∷ xs) =
    let v = tables.value_after names (constants_alone before) value line in
    let rest : length (constants_from names (before ++ v ∷ []) xs) ≡ length (before ++ v ∷ []) + constant_count xs = counted_from names (before ++ v ∷ []) xs in
    let more : length (before ++ v ∷ []) ≡ length before + 1 = length-append before (v ∷ []) in
    omega (arith, rest, more)
counted_from names before (item.Class class ∷ xs) = counted_from names before xs
counted_from names before (item.Func f ∷ xs) = counted_from names before xs

-- ---- all

-- what breaks no rule
broken_none : (first second : List Broken) → first_or first second ≡ [] → (first ≡ []) × (second ≡ [])
broken_none [] second is = (refl, is)
broken_none (b ∷ more) second is = let l : suc (length more) ≡ 0 = ap (λ z. length z) is in absurd (omega (arith, l))

abbrev pub reading : Program → Done × State
reading p = read (names_of p.items) p.items

pub quiet_reading : (p : Program) → IsWellFormed p → rules_shared p ≡ [] → (first_group p.items ≡ []) × Quiet (reading p).1
unfolding elaboration_of
quiet_reading p well none =
    let b = broken_none (first_group p.items) _ well in
    (b.0, (empty_before (reading p).1.broken _ b.1, none))

module _ (p : Program) (spelled : IsSpelled p) (well : IsWellFormed p) (none : rules_shared p ≡ []) where
  abbrev pub names : NameTables
  names = names_of p.items

  abbrev pub all : Tables
  all = tables_of (names_of p.items) p.items

  abbrev pub plain : Context
  plain = outside (names_of p.items) (constants_of (names_of p.items) p.items) 0 None 0

  pub proper : EachOf ProperItem p.items
  proper = spelled_proper spelled.0 p spelled.1

  pub quiet_items : Quiet (items_from (names_of p.items) (tables_of (names_of p.items) p.items) (record { constants = 0; classes = 0; done = nothing_done }) p.items nothing_yet).1
  unfolding read items
  quiet_items = (quiet_reading p well none).1

  pub known : Known (tables_of (names_of p.items) p.items)
  unfolding tables_of
  known =
      let rules = rules_of_file p.items (quiet_reading p well none).0 in
      let functions = functions_known plain refl (names_of p.items) (tables_of (names_of p.items) p.items) refl 0 0 nothing_done p.items nothing_yet proper quiet_items in
      let classes = classes_known (names_of p.items) (tables_of (names_of p.items) p.items) (constants_of (names_of p.items) p.items) refl 0 0 0 nothing_done p.items
      nothing_yet proper quiet_items in
      let fews = classes_few (names_of p.items) (constants_of (names_of p.items) p.items) 0 0 0 p.items rules.items in
      record {
        params = λ f g got. (each_got (SignatureKnown plain refl) _ f g functions got).0;
        results = λ f g got. (each_got (SignatureKnown plain refl) _ f g functions got).1;
        makers = λ c k got. (each_got ClassKnown _ c k classes got).0;
        members = λ c k got i m has. each_got EntryKnown k.members i m (each_got ClassKnown _ c k classes got).1 has;
        few = λ c k got. each_got HasFew _ c k fews got;
      }

  pub called : (f : ℕ) (g : Signature) → slice_get (tables_of (names_of p.items) p.items).functions f ≡ Some g → g.is_main ≡ false → f ≢ main_of (names_of p.items)
  unfolding tables_of
  called f g got is same =
      let rules = rules_of_file p.items (quiet_reading p well none).0 in other_number p.items rules.names plain rules.main f g got is same

  abbrev pub vars_all : List (List Target)
  vars_all = items_variables (names_of p.items) (tables_of (names_of p.items) p.items) 0 0 nothing_done p.items nothing_yet

  abbrev pub types_all : Types
  types_all = types_of (names_of p.items) p.items vars_all

  pub matches_all : Matches types_all (main_of (names_of p.items)) (tables_of (names_of p.items) p.items)
  matches_all = matches (names_of p.items) p.items vars_all (main_of (names_of p.items)) known called

  pub constants_all : AreKnown (tables_of (names_of p.items) p.items).constants (length (tables_of (names_of p.items) p.items).constants)
  unfolding tables_of
  constants_all = constants_known (names_of p.items) (tables_of (names_of p.items) p.items) p.items refl
      (constants_read (names_of p.items) (tables_of (names_of p.items) p.items) types_all (main_of (names_of p.items)) matches_all 0 0 nothing_done p.items nothing_yet
      proper quiet_items)

  pub below : (k : ℕ) → k ≤ constant_count p.items → (j : ℕ) → nat_lt j k ≡ true
      → IsThere {A = ℤ} Anything (value_in (slice_get (tables_of (names_of p.items) p.items).constants j))
  unfolding tables_of
  below k le j lt =
      let count : length (constants_from (names_of p.items) [] p.items) ≡ 0 + constant_count p.items = counted_from (names_of p.items) [] p.items in
      let less : j < k = ltb-true j k lt in
      let w = constants_all j (lt-ltb j (length (constants_from (names_of p.items) [] p.items)) (omega (arith, count, less, le))) in
      subst (IsThere {A = ℤ} Anything) (sym w.1) tt

  -- each function of the program is determinate, with the types of the tables
  pub functions_fit : AllFit types_all (main_of (names_of p.items)) (functions_of plain p.items) (with_vars (typed_functions plain 0 p.items) vars_all)
      (items_functions (names_of p.items) (tables_of (names_of p.items) p.items) 0 0 nothing_done p.items nothing_yet)
  functions_fit = items_fit (names_of p.items) (tables_of (names_of p.items) p.items) types_all (main_of (names_of p.items)) plain refl refl matches_all
      (constant_count p.items) below 0 0 nothing_done p.items nothing_yet (omega arith) proper quiet_items
