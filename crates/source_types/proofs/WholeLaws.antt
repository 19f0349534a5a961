-- Each function of a program that breaks no rule is well typed, with the types of the tables.
use Rattle.std.proofs.Common.{◌≡◌, ℕ, suc, ◌+◌, ◌<◌, ◌≤◌, ℤ, Bool, true, false, not, List, [], ◌∷◌, ◌++◌, length, length-append, map, Option, Some, None, refl, sym, ap, subst, ◌∙◌, arith}
use Rattle.std.specs.Prelude.{slice_get, nat_lt, ◌||◌}
use Rattle.std.proofs.lemmas.Bool.{ltb-true, lt-ltb, false≢true}
use Rattle.std.proofs.lemmas.List.{length-map}
use Rattle.cc_blocking.specs.Rounds.{atomic_in, is_atomic, is_marked, may_block, atomic_rules}
use Rattle.cc_blocking.specs.declared.conduct.Conduct.{Conduct}
use Rattle.cc_blocking.proofs.Deciding.{decides}
use Rattle.cc_core.specs.Core as core
use Rattle.cc_core.specs.View.{function_of, program_of}
use Rattle.cc_functions.specs.Items.{nothing_done, items, items_from}
use Rattle.cc_functions.specs.declared.done.Done.{Done}
use Rattle.cc_names.specs.Declarations.{after_methods}
use Rattle.cc_names.specs.Group.{member_lines, class_rules, item_rules, parameter_rules, first_group}
use Rattle.cc_names.specs.Names.{NameTables, names_of, entity_named}
use Rattle.cc_names.specs.Table.{Name}
use Rattle.cc_names.specs.declared.broken.Broken.{Broken}
use Rattle.cc_names.specs.declared.declarations.Entity.TheVariants as entity
use Rattle.cc_names.specs.declared.declarations.FunId.{FunId}
use Rattle.cc_scopes.specs.declared.state.State.{State}
use Rattle.cc_scopes.specs.declared.tables.Class.{Class}
use Rattle.cc_scopes.specs.declared.tables.Signature.{Signature}
use Rattle.cc_scopes.specs.declared.tables.Tables.{Tables}
use Rattle.cc_scopes.specs.Elab.{nothing_yet}
use Rattle.cc_scopes.specs.Meaning.{value_in}
use Rattle.cc_scopes.specs.Scope.{Context}
use Rattle.cc_shared.proofs.FunctionLaws.{slice_mapped}
use Rattle.cc_shared.proofs.ItemLaws.{constant_count}
use Rattle.cc_shared.proofs.KnownConstants.{AreKnown, constants_known}
use Rattle.cc_shared.proofs.KnownLaws.{each_got}
use Rattle.cc_shared.proofs.Proper.{EachOf}
use Rattle.cc_source.proofs.Fits.{Clean}
use Rattle.cc_source.proofs.RuleLaws.{empty_before, empty_behind, rules_of_class, rules_of_file}
use Rattle.cc_tables.specs.Tables as tables
use Rattle.cc_tables.specs.Tables.{constants_alone, outside, width, field_of, members_from, class_of, classes_from, functions_of, constants_of, constants_from, tables_of}
use Rattle.cc_tree.specs.declared.declarations.Item.{Item}
use Rattle.cc_tree.specs.declared.declarations.Item.TheVariants as item
use Rattle.cc_tree.specs.declared.declarations.Member.{Member}
use Rattle.cc_tree.specs.declared.declarations.Member.TheVariants as member
use Rattle.cc_tree.specs.declared.declarations.Program.{Program}
use Rattle.cc_types.specs.Elaboration.{read, elaboration_of}
use Rattle.cc_types.specs.Program.{IsWellFormed, core_program, first_or}
use Rattle.core_types.specs.Types.{FunctionTypes, Target, Types, function_types}
use Rattle.core_types.specs.Typing.{is_atomic as core_atomic}
use Rattle.source_types.specs.Reading.{IsThere, Anything, Matches, CalmCall}
use Rattle.source_types.proofs.ClassTables.{ClassKnown, classes_known}
use Rattle.source_types.proofs.ConstantItems.{constants_read}
use Rattle.source_types.proofs.Counts.{IsAsDeclared, core_in, conduct_in, got_at, typed_counted, vars_counted, marked_at, items_counted, items_declared, items_done}
use Rattle.source_types.proofs.FunctionItems.{AllFit, items_read, items_variables, items_fit}
use Rattle.source_types.proofs.FunctionLaws.{ReadFunction}
use Rattle.source_types.proofs.FunctionTables.{SignatureKnown, functions_known}
use Rattle.source_types.proofs.NameLaws.{named_alone}
use Rattle.source_types.proofs.TypeTables.{Known, EntryKnown, types_of, matches, typed_functions, with_vars, got_below, mapped_at, this_kept, this_marked}

-- ---- a class has few members

members_counted : (b : Context) (at f : ℕ) (ms : List Member) → length (members_from b at f ms) ≡ length (member_lines ms)
members_counted b at f [] = refl
members_counted b at f (member.Field x ∷ ms) = ap suc (members_counted b (at + width (field_of b x).shape) f ms)
members_counted b at f (member.Func x ∷ ms) = ap suc (members_counted b at (f + 1) ms)
members_counted b at f (member.Build name params body line ∷ ms) = members_counted b at f ms

abbrev HasFew : Class → Type 0
HasFew k = length k.members ≤ 256

classes_few : (names : NameTables) (t : Tables) (k c f : ℕ) (xs : List Item) → item_rules xs ≡ [] → EachOf HasFew (classes_from names t k c f xs)
classes_few names t k c f [] rules = tt
classes_few names t k c f (item.Const name value line ∷ xs) rules = classes_few names t (k + 1) c f xs rules
classes_few names t k c f (item.Class class ∷ xs) rules =
    let b = outside names t k (Some (record { 0 = c })) class.line in
    let few : length (member_lines class.members) ≤ 256 = (rules_of_class class.members (empty_before (class_rules class.members) (item_rules xs) rules)).few in
    let same : length (members_from b 0 f class.members) ≡ length (member_lines class.members) = members_counted b 0 f class.members in (
      omega (arith, few, same),
      classes_few names t k (c + 1) (after_methods f class.members) xs (empty_behind (class_rules class.members) (item_rules xs) rules),
    )
classes_few names t k c f (item.Func x ∷ xs) rules = classes_few names t k c (f + 1) xs (empty_behind (parameter_rules x.params) (item_rules xs) rules)

-- ---- the constants

counted_from : (names : NameTables) (before : List (Option ℤ)) (xs : List Item) → length (constants_from names before xs) ≡ length before + constant_count xs
counted_from names before [] = let same : length before ≡ length before + 0 = omega arith in same
counted_from names before (item.Const name value line ∷ xs) =
    let v = tables.value_after names (constants_alone before) value line in
    let rest : length (constants_from names (before ++ v ∷ []) xs) ≡ length (before ++ v ∷ []) + constant_count xs = counted_from names (before ++ v ∷ []) xs in
    let more : length (before ++ v ∷ []) ≡ length before + 1 = length-append before (v ∷ []) in
    omega (arith, rest, more)
counted_from names before (item.Class class ∷ xs) = counted_from names before xs
counted_from names before (item.Func f ∷ xs) = counted_from names before xs

-- ---- what breaks no rule

broken_none : (first second : List Broken) → first_or first second ≡ [] → (first ≡ []) × (second ≡ [])
broken_none [] second is = (refl, is)
broken_none (b ∷ more) second is = let l : suc (length more) ≡ 0 = ap (λ z. length z) is in absurd (omega (arith, l))

abbrev reading : Program → Done × State
reading p = read (names_of p.items) p.items

pub clean_reading : (p : Program) → IsWellFormed p
    → (first_group p.items ≡ []) × Clean (reading p).1 × (atomic_rules (reading p).0.conducts (may_block (reading p).0.conducts) ≡ [])
unfolding elaboration_of
clean_reading p well =
    let b = broken_none (first_group p.items) _ well in
    (b.0, empty_before (reading p).1.broken _ b.1, empty_behind (reading p).1.broken _ b.1)

either_false : (a b : Bool) → a ≡ false → b ≡ false → not (a || b) ≡ true
either_false true b is none = absurd (false≢true (sym is))
either_false false true is none = absurd (false≢true (sym none))
either_false false false is none = refl

neither : (a b : Bool) → not (a || b) ≡ true → (a || b) ≡ false
neither true b is = absurd (false≢true is)
neither false true is = absurd (false≢true is)
neither false false is = refl

module _ (p : Program) (well : IsWellFormed p) where
  abbrev pub plain : Context
  plain = outside (names_of p.items) (constants_of (names_of p.items) p.items) 0 None 0

  abbrev pub all : Tables
  all = tables_of (names_of p.items) p.items

  pub clean_items : Clean (items_from (names_of p.items) (tables_of (names_of p.items) p.items) (record { constants = 0; classes = 0; done = nothing_done }) p.items nothing_yet).1
  unfolding read items
  clean_items = (clean_reading p well).1

  pub known : Known (tables_of (names_of p.items) p.items)
  unfolding tables_of
  known =
      let rules = rules_of_file p.items (clean_reading p well).0 in
      let functions = functions_known plain refl (names_of p.items) (tables_of (names_of p.items) p.items) refl 0 0 nothing_done p.items nothing_yet clean_items in
      let classes = classes_known (names_of p.items) (tables_of (names_of p.items) p.items) (constants_of (names_of p.items) p.items) refl 0 0 0 nothing_done p.items
      nothing_yet clean_items in
      let fews = classes_few (names_of p.items) (constants_of (names_of p.items) p.items) 0 0 0 p.items rules.items in
      record {
        params = λ f g got. (each_got (SignatureKnown plain refl) _ f g functions got).0;
        results = λ f g got. (each_got (SignatureKnown plain refl) _ f g functions got).1;
        makers = λ c k got. (each_got ClassKnown _ c k classes got).0;
        crossing = λ c k got. (each_got ClassKnown _ c k classes got).1;
        members = λ c k got i m has. each_got EntryKnown k.members i m (each_got ClassKnown _ c k classes got).2 has;
        few = λ c k got. each_got HasFew _ c k fews got;
      }

  -- what is left of the functions, and what they do
  abbrev pub left : List ReadFunction
  left = items_read (names_of p.items) (tables_of (names_of p.items) p.items) 0 0 nothing_done p.items nothing_yet

  abbrev pub conducts : List Conduct
  conducts = map conduct_in left

  abbrev pub vars_all : List (List Target)
  vars_all = items_variables (names_of p.items) (tables_of (names_of p.items) p.items) 0 0 nothing_done p.items nothing_yet

  abbrev pub types_all : Types
  types_all = types_of (names_of p.items) p.items vars_all (may_block conducts)

  pub matches_all : Matches types_all (tables_of (names_of p.items) p.items)
  matches_all = matches (names_of p.items) p.items vars_all (may_block conducts) known

  pub functions_alone : (text : Name) (f : FunId) → entity_named (names_of p.items) text ≡ Some (entity.Function f) → (function_types types_all f.0).this ≡ None
  unfolding types_of
  functions_alone text f is = this_marked (with_vars (typed_functions plain 0 p.items) vars_all) (may_block conducts) f.0 None
      (this_kept (typed_functions plain 0 p.items) vars_all f.0 None (named_alone plain p.items text f is))

  constants_all : AreKnown (tables_of (names_of p.items) p.items).constants (length (tables_of (names_of p.items) p.items).constants)
  unfolding tables_of
  constants_all = constants_known (names_of p.items) (tables_of (names_of p.items) p.items) p.items refl
      (constants_read (names_of p.items) (tables_of (names_of p.items) p.items) types_all matches_all functions_alone 0 0 nothing_done p.items nothing_yet clean_items)

  pub below : (k : ℕ) → k ≤ constant_count p.items → (j : ℕ) → nat_lt j k ≡ true
      → IsThere {A = ℤ} Anything (value_in (slice_get (tables_of (names_of p.items) p.items).constants j))
  unfolding tables_of
  below k le j lt =
      let count : length (constants_from (names_of p.items) [] p.items) ≡ 0 + constant_count p.items = counted_from (names_of p.items) [] p.items in
      let less : j < k = ltb-true j k lt in
      let w = constants_all j (lt-ltb j (length (constants_from (names_of p.items) [] p.items)) (omega (arith, count, less, le))) in
      subst (IsThere {A = ℤ} Anything) (sym w.1) tt

  -- ---- functions by their numbers

  abbrev pub core_left : core.Program
  core_left = program_of (core_program p)

  functions_are : (core_program p).functions ≡ map core_in left
  unfolding elaboration_of read items
  functions_are = (items_done (names_of p.items) (tables_of (names_of p.items) p.items) 0 0 nothing_done p.items nothing_yet).0

  pub conducts_are : (reading p).0.conducts ≡ conducts
  unfolding read items
  conducts_are = (items_done (names_of p.items) (tables_of (names_of p.items) p.items) 0 0 nothing_done p.items nothing_yet).1

  pub rules_none : atomic_rules conducts (may_block conducts) ≡ []
  rules_none = subst (λ cs. atomic_rules cs (may_block cs) ≡ []) conducts_are (clean_reading p well).2

  pub function_is : (f : ℕ) (x : ReadFunction) → slice_get left f ≡ Some x → core.function core_left f ≡ function_of x.function
  function_is f x is = ap (λ fs. core.function (record { functions = map function_of fs; classes = []; main = 0 }) f) functions_are
      ∙ mapped_at function_of (map core_in left) f (core_in x) core.no_function (slice_mapped core_in left f x is)

  pub functions_left : (core_program p).functions ≡ map core_in left
  functions_left = functions_are

  abbrev pub typed : List FunctionTypes
  typed = with_vars (typed_functions plain 0 p.items) vars_all

  -- the types of a function of the tables: it may wait where it is marked
  pub types_at : (f : ℕ) (g : Signature) → slice_get (functions_of plain p.items) f ≡ Some g
      → function_types types_all f ≡ record (function_types (record { functions = typed; classes = [] }) f) { waits = is_marked (may_block conducts) f }
  unfolding types_of
  types_at f g got =
      let lt : f < length (functions_of plain p.items) = got_below (functions_of plain p.items) f g got in
      let t : length (typed_functions plain 0 p.items) ≡ length (functions_of plain p.items) = typed_counted plain 0 p.items in
      let v : length typed ≡ length (typed_functions plain 0 p.items) = vars_counted (typed_functions plain 0 p.items) vars_all in
      let m : length (may_block conducts) ≡ length conducts = (decides conducts).whole in
      let l : length conducts ≡ length left = length-map left conduct_in in
      let c : length left ≡ length (functions_of plain p.items) =
      items_counted (names_of p.items) (tables_of (names_of p.items) p.items) plain 0 0 nothing_done p.items nothing_yet in
      marked_at typed (may_block conducts) f (omega (arith, lt, t, v)) (omega (arith, lt, m, l, c))

  pub left_at : (f : ℕ) (g : Signature) → slice_get (functions_of plain p.items) f ≡ Some g → (x : ReadFunction) × (slice_get left f ≡ Some x)
  left_at f g got =
      let lt : f < length (functions_of plain p.items) = got_below (functions_of plain p.items) f g got in
      let c : length left ≡ length (functions_of plain p.items) =
      items_counted (names_of p.items) (tables_of (names_of p.items) p.items) plain 0 0 nothing_done p.items nothing_yet in
      got_at left f (omega (arith, lt, c))

  -- as it is declared
  pub atomic_is : (f : ℕ) (x : ReadFunction) → slice_get left f ≡ Some x → core_atomic core_left f ≡ x.conduct.atomic
  atomic_is f x is = ap (λ (z : core.Function). z.shape.atomic) (function_is f x is)
      ∙ each_got IsAsDeclared left f x (items_declared (names_of p.items) (tables_of (names_of p.items) p.items) 0 0 nothing_done p.items nothing_yet) is

  -- ---- what may be called where nothing may wait

  abbrev pub calm : ℕ → Bool
  calm f = not (is_marked (may_block conducts) f || is_atomic conducts f)

  pub calm_says : (f : ℕ) → is_marked (may_block conducts) f ≡ false → is_atomic conducts f ≡ false → calm f ≡ true
  calm_says f unmarked plain_one = either_false (is_marked (may_block conducts) f) (is_atomic conducts f) unmarked plain_one

  calls_calm : (f : ℕ) (g : Signature) → slice_get (tables_of (names_of p.items) p.items).functions f ≡ Some g → calm f ≡ true → CalmCall core_left types_all f
  unfolding tables_of
  calls_calm f g got is =
      let x = left_at f g got in
      ap (λ (t : FunctionTypes). t.waits || core_atomic core_left f) (types_at f g got)
      ∙ (ap (λ b. is_marked (may_block conducts) f || b) (atomic_is f x.0 x.1 ∙ ap atomic_in (sym (slice_mapped conduct_in left f x.0 x.1)))
      ∙ neither (is_marked (may_block conducts) f) (is_atomic conducts f) is)

  -- each function of the program is well typed, with the types of the tables
  pub functions_fit : AllFit core_left types_all calm (functions_of plain p.items) typed left
  functions_fit = items_fit (names_of p.items) (tables_of (names_of p.items) p.items) core_left types_all calm plain refl refl matches_all
      (constant_count p.items) below functions_alone calls_calm 0 0 nothing_done p.items nothing_yet (omega arith) clean_items
