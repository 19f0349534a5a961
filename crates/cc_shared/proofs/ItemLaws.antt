-- The functions of a program, in the order of its items: each is determinate with the types that the tables give it.
use Rattle.std.proofs.Common.{◌≡◌, ℕ, suc, ◌+◌, Bool, true, false, List, [], ◌∷◌, ◌++◌, length, map, Option, Some, None, refl, sym, ap, subst, ◌∙◌, append-nil, arith, ◌≤◌}
use Rattle.std.proofs.lemmas.Option.{none-some}
use Rattle.std.specs.Prelude.{slice_get, nat_lt, ℤ, bytes_eq, codes}
use Rattle.cc_core.specs.Effects.{numbers}
use Rattle.cc_core.specs.Types.{Target, FunctionTypes, Types}
use Rattle.cc_core.specs.View.{stmts_of}
use Rattle.cc_core.specs.declared.program.Function.{Function as CoreFunction}
use Rattle.cc_one_answer.specs.Determinate.{DetStmts}
use Rattle.cc_names.specs.Names.{NameTables}
use Rattle.cc_names.specs.Table.{Name}
use Rattle.cc_names.specs.declared.declarations.ClassId.{ClassId}
use Rattle.cc_ops.specs.declared.shape.ClassShape.{ClassShape}
use Rattle.cc_declared.specs.Slots.{value_type as declared_type}
use Rattle.cc_elaboration.specs.Statements.{at_line}
use Rattle.cc_functions.specs.declared.done.Done.{Done}
use Rattle.cc_functions.specs.Functions.{begin, kinds_of, share_atomic, parts, function_at, function}
use Rattle.cc_functions.specs.Items.{no_members, member_name, field_member, function_member, member_by, members_from, class_item}
use Rattle.cc_functions.specs.Items.{is_main, function_item, class_id, after_constant, after_class, after_function, items_from}
use Rattle.cc_scopes.specs.declared.state.State.{State}
use Rattle.cc_scopes.specs.declared.tables.Signature.{Signature}
use Rattle.cc_scopes.specs.declared.tables.Tables.{Tables}
use Rattle.cc_scopes.specs.declared.types.Declared.{Declared}
use Rattle.cc_scopes.specs.declared.types.Ty.{Ty}
use Rattle.cc_scopes.specs.Meaning.{constant_value, value_in}
use Rattle.cc_scopes.specs.Scope.{Context}
use Rattle.cc_tables.specs.Tables.{outside, param_types, signature, methods, functions_of}
use Rattle.cc_tree.specs.declared.declarations.ClassDecl.{ClassDecl}
use Rattle.cc_tree.specs.declared.declarations.Function.{Function}
use Rattle.cc_tree.specs.declared.declarations.Item.{Item}
use Rattle.cc_tree.specs.declared.declarations.Item.TheVariants as item
use Rattle.cc_tree.specs.declared.declarations.Member.{Member}
use Rattle.cc_tree.specs.declared.declarations.Member.TheVariants as member
use Rattle.cc_source.proofs.Fits.{Clean}
use Rattle.cc_shared.proofs.Runs.{IsThere, Anything}
use Rattle.cc_shared.proofs.TypesOf.{value_type, target_of}
use Rattle.cc_shared.proofs.Det.{Matches, Stands}
use Rattle.cc_shared.proofs.Proper.{EachOf}
use Rattle.cc_shared.proofs.GrammarLaws.{ProperFunction, ProperMember, ProperItem}
use Rattle.cc_shared.proofs.CleanLaws.{params_done}
use Rattle.cc_shared.proofs.FunctionLaws.{FunctionFits, types_in, result_fits, after_result, inner, after_params, after_body, body_ends, body_fits, parameters_fit}
use Rattle.cc_shared.proofs.KnownLaws.{params_same, result_same}
use Rattle.cc_shared.proofs.QuietLaws.{Quiet, function_quiet, members_quiet, items_quiet}
use Rattle.cc_shared.proofs.TypeTables.{types_by, method_types, typed_functions, with_vars}

map_map : (f : Declared → Ty) (ds : List Declared) → map value_type (map f ds) ≡ map (λ d. value_type (f d)) ds
map_map f [] = refl
map_map f (d ∷ ds) = ap (λ us. value_type (f d) ∷ us) (map_map f ds)

mapped_length : {A B : Type 0} (f : A → B) (xs : List A) → length (map f xs) ≡ length xs
mapped_length f [] = refl
mapped_length f (x ∷ xs) = ap suc (mapped_length f xs)

-- ---- one function

abbrev pub before_parts : Context → Function → State → State
before_parts cx f s = (share_atomic f.atomic (at_line cx f.line) (begin s).1).1

abbrev pub variables_of : Context → Bool → Function → State → List Target
variables_of cx m f s = map target_of (after_body (at_line cx f.line) m f (before_parts cx f s)).1.made

nothing_before : (a : Bool) (cx : Context) (s : State) → a ≡ false → ((share_atomic a cx (begin s).1).1.made ≡ []) × ((share_atomic a cx (begin s).1).1.locals ≡ [])
nothing_before true cx s is = (refl, refl)
nothing_before false cx s is = (refl, refl)

-- what is known where an item stands
pub record At (y : Types) (main : ℕ) (cx : Context) (this : Option ℕ) : Type 0 where
  pub matches : Matches y main cx.tables
  pub this_is : (class : ClassId) → cx.class ≡ Some class → this ≡ Some class.0
  pub constants : (k : ℕ) → nat_lt k cx.known ≡ true → IsThere {A = ℤ} Anything (constant_value cx k)

module _ (y : Types) (main : ℕ) (cx : Context) (m : Bool) (name : Name) (f : Function) (s : State) (this : Option ℕ)
    (proper : ProperFunction f) (quiet : Quiet (function cx m name f s).1) (at : At y main cx this) where
  abbrev here : FunctionTypes
  here = types_in this (after_result (at_line cx f.line) m f (before_parts cx f s)).0 (after_params (at_line cx f.line) m f (before_parts cx f s)).0
      (after_body (at_line cx f.line) m f (before_parts cx f s)).1.made

  pub one_function : FunctionFits y main m here (function cx m name f s).0.function
  unfolding function_at parts
  one_function =
      let line = at_line cx f.line in
      let before = before_parts cx f s in
      let q = function_quiet cx m name f s proper quiet in
      let empty = nothing_before f.atomic line s q.1 in
      let ends = body_ends line m f proper before (quiet.0, quiet.1, [], sym (append-nil (after_body line m f before).1.made)) in
      let params = params_done (inner line m f before) m [] f.params (after_result line m f before).1 ends.0 in
      let clean : Clean (after_result line m f before).1 = sym params.broken ∙ ends.0 in
      let stands : Stands y main here (inner line m f before) = record {
        matches = at.matches;
        this = at.this_is;
        result = refl;
        gives = result_fits line m f f.result before clean;
        constants = at.constants;
      } in
      record {
        body = subst (λ n. DetStmts y main here m (numbers 0 n) (stmts_of (after_body line m f before).0))
            (sym (mapped_length kinds_of (after_params line m f before).0))
            (body_fits line m f proper before quiet.0 quiet.1 empty.0 empty.1 y main m this (λ is. is) stands);
        parameters = parameters_fit line m f proper before quiet.0 quiet.1 empty.0 empty.1 y main m this (λ is. is);
        not_atomic = q.1;
      }

  -- the tables give it these types
  pub types_same : (b : Context) (other : Bool) → b.tables.classes ≡ [] → cx.names ≡ b.names
      → here ≡ record (types_by this (signature b other f)) { vars = variables_of cx m f s }
  unfolding function_at parts
  types_same b other none names =
      let line = at_line cx f.line in
      let before = before_parts cx f s in
      let ends = body_ends line m f proper before (quiet.0, quiet.1, [], sym (append-nil (after_body line m f before).1.made)) in
      let params = params_done (inner line m f before) m [] f.params (after_result line m f before).1 ends.0 in
      let clean : Clean (after_result line m f before).1 = sym params.broken ∙ ends.0 in
      let result = result_same b none line m f before names clean in
      let ps = params_same b none (inner line m f before) m [] f.params (after_result line m f before).1 names ends.0 in
      ap (λ us. record { this = this; result = value_type (after_result line m f before).0; params = us; vars = variables_of cx m f s })
      (ap (λ ds. map (λ d. value_type (declared_type d)) ds) params.given
      ∙ (sym (map_map declared_type params.new) ∙ ap (λ ts. map value_type ts) (sym ps)))
      ∙ ap (λ t. record { this = this; result = value_type t; params = map value_type (param_types b f.params); vars = variables_of cx m f s }) (sym result)

-- ---- the functions of a class and of a file

abbrev pub AllFit : Types → ℕ → List Signature → List FunctionTypes → List CoreFunction → Type 0
AllFit y main [] [] [] = Unit {0}
AllFit y main [] [] (x ∷ xs) = ⊥
AllFit y main [] (t ∷ ts) xs = ⊥
AllFit y main (g ∷ gs) [] xs = ⊥
AllFit y main (g ∷ gs) (t ∷ ts) [] = ⊥
AllFit y main (g ∷ gs) (t ∷ ts) (x ∷ xs) = FunctionFits y main g.is_main t x × AllFit y main gs ts xs

pub all_append : (y : Types) (main : ℕ) (gs hs : List Signature) (ts us : List FunctionTypes) (xs zs : List CoreFunction)
    → AllFit y main gs ts xs → AllFit y main hs us zs → AllFit y main (gs ++ hs) (ts ++ us) (xs ++ zs)
all_append y main [] hs [] us [] zs p q = q
all_append y main [] hs [] us (x ∷ xs) zs p q = absurd p
all_append y main [] hs (t ∷ ts) us xs zs p q = absurd p
all_append y main (g ∷ gs) hs [] us xs zs p q = absurd p
all_append y main (g ∷ gs) hs (t ∷ ts) us [] zs p q = absurd p
all_append y main (g ∷ gs) hs (t ∷ ts) us (x ∷ xs) zs p q = (p.0, all_append y main gs hs ts us xs zs p.1 q)

module _ (cx : Context) (class : ClassDecl) where
  abbrev pub member_functions : Member → Done → ClassShape → State → List CoreFunction
  member_functions (member.Field d) done shape s = []
  member_functions (member.Func f) done shape s = (function cx false (member_name class.name f.name) f s).0.function ∷ []
  member_functions (member.Build name params body line) done shape s = []

  abbrev pub member_variables : Member → State → List (List Target)
  member_variables (member.Field d) s = []
  member_variables (member.Func f) s = variables_of cx false f s ∷ []
  member_variables (member.Build name params body line) s = []

  abbrev pub members_functions : Done → ClassShape → List Member → State → List CoreFunction
  members_functions d shape [] s = []
  members_functions d shape (m ∷ ms) s =
      let w = member_by m cx class d shape s in member_functions m d shape s ++ members_functions (w.0).0 (w.0).1 ms w.1

  abbrev pub members_variables : Done → ClassShape → List Member → State → List (List Target)
  members_variables d shape [] s = []
  members_variables d shape (m ∷ ms) s =
      let w = member_by m cx class d shape s in member_variables m s ++ members_variables (w.0).0 (w.0).1 ms w.1

  module _ (y : Types) (main : ℕ) (b : Context) (none : b.tables.classes ≡ []) (names : cx.names ≡ b.names) (c : ℕ) (at : At y main cx (Some c)) where
    pub members_fit : (d : Done) (shape : ClassShape) (ms : List Member) (s : State) → EachOf ProperMember ms → Quiet (members_from cx class d shape ms s).1
        → AllFit y main (methods b ms) (with_vars (method_types c (methods b ms)) (members_variables d shape ms s)) (members_functions d shape ms s)
    unfolding field_member function_member
    members_fit d shape [] s p q = tt
    members_fit d shape (member.Field x ∷ ms) s p q =
        let w = member_by (member.Field x) cx class d shape s in members_fit (w.0).0 (w.0).1 ms w.1 p.1 q
    members_fit d shape (member.Func f ∷ ms) s p q =
        let w = member_by (member.Func f) cx class d shape s in
        let name = member_name class.name f.name in
        let quiet = members_quiet cx class (w.0).0 (w.0).1 ms w.1 p.1 q in (
          subst (λ t. FunctionFits y main false t (function cx false name f s).0.function)
              (types_same y main cx false name f s (Some c) p.0 quiet at b false none names)
              (one_function y main cx false name f s (Some c) p.0 quiet at),
          members_fit (w.0).0 (w.0).1 ms w.1 p.1 q,
        )
    members_fit d shape (member.Build name params body line ∷ ms) s p q =
        let w = member_by (member.Build name params body line) cx class d shape s in members_fit (w.0).0 (w.0).1 ms w.1 p.1 q

-- ---- lists of types with their variables

with_append : (ts us : List FunctionTypes) (vs ws : List (List Target)) → length ts ≡ length vs → with_vars (ts ++ us) (vs ++ ws) ≡ with_vars ts vs ++ with_vars us ws
with_append [] us [] ws same = refl
with_append [] us (v ∷ vs) ws same = let e : 0 ≡ suc (length vs) = same in absurd (omega (arith, e))
with_append (t ∷ ts) us [] ws same = let e : suc (length ts) ≡ 0 = same in absurd (omega (arith, e))
with_append (t ∷ ts) us (v ∷ vs) ws same =
    let e : suc (length ts) ≡ suc (length vs) = same in ap (λ l. record t { vars = v } ∷ l) (with_append ts us vs ws (omega (arith, e)))

methods_counted : (cx : Context) (class : ClassDecl) (b : Context) (c : ℕ) (d : Done) (shape : ClassShape) (ms : List Member) (s : State)
    → length (method_types c (methods b ms)) ≡ length (members_variables cx class d shape ms s)
methods_counted cx class b c d shape [] s = refl
methods_counted cx class b c d shape (member.Field x ∷ ms) s =
    let w = member_by (member.Field x) cx class d shape s in methods_counted cx class b c (w.0).0 (w.0).1 ms w.1
methods_counted cx class b c d shape (member.Func f ∷ ms) s =
    let w = member_by (member.Func f) cx class d shape s in ap suc (methods_counted cx class b c (w.0).0 (w.0).1 ms w.1)
methods_counted cx class b c d shape (member.Build name params body line ∷ ms) s =
    let w = member_by (member.Build name params body line) cx class d shape s in methods_counted cx class b c (w.0).0 (w.0).1 ms w.1

-- ---- items

-- the named constants among them
abbrev pub constant_count : List Item → ℕ
constant_count [] = 0
constant_count (item.Const name value line ∷ xs) = suc (constant_count xs)
constant_count (item.Class class ∷ xs) = constant_count xs
constant_count (item.Func f ∷ xs) = constant_count xs

module _ (names : NameTables) (t : Tables) where
  abbrev pub items_functions : (k c : ℕ) → Done → List Item → State → List CoreFunction
  items_functions k c d [] s = []
  items_functions k c d (item.Const name value line ∷ xs) s =
      let w = after_constant names t (record { constants = k; classes = c; done = d }) value line s in items_functions w.0.constants w.0.classes w.0.done xs w.1
  items_functions k c d (item.Class class ∷ xs) s =
      let w = after_class names t (record { constants = k; classes = c; done = d }) class s in
      members_functions (outside names t k (Some (class_id c)) class.line) class d no_members class.members s
      ++ items_functions w.0.constants w.0.classes w.0.done xs w.1
  items_functions k c d (item.Func f ∷ xs) s =
      let w = after_function names t (record { constants = k; classes = c; done = d }) f s in
      (function (outside names t k None f.line) (is_main f.name) f.name f s).0.function ∷ items_functions w.0.constants w.0.classes w.0.done xs w.1

  abbrev pub items_variables : (k c : ℕ) → Done → List Item → State → List (List Target)
  items_variables k c d [] s = []
  items_variables k c d (item.Const name value line ∷ xs) s =
      let w = after_constant names t (record { constants = k; classes = c; done = d }) value line s in items_variables w.0.constants w.0.classes w.0.done xs w.1
  items_variables k c d (item.Class class ∷ xs) s =
      let w = after_class names t (record { constants = k; classes = c; done = d }) class s in
      members_variables (outside names t k (Some (class_id c)) class.line) class d no_members class.members s
      ++ items_variables w.0.constants w.0.classes w.0.done xs w.1
  items_variables k c d (item.Func f ∷ xs) s =
      let w = after_function names t (record { constants = k; classes = c; done = d }) f s in
      variables_of (outside names t k None f.line) (is_main f.name) f s ∷ items_variables w.0.constants w.0.classes w.0.done xs w.1

  module _ (y : Types) (main : ℕ) (b : Context) (none : b.tables.classes ≡ []) (same : names ≡ b.names) (matches : Matches y main t) (total : ℕ)
      (constants : (k : ℕ) → k ≤ total → (j : ℕ) → nat_lt j k ≡ true → IsThere {A = ℤ} Anything (value_in (slice_get t.constants j))) where
    class_number : (c : ℕ) (class : ClassId) → Some (class_id c) ≡ Some class → Some c ≡ Some class.0
    class_number c class is = ap (λ (o : Option ClassId). elim o as (λ z. Option ℕ) [ None ↦ None | Some z ↦ Some z.0 ]) is

    in_class : (k c line : ℕ) → k ≤ total → At y main (outside names t k (Some (class_id c)) line) (Some c)
    in_class k c line le = record { matches = matches; this_is = λ class is. class_number c class is; constants = constants k le }

    in_file : (k line : ℕ) → k ≤ total → At y main (outside names t k None line) None
    in_file k line le = record { matches = matches; this_is = λ class is. absurd (none-some class is); constants = constants k le }

    pub items_fit : (k c : ℕ) (d : Done) (xs : List Item) (s : State) → k + constant_count xs ≤ total → EachOf ProperItem xs
        → Quiet (items_from names t (record { constants = k; classes = c; done = d }) xs s).1
        → AllFit y main (functions_of b xs) (with_vars (typed_functions b c xs) (items_variables k c d xs s)) (items_functions k c d xs s)
    unfolding after_constant after_class after_function class_item function_item
    items_fit k c d [] s le p q = tt
    items_fit k c d (item.Const name value line ∷ xs) s le p q =
        let w = after_constant names t (record { constants = k; classes = c; done = d }) value line s in
        items_fit w.0.constants w.0.classes w.0.done xs w.1 (omega (arith, le)) p.1 q
    items_fit k c d (item.Class class ∷ xs) s le p q =
        let w = after_class names t (record { constants = k; classes = c; done = d }) class s in
        let cx = outside names t k (Some (class_id c)) class.line in
        let quiet = items_quiet names t w.0.constants w.0.classes w.0.done xs w.1 p.1 q in
        let first = members_fit cx class y main b none same c (in_class k c class.line (omega (arith, le))) d no_members class.members s p.0 quiet in
        let rest = items_fit w.0.constants w.0.classes w.0.done xs w.1 le p.1 q in
        subst (λ ts. AllFit y main (methods b class.members ++ functions_of b xs) ts (items_functions k c d (item.Class class ∷ xs) s))
        (sym (with_append (method_types c (methods b class.members)) (typed_functions b (c + 1) xs)
        (members_variables cx class d no_members class.members s) (items_variables w.0.constants w.0.classes w.0.done xs w.1)
        (methods_counted cx class b c d no_members class.members s)))
        (all_append y main (methods b class.members) (functions_of b xs) _ _ _ _ first rest)
    items_fit k c d (item.Func f ∷ xs) s le p q =
        let w = after_function names t (record { constants = k; classes = c; done = d }) f s in
        let cx = outside names t k None f.line in
        let quiet = items_quiet names t w.0.constants w.0.classes w.0.done xs w.1 p.1 q in
        let at = in_file k f.line (omega (arith, le)) in (
          subst (λ z. FunctionFits y main (is_main f.name) z (function cx (is_main f.name) f.name f s).0.function)
              (types_same y main cx (is_main f.name) f.name f s None p.0 quiet at b (bytes_eq f.name (codes "main")) none same)
              (one_function y main cx (is_main f.name) f.name f s None p.0 quiet at),
          items_fit w.0.constants w.0.classes w.0.done xs w.1 le p.1 q,
        )
