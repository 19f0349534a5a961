-- The functions of a program, in the order of its items: each is well typed with the types that the tables give it.
use Rattle.std.proofs.Common.{◌≡◌, ℕ, suc, ◌+◌, Bool, true, false, List, [], ◌∷◌, ◌++◌, length, map, Option, Some, None, refl, sym, ap, subst, ◌∙◌, arith, ◌≤◌}
use Rattle.std.proofs.lemmas.Bool.{false≢true}
use Rattle.std.proofs.lemmas.Option.{none-some}
use Rattle.std.specs.Prelude.{slice_get, nat_lt, ℤ, bytes_eq, codes}
use Rattle.cc_core.specs.Core as core
use Rattle.cc_declared.specs.Slots.{value_type as declared_type}
use Rattle.cc_elaboration.specs.Statements.{at_line}
use Rattle.cc_functions.specs.declared.done.Done.{Done}
use Rattle.cc_functions.specs.Functions.{function_at, parts, function}
use Rattle.cc_functions.specs.Items.{no_members, member_name, field_member, function_member, member_by, members_from, class_item}
use Rattle.cc_functions.specs.Items.{is_main, function_item, class_id, after_constant, after_class, after_function, items_from}
use Rattle.cc_names.specs.declared.declarations.ClassId.{ClassId}
use Rattle.cc_names.specs.declared.declarations.Entity.TheVariants as entity
use Rattle.cc_names.specs.declared.declarations.FunId.{FunId}
use Rattle.cc_names.specs.Names.{NameTables, entity_named}
use Rattle.cc_names.specs.Table.{Name}
use Rattle.cc_ops.specs.declared.shape.ClassShape.{ClassShape}
use Rattle.cc_scopes.specs.declared.state.State.{State}
use Rattle.cc_scopes.specs.declared.tables.Signature.{Signature}
use Rattle.cc_scopes.specs.declared.tables.Tables.{Tables}
use Rattle.cc_scopes.specs.declared.types.Declared.{Declared}
use Rattle.cc_scopes.specs.declared.types.Ty.{Ty}
use Rattle.cc_scopes.specs.Meaning.{value_in}
use Rattle.cc_scopes.specs.Scope.{Context}
use Rattle.cc_source.proofs.CleanLaws.{members_clean, items_clean}
use Rattle.cc_source.proofs.Fits.{Clean}
use Rattle.cc_shared.proofs.CleanLaws.{params_done}
use Rattle.cc_shared.proofs.FunctionLaws.{after_result, inner, after_params, after_body}
use Rattle.cc_shared.proofs.ItemLaws.{before_parts, constant_count}
use Rattle.cc_shared.proofs.KnownLaws.{params_same, result_same}
use Rattle.cc_tables.specs.Tables.{outside, param_types, signature, methods, functions_of}
use Rattle.cc_tree.specs.declared.declarations.ClassDecl.{ClassDecl}
use Rattle.cc_tree.specs.declared.declarations.Function.{Function}
use Rattle.cc_tree.specs.declared.declarations.Item.{Item}
use Rattle.cc_tree.specs.declared.declarations.Item.TheVariants as item
use Rattle.cc_tree.specs.declared.declarations.Member.{Member}
use Rattle.cc_tree.specs.declared.declarations.Member.TheVariants as member
use Rattle.core_types.specs.Types.{Target, FunctionTypes, Types, function_types}
use Rattle.source_types.specs.TypesOf.{value_type, target_of}
use Rattle.source_types.specs.Reading.{IsThere, Anything, Matches, CalmCall}
use Rattle.source_types.proofs.CleanEnds.{free, clean_ends, body_ends}
use Rattle.source_types.proofs.FunctionLaws.{ReadFunction, read_function, FunctionFits, types_in, At, one_function}
use Rattle.source_types.proofs.TypeTables.{types_by, method_types, typed_functions, with_vars}

map_map : (f : Declared → Ty) (ds : List Declared) → map value_type (map f ds) ≡ map (λ d. value_type (f d)) ds
map_map f [] = refl
map_map f (d ∷ ds) = ap (λ us. value_type (f d) ∷ us) (map_map f ds)

-- ---- one function

abbrev pub variables_of : Context → Bool → Function → State → List Target
variables_of cx m f s = map target_of (after_body (at_line cx f.line) m f (before_parts cx f s)).1.made

abbrev types_here : Context → Bool → Function → State → Option ℕ → FunctionTypes
types_here cx m f s this = types_in this (after_result (at_line cx f.line) m f (before_parts cx f s)).0 (after_params (at_line cx f.line) m f (before_parts cx f s)).0
    (after_body (at_line cx f.line) m f (before_parts cx f s)).1.made

-- the tables give it these types
types_same : (cx : Context) (m : Bool) (name : Name) (f : Function) (s : State) (this : Option ℕ) (clean : Clean (function cx m name f s).1) (b : Context) (other : Bool)
    (none : b.tables.classes ≡ []) (names : cx.names ≡ b.names) → types_here cx m f s this ≡ record (types_by this (signature b other f)) { vars = variables_of cx m f s }
unfolding function_at parts
types_same cx m name f s this clean b other none names =
    let line = at_line cx f.line in
    let before = before_parts cx f s in
    let ends = body_ends line m f (free (after_body line m f before).1.made) before (clean_ends (after_body line m f before).1 clean) in
    let params = params_done (inner line m f before) m [] f.params (after_result line m f before).1 ends.0 in
    let clean : Clean (after_result line m f before).1 = sym params.broken ∙ ends.0 in
    let result = result_same b none line m f before names clean in
    let ps = params_same b none (inner line m f before) m [] f.params (after_result line m f before).1 names ends.0 in
    ap (λ us. record { this = this; result = value_type (after_result line m f before).0; params = us; vars = variables_of cx m f s; waits = false })
    (ap (λ ds. map (λ d. value_type (declared_type d)) ds) params.given
    ∙ (sym (map_map declared_type params.new) ∙ ap (λ ts. map value_type ts) (sym ps)))
    ∙ ap (λ t. record { this = this; result = value_type t; params = map value_type (param_types b f.params); vars = variables_of cx m f s; waits = false }) (sym result)

-- ---- the functions of a class and of a file

abbrev pub AllFit : core.Program → Types → (ℕ → Bool) → List Signature → List FunctionTypes → List ReadFunction → Type 0
AllFit program y calm [] [] [] = Unit {0}
AllFit program y calm [] [] (x ∷ xs) = ⊥
AllFit program y calm [] (t ∷ ts) xs = ⊥
AllFit program y calm (g ∷ gs) [] xs = ⊥
AllFit program y calm (g ∷ gs) (t ∷ ts) [] = ⊥
AllFit program y calm (g ∷ gs) (t ∷ ts) (x ∷ xs) = FunctionFits program y calm g.is_main t x × AllFit program y calm gs ts xs

pub all_append : (program : core.Program) (y : Types) (calm : ℕ → Bool) (gs hs : List Signature) (ts us : List FunctionTypes) (xs zs : List ReadFunction)
    → AllFit program y calm gs ts xs → AllFit program y calm hs us zs → AllFit program y calm (gs ++ hs) (ts ++ us) (xs ++ zs)
all_append program y calm [] hs [] us [] zs p q = q
all_append program y calm [] hs [] us (x ∷ xs) zs p q = absurd p
all_append program y calm [] hs (t ∷ ts) us xs zs p q = absurd p
all_append program y calm (g ∷ gs) hs [] us xs zs p q = absurd p
all_append program y calm (g ∷ gs) hs (t ∷ ts) us [] zs p q = absurd p
all_append program y calm (g ∷ gs) hs (t ∷ ts) us (x ∷ xs) zs p q = (p.0, all_append program y calm gs hs ts us xs zs p.1 q)

module _ (cx : Context) (class : ClassDecl) where
  abbrev pub member_functions : Member → Done → ClassShape → State → List ReadFunction
  member_functions (member.Field d) done shape s = []
  member_functions (member.Func f) done shape s = read_function cx false (member_name class.name f.name) f s ∷ []
  member_functions (member.Build name params body line) done shape s = []

  abbrev pub member_variables : Member → State → List (List Target)
  member_variables (member.Field d) s = []
  member_variables (member.Func f) s = variables_of cx false f s ∷ []
  member_variables (member.Build name params body line) s = []

  abbrev pub members_read : Done → ClassShape → List Member → State → List ReadFunction
  members_read d shape [] s = []
  members_read d shape (m ∷ ms) s =
      let w = member_by m cx class d shape s in member_functions m d shape s ++ members_read (w.0).0 (w.0).1 ms w.1

  abbrev pub members_variables : Done → ClassShape → List Member → State → List (List Target)
  members_variables d shape [] s = []
  members_variables d shape (m ∷ ms) s =
      let w = member_by m cx class d shape s in member_variables m s ++ members_variables (w.0).0 (w.0).1 ms w.1

  module _ (program : core.Program) (y : Types) (calm : ℕ → Bool) (b : Context) (none : b.tables.classes ≡ []) (names : cx.names ≡ b.names) (c : ℕ) (at : At y cx (Some c))
      (calls : (f : ℕ) (g : Signature) → slice_get cx.tables.functions f ≡ Some g → calm f ≡ true → CalmCall program y f) where
    pub members_fit : (d : Done) (shape : ClassShape) (ms : List Member) (s : State) → Clean (members_from cx class d shape ms s).1
        → AllFit program y calm (methods b ms) (with_vars (method_types c (methods b ms)) (members_variables d shape ms s)) (members_read d shape ms s)
    unfolding field_member function_member
    members_fit d shape [] s q = tt
    members_fit d shape (member.Field x ∷ ms) s q =
        let w = member_by (member.Field x) cx class d shape s in members_fit (w.0).0 (w.0).1 ms w.1 q
    members_fit d shape (member.Func f ∷ ms) s q =
        let w = member_by (member.Func f) cx class d shape s in
        let name = member_name class.name f.name in
        let quiet = members_clean cx class (w.0).0 (w.0).1 ms w.1 q in (
          subst (λ t. FunctionFits program y calm false t (read_function cx false name f s))
              (types_same cx false name f s (Some c) quiet b false none names)
              (one_function program y calm cx false name f s (Some c) quiet at calls (λ is. absurd (false≢true is))),
          members_fit (w.0).0 (w.0).1 ms w.1 q,
        )
    members_fit d shape (member.Build name params body line ∷ ms) s q =
        let w = member_by (member.Build name params body line) cx class d shape s in members_fit (w.0).0 (w.0).1 ms w.1 q

-- ---- lists of types with their variables

with_append : (ts us : List FunctionTypes) (vs ws : List (List Target)) → length ts ≡ length vs → with_vars (ts ++ us) (vs ++ ws) ≡ with_vars ts vs ++ with_vars us ws
with_append [] us [] ws same = refl
with_append [] us (v ∷ vs) ws same = let e : 0 ≡ suc (length vs) = same in absurd (omega (arith, e))
with_append (t ∷ ts) us [] ws same = let e : suc (length ts) ≡ 0 = same in absurd (omega (arith, e))
with_append (t ∷ ts) us (v ∷ vs) ws same =
    let e : suc (length ts) ≡ suc (length vs) = same in ap (λ l. record t { vars = v } ∷ l) (with_append ts us vs ws (omega (arith, e)))

methods_counted : (cx : Context) (class : ClassDecl) (b : Context) (c : ℕ) (d : Done) (shape : ClassShape) (ms : List Member) (s : State)
    → length (method_types c (methods b ms)) ≡ length (members_variables cx class d shape ms s)
methods_counted cx class b c d shape [] s = refl
methods_counted cx class b c d shape (member.Field x ∷ ms) s =
    let w = member_by (member.Field x) cx class d shape s in methods_counted cx class b c (w.0).0 (w.0).1 ms w.1
methods_counted cx class b c d shape (member.Func f ∷ ms) s =
    let w = member_by (member.Func f) cx class d shape s in ap suc (methods_counted cx class b c (w.0).0 (w.0).1 ms w.1)
methods_counted cx class b c d shape (member.Build name params body line ∷ ms) s =
    let w = member_by (member.Build name params body line) cx class d shape s in methods_counted cx class b c (w.0).0 (w.0).1 ms w.1

-- ---- items

module _ (names : NameTables) (t : Tables) where
  abbrev pub items_read : (k c : ℕ) → Done → List Item → State → List ReadFunction
  items_read k c d [] s = []
  items_read k c d (item.Const name value line ∷ xs) s =
      let w = after_constant names t (record { constants = k; classes = c; done = d }) value line s in items_read w.0.constants w.0.classes w.0.done xs w.1
  items_read k c d (item.Class class ∷ xs) s =
      let w = after_class names t (record { constants = k; classes = c; done = d }) class s in
      members_read (outside names t k (Some (class_id c)) class.line) class d no_members class.members s
      ++ items_read w.0.constants w.0.classes w.0.done xs w.1
  items_read k c d (item.Func f ∷ xs) s =
      let w = after_function names t (record { constants = k; classes = c; done = d }) f s in
      read_function (outside names t k None f.line) (is_main f.name) f.name f s ∷ items_read w.0.constants w.0.classes w.0.done xs w.1

  abbrev pub items_variables : (k c : ℕ) → Done → List Item → State → List (List Target)
  items_variables k c d [] s = []
  items_variables k c d (item.Const name value line ∷ xs) s =
      let w = after_constant names t (record { constants = k; classes = c; done = d }) value line s in items_variables w.0.constants w.0.classes w.0.done xs w.1
  items_variables k c d (item.Class class ∷ xs) s =
      let w = after_class names t (record { constants = k; classes = c; done = d }) class s in
      members_variables (outside names t k (Some (class_id c)) class.line) class d no_members class.members s
      ++ items_variables w.0.constants w.0.classes w.0.done xs w.1
  items_variables k c d (item.Func f ∷ xs) s =
      let w = after_function names t (record { constants = k; classes = c; done = d }) f s in
      variables_of (outside names t k None f.line) (is_main f.name) f s ∷ items_variables w.0.constants w.0.classes w.0.done xs w.1

  module _ (program : core.Program) (y : Types) (calm : ℕ → Bool) (b : Context) (none : b.tables.classes ≡ []) (same : names ≡ b.names) (matches : Matches y t) (total : ℕ)
      (constants : (k : ℕ) → k ≤ total → (j : ℕ) → nat_lt j k ≡ true → IsThere {A = ℤ} Anything (value_in (slice_get t.constants j)))
      (functions : (text : Name) (f : FunId) → entity_named names text ≡ Some (entity.Function f) → (function_types y f.0).this ≡ None)
      (calls : (f : ℕ) (g : Signature) → slice_get t.functions f ≡ Some g → calm f ≡ true → CalmCall program y f) where
    class_number : (c : ℕ) (class : ClassId) → Some (class_id c) ≡ Some class → Some c ≡ Some class.0
    class_number c class is = ap (λ (o : Option ClassId). elim o as (λ z. Option ℕ) [ None ↦ None | Some z ↦ Some z.0 ]) is

    in_class : (k c line : ℕ) → k ≤ total → At y (outside names t k (Some (class_id c)) line) (Some c)
    in_class k c line le = record { matches = matches; this_is = λ class is. class_number c class is; constants = constants k le; functions = functions }

    in_file : (k line : ℕ) → k ≤ total → At y (outside names t k None line) None
    in_file k line le = record { matches = matches; this_is = λ class is. absurd (none-some class is); constants = constants k le; functions = functions }

    pub items_fit : (k c : ℕ) (d : Done) (xs : List Item) (s : State) → k + constant_count xs ≤ total → Clean (items_from names t (record { constants = k; classes = c; done = d }) xs s).1
        → AllFit program y calm (functions_of b xs) (with_vars (typed_functions b c xs) (items_variables k c d xs s)) (items_read k c d xs s)
    unfolding after_constant after_class after_function class_item function_item
    items_fit k c d [] s le q = tt
    items_fit k c d (item.Const name value line ∷ xs) s le q =
        let w = after_constant names t (record { constants = k; classes = c; done = d }) value line s in
        items_fit w.0.constants w.0.classes w.0.done xs w.1 (omega (arith, le)) q
    items_fit k c d (item.Class class ∷ xs) s le q =
        let w = after_class names t (record { constants = k; classes = c; done = d }) class s in
        let cx = outside names t k (Some (class_id c)) class.line in
        let quiet = items_clean names t w.0.constants w.0.classes w.0.done xs w.1 q in
        let first = members_fit cx class program y calm b none same c (in_class k c class.line (omega (arith, le))) calls d no_members class.members s quiet in
        let rest = items_fit w.0.constants w.0.classes w.0.done xs w.1 le q in
        subst (λ ts. AllFit program y calm (methods b class.members ++ functions_of b xs) ts (items_read k c d (item.Class class ∷ xs) s))
        (sym (with_append (method_types c (methods b class.members)) (typed_functions b (c + 1) xs)
        (members_variables cx class d no_members class.members s) (items_variables w.0.constants w.0.classes w.0.done xs w.1)
        (methods_counted cx class b c d no_members class.members s)))
        (all_append program y calm (methods b class.members) (functions_of b xs) _ _ _ _ first rest)
    items_fit k c d (item.Func f ∷ xs) s le q =
        let w = after_function names t (record { constants = k; classes = c; done = d }) f s in
        let cx = outside names t k None f.line in
        let quiet = items_clean names t w.0.constants w.0.classes w.0.done xs w.1 q in
        let at = in_file k f.line (omega (arith, le)) in (
          subst (λ z. FunctionFits program y calm (is_main f.name) z (read_function cx (is_main f.name) f.name f s))
              (types_same cx (is_main f.name) f.name f s None quiet b (bytes_eq f.name (codes "main")) none same)
              (one_function program y calm cx (is_main f.name) f.name f s None quiet at calls (λ is. refl)),
          items_fit w.0.constants w.0.classes w.0.done xs w.1 le q,
        )
