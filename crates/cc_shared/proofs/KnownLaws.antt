-- What the tables of a program hold whose items are read without a broken rule: the types of its functions.
use Rattle.std.proofs.Common.{◌≡◌, ℕ, zero, suc, Bool, false, not, List, [], ◌∷◌, ◌++◌, map, Some, None, refl, sym, ap, subst, ◌∙◌, append-nil}
use Rattle.std.specs.Prelude.{slice_get, ◌&&◌, bytes_eq, codes}
use Rattle.std.proofs.lemmas.Option.{none-some}
use Rattle.cc_names.specs.Names.{NameTables}
use Rattle.cc_names.specs.declared.rule.StaticRule.TheVariants as r
use Rattle.cc_ops.specs.declared.shape.ClassShape.{ClassShape}
use Rattle.cc_declared.specs.declared.role.Role.TheVariants as role
use Rattle.cc_declared.specs.Slots.{returned, parameter, value_type as declared_type}
use Rattle.cc_elaboration.specs.Simple.{note_if}
use Rattle.cc_elaboration.specs.Statements.{at_line}
use Rattle.cc_functions.specs.declared.done.Done.{Done}
use Rattle.cc_functions.specs.Functions.{begin, is_plain_int, param_at, param, params_from, result_of, share_atomic, parts, function_at}
use Rattle.cc_functions.specs.Items.{no_members, field_member, function_member, member_by, members_from, class_item}
use Rattle.cc_functions.specs.Items.{is_main, function_item, class_id, after_constant, after_class, after_function, items_from}
use Rattle.cc_scopes.specs.declared.state.State.{State}
use Rattle.cc_scopes.specs.declared.tables.Signature.{Signature}
use Rattle.cc_scopes.specs.declared.tables.Tables.{Tables}
use Rattle.cc_scopes.specs.declared.types.Declared.{Declared}
use Rattle.cc_scopes.specs.Elab.{nothing_yet}
use Rattle.cc_scopes.specs.Scope.{Context}
use Rattle.cc_tables.specs.Tables.{outside, param_type, param_types, signature, methods, functions_of}
use Rattle.cc_tables.specs.Tables as tables
use Rattle.cc_tree.specs.declared.declarations.ClassDecl.{ClassDecl}
use Rattle.cc_tree.specs.declared.declarations.Function.{Function}
use Rattle.cc_tree.specs.declared.declarations.Item.{Item}
use Rattle.cc_tree.specs.declared.declarations.Item.TheVariants as item
use Rattle.cc_tree.specs.declared.declarations.Member.{Member}
use Rattle.cc_tree.specs.declared.declarations.Member.TheVariants as member
use Rattle.cc_tree.specs.declared.declarations.Param.{Param}
use Rattle.cc_source.proofs.Fits.{Clean}
use Rattle.cc_shared.proofs.TypesOf.{IsCellType, IsResultType, AllCellTypes}
use Rattle.cc_shared.proofs.Proper.{EachOf}
use Rattle.cc_shared.proofs.GrammarLaws.{ProperFunction, ProperMember, ProperItem}
use Rattle.cc_shared.proofs.CleanLaws.{note_kept, AllParameters, type_clean, params_done, params_fit}
use Rattle.cc_shared.proofs.FunctionLaws.{parameter_value, result_fits, after_result, inner, after_body, body_ends}
use Rattle.cc_shared.proofs.SameLaws.{typed_same}
use Rattle.cc_shared.proofs.QuietLaws.{Quiet, members_quiet, items_quiet}

-- ---- lists

pub each_append : {A : Type 0} (P : A → Type 0) (xs ys : List A) → EachOf P xs → EachOf P ys → EachOf P (xs ++ ys)
each_append P [] ys p q = q
each_append P (x ∷ xs) ys p q = (p.0, each_append P xs ys p.1 q)

some_inside : {A : Type 0} (x y : A) → Some x ≡ Some y → x ≡ y
some_inside {A = A} x y is = ap (λ o. elim o as (λ z. A) [ None ↦ x | Some z ↦ z ]) is

pub each_got : {A : Type 0} (P : A → Type 0) (xs : List A) (i : ℕ) (x : A) → EachOf P xs → slice_get xs i ≡ Some x → P x
each_got P [] i x p is = absurd (none-some x is)
each_got P (z ∷ xs) zero x p is = subst P (some_inside z x is) p.0
each_got P (z ∷ xs) (suc i) x p is = each_got P xs i x p.1 is

-- ---- parameters and results, as the tables have them

module _ (b : Context) (no_classes : b.tables.classes ≡ []) where
  pub param_same : (cx : Context) (m : Bool) (p : Param) (s : State) → cx.names ≡ b.names → Clean (param_at cx m p s).1
      → param_type b p ≡ declared_type (param_at cx m p s).0
  unfolding param_at
  param_same cx m p s names e =
      let d = parameter cx p.ty s in
      let n = note_if (m && not (is_plain_int d.0)) cx r.BadMain d.1 in
      ap declared_type (sym (typed_same cx b names no_classes role.Parameter p.ty s nothing_yet (type_clean cx m p s e)))

  pub params_same : (cx : Context) (m : Bool) (done : List Declared) (ps : List Param) (s : State) → cx.names ≡ b.names
      → (e : Clean (params_from cx m done ps s).1) → param_types b ps ≡ map declared_type (params_done cx m done ps s e).new
  unfolding params_done
  params_same cx m done [] s names e = refl
  params_same cx m done (p ∷ ps) s names e =
      let q = param cx m p s in
      let rest = params_done cx m (done ++ q.0 ∷ []) ps q.1 e in
      ap (λ t. t ∷ param_types b ps) (param_same (at_line cx p.line) m p s names (sym rest.broken ∙ e))
      ∙ ap (λ ts. declared_type q.0 ∷ ts) (params_same cx m (done ++ q.0 ∷ []) ps q.1 names e)

  pub result_same : (cx : Context) (m : Bool) (f : Function) (s : State) → cx.names ≡ b.names → Clean (result_of cx m f.result s).1
      → tables.result_of b f ≡ (result_of cx m f.result s).0
  unfolding result_of
  result_same cx m f s names e =
      let d = returned cx f.result s in
      ap declared_type (sym (typed_same cx b names no_classes role.Result f.result s nothing_yet
      (subst Clean (note_kept cx (m && not (is_plain_int d.0)) r.BadMain d.1 e) e)))

  cells_of : (ds : List Declared) → AllParameters ds → AllCellTypes (map declared_type ds)
  cells_of [] p = tt
  cells_of (d ∷ ds) p = (subst IsCellType (sym (parameter_value d p.0)) (p.0).0, cells_of ds p.1)

  -- the types of a function
  abbrev pub SignatureKnown : Signature → Type 0
  SignatureKnown g = AllCellTypes g.params × IsResultType g.result

  -- of one that is read without a broken rule
  pub function_known : (cx : Context) (m other : Bool) (f : Function) (s : State) → cx.names ≡ b.names → ProperFunction f
      → Quiet (after_body cx m f s).1 → SignatureKnown (signature b other f)
  function_known cx m other f s names proper q =
      let ends = body_ends cx m f proper s (q.0, q.1, [], sym (append-nil (after_body cx m f s).1.made)) in
      let params = params_done (inner cx m f s) m [] f.params (after_result cx m f s).1 ends.0 in
      let clean : Clean (after_result cx m f s).1 = sym params.broken ∙ ends.0 in (
        subst AllCellTypes (sym (params_same (inner cx m f s) m [] f.params (after_result cx m f s).1 names ends.0))
            (cells_of params.new (params_fit (inner cx m f s) m [] f.params (after_result cx m f s).1 ends.0)),
        subst IsResultType (sym (result_same cx m f s names clean)) (result_fits cx m f f.result s clean),
      )

  -- ---- the functions of a class and of a file

  pub methods_known : (cx : Context) (class : ClassDecl) (d : Done) (shape : ClassShape) (ms : List Member) (s : State) → cx.names ≡ b.names
      → EachOf ProperMember ms → Quiet (members_from cx class d shape ms s).1 → EachOf SignatureKnown (methods b ms)
  unfolding field_member function_member function_at parts
  methods_known cx class d shape [] s names p q = tt
  methods_known cx class d shape (member.Field x ∷ ms) s names p q =
      let w = member_by (member.Field x) cx class d shape s in methods_known cx class (w.0).0 (w.0).1 ms w.1 names p.1 q
  methods_known cx class d shape (member.Func f ∷ ms) s names p q =
      let w = member_by (member.Func f) cx class d shape s in
      let before = (share_atomic f.atomic (at_line cx f.line) (begin s).1).1 in (
        function_known (at_line cx f.line) false false f before names p.0 (members_quiet cx class (w.0).0 (w.0).1 ms w.1 p.1 q),
        methods_known cx class (w.0).0 (w.0).1 ms w.1 names p.1 q,
      )
  methods_known cx class d shape (member.Build name params body line ∷ ms) s names p q =
      let w = member_by (member.Build name params body line) cx class d shape s in methods_known cx class (w.0).0 (w.0).1 ms w.1 names p.1 q

  module _ (names : NameTables) (t : Tables) (same : names ≡ b.names) where
    pub functions_known : (k c : ℕ) (d : Done) (xs : List Item) (s : State) → EachOf ProperItem xs
        → Quiet (items_from names t (record { constants = k; classes = c; done = d }) xs s).1 → EachOf SignatureKnown (functions_of b xs)
    unfolding after_constant after_class after_function class_item function_item function_at parts
    functions_known k c d [] s p q = tt
    functions_known k c d (item.Const name value line ∷ xs) s p q =
        let w = after_constant names t (record { constants = k; classes = c; done = d }) value line s in
        functions_known w.0.constants w.0.classes w.0.done xs w.1 p.1 q
    functions_known k c d (item.Class class ∷ xs) s p q =
        let w = after_class names t (record { constants = k; classes = c; done = d }) class s in
        each_append SignatureKnown (methods b class.members) (functions_of b xs)
        (methods_known (outside names t k (Some (class_id c)) class.line) class d no_members class.members s same p.0
        (items_quiet names t w.0.constants w.0.classes w.0.done xs w.1 p.1 q))
        (functions_known w.0.constants w.0.classes w.0.done xs w.1 p.1 q)
    functions_known k c d (item.Func f ∷ xs) s p q =
        let w = after_function names t (record { constants = k; classes = c; done = d }) f s in
        let here = at_line (outside names t k None f.line) f.line in
        let before = (share_atomic f.atomic here (begin s).1).1 in (
          function_known here (is_main f.name) (bytes_eq f.name (codes "main")) f before same p.0
              (items_quiet names t w.0.constants w.0.classes w.0.done xs w.1 p.1 q),
          functions_known w.0.constants w.0.classes w.0.done xs w.1 p.1 q,
        )
