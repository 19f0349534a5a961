-- What the tables hold of the functions of a program whose items break no rule: their types.
use Rattle.std.proofs.Common.{◌≡◌, ℕ, Bool, false, List, [], ◌∷◌, map, Some, None, sym, subst, ◌∙◌}
use Rattle.std.specs.Prelude.{bytes_eq, codes}
use Rattle.cc_names.specs.Names.{NameTables}
use Rattle.cc_ops.specs.declared.shape.ClassShape.{ClassShape}
use Rattle.cc_declared.specs.Slots.{value_type as declared_type}
use Rattle.cc_elaboration.specs.Statements.{at_line}
use Rattle.cc_functions.specs.declared.done.Done.{Done}
use Rattle.cc_functions.specs.Functions.{begin, share_atomic, parts, function_at}
use Rattle.cc_functions.specs.Items.{no_members, field_member, function_member, member_by, members_from, class_item}
use Rattle.cc_functions.specs.Items.{is_main, function_item, class_id, after_constant, after_class, after_function, items_from}
use Rattle.cc_scopes.specs.declared.state.State.{State}
use Rattle.cc_scopes.specs.declared.tables.Signature.{Signature}
use Rattle.cc_scopes.specs.declared.tables.Tables.{Tables}
use Rattle.cc_scopes.specs.declared.types.Declared.{Declared}
use Rattle.cc_scopes.specs.Scope.{Context}
use Rattle.cc_tables.specs.Tables.{outside, signature, methods, functions_of}
use Rattle.cc_tree.specs.declared.declarations.ClassDecl.{ClassDecl}
use Rattle.cc_tree.specs.declared.declarations.Function.{Function}
use Rattle.cc_tree.specs.declared.declarations.Item.{Item}
use Rattle.cc_tree.specs.declared.declarations.Item.TheVariants as item
use Rattle.cc_tree.specs.declared.declarations.Member.{Member}
use Rattle.cc_tree.specs.declared.declarations.Member.TheVariants as member
use Rattle.cc_source.proofs.CleanLaws.{members_clean, items_clean}
use Rattle.cc_source.proofs.Fits.{Clean}
use Rattle.cc_shared.proofs.CleanLaws.{AllParameters, params_done, params_fit}
use Rattle.cc_shared.proofs.FunctionLaws.{parameter_value, result_fits, after_result, inner, after_body}
use Rattle.cc_shared.proofs.KnownLaws.{each_append, params_same, result_same}
use Rattle.cc_shared.proofs.Proper.{EachOf}
use Rattle.source_types.specs.TypesOf.{IsCellType, IsResultType, AllCellTypes}
use Rattle.source_types.proofs.CleanEnds.{free, clean_ends, body_ends}
use Rattle.source_types.proofs.FunctionLaws.{cell_type, result_type}

module _ (b : Context) (no_classes : b.tables.classes ≡ []) where
  cells_of : (ds : List Declared) → AllParameters ds → AllCellTypes (map declared_type ds)
  cells_of [] p = tt
  cells_of (d ∷ ds) p = (subst IsCellType (sym (parameter_value d p.0)) (cell_type d.ty (p.0).0), cells_of ds p.1)

  -- the types of a function
  abbrev pub SignatureKnown : Signature → Type 0
  SignatureKnown g = AllCellTypes g.params × IsResultType g.result

  -- of one that is read without a broken rule
  pub function_known : (cx : Context) (m other : Bool) (f : Function) (s : State) → cx.names ≡ b.names → Clean (after_body cx m f s).1 → SignatureKnown (signature b other f)
  function_known cx m other f s names q =
      let ends = body_ends cx m f (free (after_body cx m f s).1.made) s (clean_ends (after_body cx m f s).1 q) in
      let params = params_done (inner cx m f s) m [] f.params (after_result cx m f s).1 ends.0 in
      let clean : Clean (after_result cx m f s).1 = sym params.broken ∙ ends.0 in (
        subst AllCellTypes (sym (params_same b no_classes (inner cx m f s) m [] f.params (after_result cx m f s).1 names ends.0))
            (cells_of params.new (params_fit (inner cx m f s) m [] f.params (after_result cx m f s).1 ends.0)),
        subst IsResultType (sym (result_same b no_classes cx m f s names clean)) (result_type _ (result_fits cx m f f.result s clean)),
      )

  -- ---- the functions of a class and of a file

  pub methods_known : (cx : Context) (class : ClassDecl) (d : Done) (shape : ClassShape) (ms : List Member) (s : State) → cx.names ≡ b.names
      → Clean (members_from cx class d shape ms s).1 → EachOf SignatureKnown (methods b ms)
  unfolding field_member function_member function_at parts
  methods_known cx class d shape [] s names q = tt
  methods_known cx class d shape (member.Field x ∷ ms) s names q =
      let w = member_by (member.Field x) cx class d shape s in methods_known cx class (w.0).0 (w.0).1 ms w.1 names q
  methods_known cx class d shape (member.Func f ∷ ms) s names q =
      let w = member_by (member.Func f) cx class d shape s in
      let before = (share_atomic f.atomic (at_line cx f.line) (begin s).1).1 in (
        function_known (at_line cx f.line) false false f before names (members_clean cx class (w.0).0 (w.0).1 ms w.1 q),
        methods_known cx class (w.0).0 (w.0).1 ms w.1 names q,
      )
  methods_known cx class d shape (member.Build name params body line ∷ ms) s names q =
      let w = member_by (member.Build name params body line) cx class d shape s in methods_known cx class (w.0).0 (w.0).1 ms w.1 names q

  module _ (names : NameTables) (t : Tables) (same : names ≡ b.names) where
    pub functions_known : (k c : ℕ) (d : Done) (xs : List Item) (s : State) → Clean (items_from names t (record { constants = k; classes = c; done = d }) xs s).1 → EachOf SignatureKnown (functions_of b xs)
    unfolding after_constant after_class after_function class_item function_item function_at parts
    functions_known k c d [] s q = tt
    functions_known k c d (item.Const name value line ∷ xs) s q =
        let w = after_constant names t (record { constants = k; classes = c; done = d }) value line s in
        functions_known w.0.constants w.0.classes w.0.done xs w.1 q
    functions_known k c d (item.Class class ∷ xs) s q =
        let w = after_class names t (record { constants = k; classes = c; done = d }) class s in
        each_append SignatureKnown (methods b class.members) (functions_of b xs)
        (methods_known (outside names t k (Some (class_id c)) class.line) class d no_members class.members s same
        (items_clean names t w.0.constants w.0.classes w.0.done xs w.1 q))
        (functions_known w.0.constants w.0.classes w.0.done xs w.1 q)
    functions_known k c d (item.Func f ∷ xs) s q =
        let w = after_function names t (record { constants = k; classes = c; done = d }) f s in
        let here = at_line (outside names t k None f.line) f.line in
        let before = (share_atomic f.atomic here (begin s).1).1 in (
          function_known here (is_main f.name) (bytes_eq f.name (codes "main")) f before same
              (items_clean names t w.0.constants w.0.classes w.0.done xs w.1 q),
          functions_known w.0.constants w.0.classes w.0.done xs w.1 q,
        )
