-- What the tables of a program hold of its classes whose items are read without a broken rule: the types of fields and constructors.
use Rattle.std.proofs.Common.{◌≡◌, ℕ, zero, suc, ◌+◌, ◌≤◌, ℤ, pos, negsuc, Bool, true, false, List, [], ◌∷◌, Option, Some, None, refl, sym, subst, ◌∙◌, arith}
use Rattle.std.specs.Prelude.{◌||◌, int_lt, if◌then◌else◌}
use Rattle.std.proofs.lemmas.Bool.{true≢false, ltb-false}
use Rattle.cc_core.specs.Types.{no_types}
use Rattle.cc_names.specs.Declarations.{after_methods}
use Rattle.cc_names.specs.Names.{NameTables}
use Rattle.cc_names.specs.Table.{Name}
use Rattle.cc_names.specs.declared.broken.Broken.TheVariants.{Limit}
use Rattle.cc_names.specs.declared.rule.StaticLimit.TheVariants.{ArrayLength}
use Rattle.cc_ops.specs.declared.shape.ClassShape.{ClassShape}
use Rattle.cc_declared.specs.declared.role.Role.TheVariants as role
use Rattle.cc_declared.specs.Slots.{typed_as, known_length, arrayed_by, arrayed, with_length, slot, field}
use Rattle.cc_elaboration.specs.Statements.{at_line}
use Rattle.cc_functions.specs.declared.done.Done.{Done}
use Rattle.cc_functions.specs.Constructors.{param_in, params_in, in_constructor, constructor_at, constructor}
use Rattle.cc_functions.specs.Functions.{begin, param}
use Rattle.cc_functions.specs.Items.{no_members, field_member, function_member, member_by, members_from as read_members, class_item}
use Rattle.cc_functions.specs.Items.{function_item, class_id, after_constant, after_class, after_function, items_from}
use Rattle.cc_scopes.specs.declared.state.State.{State}
use Rattle.cc_scopes.specs.declared.tables.Class.{Class}
use Rattle.cc_scopes.specs.declared.tables.Member.TheVariants as entry
use Rattle.cc_scopes.specs.declared.tables.Tables.{Tables}
use Rattle.cc_scopes.specs.declared.typed.Typed.{Typed}
use Rattle.cc_scopes.specs.declared.typed.Typed.TheVariants as typed
use Rattle.cc_scopes.specs.declared.types.Declared.{Declared}
use Rattle.cc_scopes.specs.declared.types.Shape.{Shape}
use Rattle.cc_scopes.specs.declared.types.Shape.TheVariants as shape
use Rattle.cc_scopes.specs.Elab.{nothing_yet}
use Rattle.cc_scopes.specs.Lengths.{no_length, natural, length_in_range, value_length, length_of}
use Rattle.cc_scopes.specs.Scope.{Context}
use Rattle.cc_tables.specs.Tables.{outside, width, field_of, param_types, members_from, constructor_types, classes_from}
use Rattle.cc_typing.specs.Expr.{expr}
use Rattle.cc_typing.specs.Whole.{array_length}
use Rattle.cc_tree.specs.declared.declarations.ClassDecl.{ClassDecl}
use Rattle.cc_tree.specs.declared.declarations.Item.{Item}
use Rattle.cc_tree.specs.declared.declarations.Item.TheVariants as item
use Rattle.cc_tree.specs.declared.declarations.Member.{Member}
use Rattle.cc_tree.specs.declared.declarations.Member.TheVariants as member
use Rattle.cc_tree.specs.declared.declarations.Param.{Param}
use Rattle.cc_tree.specs.declared.expressions.Expr.{Expr}
use Rattle.cc_tree.specs.declared.statements.Decl.{Decl}
use Rattle.cc_tree.specs.declared.statements.Stmt.{Stmt}
use Rattle.cc_source.proofs.Fits.{Clean}
use Rattle.cc_shared.proofs.TypesOf.{IsCellType, AllCellTypes}
use Rattle.cc_shared.proofs.StateLaws.{not_empty, IfThere}
use Rattle.cc_shared.proofs.LengthLaws.{IsLength}
use Rattle.cc_shared.proofs.ExpressionLaws.{array_length_runs}
use Rattle.cc_shared.proofs.DeclaredLaws.{DeclaredFits, ShapeFits}
use Rattle.cc_shared.proofs.Proper.{EachOf}
use Rattle.cc_shared.proofs.GrammarLaws.{ProperMember, ProperItem}
use Rattle.cc_shared.proofs.CleanLaws.{typed_fits, note_kept, param_type_fits}
use Rattle.cc_shared.proofs.FunctionLaws.{parameter_value}
use Rattle.cc_shared.proofs.KnownLaws.{param_same}
use Rattle.cc_shared.proofs.SameLaws.{typed_same}
use Rattle.cc_shared.proofs.QuietLaws.{Quiet, quiet_ends, no_functions, members_quiet, sets_quiet, params_in_quiet, items_quiet}
use Rattle.cc_shared.proofs.TypeTables.{IsFieldShape, EntryKnown}

-- ---- each length is one

above_zero : (z : ℤ) → int_lt z (pos 1) ≡ false → 1 ≤ natural z
above_zero (pos zero) is = absurd (true≢false is)
above_zero (pos (suc k)) is = omega arith
above_zero (negsuc k) is = absurd (true≢false is)

few : (z : ℤ) → int_lt (pos 65536) z ≡ false → natural z ≤ 65536
few (pos k) is = ltb-false 65536 k is
few (negsuc k) is = omega arith

left_false : (a b : Bool) → (a || b) ≡ false → a ≡ false
left_false true b is = is
left_false false b is = refl

right_false : (a b : Bool) → (a || b) ≡ false → b ≡ false
right_false true b is = absurd (true≢false is)
right_false false b is = is

module _ (cx : Context) where
  in_range_or_not : (b : Bool) (z : ℤ) (s : State) → (b ≡ false → IsLength (natural z))
      → IfThere IsLength ((if b then no_length (Limit ArrayLength cx.line) else (λ t. (Some (natural z), t))) s).0
  in_range_or_not true z s f = tt
  in_range_or_not false z s f = f refl

  in_range : (z : ℤ) (s : State) → IfThere IsLength (length_in_range cx z s).0
  unfolding length_in_range
  in_range z s = in_range_or_not (int_lt z (pos 1) || int_lt (pos 65536) z) z s (λ is. (
    above_zero z (left_false (int_lt z (pos 1)) (int_lt (pos 65536) z) is),
    few z (right_false (int_lt z (pos 1)) (int_lt (pos 65536) z) is),
  ))

  value_is_length : (o : Option ℤ) (s : State) → IfThere IsLength (value_length cx o s).0
  value_is_length None s = tt
  value_is_length (Some z) s = in_range z s

  is_length : (t : Typed) (s : State) → IfThere IsLength (length_of cx t s).0
  is_length typed.Broken s = tt
  is_length typed.Spoiled s = tt
  is_length (typed.Value v) s = tt
  is_length (typed.This class remote) s = tt
  is_length (typed.Constant term value) s = value_is_length value s
  is_length (typed.Place p) s = tt
  is_length (typed.Array p n) s = tt
  is_length (typed.Object o) s = tt

  known_is_length : (n : Option ℕ) → IfThere IsLength n → IsLength (known_length n)
  known_is_length None p = (omega arith, omega arith)
  known_is_length (Some n) p = p

  array_is_length : (e : Expr) (s : State) → IsLength (known_length (array_length cx e s).0)
  unfolding array_length
  array_is_length e s = known_is_length _ (is_length (expr cx e s).0 (expr cx e s).1)

  -- ---- a field that is read without a broken rule

  pub by_shape : (x : Shape) (d : Declared) (n : Option ℕ) (s : State) → Quiet (arrayed_by x cx d n s).1 → Quiet s
  by_shape (shape.Object class) d n s q = absurd (not_empty s.broken _ q.0)
  by_shape shape.Cell d n s q = q
  by_shape (shape.Array m) d n s q = q

  with_length_clean : (d : Declared) (o : Option Expr) (s : State) → Quiet (with_length cx d o s).1 → Clean s
  unfolding arrayed
  with_length_clean d None s q = q.0
  with_length_clean d (Some e) s q =
      let n = array_length cx e s in
      let quiet = by_shape d.shape d n.0 n.1 q in
      (((array_length_runs no_functions 0 no_types ⊥ (n.1).made (n.1).made 0 [] [] cx (λ x. absurd x) (λ x. absurd x) e).run s (quiet_ends n.1 quiet)).0).0

  pub typed_clean : (d : Decl) (s : State) → Quiet (field cx d s).1 → Clean (typed_as role.Field cx d.ty s).1
  unfolding slot
  typed_clean d s q = let t = typed_as role.Field cx d.ty s in with_length_clean t.0 d.length t.1 q

field_shape : (x : Shape) → ShapeFits role.Field x → IsFieldShape x
field_shape shape.Cell p = tt
field_shape (shape.Array n) p = p
field_shape (shape.Object class) p = absurd (true≢false (sym p))

module _ (b : Context) (no_classes : b.tables.classes ≡ []) where
  arrayed_known : (x : Shape) (d : Declared) (e : Expr) (n : Option ℕ) (s : State) → d.shape ≡ x → IsLength (known_length n) → DeclaredFits role.Field d
      → IsCellType (arrayed_by x b d n s).0.ty × IsFieldShape (arrayed_by x b d n s).0.shape
  arrayed_known shape.Cell d e n s is l f = (f.0, l)
  arrayed_known (shape.Array m) d e n s is l f = (f.0, l)
  arrayed_known (shape.Object class) d e n s is l f = absurd (true≢false (sym (subst (ShapeFits role.Field) is f.1)))

  with_length_known : (d : Declared) (o : Option Expr) (s : State) → DeclaredFits role.Field d
      → IsCellType (with_length b d o s).0.ty × IsFieldShape (with_length b d o s).0.shape
  unfolding arrayed
  with_length_known d None s f = (f.0, field_shape d.shape f.1)
  with_length_known d (Some e) s f = arrayed_known d.shape d e (array_length b e s).0 (array_length b e s).1 refl (array_is_length b e s) f

  pub field_known : (cx : Context) (d : Decl) (s : State) (o : ℕ) → cx.names ≡ b.names → Quiet (field cx d s).1 → EntryKnown (entry.Field (field_of b d) o)
  unfolding slot
  field_known cx d s o names q =
      let clean = typed_clean cx d s q in
      let t = typed_as role.Field b d.ty nothing_yet in
      with_length_known t.0 d.length t.1
      (subst (DeclaredFits role.Field) (typed_same cx b names no_classes role.Field d.ty s nothing_yet clean) (typed_fits cx role.Field d.ty s clean))

  -- ---- a constructor

  pub params_in_known : (cx : Context) (remote : Bool) (ps : List Param) (s : State) → cx.names ≡ b.names → Quiet (params_in cx remote ps s).1
      → AllCellTypes (param_types b ps)
  unfolding param_in
  params_in_known cx remote [] s names q = tt
  params_in_known cx remote (p ∷ ps) s names q =
      let d = param cx false p s in
      let after = (param_in cx remote p s).1 in
      let quiet = params_in_quiet cx remote ps after q in
      let clean : Clean d.1 = subst Clean (note_kept (at_line cx p.line) _ _ d.1 quiet.0) quiet.0 in
      let fits = param_type_fits (at_line cx p.line) false p s clean in (
        subst IsCellType (sym (param_same b no_classes (at_line cx p.line) false p s names clean ∙ parameter_value d.0 fits)) fits.0,
        params_in_known cx remote ps after names q,
      )

  pub constructor_known : (cx : Context) (class : ClassDecl) (name : Name) (params : List Param) (body : List Stmt) (line : ℕ) (s : State) → cx.names ≡ b.names
      → Quiet (constructor cx class name params body line s).1 → AllCellTypes (param_types b params)
  unfolding constructor_at
  constructor_known cx class name params body line s names q =
      let here = at_line (in_constructor cx) line in
      params_in_known here class.remote params _ names (sets_quiet here [] body _ q)

  -- ---- the members of a class

  pub members_known : (cx : Context) (class : ClassDecl) (d : Done) (sh : ClassShape) (ms : List Member) (s : State) (at f : ℕ) → cx.names ≡ b.names
      → EachOf ProperMember ms → Quiet (read_members cx class d sh ms s).1 → EachOf EntryKnown (members_from b at f ms)
  unfolding field_member function_member
  members_known cx class d sh [] s at f names p q = tt
  members_known cx class d sh (member.Field x ∷ ms) s at f names p q =
      let w = member_by (member.Field x) cx class d sh s in
      let quiet = members_quiet cx class (w.0).0 (w.0).1 ms w.1 p.1 q in (
        field_known (at_line cx x.line) x (begin s).1 at names quiet,
        members_known cx class (w.0).0 (w.0).1 ms w.1 (at + width (field_of b x).shape) f names p.1 q,
      )
  members_known cx class d sh (member.Func x ∷ ms) s at f names p q =
      let w = member_by (member.Func x) cx class d sh s in (tt, members_known cx class (w.0).0 (w.0).1 ms w.1 at (f + 1) names p.1 q)
  members_known cx class d sh (member.Build name params body line ∷ ms) s at f names p q =
      let w = member_by (member.Build name params body line) cx class d sh s in members_known cx class (w.0).0 (w.0).1 ms w.1 at f names p.1 q

  pub makers_known : (cx : Context) (class : ClassDecl) (d : Done) (sh : ClassShape) (ms : List Member) (s : State) → cx.names ≡ b.names
      → EachOf ProperMember ms → Quiet (read_members cx class d sh ms s).1 → AllCellTypes (constructor_types b ms)
  makers_known cx class d sh [] s names p q = tt
  makers_known cx class d sh (member.Field x ∷ ms) s names p q =
      let w = member_by (member.Field x) cx class d sh s in makers_known cx class (w.0).0 (w.0).1 ms w.1 names p.1 q
  makers_known cx class d sh (member.Func x ∷ ms) s names p q =
      let w = member_by (member.Func x) cx class d sh s in makers_known cx class (w.0).0 (w.0).1 ms w.1 names p.1 q
  makers_known cx class d sh (member.Build name params body line ∷ ms) s names p q =
      let w = member_by (member.Build name params body line) cx class d sh s in
      constructor_known cx class name params body line s names (members_quiet cx class (w.0).0 (w.0).1 ms w.1 p.1 q)

-- ---- the classes of a file

abbrev pub ClassKnown : Class → Type 0
ClassKnown k = AllCellTypes k.constructor × EachOf EntryKnown k.members

module _ (names : NameTables) (t bare : Tables) (no_classes : bare.classes ≡ []) where
  pub classes_known : (k c f : ℕ) (d : Done) (xs : List Item) (s : State) → EachOf ProperItem xs
      → Quiet (items_from names t (record { constants = k; classes = c; done = d }) xs s).1 → EachOf ClassKnown (classes_from names bare k c f xs)
  unfolding after_constant after_class after_function class_item function_item
  classes_known k c f d [] s p q = tt
  classes_known k c f d (item.Const name value line ∷ xs) s p q =
      let w = after_constant names t (record { constants = k; classes = c; done = d }) value line s in
      classes_known w.0.constants w.0.classes f w.0.done xs w.1 p.1 q
  classes_known k c f d (item.Class class ∷ xs) s p q =
      let w = after_class names t (record { constants = k; classes = c; done = d }) class s in
      let cx = outside names t k (Some (class_id c)) class.line in
      let b = outside names bare k (Some (record { 0 = c })) class.line in
      let quiet = items_quiet names t w.0.constants w.0.classes w.0.done xs w.1 p.1 q in (
        (
          makers_known b no_classes cx class d no_members class.members s refl p.0 quiet,
          members_known b no_classes cx class d no_members class.members s 0 f refl p.0 quiet,
        ),
        classes_known w.0.constants w.0.classes (after_methods f class.members) w.0.done xs w.1 p.1 q,
      )
  classes_known k c f d (item.Func x ∷ xs) s p q =
      let w = after_function names t (record { constants = k; classes = c; done = d }) x s in
      classes_known w.0.constants w.0.classes (f + 1) w.0.done xs w.1 p.1 q
