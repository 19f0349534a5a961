-- The cells of a class are those that the tables have.
use Rattle.std.proofs.Common.{◌≡◌, ℕ, ◌+◌, true, List, [], ◌∷◌, ◌++◌, map, Option, Some, None, refl, sym, ap, ◌∙◌, append-nil}
use Rattle.std.proofs.lemmas.Bool.{false≢true}
use Rattle.core_types.specs.Types.{Types}
use Rattle.core_types.specs.Typing.{Scope}
use Rattle.cc_ops.specs.declared.shape.ClassShape.{ClassShape}
use Rattle.cc_declared.specs.declared.role.Role.TheVariants as role
use Rattle.cc_declared.specs.Slots.{typed_as, with_length, arrayed, slot, field}
use Rattle.cc_elaboration.specs.Statements.{at_line}
use Rattle.cc_functions.specs.declared.done.Done.{Done}
use Rattle.cc_functions.specs.Constructors.{constructor_at}
use Rattle.cc_functions.specs.Functions.{begin}
use Rattle.cc_functions.specs.Items.{run_of, field_member, function_member, member_by, members_from as read_members}
use Rattle.cc_scopes.specs.declared.state.State.{State}
use Rattle.cc_scopes.specs.declared.types.Declared.{Declared}
use Rattle.cc_scopes.specs.Elab.{nothing_yet}
use Rattle.cc_scopes.specs.Scope.{Context}
use Rattle.cc_tables.specs.Tables.{width, field_of, members_from}
use Rattle.cc_typing.specs.Whole.{array_length}
use Rattle.cc_tree.specs.declared.declarations.ClassDecl.{ClassDecl}
use Rattle.cc_tree.specs.declared.declarations.Member.{Member}
use Rattle.cc_tree.specs.declared.declarations.Member.TheVariants as member
use Rattle.cc_tree.specs.declared.expressions.Expr.{Expr}
use Rattle.cc_tree.specs.declared.statements.Decl.{Decl}
use Rattle.cc_source.proofs.CleanLaws.{members_clean}
use Rattle.cc_source.proofs.Fits.{Clean}
use Rattle.cc_shared.proofs.ConstantLaws.{IsBare}
use Rattle.cc_shared.proofs.SameTypes.{HasLength, slot_same}
use Rattle.cc_shared.proofs.CleanLaws.{typed_kept}
use Rattle.cc_shared.proofs.FunctionLaws.{slice_mapped}
use Rattle.source_types.specs.TypesOf.{target_of}
use Rattle.source_types.specs.Reading.{IsThere, Stands}
use Rattle.source_types.proofs.CleanEnds.{free, clean_ends, no_program, no_world}
use Rattle.source_types.proofs.ClassTables.{by_shape, typed_clean}
use Rattle.source_types.proofs.ExpressionLaws.{array_length_runs}
use Rattle.source_types.proofs.FunctionLaws.{At}
use Rattle.source_types.proofs.LengthLaws.{IsLength}
use Rattle.source_types.proofs.TypeTables.{fields_of}

append_assoc : {A : Type 0} (xs ys zs : List A) → (xs ++ ys) ++ zs ≡ xs ++ (ys ++ zs)
append_assoc [] ys zs = refl
append_assoc (x ∷ xs) ys zs = ap (λ l. x ∷ l) (append_assoc xs ys zs)

module _ (y : Types) (cx : Context) (this : Option ℕ) (at : At y cx this) where
  length_there : (o : Option ℕ) → IsThere IsLength o → (k : ℕ) × (o ≡ Some k)
  length_there None p = absurd p
  length_there (Some k) p = (k, refl)

  -- a length that is read without a broken rule is one
  has_length : (line : ℕ) (d : Declared) (o : Option Expr) (s : State) → s.locals ≡ [] → Clean (with_length (at_line cx line) d o s).1
      → HasLength (at_line cx line) o s
  unfolding arrayed
  has_length line d None s none q = tt
  has_length line d (Some e) s none q =
      let here = at_line cx line in
      let n = array_length here e s in
      let quiet = by_shape here d.shape d n.0 n.1 q in
      let types : Scope = record { this = this; vars = map target_of (n.1).made; returns = None; waits = true } in
      let stands : Stands no_program y types (free (n.1).made) here = record {
        matches = at.matches;
        this = at.this_is;
        constants = at.constants;
        functions = at.functions;
        waits = refl;
        calm = λ f g is c. absurd (false≢true c);
      } in
      let law = (array_length_runs no_program y no_world [] types (Unit {0}) (free (n.1).made) (n.1).made [] here (λ u. stands)
      (λ u j x is. slice_mapped target_of (n.1).made j x is) e).run s (clean_ends n.1 quiet) in
      length_there n.0 ((law.1 tt (none, tt, tt)).1)

  module _ (b : Context) (line : ℕ) (bare : IsBare (at_line cx line) b) where
    -- a field is what the tables have
    field_same : (d : Decl) (s : State) → s.locals ≡ [] → Clean (field (at_line cx line) d s).1 → (field (at_line cx line) d s).0 ≡ field_of b d
    unfolding slot
    field_same d s none q =
        let here = at_line cx line in
        let t = typed_as role.Field here d.ty s in
        let clean = typed_clean here d s q in
        let locals : (t.1).locals ≡ [] = ap (λ z. z.locals) (typed_kept here role.Field d.ty s clean) ∙ none in
        slot_same here b bare role.Field d s nothing_yet refl clean (has_length line t.0 d.length t.1 locals q)

  -- ---- the members of a class

  module _ (b : Context) (class : ClassDecl) (bare : (line : ℕ) → IsBare (at_line cx line) b) where
    pub cells_same : (d : Done) (sh : ClassShape) (ms : List Member) (s : State) (o f : ℕ) → Clean (read_members cx class d sh ms s).1
        → (read_members cx class d sh ms s).0.1.cells ≡ sh.cells ++ map run_of (fields_of (members_from b o f ms))
    unfolding field_member function_member constructor_at
    cells_same d sh [] s o f q = sym (append-nil sh.cells)
    cells_same d sh (member.Field x ∷ ms) s o f q =
        let w = member_by (member.Field x) cx class d sh s in
        let t = (field (at_line cx x.line) x (begin s).1).0 in
        let quiet = members_clean cx class (w.0).0 (w.0).1 ms w.1 q in
        let rest = fields_of (members_from b (o + width (field_of b x).shape) f ms) in
        cells_same (w.0).0 (w.0).1 ms w.1 (o + width (field_of b x).shape) f q
        ∙ (append_assoc sh.cells (run_of t ∷ []) (map run_of rest)
        ∙ ap (λ z. sh.cells ++ (run_of z ∷ map run_of rest)) (field_same b x.line (bare x.line) x (begin s).1 refl quiet))
    cells_same d sh (member.Func x ∷ ms) s o f q =
        let w = member_by (member.Func x) cx class d sh s in cells_same (w.0).0 (w.0).1 ms w.1 o (f + 1) q
    cells_same d sh (member.Build name params body line ∷ ms) s o f q =
        let w = member_by (member.Build name params body line) cx class d sh s in cells_same (w.0).0 (w.0).1 ms w.1 o f q
