-- What the constructors of a program assign has the types of their classes.
use Rattle.std.proofs.Common.{◌≡◌, ℕ, suc, ◌+◌, Bool, false, List, [], ◌∷◌, ◌++◌, length, map, Some, refl, sym, ap, subst, ◌∙◌, arith, append-nil, zero-add}
use Rattle.std.specs.Prelude.{slice_get}
use Rattle.cc_core.specs.Types.{ValueType, NoValue, FunctionTypes, Types}
use Rattle.cc_names.specs.Group.{constructor_lines, second_constructors}
use Rattle.cc_names.specs.Table.{Name}
use Rattle.cc_names.specs.declared.broken.Broken.TheVariants.{Rule}
use Rattle.cc_names.specs.declared.rule.StaticRule.TheVariants.{NameTwice}
use Rattle.cc_one_answer.specs.Determinate.{IsBuiltFrom, IsSetAt}
use Rattle.cc_ops.specs.Shapes.{set_of as shape_set}
use Rattle.cc_ops.specs.declared.build.BuildSet.{BuildSet}
use Rattle.cc_ops.specs.declared.shape.ClassShape.{ClassShape}
use Rattle.cc_declared.specs.Slots.{value_type as declared_type}
use Rattle.cc_elaboration.specs.Statements.{at_line}
use Rattle.cc_functions.specs.declared.done.Done.{Done}
use Rattle.cc_functions.specs.Constructors.{param_in, params_in, in_constructor, constructor_at, constructor}
use Rattle.cc_functions.specs.Functions.{begin, param}
use Rattle.cc_functions.specs.Items.{field_member, function_member, member_by, members_from as read_members}
use Rattle.cc_scopes.specs.declared.state.Local.{Local}
use Rattle.cc_scopes.specs.declared.state.State.{State}
use Rattle.cc_scopes.specs.declared.types.Declared.{Declared}
use Rattle.cc_scopes.specs.Scope.{Context}
use Rattle.cc_tables.specs.Tables.{param_types, constructor_types}
use Rattle.cc_tree.specs.declared.declarations.ClassDecl.{ClassDecl}
use Rattle.cc_tree.specs.declared.declarations.Member.{Member}
use Rattle.cc_tree.specs.declared.declarations.Member.TheVariants as member
use Rattle.cc_tree.specs.declared.declarations.Param.{Param}
use Rattle.cc_tree.specs.declared.statements.Stmt.{Stmt}
use Rattle.cc_source.proofs.Fits.{Clean}
use Rattle.cc_shared.proofs.TypesOf.{value_type, target_of, IsCellType}
use Rattle.cc_shared.proofs.Det.{LocalsFit}
use Rattle.cc_shared.proofs.Proper.{EachOf}
use Rattle.cc_shared.proofs.GrammarLaws.{ProperMember}
use Rattle.cc_shared.proofs.CleanLaws.{AllParameters, AreNumbered, assoc, one_longer, note_kept, param_is, param_type_fits}
use Rattle.cc_shared.proofs.FunctionLaws.{slice_mapped, parameter_value}
use Rattle.cc_shared.proofs.KnownLaws.{param_same}
use Rattle.cc_shared.proofs.QuietLaws.{Quiet, members_quiet, sets_quiet, params_in_quiet}
use Rattle.cc_shared.proofs.ItemLaws.{At}
use Rattle.cc_shared.proofs.ConstructorLaws.{all_got, all_sets}

-- ---- the parameters of a constructor

pub record InDone (b : Context) (ps : List Param) (part : ℕ) (s t : State) : Type 0 where
  pub new : List Declared
  pub variables : List Local
  pub made : t.made ≡ s.made ++ new
  pub locals : t.locals ≡ s.locals ++ variables
  pub numbered : AreNumbered part (length s.made) new variables
  pub broken : t.broken ≡ s.broken
  pub fits : AllParameters new
  pub types : param_types b ps ≡ map declared_type new

module _ (b : Context) (no_classes : b.tables.classes ≡ []) where
  params_in_done : (cx : Context) (remote : Bool) (ps : List Param) (s : State) → cx.names ≡ b.names → Clean (params_in cx remote ps s).1
      → InDone b ps cx.part s (params_in cx remote ps s).1
  unfolding param_in
  params_in_done cx remote [] s names e = record {
    new = [];
    variables = [];
    made = sym (append-nil s.made);
    locals = sym (append-nil s.locals);
    numbered = refl;
    broken = refl;
    fits = tt;
    types = refl;
  }
  params_in_done cx remote (p ∷ ps) s names e =
      let d = param cx false p s in
      let after = (param_in cx remote p s).1 in
      let rest = params_in_done cx remote ps after names e in
      let same : after ≡ d.1 = note_kept (at_line cx p.line) _ _ d.1 (sym rest.broken ∙ e) in
      let clean : Clean d.1 = subst Clean same (sym rest.broken ∙ e) in
      let is = param_is cx false p s clean in
      let fits = param_type_fits (at_line cx p.line) false p s clean in
      let made_is : after.made ≡ s.made ++ d.0 ∷ [] = ap (λ z. z.made) (same ∙ is) in
      record {
        new = d.0 ∷ rest.new;
        variables = _ ∷ rest.variables;
        made = rest.made ∙ (ap (λ l. l ++ rest.new) made_is ∙ assoc s.made d.0 rest.new);
        locals = rest.locals ∙ (ap (λ l. l ++ rest.variables) (ap (λ z. z.locals) (same ∙ is)) ∙ assoc s.locals _ rest.variables);
        numbered = (refl, refl, refl, subst (λ k. AreNumbered cx.part k rest.new rest.variables) (ap (λ l. length l) made_is ∙ one_longer s.made d.0) rest.numbered);
        broken = rest.broken ∙ ap (λ z. z.broken) (same ∙ is);
        fits = (fits, rest.fits);
        types = ap (λ t. t ∷ param_types b ps) (param_same b no_classes (at_line cx p.line) false p s names clean) ∙ ap (λ ts. declared_type d.0 ∷ ts) rest.types;
      }

  no_local : (l : Local) (ls : List Local) → l ∷ ls ≡ [] → ⊥
  no_local l ls is = let n : suc (length ls) ≡ 0 = ap (λ z. length z) is in omega (arith, n)

  numbered_known : (all : List Declared) (k : ℕ) (new : List Declared) (ls : List Local) → AllParameters new → AreNumbered 0 k new ls
      → ((i : ℕ) (d : Declared) → slice_get new i ≡ Some d → slice_get all (k + i) ≡ Some d) → LocalsFit all 1 [] ls
  numbered_known all k [] [] fits are has = tt
  numbered_known all k [] (l ∷ ls) fits are has = absurd (no_local l ls are)
  numbered_known all k (d ∷ new) [] fits are has = absurd are
  numbered_known all k (d ∷ new) (l ∷ ls) fits are has =
      let first : k + 0 ≡ k = omega arith in
      let zero_part : l.part ≡ 0 = are.2 in (
        (
          ap (λ i. slice_get all i) (are.0 ∙ sym first) ∙ (has 0 d refl ∙ ap Some (sym are.1)),
          subst (λ z. IsCellType z.ty) (sym are.1) (fits.0).0,
          λ q. let other : l.part ≡ 1 = q in absurd (omega (arith, zero_part, other)),
        ),
        numbered_known all (suc k) new ls fits.1 are.3 (λ i x is. let n : suc k + i ≡ k + suc i = omega arith in ap (λ m. slice_get all m) n ∙ has (suc i) x is),
      )

  -- ---- a constructor

  abbrev pub Canon : Types → ℕ → List ValueType → BuildSet → Type 0
  Canon y c makers x = (u : ValueType) × IsSetAt y c (shape_set x).index (shape_set x) u × IsBuiltFrom makers (shape_set x).value u

  module _ (y : Types) (main : ℕ) (cx : Context) (c : ℕ) (at : At y main cx (Some c)) (names : cx.names ≡ b.names) (makers : List ValueType) where
    constructor_sets : (class : ClassDecl) (name : Name) (params : List Param) (body : List Stmt) (line : ℕ) (s : State)
        → Quiet (constructor cx class name params body line s).1 → makers ≡ map value_type (param_types b params)
        → EachOf (Canon y c makers) (constructor cx class name params body line s).0.sets
    unfolding constructor_at
    constructor_sets class name params body line s q is =
        let inside = at_line (in_constructor cx) line in
        let started = sets_quiet inside [] body _ q in
        let noted = params_in_quiet inside class.remote params _ started in
        let same = note_kept inside _ _ (begin s).1 noted.0 in
        let done = params_in_done inside class.remote params _ names started.0 in
        let made_none = ap (λ z. z.made) same in
        let here : FunctionTypes = record { this = Some c; result = NoValue; params = []; vars = map target_of done.new } in
        let numbered = subst (λ k. AreNumbered 0 k done.new done.variables) (ap (λ l. length l) made_none) done.numbered in
        all_sets y main here done.new done.fits refl makers
        (λ k d got. ap (λ l. slice_get l k) (is ∙ ap (λ ts. map value_type ts) done.types)
        ∙ (slice_mapped value_type (map declared_type done.new) k (declared_type d) (slice_mapped declared_type done.new k d got)
        ∙ ap (λ t. Some (value_type t)) (parameter_value d (all_got done.new k d done.fits got))))
        c refl inside
        (λ n. record { matches = at.matches; this = at.this_is; result = refl; gives = tt; constants = at.constants })
        done.variables
        (numbered_known done.new 0 done.new done.variables done.fits numbered (λ i d got. ap (λ m. slice_get done.new m) (zero-add i) ∙ got))
        [] body _ (done.locals ∙ ap (λ l. l ++ done.variables) (ap (λ z. z.locals) same)) tt q

    -- ---- the members of a class, of which one at most is a constructor

    sets_kept : (class : ClassDecl) (d : Done) (sh : ClassShape) (ms : List Member) (s : State) → constructor_lines ms ≡ []
        → (read_members cx class d sh ms s).0.1.sets ≡ sh.sets
    unfolding field_member function_member
    sets_kept class d sh [] s one = refl
    sets_kept class d sh (member.Field x ∷ ms) s one = let w = member_by (member.Field x) cx class d sh s in sets_kept class (w.0).0 (w.0).1 ms w.1 one
    sets_kept class d sh (member.Func f ∷ ms) s one = let w = member_by (member.Func f) cx class d sh s in sets_kept class (w.0).0 (w.0).1 ms w.1 one
    sets_kept class d sh (member.Build name params body line ∷ ms) s one =
        let n : suc (length (constructor_lines ms)) ≡ 0 = ap (λ z. length z) one in absurd (omega (arith, n))

    no_more : (ls : List ℕ) → map (Rule NameTwice) ls ≡ [] → ls ≡ []
    no_more [] is = refl
    no_more (l ∷ ls) is = let n : suc (length (map (Rule NameTwice) ls)) ≡ 0 = ap (λ z. length z) is in absurd (omega (arith, n))

    pub members_sets : (class : ClassDecl) (d : Done) (sh : ClassShape) (ms : List Member) (s : State) → EachOf ProperMember ms → Quiet (read_members cx class d sh ms s).1
        → sh.sets ≡ [] → second_constructors (constructor_lines ms) ≡ [] → makers ≡ map value_type (constructor_types b ms)
        → EachOf (Canon y c makers) (read_members cx class d sh ms s).0.1.sets
    unfolding field_member function_member
    members_sets class d sh [] s p q none one is = subst (EachOf (Canon y c makers)) (sym none) tt
    members_sets class d sh (member.Field x ∷ ms) s p q none one is =
        let w = member_by (member.Field x) cx class d sh s in members_sets class (w.0).0 (w.0).1 ms w.1 p.1 q none one is
    members_sets class d sh (member.Func f ∷ ms) s p q none one is =
        let w = member_by (member.Func f) cx class d sh s in members_sets class (w.0).0 (w.0).1 ms w.1 p.1 q none one is
    members_sets class d sh (member.Build name params body line ∷ ms) s p q none one is =
        let w = member_by (member.Build name params body line) cx class d sh s in
        subst (EachOf (Canon y c makers)) (sym (sets_kept class (w.0).0 (w.0).1 ms w.1 (no_more (constructor_lines ms) one)))
        (constructor_sets class name params body line s (members_quiet cx class (w.0).0 (w.0).1 ms w.1 p.1 q) is)
