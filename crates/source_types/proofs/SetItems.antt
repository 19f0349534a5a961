-- What the constructors of a program assign has the types of their classes.
use Rattle.std.proofs.Common.{◌≡◌, ℕ, suc, Bool, true, false, List, [], ◌∷◌, ◌++◌, length, map, Some, None, refl, sym, ap, subst, ◌∙◌, arith, append-nil, zero-add}
use Rattle.std.specs.Prelude.{slice_get}
use Rattle.core_types.specs.Types.{Types, class_types}
use Rattle.core_types.specs.Typing.{Scope}
use Rattle.std.proofs.lemmas.Bool.{false≢true}
use Rattle.cc_names.specs.Group.{constructor_lines, second_constructors}
use Rattle.cc_names.specs.Table.{Name}
use Rattle.cc_names.specs.declared.broken.Broken.TheVariants.{Rule}
use Rattle.cc_names.specs.declared.rule.StaticRule.TheVariants.{NameTwice}
use Rattle.cc_ops.specs.declared.shape.ClassShape.{ClassShape}
use Rattle.cc_declared.specs.Slots.{value_type as declared_type}
use Rattle.cc_elaboration.specs.Statements.{at_line}
use Rattle.cc_functions.specs.declared.done.Done.{Done}
use Rattle.cc_functions.specs.Constructors.{param_in, params_in, in_constructor, constructor_at, constructor}
use Rattle.cc_functions.specs.Functions.{begin, param}
use Rattle.cc_functions.specs.Items.{field_member, function_member, member_by, members_from as read_members}
use Rattle.cc_scopes.specs.declared.state.Local.{Local}
use Rattle.cc_scopes.specs.declared.state.State.{State}
use Rattle.cc_scopes.specs.declared.types.Declared.{Declared}
use Rattle.cc_scopes.specs.Scope.{Context}
use Rattle.cc_tables.specs.Tables.{param_types, constructor_types}
use Rattle.cc_tree.specs.declared.declarations.ClassDecl.{ClassDecl}
use Rattle.cc_tree.specs.declared.declarations.Member.{Member}
use Rattle.cc_tree.specs.declared.declarations.Member.TheVariants as member
use Rattle.cc_tree.specs.declared.declarations.Param.{Param}
use Rattle.cc_tree.specs.declared.statements.Stmt.{Stmt}
use Rattle.cc_source.proofs.CleanLaws.{members_clean, sets_clean, params_in_clean}
use Rattle.cc_source.proofs.Fits.{Clean}
use Rattle.cc_shared.proofs.Proper.{EachOf}
use Rattle.cc_shared.proofs.CleanLaws.{AllParameters, AreNumbered, assoc, one_longer, note_kept, param_is, param_type_fits}
use Rattle.cc_shared.proofs.FunctionLaws.{slice_mapped, parameter_value}
use Rattle.cc_shared.proofs.KnownLaws.{param_same}
use Rattle.source_types.specs.TypesOf.{value_type, target_of}
use Rattle.source_types.proofs.BuiltLaws.{all_got}
use Rattle.source_types.proofs.CleanEnds.{no_program, no_world}
use Rattle.source_types.proofs.ConstructorLaws.{SetFits, all_sets}
use Rattle.source_types.proofs.FunctionLaws.{At, params_known}

-- ---- the parameters of a constructor

pub record InDone (b : Context) (ps : List Param) (part : ℕ) (s t : State) : Type 0 where
  pub new : List Declared
  pub variables : List Local
  pub made : t.made ≡ s.made ++ new
  pub locals : t.locals ≡ s.locals ++ variables
  pub numbered : AreNumbered part (length s.made) new variables
  pub broken : t.broken ≡ s.broken
  pub fits : AllParameters new
  pub types : param_types b ps ≡ map declared_type new

module _ (b : Context) (no_classes : b.tables.classes ≡ []) where
  params_in_done : (cx : Context) (remote : Bool) (ps : List Param) (s : State) → cx.names ≡ b.names → Clean (params_in cx remote ps s).1
      → InDone b ps cx.part s (params_in cx remote ps s).1
  unfolding param_in
  params_in_done cx remote [] s names e = record {
    new = [];
    variables = [];
    made = sym (append-nil s.made);
    locals = sym (append-nil s.locals);
    numbered = refl;
    broken = refl;
    fits = tt;
    types = refl;
  }
  params_in_done cx remote (p ∷ ps) s names e =
      let d = param cx false p s in
      let after = (param_in cx remote p s).1 in
      let rest = params_in_done cx remote ps after names e in
      let same : after ≡ d.1 = note_kept (at_line cx p.line) _ _ d.1 (sym rest.broken ∙ e) in
      let clean : Clean d.1 = subst Clean same (sym rest.broken ∙ e) in
      let is = param_is cx false p s clean in
      let fits = param_type_fits (at_line cx p.line) false p s clean in
      let made_is : after.made ≡ s.made ++ d.0 ∷ [] = ap (λ z. z.made) (same ∙ is) in
      record {
        new = d.0 ∷ rest.new;
        variables = _ ∷ rest.variables;
        made = rest.made ∙ (ap (λ l. l ++ rest.new) made_is ∙ assoc s.made d.0 rest.new);
        locals = rest.locals ∙ (ap (λ l. l ++ rest.variables) (ap (λ z. z.locals) (same ∙ is)) ∙ assoc s.locals _ rest.variables);
        numbered = (refl, refl, refl, subst (λ k. AreNumbered cx.part k rest.new rest.variables) (ap (λ l. length l) made_is ∙ one_longer s.made d.0) rest.numbered);
        broken = rest.broken ∙ ap (λ z. z.broken) (same ∙ is);
        fits = (fits, rest.fits);
        types = ap (λ t. t ∷ param_types b ps) (param_same b no_classes (at_line cx p.line) false p s names clean) ∙ ap (λ ts. declared_type d.0 ∷ ts) rest.types;
      }

  -- ---- a constructor

  module _ (y : Types) (cx : Context) (c : ℕ) (at : At y cx (Some c)) (names : cx.names ≡ b.names) where
    constructor_sets : (class : ClassDecl) (name : Name) (params : List Param) (body : List Stmt) (line : ℕ) (s : State)
        → Clean (constructor cx class name params body line s).1 → (class_types y c).params ≡ map value_type (param_types b params)
        → EachOf (SetFits y c) (constructor cx class name params body line s).0.sets
    unfolding constructor_at
    constructor_sets class name params body line s q is =
        let inside = at_line (in_constructor cx) line in
        let started = sets_clean inside [] body _ q in
        let noted = params_in_clean inside class.remote params _ started in
        let same = note_kept inside _ _ (begin s).1 noted in
        let done = params_in_done inside class.remote params _ names started in
        let here : Scope = record { this = Some c; vars = map target_of done.new; returns = None; waits = true } in
        let numbered = subst (λ k. AreNumbered 0 k done.new done.variables) (ap (λ l. length l) (ap (λ z. z.made) same)) done.numbered in
        all_sets no_program y no_world [] here refl done.new done.fits refl c refl
        (λ k d got. ap (λ l. slice_get l k) (is ∙ ap (λ ts. map value_type ts) done.types)
        ∙ (slice_mapped value_type (map declared_type done.new) k (declared_type d) (slice_mapped declared_type done.new k d got)
        ∙ ap (λ t. Some (value_type t)) (parameter_value d (all_got done.new k d done.fits got))))
        inside
        (λ n made. record {
          matches = at.matches;
          this = at.this_is;
          constants = at.constants;
          functions = at.functions;
          waits = refl;
          calm = λ f g is c. absurd (false≢true c);
        })
        done.variables
        (params_known done.new 0 done.new done.variables done.fits numbered (λ i d got. ap (λ m. slice_get done.new m) (zero-add i) ∙ got))
        [] body _ (done.locals ∙ ap (λ l. l ++ done.variables) (ap (λ z. z.locals) same)) tt q

    -- ---- the members of a class, of which one at most is a constructor

    sets_kept : (class : ClassDecl) (d : Done) (sh : ClassShape) (ms : List Member) (s : State) → constructor_lines ms ≡ []
        → (read_members cx class d sh ms s).0.1.sets ≡ sh.sets
    unfolding field_member function_member
    sets_kept class d sh [] s one = refl
    sets_kept class d sh (member.Field x ∷ ms) s one = let w = member_by (member.Field x) cx class d sh s in sets_kept class (w.0).0 (w.0).1 ms w.1 one
    sets_kept class d sh (member.Func f ∷ ms) s one = let w = member_by (member.Func f) cx class d sh s in sets_kept class (w.0).0 (w.0).1 ms w.1 one
    sets_kept class d sh (member.Build name params body line ∷ ms) s one =
        let n : suc (length (constructor_lines ms)) ≡ 0 = ap (λ z. length z) one in absurd (omega (arith, n))

    no_more : (ls : List ℕ) → map (Rule NameTwice) ls ≡ [] → ls ≡ []
    no_more [] is = refl
    no_more (l ∷ ls) is = let n : suc (length (map (Rule NameTwice) ls)) ≡ 0 = ap (λ z. length z) is in absurd (omega (arith, n))

    pub members_sets : (class : ClassDecl) (d : Done) (sh : ClassShape) (ms : List Member) (s : State) → Clean (read_members cx class d sh ms s).1
        → sh.sets ≡ [] → second_constructors (constructor_lines ms) ≡ [] → (class_types y c).params ≡ map value_type (constructor_types b ms)
        → EachOf (SetFits y c) (read_members cx class d sh ms s).0.1.sets
    unfolding field_member function_member
    members_sets class d sh [] s q none one is = subst (EachOf (SetFits y c)) (sym none) tt
    members_sets class d sh (member.Field x ∷ ms) s q none one is =
        let w = member_by (member.Field x) cx class d sh s in members_sets class (w.0).0 (w.0).1 ms w.1 q none one is
    members_sets class d sh (member.Func f ∷ ms) s q none one is =
        let w = member_by (member.Func f) cx class d sh s in members_sets class (w.0).0 (w.0).1 ms w.1 q none one is
    members_sets class d sh (member.Build name params body line ∷ ms) s q none one is =
        let w = member_by (member.Build name params body line) cx class d sh s in
        subst (EachOf (SetFits y c)) (sym (sets_kept class (w.0).0 (w.0).1 ms w.1 (no_more (constructor_lines ms) one)))
        (constructor_sets class name params body line s (members_clean cx class (w.0).0 (w.0).1 ms w.1 q) is)
