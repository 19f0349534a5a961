-- A constructor's assignments have the types of the class.
use Rattle.std.proofs.Common.{◌≡◌, ℕ, ◌+◌, ◌<◌, Bool, true, false, List, [], ◌∷◌, map, Option, Some, None, refl, ap, subst, ◌∙◌}
use Rattle.std.specs.Prelude.{slice_get}
use Rattle.std.proofs.lemmas.Option.{none-some}
use Rattle.cc_core.specs.declared.expression.Expression.{Expression, out-Expression}
use Rattle.cc_core.specs.declared.expression.Expression.TheOpen.{Expression-F}
use Rattle.cc_core.specs.Core as core
use Rattle.cc_core.specs.Names as core_names
use Rattle.cc_elaboration.specs.declared.assignments.Assignment.{Assignment}
use Rattle.cc_elaboration.specs.Assignments.{assignment}
use Rattle.cc_elaboration.specs.Statements.{at_line}
use Rattle.cc_functions.specs.Builds.{build_of, own_offset, member_set, element_set, set_by as set_layer, set_of, names_own}
use Rattle.cc_functions.specs.Constructors.{set_or_refused, set_if, assigned_set, assigned, refused, set_by, set, with_set, sets_from}
use Rattle.cc_ops.specs.Classes as classes
use Rattle.cc_ops.specs.Shapes.{expr_of, set_of as shape_set}
use Rattle.cc_ops.specs.declared.build.BuildExpr.{BuildExpr}
use Rattle.cc_ops.specs.declared.build.BuildSet.{BuildSet}
use Rattle.cc_scopes.specs.declared.state.Local.{Local}
use Rattle.cc_scopes.specs.declared.state.State.{State}
use Rattle.cc_scopes.specs.declared.types.Declared.{Declared}
use Rattle.cc_scopes.specs.Scope.{Context}
use Rattle.cc_source.proofs.CleanLaws.{sets_clean}
use Rattle.cc_source.proofs.Fits.{Clean}
use Rattle.cc_shared.proofs.CleanLaws.{AllParameters}
use Rattle.cc_shared.proofs.FunctionLaws.{slice_mapped}
use Rattle.cc_shared.proofs.Proper.{Layer, layer, EachOf}
use Rattle.cc_shared.proofs.QuietLaws.{assigned_set_kept}
use Rattle.cc_shared.proofs.SetLaws.{of_layer, rolled_index, own_term}
use Rattle.cc_tree.specs.declared.statements.Stmt.{Stmt, out-Stmt}
use Rattle.cc_tree.specs.declared.statements.StmtKind.TheOpen.{StmtKind-F}
use Rattle.core_types.specs.Programs.{IsBuilt, IsSetAt}
use Rattle.core_types.specs.Types.{ValueType, AnInt, Pointer, Target, Holds, Types, class_types, member, IsCell}
use Rattle.core_types.specs.Typing.{Scope, Gives}
use Rattle.core_types.specs.Values.{World}
use Rattle.source_types.specs.TypesOf.{value_type, target_of}
use Rattle.source_types.specs.Reading.{IsThere, Stands, LocalsFit}
use Rattle.source_types.proofs.AgainLaws.{read_again}
use Rattle.source_types.proofs.AssignmentLaws.{AssignmentFits, assignment_runs}
use Rattle.source_types.proofs.BuiltLaws.{built_from, own_cell, own_elements}
use Rattle.source_types.proofs.CallLaws.{Fitting}
use Rattle.source_types.proofs.CleanEnds.{free, clean_ends, other_never}
use Rattle.source_types.proofs.Fits.{Values}
use Rattle.source_types.proofs.TypeTables.{some_inside}

-- an assignment of a constructor of class c has the types of the class
abbrev pub SetFits : Types → ℕ → BuildSet → Type 0
SetFits y c x = (u : ValueType) × IsSetAt y c (shape_set x).index (shape_set x) u × Gives (IsBuilt (class_types y c).params (shape_set x).value) u

module _ (program : core.Program) (y : Types) (world : World) (home : core_names.Name) (here : Scope) (waiting : true ≡ here.waits) (ps : List Declared) (fits : AllParameters ps)
    (vars : here.vars ≡ map target_of ps) (c : ℕ) (this : here.this ≡ Some c)
    (made : (k : ℕ) (d : Declared) → slice_get ps k ≡ Some d → slice_get (class_types y c).params k ≡ Some (value_type d.ty)) where
  abbrev Puts : classes.BuildExpr → ValueType → Type 0
  Puts e u = Gives (IsBuilt (class_types y c).params e) u

  member_fits : (o : Option ℕ) (v : Option BuildExpr) (x : BuildSet) (u : ValueType) → member_set o v ≡ Some x
      → ((k : ℕ) → o ≡ Some k → (sync : Bool) × (member y c k ≡ Some (Holds sync u)))
      → ((w : BuildExpr) → v ≡ Some w → Puts (expr_of w) u) → SetFits y c x
  member_fits None v x u is f g = absurd (none-some x is)
  member_fits (Some k) None x u is f g = absurd (none-some x is)
  member_fits (Some k) (Some w) x u is f g = subst (SetFits y c) (some_inside _ x is) (u, f k refl, g w refl)

  element_fits : (o : Option ℕ) (n : ℕ) (i v : Option BuildExpr) (x : BuildSet) (u : ValueType) → element_set o n i v ≡ Some x
      → ((k : ℕ) (j : BuildExpr) → o ≡ Some k → i ≡ Some j
      → IsBuilt (class_types y c).params (expr_of j) AnInt × (sync : Bool) × ((m : ℕ) → m < n → member y c (k + m) ≡ Some (Holds sync u)))
      → ((w : BuildExpr) → v ≡ Some w → Puts (expr_of w) u) → SetFits y c x
  element_fits None n i v x u is f g = absurd (none-some x is)
  element_fits (Some k) n None v x u is f g = absurd (none-some x is)
  element_fits (Some k) n (Some j) None x u is f g = absurd (none-some x is)
  element_fits (Some k) n (Some j) (Some w) x u is f g = subst (SetFits y c) (some_inside _ x is) (u, f k j refl refl, g w refl)

  layer_fits : (a : Expression) (w : Expression-F Expression) (v : Option BuildExpr) (x : BuildSet) (remote : Bool) (q : Target) (sync : Bool) (u : ValueType)
      → out-Expression a ≡ w → set_layer w a v ≡ Some x → Values program y world home here a (Pointer remote q) → IsCell y q sync u
      → ((b : BuildExpr) → v ≡ Some b → Puts (expr_of b) u) → SetFits y c x
  layer_fits a (Expression-F.Index l n i) v x distant q sync u out is f cell g = element_fits (own_offset l) n (build_of i) v x u is
      (λ k j own index. let e = own_elements program y world home here c this a l i n k distant q sync u (of_layer a _ _ out (rolled_index l n i)) (own_term l k own) f cell in
      (built_from program y world home here ps fits vars (class_types y c).params made 1048576 i j AnInt index e.0, sync, e.1)) g
  layer_fits a (Expression-F.Push n) v x distant q sync u out is f cell g = member_fits (own_offset a) v x u is (λ k own. (sync, own_cell program y world home here c this a k distant q sync u (own_term a k own) f cell)) g
  layer_fits a Expression-F.This v x distant q sync u out is f cell g = member_fits (own_offset a) v x u is (λ k own. (sync, own_cell program y world home here c this a k distant q sync u (own_term a k own) f cell)) g
  layer_fits a (Expression-F.Variable k) v x distant q sync u out is f cell g = member_fits (own_offset a) v x u is (λ k own. (sync, own_cell program y world home here c this a k distant q sync u (own_term a k own) f cell)) g
  layer_fits a (Expression-F.Member l o) v x distant q sync u out is f cell g = member_fits (own_offset a) v x u is (λ k own. (sync, own_cell program y world home here c this a k distant q sync u (own_term a k own) f cell)) g
  layer_fits a (Expression-F.At l m) v x distant q sync u out is f cell g = member_fits (own_offset a) v x u is (λ k own. (sync, own_cell program y world home here c this a k distant q sync u (own_term a k own) f cell)) g
  layer_fits a (Expression-F.Load remote l) v x distant q sync u out is f cell g = member_fits (own_offset a) v x u is (λ k own. (sync, own_cell program y world home here c this a k distant q sync u (own_term a k own) f cell)) g
  layer_fits a (Expression-F.Unary op l) v x distant q sync u out is f cell g = member_fits (own_offset a) v x u is (λ k own. (sync, own_cell program y world home here c this a k distant q sync u (own_term a k own) f cell)) g
  layer_fits a (Expression-F.Binary op l m) v x distant q sync u out is f cell g = member_fits (own_offset a) v x u is (λ k own. (sync, own_cell program y world home here c this a k distant q sync u (own_term a k own) f cell)) g
  layer_fits a (Expression-F.And l m) v x distant q sync u out is f cell g = member_fits (own_offset a) v x u is (λ k own. (sync, own_cell program y world home here c this a k distant q sync u (own_term a k own) f cell)) g
  layer_fits a (Expression-F.Or l m) v x distant q sync u out is f cell g = member_fits (own_offset a) v x u is (λ k own. (sync, own_cell program y world home here c this a k distant q sync u (own_term a k own) f cell)) g
  layer_fits a (Expression-F.New kind k) v x distant q sync u out is f cell g = member_fits (own_offset a) v x u is (λ k own. (sync, own_cell program y world home here c this a k distant q sync u (own_term a k own) f cell)) g
  layer_fits a (Expression-F.NewObject remote n es) v x distant q sync u out is f cell g = member_fits (own_offset a) v x u is (λ k own. (sync, own_cell program y world home here c this a k distant q sync u (own_term a k own) f cell)) g
  layer_fits a (Expression-F.Call h n es) v x distant q sync u out is f cell g = member_fits (own_offset a) v x u is (λ k own. (sync, own_cell program y world home here c this a k distant q sync u (own_term a k own) f cell)) g

  set_fits : (a : Assignment) (x : BuildSet) (q : Target) → Values program y world home here a.place.address (Pointer a.place.remote q)
      → IsCell y q a.place.sync (value_type a.place.ty) → Fitting program y world home here a.value (value_type a.place.ty) → set_of a ≡ Some x → SetFits y c x
  set_fits a x q f cell v is =
      layer_fits a.place.address (out-Expression a.place.address) (build_of a.value) x a.place.remote q a.place.sync (value_type a.place.ty) refl is f cell
      (λ w built. (v.0, built_from program y world home here ps fits vars (class_types y c).params made 1048576 a.value w v.0 built v.1, v.2))

  -- ---- the assignments of a constructor, where its parameters are in scope

  given_set : (o : Option BuildSet) (cx : Context) (s : State) (x : BuildSet) → (set_or_refused o cx s).0 ≡ Some x → o ≡ Some x
  unfolding refused
  given_set None cx s x is = absurd (none-some x is)
  given_set (Some z) cx s x is = is

  own_set : (b : Bool) (a : Assignment) (x : BuildSet) → set_if b a ≡ Some x → set_of a ≡ Some x
  own_set true a x is = is
  own_set false a x is = absurd (none-some x is)

  module _ (cx : Context) (stands : (line : ℕ) (made : List Declared) → Stands program y here (free made) (at_line cx line)) (ls : List Local) (known : LocalsFit ps ls) where
    vars_are : (k : ℕ) (d : Declared) → slice_get ps k ≡ Some d → slice_get here.vars k ≡ Some (target_of d)
    vars_are k d is = ap (λ l. slice_get l k) vars ∙ slice_mapped target_of ps k d is

    fine_set : (es : List Declared) (line : ℕ) (a : Option Assignment) (b : Bool) (s : State) (x : BuildSet)
        → IsThere (AssignmentFits program y world home here (Unit {0}) (free es) ps ls (at_line cx line) (λ u. stands line es) (λ u. vars_are)
        (λ u. waiting) (read_again (at_line cx line))) a
        → (assigned_set a b (at_line cx line) s).0 ≡ Some x → SetFits y c x
    fine_set es line None b s x f is = absurd f
    fine_set es line (Some a) b s x f is =
        set_fits a x (f.0.0).target (f.0.0).leads (f.0.0).cell f.1 (own_set b a x (given_set (set_if b a) (at_line cx line) s x is))

    abbrev Standing : State → Type 0
    Standing s = s.locals ≡ ls

    one_set_by : (w : Layer) (b : Stmt) (s : State) → Standing s → Clean (set_by w cx b s).1
        → Standing (set_by w cx b s).1 × ((x : BuildSet) → (set_by w cx b s).0 ≡ Some x → SetFits y c x)
    unfolding assigned
    one_set_by (StmtKind-F.Assign target op e) b s here' q =
        let line = (out-Stmt b).line in
        let a = assignment (at_line cx line) target op e s in
        let same = assigned_set_kept (at_line cx line) a.0 (names_own target) a.1 q in
        let quiet : Clean a.1 = subst Clean same q in
        let law = ((assignment_runs program y world home here (Unit {0}) (free (a.1).made) ps ls (at_line cx line) (λ u. stands line (a.1).made) (λ u. vars_are)
        (λ u. waiting) (read_again (at_line cx line)) target op e).run s (clean_ends a.1 quiet)).1 tt (here', known, tt) in
        (ap (λ z. z.locals) same ∙ (law.0).0, λ x is. fine_set (a.1).made line a.0 (names_own target) a.1 x law.1 is)
    one_set_by (StmtKind-F.Block ss) b s here' q = absurd (other_never cx b s q)
    one_set_by StmtKind-F.Empty b s here' q = absurd (other_never cx b s q)
    one_set_by (StmtKind-F.Declare d) b s here' q = absurd (other_never cx b s q)
    one_set_by (StmtKind-F.Call e) b s here' q = absurd (other_never cx b s q)
    one_set_by (StmtKind-F.Print xs) b s here' q = absurd (other_never cx b s q)
    one_set_by (StmtKind-F.If c' first other) b s here' q = absurd (other_never cx b s q)
    one_set_by (StmtKind-F.While c' x) b s here' q = absurd (other_never cx b s q)
    one_set_by (StmtKind-F.For first c' after x) b s here' q = absurd (other_never cx b s q)
    one_set_by StmtKind-F.Break b s here' q = absurd (other_never cx b s q)
    one_set_by StmtKind-F.Continue b s here' q = absurd (other_never cx b s q)
    one_set_by (StmtKind-F.Par bs) b s here' q = absurd (other_never cx b s q)
    one_set_by (StmtKind-F.ParFor name start c' after x) b s here' q = absurd (other_never cx b s q)
    one_set_by (StmtKind-F.Spawn e) b s here' q = absurd (other_never cx b s q)
    one_set_by (StmtKind-F.Return e) b s here' q = absurd (other_never cx b s q)

    one_set : (b : Stmt) (s : State) → Standing s → Clean (set cx b s).1 → Standing (set cx b s).1 × ((x : BuildSet) → (set cx b s).0 ≡ Some x → SetFits y c x)
    unfolding set
    one_set b s here' q = one_set_by (layer b) b s here' q

    with_set_fits : (done : List BuildSet) (o : Option BuildSet) → EachOf (SetFits y c) done → ((x : BuildSet) → o ≡ Some x → SetFits y c x) → EachOf (SetFits y c) (with_set done o)
    with_set_fits done None p f = p
    with_set_fits [] (Some x) p f = (f x refl, tt)
    with_set_fits (z ∷ done) (Some x) p f = (p.0, with_set_fits done (Some x) p.1 f)

    pub all_sets : (done : List BuildSet) (bs : List Stmt) (s : State) → Standing s → EachOf (SetFits y c) done → Clean (sets_from cx done bs s).1
        → EachOf (SetFits y c) (sets_from cx done bs s).0
    all_sets done [] s here' p q = p
    all_sets done (b ∷ bs) s here' p q =
        let x = set cx b s in
        let quiet = sets_clean cx (with_set done x.0) bs x.1 q in
        let one = one_set b s here' quiet in
        all_sets (with_set done x.0) bs x.1 one.0 (with_set_fits done x.0 p one.1) q
