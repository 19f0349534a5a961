-- A constructor's assignments have the types of the class.
use Rattle.std.proofs.Common.{◌≡◌, ℕ, zero, suc, ◌+◌, ◌<◌, Bool, true, false, List, [], ◌∷◌, map, Option, Some, None, refl, sym, ap, subst, ◌∙◌}
use Rattle.std.specs.Prelude.{slice_get}
use Rattle.std.proofs.lemmas.Option.{none-some}
use Rattle.cc_core.specs.declared.expression.Expression.{Expression, out-Expression}
use Rattle.cc_core.specs.declared.expression.Expression.TheOpen.{Expression-F}
use Rattle.cc_core.specs.Core as core
use Rattle.cc_core.specs.Core.{Term}
use Rattle.cc_core.specs.Types.{ValueType, NoValue, AnAddress, Cells, Target, FunctionTypes, Types}
use Rattle.cc_core.specs.View.{term_of}
use Rattle.cc_one_answer.specs.Sorts.{Sort, Valued, variable_sort, member, IsCell}
use Rattle.cc_one_answer.specs.Determinate.{DetTerm, IsBuiltFrom, IsSetAt}
use Rattle.cc_ops.proofs.Exprs.{expr_of-Op, expr_of-And, expr_of-Or}
use Rattle.cc_ops.specs.Shapes.{expr_of, set_of as shape_set}
use Rattle.cc_ops.specs.declared.build.BuildExpr.{BuildExpr}
use Rattle.cc_ops.specs.declared.build.BuildExpr.TheVariants as build
use Rattle.cc_ops.specs.declared.build.BuildSet.{BuildSet}
use Rattle.cc_declared.specs.declared.role.Role.TheVariants as role
use Rattle.cc_elaboration.specs.declared.assignments.Assignment.{Assignment}
use Rattle.cc_elaboration.specs.Assignments.{assignment}
use Rattle.cc_elaboration.specs.Statements.{at_line}
use Rattle.cc_functions.specs.Builds.{literal, applied, applied_both, both, either, built_by, built, built_to, build_of, own_offset, member_set, element_set, set_by as set_layer, set_of, names_own}
use Rattle.cc_functions.specs.Constructors.{set_or_refused, set_if, assigned_set, assigned, refused, set_by, set, with_set, sets_from}
use Rattle.cc_scopes.specs.declared.state.Local.{Local}
use Rattle.cc_scopes.specs.declared.state.State.{State}
use Rattle.cc_scopes.specs.declared.types.Declared.{Declared}
use Rattle.cc_scopes.specs.Scope.{Context}
use Rattle.cc_tree.specs.declared.statements.Stmt.{Stmt, out-Stmt}
use Rattle.cc_tree.specs.declared.statements.StmtKind.TheOpen.{StmtKind-F}
use Rattle.cc_shared.proofs.Runs.{IsThere}
use Rattle.cc_shared.proofs.TypesOf.{value_type, target_of}
use Rattle.cc_shared.proofs.Det.{Stands, LocalsFit, Sorted, Values}
use Rattle.cc_shared.proofs.AssignmentLaws.{AssignmentFits, assignment_runs}
use Rattle.cc_shared.proofs.DeclaredLaws.{DeclaredFits}
use Rattle.cc_shared.proofs.Proper.{Layer, layer, EachOf}
use Rattle.cc_shared.proofs.CleanLaws.{AllParameters}
use Rattle.cc_shared.proofs.FunctionLaws.{slice_mapped, parameter_target}
use Rattle.cc_shared.proofs.QuietLaws.{Quiet, quiet_ends, other_never, assigned_set_kept, sets_quiet}
use Rattle.cc_shared.proofs.SetLaws.{of_layer, rolled_index, rolled_load, own_term, own_cell, own_elements, applied_some, applied_both_some, both_some, either_some, param_read}

some_inside : {A : Type 0} (x y : A) → Some x ≡ Some y → x ≡ y
some_inside {A = A} x y is = ap (λ o. elim o as (λ z. A) [ None ↦ x | Some z ↦ z ]) is

-- ---- the value

valued_in : Sort → ValueType
valued_in (Valued u) = u
valued_in s = NoValue

cell_in : ValueType → ValueType
cell_in (AnAddress (Cells sync u)) = u
cell_in u = NoValue

cell_value : (y : Types) (sync s : Bool) (w u : ValueType) → IsCell y (variable_sort (Cells sync w)) s u → w ≡ u
unfolding cell_in
cell_value y true s w u p = ap cell_in p
cell_value y false s w u p = p.1

mapped_back : (ds : List Declared) (k : ℕ) (a : Target) → slice_get (map target_of ds) k ≡ Some a
    → (d : Declared) × (slice_get ds k ≡ Some d) × (target_of d ≡ a)
mapped_back [] k a is = absurd (none-some a is)
mapped_back (d ∷ ds) zero a is = (d, refl, some_inside (target_of d) a is)
mapped_back (d ∷ ds) (suc k) a is = mapped_back ds k a is

pub all_got : (ds : List Declared) (k : ℕ) (d : Declared) → AllParameters ds → slice_get ds k ≡ Some d → DeclaredFits role.Parameter d
all_got [] k d p is = absurd (none-some d is)
all_got (x ∷ ds) zero d p is = subst (DeclaredFits role.Parameter) (some_inside x d is) p.0
all_got (x ∷ ds) (suc k) d p is = all_got ds k d p.1 is

module _ (y : Types) (main : ℕ) (here : FunctionTypes) (ps : List Declared) (fits : AllParameters ps) (vars : here.vars ≡ map target_of ps)
    (makers : List ValueType) (made : (k : ℕ) (d : Declared) → slice_get ps k ≡ Some d → slice_get makers k ≡ Some (value_type d.ty)) where
  param_value : (x : Expression) (remote : Bool) (k : ℕ) (u : ValueType) → term_of x ≡ core.Load remote (core.Variable k) → Values y main here x u
      → slice_get makers k ≡ Some u
  unfolding valued_in
  param_value x remote k u is f =
      let d = subst (λ t. DetTerm y main here t (Valued u)) is f in
      let a = d.5 in
      let b = mapped_back ps k a.0 (sym (ap (λ l. slice_get l k) vars) ∙ a.1) in
      let cell : IsCell y (variable_sort (Cells (b.0).sync (value_type (b.0).ty))) d.1 d.2 =
      subst (λ t. IsCell y (variable_sort t) d.1 d.2) (sym b.2 ∙ parameter_target b.0 (all_got ps k b.0 fits b.1))
      (subst (λ q. IsCell y q d.1 d.2) a.2 d.3) in
      made k b.0 b.1 ∙ ap Some (cell_value y (b.0).sync d.1 (value_type (b.0).ty) d.2 cell ∙ sym (ap valued_in d.4))

  built_by_from : (part : Expression → Option BuildExpr) (x : Expression) (w : Expression-F Expression) (v : BuildExpr) (u : ValueType)
      → out-Expression x ≡ w → built_by part w ≡ Some v → Values y main here x u → IsBuiltFrom makers (expr_of v) u
  built_by_from part x (Expression-F.Push c) v u is p f = subst (λ z. IsBuiltFrom makers (expr_of z) u) (some_inside (build.Value (literal c)) v p) tt
  built_by_from part x (Expression-F.Load remote a) v u is p f =
      let q = param_read remote a v p in
      subst (λ z. IsBuiltFrom makers (expr_of z) u) (sym q.2)
      (param_value x remote q.0 u (of_layer x _ _ is (rolled_load remote a) ∙ ap (core.Load remote) q.1) f)
  built_by_from part x (Expression-F.Unary op a) v u is p f =
      let q = applied_some op (part a) v p in
      subst (λ z. IsBuiltFrom makers (expr_of z) u) (some_inside (build.Op op (q.0 ∷ [])) v (sym (ap (applied op) q.1) ∙ p))
      (subst (λ z. IsBuiltFrom makers z u) (sym (expr_of-Op op (q.0 ∷ []))) tt)
  built_by_from part x (Expression-F.Binary op a b) v u is p f =
      let q = applied_both_some op (part a) (part b) v p in
      let same : applied_both op (part a) (part b) ≡ Some (build.Op op (q.0 ∷ q.1 ∷ [])) = ap (λ z. applied_both op z (part b)) q.2 ∙ ap (applied_both op (Some q.0)) q.3 in
      subst (λ z. IsBuiltFrom makers (expr_of z) u) (some_inside (build.Op op (q.0 ∷ q.1 ∷ [])) v (sym same ∙ p))
      (subst (λ z. IsBuiltFrom makers z u) (sym (expr_of-Op op (q.0 ∷ q.1 ∷ []))) tt)
  built_by_from part x (Expression-F.And a b) v u is p f =
      let q = both_some (part a) (part b) v p in
      let same : both (part a) (part b) ≡ Some (build.And q.0 q.1) = ap (λ z. both z (part b)) q.2 ∙ ap (both (Some q.0)) q.3 in
      subst (λ z. IsBuiltFrom makers (expr_of z) u) (some_inside (build.And q.0 q.1) v (sym same ∙ p))
      (subst (λ z. IsBuiltFrom makers z u) (sym (expr_of-And q.0 q.1)) tt)
  built_by_from part x (Expression-F.Or a b) v u is p f =
      let q = either_some (part a) (part b) v p in
      let same : either (part a) (part b) ≡ Some (build.Or q.0 q.1) = ap (λ z. either z (part b)) q.2 ∙ ap (either (Some q.0)) q.3 in
      subst (λ z. IsBuiltFrom makers (expr_of z) u) (some_inside (build.Or q.0 q.1) v (sym same ∙ p))
      (subst (λ z. IsBuiltFrom makers z u) (sym (expr_of-Or q.0 q.1)) tt)
  built_by_from part x Expression-F.This v u is p f = absurd (none-some v p)
  built_by_from part x (Expression-F.Variable k) v u is p f = absurd (none-some v p)
  built_by_from part x (Expression-F.Member a o) v u is p f = absurd (none-some v p)
  built_by_from part x (Expression-F.Index a k b) v u is p f = absurd (none-some v p)
  built_by_from part x (Expression-F.At a b) v u is p f = absurd (none-some v p)
  built_by_from part x (Expression-F.New kind k) v u is p f = absurd (none-some v p)
  built_by_from part x (Expression-F.NewObject remote c es) v u is p f = absurd (none-some v p)
  built_by_from part x (Expression-F.Call h g es) v u is p f = absurd (none-some v p)

  built_from : (x : Expression) (v : BuildExpr) (u : ValueType) → build_of x ≡ Some v → Values y main here x u → IsBuiltFrom makers (expr_of v) u
  unfolding built_to built
  built_from x v u is f = built_by_from (built_to 1048575) x (out-Expression x) v u refl is f

  -- ---- an assignment

  module _ (c : ℕ) (this : here.this ≡ Some c) where
    abbrev pub SetFits : BuildSet → Type 0
    SetFits x = (u : ValueType) × IsSetAt y c (shape_set x).index (shape_set x) u × IsBuiltFrom makers (shape_set x).value u

    member_fits : (o : Option ℕ) (v : Option BuildExpr) (x : BuildSet) (u : ValueType) → member_set o v ≡ Some x
        → ((k : ℕ) → o ≡ Some k → (sync : Bool) × (member y c k ≡ Some (Cells sync u)))
        → ((w : BuildExpr) → v ≡ Some w → IsBuiltFrom makers (expr_of w) u) → SetFits x
    member_fits None v x u is f g = absurd (none-some x is)
    member_fits (Some k) None x u is f g = absurd (none-some x is)
    member_fits (Some k) (Some w) x u is f g = subst SetFits (some_inside _ x is) (u, f k refl, g w refl)

    element_fits : (o : Option ℕ) (n : ℕ) (i v : Option BuildExpr) (x : BuildSet) (u : ValueType) → element_set o n i v ≡ Some x
        → ((k : ℕ) (j : BuildExpr) → o ≡ Some k → i ≡ Some j → (sync : Bool) × ((m : ℕ) → m < n → member y c (k + m) ≡ Some (Cells sync u)))
        → ((w : BuildExpr) → v ≡ Some w → IsBuiltFrom makers (expr_of w) u) → SetFits x
    element_fits None n i v x u is f g = absurd (none-some x is)
    element_fits (Some k) n None v x u is f g = absurd (none-some x is)
    element_fits (Some k) n (Some j) None x u is f g = absurd (none-some x is)
    element_fits (Some k) n (Some j) (Some w) x u is f g = subst SetFits (some_inside _ x is) (u, f k j refl refl, g w refl)

    layer_fits : (a : Expression) (w : Expression-F Expression) (v : Option BuildExpr) (x : BuildSet) (q : Sort) (sync : Bool) (u : ValueType)
        → out-Expression a ≡ w → set_layer w a v ≡ Some x → Sorted y main here a q → IsCell y q sync u
        → ((b : BuildExpr) → v ≡ Some b → IsBuiltFrom makers (expr_of b) u) → SetFits x
    layer_fits a (Expression-F.Index l n i) v x q sync u out is f cell g = element_fits (own_offset l) n (build_of i) v x u is
        (λ k j own index. (sync, own_elements y main here c this a l i n k q sync u (of_layer a _ _ out (rolled_index l n i)) (own_term l k own) f cell)) g
    layer_fits a (Expression-F.Push n) v x q sync u out is f cell g = member_fits (own_offset a) v x u is (λ k own. (sync, own_cell y main here c this a k q sync u (own_term a k own) f cell)) g
    layer_fits a Expression-F.This v x q sync u out is f cell g = member_fits (own_offset a) v x u is (λ k own. (sync, own_cell y main here c this a k q sync u (own_term a k own) f cell)) g
    layer_fits a (Expression-F.Variable k) v x q sync u out is f cell g = member_fits (own_offset a) v x u is (λ k own. (sync, own_cell y main here c this a k q sync u (own_term a k own) f cell)) g
    layer_fits a (Expression-F.Member l o) v x q sync u out is f cell g = member_fits (own_offset a) v x u is (λ k own. (sync, own_cell y main here c this a k q sync u (own_term a k own) f cell)) g
    layer_fits a (Expression-F.At l m) v x q sync u out is f cell g = member_fits (own_offset a) v x u is (λ k own. (sync, own_cell y main here c this a k q sync u (own_term a k own) f cell)) g
    layer_fits a (Expression-F.Load remote l) v x q sync u out is f cell g = member_fits (own_offset a) v x u is (λ k own. (sync, own_cell y main here c this a k q sync u (own_term a k own) f cell)) g
    layer_fits a (Expression-F.Unary op l) v x q sync u out is f cell g = member_fits (own_offset a) v x u is (λ k own. (sync, own_cell y main here c this a k q sync u (own_term a k own) f cell)) g
    layer_fits a (Expression-F.Binary op l m) v x q sync u out is f cell g = member_fits (own_offset a) v x u is (λ k own. (sync, own_cell y main here c this a k q sync u (own_term a k own) f cell)) g
    layer_fits a (Expression-F.And l m) v x q sync u out is f cell g = member_fits (own_offset a) v x u is (λ k own. (sync, own_cell y main here c this a k q sync u (own_term a k own) f cell)) g
    layer_fits a (Expression-F.Or l m) v x q sync u out is f cell g = member_fits (own_offset a) v x u is (λ k own. (sync, own_cell y main here c this a k q sync u (own_term a k own) f cell)) g
    layer_fits a (Expression-F.New kind k) v x q sync u out is f cell g = member_fits (own_offset a) v x u is (λ k own. (sync, own_cell y main here c this a k q sync u (own_term a k own) f cell)) g
    layer_fits a (Expression-F.NewObject remote n es) v x q sync u out is f cell g = member_fits (own_offset a) v x u is (λ k own. (sync, own_cell y main here c this a k q sync u (own_term a k own) f cell)) g
    layer_fits a (Expression-F.Call h n es) v x q sync u out is f cell g = member_fits (own_offset a) v x u is (λ k own. (sync, own_cell y main here c this a k q sync u (own_term a k own) f cell)) g

    set_fits : (a : Assignment) (x : BuildSet) (q : Sort) → Sorted y main here a.place.address q → IsCell y q a.place.sync (value_type a.place.ty)
        → Values y main here a.value (value_type a.place.ty) → set_of a ≡ Some x → SetFits x
    set_fits a x q f cell v is = layer_fits a.place.address (out-Expression a.place.address) (build_of a.value) x q a.place.sync (value_type a.place.ty) refl is f cell
        (λ w built. built_from a.value w (value_type a.place.ty) built v)

    -- ---- the assignments of a constructor, where its parameters are in scope

    given_set : (o : Option BuildSet) (cx : Context) (s : State) (x : BuildSet) → (set_or_refused o cx s).0 ≡ Some x → o ≡ Some x
    unfolding refused
    given_set None cx s x is = absurd (none-some x is)
    given_set (Some z) cx s x is = is

    own_set : (b : Bool) (a : Assignment) (x : BuildSet) → set_if b a ≡ Some x → set_of a ≡ Some x
    own_set true a x is = is
    own_set false a x is = absurd (none-some x is)

    module _ (cx : Context) (stands : (line : ℕ) → Stands y main here (at_line cx line)) (ls : List Local) (known : LocalsFit ps 1 [] ls) where
      fine_set : (es : List Declared) (line : ℕ) (a : Option Assignment) (b : Bool) (s : State) (x : BuildSet)
          → IsThere (AssignmentFits y main here (Unit {0}) es ps 1 [] ls (at_line cx line) (λ u. stands line)
          (λ u k d is. ap (λ l. slice_get l k) vars ∙ slice_mapped target_of ps k d is)) a
          → (assigned_set a b (at_line cx line) s).0 ≡ Some x → SetFits x
      fine_set es line None b s x f is = absurd f
      fine_set es line (Some a) b s x f is = set_fits a x (f.0).sort (f.0).sorted (f.0).cell f.1 (own_set b a x (given_set (set_if b a) (at_line cx line) s x is))

      abbrev Standing : State → Type 0
      Standing s = s.locals ≡ ls

      one_set_by : (w : Layer) (b : Stmt) (s : State) → Standing s → Quiet (set_by w cx b s).1
          → Standing (set_by w cx b s).1 × ((x : BuildSet) → (set_by w cx b s).0 ≡ Some x → SetFits x)
      unfolding assigned
      one_set_by (StmtKind-F.Assign target op e) b s here' q =
          let line = (out-Stmt b).line in
          let a = assignment (at_line cx line) target op e s in
          let same = assigned_set_kept (at_line cx line) a.0 (names_own target) a.1 q.0 in
          let quiet : Quiet a.1 = subst Quiet same q in
          let law = ((assignment_runs y main here (Unit {0}) (a.1).made ps 1 [] ls (at_line cx line) (λ u. stands line)
          (λ u k d is. ap (λ l. slice_get l k) vars ∙ slice_mapped target_of ps k d is) target op e).run s (quiet_ends a.1 quiet)).1 tt (here', known, tt) in
          (ap (λ z. z.locals) same ∙ (law.0).0, λ x is. fine_set (a.1).made line a.0 (names_own target) a.1 x law.1 is)
      one_set_by (StmtKind-F.Block ss) b s here' q = absurd (other_never cx b s q)
      one_set_by StmtKind-F.Empty b s here' q = absurd (other_never cx b s q)
      one_set_by (StmtKind-F.Declare d) b s here' q = absurd (other_never cx b s q)
      one_set_by (StmtKind-F.Call e) b s here' q = absurd (other_never cx b s q)
      one_set_by (StmtKind-F.Print xs) b s here' q = absurd (other_never cx b s q)
      one_set_by (StmtKind-F.If c' first other) b s here' q = absurd (other_never cx b s q)
      one_set_by (StmtKind-F.While c' x) b s here' q = absurd (other_never cx b s q)
      one_set_by (StmtKind-F.For first c' after x) b s here' q = absurd (other_never cx b s q)
      one_set_by StmtKind-F.Break b s here' q = absurd (other_never cx b s q)
      one_set_by StmtKind-F.Continue b s here' q = absurd (other_never cx b s q)
      one_set_by (StmtKind-F.Par bs) b s here' q = absurd (other_never cx b s q)
      one_set_by (StmtKind-F.ParFor name start c' after x) b s here' q = absurd (other_never cx b s q)
      one_set_by (StmtKind-F.Spawn e) b s here' q = absurd (other_never cx b s q)
      one_set_by (StmtKind-F.Return e) b s here' q = absurd (other_never cx b s q)

      one_set : (b : Stmt) (s : State) → Standing s → Quiet (set cx b s).1 → Standing (set cx b s).1 × ((x : BuildSet) → (set cx b s).0 ≡ Some x → SetFits x)
      unfolding set
      one_set b s here' q = one_set_by (layer b) b s here' q

      with_set_fits : (done : List BuildSet) (o : Option BuildSet) → EachOf SetFits done → ((x : BuildSet) → o ≡ Some x → SetFits x) → EachOf SetFits (with_set done o)
      with_set_fits done None p f = p
      with_set_fits [] (Some x) p f = (f x refl, tt)
      with_set_fits (z ∷ done) (Some x) p f = (p.0, with_set_fits done (Some x) p.1 f)

      pub all_sets : (done : List BuildSet) (bs : List Stmt) (s : State) → Standing s → EachOf SetFits done → Quiet (sets_from cx done bs s).1
          → EachOf SetFits (sets_from cx done bs s).0
      all_sets done [] s here' p q = p
      all_sets done (b ∷ bs) s here' p q =
          let x = set cx b s in
          let quiet = sets_quiet cx (with_set done x.0) bs x.1 q in
          let one = one_set b s here' quiet in
          all_sets (with_set done x.0) bs x.1 one.0 (with_set_fits done x.0 p one.1) q
