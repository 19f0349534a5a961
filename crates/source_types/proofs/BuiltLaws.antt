-- What a constructor's assignment puts into an object, and where, has the types of the class.
use Rattle.std.proofs.Common.{◌≡◌, ℕ, zero, suc, ◌+◌, ◌<◌, Bool, List, [], ◌∷◌, map, Option, Some, refl, sym, ap, subst, ◌∙◌}
use Rattle.std.specs.Prelude.{slice_get}
use Rattle.std.proofs.lemmas.Option.{none-some}
use Rattle.cc_core.specs.declared.expression.Constant.{Constant}
use Rattle.cc_core.specs.declared.expression.Constant.TheVariants as constant
use Rattle.cc_core.specs.declared.expression.Expression.{Expression, out-Expression, roll-Expression, fold-roll-Expression}
use Rattle.cc_core.specs.declared.expression.Expression.TheOpen.{Expression-F}
use Rattle.cc_core.specs.Core as core
use Rattle.cc_core.specs.Names as core_names
use Rattle.cc_core.specs.View.{constant_of, term_of, term_with}
use Rattle.cc_declared.specs.declared.role.Role.TheVariants as role
use Rattle.cc_functions.specs.Builds.{literal, applied, applied_both, both, either, built_by, built, built_to}
use Rattle.cc_ops.proofs.Exprs.{expr_of-Op, expr_of-And, expr_of-Or}
use Rattle.cc_ops.specs.Shapes.{expr_of}
use Rattle.cc_ops.specs.declared.build.BuildExpr.{BuildExpr}
use Rattle.cc_ops.specs.declared.build.BuildExpr.TheVariants as build
use Rattle.cc_ops.specs.declared.operator.Op.{Op}
use Rattle.cc_scopes.specs.declared.types.Declared.{Declared}
use Rattle.cc_shared.proofs.CleanLaws.{AllParameters}
use Rattle.cc_shared.proofs.DeclaredLaws as declared
use Rattle.cc_shared.proofs.SetLaws.{of_layer, rolled_load, applied_some, applied_both_some, both_some, either_some, param_read}
use Rattle.core_types.specs.Programs.{IsBuilt}
use Rattle.core_types.specs.Types.{ValueType, NoValue, AnInt, Pointer, Target, Cells, ObjectOf, MemberOf, Holds, Types, member, IsConstant, IsCell, IsElement}
use Rattle.core_types.specs.Typing.{Scope, HasType}
use Rattle.core_types.specs.Values.{World}
use Rattle.source_types.specs.TypesOf.{value_type, target_of}
use Rattle.source_types.proofs.Fits.{Values}
use Rattle.source_types.proofs.FunctionLaws.{parameter_target}
use Rattle.source_types.proofs.TypeTables.{some_inside}

-- ---- what each form is

rolled_push : (c : Constant) → term_of (roll-Expression (Expression-F.Push c)) ≡ core.Push (constant_of c)
unfolding term_of
rolled_push c = fold-roll-Expression core.Term term_with (Expression-F.Push c)

rolled_unary : (op : Op) (a : Expression) → term_of (roll-Expression (Expression-F.Unary op a)) ≡ core.Unary op (term_of a)
unfolding term_of
rolled_unary op a = fold-roll-Expression core.Term term_with (Expression-F.Unary op a)

rolled_binary : (op : Op) (a b : Expression) → term_of (roll-Expression (Expression-F.Binary op a b)) ≡ core.Binary op (term_of a) (term_of b)
unfolding term_of
rolled_binary op a b = fold-roll-Expression core.Term term_with (Expression-F.Binary op a b)

rolled_and : (a b : Expression) → term_of (roll-Expression (Expression-F.And a b)) ≡ core.And (term_of a) (term_of b)
unfolding term_of
rolled_and a b = fold-roll-Expression core.Term term_with (Expression-F.And a b)

rolled_or : (a b : Expression) → term_of (roll-Expression (Expression-F.Or a b)) ≡ core.Or (term_of a) (term_of b)
unfolding term_of
rolled_or a b = fold-roll-Expression core.Term term_with (Expression-F.Or a b)

-- ---- types

pub target_in : ValueType → Target
target_in (Pointer remote a) = a
target_in AnInt = ObjectOf 0
target_in NoValue = ObjectOf 0

pub class_in : Target → ℕ
class_in (ObjectOf c) = c
class_in (MemberOf c o) = c
class_in a = 0

cell_value : (y : Types) (sync s : Bool) (w u : ValueType) → IsCell y (Cells sync w) s u → w ≡ u
cell_value y sync s w u p = p.1

mapped_back : (ds : List Declared) (k : ℕ) (a : Target) → slice_get (map target_of ds) k ≡ Some a
    → (d : Declared) × (slice_get ds k ≡ Some d) × (target_of d ≡ a)
mapped_back [] k a is = absurd (none-some a is)
mapped_back (d ∷ ds) zero a is = (d, refl, some_inside (target_of d) a is)
mapped_back (d ∷ ds) (suc k) a is = mapped_back ds k a is

pub all_got : (ds : List Declared) (k : ℕ) (d : Declared) → AllParameters ds → slice_get ds k ≡ Some d → declared.DeclaredFits role.Parameter d
all_got [] k d p is = absurd (none-some d is)
all_got (x ∷ ds) zero d p is = subst (declared.DeclaredFits role.Parameter) (some_inside x d is) p.0
all_got (x ∷ ds) (suc k) d p is = all_got ds k d p.1 is

-- ---- the value

module _ (program : core.Program) (y : Types) (world : World) (home : core_names.Name) (here : Scope) (ps : List Declared) (fits : AllParameters ps) (vars : here.vars ≡ map target_of ps)
    (params : List ValueType) (made : (k : ℕ) (d : Declared) → slice_get ps k ≡ Some d → slice_get params k ≡ Some (value_type d.ty)) where
  param_value : (x : Expression) (remote : Bool) (k : ℕ) (u : ValueType) → term_of x ≡ core.Load remote (core.Variable k) → Values program y world home here x u
      → slice_get params k ≡ Some u
  unfolding target_in
  param_value x remote k u is f =
      let d = subst (λ t. HasType program y world home here t u) is f in
      let a = d.2 in
      let b = mapped_back ps k a.0 (sym (ap (λ l. slice_get l k) vars) ∙ a.1) in
      let cell : IsCell y (Cells (b.0).sync (value_type (b.0).ty)) d.1 u =
      subst (λ t. IsCell y t d.1 u) (ap target_in a.2 ∙ (sym b.2 ∙ parameter_target b.0 (all_got ps k b.0 fits b.1))) d.3 in
      made k b.0 b.1 ∙ ap Some (cell_value y (b.0).sync d.1 (value_type (b.0).ty) u cell)

  constant_built : (c : Constant) (u : ValueType) → IsConstant (constant_of c) u → IsBuilt params (expr_of (build.Value (literal c))) u
  constant_built constant.Void u p = p
  constant_built (constant.Int n) u p = p
  constant_built constant.Null u p = p

  module _ (part : Expression → Option BuildExpr)
      (again : (x : Expression) (v : BuildExpr) (u : ValueType) → part x ≡ Some v → Values program y world home here x u → IsBuilt params (expr_of v) u) where
    built_by_from : (x : Expression) (w : Expression-F Expression) (v : BuildExpr) (u : ValueType)
        → out-Expression x ≡ w → built_by part w ≡ Some v → Values program y world home here x u → IsBuilt params (expr_of v) u
    built_by_from x (Expression-F.Push c) v u is p f = subst (λ z. IsBuilt params (expr_of z) u) (some_inside (build.Value (literal c)) v p)
        (constant_built c u (subst (λ t. HasType program y world home here t u) (of_layer x _ _ is (rolled_push c)) f))
    built_by_from x (Expression-F.Load remote a) v u is p f =
        let q = param_read remote a v p in
        subst (λ z. IsBuilt params (expr_of z) u) (sym q.2)
        (param_value x remote q.0 u (of_layer x _ _ is (rolled_load remote a) ∙ ap (core.Load remote) q.1) f)
    built_by_from x (Expression-F.Unary op a) v u is p f =
        let q = applied_some op (part a) v p in
        let d = subst (λ t. HasType program y world home here t u) (of_layer x _ _ is (rolled_unary op a)) f in
        subst (λ z. IsBuilt params (expr_of z) u) (some_inside (build.Op op (q.0 ∷ [])) v (sym (ap (applied op) q.1) ∙ p))
        (subst (λ z. IsBuilt params z u) (sym (expr_of-Op op (q.0 ∷ [])))
        (AnInt ∷ [], (AnInt, [], again a q.0 AnInt q.1 d.0, refl, refl), d.1, d.2))
    built_by_from x (Expression-F.Binary op a b) v u is p f =
        let q = applied_both_some op (part a) (part b) v p in
        let d = subst (λ t. HasType program y world home here t u) (of_layer x _ _ is (rolled_binary op a b)) f in
        let same : applied_both op (part a) (part b) ≡ Some (build.Op op (q.0 ∷ q.1 ∷ [])) = ap (λ z. applied_both op z (part b)) q.2 ∙ ap (applied_both op (Some q.0)) q.3 in
        subst (λ z. IsBuilt params (expr_of z) u) (some_inside (build.Op op (q.0 ∷ q.1 ∷ [])) v (sym same ∙ p))
        (subst (λ z. IsBuilt params z u) (sym (expr_of-Op op (q.0 ∷ q.1 ∷ []))) (
          d.0 ∷ d.1 ∷ [],
          (d.0, d.1 ∷ [], again a q.0 d.0 q.2 d.2, (d.1, [], again b q.1 d.1 q.3 d.3, refl, refl), refl),
          d.4,
          d.5,
        ))
    built_by_from x (Expression-F.And a b) v u is p f =
        let q = both_some (part a) (part b) v p in
        let d = subst (λ t. HasType program y world home here t u) (of_layer x _ _ is (rolled_and a b)) f in
        let same : both (part a) (part b) ≡ Some (build.And q.0 q.1) = ap (λ z. both z (part b)) q.2 ∙ ap (both (Some q.0)) q.3 in
        subst (λ z. IsBuilt params (expr_of z) u) (some_inside (build.And q.0 q.1) v (sym same ∙ p))
        (subst (λ z. IsBuilt params z u) (sym (expr_of-And q.0 q.1)) (again a q.0 AnInt q.2 d.0, again b q.1 AnInt q.3 d.1, d.2))
    built_by_from x (Expression-F.Or a b) v u is p f =
        let q = either_some (part a) (part b) v p in
        let d = subst (λ t. HasType program y world home here t u) (of_layer x _ _ is (rolled_or a b)) f in
        let same : either (part a) (part b) ≡ Some (build.Or q.0 q.1) = ap (λ z. either z (part b)) q.2 ∙ ap (either (Some q.0)) q.3 in
        subst (λ z. IsBuilt params (expr_of z) u) (some_inside (build.Or q.0 q.1) v (sym same ∙ p))
        (subst (λ z. IsBuilt params z u) (sym (expr_of-Or q.0 q.1)) (again a q.0 AnInt q.2 d.0, again b q.1 AnInt q.3 d.1, d.2))
    built_by_from x Expression-F.This v u is p f = absurd (none-some v p)
    built_by_from x (Expression-F.Variable k) v u is p f = absurd (none-some v p)
    built_by_from x (Expression-F.Member a o) v u is p f = absurd (none-some v p)
    built_by_from x (Expression-F.Index a k b) v u is p f = absurd (none-some v p)
    built_by_from x (Expression-F.At a b) v u is p f = absurd (none-some v p)
    built_by_from x (Expression-F.New kind k) v u is p f = absurd (none-some v p)
    built_by_from x (Expression-F.NewObject remote c es) v u is p f = absurd (none-some v p)
    built_by_from x (Expression-F.Call h g es) v u is p f = absurd (none-some v p)

  pub built_from : (depth : ℕ) (x : Expression) (v : BuildExpr) (u : ValueType) → built_to depth x ≡ Some v → Values program y world home here x u → IsBuilt params (expr_of v) u
  unfolding built_to built
  built_from zero x v u is f = absurd (none-some v is)
  built_from (suc depth) x v u is f = built_by_from (built_to depth) (built_from depth) x (out-Expression x) v u refl is f

-- ---- the cells of the own object

module _ (program : core.Program) (y : Types) (world : World) (home : core_names.Name) (here : Scope) (c : ℕ) (this : here.this ≡ Some c) where
  own_target : (o : ℕ) (remote : Bool) (a : Target) → HasType program y world home here (core.Member core.This o) (Pointer remote a) → a ≡ MemberOf c o
  unfolding target_in class_in
  own_target o remote a p =
      let this' = p.2 in
      let class : p.1 ≡ c = ap (λ z. class_in (target_in z)) this'.3 ∙ some_inside _ _ (sym this'.2 ∙ this) in
      ap target_in p.4 ∙ ap (λ k. MemberOf k o) class

  pub own_cell : (x : Expression) (o : ℕ) (remote : Bool) (a : Target) (sync : Bool) (u : ValueType) → term_of x ≡ core.Member core.This o
      → Values program y world home here x (Pointer remote a) → IsCell y a sync u → member y c o ≡ Some (Holds sync u)
  own_cell x o remote a sync u is f cell =
      subst (λ z. IsCell y z sync u) (own_target o remote a (subst (λ t. HasType program y world home here t (Pointer remote a)) is f)) cell

  -- of an element: the index, and all cells of the array
  pub own_elements : (x b i : Expression) (n o : ℕ) (remote : Bool) (a : Target) (sync : Bool) (u : ValueType) → term_of x ≡ core.Index (term_of b) n (term_of i)
      → term_of b ≡ core.Member core.This o → Values program y world home here x (Pointer remote a) → IsCell y a sync u
      → Values program y world home here i AnInt × ((j : ℕ) → j < n → member y c (o + j) ≡ Some (Holds sync u))
  unfolding target_in
  own_elements x b i n o remote a sync u is own f cell =
      let same : term_of x ≡ core.Index (core.Member core.This o) n (term_of i) = is ∙ ap (λ t. core.Index t n (term_of i)) own in
      let d = subst (λ t. HasType program y world home here t (Pointer remote a)) same f in
      let at = own_target o d.0 d.1 d.3 in
      let e : IsElement y n (MemberOf c o) d.2 = subst (λ z. IsElement y n z d.2) at d.5 in
      let k = subst (λ z. IsCell y z sync u) (ap target_in d.6 ∙ e.4) cell in
      (d.4, λ j lt. e.3 j lt ∙ (ap (λ b. Some (Holds b e.1)) k.0 ∙ ap (λ w. Some (Holds sync w)) k.1))
