-- What a constructor's assignment puts into an object has the types of its class.
use Rattle.std.proofs.Common.{◌≡◌, ℕ, ◌+◌, ◌<◌, Bool, true, false, cond, Option, Some, None, refl, sym, ap, subst, ◌∙◌}
use Rattle.std.proofs.lemmas.Bool.{true≢false}
use Rattle.std.proofs.lemmas.Option.{none-some}
use Rattle.cc_core.specs.declared.expression.Expression.{Expression, out-Expression, roll-Expression, roll-out-Expression, fold-roll-Expression}
use Rattle.cc_core.specs.declared.expression.Expression.TheOpen.{Expression-F}
use Rattle.cc_core.specs.Core as core
use Rattle.cc_core.specs.Core.{Term}
use Rattle.cc_core.specs.Types.{ValueType, AnAddress, Cells, ObjectOf, FunctionTypes, Types}
use Rattle.cc_core.specs.View.{term_of, term_with}
use Rattle.cc_one_answer.specs.Sorts.{Sort, Valued, MemberAt, MemberCell, member, IsCell, IsElement}
use Rattle.cc_one_answer.specs.Determinate.{DetTerm}
use Rattle.cc_ops.specs.declared.operator.Op.{Op}
use Rattle.cc_ops.specs.declared.build.BuildExpr.{BuildExpr}
use Rattle.cc_ops.specs.declared.build.BuildExpr.TheVariants as build
use Rattle.cc_functions.specs.Builds.{param_by, param_at, applied, applied_both, both, either, is_this_by, is_this, own_offset_by, own_offset}
use Rattle.cc_shared.proofs.Det.{Sorted}

some_inside : {A : Type 0} (x y : A) → Some x ≡ Some y → x ≡ y
some_inside {A = A} x y is = ap (λ o. elim o as (λ z. A) [ None ↦ x | Some z ↦ z ]) is

-- ---- what each form is

pub of_layer : (x : Expression) (w : Expression-F Expression) (t : Term) → out-Expression x ≡ w → term_of (roll-Expression w) ≡ t → term_of x ≡ t
of_layer x w t is same = ap term_of (sym (roll-out-Expression x) ∙ ap roll-Expression is) ∙ same

rolled_this : term_of (roll-Expression Expression-F.This) ≡ core.This
unfolding term_of
rolled_this = fold-roll-Expression Term term_with Expression-F.This

rolled_member : (a : Expression) (o : ℕ) → term_of (roll-Expression (Expression-F.Member a o)) ≡ core.Member (term_of a) o
unfolding term_of
rolled_member a o = fold-roll-Expression Term term_with (Expression-F.Member a o)

pub rolled_index : (a : Expression) (n : ℕ) (i : Expression) → term_of (roll-Expression (Expression-F.Index a n i)) ≡ core.Index (term_of a) n (term_of i)
unfolding term_of
rolled_index a n i = fold-roll-Expression Term term_with (Expression-F.Index a n i)

rolled_variable : (k : ℕ) → term_of (roll-Expression (Expression-F.Variable k)) ≡ core.Variable k
unfolding term_of
rolled_variable k = fold-roll-Expression Term term_with (Expression-F.Variable k)

pub rolled_load : (remote : Bool) (a : Expression) → term_of (roll-Expression (Expression-F.Load remote a)) ≡ core.Load remote (term_of a)
unfolding term_of
rolled_load remote a = fold-roll-Expression Term term_with (Expression-F.Load remote a)

-- ---- what an expression of a constructor is made of

pub applied_some : (op : Op) (x : Option BuildExpr) (v : BuildExpr) → applied op x ≡ Some v → (w : BuildExpr) × (x ≡ Some w)
applied_some op None v is = absurd (none-some v is)
applied_some op (Some w) v is = (w, refl)

pub applied_both_some : (op : Op) (x y : Option BuildExpr) (v : BuildExpr) → applied_both op x y ≡ Some v
    → (w : BuildExpr) × (z : BuildExpr) × (x ≡ Some w) × (y ≡ Some z)
applied_both_some op None y v is = absurd (none-some v is)
applied_both_some op (Some w) None v is = absurd (none-some v is)
applied_both_some op (Some w) (Some z) v is = (w, z, refl, refl)

pub both_some : (x y : Option BuildExpr) (v : BuildExpr) → both x y ≡ Some v → (w : BuildExpr) × (z : BuildExpr) × (x ≡ Some w) × (y ≡ Some z)
both_some None y v is = absurd (none-some v is)
both_some (Some w) None v is = absurd (none-some v is)
both_some (Some w) (Some z) v is = (w, z, refl, refl)

pub either_some : (x y : Option BuildExpr) (v : BuildExpr) → either x y ≡ Some v → (w : BuildExpr) × (z : BuildExpr) × (x ≡ Some w) × (y ≡ Some z)
either_some None y v is = absurd (none-some v is)
either_some (Some w) None v is = absurd (none-some v is)
either_some (Some w) (Some z) v is = (w, z, refl, refl)

-- the variable that is read
param_is : (x : Expression) (w : Expression-F Expression) (v : BuildExpr) → out-Expression x ≡ w → param_by w ≡ Some v
    → (k : ℕ) × (term_of x ≡ core.Variable k) × (v ≡ build.Param k)
param_is x (Expression-F.Variable k) v is p = (k, of_layer x (Expression-F.Variable k) (core.Variable k) is (rolled_variable k), sym (some_inside (build.Param k) v p))
param_is x (Expression-F.Push c) v is p = absurd (none-some v p)
param_is x Expression-F.This v is p = absurd (none-some v p)
param_is x (Expression-F.Member a o) v is p = absurd (none-some v p)
param_is x (Expression-F.Index a k b) v is p = absurd (none-some v p)
param_is x (Expression-F.At a b) v is p = absurd (none-some v p)
param_is x (Expression-F.Load remote a) v is p = absurd (none-some v p)
param_is x (Expression-F.Unary op a) v is p = absurd (none-some v p)
param_is x (Expression-F.Binary op a b) v is p = absurd (none-some v p)
param_is x (Expression-F.And a b) v is p = absurd (none-some v p)
param_is x (Expression-F.Or a b) v is p = absurd (none-some v p)
param_is x (Expression-F.New kind k) v is p = absurd (none-some v p)
param_is x (Expression-F.NewObject remote c es) v is p = absurd (none-some v p)
param_is x (Expression-F.Call h f es) v is p = absurd (none-some v p)

pub param_read : (remote : Bool) (a : Expression) (v : BuildExpr) → param_at remote a ≡ Some v → (k : ℕ) × (term_of a ≡ core.Variable k) × (v ≡ build.Param k)
param_read true a v is = absurd (none-some v is)
param_read false a v is = param_is a (out-Expression a) v refl is

-- ---- the own object

this_is : (x : Expression) (w : Expression-F Expression) → out-Expression x ≡ w → is_this_by w ≡ true → term_of x ≡ core.This
this_is x Expression-F.This is p = of_layer x Expression-F.This core.This is rolled_this
this_is x (Expression-F.Push c) is p = absurd (true≢false (sym p))
this_is x (Expression-F.Variable k) is p = absurd (true≢false (sym p))
this_is x (Expression-F.Member a o) is p = absurd (true≢false (sym p))
this_is x (Expression-F.Index a k b) is p = absurd (true≢false (sym p))
this_is x (Expression-F.At a b) is p = absurd (true≢false (sym p))
this_is x (Expression-F.Load remote a) is p = absurd (true≢false (sym p))
this_is x (Expression-F.Unary op a) is p = absurd (true≢false (sym p))
this_is x (Expression-F.Binary op a b) is p = absurd (true≢false (sym p))
this_is x (Expression-F.And a b) is p = absurd (true≢false (sym p))
this_is x (Expression-F.Or a b) is p = absurd (true≢false (sym p))
this_is x (Expression-F.New kind k) is p = absurd (true≢false (sym p))
this_is x (Expression-F.NewObject remote c es) is p = absurd (true≢false (sym p))
this_is x (Expression-F.Call h f es) is p = absurd (true≢false (sym p))

own_if : (b : Bool) (a x : Expression) (k o : ℕ) → is_this a ≡ b → out-Expression x ≡ Expression-F.Member a k → cond b (Some k) None ≡ Some o
    → term_of x ≡ core.Member core.This o
own_if true a x k o this is p =
    of_layer x (Expression-F.Member a k) (core.Member (term_of a) k) is (rolled_member a k)
    ∙ (ap (λ t. core.Member t k) (this_is a (out-Expression a) refl this) ∙ ap (λ n. core.Member core.This n) (some_inside k o p))
own_if false a x k o this is p = absurd (none-some o p)

own_by : (x : Expression) (w : Expression-F Expression) (o : ℕ) → out-Expression x ≡ w → own_offset_by w ≡ Some o → term_of x ≡ core.Member core.This o
own_by x (Expression-F.Member a k) o is p = own_if (is_this a) a x k o refl is p
own_by x (Expression-F.Push c) o is p = absurd (none-some o p)
own_by x Expression-F.This o is p = absurd (none-some o p)
own_by x (Expression-F.Variable k) o is p = absurd (none-some o p)
own_by x (Expression-F.Index a k b) o is p = absurd (none-some o p)
own_by x (Expression-F.At a b) o is p = absurd (none-some o p)
own_by x (Expression-F.Load remote a) o is p = absurd (none-some o p)
own_by x (Expression-F.Unary op a) o is p = absurd (none-some o p)
own_by x (Expression-F.Binary op a b) o is p = absurd (none-some o p)
own_by x (Expression-F.And a b) o is p = absurd (none-some o p)
own_by x (Expression-F.Or a b) o is p = absurd (none-some o p)
own_by x (Expression-F.New kind k) o is p = absurd (none-some o p)
own_by x (Expression-F.NewObject remote c es) o is p = absurd (none-some o p)
own_by x (Expression-F.Call h f es) o is p = absurd (none-some o p)

pub own_term : (x : Expression) (o : ℕ) → own_offset x ≡ Some o → term_of x ≡ core.Member core.This o
own_term x o is = own_by x (out-Expression x) o refl is

-- ---- the cells of the own object

class_in : Sort → ℕ
class_in (Valued (AnAddress (ObjectOf c))) = c
class_in s = 0

module _ (y : Types) (main : ℕ) (here : FunctionTypes) (c : ℕ) (this : here.this ≡ Some c) where
  own_sort : (o : ℕ) (q : Sort) → DetTerm y main here (core.Member core.This o) q → q ≡ MemberAt c o
  unfolding class_in
  own_sort o q p = p.3 ∙ ap (λ k. MemberAt k o) (ap class_in (p.2).2 ∙ some_inside _ _ (sym (p.2).1 ∙ this))

  pub own_cell : (x : Expression) (o : ℕ) (q : Sort) (sync : Bool) (u : ValueType) → term_of x ≡ core.Member core.This o → Sorted y main here x q
      → IsCell y q sync u → member y c o ≡ Some (Cells sync u)
  own_cell x o q sync u is f cell =
      subst (λ z. IsCell y z sync u) (own_sort o q (subst (λ t. DetTerm y main here t q) is f)) cell

  pub own_elements : (x a i : Expression) (n o : ℕ) (q : Sort) (sync : Bool) (u : ValueType) → term_of x ≡ core.Index (term_of a) n (term_of i)
      → term_of a ≡ core.Member core.This o → Sorted y main here x q → IsCell y q sync u
      → (j : ℕ) → j < n → member y c (o + j) ≡ Some (Cells sync u)
  own_elements x a i n o q sync u is own f cell j lt =
      let same : term_of x ≡ core.Index (core.Member core.This o) n (term_of i) = is ∙ ap (λ t. core.Index t n (term_of i)) own in
      let d = subst (λ t. DetTerm y main here t q) same f in
      let at = own_sort o d.0 d.3 in
      let e : IsElement y n (MemberAt c o) q = subst (λ z. IsElement y n z q) at d.2 in
      let k : IsCell y (MemberCell e.0 e.1) sync u = subst (λ z. IsCell y z sync u) e.4 cell in
      e.3 j lt ∙ (ap (λ b. Some (Cells b e.1)) k.0 ∙ ap (λ w. Some (Cells sync w)) k.1)
