-- When each form of an expression has a sort, and each form of a statement is determinate.
use Rattle.cc_core.specs.Core as core
use Rattle.cc_core.specs.Names as names
use Rattle.core_types.specs.Types.{ValueType, AnInt, Pointer, Target, Cells, ObjectOf, MemberOf, Types}
use Rattle.core_types.specs.Types.{function_types, class_types, is_sync, IsKind, Serves, Passes, Allowed, AreOperands, IsCell, IsElement}
use Rattle.core_types.specs.Values.{World}
use Rattle.core_types.specs.Typing.{Scope, is_atomic, IsCall, call_waits, PassAll, HasType}
use Rattle.std.proofs.Common.{◌≡◌, ℕ, ◌≤◌, Bool, false, List, [], ◌∷◌, Some, refl, sym, subst}
use Rattle.std.specs.Prelude.{slice_get, ℤ, ◌||◌}
use Rattle.cc_ops.specs.Values.{last_offset}
use Rattle.cc_ops.specs.declared.kind.Kind.{Kind}
use Rattle.cc_ops.specs.declared.operator.Op.{Op}
use Rattle.cc_core.specs.declared.expression.How.{How}
use Rattle.cc_core.specs.declared.expression.Expression.{Expression}
use Rattle.cc_core.specs.declared.expression.Expression.TheVariants as e
use Rattle.cc_core.specs.Core.{Term, Stmt}
use Rattle.cc_core.specs.View.{term_of, how_of}
use Rattle.cc_core.proofs.ViewLaws.{push_is, this_is, variable_is, member_is, index_is, at_is, load_is, unary_is, binary_is, and_is, or_is, new_is}
use Rattle.cc_core.proofs.ViewLaws.{new_object_is, call_is}
use Rattle.source_types.proofs.Fits.{Values, AllValues}
use Rattle.cc_core.specs.declared.expression.Constant.TheVariants as constant

module _ (program : core.Program) (y : Types) (world : World) (home : names.Name) (here : Scope) where
  -- ---- expressions

  valued : (x : Expression) (t : Term) (u : ValueType) → term_of x ≡ t → HasType program y world home here t u → Values program y world home here x u
  valued x t u is f = subst (λ z. HasType program y world home here z u) (sym is) f

  pub int_literal : (n : ℤ) → Values program y world home here (e.Push (constant.Int n)) AnInt
  int_literal n = valued _ _ _ (push_is (constant.Int n)) refl

  pub null_literal : (remote : Bool) (a : Target) → Values program y world home here (e.Push constant.Null) (Pointer remote a)
  null_literal remote a = valued _ _ _ (push_is constant.Null) (remote, a, refl)

  pub this_values : (c : ℕ) (remote : Bool) → here.this ≡ Some c → Values program y world home here e.This (Pointer remote (ObjectOf c))
  this_values c remote is = valued _ _ _ this_is (c, remote, is, refl)

  pub variable_values : (k : ℕ) (a : Target) → slice_get here.vars k ≡ Some a → Values program y world home here (e.Variable k) (Pointer false a)
  variable_values k a is = valued _ _ _ (variable_is k) (a, is, refl)

  pub member_values : (x : Expression) (o c : ℕ) (remote : Bool) → o ≤ last_offset → Values program y world home here x (Pointer remote (ObjectOf c))
      → Values program y world home here (e.Member x o) (Pointer remote (MemberOf c o))
  member_values x o c remote le f = valued _ _ _ (member_is x o) (remote, c, f, le, refl)

  pub index_values : (x : Expression) (n : ℕ) (i : Expression) (remote : Bool) (a b : Target) → IsElement y n a b
      → Values program y world home here x (Pointer remote a) → Values program y world home here i AnInt → Values program y world home here (e.Index x n i) (Pointer remote b)
  index_values x n i remote a b is f h = valued _ _ _ (index_is x n i) (remote, a, b, f, h, is, refl)

  pub at_values : (x i : Expression) (remote sync : Bool) (u : ValueType) → Values program y world home here x (Pointer remote (Cells sync u))
      → Values program y world home here i AnInt → Values program y world home here (e.At x i) (Pointer remote (Cells sync u))
  at_values x i remote sync u f h = valued _ _ _ (at_is x i) (remote, sync, u, f, h, refl)

  pub load_values : (remote : Bool) (x : Expression) (a : Target) (sync : Bool) (u : ValueType) → Values program y world home here x (Pointer remote a)
      → IsCell y a sync u → Passes remote u → Allowed here.waits (remote || sync) → Values program y world home here (e.Load remote x) u
  load_values remote x a sync u f i ps w = valued _ _ _ (load_is remote x) (a, sync, f, i, ps, w)

  pub unary_values : (op : Op) (x : Expression) → AreOperands op (AnInt ∷ []) → Values program y world home here x AnInt → Values program y world home here (e.Unary op x) AnInt
  unary_values op x is f = valued _ _ _ (unary_is op x) (f, is, refl)

  pub binary_values : (op : Op) (a b : Expression) (u v : ValueType) → AreOperands op (u ∷ v ∷ []) → Values program y world home here a u
      → Values program y world home here b v → Values program y world home here (e.Binary op a b) AnInt
  binary_values op a b u v is f h = valued _ _ _ (binary_is op a b) (u, v, f, h, is, refl)

  pub and_values : (a b : Expression) → Values program y world home here a AnInt → Values program y world home here b AnInt → Values program y world home here (e.And a b) AnInt
  and_values a b f h = valued _ _ _ (and_is a b) (f, h, refl)

  pub or_values : (a b : Expression) → Values program y world home here a AnInt → Values program y world home here b AnInt → Values program y world home here (e.Or a b) AnInt
  or_values a b f h = valued _ _ _ (or_is a b) (f, h, refl)

  pub new_values : (kind : Kind) (n : ℕ) (u : ValueType) → IsKind kind u → Values program y world home here (e.New kind n) (Pointer false (Cells (is_sync kind) u))
  new_values kind n u k = valued _ _ _ (new_is kind n) (u, k, refl)

  pub new_object_values : (remote : Bool) (c : ℕ) (es : List Expression) → AllValues program y world home here es (class_types y c).params
      → PassAll remote (class_types y c).params → Allowed here.waits remote → Values program y world home here (e.NewObject remote c es) (Pointer remote (ObjectOf c))
  new_object_values remote c es f ps w = valued _ _ _ (new_object_is remote c es) (f, ps, w, refl)

  pub call_values : (h : How) (f : ℕ) (es : List Expression) (us : List ValueType) → IsCall (function_types y f) (how_of h) us
      → AllValues program y world home here es us → Allowed here.waits (call_waits (how_of h) (function_types y f).waits (is_atomic program f))
      → Values program y world home here (e.Call h f es) (function_types y f).result
  call_values h f es us taken all w = valued _ _ _ (call_is h f es) (us, taken, all, w, refl)

  pub no_values : AllValues program y world home here [] []
  no_values = refl

  pub more_values : (x : Expression) (es : List Expression) (t u : ValueType) (us : List ValueType) → Values program y world home here x t → Serves t u
      → AllValues program y world home here es us → AllValues program y world home here (x ∷ es) (u ∷ us)
  more_values x es t u us f s all = (u, us, (t, f, s), all, refl)
