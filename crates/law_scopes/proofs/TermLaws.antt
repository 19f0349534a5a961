-- The variables of each form of an expression.
use Rattle.std.proofs.Common.{◌≡◌, ℕ, Bool, List, [], ◌∷◌, ◌++◌, sym, subst}
use Rattle.cc_ops.specs.declared.kind.Kind.{Kind}
use Rattle.cc_ops.specs.declared.operator.Op.{Op}
use Rattle.cc_core.specs.declared.expression.Constant.{Constant}
use Rattle.cc_core.specs.declared.expression.How.{How}
use Rattle.cc_core.specs.declared.expression.Expression.{Expression}
use Rattle.cc_core.specs.declared.expression.Expression.TheVariants as e
use Rattle.cc_core.specs.Core.{Term}
use Rattle.cc_core.specs.View.{term_of}
use Rattle.cc_core.proofs.ViewLaws.{push_is, this_is, variable_is, member_is, index_is, at_is, load_is, unary_is, binary_is, and_is, or_is, new_is}
use Rattle.cc_core.proofs.ViewLaws.{new_object_is, call_is}
use Rattle.law_scopes.specs.Variables.{EachVariable, Names, AllName}

module _ (V : ℕ → Type 0) where
  pub one_more : (xs : List Expression) (x : Expression) → AllName V xs → Names V x → AllName V (xs ++ x ∷ [])
  one_more [] x p q = (q, tt)
  one_more (y ∷ xs) x p q = (p.0, one_more xs x p.1 q)

  term : (x : Expression) (t : Term) → term_of x ≡ t → EachVariable V t → Names V x
  term x t is p = subst (λ y. EachVariable V y) (sym is) p

  pub push_fits : (c : Constant) → Names V (e.Push c)
  push_fits c = term _ _ (push_is c) tt

  pub this_fits : Names V e.This
  this_fits = term _ _ this_is tt

  pub variable_fits : (k : ℕ) → V k → Names V (e.Variable k)
  variable_fits k p = term _ _ (variable_is k) p

  pub member_fits : (x : Expression) (o : ℕ) → Names V x → Names V (e.Member x o)
  member_fits x o p = term _ _ (member_is x o) p

  pub index_fits : (x : Expression) (m : ℕ) (y : Expression) → Names V x → Names V y → Names V (e.Index x m y)
  index_fits x m y p q = term _ _ (index_is x m y) (p, q)

  pub at_fits : (x y : Expression) → Names V x → Names V y → Names V (e.At x y)
  at_fits x y p q = term _ _ (at_is x y) (p, q)

  pub load_fits : (remote : Bool) (x : Expression) → Names V x → Names V (e.Load remote x)
  load_fits remote x p = term _ _ (load_is remote x) p

  pub unary_fits : (op : Op) (x : Expression) → Names V x → Names V (e.Unary op x)
  unary_fits op x p = term _ _ (unary_is op x) p

  pub binary_fits : (op : Op) (x y : Expression) → Names V x → Names V y → Names V (e.Binary op x y)
  binary_fits op x y p q = term _ _ (binary_is op x y) (p, q)

  pub and_fits : (x y : Expression) → Names V x → Names V y → Names V (e.And x y)
  and_fits x y p q = term _ _ (and_is x y) (p, q)

  pub or_fits : (x y : Expression) → Names V x → Names V y → Names V (e.Or x y)
  or_fits x y p q = term _ _ (or_is x y) (p, q)

  pub new_fits : (kind : Kind) (m : ℕ) → Names V (e.New kind m)
  new_fits kind m = term _ _ (new_is kind m) tt

  pub new_object_fits : (remote : Bool) (c : ℕ) (xs : List Expression) → AllName V xs → Names V (e.NewObject remote c xs)
  new_object_fits remote c xs p = term _ _ (new_object_is remote c xs) p

  pub call_fits : (how : How) (f : ℕ) (xs : List Expression) → AllName V xs → Names V (e.Call how f xs)
  call_fits how f xs p = term _ _ (call_is how f xs) p
