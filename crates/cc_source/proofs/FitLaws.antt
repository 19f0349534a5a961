-- When each form of an expression and of a statement fits.
use Rattle.std.proofs.Common.{◌≡◌, ℕ, suc, ◌<◌, ◌≤◌, Bool, true, false, List, [], ◌∷◌, ◌++◌, length, map, refl, sym, ap, subst, arith}
use Rattle.cc_ops.specs.Operators.{takes}
use Rattle.cc_ops.specs.declared.kind.Kind.{Kind}
use Rattle.cc_ops.specs.declared.operator.Op.{Op}
use Rattle.cc_core.specs.declared.expression.Constant.{Constant}
use Rattle.cc_core.specs.declared.expression.How.{How}
use Rattle.cc_core.specs.declared.expression.PrintPart.{PrintPart}
use Rattle.cc_core.specs.declared.expression.Expression.{Expression}
use Rattle.cc_core.specs.declared.expression.Expression.TheVariants as e
use Rattle.cc_core.specs.declared.statement.Statement.{Statement}
use Rattle.cc_core.specs.declared.statement.Statement.TheVariants as s
use Rattle.cc_core.specs.Core.{Term, Stmt, Shapes}
use Rattle.cc_core.specs.Source.{width, values, IsCalled, InLoop}
use Rattle.cc_core.specs.View.{term_of, terms_of, how_of, part_of, stmt_of}
use Rattle.cc_core.proofs.ViewLaws.{push_is, this_is, variable_is, member_is, index_is, at_is, load_is, unary_is, binary_is, and_is, or_is, new_is}
use Rattle.cc_core.proofs.ViewLaws.{new_object_is, call_is, empty_is, at_line_is, make_is, set_is, build_is, assign_is, drop_is, print_is, if_is, if_else_is}
use Rattle.cc_core.proofs.ViewLaws.{while_is, for_is, break_is, continue_is, par_is, parfor_is, spawn_is, return_is, block_is}
use Rattle.cc_scopes.specs.declared.state.State.{State}
use Rattle.cc_source.proofs.Fits.{Clean, IsMade, TermFits, StmtFits, ExpressionFits, StatementFits, ExpressionsFit, StatementsFit}

-- ---- lists

pub width_of : (es : List Expression) → width (terms_of es) ≡ length es
width_of [] = refl
width_of (e ∷ es) = ap suc (width_of es)

some : (m : ℕ) → 1 ≤ m → 0 < m
some m p = omega (arith, p)

module _ (h : Shapes) (last : State) where
  pub before_them : (e : Expression) (es : List Expression) → ExpressionFits h last e → ExpressionsFit h last es → ExpressionsFit h last (e ∷ es)
  before_them e es p q = ((p.0, q.0), (p.1, q.1))

  pub one_more : (es : List Expression) (e : Expression) → ExpressionsFit h last es → ExpressionFits h last e → ExpressionsFit h last (es ++ e ∷ [])
  one_more [] e p q = before_them e [] q p
  one_more (x ∷ es) e p q = before_them x (es ++ e ∷ []) (p.0.0, p.1.0) (one_more es e (p.0.1, p.1.1) q)

  -- ---- expressions

  term : (e : Expression) (t : Term) → term_of e ≡ t → TermFits h last t → ExpressionFits h last e
  term e t is p = subst (λ x. TermFits h last x) (sym is) p

  pub push_fits : (c : Constant) → ExpressionFits h last (e.Push c)
  push_fits c = term _ _ (push_is c) (tt, tt)

  pub this_fits : ExpressionFits h last e.This
  this_fits = term _ _ this_is (tt, tt)

  pub variable_fits : (k : ℕ) → k < length last.made → ExpressionFits h last (e.Variable k)
  variable_fits k p = term _ _ (variable_is k) (tt, p)

  pub member_fits : (x : Expression) (o : ℕ) → ExpressionFits h last x → ExpressionFits h last (e.Member x o)
  member_fits x o p = term _ _ (member_is x o) p

  pub index_fits : (x : Expression) (m : ℕ) (y : Expression) → ExpressionFits h last x → ExpressionFits h last y → 1 ≤ m
      → ExpressionFits h last (e.Index x m y)
  index_fits x m y p q r = term _ _ (index_is x m y) ((p.0, q.0), (p.1, q.1, some m r))

  pub at_fits : (x y : Expression) → ExpressionFits h last x → ExpressionFits h last y → ExpressionFits h last (e.At x y)
  at_fits x y p q = term _ _ (at_is x y) ((p.0, q.0), (p.1, q.1))

  pub load_fits : (remote : Bool) (x : Expression) → ExpressionFits h last x → ExpressionFits h last (e.Load remote x)
  load_fits remote x p = term _ _ (load_is remote x) p

  pub unary_fits : (op : Op) (x : Expression) → takes op ≡ 1 → ExpressionFits h last x → ExpressionFits h last (e.Unary op x)
  unary_fits op x o p = term _ _ (unary_is op x) ((p.0, o), p.1)

  pub binary_fits : (op : Op) (x y : Expression) → takes op ≡ 2 → ExpressionFits h last x → ExpressionFits h last y
      → ExpressionFits h last (e.Binary op x y)
  binary_fits op x y o p q = term _ _ (binary_is op x y) ((p.0, q.0, o), (p.1, q.1))

  pub and_fits : (x y : Expression) → ExpressionFits h last x → ExpressionFits h last y → ExpressionFits h last (e.And x y)
  and_fits x y p q = term _ _ (and_is x y) ((p.0, q.0), (p.1, q.1))

  pub or_fits : (x y : Expression) → ExpressionFits h last x → ExpressionFits h last y → ExpressionFits h last (e.Or x y)
  or_fits x y p q = term _ _ (or_is x y) ((p.0, q.0), (p.1, q.1))

  pub new_fits : (kind : Kind) (m : ℕ) → 1 ≤ m → ExpressionFits h last (e.New kind m)
  new_fits kind m p = term _ _ (new_is kind m) (tt, some m p)

  pub new_object_fits : (remote : Bool) (c : ℕ) (es : List Expression) → ExpressionsFit h last es → IsMade h last c (terms_of es)
      → ExpressionFits h last (e.NewObject remote c es)
  new_object_fits remote c es p q = term _ _ (new_object_is remote c es) ((p.0, q.1), (p.1, q.0))

  pub call_fits : (how : How) (f : ℕ) (es : List Expression) → ExpressionsFit h last es → IsCalled h (how_of how) f (terms_of es)
      → ExpressionFits h last (e.Call how f es)
  call_fits how f es p q = term _ _ (call_is how f es) ((p.0, q), p.1)

  -- ---- statements, in a loop or not

  stmt : (l : Bool) (s : Statement) (t : Stmt) → stmt_of s ≡ t → StmtFits h last l t → StatementFits h last l s
  stmt l s t is p = subst (λ x. StmtFits h last l x) (sym is) p

  pub while_fits : (l : Bool) (x : Expression) (b : Statement) → ExpressionFits h last x → StatementFits h last true b
      → StatementFits h last l (s.While x b)
  while_fits l x b p q = stmt l _ _ (while_is x b) ((λ c. (p.0, q.0 c)), (p.1, q.1))

  pub for_fits : (l : Bool) (x : Expression) (b c : Statement) → ExpressionFits h last x → StatementFits h last false b → StatementFits h last true c
      → StatementFits h last l (s.For x b c)
  for_fits l x b c p q r = stmt l _ _ (for_is x b c) ((λ d. (p.0, q.0 d, r.0 d)), (p.1, q.1, r.1))

  pub par_fits : (l : Bool) (bs : List Statement) → StatementsFit h last false bs → StatementFits h last l (s.Par bs)
  par_fits l bs p = stmt l _ _ (par_is bs) p

  pub parfor_fits : (l : Bool) (k : ℕ) (x y : Expression) (line : ℕ) (z : Expression) (b : Statement) → k < length last.made
      → ExpressionFits h last x → ExpressionFits h last y → ExpressionFits h last z → StatementFits h last false b
      → StatementFits h last l (s.ParFor k x y line z b)
  parfor_fits l k x y line z b i p q r t =
      stmt l _ _ (parfor_is k x y line z b) ((λ c. (p.0, q.0, r.0, t.0 c)), (p.1, q.1, r.1, t.1, i))

  module _ (l : Bool) where
    pub none_fit : StatementsFit h last l []
    none_fit = ((λ c. tt), tt)

    pub one_more_statement : (ss : List Statement) (s : Statement) → StatementsFit h last l ss → StatementFits h last l s
        → StatementsFit h last l (ss ++ s ∷ [])
    one_more_statement [] s p q = ((λ c. (q.0 c, tt)), (q.1, tt))
    one_more_statement (x ∷ ss) s p q =
        let rest = one_more_statement ss s (λ c. (p.0 c).1, p.1.1) q in ((λ c. ((p.0 c).0, rest.0 c)), (p.1.0, rest.1))

    pub empty_fits : StatementFits h last l s.Empty
    empty_fits = stmt l _ _ empty_is ((λ c. tt), tt)

    pub at_line_fits : (line : ℕ) (b : Statement) → StatementFits h last l b → StatementFits h last l (s.AtLine line b)
    at_line_fits line b p = stmt l _ _ (at_line_is line b) p

    pub make_fits : (k : ℕ) (kind : Kind) (m : ℕ) → k < length last.made → 1 ≤ m → StatementFits h last l (s.Make k kind m)
    make_fits k kind m p q = stmt l _ _ (make_is k kind m) ((λ c. tt), (p, some m q))

    pub set_fits : (k : ℕ) (kind : Kind) (x : Expression) → k < length last.made → ExpressionFits h last x → StatementFits h last l (s.Set k kind x)
    set_fits k kind x p q = stmt l _ _ (set_is k kind x) ((λ c. q.0), (q.1, p))

    pub build_fits : (k c : ℕ) (es : List Expression) → k < length last.made → ExpressionsFit h last es → IsMade h last c (terms_of es)
        → StatementFits h last l (s.Build k c es)
    build_fits k c es p q r = stmt l _ _ (build_is k c es) ((λ d. (q.0, r.1)), (q.1, p, r.0))

    pub assign_fits : (remote : Bool) (x y : Expression) → ExpressionFits h last x → ExpressionFits h last y
        → StatementFits h last l (s.Assign remote x y)
    assign_fits remote x y p q = stmt l _ _ (assign_is remote x y) ((λ c. (p.0, q.0)), (p.1, q.1))

    pub drop_fits : (x : Expression) → ExpressionFits h last x → StatementFits h last l (s.Drop x)
    drop_fits x p = stmt l _ _ (drop_is x) ((λ c. p.0), p.1)

    pub print_fits : (parts : List PrintPart) (es : List Expression) → ExpressionsFit h last es → width (terms_of es) ≡ values (map part_of parts)
        → StatementFits h last l (s.Print parts es)
    print_fits parts es p q = stmt l _ _ (print_is parts es) ((λ c. (p.0, q)), p.1)

    pub if_fits : (x : Expression) (b : Statement) → ExpressionFits h last x → StatementFits h last l b → StatementFits h last l (s.If x b)
    if_fits x b p q = stmt l _ _ (if_is x b) ((λ c. (p.0, q.0 c)), (p.1, q.1))

    pub if_else_fits : (x : Expression) (b c : Statement) → ExpressionFits h last x → StatementFits h last l b → StatementFits h last l c
        → StatementFits h last l (s.IfElse x b c)
    if_else_fits x b c p q r = stmt l _ _ (if_else_is x b c) ((λ d. (p.0, q.0 d, r.0 d)), (p.1, q.1, r.1))

    pub break_fits : (Clean last → InLoop l) → StatementFits h last l s.Break
    break_fits p = stmt l _ _ break_is (p, tt)

    pub continue_fits : (Clean last → InLoop l) → StatementFits h last l s.Continue
    continue_fits p = stmt l _ _ continue_is (p, tt)

    pub spawn_fits : (how : How) (f : ℕ) (es : List Expression) → ExpressionsFit h last es → IsCalled h (how_of how) f (terms_of es)
        → StatementFits h last l (s.Spawn how f es)
    spawn_fits how f es p q = stmt l _ _ (spawn_is how f es) ((λ c. (p.0, q)), p.1)

    pub return_fits : (x : Expression) → ExpressionFits h last x → StatementFits h last l (s.Return x)
    return_fits x p = stmt l _ _ (return_is x) ((λ c. p.0), p.1)

    pub block_fits : (ss : List Statement) → StatementsFit h last l ss → StatementFits h last l (s.Block ss)
    block_fits ss p = stmt l _ _ (block_is ss) p
