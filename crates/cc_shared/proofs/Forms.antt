-- When each form of an expression has a sort, and each form of a statement is determinate.
use Rattle.std.proofs.Common.{◌≡◌, ◌≢◌, ℕ, ◌≤◌, Bool, true, false, List, [], ◌∷◌, ◌++◌, Some, refl, sym, subst}
use Rattle.std.specs.Prelude.{slice_get, get_or}
use Rattle.cc_ops.specs.Values.{last_offset}
use Rattle.cc_ops.specs.declared.kind.Kind.{Kind}
use Rattle.cc_ops.specs.declared.operator.Op.{Op}
use Rattle.cc_core.specs.declared.expression.Constant.{Constant}
use Rattle.cc_core.specs.declared.expression.How.{How}
use Rattle.cc_core.specs.declared.expression.PrintPart.{PrintPart}
use Rattle.cc_core.specs.declared.expression.Expression.{Expression}
use Rattle.cc_core.specs.declared.expression.Expression.TheVariants as e
use Rattle.cc_core.specs.declared.statement.Statement.{Statement}
use Rattle.cc_core.specs.declared.statement.Statement.TheVariants as s
use Rattle.cc_core.specs.Core.{Term, Stmt}
use Rattle.cc_core.specs.Types.{ValueType, AnAddress, Target, Cells, ObjectOf, FunctionTypes, Types, function_types, declares}
use Rattle.cc_core.specs.View.{term_of, how_of, stmt_of, stmts_of}
use Rattle.cc_core.proofs.ViewLaws.{push_is, this_is, variable_is, member_is, index_is, at_is, load_is, unary_is, binary_is, and_is, or_is, new_is}
use Rattle.cc_core.proofs.ViewLaws.{new_object_is, call_is, empty_is, at_line_is, make_is, set_is, build_is, assign_is, drop_is, print_is, if_is, if_else_is}
use Rattle.cc_core.proofs.ViewLaws.{while_is, for_is, break_is, continue_is, par_is, parfor_is, spawn_is, return_is, block_is}
use Rattle.cc_one_answer.specs.Sorts.{Sort, Valued, MemberAt, variable_sort, is_sync, IsCell, IsElement}
use Rattle.cc_one_answer.specs.Determinate.{IsTaken, DetTerm, MayWrite, DetStmt, DetStmts, DetBranches}
use Rattle.cc_shared.proofs.Det.{Sorted, Values, AllValues, Leads}

module _ (y : Types) (main : ℕ) (here : FunctionTypes) where
  -- ---- expressions

  sorted : (x : Expression) (t : Term) (q : Sort) → term_of x ≡ t → DetTerm y main here t q → Sorted y main here x q
  sorted x t q is f = subst (λ z. DetTerm y main here z q) (sym is) f

  valued : (x : Expression) (t : Term) (u : ValueType) → term_of x ≡ t → DetTerm y main here t (Valued u) → Values y main here x u
  valued x t u is f = sorted x t (Valued u) is f

  pub push_values : (c : Constant) (u : ValueType) → Values y main here (e.Push c) u
  push_values c u = valued _ _ u (push_is c) tt

  pub this_values : (c : ℕ) → here.this ≡ Some c → Values y main here e.This (AnAddress (ObjectOf c))
  this_values c is = valued _ _ _ this_is (c, is, refl)

  pub variable_sorts : (k : ℕ) (a : Target) → slice_get here.vars k ≡ Some a → Sorted y main here (e.Variable k) (variable_sort a)
  variable_sorts k a is = sorted _ _ _ (variable_is k) (a, is, refl)

  pub member_sorts : (x : Expression) (o c : ℕ) → o ≤ last_offset → Values y main here x (AnAddress (ObjectOf c))
      → Sorted y main here (e.Member x o) (MemberAt c o)
  member_sorts x o c le f = sorted _ _ _ (member_is x o) (c, le, f, refl)

  pub index_sorts : (x : Expression) (n : ℕ) (i : Expression) (q r : Sort) (u : ValueType) → IsElement y n q r → Sorted y main here x q → Values y main here i u
      → Sorted y main here (e.Index x n i) r
  index_sorts x n i q r u is f h = sorted _ _ _ (index_is x n i) (q, Valued u, is, f, h)

  pub at_sorts : (x i : Expression) (sync : Bool) (u z : ValueType) → Values y main here x (AnAddress (Cells sync u)) → Values y main here i z
      → Sorted y main here (e.At x i) (Valued (AnAddress (Cells sync u)))
  at_sorts x i sync u z f h = sorted _ _ _ (at_is x i) (sync, u, Valued z, refl, f, h)

  pub load_values : (remote : Bool) (x : Expression) (sync : Bool) (u : ValueType) → Leads y main here x sync u → Values y main here (e.Load remote x) u
  load_values remote x sync u l = valued _ _ _ (load_is remote x) (l.0, sync, u, l.2, refl, l.1)

  pub unary_values : (op : Op) (x : Expression) (u w : ValueType) → Values y main here x u → Values y main here (e.Unary op x) w
  unary_values op x u w f = valued _ _ _ (unary_is op x) (Valued u, f)

  pub binary_values : (op : Op) (a b : Expression) (u v w : ValueType) → Values y main here a u → Values y main here b v → Values y main here (e.Binary op a b) w
  binary_values op a b u v w f h = valued _ _ _ (binary_is op a b) (Valued u, Valued v, f, h)

  pub and_values : (a b : Expression) (u v w : ValueType) → Values y main here a u → Values y main here b v → Values y main here (e.And a b) w
  and_values a b u v w f h = valued _ _ _ (and_is a b) (Valued u, Valued v, f, h)

  pub or_values : (a b : Expression) (u v w : ValueType) → Values y main here a u → Values y main here b v → Values y main here (e.Or a b) w
  or_values a b u v w f h = valued _ _ _ (or_is a b) (Valued u, Valued v, f, h)

  pub new_values : (kind : Kind) (n : ℕ) (u : ValueType) → Values y main here (e.New kind n) (AnAddress (Cells (is_sync kind) u))
  new_values kind n u = valued _ _ _ (new_is kind n) (u, refl)

  pub new_object_values : (remote : Bool) (c : ℕ) (es : List Expression) → AllValues y main here es (get_or y.makers c [])
      → Values y main here (e.NewObject remote c es) (AnAddress (ObjectOf c))
  new_object_values remote c es f = valued _ _ _ (new_object_is remote c es) (f, refl)

  pub call_values : (h : How) (f : ℕ) (es : List Expression) (us : List ValueType) → IsTaken y (how_of h) f us → f ≢ main → AllValues y main here es us
      → Values y main here (e.Call h f es) (function_types y f).result
  call_values h f es us taken ne all = valued _ _ _ (call_is h f es) (us, taken, ne, refl, all)

  pub no_values : AllValues y main here [] []
  no_values = refl

  pub more_values : (x : Expression) (es : List Expression) (u : ValueType) (us : List ValueType) → Values y main here x u → AllValues y main here es us
      → AllValues y main here (x ∷ es) (u ∷ us)
  more_values x es u us f all = (u, us, refl, f, all)

  -- ---- statements

  abbrev pub StmtFits : Bool → List ℕ → Statement → Type 0
  StmtFits prints own x = DetStmt y main here prints own (stmt_of x)

  abbrev pub StmtsFit : Bool → List ℕ → List Statement → Type 0
  StmtsFit prints own xs = DetStmts y main here prints own (stmts_of xs)

  abbrev pub BranchesFit : List Statement → Type 0
  BranchesFit xs = DetBranches y main here (stmts_of xs)

  module _ (prints : Bool) (own : List ℕ) where
    stmt : (x : Statement) (t : Stmt) → stmt_of x ≡ t → DetStmt y main here prints own t → StmtFits prints own x
    stmt x t is f = subst (λ z. DetStmt y main here prints own z) (sym is) f

    pub empty_fits : StmtFits prints own s.Empty
    empty_fits = stmt _ _ empty_is tt

    pub at_line_fits : (line : ℕ) (b : Statement) → StmtFits prints own b → StmtFits prints own (s.AtLine line b)
    at_line_fits line b f = stmt _ _ (at_line_is line b) f

    pub make_fits : (k : ℕ) (kind : Kind) (n : ℕ) (u : ValueType) → slice_get here.vars k ≡ Some (Cells (is_sync kind) u)
        → StmtFits prints own (s.Make k kind n)
    make_fits k kind n u is = stmt _ _ (make_is k kind n) (u, is)

    pub set_fits : (k : ℕ) (kind : Kind) (x : Expression) (u : ValueType) → slice_get here.vars k ≡ Some (Cells (is_sync kind) u)
        → Values y main here x u → StmtFits prints own (s.Set k kind x)
    set_fits k kind x u is f = stmt _ _ (set_is k kind x) (u, is, f)

    pub build_fits : (k c : ℕ) (es : List Expression) → slice_get here.vars k ≡ Some (ObjectOf c) → AllValues y main here es (get_or y.makers c [])
        → StmtFits prints own (s.Build k c es)
    build_fits k c es is f = stmt _ _ (build_is k c es) (is, f)

    pub assign_fits : (remote : Bool) (a x : Expression) (q : Sort) (sync : Bool) (u : ValueType) → IsCell y q sync u
        → MayWrite y main here sync u q own (term_of a) → Sorted y main here a q → Values y main here x u → StmtFits prints own (s.Assign remote a x)
    assign_fits remote a x q sync u cell may f h = stmt _ _ (assign_is remote a x) (q, sync, u, cell, may, f, h)

    pub drop_fits : (x : Expression) (u : ValueType) → Values y main here x u → StmtFits prints own (s.Drop x)
    drop_fits x u f = stmt _ _ (drop_is x) (Valued u, f)

    pub print_fits : (parts : List PrintPart) (es : List Expression) (us : List ValueType) → prints ≡ true → AllValues y main here es us
        → StmtFits prints own (s.Print parts es)
    print_fits parts es us is f = stmt _ _ (print_is parts es) (us, is, f)

    pub if_fits : (c : Expression) (b : Statement) (u : ValueType) → Values y main here c u → StmtFits prints own b → StmtFits prints own (s.If c b)
    if_fits c b u f h = stmt _ _ (if_is c b) (Valued u, f, h)

    pub if_else_fits : (c : Expression) (a b : Statement) (u : ValueType) → Values y main here c u → StmtFits prints own a → StmtFits prints own b
        → StmtFits prints own (s.IfElse c a b)
    if_else_fits c a b u f h i = stmt _ _ (if_else_is c a b) (Valued u, f, h, i)

    pub while_fits : (c : Expression) (b : Statement) (u : ValueType) → Values y main here c u → StmtFits prints own b → StmtFits prints own (s.While c b)
    while_fits c b u f h = stmt _ _ (while_is c b) (Valued u, f, h)

    pub for_fits : (c : Expression) (step b : Statement) (u : ValueType) → declares (stmt_of step) own ≡ own → Values y main here c u
        → StmtFits prints own step → StmtFits prints own b → StmtFits prints own (s.For c step b)
    for_fits c step b u same f h i = stmt _ _ (for_is c step b) (Valued u, same, f, h, i)

    pub break_fits : StmtFits prints own s.Break
    break_fits = stmt _ _ break_is tt

    pub continue_fits : StmtFits prints own s.Continue
    continue_fits = stmt _ _ continue_is tt

    pub par_fits : (bs : List Statement) → BranchesFit bs → StmtFits prints own (s.Par bs)
    par_fits bs f = stmt _ _ (par_is bs) f

    pub parfor_fits : (k : ℕ) (start test : Expression) (line : ℕ) (value : Expression) (b : Statement) (u w : ValueType)
        → slice_get here.vars k ≡ Some (Cells false u) → Values y main here start u → Values y main here test w → Values y main here value u
        → StmtFits false (k ∷ []) b → StmtFits prints own (s.ParFor k start test line value b)
    parfor_fits k start test line value b u w is f h i j =
        stmt _ _ (parfor_is k start test line value b) (u, Valued w, is, f, h, i, j)

    pub spawn_fits : (h : How) (f : ℕ) (es : List Expression) (us : List ValueType) → IsTaken y (how_of h) f us → f ≢ main → AllValues y main here es us
        → StmtFits prints own (s.Spawn h f es)
    spawn_fits h f es us taken ne all = stmt _ _ (spawn_is h f es) (us, taken, ne, all)

    pub return_fits : (x : Expression) → Values y main here x here.result → StmtFits prints own (s.Return x)
    return_fits x f = stmt _ _ (return_is x) f

    pub block_fits : (bs : List Statement) → StmtsFit prints own bs → StmtFits prints own (s.Block bs)
    block_fits bs f = stmt _ _ (block_is bs) f

  -- ---- lists of statements

  -- what some statements declare
  abbrev pub declares_all : List Statement → List ℕ → List ℕ
  declares_all [] own = own
  declares_all (x ∷ xs) own = declares_all xs (declares (stmt_of x) own)

  pub declares_more : (xs : List Statement) (x : Statement) (own : List ℕ)
      → declares_all (xs ++ x ∷ []) own ≡ declares (stmt_of x) (declares_all xs own)
  declares_more [] x own = refl
  declares_more (z ∷ xs) x own = declares_more xs x (declares (stmt_of z) own)

  pub one_more : (prints : Bool) (own : List ℕ) (xs : List Statement) (x : Statement) → StmtsFit prints own xs → StmtFits prints (declares_all xs own) x
      → StmtsFit prints own (xs ++ x ∷ [])
  one_more prints own [] x f h = (h, tt)
  one_more prints own (z ∷ xs) x f h = (f.0, one_more prints (declares (stmt_of z) own) xs x f.1 h)

  pub one_branch : (xs : List Statement) (x : Statement) → BranchesFit xs → StmtFits false [] x → BranchesFit (xs ++ x ∷ [])
  one_branch [] x f h = (h, tt)
  one_branch (z ∷ xs) x f h = (f.0, one_branch xs x f.1 h)
