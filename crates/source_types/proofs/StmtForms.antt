-- When each form of a statement is typed.
use Rattle.cc_core.specs.Core as core
use Rattle.cc_core.specs.Names as names
use Rattle.cc_core.specs.Core.{Stmt}
use Rattle.core_types.specs.Types.{ValueType, AnInt, Pointer, Target, Cells, ObjectOf, Types}
use Rattle.core_types.specs.Types.{function_types, class_types, is_sync, IsKind, Passes, Allowed, IsCell, printed_types}
use Rattle.core_types.specs.Values.{World}
use Rattle.core_types.specs.Typing.{Scope, branch, IsCall, IsTyped, AreTyped}
use Rattle.std.proofs.Common.{◌≡◌, map, ℕ, Bool, true, false, List, [], ◌∷◌, ◌++◌, Some, sym, subst}
use Rattle.std.specs.Prelude.{slice_get}
use Rattle.cc_ops.specs.declared.kind.Kind.{Kind}
use Rattle.cc_core.specs.declared.expression.How.{How}
use Rattle.cc_core.specs.declared.expression.PrintPart.{PrintPart}
use Rattle.cc_core.specs.declared.expression.Expression.{Expression}
use Rattle.cc_core.specs.declared.statement.Statement.{Statement}
use Rattle.cc_core.specs.declared.statement.Statement.TheVariants as s
use Rattle.cc_core.specs.View.{how_of, part_of, stmt_of, stmts_of}
use Rattle.cc_core.proofs.ViewLaws.{empty_is, at_line_is, make_is, set_is, build_is, assign_is, drop_is, print_is, if_is, if_else_is}
use Rattle.cc_core.proofs.ViewLaws.{while_is, for_is, break_is, continue_is, par_is, parfor_is, spawn_is, return_is, block_is}
use Rattle.source_types.proofs.Fits.{Values, AllValues}
use Rattle.source_types.proofs.CallLaws.{Fitting}

module _ (program : core.Program) (y : Types) (world : World) (home : names.Name) (here : Scope) where
  abbrev pub StmtFits : Statement → Type 0
  StmtFits x = IsTyped program y world home here (stmt_of x)

  abbrev pub StmtsFit : List Statement → Type 0
  StmtsFit xs = AreTyped program y world home here (stmts_of xs)

  stmt : (x : Statement) (t : Stmt) → stmt_of x ≡ t → IsTyped program y world home here t → StmtFits x
  stmt x t is f = subst (λ z. IsTyped program y world home here z) (sym is) f

  pub empty_fits : StmtFits s.Empty
  empty_fits = stmt _ _ empty_is tt

  pub at_line_fits : (line : ℕ) (b : Statement) → StmtFits b → StmtFits (s.AtLine line b)
  at_line_fits line b f = stmt _ _ (at_line_is line b) f

  pub make_fits : (k : ℕ) (kind : Kind) (n : ℕ) (u : ValueType) → IsKind kind u → slice_get here.vars k ≡ Some (Cells (is_sync kind) u)
      → StmtFits (s.Make k kind n)
  make_fits k kind n u i is = stmt _ _ (make_is k kind n) (u, i, is)

  pub set_fits : (k : ℕ) (kind : Kind) (x : Expression) (u : ValueType) → IsKind kind u → slice_get here.vars k ≡ Some (Cells (is_sync kind) u)
      → Fitting program y world home here x u → StmtFits (s.Set k kind x)
  set_fits k kind x u i is f = stmt _ _ (set_is k kind x) (u, i, is, f)

  pub build_fits : (k c : ℕ) (es : List Expression) → slice_get here.vars k ≡ Some (ObjectOf c) → AllValues program y world home here es (class_types y c).params
      → StmtFits (s.Build k c es)
  build_fits k c es is f = stmt _ _ (build_is k c es) (is, f)

  pub assign_fits : (remote : Bool) (a x : Expression) (t : Target) (sync : Bool) (u : ValueType) → Values program y world home here a (Pointer remote t)
      → Fitting program y world home here x u → IsCell y t sync u → Passes remote u → Allowed here.waits remote → StmtFits (s.Assign remote a x)
  assign_fits remote a x t sync u f h cell ps w = stmt _ _ (assign_is remote a x) (t, sync, u, f, h, cell, ps, w)

  pub drop_fits : (x : Expression) (u : ValueType) → Values program y world home here x u → StmtFits (s.Drop x)
  drop_fits x u f = stmt _ _ (drop_is x) (u, f)

  pub print_fits : (parts : List PrintPart) (es : List Expression) → AllValues program y world home here es (printed_types (map part_of parts)) → StmtFits (s.Print parts es)
  print_fits parts es f = stmt _ _ (print_is parts es) f

  pub if_fits : (c : Expression) (b : Statement) → Values program y world home here c AnInt → StmtFits b → StmtFits (s.If c b)
  if_fits c b f h = stmt _ _ (if_is c b) (f, h)

  pub if_else_fits : (c : Expression) (a b : Statement) → Values program y world home here c AnInt → StmtFits a → StmtFits b → StmtFits (s.IfElse c a b)
  if_else_fits c a b f h i = stmt _ _ (if_else_is c a b) (f, h, i)

  pub while_fits : (c : Expression) (b : Statement) → Values program y world home here c AnInt → StmtFits b → StmtFits (s.While c b)
  while_fits c b f h = stmt _ _ (while_is c b) (f, h)

  pub for_fits : (c : Expression) (step b : Statement) → Values program y world home here c AnInt → StmtFits step → StmtFits b → StmtFits (s.For c step b)
  for_fits c step b f h i = stmt _ _ (for_is c step b) (f, h, i)

  pub break_fits : StmtFits s.Break
  break_fits = stmt _ _ break_is tt

  pub continue_fits : StmtFits s.Continue
  continue_fits = stmt _ _ continue_is tt

  pub spawn_fits : (h : How) (f : ℕ) (es : List Expression) (us : List ValueType) → IsCall (function_types y f) (how_of h) us
      → AllValues program y world home here es us → here.waits ≡ true → StmtFits (s.Spawn h f es)
  spawn_fits h f es us taken all w = stmt _ _ (spawn_is h f es) (us, taken, all, w)

  pub return_fits : (x : Expression) (u : ValueType) → here.returns ≡ Some u → Fitting program y world home here x u → StmtFits (s.Return x)
  return_fits x u is f = stmt _ _ (return_is x) (u, is, f)

  pub block_fits : (bs : List Statement) → StmtsFit bs → StmtFits (s.Block bs)
  block_fits bs f = stmt _ _ (block_is bs) f

  pub one_more : (xs : List Statement) (x : Statement) → StmtsFit xs → StmtFits x → StmtsFit (xs ++ x ∷ [])
  one_more [] x f h = (h, tt)
  one_more (z ∷ xs) x f h = (f.0, one_more xs x f.1 h)

module _ (program : core.Program) (y : Types) (world : World) (home : names.Name) (here : Scope) where
  pub par_fits : (bs : List Statement) → here.waits ≡ true → StmtsFit program y world home (branch here) bs → StmtFits program y world home here (s.Par bs)
  par_fits bs w f = stmt program y world home here _ _ (par_is bs) (w, f)

  pub parfor_fits : (k : ℕ) (start test : Expression) (line : ℕ) (value : Expression) (b : Statement) → here.waits ≡ true
      → slice_get here.vars k ≡ Some (Cells false AnInt) → Values program y world home here start AnInt → Values program y world home here test AnInt
      → Values program y world home here value AnInt → StmtFits program y world home (branch here) b → StmtFits program y world home here (s.ParFor k start test line value b)
  parfor_fits k start test line value b w is f h i j = stmt program y world home here _ _ (parfor_is k start test line value b) (w, is, f, h, i, j)
