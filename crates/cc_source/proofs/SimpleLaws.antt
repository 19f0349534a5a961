-- Statements that hold no statement.
use Rattle.std.proofs.Common.{◌≡◌, ℕ, suc, ◌+◌, Bool, true, false, not, ◌∙◌, sym, ap, subst, List, [], ◌∷◌, ◌++◌, length, map, Option, Some, None, refl, arith, length-append, zero-add}
use Rattle.std.proofs.Math.Nat.{suc-add}
use Rattle.std.proofs.lemmas.Bool.{true≢false}
use Rattle.cc_core.specs.declared.expression.Constant.TheVariants as constant
use Rattle.cc_core.specs.declared.expression.Expression.{Expression, out-Expression, roll-Expression, roll-out-Expression, fold-roll-Expression}
use Rattle.cc_core.specs.declared.expression.Expression.TheVariants as e
use Rattle.cc_core.specs.declared.expression.Expression.TheOpen.{Expression-F}
use Rattle.cc_core.specs.declared.expression.PrintPart.{PrintPart}
use Rattle.cc_core.specs.declared.expression.PrintPart.TheVariants as part
use Rattle.cc_core.specs.declared.statement.Statement.{Statement}
use Rattle.cc_core.specs.declared.statement.Statement.TheVariants as s
use Rattle.cc_core.specs.Core.{Shapes, Term}
use Rattle.cc_core.specs.Source.{values, InLoop}
use Rattle.cc_core.specs.View.{term_of, term_with, part_of}
use Rattle.cc_names.specs.declared.rule.StaticRule.{StaticRule}
use Rattle.cc_names.specs.declared.rule.StaticRule.TheVariants as r
use Rattle.cc_tree.specs.declared.expressions.Expr.{Expr}
use Rattle.cc_tree.specs.declared.statements.PrintItem.{PrintItem}
use Rattle.cc_tree.specs.declared.statements.PrintItem.TheVariants as item'
use Rattle.cc_scopes.specs.declared.state.State.{State}
use Rattle.cc_scopes.specs.declared.typed.Typed.{Typed}
use Rattle.cc_scopes.specs.declared.typed.Typed.TheVariants as typed
use Rattle.cc_scopes.specs.declared.types.Ty.TheVariants as ty
use Rattle.cc_scopes.specs.Scope.{Context}
use Rattle.cc_elaboration.specs.Simple.{no_value, term_or_none, int_value, dropped, call, spawned_by, spawned, spawn, with_number, printed_value}
use Rattle.cc_elaboration.specs.Simple.{printed_item, printed_from, share_print, prints_alone, print, note_if, is_void, return_value, return_from_void, return_some, return_nothing, returned, give, jump}
use Rattle.cc_source.proofs.Runs.{IfThere, Anything, given, always, gives, bind, next, done}
use Rattle.cc_source.proofs.FitLaws.{width_of, one_more, push_fits, empty_fits, drop_fits, print_fits, spawn_fits, return_fits}
use Rattle.cc_source.proofs.Fits.{Clean, TermFits, ExpressionFits, ExpressionsFit, StatementFits}
use Rattle.cc_source.proofs.Sound.{Reads, TypedFits}
use Rattle.cc_source.proofs.StateLaws.{share_runs, block_runs}
use Rattle.cc_source.proofs.ScopeLaws.{note_rule_runs}
use Rattle.cc_source.proofs.ExpressionLaws.{expr_runs, operand_runs, fitting_runs}

-- ---- what is printed

abbrev PrintedFits : Shapes → State → List PrintPart → List Expression → Type 0
PrintedFits h last parts es = ExpressionsFit h last es × (values (map part_of parts) ≡ length es)

values_append : (xs : List PrintPart) (x : PrintPart) (k : ℕ) → values (map part_of (x ∷ [])) ≡ k → values (map part_of (xs ++ x ∷ [])) ≡ values (map part_of xs) + k
values_append [] x k is = is ∙ sym (zero-add k)
values_append (part.Number ∷ xs) x k is = ap suc (values_append xs x k is) ∙ sym (suc-add (values (map part_of xs)) k)
values_append (part.Text bytes ∷ xs) x k is = values_append xs x k is
values_append (part.Endl ∷ xs) x k is = values_append xs x k is

more_values : (xs : List PrintPart) (es : List Expression) (v : Expression) → values (map part_of xs) ≡ length es
    → values (map part_of (xs ++ part.Number ∷ [])) ≡ length (es ++ v ∷ [])
more_values xs es v is =
    let a : values (map part_of (xs ++ part.Number ∷ [])) ≡ values (map part_of xs) + 1 = values_append xs part.Number 1 refl in
    let b : length (es ++ v ∷ []) ≡ length es + 1 = length-append es (v ∷ []) in
    omega (arith, a, b, is)

as_many_values : (xs : List PrintPart) (x : PrintPart) (k : ℕ) → values (map part_of (x ∷ [])) ≡ 0 → values (map part_of xs) ≡ k
    → values (map part_of (xs ++ x ∷ [])) ≡ k
as_many_values xs x k none is =
    let a : values (map part_of (xs ++ x ∷ [])) ≡ values (map part_of xs) + 0 = values_append xs x 0 none in
    omega (arith, a, is)

-- ---- a call in a thread of its own

module _ (h : Shapes) (last : State) (l : Bool) where
  spawned_rolled : (x : Expression-F Expression) → ExpressionFits h last (roll-Expression x) → StatementFits h last l (spawned_by x)
  unfolding term_of
  spawned_rolled (Expression-F.Call how f es) p =
      let q : TermFits h last (term_with (Expression-F.Call how f (map term_of es))) =
      subst (λ t. TermFits h last t) (fold-roll-Expression Term term_with (Expression-F.Call how f es)) p in
      spawn_fits h last l how f es (q.0.0, q.1) q.0.1
  spawned_rolled (Expression-F.Push c) p = empty_fits h last l
  spawned_rolled Expression-F.This p = empty_fits h last l
  spawned_rolled (Expression-F.Variable k) p = empty_fits h last l
  spawned_rolled (Expression-F.Member a o) p = empty_fits h last l
  spawned_rolled (Expression-F.Index a k b) p = empty_fits h last l
  spawned_rolled (Expression-F.At a b) p = empty_fits h last l
  spawned_rolled (Expression-F.Load remote a) p = empty_fits h last l
  spawned_rolled (Expression-F.Unary op a) p = empty_fits h last l
  spawned_rolled (Expression-F.Binary op a b) p = empty_fits h last l
  spawned_rolled (Expression-F.And a b) p = empty_fits h last l
  spawned_rolled (Expression-F.Or a b) p = empty_fits h last l
  spawned_rolled (Expression-F.New kind k) p = empty_fits h last l
  spawned_rolled (Expression-F.NewObject remote c es) p = empty_fits h last l

  spawned_by_fits : (x : Expression) → ExpressionFits h last x → StatementFits h last l (spawned_by (out-Expression x))
  spawned_by_fits x p = spawned_rolled (out-Expression x) (subst (λ y. ExpressionFits h last y) (sym (roll-out-Expression x)) p)

  spawned_fits : (t : Typed) → TypedFits h last t → StatementFits h last l (spawned t)
  spawned_fits (typed.Value v) p = spawned_by_fits v.term p
  spawned_fits typed.Broken p = empty_fits h last l
  spawned_fits typed.Spoiled p = empty_fits h last l
  spawned_fits (typed.This class remote) p = empty_fits h last l
  spawned_fits (typed.Constant term value) p = empty_fits h last l
  spawned_fits (typed.Place q) p = empty_fits h last l
  spawned_fits (typed.Array q k) p = empty_fits h last l
  spawned_fits (typed.Object o) p = empty_fits h last l

  dropped_fits : (t : Typed) → TypedFits h last t → StatementFits h last l (dropped t)
  dropped_fits (typed.Value v) p = drop_fits h last l v.term p
  dropped_fits typed.Broken p = empty_fits h last l
  dropped_fits typed.Spoiled p = empty_fits h last l
  dropped_fits (typed.This class remote) p = empty_fits h last l
  dropped_fits (typed.Constant term value) p = empty_fits h last l
  dropped_fits (typed.Place q) p = empty_fits h last l
  dropped_fits (typed.Array q k) p = empty_fits h last l
  dropped_fits (typed.Object o) p = empty_fits h last l

module _ (h : Shapes) (last : State) where
  pub no_value_fits : ExpressionFits h last no_value
  no_value_fits = push_fits h last constant.Null

  term_or_none_fits : (o : Option Expression) → IfThere (ExpressionFits h last) o → ExpressionFits h last (term_or_none o)
  term_or_none_fits None p = no_value_fits
  term_or_none_fits (Some x) p = p

module _ (h : Shapes) (last : State) (cx : Context) where
  share_print_runs : (b : Bool) {P : Type 0} → Reads h last cx P (share_print b cx) Anything
  share_print_runs true = done tt (λ x. tt)
  share_print_runs false = share_runs h last cx _ cx.line

  -- where no rule is broken, there is none to note
  pub note_if_runs : (b : Bool) (rule : StaticRule) {P : Type 0} → Reads h last cx P (note_if b cx rule) (λ u. Clean last → b ≡ false)
  note_if_runs true rule = gives (λ u never clean. absurd (never clean)) (note_rule_runs h last cx rule)
  note_if_runs false rule = done tt (λ x clean. refl)

  pub int_value_runs : (e : Expr) → Reads h last cx (Unit {0}) (int_value cx e) (ExpressionFits h last)
  unfolding int_value
  int_value_runs e = bind (fitting_runs h last cx ty.Int e) (λ t. done (term_or_none t) (λ x. term_or_none_fits h last t x.1))

  pub call_statement_runs : (e : Expr) → Reads h last cx (Unit {0}) (call cx e) (StatementFits h last cx.in_loop)
  unfolding call
  call_statement_runs e = bind (expr_runs h last cx e) (λ t. done (dropped t) (λ x. dropped_fits h last cx.in_loop t x.1))

  pub spawn_runs : (e : Expr) → Reads h last cx (Unit {0}) (spawn cx e) (StatementFits h last cx.in_loop)
  unfolding spawn
  spawn_runs e = next (block_runs h last cx cx.line) (bind (expr_runs h last cx e) (λ t. done (spawned t) (λ x. spawned_fits h last cx.in_loop t x.1)))

  -- ---- cout

  printed_value_runs : (parts : List PrintPart) (es : List Expression) (e : Expr)
      → Reads h last cx (PrintedFits h last parts es) (printed_value cx (record { parts = parts; values = es }) e) (λ q. PrintedFits h last q.parts q.values)
  unfolding printed_value
  printed_value_runs parts es e = bind (always (int_value_runs e)) (λ v. done (with_number (record { parts = parts; values = es }) v) (λ x.
      (one_more h last es v x.0.0 x.1, more_values parts es v x.0.1)))

  printed_item_runs : (parts : List PrintPart) (es : List Expression) (i : PrintItem)
      → Reads h last cx (PrintedFits h last parts es) (printed_item cx (record { parts = parts; values = es }) i) (λ q. PrintedFits h last q.parts q.values)
  printed_item_runs parts es (item'.Value e) = printed_value_runs parts es e
  printed_item_runs parts es (item'.Str bytes) = done _ (λ x. (x.0, as_many_values parts (part.Text bytes) (length es) refl x.1))
  printed_item_runs parts es item'.Endl = done _ (λ x. (x.0, as_many_values parts part.Endl (length es) refl x.1))

  printed_from_runs : (parts : List PrintPart) (es : List Expression) (is : List PrintItem)
      → Reads h last cx (PrintedFits h last parts es) (printed_from cx (record { parts = parts; values = es }) is) (λ q. PrintedFits h last q.parts q.values)
  printed_from_runs parts es [] = done _ (λ x. x)
  printed_from_runs parts es (i ∷ is) = bind (printed_item_runs parts es i) (λ q. given (λ x. x.1) (printed_from_runs q.parts q.values is))

  pub print_runs : (is : List PrintItem) → Reads h last cx (Unit {0}) (print cx is) (StatementFits h last cx.in_loop)
  unfolding print
  print_runs is = next (share_print_runs (prints_alone cx)) (bind (given (λ x. ((tt, tt), refl)) (printed_from_runs [] [] is)) (λ p.
      done (s.Print p.parts p.values) (λ x. print_fits h last cx.in_loop p.parts p.values x.1.0 (width_of p.values ∙ sym x.1.1))))

  -- ---- return

  return_value_runs : (e : Expr) → Reads h last cx (Unit {0}) (return_value cx e) (StatementFits h last cx.in_loop)
  unfolding return_value
  return_value_runs e = bind (fitting_runs h last cx cx.result e) (λ v. done (s.Return (term_or_none v)) (λ x.
      return_fits h last cx.in_loop (term_or_none v) (term_or_none_fits h last v x.1)))

  return_from_void_runs : (e : Expr) → Reads h last cx (Unit {0}) (return_from_void cx e) (StatementFits h last cx.in_loop)
  unfolding return_from_void
  return_from_void_runs e = next (operand_runs h last cx e) (next (note_rule_runs h last cx _) (done s.Empty (λ x. empty_fits h last cx.in_loop)))

  return_some_runs : (b : Bool) (e : Expr) → Reads h last cx (Unit {0}) (return_some b cx e) (StatementFits h last cx.in_loop)
  return_some_runs true e = return_from_void_runs e
  return_some_runs false e = return_value_runs e

  return_nothing_runs : {P : Type 0} → Reads h last cx P (return_nothing cx) (StatementFits h last cx.in_loop)
  return_nothing_runs = next (note_if_runs (not (is_void cx.result)) _) (done (s.Return (e.Push constant.Void)) (λ x.
      return_fits h last cx.in_loop (e.Push constant.Void) (push_fits h last constant.Void)))

  returned_runs : (o : Option Expr) → Reads h last cx (Unit {0}) (returned cx o) (StatementFits h last cx.in_loop)
  returned_runs None = return_nothing_runs
  returned_runs (Some e) = return_some_runs (is_void cx.result) e

  pub give_runs : (o : Option Expr) → Reads h last cx (Unit {0}) (give cx o) (StatementFits h last cx.in_loop)
  unfolding give
  give_runs o = next (note_if_runs cx.in_branch _) (returned_runs o)

  -- ---- break and continue

  inside_one : (l : Bool) → not l ≡ false → InLoop l
  inside_one true is = tt
  inside_one false is = absurd (true≢false is)

  pub jump_runs : (x : Statement) → ((Clean last → InLoop cx.in_loop) → StatementFits h last cx.in_loop x) → {P : Type 0}
      → Reads h last cx P (jump cx x) (StatementFits h last cx.in_loop)
  unfolding jump
  jump_runs x fits = bind (note_if_runs (not cx.in_loop) r.LoopOutside) (λ u. done x (λ p. fits (λ clean. inside_one cx.in_loop (p.1 clean))))
