-- Statements that hold no statement.
use Rattle.std.proofs.Common.{◌≡◌, map, ℕ, Bool, true, false, not, sym, subst, List, [], ◌∷◌, ◌++◌, Option, Some, None, refl}
use Rattle.std.specs.Prelude.{slice_get}
use Rattle.std.proofs.lemmas.Bool.{true≢false}
use Rattle.cc_core.specs.declared.expression.Constant.TheVariants as constant
use Rattle.cc_core.specs.declared.expression.Expression.{Expression, out-Expression, roll-Expression, roll-out-Expression, fold-roll-Expression}
use Rattle.cc_core.specs.declared.expression.Expression.TheVariants as e
use Rattle.cc_core.specs.declared.expression.Expression.TheOpen.{Expression-F}
use Rattle.cc_core.specs.declared.expression.How.{How}
use Rattle.cc_core.specs.declared.expression.PrintPart.{PrintPart}
use Rattle.cc_core.specs.declared.statement.Statement.{Statement}
use Rattle.cc_core.specs.declared.statement.Statement.TheVariants as s
use Rattle.cc_core.specs.Core.{Term}
use Rattle.cc_core.specs.Types.{ValueType, NoValue, AnInt, AnAddress, FunctionTypes, Types}
use Rattle.cc_core.specs.View.{term_of, term_with}
use Rattle.cc_core.proofs.ViewLaws.{spawn_is}
use Rattle.cc_one_answer.specs.Sorts.{Valued}
use Rattle.cc_one_answer.specs.Determinate.{DetTerm, DetStmt}
use Rattle.cc_names.specs.declared.rule.StaticRule.{StaticRule}
use Rattle.cc_tree.specs.declared.expressions.Expr.{Expr}
use Rattle.cc_tree.specs.declared.statements.PrintItem.{PrintItem}
use Rattle.cc_tree.specs.declared.statements.PrintItem.TheVariants as item'
use Rattle.cc_scopes.specs.declared.state.Local.{Local}
use Rattle.cc_scopes.specs.declared.typed.Typed.{Typed}
use Rattle.cc_scopes.specs.declared.typed.Typed.TheVariants as typed
use Rattle.cc_scopes.specs.declared.types.Declared.{Declared}
use Rattle.cc_scopes.specs.declared.types.Ty.{Ty}
use Rattle.cc_scopes.specs.declared.types.Ty.TheVariants as ty
use Rattle.cc_scopes.specs.Scope.{Context}
use Rattle.cc_elaboration.specs.Simple.{term_or_none, int_value, dropped, call, spawned_by, spawned, spawn, with_number, printed_value}
use Rattle.cc_elaboration.specs.Simple.{printed_item, printed_from, share_print, prints_alone, print, note_if, is_void, return_value, return_from_void, return_some, return_nothing, returned, give, jump}
use Rattle.cc_shared.proofs.Runs.{IsThere, given, always, bind, next, after, done}
use Rattle.cc_shared.proofs.Forms.{StmtFits, push_values, no_values, more_values, empty_fits, drop_fits, print_fits, return_fits}
use Rattle.cc_shared.proofs.TypesOf.{target_type, value_type, target_of, IsCellType, IsResultType}
use Rattle.cc_shared.proofs.Det.{Stands, Reads, having, Values, AllValues, OperandBy, TypedFits}
use Rattle.cc_shared.proofs.StateLaws.{share_runs, block_runs}
use Rattle.cc_shared.proofs.ScopeLaws.{never, note_rule_runs}
use Rattle.cc_shared.proofs.ExpressionLaws.{expr_runs, operand_runs, fitting_runs}

module _ (y : Types) (main : ℕ) (here : FunctionTypes) where
  value_of : (t : Ty) (x : Expression) → OperandBy y main here t x → (u : ValueType) × Values y main here x u
  value_of ty.Int x v = (AnInt, v)
  value_of ty.Null x v = (AnInt, v AnInt)
  value_of ty.Void x v = (NoValue, v)
  value_of (ty.Pointer to remote) x v = (AnAddress (target_type to), v)
  value_of ty.Unknown x v = absurd v

  -- ---- what is printed

  abbrev pub AllInts : List Expression → Type 0
  AllInts [] = Unit {0}
  AllInts (x ∷ xs) = Values y main here x AnInt × AllInts xs

  one_more_int : (xs : List Expression) (x : Expression) → AllInts xs → Values y main here x AnInt → AllInts (xs ++ x ∷ [])
  one_more_int [] x p q = (q, tt)
  one_more_int (z ∷ xs) x p q = (p.0, one_more_int xs x p.1 q)

  all_ints : (xs : List Expression) → AllInts xs → (us : List ValueType) × AllValues y main here xs us
  all_ints [] p = ([], no_values y main here)
  all_ints (x ∷ xs) p = let r = all_ints xs p.1 in (AnInt ∷ r.0, more_values y main here x xs AnInt r.0 p.0 r.1)

  -- ---- a call in a thread of its own

  module _ (prints : Bool) (own : List ℕ) where
    spawned_call : (h : How) (f : ℕ) (es : List Expression) (u : ValueType)
        → DetTerm y main here (term_with (Expression-F.Call h f (map term_of es))) (Valued u) → StmtFits y main here prints own (s.Spawn h f es)
    spawned_call h f es u d = subst (λ z. DetStmt y main here prints own z) (sym (spawn_is h f es)) (d.0, d.1, d.2, d.4)

    spawned_rolled : (x : Expression-F Expression) (u : ValueType) → Values y main here (roll-Expression x) u → StmtFits y main here prints own (spawned_by x)
    unfolding term_of
    spawned_rolled (Expression-F.Call h f es) u p = spawned_call h f es u
        (subst (λ t. DetTerm y main here t (Valued u)) (fold-roll-Expression Term term_with (Expression-F.Call h f es)) p)
    spawned_rolled (Expression-F.Push c) u p = empty_fits y main here prints own
    spawned_rolled Expression-F.This u p = empty_fits y main here prints own
    spawned_rolled (Expression-F.Variable k) u p = empty_fits y main here prints own
    spawned_rolled (Expression-F.Member a o) u p = empty_fits y main here prints own
    spawned_rolled (Expression-F.Index a k b) u p = empty_fits y main here prints own
    spawned_rolled (Expression-F.At a b) u p = empty_fits y main here prints own
    spawned_rolled (Expression-F.Load remote a) u p = empty_fits y main here prints own
    spawned_rolled (Expression-F.Unary op a) u p = empty_fits y main here prints own
    spawned_rolled (Expression-F.Binary op a b) u p = empty_fits y main here prints own
    spawned_rolled (Expression-F.And a b) u p = empty_fits y main here prints own
    spawned_rolled (Expression-F.Or a b) u p = empty_fits y main here prints own
    spawned_rolled (Expression-F.New kind k) u p = empty_fits y main here prints own
    spawned_rolled (Expression-F.NewObject remote c es) u p = empty_fits y main here prints own

    spawned_value : (x : Expression) (u : ValueType) → Values y main here x u → StmtFits y main here prints own (spawned_by (out-Expression x))
    spawned_value x u p = spawned_rolled (out-Expression x) u (subst (λ z. Values y main here z u) (sym (roll-out-Expression x)) p)

    spawned_fits : (part : ℕ) (own' : List ℕ) (t : Typed) → TypedFits y main here part own' t → StmtFits y main here prints own (spawned t)
    spawned_fits part own' (typed.Value v) p = let r = value_of v.ty v.term p in spawned_value v.term r.0 r.1
    spawned_fits part own' typed.Broken p = absurd p
    spawned_fits part own' typed.Spoiled p = absurd p
    spawned_fits part own' (typed.This class remote) p = empty_fits y main here prints own
    spawned_fits part own' (typed.Constant term value) p = empty_fits y main here prints own
    spawned_fits part own' (typed.Place q) p = empty_fits y main here prints own
    spawned_fits part own' (typed.Array q k) p = empty_fits y main here prints own
    spawned_fits part own' (typed.Object o) p = empty_fits y main here prints own

    dropped_fits : (part : ℕ) (own' : List ℕ) (t : Typed) → TypedFits y main here part own' t → StmtFits y main here prints own (dropped t)
    dropped_fits part own' (typed.Value v) p = let r = value_of v.ty v.term p in drop_fits y main here prints own v.term r.0 r.1
    dropped_fits part own' typed.Broken p = absurd p
    dropped_fits part own' typed.Spoiled p = absurd p
    dropped_fits part own' (typed.This class remote) p = empty_fits y main here prints own
    dropped_fits part own' (typed.Constant term value) p = empty_fits y main here prints own
    dropped_fits part own' (typed.Place q) p = empty_fits y main here prints own
    dropped_fits part own' (typed.Array q k) p = empty_fits y main here prints own
    dropped_fits part own' (typed.Object o) p = empty_fits y main here prints own

module _ (F : Type 0) (grown ds : List Declared) (part : ℕ) (own : List ℕ) (ls : List Local) (cx : Context) where
  share_print_runs : (b : Bool) {P : Type 0} → Reads F grown ds part own ls P (share_print b cx) (λ u. b ≡ true)
  share_print_runs true = done tt (λ x. refl)
  share_print_runs false = share_runs F grown ds part own ls _ cx.line

  pub note_if_runs : (b : Bool) (rule : StaticRule) {P : Type 0} → Reads F grown ds part own ls P (note_if b cx rule) (λ u. b ≡ false)
  note_if_runs true rule = note_rule_runs F grown ds part own ls cx rule
  note_if_runs false rule = done tt (λ x. refl)

module _ (y : Types) (main : ℕ) (here : FunctionTypes) (F : Type 0) (grown ds : List Declared) (part : ℕ) (own : List ℕ) (ls : List Local) (cx : Context)
    (stands : F → Stands y main here cx)
    (vars : F → (k : ℕ) (d : Declared) → slice_get ds k ≡ Some d → slice_get here.vars k ≡ Some (target_of d)) where
  term_there : (o : Option Expression) (u : ValueType) → IsThere (λ x. Values y main here x u) o → Values y main here (term_or_none o) u
  term_there None u p = absurd p
  term_there (Some x) u p = p

  pub int_value_runs : (e : Expr) → Reads F grown ds part own ls (Unit {0}) (int_value cx e) (λ x. Values y main here x AnInt)
  unfolding int_value
  int_value_runs e = bind (given (λ x. tt) (fitting_runs y main here F grown ds part own ls cx stands vars ty.Int e)) (λ t.
      done (term_or_none t) (λ x. term_there t AnInt x.1))

  module _ (prints : Bool) where
    pub call_statement_runs : (e : Expr) → Reads F grown ds part own ls (Unit {0}) (call cx e) (StmtFits y main here prints own)
    unfolding call
    call_statement_runs e = bind (expr_runs y main here F grown ds part own ls cx stands vars e) (λ t.
        done (dropped t) (λ x. dropped_fits y main here prints own part own t x.1))

    pub spawn_runs : (e : Expr) → Reads F grown ds part own ls (Unit {0}) (spawn cx e) (StmtFits y main here prints own)
    unfolding spawn
    spawn_runs e = next (block_runs F grown ds part own ls cx.line) (bind (expr_runs y main here F grown ds part own ls cx stands vars e) (λ t.
        done (spawned t) (λ x. spawned_fits y main here prints own part own t x.1)))

    -- ---- cout

    printed_value_runs : (parts : List PrintPart) (es : List Expression) (e : Expr)
        → Reads F grown ds part own ls (AllInts y main here es) (printed_value cx (record { parts = parts; values = es }) e) (λ q. AllInts y main here q.values)
    unfolding printed_value
    printed_value_runs parts es e = bind (always (int_value_runs e)) (λ v. done (with_number (record { parts = parts; values = es }) v) (λ x.
        one_more_int y main here es v x.0 x.1))

    printed_item_runs : (parts : List PrintPart) (es : List Expression) (i : PrintItem)
        → Reads F grown ds part own ls (AllInts y main here es) (printed_item cx (record { parts = parts; values = es }) i) (λ q. AllInts y main here q.values)
    printed_item_runs parts es (item'.Value e) = printed_value_runs parts es e
    printed_item_runs parts es (item'.Str bytes) = done _ (λ x. x)
    printed_item_runs parts es item'.Endl = done _ (λ x. x)

    printed_from_runs : (parts : List PrintPart) (es : List Expression) (is : List PrintItem)
        → Reads F grown ds part own ls (AllInts y main here es) (printed_from cx (record { parts = parts; values = es }) is) (λ q. AllInts y main here q.values)
    printed_from_runs parts es [] = done _ (λ x. x)
    printed_from_runs parts es (i ∷ is) = bind (printed_item_runs parts es i) (λ q. given (λ x. x.1) (printed_from_runs q.parts q.values is))

    printed_fits : (parts : List PrintPart) (es : List Expression) → prints ≡ true → AllInts y main here es → StmtFits y main here prints own (s.Print parts es)
    printed_fits parts es is p = let r = all_ints y main here es p in print_fits y main here prints own parts es r.0 is r.1

    pub print_runs : (prints_alone cx ≡ true → prints ≡ true) → (is : List PrintItem) → Reads F grown ds part own ls (Unit {0}) (print cx is) (StmtFits y main here prints own)
    unfolding print
    print_runs alone is = after (share_print_runs F grown ds part own ls cx (prints_alone cx)) (λ u x. x) (bind (given (λ x. tt) (printed_from_runs [] [] is)) (λ p.
        done (s.Print p.parts p.values) (λ x. printed_fits p.parts p.values (alone x.0.1) x.1)))

    -- ---- return

    cell_result : (t : Ty) → IsResultType t → is_void t ≡ false → IsCellType t
    cell_result ty.Int r is = tt
    cell_result (ty.Pointer to remote) r is = tt
    cell_result ty.Void r is = absurd (true≢false is)
    cell_result ty.Null r is = r
    cell_result ty.Unknown r is = r

    return_value_runs : is_void cx.result ≡ false → (e : Expr) → Reads F grown ds part own ls F (return_value cx e) (StmtFits y main here prints own)
    unfolding return_value
    return_value_runs is e = bind (given (λ f. cell_result cx.result (stands f).gives is) (fitting_runs y main here F grown ds part own ls cx stands vars cx.result e)) (λ v.
        done (s.Return (term_or_none v)) (λ x. return_fits y main here prints own (term_or_none v)
        (subst (λ u. Values y main here (term_or_none v) u) (sym (stands x.0).result) (term_there v (value_type cx.result) x.1))))

    return_from_void_runs : (e : Expr) → Reads F grown ds part own ls F (return_from_void cx e) (StmtFits y main here prints own)
    unfolding return_from_void
    return_from_void_runs e = next (always (operand_runs y main here F grown ds part own ls cx stands vars e)) (never F grown ds part own ls cx _ s.Empty)

    return_some_runs : (b : Bool) → is_void cx.result ≡ b → (e : Expr) → Reads F grown ds part own ls F (return_some b cx e) (StmtFits y main here prints own)
    return_some_runs true is e = return_from_void_runs e
    return_some_runs false is e = return_value_runs is e

    return_nothing_runs : {P : Type 0} → Reads F grown ds part own ls P (return_nothing cx) (StmtFits y main here prints own)
    return_nothing_runs = next (note_if_runs F grown ds part own ls cx (not (is_void cx.result)) _) (done (s.Return (e.Push constant.Void)) (λ x.
        return_fits y main here prints own (e.Push constant.Void) (push_values y main here constant.Void here.result)))

    returned_runs : (o : Option Expr) → Reads F grown ds part own ls F (returned cx o) (StmtFits y main here prints own)
    returned_runs None = return_nothing_runs
    returned_runs (Some e) = return_some_runs (is_void cx.result) refl e

    pub give_runs : (o : Option Expr) → Reads F grown ds part own ls (Unit {0}) (give cx o) (StmtFits y main here prints own)
    unfolding give
    give_runs o = having F grown ds part own ls (next (note_if_runs F grown ds part own ls cx cx.in_branch _) (given (λ x. x.1) (returned_runs o)))

    -- ---- break and continue

    pub jump_runs : (x : Statement) → StmtFits y main here prints own x → {P : Type 0}
        → Reads F grown ds part own ls P (jump cx x) (StmtFits y main here prints own)
    unfolding jump
    jump_runs x f = next (note_if_runs F grown ds part own ls cx (not cx.in_loop) _) (done x (λ p. f))
