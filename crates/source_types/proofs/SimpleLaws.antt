-- Statements that hold no statement.
use Rattle.std.proofs.Common.{◌≡◌, map, ap, ◌∙◌, inl, ⊎_elim, ℕ, Bool, true, false, not, sym, subst, List, [], ◌∷◌, ◌++◌, Option, Some, None, refl}
use Rattle.std.specs.Prelude.{slice_get}
use Rattle.std.proofs.lemmas.Bool.{true≢false}
use Rattle.cc_core.specs.declared.expression.Constant.TheVariants as constant
use Rattle.cc_core.specs.declared.expression.Expression.{Expression, out-Expression, roll-Expression, roll-out-Expression, fold-roll-Expression}
use Rattle.cc_core.specs.declared.expression.Expression.TheVariants as e
use Rattle.cc_core.specs.declared.expression.Expression.TheOpen.{Expression-F}
use Rattle.cc_core.specs.declared.expression.How.{How}
use Rattle.cc_core.specs.declared.expression.PrintPart.{PrintPart}
use Rattle.cc_core.specs.declared.statement.Statement.{Statement}
use Rattle.cc_core.specs.declared.statement.Statement.TheVariants as s
use Rattle.cc_core.specs.Core.{Term}
use Rattle.cc_core.specs.Core as core
use Rattle.cc_core.specs.Names as names
use Rattle.core_types.specs.Types.{ValueType, NoValue, AnInt, Pointer, Target, Cells, Types, Serves, printed_types}
use Rattle.core_types.specs.Values.{World}
use Rattle.core_types.specs.Typing.{Scope, HasType, IsTyped}
use Rattle.cc_core.specs.View.{term_of, term_with, part_of}
use Rattle.cc_core.proofs.ViewLaws.{spawn_is, push_is}
use Rattle.cc_core.specs.declared.expression.PrintPart.TheVariants as printed
use Rattle.cc_names.specs.declared.rule.StaticRule.{StaticRule}
use Rattle.cc_tree.specs.declared.expressions.Expr.{Expr}
use Rattle.cc_tree.specs.declared.statements.PrintItem.{PrintItem}
use Rattle.cc_tree.specs.declared.statements.PrintItem.TheVariants as item'
use Rattle.cc_scopes.specs.declared.state.Local.{Local}
use Rattle.cc_scopes.specs.declared.typed.Typed.{Typed}
use Rattle.cc_scopes.specs.declared.typed.Typed.TheVariants as typed
use Rattle.cc_scopes.specs.declared.types.Declared.{Declared}
use Rattle.cc_scopes.specs.declared.types.Ty.{Ty}
use Rattle.cc_scopes.specs.declared.types.Ty.TheVariants as ty
use Rattle.cc_scopes.specs.Scope.{Context}
use Rattle.cc_elaboration.specs.Simple.{term_or_none, int_value, dropped, call, spawned_by, spawned, spawn, with_number, printed_value}
use Rattle.cc_elaboration.specs.Simple.{printed_item, printed_from, share_print, prints_alone, print, note_if, is_void, return_value, return_from_void, return_some, return_nothing, returned, give, jump}
use Rattle.source_types.specs.Reading.{IsThere, Anything}
use Rattle.source_types.proofs.Runs.{given, always, bind, next, after, done}
use Rattle.source_types.proofs.Forms.{no_values, more_values}
use Rattle.source_types.proofs.StmtForms.{StmtFits, empty_fits, drop_fits, print_fits, return_fits}
use Rattle.source_types.specs.TypesOf.{target_type, value_type, target_of, IsCellType, IsResultType}
use Rattle.source_types.specs.Reading.{Stands, Grown}
use Rattle.source_types.proofs.Fits.{Reads, having, Values, AllValues, OperandBy, TypedFits}
use Rattle.source_types.proofs.CallLaws.{Fitting}
use Rattle.source_types.proofs.StateLaws.{share_runs, block_runs}
use Rattle.source_types.proofs.ScopeLaws.{never, note_rule_runs}
use Rattle.source_types.proofs.ExpressionLaws.{expr_runs, operand_runs, fitting_runs}

abbrev IsInt : ValueType → Type 0
IsInt NoValue = ⊥
IsInt AnInt = Unit {0}
IsInt (Pointer remote a) = ⊥

module _ (program : core.Program) (y : Types) (world : World) (home : names.Name) (here : Scope) where
  value_of : (t : Ty) (x : Expression) → OperandBy program y world home here t x → (u : ValueType) × Values program y world home here x u
  value_of ty.Int x v = (AnInt, v)
  value_of ty.Null x v = (Pointer false (Cells false AnInt), v false (Cells false AnInt))
  value_of ty.Void x v = (NoValue, v)
  value_of (ty.Pointer to remote) x v = (Pointer remote (target_type to), v)
  value_of ty.Unknown x v = absurd v

  -- what serves as an int is one
  is_int : (u : ValueType) → Serves u AnInt → u ≡ AnInt
  is_int u s = ⊎_elim (λ (e : u ≡ AnInt). e) (λ (r : (a : Target) × (u ≡ Pointer false a) × (AnInt ≡ Pointer true a)). absurd (subst IsInt r.2 tt)) s

  pub an_int : (x : Expression) → Fitting program y world home here x AnInt → Values program y world home here x AnInt
  an_int x f = subst (λ u. Values program y world home here x u) (is_int f.0 f.2) f.1

  -- ---- what is printed

  abbrev types_of : List PrintPart → List ValueType
  types_of parts = printed_types (map part_of parts)

  abbrev pub PrintFits : List PrintPart → List Expression → Type 0
  PrintFits parts es = AllValues program y world home here es (types_of parts)

  one_type : (parts : List PrintPart) → types_of (parts ++ printed.Number ∷ []) ≡ types_of parts ++ AnInt ∷ []
  one_type [] = refl
  one_type (printed.Number ∷ parts) = ap (λ z. AnInt ∷ z) (one_type parts)
  one_type (printed.Text bytes ∷ parts) = one_type parts
  one_type (printed.Endl ∷ parts) = one_type parts

  same_types : (parts : List PrintPart) (x : PrintPart) → types_of (x ∷ []) ≡ [] → types_of (parts ++ x ∷ []) ≡ types_of parts
  same_types [] x is = is
  same_types (printed.Number ∷ parts) x is = ap (λ z. AnInt ∷ z) (same_types parts x is)
  same_types (printed.Text bytes ∷ parts) x is = same_types parts x is
  same_types (printed.Endl ∷ parts) x is = same_types parts x is

  one_value : (es : List Expression) (us : List ValueType) (x : Expression) → AllValues program y world home here es us → Values program y world home here x AnInt
      → AllValues program y world home here (es ++ x ∷ []) (us ++ AnInt ∷ [])
  one_value [] us x p q = subst (λ z. AllValues program y world home here (x ∷ []) (z ++ AnInt ∷ [])) (sym p) (more_values program y world home here x [] AnInt AnInt [] q (inl refl) (no_values program y world home here))
  one_value (e ∷ es) us x p q =
      (p.0, p.1 ++ AnInt ∷ [], p.2, one_value es p.1 x p.3 q, ap (λ z. z ++ AnInt ∷ []) p.4)

  one_number : (parts : List PrintPart) (es : List Expression) (x : Expression) → PrintFits parts es → Values program y world home here x AnInt
      → PrintFits (parts ++ printed.Number ∷ []) (es ++ x ∷ [])
  one_number parts es x p q = subst (λ z. AllValues program y world home here (es ++ x ∷ []) z) (sym (one_type parts)) (one_value es (types_of parts) x p q)

  no_number : (parts : List PrintPart) (es : List Expression) (x : PrintPart) → types_of (x ∷ []) ≡ [] → PrintFits parts es → PrintFits (parts ++ x ∷ []) es
  no_number parts es x is p = subst (λ z. AllValues program y world home here es z) (sym (same_types parts x is)) p

  -- ---- a call in a thread of its own

  spawned_call : (h : How) (f : ℕ) (es : List Expression) (u : ValueType) → here.waits ≡ true
      → HasType program y world home here (term_with (Expression-F.Call h f (map term_of es))) u → StmtFits program y world home here (s.Spawn h f es)
  spawned_call h f es u w d = subst (λ z. IsTyped program y world home here z) (sym (spawn_is h f es)) (d.0, d.1, d.2, w)

  spawned_rolled : (x : Expression-F Expression) (u : ValueType) → here.waits ≡ true → Values program y world home here (roll-Expression x) u → StmtFits program y world home here (spawned_by x)
  unfolding term_of
  spawned_rolled (Expression-F.Call h f es) u w p = spawned_call h f es u w
      (subst (λ t. HasType program y world home here t u) (fold-roll-Expression Term term_with (Expression-F.Call h f es)) p)
  spawned_rolled (Expression-F.Push c) u w p = empty_fits program y world home here
  spawned_rolled Expression-F.This u w p = empty_fits program y world home here
  spawned_rolled (Expression-F.Variable k) u w p = empty_fits program y world home here
  spawned_rolled (Expression-F.Member a o) u w p = empty_fits program y world home here
  spawned_rolled (Expression-F.Index a k b) u w p = empty_fits program y world home here
  spawned_rolled (Expression-F.At a b) u w p = empty_fits program y world home here
  spawned_rolled (Expression-F.Load remote a) u w p = empty_fits program y world home here
  spawned_rolled (Expression-F.Unary op a) u w p = empty_fits program y world home here
  spawned_rolled (Expression-F.Binary op a b) u w p = empty_fits program y world home here
  spawned_rolled (Expression-F.And a b) u w p = empty_fits program y world home here
  spawned_rolled (Expression-F.Or a b) u w p = empty_fits program y world home here
  spawned_rolled (Expression-F.New kind k) u w p = empty_fits program y world home here
  spawned_rolled (Expression-F.NewObject remote c es) u w p = empty_fits program y world home here

  spawned_value : (x : Expression) (u : ValueType) → here.waits ≡ true → Values program y world home here x u → StmtFits program y world home here (spawned_by (out-Expression x))
  spawned_value x u w p = spawned_rolled (out-Expression x) u w (subst (λ z. Values program y world home here z u) (sym (roll-out-Expression x)) p)

  spawned_fits : (t : Typed) → here.waits ≡ true → TypedFits program y world home here t → StmtFits program y world home here (spawned t)
  spawned_fits (typed.Value v) w p = let r = value_of v.ty v.term p in spawned_value v.term r.0 w r.1
  spawned_fits typed.Broken w p = absurd p
  spawned_fits typed.Spoiled w p = absurd p
  spawned_fits (typed.This class remote) w p = empty_fits program y world home here
  spawned_fits (typed.Constant term value) w p = empty_fits program y world home here
  spawned_fits (typed.Place q) w p = empty_fits program y world home here
  spawned_fits (typed.Array q k) w p = empty_fits program y world home here
  spawned_fits (typed.Object o) w p = empty_fits program y world home here

  dropped_fits : (t : Typed) → TypedFits program y world home here t → StmtFits program y world home here (dropped t)
  dropped_fits (typed.Value v) p = let r = value_of v.ty v.term p in drop_fits program y world home here v.term r.0 r.1
  dropped_fits typed.Broken p = absurd p
  dropped_fits typed.Spoiled p = absurd p
  dropped_fits (typed.This class remote) p = empty_fits program y world home here
  dropped_fits (typed.Constant term value) p = empty_fits program y world home here
  dropped_fits (typed.Place q) p = empty_fits program y world home here
  dropped_fits (typed.Array q k) p = empty_fits program y world home here
  dropped_fits (typed.Object o) p = empty_fits program y world home here

module _ (F : Type 0) (grown : Grown) (ds : List Declared) (ls : List Local) (cx : Context) where
  share_print_runs : (b : Bool) {P : Type 0} → Reads F grown ds ls P (share_print b cx) Anything
  share_print_runs true = done tt (λ x. tt)
  share_print_runs false = share_runs F grown ds ls _ cx.line

  pub note_if_runs : (b : Bool) (rule : StaticRule) {P : Type 0} → Reads F grown ds ls P (note_if b cx rule) (λ u. b ≡ false)
  note_if_runs true rule = note_rule_runs F grown ds ls cx rule
  note_if_runs false rule = done tt (λ x. refl)

module _ (program : core.Program) (y : Types) (world : World) (home : names.Name) (here : Scope) (F : Type 0) (grown : Grown) (ds : List Declared) (ls : List Local) (cx : Context)
    (stands : F → Stands program y here grown cx)
    (vars : F → (k : ℕ) (d : Declared) → slice_get ds k ≡ Some d → slice_get here.vars k ≡ Some (target_of d)) where
  fitting_there : (o : Option Expression) (u : ValueType) → IsThere (λ x. Fitting program y world home here x u) o → Fitting program y world home here (term_or_none o) u
  fitting_there None u p = absurd p
  fitting_there (Some x) u p = p

  term_there : (o : Option Expression) → IsThere (λ x. Fitting program y world home here x AnInt) o → Values program y world home here (term_or_none o) AnInt
  term_there None p = absurd p
  term_there (Some x) p = an_int program y world home here x p

  pub int_value_runs : (e : Expr) → Reads F grown ds ls (Unit {0}) (int_value cx e) (λ x. Values program y world home here x AnInt)
  unfolding int_value
  int_value_runs e = bind (given (λ x. tt) (fitting_runs program y world home here F grown ds ls cx stands vars ty.Int e)) (λ t.
      done (term_or_none t) (λ x. term_there t x.1))

  module _ (same : F → grown.waits ≡ here.waits)
      (returns : F → (cx.in_branch ≡ false → here.returns ≡ Some (value_type cx.result)) × IsResultType cx.result) where
    pub call_statement_runs : (e : Expr) → Reads F grown ds ls (Unit {0}) (call cx e) (StmtFits program y world home here)
    unfolding call
    call_statement_runs e = bind (expr_runs program y world home here F grown ds ls cx stands vars e) (λ t.
        done (dropped t) (λ x. dropped_fits program y world home here t x.1))

    pub spawn_runs : (e : Expr) → Reads F grown ds ls (Unit {0}) (spawn cx e) (StmtFits program y world home here)
    unfolding spawn
    spawn_runs e = having F grown ds ls (after (block_runs F grown ds ls cx.line) (λ u x. x) (bind (always (expr_runs program y world home here F grown ds ls cx stands vars e)) (λ t.
        done (spawned t) (λ x. spawned_fits program y world home here t (sym (same x.0.0.1) ∙ x.0.1) x.1))))

    -- ---- cout

    printed_value_runs : (parts : List PrintPart) (es : List Expression) (e : Expr)
        → Reads F grown ds ls (PrintFits program y world home here parts es) (printed_value cx (record { parts = parts; values = es }) e) (λ q. PrintFits program y world home here q.parts q.values)
    unfolding printed_value
    printed_value_runs parts es e = bind (always (int_value_runs e)) (λ v. done (with_number (record { parts = parts; values = es }) v) (λ x.
        one_number program y world home here parts es v x.0 x.1))

    printed_item_runs : (parts : List PrintPart) (es : List Expression) (i : PrintItem)
        → Reads F grown ds ls (PrintFits program y world home here parts es) (printed_item cx (record { parts = parts; values = es }) i) (λ q. PrintFits program y world home here q.parts q.values)
    printed_item_runs parts es (item'.Value e) = printed_value_runs parts es e
    printed_item_runs parts es (item'.Str bytes) = done _ (λ x. no_number program y world home here parts es (printed.Text bytes) refl x)
    printed_item_runs parts es item'.Endl = done _ (λ x. no_number program y world home here parts es printed.Endl refl x)

    printed_from_runs : (parts : List PrintPart) (es : List Expression) (is : List PrintItem)
        → Reads F grown ds ls (PrintFits program y world home here parts es) (printed_from cx (record { parts = parts; values = es }) is) (λ q. PrintFits program y world home here q.parts q.values)
    printed_from_runs parts es [] = done _ (λ x. x)
    printed_from_runs parts es (i ∷ is) = bind (printed_item_runs parts es i) (λ q. given (λ x. x.1) (printed_from_runs q.parts q.values is))

    pub print_runs : (is : List PrintItem) → Reads F grown ds ls (Unit {0}) (print cx is) (StmtFits program y world home here)
    unfolding print
    print_runs is = next (share_print_runs F grown ds ls cx (prints_alone cx)) (bind (given (λ x. no_values program y world home here) (printed_from_runs [] [] is)) (λ p.
        done (s.Print p.parts p.values) (λ x. print_fits program y world home here p.parts p.values x.1)))

    -- ---- return

    cell_result : (t : Ty) → IsResultType t → is_void t ≡ false → IsCellType t
    cell_result ty.Int r is = tt
    cell_result (ty.Pointer to remote) r is = tt
    cell_result ty.Void r is = absurd (true≢false is)
    cell_result ty.Null r is = r
    cell_result ty.Unknown r is = r

    return_value_runs : is_void cx.result ≡ false → (e : Expr) → Reads F grown ds ls ((cx.in_branch ≡ false) × F) (return_value cx e) (StmtFits program y world home here)
    unfolding return_value
    return_value_runs is e = bind (given (λ f. cell_result cx.result (returns f.1).1 is) (fitting_runs program y world home here F grown ds ls cx stands vars cx.result e)) (λ v.
        done (s.Return (term_or_none v)) (λ x. return_fits program y world home here (term_or_none v) (value_type cx.result) ((returns x.0.1).0 x.0.0)
        (fitting_there v (value_type cx.result) x.1)))

    return_from_void_runs : (e : Expr) → Reads F grown ds ls ((cx.in_branch ≡ false) × F) (return_from_void cx e) (StmtFits program y world home here)
    unfolding return_from_void
    return_from_void_runs e = next (always (operand_runs program y world home here F grown ds ls cx stands vars e)) (never F grown ds ls cx _ s.Empty)

    return_some_runs : (b : Bool) → is_void cx.result ≡ b → (e : Expr) → Reads F grown ds ls ((cx.in_branch ≡ false) × F) (return_some b cx e) (StmtFits program y world home here)
    return_some_runs true is e = return_from_void_runs e
    return_some_runs false is e = return_value_runs is e

    no_result : (t : Ty) → not (is_void t) ≡ false → value_type t ≡ NoValue
    no_result ty.Int is = absurd (true≢false is)
    no_result (ty.Pointer to remote) is = absurd (true≢false is)
    no_result ty.Void is = refl
    no_result ty.Null is = absurd (true≢false is)
    no_result ty.Unknown is = absurd (true≢false is)

    void_fits : (u : ValueType) → u ≡ NoValue → Fitting program y world home here (e.Push constant.Void) u
    void_fits u is = (NoValue, subst (λ z. HasType program y world home here z NoValue) (sym (push_is constant.Void)) refl, inl (sym is))

    return_nothing_runs : Reads F grown ds ls ((cx.in_branch ≡ false) × F) (return_nothing cx) (StmtFits program y world home here)
    return_nothing_runs = bind (note_if_runs F grown ds ls cx (not (is_void cx.result)) _) (λ u. done (s.Return (e.Push constant.Void)) (λ x.
        return_fits program y world home here (e.Push constant.Void) (value_type cx.result) ((returns x.0.1).0 x.0.0) (void_fits (value_type cx.result) (no_result cx.result x.1))))

    returned_runs : (o : Option Expr) → Reads F grown ds ls ((cx.in_branch ≡ false) × F) (returned cx o) (StmtFits program y world home here)
    returned_runs None = return_nothing_runs
    returned_runs (Some e) = return_some_runs (is_void cx.result) refl e

    pub give_runs : (o : Option Expr) → Reads F grown ds ls (Unit {0}) (give cx o) (StmtFits program y world home here)
    unfolding give
    give_runs o = having F grown ds ls (bind (note_if_runs F grown ds ls cx cx.in_branch _) (λ u. given (λ x. (x.1, x.0.1)) (returned_runs o)))

    -- ---- break and continue

    pub jump_runs : (x : Statement) → StmtFits program y world home here x → {P : Type 0}
        → Reads F grown ds ls P (jump cx x) (StmtFits program y world home here)
    unfolding jump
    jump_runs x f = next (note_if_runs F grown ds ls cx (not cx.in_loop) _) (done x (λ p. f))
