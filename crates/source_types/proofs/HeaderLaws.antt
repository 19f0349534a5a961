-- The header of a parfor assigns its own variable.
use Rattle.std.proofs.Common.{◌≡◌, ℕ, true, false, cond, ◌∙◌, sym, ap, subst, List, [], ◌∷◌, ◌++◌, Option, Some, None, refl}
use Rattle.std.specs.Prelude.{slice_get, bytes_eq}
use Rattle.std.proofs.lemmas.Bool.{true≢false}
use Rattle.std.proofs.lemmas.Slice.Eq.{bytes_eq-Decides}
use Rattle.cc_core.specs.declared.expression.Expression.TheVariants as e
use Rattle.cc_core.specs.Core as core
use Rattle.cc_core.specs.Names as core_names
use Rattle.core_types.specs.Values.{World}
use Rattle.core_types.specs.Typing.{Scope}
use Rattle.core_types.specs.Types.{AnInt, Types}
use Rattle.cc_names.specs.Table.{Name}
use Rattle.cc_tree.specs.declared.expressions.Expr.{Expr, out-Expr}
use Rattle.cc_tree.specs.declared.expressions.ExprKind.{out-ExprKind}
use Rattle.cc_tree.specs.declared.expressions.ExprKind.TheOpen.{ExprKind-F}
use Rattle.cc_tree.specs.declared.statements.AssignOp.{AssignOp}
use Rattle.cc_scopes.specs.declared.meaning.Meaning.TheVariants as m
use Rattle.cc_scopes.specs.declared.scope.Found.{Found}
use Rattle.cc_scopes.specs.declared.state.Local.{Local}
use Rattle.cc_scopes.specs.declared.state.State.{State}
use Rattle.cc_scopes.specs.declared.typed.Place.{Place}
use Rattle.cc_scopes.specs.declared.typed.Root.TheVariants as root
use Rattle.cc_scopes.specs.declared.types.Declared.{Declared}
use Rattle.cc_scopes.specs.declared.types.Ty.TheVariants as ty
use Rattle.cc_scopes.specs.Elab.{◌>>=◌}
use Rattle.cc_scopes.specs.Meaning.{variable_or, meant, of_meaning}
use Rattle.cc_scopes.specs.Scope.{Context, found_as, later, variable_from, variable}
use Rattle.cc_scopes.specs.Typed.{place_of}
use Rattle.cc_typing.specs.Expr.{Layer, kind, node, expr_to, expr}
use Rattle.cc_typing.specs.Whole.{as_place, place}
use Rattle.cc_core.specs.declared.expression.Expression.{Expression}
use Rattle.cc_elaboration.specs.declared.assignments.Assignment.{Assignment}
use Rattle.cc_elaboration.specs.Assignments.{assigned, assignment_to, assignment_at, assignment}
use Rattle.std.proofs.lemmas.Option.{none-some, same_Some}
use Rattle.cc_elaboration.specs.Statements.{plain_int, names_by, names}
use Rattle.source_types.specs.Reading.{IsThere}
use Rattle.source_types.specs.TypesOf.{value_type, target_of}
use Rattle.source_types.specs.Reading.{Grown, Stands}
use Rattle.source_types.proofs.Fits.{Reads, Values}
use Rattle.source_types.proofs.AssignmentLaws.{AssignmentFits, assignment_runs}
use Rattle.source_types.proofs.SimpleLaws.{an_int}
use Rattle.source_types.proofs.CallLaws.{Fitting}
use Rattle.source_types.proofs.StateLaws.{IfThere}

-- the latest variable is what its name means
last_from : (text : Name) (f : Option Found) (ls : List Local) (l : Local) → bytes_eq l.name text ≡ true
    → variable_from text f (ls ++ l ∷ []) ≡ Some (found_as l)
last_from text f [] l is = ap (λ b. cond b (Some (found_as l)) f) is
last_from text f (x ∷ ls) l is = last_from text (later text f x) ls l is

same_name : (a b : Name) → bytes_eq a b ≡ true → bytes_eq b a ≡ true
same_name a b is = (bytes_eq-Decides b a).1 (sym ((bytes_eq-Decides a b).0 is))

module _ (cx : Context) (ls : List Local) (text : Name) (k part : ℕ) where
  abbrev newest : Local
  newest = record { name = text; number = k; declared = plain_int; part = part }

  abbrev newest_place : Place
  newest_place = place_of (e.Variable k) plain_int false (root.Variable part)

  meant_newest : (other : Name) (s : State) → s.locals ≡ ls ++ newest ∷ [] → bytes_eq other text ≡ true → meant cx other s ≡ m.Variable (found_as newest)
  meant_newest other s is same =
      ap (λ f. variable_or f cx other) (ap (variable other) is ∙ last_from other None ls newest (same_name other text same))

  by_layer : (l : Layer) (s : State) → s.locals ≡ ls ++ newest ∷ [] → names_by l text ≡ true
      → ((kind (expr_to 999) cx l >>= as_place cx) s).0 ≡ Some newest_place
  by_layer (ExprKind-F.Name other) s is same = ap (λ x. ((of_meaning cx x >>= as_place cx) s).0) (meant_newest other s is same)
  by_layer (ExprKind-F.Int n) s is same = absurd (true≢false (sym same))
  by_layer ExprKind-F.Null s is same = absurd (true≢false (sym same))
  by_layer ExprKind-F.This s is same = absurd (true≢false (sym same))
  by_layer (ExprKind-F.Call other es) s is same = absurd (true≢false (sym same))
  by_layer (ExprKind-F.Paren e) s is same = absurd (true≢false (sym same))
  by_layer (ExprKind-F.Post e tail) s is same = absurd (true≢false (sym same))
  by_layer (ExprKind-F.Unary op e) s is same = absurd (true≢false (sym same))
  by_layer (ExprKind-F.Chain e rest) s is same = absurd (true≢false (sym same))
  by_layer (ExprKind-F.NewInt sync length) s is same = absurd (true≢false (sym same))
  by_layer (ExprKind-F.NewClass other es) s is same = absurd (true≢false (sym same))

  place_is : (target : Expr) (s : State) → s.locals ≡ ls ++ newest ∷ [] → names target text ≡ true → (place cx target s).0 ≡ Some newest_place
  unfolding place expr_to node names
  place_is target s is same = by_layer (out-ExprKind (out-Expr target).kind) s is same

-- an assignment writes where its target is
module _ (cx : Context) (p : Place) where
  assigned_place : (q : Place) (v : Option Expression) → q ≡ p → IfThere (λ (a : Assignment). a.place ≡ p) (assigned q v)
  assigned_place q None is = tt
  assigned_place q (Some v) is = is

  assigned_at : (o : Option Place) (op : AssignOp) (target e : Expr) (s : State) → o ≡ Some p
      → IfThere (λ (a : Assignment). a.place ≡ p) (assignment_at o cx op target e s).0
  unfolding assignment_to
  assigned_at None op target e s is = absurd (none-some p is)
  assigned_at (Some q) op target e s is = assigned_place q _ (same_Some q p is)

  place_assigned : (target : Expr) (op : AssignOp) (e : Expr) (s : State) → (place cx target s).0 ≡ Some p
      → IfThere (λ (a : Assignment). a.place ≡ p) (assignment cx target op e s).0
  unfolding assignment
  place_assigned target op e s is = assigned_at (place cx target s).0 op target e (place cx target s).1 is

module _ (program : core.Program) (y : Types) (world : World) (home : core_names.Name) (here : Scope) (F : Type 0) (grown : Grown) (ds : List Declared) (ls : List Local) (cx : Context)
    (stands : F → Stands program y here grown cx)
    (vars : F → (k : ℕ) (d : Declared) → slice_get ds k ≡ Some d → slice_get here.vars k ≡ Some (target_of d))
    (same_waits : F → grown.waits ≡ here.waits)
    (again : (e : Expr) (s u : State) → s.locals ≡ u.locals → (expr cx e s).0 ≡ (expr cx e u).0) where
  int_value_of : (all : List Local) (o : Option Assignment) (p : Place) → p.ty ≡ ty.Int → IfThere (λ (a : Assignment). a.place ≡ p) o
      → IsThere (AssignmentFits program y world home here F grown ds all cx stands vars same_waits again) o → IsThere (λ (a : Assignment). Values program y world home here a.value AnInt) o
  int_value_of all None p int is f = f
  int_value_of all (Some a) p int is f =
      an_int program y world home here a.value (subst (λ u. Fitting program y world home here a.value u) (ap (λ q. value_type q.ty) is ∙ ap value_type int) f.1)

  pub own_assignment_runs : (text : Name) (k p : ℕ) (target : Expr) (op : AssignOp) (e : Expr) → names target text ≡ true
      → Reads F grown ds (ls ++ record { name = text; number = k; declared = plain_int; part = p } ∷ []) (Unit {0}) (assignment cx target op e)
      (IsThere (λ a. Values program y world home here a.value AnInt))
  own_assignment_runs text k p target op e same =
      let all : List Local = ls ++ record { name = text; number = k; declared = plain_int; part = p } ∷ [] in
      record {
        run = λ s end.
            let q = (assignment_runs program y world home here F grown ds all cx stands vars same_waits again target op e).run s end in (
              q.0,
              λ x z. let w = q.1 x z in (
                w.0,
                int_value_of all (assignment cx target op e s).0 (newest_place cx ls text k p) refl
                    (place_assigned cx (newest_place cx ls text k p) target op e s (place_is cx ls text k p target s z.0 same)) w.1,
              ),
            );
      }
