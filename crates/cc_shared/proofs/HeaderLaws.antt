-- The header of a parfor assigns its own variable.
use Rattle.std.proofs.Common.{◌≡◌, ℕ, true, false, cond, ◌∙◌, sym, ap, subst, List, [], ◌∷◌, ◌++◌, Option, Some, None, refl}
use Rattle.std.specs.Prelude.{slice_get, bytes_eq}
use Rattle.std.proofs.lemmas.Bool.{true≢false}
use Rattle.std.proofs.lemmas.Slice.Eq.{bytes_eq-Decides}
use Rattle.cc_core.specs.declared.expression.Expression.TheVariants as e
use Rattle.cc_core.specs.Types.{AnInt, FunctionTypes, Types}
use Rattle.cc_names.specs.Table.{Name}
use Rattle.cc_tree.specs.declared.expressions.Expr.{Expr, out-Expr}
use Rattle.cc_tree.specs.declared.expressions.ExprKind.{out-ExprKind}
use Rattle.cc_tree.specs.declared.expressions.ExprKind.TheOpen.{ExprKind-F}
use Rattle.cc_tree.specs.declared.statements.AssignOp.{AssignOp}
use Rattle.cc_scopes.specs.declared.meaning.Meaning.TheVariants as m
use Rattle.cc_scopes.specs.declared.scope.Found.{Found}
use Rattle.cc_scopes.specs.declared.state.Local.{Local}
use Rattle.cc_scopes.specs.declared.state.State.{State}
use Rattle.cc_scopes.specs.declared.typed.Place.{Place}
use Rattle.cc_scopes.specs.declared.typed.Root.TheVariants as root
use Rattle.cc_scopes.specs.declared.types.Declared.{Declared}
use Rattle.cc_scopes.specs.declared.types.Ty.TheVariants as ty
use Rattle.cc_scopes.specs.Elab.{◌>>=◌}
use Rattle.cc_scopes.specs.Meaning.{variable_or, meant, of_meaning}
use Rattle.cc_scopes.specs.Scope.{Context, found_as, later, variable_from, variable}
use Rattle.cc_scopes.specs.Typed.{place_of}
use Rattle.cc_typing.specs.Expr.{Layer, kind, node, expr_to}
use Rattle.cc_typing.specs.Whole.{as_place, place}
use Rattle.cc_elaboration.specs.Assignments.{assignment}
use Rattle.cc_elaboration.specs.Statements.{plain_int, names_by, names}
use Rattle.cc_shared.proofs.Runs.{IsThere, given, bind}
use Rattle.cc_shared.proofs.TypesOf.{target_of}
use Rattle.cc_shared.proofs.Det.{Stands, Reads, Values, PlaceFits}
use Rattle.cc_shared.proofs.ExpressionLaws.{place_runs}
use Rattle.cc_shared.proofs.AssignmentLaws.{int_assignment_at_runs}

-- the latest variable is what its name means
last_from : (text : Name) (f : Option Found) (ls : List Local) (l : Local) → bytes_eq l.name text ≡ true
    → variable_from text f (ls ++ l ∷ []) ≡ Some (found_as l)
last_from text f [] l is = ap (λ b. cond b (Some (found_as l)) f) is
last_from text f (x ∷ ls) l is = last_from text (later text f x) ls l is

same_name : (a b : Name) → bytes_eq a b ≡ true → bytes_eq b a ≡ true
same_name a b is = (bytes_eq-Decides b a).1 (sym ((bytes_eq-Decides a b).0 is))

module _ (cx : Context) (ls : List Local) (text : Name) (k part : ℕ) where
  abbrev newest : Local
  newest = record { name = text; number = k; declared = plain_int; part = part }

  abbrev newest_place : Place
  newest_place = place_of (e.Variable k) plain_int false (root.Variable part)

  meant_newest : (other : Name) (s : State) → s.locals ≡ ls ++ newest ∷ [] → bytes_eq other text ≡ true → meant cx other s ≡ m.Variable (found_as newest)
  meant_newest other s is same =
      ap (λ f. variable_or f cx other) (ap (variable other) is ∙ last_from other None ls newest (same_name other text same))

  by_layer : (l : Layer) (s : State) → s.locals ≡ ls ++ newest ∷ [] → names_by l text ≡ true
      → ((kind (expr_to 999) cx l >>= as_place cx) s).0 ≡ Some newest_place
  by_layer (ExprKind-F.Name other) s is same = ap (λ x. ((of_meaning cx x >>= as_place cx) s).0) (meant_newest other s is same)
  by_layer (ExprKind-F.Int n) s is same = absurd (true≢false (sym same))
  by_layer ExprKind-F.Null s is same = absurd (true≢false (sym same))
  by_layer ExprKind-F.This s is same = absurd (true≢false (sym same))
  by_layer (ExprKind-F.Call other es) s is same = absurd (true≢false (sym same))
  by_layer (ExprKind-F.Paren e) s is same = absurd (true≢false (sym same))
  by_layer (ExprKind-F.Post e tail) s is same = absurd (true≢false (sym same))
  by_layer (ExprKind-F.Unary op e) s is same = absurd (true≢false (sym same))
  by_layer (ExprKind-F.Chain e rest) s is same = absurd (true≢false (sym same))
  by_layer (ExprKind-F.NewInt sync length) s is same = absurd (true≢false (sym same))
  by_layer (ExprKind-F.NewClass other es) s is same = absurd (true≢false (sym same))

  place_is : (target : Expr) (s : State) → s.locals ≡ ls ++ newest ∷ [] → names target text ≡ true → (place cx target s).0 ≡ Some newest_place
  unfolding place expr_to node names
  place_is target s is same = by_layer (out-ExprKind (out-Expr target).kind) s is same

module _ (y : Types) (main : ℕ) (here : FunctionTypes) (F : Type 0) (grown ds : List Declared) (part : ℕ) (own : List ℕ) (ls : List Local) (cx : Context)
    (stands : F → Stands y main here cx)
    (vars : F → (k : ℕ) (d : Declared) → slice_get ds k ≡ Some d → slice_get here.vars k ≡ Some (target_of d)) where
  abbrev IntPlace : Option Place → Type 0
  IntPlace = IsThere (λ (p : Place). PlaceFits y main here part own p × (p.ty ≡ ty.Int))

  int_place : (o : Option Place) (p : Place) → o ≡ Some p → p.ty ≡ ty.Int → IsThere (PlaceFits y main here part own) o → IntPlace o
  int_place o p is int f = subst IntPlace (sym is) (subst (IsThere (PlaceFits y main here part own)) is f, int)

  pub own_assignment_runs : (text : Name) (k p : ℕ) (target : Expr) (op : AssignOp) (e : Expr) → names target text ≡ true
      → Reads F grown ds part own (ls ++ record { name = text; number = k; declared = plain_int; part = p } ∷ []) (Unit {0}) (assignment cx target op e)
      (IsThere (λ a. Values y main here a.value AnInt))
  unfolding assignment
  own_assignment_runs text k p target op e same =
      let all : List Local = ls ++ record { name = text; number = k; declared = plain_int; part = p } ∷ [] in
      let places : Reads F grown ds part own all (Unit {0}) (place cx target) IntPlace = record {
        run = λ s end.
            let q = (place_runs y main here F grown ds part own all cx stands vars target).run s end in
            (q.0, λ x z. let w = q.1 x z in (w.0, int_place (place cx target s).0 _ (place_is cx ls text k p target s z.0 same) refl w.1));
      } in
      bind places (λ o. given (λ x. x.1) (int_assignment_at_runs y main here F grown ds part own all cx stands vars o op target e))
