-- Assignments.
use Rattle.cc_core.specs.Core as core
use Rattle.cc_core.specs.Names as names
use Rattle.core_types.specs.Types.{Types, AnInt, Allowed}
use Rattle.core_types.specs.Values.{World}
use Rattle.core_types.specs.Typing.{Scope}
use Rattle.std.proofs.Common.{◌≡◌, ℕ, Bool, true, false, ◌∙◌, sym, ap, subst, List, Option, Some, None, refl, inl}
use Rattle.std.specs.Prelude.{slice_get, ◌&&◌, if◌then◌else◌}
use Rattle.std.proofs.lemmas.Bool.{true≢false}
use Rattle.std.proofs.lemmas.Option.{none-some, same_Some}
use Rattle.cc_names.specs.declared.rule.StaticRule.TheVariants as r
use Rattle.cc_core.specs.declared.expression.Expression.{Expression}
use Rattle.cc_tree.specs.declared.expressions.BinaryOp.{BinaryOp}
use Rattle.cc_tree.specs.declared.expressions.BinaryOp.TheVariants as binary
use Rattle.cc_tree.specs.declared.expressions.Expr.{Expr}
use Rattle.cc_tree.specs.declared.statements.AssignOp.{AssignOp}
use Rattle.cc_tree.specs.declared.statements.AssignOp.TheVariants as assign'
use Rattle.cc_scopes.specs.declared.state.Local.{Local}
use Rattle.cc_scopes.specs.declared.state.State.{State}
use Rattle.cc_scopes.specs.declared.typed.Operand.{Operand}
use Rattle.cc_scopes.specs.declared.typed.Place.{Place}
use Rattle.cc_scopes.specs.declared.typed.Typed.{Typed}
use Rattle.cc_scopes.specs.declared.typed.Typed.TheVariants as typed
use Rattle.cc_scopes.specs.declared.types.Declared.{Declared}
use Rattle.cc_scopes.specs.declared.types.Ty.{Ty}
use Rattle.cc_scopes.specs.declared.types.Ty.TheVariants as ty
use Rattle.cc_scopes.specs.Elab.{Elab, pure}
use Rattle.cc_scopes.specs.Scope.{Context}
use Rattle.cc_scopes.specs.Types.{is_int}
use Rattle.cc_scopes.specs.Typed.{is_far_local, int, loaded, may_wait, load, load_unless, decay, broken, not_void_by}
use Rattle.cc_operators.specs.Operators.{takes, joined_term, joined_operands, joined_values, joined}
use Rattle.cc_typing.specs.Expr.{expr}
use Rattle.cc_typing.specs.Whole.{place_unless, as_place, place}
use Rattle.cc_elaboration.specs.declared.assignments.Assignment.{Assignment}
use Rattle.cc_elaboration.specs.Assignments.{operator, combined, term_of as value_term, combined_value, value_by, assigned, assignment_to, no_assignment, assignment_at, assignment, stored, assign}
use Rattle.source_types.specs.Reading.{IsThere}
use Rattle.source_types.proofs.Runs.{given, always, bind, next, after, done}
use Rattle.source_types.proofs.StmtForms.{StmtFits, empty_fits, assign_fits}
use Rattle.source_types.specs.TypesOf.{value_type, target_of}
use Rattle.source_types.specs.Reading.{Stands, Ends, Grown}
use Rattle.source_types.proofs.Fits.{Reads, Keeps, having, Values, OperandFits, PlaceFits, TypedFits}
use Rattle.source_types.proofs.StateLaws.{block_if_runs}
use Rattle.source_types.proofs.ScopeLaws.{never, decay_runs, load_fits, passes}
use Rattle.source_types.proofs.OperatorLaws.{joined_runs, joined_value}
use Rattle.source_types.proofs.CallLaws.{Fitting}
use Rattle.source_types.proofs.ExpressionLaws.{PlaceIs, expr_runs, operand_runs, fitting_runs, place_runs, written_runs}

left_int : (a b : Bool) → (a && b) ≡ true → a ≡ true
left_int true b is = refl
left_int false b is = is

int_is : (t : Ty) → is_int t ≡ true → t ≡ ty.Int
int_is ty.Int is = refl
int_is ty.Null is = absurd (true≢false (sym is))
int_is ty.Void is = absurd (true≢false (sym is))
int_is (ty.Pointer to remote) is = absurd (true≢false (sym is))
int_is ty.Unknown is = absurd (true≢false (sym is))

-- the operators that may stand before `=`
abbrev IsCompound : BinaryOp → Type 0
IsCompound binary.Add = Unit {0}
IsCompound binary.Sub = Unit {0}
IsCompound binary.Mul = Unit {0}
IsCompound binary.Div = Unit {0}
IsCompound binary.Rem = Unit {0}
IsCompound _ = ⊥

compound_int : (o : BinaryOp) (t u : Ty) → IsCompound o → takes o t u ≡ true → t ≡ ty.Int
compound_int binary.Add t u c is = int_is t (left_int (is_int t) (is_int u) is)
compound_int binary.Sub t u c is = int_is t (left_int (is_int t) (is_int u) is)
compound_int binary.Mul t u c is = int_is t (left_int (is_int t) (is_int u) is)
compound_int binary.Div t u c is = int_is t (left_int (is_int t) (is_int u) is)
compound_int binary.Rem t u c is = int_is t (left_int (is_int t) (is_int u) is)
compound_int binary.Or t u c is = absurd c
compound_int binary.And t u c is = absurd c
compound_int binary.Eq t u c is = absurd c
compound_int binary.Ne t u c is = absurd c
compound_int binary.Lt t u c is = absurd c
compound_int binary.Le t u c is = absurd c
compound_int binary.Gt t u c is = absurd c
compound_int binary.Ge t u c is = absurd c

abbrev IfCompound : Option BinaryOp → Type 0
IfCompound None = Unit {0}
IfCompound (Some o) = IsCompound o

operator_compound : (o : AssignOp) → IfCompound (operator o)
operator_compound assign'.Set = tt
operator_compound assign'.Add = tt
operator_compound assign'.Sub = tt
operator_compound assign'.Mul = tt
operator_compound assign'.Div = tt
operator_compound assign'.Rem = tt

-- again: an expression that is read again in the same scope is the same
module _ (program : core.Program) (y : Types) (world : World) (home : names.Name) (here : Scope) (F : Type 0) (grown : Grown) (ds : List Declared) (ls : List Local) (cx : Context)
    (stands : F → Stands program y here grown cx)
    (vars : F → (k : ℕ) (d : Declared) → slice_get ds k ≡ Some d → slice_get here.vars k ≡ Some (target_of d))
    (same : F → grown.waits ≡ here.waits)
    (again : (e : Expr) (s u : State) → s.locals ≡ u.locals → (expr cx e s).0 ≡ (expr cx e u).0) where
  -- ---- what stands in a place has the place's type

  abbrev TypeIs : Ty → Option Operand → Type 0
  TypeIs t = IsThere (λ (v : Operand). OperandFits program y world home here v × (v.ty ≡ t))

  load_type_runs : (p : Place) → is_far_local p ≡ false → Reads F grown ds ls (PlaceFits program y world home here p × F) (load cx p) (TypeIs p.ty)
  unfolding load
  load_type_runs p near = bind (block_if_runs F grown ds ls (may_wait p) cx.line) (λ u. done (Some (loaded p)) (λ x.
      (load_fits program y world home here F grown ds ls cx same p x.0.0 near (subst (λ b. Allowed b (may_wait p)) (same x.0.1) x.1), refl)))

  load_type_unless : (b : Bool) (p : Place) → is_far_local p ≡ b
      → Reads F grown ds ls (PlaceFits program y world home here p × F) (load_unless b cx p) (TypeIs p.ty)
  load_type_unless true p is = never F grown ds ls cx _ None
  load_type_unless false p is = load_type_runs p is

  -- ---- `p op= e` is `p = p op (e)`, of ints

  abbrev CompoundFits : Ty → Typed → Type 0
  CompoundFits t (typed.Value v) = (Values program y world home here v.term AnInt × (v.ty ≡ ty.Int)) × (t ≡ ty.Int)
  CompoundFits t _ = ⊥

  ints_joined : (b : Bool) (o : BinaryOp) (v w : Operand) (t : Ty) → takes o v.ty w.ty ≡ b → IsCompound o
      → Reads F grown ds ls (TypeIs t (Some v) × OperandFits program y world home here w)
      (if b then pure (typed.Value (int (joined_term o v.term w.term))) else broken cx r.BadType) (CompoundFits t)
  ints_joined true o v w t is c = done _ (λ x.
      ((joined_value program y world home here F grown ds ls cx same o v.ty w.ty v.term w.term is x.0.0 x.1, refl), sym x.0.1 ∙ compound_int o v.ty w.ty c is))
  ints_joined false o v w t is c = never F grown ds ls cx _ typed.Broken

  operands_joined : (o : BinaryOp) (v w : Option Operand) (t : Ty) → IsCompound o
      → Reads F grown ds ls (TypeIs t v × IsThere (OperandFits program y world home here) w) (joined_operands cx o v w) (CompoundFits t)
  operands_joined o None w t c = done typed.Spoiled (λ x. absurd x.0)
  operands_joined o (Some v) None t c = done typed.Spoiled (λ x. absurd x.1)
  operands_joined o (Some v) (Some w) t c = ints_joined (takes o v.ty w.ty) o v w t refl c

  values_joined : (o : BinaryOp) (p : Place) (b : Typed) → IsCompound o
      → Reads F grown ds ls (PlaceFits program y world home here p × TypedFits program y world home here b) (joined_values cx o (typed.Place p) b) (CompoundFits p.ty)
  unfolding joined_values
  values_joined o p b c = bind (having F grown ds ls (given (λ x. (x.0.0, x.1)) (load_type_unless (is_far_local p) p refl))) (λ v.
      bind (given (λ x. x.0.1) (decay_runs program y world home here F grown ds ls cx same b)) (λ w. given (λ x. (x.0.1, x.1)) (operands_joined o v w p.ty c)))

  place_joined : (o : BinaryOp) (p : Place) (b : Typed) → IsCompound o
      → Reads F grown ds ls (PlaceFits program y world home here p × TypedFits program y world home here b) (joined cx o (typed.Place p) b) (CompoundFits p.ty)
  unfolding joined
  place_joined binary.Add p b c = values_joined binary.Add p b c
  place_joined binary.Sub p b c = values_joined binary.Sub p b c
  place_joined binary.Mul p b c = values_joined binary.Mul p b c
  place_joined binary.Div p b c = values_joined binary.Div p b c
  place_joined binary.Rem p b c = values_joined binary.Rem p b c
  place_joined binary.Or p b c = absurd c
  place_joined binary.And p b c = absurd c
  place_joined binary.Eq p b c = absurd c
  place_joined binary.Ne p b c = absurd c
  place_joined binary.Lt p b c = absurd c
  place_joined binary.Le p b c = absurd c
  place_joined binary.Gt p b c = absurd c
  place_joined binary.Ge p b c = absurd c

  -- where an expression stands for a place
  abbrev StandsFor : Expr → Place → Type 0
  StandsFor target p = (s : State) × (s.locals ≡ ls) × ((expr cx target s).0 ≡ typed.Place p)

  -- read again, it is the same place
  joined_again : (o : BinaryOp) (p : Place) (a b : Typed) → IsCompound o
      → Reads F grown ds ls ((a ≡ typed.Place p) × PlaceFits program y world home here p × TypedFits program y world home here a × TypedFits program y world home here b) (joined cx o a b) (CompoundFits p.ty)
  joined_again o p a b c = record {
    run = λ s e.
        let q = (joined_runs program y world home here F grown ds ls cx same o a b).run s e in (
          q.0,
          λ x k. subst (λ z. Keeps F ds ls (joined cx o z b s).1 × CompoundFits p.ty (joined cx o z b s).0) (sym x.0)
              (((place_joined o p b c).run s (subst (λ z. Ends grown (joined cx o z b s).1) x.0 e)).1 (x.1, x.3) k),
        );
  }

  read_again : (target : Expr) (p : Place) → Reads F grown ds ls (StandsFor target p) (expr cx target)
      (λ a. (a ≡ typed.Place p) × TypedFits program y world home here a)
  read_again target p = record {
    run = λ s e.
        let q = (expr_runs program y world home here F grown ds ls cx stands vars target).run s e in
        (q.0, λ x k. let w = q.1 tt k in (w.0, (again target s x.0 (k.0 ∙ sym x.1) ∙ x.2, w.1)));
  }

  combined_runs : (o : BinaryOp) (p : Place) (target e : Expr) → IsCompound o
      → Reads F grown ds ls (StandsFor target p × PlaceFits program y world home here p) (combined cx o target e) (CompoundFits p.ty)
  unfolding combined
  combined_runs o p target e c = bind (given (λ x. x.0) (read_again target p)) (λ a.
      bind (always (expr_runs program y world home here F grown ds ls cx stands vars e)) (λ b.
      given (λ x. (x.0.1.0, x.0.0.1, x.0.1.1, x.1)) (joined_again o p a b c)))

  abbrev ValueFits : Ty → Option Expression → Type 0
  ValueFits wanted = IsThere (λ x. Fitting program y world home here x (value_type wanted))

  int_fits : (t : Ty) (x : Expression) → t ≡ ty.Int → Values program y world home here x AnInt → Fitting program y world home here x (value_type t)
  int_fits t x is v = (AnInt, v, inl (sym (ap value_type is)))

  -- what is never read
  from_nothing : {A : Type 0} {X : Type 0} {p : Elab A} {Q R : A → Type 0} → Reads F grown ds ls X p Q → Reads F grown ds ls ⊥ p R
  from_nothing r = record { run = λ s e. ((r.run s e).0, λ x k. absurd x) }

  abbrev IntIs : Ty → Option Operand → Type 0
  IntIs t = IsThere (λ (v : Operand). Values program y world home here v.term AnInt × (t ≡ ty.Int))

  value_decayed : (u t : Ty) (v : Operand) → Reads F grown ds ls (Values program y world home here v.term AnInt × (t ≡ ty.Int)) (not_void_by u cx v) (IntIs t)
  value_decayed ty.Void t v = never F grown ds ls cx _ None
  value_decayed ty.Int t v = done (Some v) (λ x. x)
  value_decayed ty.Null t v = done (Some v) (λ x. x)
  value_decayed ty.Unknown t v = done (Some v) (λ x. x)
  value_decayed (ty.Pointer to remote) t v = done (Some v) (λ x. x)

  compound_decayed : (t : Ty) (z : Typed) → Reads F grown ds ls (CompoundFits t z) (decay cx z) (IntIs t)
  compound_decayed t (typed.Value v) = given (λ x. (x.0.0, x.1)) (value_decayed v.ty t v)
  compound_decayed t typed.Broken = from_nothing (decay_runs program y world home here F grown ds ls cx same typed.Broken)
  compound_decayed t typed.Spoiled = from_nothing (decay_runs program y world home here F grown ds ls cx same typed.Spoiled)
  compound_decayed t (typed.This class remote) = from_nothing (decay_runs program y world home here F grown ds ls cx same (typed.This class remote))
  compound_decayed t (typed.Constant term value) = from_nothing (decay_runs program y world home here F grown ds ls cx same (typed.Constant term value))
  compound_decayed t (typed.Place p) = from_nothing (decay_runs program y world home here F grown ds ls cx same (typed.Place p))
  compound_decayed t (typed.Array p n) = from_nothing (decay_runs program y world home here F grown ds ls cx same (typed.Array p n))
  compound_decayed t (typed.Object o) = from_nothing (decay_runs program y world home here F grown ds ls cx same (typed.Object o))

  int_term : (t : Ty) (v : Option Operand) → IntIs t v → ValueFits t (value_term v)
  int_term t None p = p
  int_term t (Some v) p = int_fits t v.term p.1 p.0

  combined_value_runs : (o : BinaryOp) (p : Place) (target e : Expr) → IsCompound o
      → Reads F grown ds ls (StandsFor target p × PlaceFits program y world home here p) (combined_value cx o target e) (ValueFits p.ty)
  unfolding combined_value
  combined_value_runs o p target e c = bind (combined_runs o p target e c) (λ z. bind (given (λ x. x.1) (compound_decayed p.ty z)) (λ v.
      done (value_term v) (λ x. int_term p.ty v x.1)))

  value_by_runs : (o : Option BinaryOp) (p : Place) (target e : Expr) → IfCompound o
      → Reads F grown ds ls (StandsFor target p × PlaceFits program y world home here p) (value_by o cx p.ty target e) (ValueFits p.ty)
  value_by_runs None p target e c = given (λ x. x.1.known) (fitting_runs program y world home here F grown ds ls cx stands vars p.ty e)
  value_by_runs (Some o) p target e c = combined_value_runs o p target e c

  -- ---- assignments

  abbrev Found : Expr → Place → Type 0
  Found target p = StandsFor target p × PlaceIs program y world home here F grown ds ls cx stands vars p

  -- the value that is assigned, and the place where it may be
  abbrev pub AssignmentFits : Assignment → Type 0
  AssignmentFits a = PlaceIs program y world home here F grown ds ls cx stands vars a.place × Fitting program y world home here a.value (value_type a.place.ty)
      × Allowed grown.waits a.place.remote

  assigned_fits : (p : Place) (v : Option Expression) → PlaceIs program y world home here F grown ds ls cx stands vars p → ValueFits p.ty v
      → Allowed grown.waits p.remote → IsThere AssignmentFits (assigned p v)
  assigned_fits p None a b c = b
  assigned_fits p (Some v) a b c = (a, b, c)

  pub assignment_to_runs : (p : Place) (op : AssignOp) (target e : Expr) → Reads F grown ds ls (Found target p) (assignment_to p cx op target e) (IsThere AssignmentFits)
  unfolding assignment_to
  assignment_to_runs p op target e = bind (given (λ f. (f.0, f.1.0)) (value_by_runs (operator op) p target e (operator_compound op))) (λ v.
      after (written_runs program y world home here F grown ds ls cx stands vars p) (λ u x. x) (done (assigned p v) (λ x. assigned_fits p v x.0.0.1 x.0.1 x.1)))

  no_assignment_runs : (e : Expr) {Q : Option Assignment → Type 0} → Reads F grown ds ls ⊥ (no_assignment cx e) Q
  unfolding no_assignment
  no_assignment_runs e = next (always (operand_runs program y world home here F grown ds ls cx stands vars e)) (done None (λ x. absurd x))

  assignment_at_runs : (p : Option Place) (op : AssignOp) (target e : Expr)
      → Reads F grown ds ls (IsThere (Found target) p) (assignment_at p cx op target e) (IsThere AssignmentFits)
  assignment_at_runs None op target e = no_assignment_runs e
  assignment_at_runs (Some p) op target e = assignment_to_runs p op target e

  -- what is a place stands for it
  place_is : (t : Typed) (s : State) (p : Place) → (as_place cx t s).0 ≡ Some p → t ≡ typed.Place p
  place_is (typed.Place q) s p is = unless (is_far_local q) is
    where
      unless : (b : Bool) → (place_unless b cx q s).0 ≡ Some p → typed.Place q ≡ typed.Place p
      unless true is = absurd (none-some p is)
      unless false is = ap typed.Place (same_Some q p is)
  place_is typed.Broken s p is = absurd (none-some p is)
  place_is typed.Spoiled s p is = absurd (none-some p is)
  place_is (typed.Value v) s p is = absurd (none-some p is)
  place_is (typed.This class remote) s p is = absurd (none-some p is)
  place_is (typed.Constant term value) s p is = absurd (none-some p is)
  place_is (typed.Array q n) s p is = absurd (none-some p is)
  place_is (typed.Object o) s p is = absurd (none-some p is)

  stands_for : (target : Expr) (s : State) (o : Option Place) → s.locals ≡ ls → (place cx target s).0 ≡ o
      → IsThere (PlaceIs program y world home here F grown ds ls cx stands vars) o → IsThere (Found target) o
  unfolding place
  stands_for target s None same_ls is f = f
  stands_for target s (Some p) same_ls is f = ((s, same_ls, place_is (expr cx target s).0 (expr cx target s).1 p is), f)

  place_found : (target : Expr) → Reads F grown ds ls (Unit {0}) (place cx target) (IsThere (Found target))
  place_found target = record {
    run = λ s e.
        let q = (place_runs program y world home here F grown ds ls cx stands vars target).run s e in
        (q.0, λ x k. let w = q.1 x k in (w.0, stands_for target s (place cx target s).0 k.0 refl w.1));
  }

  pub assignment_runs : (target : Expr) (op : AssignOp) (e : Expr) → Reads F grown ds ls (Unit {0}) (assignment cx target op e) (IsThere AssignmentFits)
  unfolding assignment
  assignment_runs target op e = bind (place_found target) (λ p. given (λ x. x.1) (assignment_at_runs p op target e))

  stored_fits : (a : Option Assignment) → F → IsThere AssignmentFits a → StmtFits program y world home here (stored a)
  stored_fits None x f = empty_fits program y world home here
  stored_fits (Some a) x f = let p = f.0.0 in
      assign_fits program y world home here a.place.remote a.place.address a.value p.target a.place.sync (value_type a.place.ty) p.leads f.1 p.cell
      (passes program y world home here F grown ds ls cx a.place.remote a.place.ty p.known f.0.1)
      (subst (λ b. Allowed b a.place.remote) (same x) f.2)

  pub assign_runs : (target : Expr) (op : AssignOp) (e : Expr) → Reads F grown ds ls (Unit {0}) (assign cx target op e) (StmtFits program y world home here)
  unfolding assign
  assign_runs target op e = having F grown ds ls (bind (always (assignment_runs target op e)) (λ a.
      done (stored a) (λ x. stored_fits a x.0.1 x.1)))
