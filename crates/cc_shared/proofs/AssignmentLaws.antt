-- Assignments.
use Rattle.std.proofs.Common.{◌≡◌, ℕ, Bool, true, false, cond, ◌∙◌, sym, ap, subst, List, Option, Some, None, refl, inl, inr}
use Rattle.std.specs.Prelude.{slice_get, ◌==◌}
use Rattle.std.proofs.lemmas.Bool.{eqb-true, true≢false}
use Rattle.std.proofs.lemmas.Option.{none-some}
use Rattle.cc_core.specs.declared.expression.Expression.{Expression}
use Rattle.cc_core.specs.Types.{ValueType, AnInt, FunctionTypes, Types, IsOwnPlace}
use Rattle.cc_core.specs.View.{term_of}
use Rattle.cc_one_answer.specs.Sorts.{Sort, NamedCell}
use Rattle.cc_one_answer.specs.Determinate.{MayWrite}
use Rattle.cc_tree.specs.declared.expressions.BinaryOp.{BinaryOp}
use Rattle.cc_tree.specs.declared.expressions.Expr.{Expr}
use Rattle.cc_tree.specs.declared.statements.AssignOp.{AssignOp}
use Rattle.cc_scopes.specs.declared.sharing.ShareRule.{ShareRule}
use Rattle.cc_scopes.specs.declared.state.Local.{Local}
use Rattle.cc_scopes.specs.declared.typed.Operand.{Operand}
use Rattle.cc_scopes.specs.declared.typed.Place.{Place}
use Rattle.cc_scopes.specs.declared.typed.Root.{Root}
use Rattle.cc_scopes.specs.declared.typed.Root.TheVariants as root
use Rattle.cc_scopes.specs.declared.types.Declared.{Declared}
use Rattle.cc_scopes.specs.declared.types.Ty.{Ty}
use Rattle.cc_scopes.specs.declared.types.Ty.TheVariants as ty
use Rattle.cc_scopes.specs.Scope.{Context}
use Rattle.cc_typing.specs.Whole.{written_rule}
use Rattle.cc_elaboration.specs.declared.assignments.Assignment.{Assignment}
use Rattle.cc_elaboration.specs.Assignments.{operator, combined, term_of as value_term, combined_value, value_by, assigned, assignment_to, no_assignment, assignment_at, assignment, stored, assign}
use Rattle.cc_shared.proofs.Runs.{IsThere, given, always, bind, next, after, done}
use Rattle.cc_shared.proofs.Forms.{StmtFits, empty_fits, assign_fits}
use Rattle.cc_shared.proofs.TypesOf.{value_type, target_of, IsCellType}
use Rattle.cc_shared.proofs.Det.{Stands, Reads, Values, OwnBy, PlaceFits}
use Rattle.cc_shared.proofs.OperatorLaws.{EachType, joined_runs, each_value_runs}
use Rattle.cc_shared.proofs.ExpressionLaws.{MayBeWritten, expr_runs, operand_runs, fitting_runs, place_runs, written_runs}

module _ (y : Types) (main : ℕ) (here : FunctionTypes) (F : Type 0) (grown ds : List Declared) (part : ℕ) (own : List ℕ) (ls : List Local) (cx : Context)
    (stands : F → Stands y main here cx)
    (vars : F → (k : ℕ) (d : Declared) → slice_get ds k ≡ Some d → slice_get here.vars k ≡ Some (target_of d)) where
  -- the value that is assigned, and the place where it may be
  abbrev pub AssignmentFits : Assignment → Type 0
  AssignmentFits a = PlaceFits y main here part own a.place × Values y main here a.value (value_type a.place.ty)
      × MayBeWritten y main here F grown ds part own ls cx stands vars a.place.sync a.place.root

  abbrev ValueFits : Ty → Option Expression → Type 0
  ValueFits wanted = IsThere (λ x. Values y main here x (value_type wanted))

  combined_runs : (op : BinaryOp) (p e : Expr) → Reads F grown ds part own ls (Unit {0}) (combined cx op p e) (EachType y main here F grown ds part own ls cx)
  unfolding combined
  combined_runs op p e = bind (expr_runs y main here F grown ds part own ls cx stands vars p) (λ a.
      bind (always (expr_runs y main here F grown ds part own ls cx stands vars e)) (λ b.
      given (λ x. (x.0.1, x.1)) (joined_runs y main here F grown ds part own ls cx op a b)))

  value_term_fits : (wanted : Ty) (v : Option Operand) → IsThere (λ (w : Operand). (u : ValueType) → Values y main here w.term u) v → ValueFits wanted (value_term v)
  value_term_fits wanted None p = p
  value_term_fits wanted (Some v) p = p (value_type wanted)

  combined_value_runs : (wanted : Ty) (op : BinaryOp) (p e : Expr) → Reads F grown ds part own ls (Unit {0}) (combined_value cx op p e) (ValueFits wanted)
  unfolding combined_value
  combined_value_runs wanted op p e = bind (combined_runs op p e) (λ t.
      bind (given (λ x. x.1) (each_value_runs y main here F grown ds part own ls cx t)) (λ v. done (value_term v) (λ x. value_term_fits wanted v x.1)))

  value_by_runs : (o : Option BinaryOp) (wanted : Ty) (p e : Expr) → Reads F grown ds part own ls (IsCellType wanted) (value_by o cx wanted p e) (ValueFits wanted)
  value_by_runs None wanted p e = fitting_runs y main here F grown ds part own ls cx stands vars wanted e
  value_by_runs (Some op) wanted p e = always (combined_value_runs wanted op p e)

  assigned_fits : (p : Place) (v : Option Expression) → PlaceFits y main here part own p → ValueFits p.ty v
      → MayBeWritten y main here F grown ds part own ls cx stands vars p.sync p.root → IsThere AssignmentFits (assigned p v)
  assigned_fits p None a b c = b
  assigned_fits p (Some v) a b c = (a, b, c)

  pub assignment_to_runs : (p : Place) (op : AssignOp) (target e : Expr)
      → Reads F grown ds part own ls (PlaceFits y main here part own p) (assignment_to p cx op target e) (IsThere AssignmentFits)
  unfolding assignment_to
  assignment_to_runs p op target e = bind (given (λ f. f.known) (value_by_runs (operator op) p.ty target e)) (λ v.
      after (written_runs y main here F grown ds part own ls cx stands vars p) (λ u x. x) (done (assigned p v) (λ x. assigned_fits p v x.0.0 x.0.1 x.1)))

  -- to an int
  int_assigned : (p : Place) (v : Option Expression) → p.ty ≡ ty.Int → ValueFits p.ty v → IsThere (λ (a : Assignment). Values y main here a.value AnInt) (assigned p v)
  int_assigned p None is b = b
  int_assigned p (Some v) is b = subst (λ u. Values y main here v u) (ap value_type is) b

  int_assignment_runs : (p : Place) (op : AssignOp) (target e : Expr)
      → Reads F grown ds part own ls (PlaceFits y main here part own p × (p.ty ≡ ty.Int)) (assignment_to p cx op target e)
      (IsThere (λ a. Values y main here a.value AnInt))
  unfolding assignment_to
  int_assignment_runs p op target e = bind (given (λ f. f.0.known) (value_by_runs (operator op) p.ty target e)) (λ v.
      next (written_runs y main here F grown ds part own ls cx stands vars p) (done (assigned p v) (λ x. int_assigned p v x.0.1 x.1)))

  no_assignment_runs : (e : Expr) {Q : Option Assignment → Type 0} → Reads F grown ds part own ls ⊥ (no_assignment cx e) Q
  unfolding no_assignment
  no_assignment_runs e = next (always (operand_runs y main here F grown ds part own ls cx stands vars e)) (done None (λ x. absurd x))

  assignment_at_runs : (p : Option Place) (op : AssignOp) (target e : Expr)
      → Reads F grown ds part own ls (IsThere (PlaceFits y main here part own) p) (assignment_at p cx op target e) (IsThere AssignmentFits)
  assignment_at_runs None op target e = no_assignment_runs e
  assignment_at_runs (Some p) op target e = assignment_to_runs p op target e

  pub assignment_runs : (target : Expr) (op : AssignOp) (e : Expr) → Reads F grown ds part own ls (Unit {0}) (assignment cx target op e) (IsThere AssignmentFits)
  unfolding assignment
  assignment_runs target op e = bind (place_runs y main here F grown ds part own ls cx stands vars target) (λ p.
      given (λ x. x.1) (assignment_at_runs p op target e))

  pub int_assignment_at_runs : (p : Option Place) (op : AssignOp) (target e : Expr)
      → Reads F grown ds part own ls (IsThere (λ (q : Place). PlaceFits y main here part own q × (q.ty ≡ ty.Int)) p) (assignment_at p cx op target e)
      (IsThere (λ a. Values y main here a.value AnInt))
  int_assignment_at_runs None op target e = no_assignment_runs e
  int_assignment_at_runs (Some p) op target e = int_assignment_runs p op target e

  -- ---- what is written is a sync cell, or an own variable

  own_part : (a b : ℕ) (i : Bool) → (a == b) ≡ i → (rule : ShareRule) → cond i None (Some rule) ≡ None → a ≡ b
  own_part a b true is rule none = eqb-true a b is
  own_part a b false is rule none = absurd (none-some rule (sym none))

  outside_member : (b : Bool) (rule : ShareRule) → b ≡ false → cond b None (Some rule) ≡ None → ⊥
  outside_member true rule is none = absurd (true≢false is)
  outside_member false rule is none = none-some rule (sym none)

  plain_write : (r : Root) (sync : Bool) (u : ValueType) (q : Sort) (x : Expression) → cx.part ≡ part → cx.in_constructor ≡ false → sync ≡ false
      → written_rule cx r ≡ None → OwnBy y main here part own r sync u q (term_of x) → (q ≡ NamedCell u) × IsOwnPlace own (term_of x)
  plain_write (root.Variable k) sync u q x same outside plain none owned =
      let o = owned plain in (o.0, o.1 (own_part k cx.part (k == cx.part) refl _ none ∙ same))
  plain_write root.Member sync u q x same outside plain none owned =
      absurd (outside_member cx.in_constructor _ outside none)
  plain_write root.Pointer sync u q x same outside plain none owned = absurd (none-some _ (sym none))

  may_write : (a : Assignment) → cx.part ≡ part → cx.in_constructor ≡ false → (f : AssignmentFits a)
      → MayWrite y main here a.place.sync (value_type a.place.ty) (f.0).sort own (term_of a.place.address)
  may_write a same outside f = elim f.2 [
    | inl shared ↦ inl shared
    | inr plain ↦ inr (plain_write a.place.root a.place.sync (value_type a.place.ty) (f.0).sort a.place.address same outside plain.0 plain.1 (f.0).owned)
  ]

  stored_fits : (prints : Bool) (a : Option Assignment) → cx.part ≡ part → cx.in_constructor ≡ false → IsThere AssignmentFits a
      → StmtFits y main here prints own (stored a)
  stored_fits prints None same outside f = empty_fits y main here prints own
  stored_fits prints (Some a) same outside f = assign_fits y main here prints own a.place.remote a.place.address a.value (f.0).sort a.place.sync
      (value_type a.place.ty) (f.0).cell (may_write a same outside f) (f.0).sorted f.1

  pub assign_runs : (prints : Bool) → cx.part ≡ part → cx.in_constructor ≡ false → (target : Expr) (op : AssignOp) (e : Expr)
      → Reads F grown ds part own ls (Unit {0}) (assign cx target op e) (StmtFits y main here prints own)
  unfolding assign
  assign_runs prints same outside target op e = bind (assignment_runs target op e) (λ a. done (stored a) (λ x. stored_fits prints a same outside x.1))
