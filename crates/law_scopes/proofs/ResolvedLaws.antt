-- The variables in the core of an expression are those that its names mean.
use Rattle.std.proofs.Common.{◌≡◌, ℕ, List, [], ◌∷◌, inl, inr, refl, sym, ap}
use Rattle.cc_names.specs.Table.{Name}
use Rattle.cc_scopes.specs.declared.state.State.{State}
use Rattle.cc_scopes.specs.Scope.{Context}
use Rattle.cc_tree.specs.declared.expressions.Expr.{Expr}
use Rattle.cc_typing.specs.Expr.{expr_to}
use Rattle.law_names.proofs.InnermostLaws.{found_is_innermost}
use Rattle.law_scopes.specs.Uses.{names_to, IsAmong, IsNamed}
use Rattle.law_scopes.specs.Variables.{TypedNames}
use Rattle.law_scopes.proofs.ScopeLaws.{Finds}
use Rattle.law_scopes.proofs.PartLaws.{Covers}
use Rattle.law_scopes.proofs.ExpressionLaws.{expr_to_runs}

finds : (whole : List Name) (s : State) (name : Name) → IsAmong whole name → Finds (IsNamed whole s.locals) s name
finds whole s name among = λ found is.
    let p = found_is_innermost name s.locals found is in
    (name, p.0, among, p.1, sym (ap (λ f. f.number) p.2))

covered : (whole : List Name) (s : State) (xs : List Name) → ((x : Name) → IsAmong xs x → IsAmong whole x) → Covers (IsNamed whole s.locals) s xs
covered whole s [] all = tt
covered whole s (x ∷ xs) all = (finds whole s x (all x (inl refl)), covered whole s xs (λ y p. all y (inr p)))

all_covered : (names : List Name) (s : State) → Covers (IsNamed names s.locals) s names
all_covered names s = covered names s names (λ x p. p)

module _ (depth : ℕ) (cx : Context) (e : Expr) (s : State) where
  abbrev Outcome : Type 0
  Outcome = ((expr_to depth cx e s).1.locals ≡ s.locals) × ((expr_to depth cx e s).1.made ≡ s.made)

  outcome : Outcome × TypedNames (IsNamed (names_to depth e) s.locals) (expr_to depth cx e s).0
  outcome = ((expr_to_runs (IsNamed (names_to depth e) s.locals) s cx depth e (all_covered (names_to depth e) s)).run s tt).1 tt (refl, refl)

  pub expression_names : TypedNames (IsNamed (names_to depth e) s.locals) (expr_to depth cx e s).0
  expression_names = outcome.1

  pub expression_scope : (expr_to depth cx e s).1.locals ≡ s.locals
  expression_scope = outcome.0.0

  pub expression_made : (expr_to depth cx e s).1.made ≡ s.made
  expression_made = outcome.0.1
