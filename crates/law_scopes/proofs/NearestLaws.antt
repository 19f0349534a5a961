-- What the text says, and the core of an expression; and that a number is that of one declaration.
use Rattle.std.proofs.Common.{◌≡◌, ℕ, ◌≤◌, List, [], ◌∷◌, ◌++◌, length, inl, inr, refl, sym, ap, ◌∙◌, arith}
use Rattle.cc_names.specs.Table.{Name}
use Rattle.cc_scopes.specs.declared.state.State.{State}
use Rattle.cc_scopes.specs.Scope.{Context, declare, variable}
use Rattle.cc_scopes.specs.declared.types.Declared.{Declared}
use Rattle.cc_tree.specs.declared.expressions.Expr.{Expr}
use Rattle.cc_typing.specs.Expr.{expr_to}
use Rattle.law_scopes.specs.Text.{Text, Opens, Closes, Declares, Copies, Uses, declarations, number_of, Matches, IsNearest, IsDeclaration}
use Rattle.law_scopes.specs.Uses.{names_to, IsAmong}
use Rattle.law_scopes.specs.Variables.{TypedNames}
use Rattle.law_scopes.proofs.ScopeLaws.{Finds}
use Rattle.law_scopes.proofs.PartLaws.{Covers}
use Rattle.law_scopes.proofs.ExpressionLaws.{expr_to_runs}
use Rattle.law_scopes.proofs.TextLaws.{declare_w}

-- ---- where a function begins, and behind a declaration

pub begins : (s : State) → s.locals ≡ [] → s.made ≡ [] → Matches s []
begins s none_in_scope none_made = record {
  made = ap (λ ds. length ds) none_made;
  finds = λ name. ap (λ ls. number_of (variable name ls)) none_in_scope;
}

pub declares : (cx : Context) (name : Name) (d : Declared) (s : State) (text : Text) → Matches s text
    → Matches (declare cx name d s).1 (Declares name ∷ text)
declares cx name d s text m = (declare_w cx name d).walk s text m

-- ---- the core of an expression

module _ (s : State) (text : Text) (m : Matches s text) where
  finds : (whole : List Name) (name : Name) → IsAmong whole name → Finds (IsNearest text whole) s name
  finds whole name among = λ found is. (name, among, sym (m.finds name) ∙ ap number_of is)

  covered : (whole xs : List Name) → ((x : Name) → IsAmong xs x → IsAmong whole x) → Covers (IsNearest text whole) s xs
  covered whole [] all = tt
  covered whole (x ∷ xs) all = (finds whole x (all x (inl refl)), covered whole xs (λ y p. all y (inr p)))

  pub expression_nearest : (depth : ℕ) (cx : Context) (e : Expr) → TypedNames (IsNearest text (names_to depth e)) (expr_to depth cx e s).0
  expression_nearest depth cx e =
      let names = names_to depth e in
      (((expr_to_runs (IsNearest text names) s cx depth e (covered names names (λ x p. p))).run s tt).1 tt (refl, refl)).1

pub expressions_nearest : (depth : ℕ) (cx : Context) (e : Expr) (s : State) (text : Text) → Matches s text
    → TypedNames (IsNearest text (names_to depth e)) (expr_to depth cx e s).0
expressions_nearest depth cx e s text m = expression_nearest s text m depth cx e

-- ---- one number, one declaration

-- a text that ends with another declares as many at least
at_least : (later before : Text) → declarations before ≤ declarations (later ++ before)
at_least [] before = omega arith
at_least (Opens ∷ later) before = at_least later before
at_least (Closes ∷ later) before = at_least later before
at_least (Copies x k ∷ later) before = at_least later before
at_least (Uses x ∷ later) before = at_least later before
at_least (Declares x ∷ later) before = let rest : declarations before ≤ declarations (later ++ before) = at_least later before in omega (arith, rest)

abbrev tail_of : Text → Text
tail_of [] = []
tail_of (x ∷ xs) = xs

abbrev name_or : Name → Text → Name
name_or other [] = other
name_or other (Declares x ∷ before) = x
name_or other (Opens ∷ before) = other
name_or other (Closes ∷ before) = other
name_or other (Copies x k ∷ before) = other
name_or other (Uses x ∷ before) = other

module _ (x y : Name) where
  abbrev Same : Text → Text → Type 0
  Same before earlier = (x ≡ y) × (before ≡ earlier)

  here : (before earlier : Text) → Declares x ∷ before ≡ Declares y ∷ earlier → Same before earlier
  here before earlier is = (ap (name_or x) is, ap tail_of is)

  -- one declaration further back has a smaller number
  further : (later before earlier : Text) → before ≡ later ++ Declares y ∷ earlier → declarations before ≡ declarations earlier → Same before earlier
  further later before earlier is same =
      let less : declarations (Declares y ∷ earlier) ≤ declarations (later ++ Declares y ∷ earlier) = at_least later (Declares y ∷ earlier) in
      let whole : declarations before ≡ declarations (later ++ Declares y ∷ earlier) = ap declarations is in
      absurd (omega (arith, less, whole, same))

  nearer : (later before earlier : Text) → later ++ Declares x ∷ before ≡ earlier → declarations before ≡ declarations earlier → Same before earlier
  nearer later before earlier is same =
      let less : declarations (Declares x ∷ before) ≤ declarations (later ++ Declares x ∷ before) = at_least later (Declares x ∷ before) in
      let whole : declarations (later ++ Declares x ∷ before) ≡ declarations earlier = ap declarations is in
      absurd (omega (arith, less, whole, same))

  same_place : (first second before earlier : Text) → first ++ Declares x ∷ before ≡ second ++ Declares y ∷ earlier
      → declarations before ≡ declarations earlier → Same before earlier
  same_place [] [] before earlier is same = here before earlier is
  same_place [] (m ∷ second) before earlier is same = further second before earlier (ap tail_of is) same
  same_place (m ∷ first) [] before earlier is same = nearer first before earlier (ap tail_of is) same
  same_place (m ∷ first) (n ∷ second) before earlier is same = same_place first second before earlier (ap tail_of is) same

pub one_declaration : (text : Text) (x y : Name) (before earlier : Text) (k : ℕ) → IsDeclaration text x before k → IsDeclaration text y earlier k
    → (x ≡ y) × (before ≡ earlier)
one_declaration text x y before earlier k p q =
    same_place x y p.0 q.0 before earlier (sym p.1 ∙ q.1) (p.2 ∙ sym q.2)
