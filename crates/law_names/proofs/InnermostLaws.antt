-- The innermost variable of a name is the last one of that name.
use Rattle.std.proofs.Common.{◌≡◌, ◌≢◌, Bool, true, false, if◌then◌else◌, List, [], ◌∷◌, ◌++◌, ◌⊎◌, inl, inr, Option, Some, None, refl, sym, ap, ◌∙◌, true≢false}
use Rattle.std.proofs.lemmas.Option.{none-some}
use Rattle.std.proofs.lemmas.Slice.Eq.{bytes_eq-Decides}
use Rattle.std.specs.Prelude.{bytes_eq}
use Rattle.cc_names.specs.Table.{Name}
use Rattle.cc_scopes.specs.declared.scope.Found.{Found}
use Rattle.cc_scopes.specs.declared.state.Local.{Local}
use Rattle.cc_scopes.specs.Scope.{found_as, later, variable_from, variable}
use Rattle.law_names.specs.Innermost.{IsInnermost, NoVariable}

pub some_inside : {A : Type 0} (x y : A) → Some x ≡ Some y → x ≡ y
some_inside {A = A} x y is = ap (λ o. elim o as (λ z. A) [ None ↦ x | Some z ↦ z ]) is

other : (l : Local) (name : Name) → bytes_eq l.name name ≡ false → l.name ≢ name
other l name is = λ same. true≢false (sym ((bytes_eq-Decides l.name name).1 same) ∙ is)

-- ---- what is found

-- a variable of the list, or what was found before it
abbrev FoundIn : Name → Option Found → List Local → Found → Type 0
FoundIn name before scope x = ((l : Local) × IsInnermost name scope l × (x ≡ found_as l)) ⊎ ((before ≡ Some x) × NoVariable name scope)

inside : (name : Name) (l : Local) (scope : List Local) (x : Found) → ((v : Local) × IsInnermost name scope v × (x ≡ found_as v))
    → ((v : Local) × IsInnermost name (l ∷ scope) v × (x ≡ found_as v))
inside name l scope x p = (
  p.0,
  record {
    outer = l ∷ p.1.outer;
    inner = p.1.inner;
    stands = ap (λ z. l ∷ z) p.1.stands;
    named = p.1.named;
    hidden_by_none = p.1.hidden_by_none;
  },
  p.2,
)

step_found : (name : Name) (before : Option Found) (l : Local) (scope : List Local) (x : Found) (b : Bool) → bytes_eq l.name name ≡ b
    → FoundIn name (if b then Some (found_as l) else before) scope x → FoundIn name before (l ∷ scope) x
step_found name before l scope x true is (inl p) = inl (inside name l scope x p)
step_found name before l scope x false is (inl p) = inl (inside name l scope x p)
step_found name before l scope x true is (inr p) = inl (
  l,
  record { outer = []; inner = scope; stands = refl; named = (bytes_eq-Decides l.name name).0 is; hidden_by_none = p.1 },
  sym (some_inside (found_as l) x p.0),
)
step_found name before l scope x false is (inr p) = inr (p.0, (other l name is, p.1))

found_from : (name : Name) (before : Option Found) (scope : List Local) (x : Found) → variable_from name before scope ≡ Some x
    → FoundIn name before scope x
found_from name before [] x is = inr (is, tt)
found_from name before (l ∷ scope) x is =
    step_found name before l scope x (bytes_eq l.name name) refl (found_from name (later name before l) scope x is)

from_list : (name : Name) (scope : List Local) (x : Found) → FoundIn name None scope x → (l : Local) × IsInnermost name scope l × (x ≡ found_as l)
from_list name scope x (inl p) = p
from_list name scope x (inr p) = absurd (none-some x p.0)

pub found_is_innermost : (name : Name) (scope : List Local) (x : Found) → variable name scope ≡ Some x
    → (l : Local) × IsInnermost name scope l × (x ≡ found_as l)
found_is_innermost name scope x is = from_list name scope x (found_from name None scope x is)

-- ---- what is not found

step_none : (name : Name) (before : Option Found) (l : Local) (scope : List Local) (b : Bool) → bytes_eq l.name name ≡ b
    → ((if b then Some (found_as l) else before) ≡ None) × NoVariable name scope → (before ≡ None) × NoVariable name (l ∷ scope)
step_none name before l scope true is p = absurd (none-some (found_as l) (sym p.0))
step_none name before l scope false is p = (p.0, (other l name is, p.1))

none_from : (name : Name) (before : Option Found) (scope : List Local) → variable_from name before scope ≡ None
    → (before ≡ None) × NoVariable name scope
none_from name before [] is = (is, tt)
none_from name before (l ∷ scope) is =
    step_none name before l scope (bytes_eq l.name name) refl (none_from name (later name before l) scope is)

pub unknown_has_none : (name : Name) (scope : List Local) → variable name scope ≡ None → NoVariable name scope
unknown_has_none name scope is = (none_from name None scope is).1

-- ---- where it stands, it is found

differs : (b : Bool) (l : Local) (name : Name) → l.name ≢ name → bytes_eq l.name name ≡ b → b ≡ false
differs true l name free is = absurd (free ((bytes_eq-Decides l.name name).0 is))
differs false l name free is = refl

passed : (name : Name) (before : Option Found) (scope : List Local) → NoVariable name scope → variable_from name before scope ≡ before
passed name before [] free = refl
passed name before (l ∷ scope) free =
    ap (λ b. variable_from name (if b then Some (found_as l) else before) scope) (differs (bytes_eq l.name name) l name free.0 refl)
    ∙ passed name before scope free.1

pub none_is_unknown : (name : Name) (scope : List Local) → NoVariable name scope → variable name scope ≡ None
none_is_unknown name scope free = passed name None scope free

pub cut : (name : Name) (before : Option Found) (outer inner : List Local)
    → variable_from name before (outer ++ inner) ≡ variable_from name (variable_from name before outer) inner
cut name before [] inner = refl
cut name before (l ∷ outer) inner = cut name (later name before l) outer inner

pub innermost_is_found : (name : Name) (scope : List Local) (l : Local) → IsInnermost name scope l → variable name scope ≡ Some (found_as l)
innermost_is_found name scope l i =
    ap (λ z. variable name z) i.stands
    ∙ (cut name None i.outer (l ∷ i.inner)
    ∙ (ap (λ b. variable_from name (if b then Some (found_as l) else variable name i.outer) i.inner) ((bytes_eq-Decides l.name name).1 i.named)
    ∙ passed name (Some (found_as l)) i.inner i.hidden_by_none))
