-- The places of variables: what one more variable changes, and that a look-up by place finds the variable.
use Rattle.std.proofs.Common.{◌≡◌, ℕ, zero, suc, ◌+◌, ◌≤◌, Bool, true, false, ◌||◌, if◌then◌else◌, List, [], ◌∷◌, ◌++◌, length, drop, Option, Some, None, is_some, refl, sym, ap, ◌∙◌, arith, append_assoc, append-nil, bytes_eq, slice_get, nat_le}
use Rattle.cc_scopes.specs.declared.locals.Entry.{Entry}
use Rattle.cc_scopes.specs.declared.scope.Found.{Found}
use Rattle.cc_scopes.specs.declared.state.Local.{Local}
use Rattle.cc_scopes.specs.Places.{place, place_from, locals_of, HideFrom}
use Rattle.cc_names.specs.Table.{Name}
use Rattle.cc_scopes.specs.Scope.{found_as, later, variable, variable_from}

-- ---- one more variable

pub place_from_push : (name : Name) (n : ℕ) (found : Option ℕ) (ls : List Local) (l : Local)
    → place_from name n found (ls ++ l ∷ []) ≡ (if bytes_eq l.name name then Some (n + length ls) else place_from name n found ls)
place_from_push name n found [] l = ap (λ k. if bytes_eq l.name name then Some k else found) (omega arith)
place_from_push name n found (x ∷ xs) l =
    place_from_push name (suc n) (if bytes_eq x.name name then Some n else found) xs l
    ∙ ap (λ k. if bytes_eq l.name name then Some k else place_from name (suc n) (if bytes_eq x.name name then Some n else found) xs) (omega arith)

pub place_push : (name : Name) (ls : List Local) (l : Local)
    → place name (ls ++ l ∷ []) ≡ (if bytes_eq l.name name then Some (length ls) else place name ls)
place_push name ls l = place_from_push name 0 None ls l ∙ ap (λ k. if bytes_eq l.name name then Some k else place name ls) (omega arith)

pub locals_push : (es : List Entry) (e : Entry) → locals_of (es ++ e ∷ []) ≡ locals_of es ++ e.local ∷ []
locals_push [] e = refl
locals_push (x ∷ xs) e = ap (λ ls. x.local ∷ ls) (locals_push xs e)

pub locals_length : (es : List Entry) → length (locals_of es) ≡ length es
locals_length [] = refl
locals_length (x ∷ xs) = ap suc (locals_length xs)

pub hide_push : (before : List Local) (es : List Entry) (e : Entry) → HideFrom before es
    → e.hides ≡ place e.local.name (before ++ locals_of es) → HideFrom before (es ++ e ∷ [])
hide_push before [] e kept hides = (hides ∙ ap (place e.local.name) (append-nil before), tt)
hide_push before (x ∷ xs) e kept hides = (
  kept.0,
  hide_push (before ++ x.local ∷ []) xs e kept.1
      (hides ∙ ap (place e.local.name) (sym (append_assoc before (x.local ∷ []) (locals_of xs)))),
)

pub hide_pop : (before : List Local) (es : List Entry) (e : Entry) → HideFrom before (es ++ e ∷ [])
    → HideFrom before es × (e.hides ≡ place e.local.name (before ++ locals_of es))
hide_pop before [] e kept = (tt, kept.0 ∙ ap (place e.local.name) (sym (append-nil before)))
hide_pop before (x ∷ xs) e kept =
    let rest = hide_pop (before ++ x.local ∷ []) xs e kept.1 in
    ((kept.0, rest.0), rest.1 ∙ ap (place e.local.name) (append_assoc before (x.local ∷ []) (locals_of xs)))

-- ---- the variable at a place

abbrev pub at_item : Option Local → Option Found
at_item None = None
at_item (Some l) = Some (found_as l)

abbrev pub at : List Local → Option ℕ → Option Found
at ls None = None
at ls (Some p) = at_item (slice_get ls p)

module _ {A : Type 0} where
  abbrev pub head : List A → Option A
  head [] = None
  head (x ∷ xs) = Some x

  abbrev pub tail : List A → List A
  tail [] = []
  tail (x ∷ xs) = xs

  -- what stands at a place is the first of the rest from there
  pub first_of_drop : (whole : List A) (n : ℕ) (x : A) (xs : List A) → drop n whole ≡ x ∷ xs → (slice_get whole n ≡ Some x) × (drop (suc n) whole ≡ xs)
  first_of_drop [] zero x xs here = grind arith
  first_of_drop [] (suc n) x xs here = grind arith
  first_of_drop (y ∷ ys) zero x xs here = (ap head here, ap tail here)
  first_of_drop (y ∷ ys) (suc n) x xs here = first_of_drop ys n x xs here

module _ (name : Name) (whole : List Local) where
  later_at : (n : ℕ) (found : Option ℕ) (l : Local) → slice_get whole n ≡ Some l
      → later name (at whole found) l ≡ at whole (if bytes_eq l.name name then Some n else found)
  later_at n found l here = by (bytes_eq l.name name)
    where
      by : (b : Bool) → (if b then Some (found_as l) else at whole found) ≡ at whole (if b then Some n else found)
      by true = sym (ap at_item here)
      by false = refl

  variable_from_at : (n : ℕ) (found : Option ℕ) (ls : List Local) → drop n whole ≡ ls
      → variable_from name (at whole found) ls ≡ at whole (place_from name n found ls)
  variable_from_at n found [] rest = refl
  variable_from_at n found (l ∷ ls) rest =
      let first = first_of_drop whole n l ls rest in
      ap (λ v. variable_from name v ls) (later_at n found l first.0)
      ∙ variable_from_at (suc n) (if bytes_eq l.name name then Some n else found) ls first.1

  -- the latest variable of a name stands at its place
  pub variable_at : variable name whole ≡ at whole (place name whole)
  variable_at = variable_from_at 0 None whole refl

-- ---- whether a variable is in scope behind the first n

abbrev pub is_behind : ℕ → Option ℕ → Bool
is_behind n None = false
is_behind n (Some p) = nat_le n p

module _ (name : Name) where
  abbrev pub any_named : List Local → Bool
  any_named [] = false
  any_named (l ∷ ls) = bytes_eq l.name name || any_named ls

  found_or_named : (found : Option Found) (ls : List Local) → is_some (variable_from name found ls) ≡ is_some found || any_named ls
  found_or_named None [] = refl
  found_or_named (Some f) [] = refl
  found_or_named found (l ∷ ls) = found_or_named (later name found l) ls ∙ by found (bytes_eq l.name name)
    where
      by : (found : Option Found) (b : Bool)
          → is_some (if b then Some (found_as l) else found) || any_named ls ≡ is_some found || (b || any_named ls)
      by None true = refl
      by None false = refl
      by (Some f) true = refl
      by (Some f) false = refl

  behind_or_named : (m n : ℕ) (found : Option ℕ) (ls : List Local) → m ≤ n
      → is_behind m (place_from name n found ls) ≡ is_behind m found || any_named ls
  behind_or_named m n found [] fits = by (is_behind m found)
    where
      by : (b : Bool) → b ≡ b || false
      by true = refl
      by false = refl
  behind_or_named m n found (l ∷ ls) fits =
      behind_or_named m (suc n) (if bytes_eq l.name name then Some n else found) ls (omega (arith, fits)) ∙ by (bytes_eq l.name name)
    where
      by : (b : Bool) → is_behind m (if b then Some n else found) || any_named ls ≡ is_behind m found || (b || any_named ls)
      by true = grind (arith, fits)
      by false = refl

  behind_named : (s n : ℕ) (found : Option ℕ) (ls : List Local) → is_behind (n + s) found ≡ false
      → is_behind (n + s) (place_from name n found ls) ≡ any_named (drop s ls)
  behind_named zero n found ls before =
      behind_or_named (n + 0) n found ls (omega arith) ∙ ap (λ b. b || any_named ls) before
  behind_named (suc s) n found [] before = before
  behind_named (suc s) n found (l ∷ ls) before =
      ap (λ m. is_behind m (place_from name (suc n) next ls)) (omega arith) ∙ behind_named s (suc n) next ls (by (bytes_eq l.name name))
    where
      next : Option ℕ
      next = if bytes_eq l.name name then Some n else found

      by : (b : Bool) → is_behind (suc n + s) (if b then Some n else found) ≡ false
      by true = grind arith
      by false = ap (λ m. is_behind m found) (omega arith) ∙ before

  -- the place of the latest variable tells whether one is in scope behind the first s
  pub behind : (s : ℕ) (ls : List Local) → is_some (variable name (drop s ls)) ≡ is_behind s (place name ls)
  behind s ls = found_or_named None (drop s ls) ∙ sym (behind_named s 0 None ls refl) ∙ ap (λ m. is_behind m (place name ls)) (omega arith)
