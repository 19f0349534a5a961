-- Where each constant of a program has a value as it is read, it has that value in the tables.
use Rattle.std.proofs.Common.{◌≡◌, ℕ, zero, suc, ◌+◌, ◌<◌, ◌≤◌, ℤ, Bool, true, false, List, [], ◌∷◌, ◌++◌, length, Option, Some, None, refl, sym, ap, subst, ◌∙◌, arith, length-append}
use Rattle.std.specs.Prelude.{slice_get, nat_lt}
use Rattle.std.proofs.lemmas.Bool.{ltb-true, ltb-false}
use Rattle.cc_names.specs.Names.{NameTables}
use Rattle.cc_scopes.specs.declared.state.State.{State}
use Rattle.cc_scopes.specs.declared.tables.Tables.{Tables}
use Rattle.cc_scopes.specs.Elab.{nothing_yet}
use Rattle.cc_scopes.specs.Meaning.{value_in}
use Rattle.cc_tables.specs.Tables.{constants_alone, outside, value_after, constants_from}
use Rattle.cc_tree.specs.declared.declarations.Item.{Item}
use Rattle.cc_tree.specs.declared.declarations.Item.TheVariants as item
use Rattle.cc_tree.specs.declared.expressions.Expr.{Expr}
use Rattle.cc_typing.specs.Whole.{constant}
use Rattle.cc_shared.proofs.ConstantLaws.{constant_same}

-- of each constant, by the number of those before it
abbrev pub EachConstant : (ℕ → Expr → ℕ → Type 0) → ℕ → List Item → Type 0
EachConstant P k [] = Unit {0}
EachConstant P k (item.Const name value line ∷ xs) = P k value line × EachConstant P (k + 1) xs
EachConstant P k (item.Class class ∷ xs) = EachConstant P k xs
EachConstant P k (item.Func f ∷ xs) = EachConstant P k xs

-- the first k of these have values
abbrev pub AreKnown : List (Option ℤ) → ℕ → Type 0
AreKnown values k = (j : ℕ) → nat_lt j k ≡ true → (n : ℤ) × (value_in (slice_get values j) ≡ Some n)

got_before : {A : Type 0} (xs ys : List A) (j : ℕ) → j < length xs → slice_get (xs ++ ys) j ≡ slice_get xs j
got_before [] ys j lt = let e : j < 0 = lt in absurd (omega arith)
got_before (x ∷ xs) ys zero lt = refl
got_before (x ∷ xs) ys (suc j) lt = got_before xs ys j (omega arith)

got_last : {A : Type 0} (xs : List A) (x : A) (j : ℕ) → j ≡ length xs → slice_get (xs ++ x ∷ []) j ≡ Some x
got_last [] x j is = ap (λ n. slice_get (x ∷ []) n) is
got_last (y ∷ xs) x zero is = let e : 0 ≡ suc (length xs) = is in absurd (omega (arith, e))
got_last (y ∷ xs) x (suc j) is = let e : suc j ≡ suc (length xs) = is in got_last xs x j (omega (arith, e))

-- what is known stays
kept_before : (names : NameTables) (before : List (Option ℤ)) (xs : List Item) (j : ℕ) → j < length before
    → slice_get (constants_from names before xs) j ≡ slice_get before j
kept_before names before [] j lt = refl
kept_before names before (item.Const name value line ∷ xs) j lt =
    let v = value_after names (constants_alone before) value line in
    let l : length (before ++ v ∷ []) ≡ length before + 1 = length-append before (v ∷ []) in
    kept_before names (before ++ v ∷ []) xs j (omega (arith, lt, l)) ∙ got_before before (v ∷ []) j lt
kept_before names before (item.Class class ∷ xs) j lt = kept_before names before xs j lt
kept_before names before (item.Func f ∷ xs) j lt = kept_before names before xs j lt

known_case : (before : List (Option ℤ)) (n : ℤ) (j : ℕ) (x : Bool) → nat_lt j (length before) ≡ x → AreKnown before (length before)
    → j < length before + 1 → (z : ℤ) × (value_in (slice_get (before ++ Some n ∷ []) j) ≡ Some z)
known_case before n j true is all below =
    let q = all j is in (q.0, ap value_in (got_before before (Some n ∷ []) j (ltb-true j (length before) is)) ∙ q.1)
known_case before n j false is all below =
    let at_least : length before ≤ j = ltb-false j (length before) is in
    (n, ap value_in (got_last before (Some n) j (omega (arith, at_least, below))))

one_more_known : (before : List (Option ℤ)) (n : ℤ) → AreKnown before (length before) → AreKnown (before ++ Some n ∷ []) (length (before ++ Some n ∷ []))
one_more_known before n all j lt =
    let l : length (before ++ Some n ∷ []) ≡ length before + 1 = length-append before (Some n ∷ []) in
    let below : j < length (before ++ Some n ∷ []) = ltb-true j (length (before ++ Some n ∷ [])) lt in
    known_case before n j (nat_lt j (length before)) refl all (omega (arith, below, l))

none_below : (j : ℕ) → nat_lt j 0 ≡ true → ⊥
none_below j lt = let e : j < 0 = ltb-true j 0 lt in omega (arith, e)

-- the values that a list of constants comes to, from those before
module _ (names : NameTables) (tables : Tables) where
  -- read in the place of a constant, behind so many, its expression has a value, where those before it have one
  abbrev pub HasValue : ℕ → Expr → ℕ → Type 0
  HasValue k value line = AreKnown tables.constants k → (s : State) × (n : ℤ) × ((constant (outside names tables k None line) value s).0 ≡ Some n)

  known_from : (before : List (Option ℤ)) (xs : List Item) → tables.constants ≡ constants_from names before xs → AreKnown before (length before)
      → EachConstant HasValue (length before) xs → AreKnown tables.constants (length tables.constants)
  known_from before [] is all each = subst (λ vs. AreKnown vs (length vs)) (sym is) all
  known_from before (item.Class class ∷ xs) is all each = known_from before xs is all each
  known_from before (item.Func f ∷ xs) is all each = known_from before xs is all each
  known_from before (item.Const name value line ∷ xs) is all each =
      let k = length before in
      let a = outside names tables k None line in
      let b = outside names (constants_alone before) k None line in
      let same : (j : ℕ) → nat_lt j k ≡ true → value_in (slice_get tables.constants j) ≡ value_in (slice_get before j) =
      λ j lt. ap (λ vs. value_in (slice_get vs j)) is
      ∙ ap value_in (kept_before names before (item.Const name value line ∷ xs) j (ltb-true j k lt)) in
      let here : AreKnown tables.constants k = λ j lt. let q = all j lt in (q.0, same j lt ∙ q.1) in
      let q = each.0 here in
      let v : value_after names (constants_alone before) value line ≡ Some q.1 =
      constant_same a b (record { plain = record { names = refl; classes = refl }; known = refl; constants = same }) value q.0 nothing_yet q.1 refl q.2 in
      let l : length (before ++ Some q.1 ∷ []) ≡ k + 1 = length-append before (Some q.1 ∷ []) in
      known_from (before ++ Some q.1 ∷ []) xs
      (is ∙ ap (λ w. constants_from names (before ++ w ∷ []) xs) v)
      (one_more_known before q.1 all)
      (subst (λ n. EachConstant HasValue n xs) (sym l) each.1)

  -- so each constant has one in the tables
  pub constants_known : (xs : List Item) → tables.constants ≡ constants_from names [] xs → EachConstant HasValue 0 xs
      → AreKnown tables.constants (length tables.constants)
  constants_known xs is each = known_from [] xs is (λ j lt. absurd (none_below j lt)) each
