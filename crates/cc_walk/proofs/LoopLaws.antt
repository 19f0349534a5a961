-- What the loops of an answer have left to do, one step on.
use Rattle.std.proofs.Common.{◌≡◌, ℕ, zero, suc, ◌+◌, ◌<◌, List, [], ◌∷◌, ◌++◌, length, map, drop, get_or, replicate, refl, sym, ap, ◌∙◌, append_assoc, add-zero, add-one, arith}
use Rattle.std.proofs.lemmas.List.{drop_more, drop-map, get_or-drop, map-append}
use Rattle.std.specs.Fmt.{signed_decimal}
use Rattle.global_ptr.specs.declared.values.Value.{Value as RustValue}
use Rattle.cc_ops.specs.Values.{Value, Void, int_of, first, after_first}
use Rattle.cc_ops.specs.Machine.{Address, value_of, cell_of}
use Rattle.cc_ops.specs.declared.cell.Cell.{Cell}
use Rattle.cc_ops.specs.declared.kind.Kind.{Kind}
use Rattle.cc_core.specs.View.{part_of}
use Rattle.cc_core.specs.declared.expression.PrintPart.{PrintPart as TextPart}
use Rattle.cc_core.specs.declared.expression.PrintPart.TheVariants as text
use Rattle.cc_ops.specs.Shelves.{Shelf, put_thing, next_address}
use Rattle.cc_core.specs.Effects.{cells_with, printed}
use Rattle.numbered_runs.specs.Effects.{parameters, put_things, addresses}

pub item_left : {X : Type 0} (xs : List X) (i : ℕ) (x : X) → i < length xs → x ≡ get_or xs i x → drop i xs ≡ x ∷ drop (i + 1) xs
item_left xs i x inside at = drop_more xs i x inside ∙ ap (λ y. y ∷ drop (i + 1) xs) (sym at)

-- The objects of parameters from number k on: the one of these kinds is made, and the others are left.
module _ (q : ℕ) (old new : List Shelf) (params : List (List Kind)) (k : ℕ) (kinds : List Kind) (cells : List Cell) (args rest : List RustValue) where
  left_after : k < length params → kinds ≡ get_or params k kinds → map cell_of cells ≡ cells_with kinds (map value_of args)
      → rest ≡ drop (length kinds) args
      → parameters q (drop k params) (map value_of args) ≡ (q, map cell_of cells) ∷ parameters q (drop (k + 1) params) (map value_of rest)
  left_after inside at made after =
      let vs = map value_of args in
      ap (λ p. parameters q p vs) (item_left params k kinds inside at)
      ∙ ap (λ c. (q, c) ∷ parameters q (drop (k + 1) params) (drop (length kinds) vs)) (sym made)
      ∙ ap (λ v. (q, map cell_of cells) ∷ parameters q (drop (k + 1) params) v) (drop-map value_of (length kinds) args ∙ ap (map value_of) (sym after))

  pub objects_left : k < length params → kinds ≡ get_or params k kinds → map cell_of cells ≡ cells_with kinds (map value_of args)
      → rest ≡ drop (length kinds) args → new ≡ put_thing old q (map cell_of cells)
      → put_things new (parameters q (drop (k + 1) params) (map value_of rest)) ≡ put_things old (parameters q (drop k params) (map value_of args))
  objects_left inside at made after put =
      ap (λ s. put_things s (parameters q (drop (k + 1) params) (map value_of rest))) put ∙ sym (ap (put_things old) (left_after inside at made after))

  pub addresses_left : (found more : List RustValue) (address : RustValue) → k < length params → kinds ≡ get_or params k kinds
      → map cell_of cells ≡ cells_with kinds (map value_of args) → rest ≡ drop (length kinds) args → new ≡ put_thing old q (map cell_of cells)
      → value_of address ≡ next_address old q → more ≡ found ++ address ∷ []
      → map value_of more ++ addresses new (parameters q (drop (k + 1) params) (map value_of rest))
      ≡ map value_of found ++ addresses old (parameters q (drop k params) (map value_of args))
  addresses_left found more address inside at made after put is pushed =
      let left = parameters q (drop (k + 1) params) (map value_of rest) in
      ap (λ m. map value_of m ++ addresses new left) pushed
      ∙ ap (λ m. m ++ addresses new left) (map-append value_of found (address ∷ []))
      ∙ append_assoc (map value_of found) (value_of address ∷ []) (addresses new left)
      ∙ ap (λ v. map value_of found ++ v ∷ addresses new left) is
      ∙ ap (λ s. map value_of found ++ next_address old q ∷ addresses s left) put
      ∙ sym (ap (λ l. map value_of found ++ addresses old l) (left_after inside at made after))

-- ---- what is printed

pub first_left : (vs : List (Value Address)) (n : ℕ) → first (drop n vs) ≡ get_or vs n Void
first_left vs n = get_or-drop n vs 0 Void ∙ ap (λ k. get_or vs k Void) (add-zero n)

pub after_left : (vs : List (Value Address)) (n : ℕ) → after_first (drop n vs) ≡ drop (n + 1) vs
after_left [] zero = refl
after_left [] (suc n) = rw add-one refl
after_left (v ∷ vs) zero = refl
after_left (v ∷ vs) (suc n) = after_left vs n ∙ ap (λ k. drop k (v ∷ vs)) (sym (add-one (n + 1)) ∙ omega arith)

-- From part k on, where `out` is printed before it and `more` after it, and n values are printed before it.
module _ (parts : List TextPart) (vs : List (Value Address)) (k n : ℕ) (part : TextPart) (out more : List ℕ) where
  part_left : k < length parts → part ≡ get_or parts k part → (this : TextPart) → part ≡ this
      → printed (map part_of (drop k parts)) (drop n vs) ≡ printed (part_of this ∷ map part_of (drop (k + 1) parts)) (drop n vs)
  part_left inside at this is =
      ap (λ ps. printed (map part_of ps) (drop n vs)) (item_left parts k part inside at ∙ ap (λ p. p ∷ drop (k + 1) parts) is)

  behind : (text tail rest : List ℕ) → more ≡ out ++ text → text ++ tail ≡ rest → more ++ tail ≡ out ++ rest
  behind text tail rest e same = ap (λ m. m ++ tail) e ∙ append_assoc out text tail ∙ ap (λ t. out ++ t) same

  pub number_left : k < length parts → part ≡ get_or parts k part → part ≡ text.Number → more ≡ out ++ signed_decimal (int_of (get_or vs n Void))
      → more ++ printed (map part_of (drop (k + 1) parts)) (drop (n + 1) vs) ≡ out ++ printed (map part_of (drop k parts)) (drop n vs)
  number_left inside at is e =
      let left = map part_of (drop (k + 1) parts) in
      behind (signed_decimal (int_of (get_or vs n Void))) _ _ e
      (ap (λ ws. signed_decimal (int_of (get_or vs n Void)) ++ printed left ws) (sym (after_left vs n))
      ∙ ap (λ v. signed_decimal (int_of v) ++ printed left (after_first (drop n vs))) (sym (first_left vs n))
      ∙ sym (part_left inside at text.Number is))

  pub text_left : (bytes : List ℕ) → k < length parts → part ≡ get_or parts k part → part ≡ text.Text bytes → more ≡ out ++ bytes
      → more ++ printed (map part_of (drop (k + 1) parts)) (drop n vs) ≡ out ++ printed (map part_of (drop k parts)) (drop n vs)
  text_left bytes inside at is e = behind bytes _ _ e (sym (part_left inside at (text.Text bytes) is))

  pub endl_left : k < length parts → part ≡ get_or parts k part → part ≡ text.Endl → more ≡ out ++ 10 ∷ []
      → more ++ printed (map part_of (drop (k + 1) parts)) (drop n vs) ≡ out ++ printed (map part_of (drop k parts)) (drop n vs)
  endl_left inside at is e = behind (10 ∷ []) _ _ e (sym (part_left inside at text.Endl is))

-- ---- new cells

pub same_cells : (n : ℕ) (c : Cell) → map cell_of (replicate n c) ≡ replicate n (cell_of c)
same_cells zero c = refl
same_cells (suc n) c = ap (λ cs. cell_of c ∷ cs) (same_cells n c)
