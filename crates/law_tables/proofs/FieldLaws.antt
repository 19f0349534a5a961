-- Fields behind one another fill their object.
use Rattle.std.proofs.Common.{◌≡◌, ℕ, zero, suc, ◌+◌, ◌<◌, ◌≤◌, List, [], ◌∷◌, ◌⊎◌, inl, inr, Some, None, refl, sym, ap, subst, arith}
use Rattle.std.proofs.lemmas.Option.{none-some}
use Rattle.cc_scopes.specs.Scope.{Context}
use Rattle.cc_scopes.specs.declared.tables.Member.{Member as Entry}
use Rattle.cc_scopes.specs.declared.tables.Member.TheVariants as entry
use Rattle.cc_scopes.specs.declared.types.Declared.{Declared}
use Rattle.cc_tables.specs.Tables.{width, field_of, members_from, class_of}
use Rattle.cc_tree.specs.declared.declarations.ClassDecl.{ClassDecl}
use Rattle.cc_tree.specs.declared.declarations.Member.{Member}
use Rattle.cc_tree.specs.declared.declarations.Member.TheVariants as member
use Rattle.law_tables.specs.Fields.{IsField, cells_of, HasCell, Fill}

-- each field begins where the one before it ends
abbrev InRow : ℕ → List Entry → Type 0
InRow start [] = Unit {0}
InRow start (entry.Field d offset ∷ more) = (offset ≡ start) × InRow (start + width d.shape) more
InRow start (entry.Method f ∷ more) = InRow start more

members_in_row : (cx : Context) (start f : ℕ) (ms : List Member) → InRow start (members_from cx start f ms)
members_in_row cx start f [] = tt
members_in_row cx start f (member.Field d ∷ ms) = (refl, members_in_row cx (start + width (field_of cx d).shape) f ms)
members_in_row cx start f (member.Func function ∷ ms) = members_in_row cx start (f + 1) ms
members_in_row cx start f (member.Build name params body line ∷ ms) = members_in_row cx start f ms

some_inside : {A : Type 0} (x y : A) → Some x ≡ Some y → x ≡ y
some_inside {A = A} x y is = ap (λ o. elim o as (λ z. A) [ None ↦ x | Some z ↦ z ]) is

-- the offset and the width of a field
abbrev offset_of : Entry → ℕ
offset_of (entry.Field d offset) = offset
offset_of (entry.Method f) = 0

abbrev width_of : Entry → ℕ
width_of (entry.Field d offset) = width d.shape
width_of (entry.Method f) = 0

abbrev IsAField : Entry → Type 0
IsAField (entry.Field d offset) = Unit {0}
IsAField (entry.Method f) = ⊥

no_field : (f : _) (d : Declared) (offset : ℕ) → Some (entry.Method f) ≡ Some (entry.Field d offset) → ⊥
no_field f d offset is = subst IsAField (sym (some_inside _ _ is)) tt

-- ---- within the cells of all

bounded : (start : ℕ) (es : List Entry) → InRow start es → (i : ℕ) (d : Declared) (offset : ℕ) → IsField es i d offset
    → (start ≤ offset) × (offset + width d.shape ≤ start + cells_of es)
bounded start [] row i d offset is = absurd (none-some _ is)
bounded start (entry.Method f ∷ es) row zero d offset is = absurd (no_field f d offset is)
bounded start (entry.Method f ∷ es) row (suc i) d offset is = bounded start es row i d offset is
bounded start (entry.Field e at ∷ es) row zero d offset is =
    let same_offset : at ≡ offset = ap offset_of (some_inside _ _ is) in
    let same_width : width e.shape ≡ width d.shape = ap width_of (some_inside _ _ is) in
    let first : at ≡ start = row.0 in
    (omega (arith, same_offset, first), omega (arith, same_offset, same_width, first))
bounded start (entry.Field e at ∷ es) row (suc i) d offset is =
    let b = bounded (start + width e.shape) es row.1 i d offset is in
    let low : start + width e.shape ≤ offset = b.0 in
    let high : offset + width d.shape ≤ start + width e.shape + cells_of es = b.1 in
    (omega (arith, low), omega (arith, high))

-- ---- apart

separate : (start : ℕ) (es : List Entry) → InRow start es → (i j : ℕ) (d e : Declared) (first second : ℕ) → i < j → IsField es i d first
    → IsField es j e second → first + width d.shape ≤ second
separate start [] row i j d e first second lt is at = absurd (none-some _ is)
separate start (x ∷ es) row i zero d e first second lt is at = let no : i < 0 = lt in absurd (omega (arith, no))
separate start (entry.Method f ∷ es) row zero (suc j) d e first second lt is at = absurd (no_field f d first is)
separate start (entry.Method f ∷ es) row (suc i) (suc j) d e first second lt is at =
    separate start es row i j d e first second (let l : suc i < suc j = lt in omega (arith, l)) is at
separate start (entry.Field x o ∷ es) row zero (suc j) d e first second lt is at =
    let b = bounded (start + width x.shape) es row.1 j e second at in
    let low : start + width x.shape ≤ second = b.0 in
    let same_offset : o ≡ first = ap offset_of (some_inside _ _ is) in
    let same_width : width x.shape ≡ width d.shape = ap width_of (some_inside _ _ is) in
    let begins : o ≡ start = row.0 in
    omega (arith, low, same_offset, same_width, begins)
separate start (entry.Field x o ∷ es) row (suc i) (suc j) d e first second lt is at =
    separate (start + width x.shape) es row.1 i j d e first second (let l : suc i < suc j = lt in omega (arith, l)) is at

-- ---- no cell left over

abbrev Cell : List Entry → ℕ → Type 0
Cell es k = (i : ℕ) × (d : Declared) × (offset : ℕ) × IsField es i d offset × HasCell d offset k

further : (x : Entry) (es : List Entry) (k : ℕ) → Cell es k → Cell (x ∷ es) k
further x es k c = (suc c.0, c.1, c.2, c.3, c.4)

below_or_not : (k n : ℕ) → (k < n) ⊎ (n ≤ k)
below_or_not k zero = inr (omega arith)
below_or_not zero (suc n) = inl (omega arith)
below_or_not (suc k) (suc n) = elim (below_or_not k n) [ inl l ↦ inl (let a : k < n = l in omega (arith, a)) | inr r ↦ inr (let a : n ≤ k = r in omega (arith, a)) ]

first_cell : (start : ℕ) (d : Declared) (o : ℕ) (es : List Entry) → o ≡ start → (k : ℕ) → start ≤ k → k < start + width d.shape
    → Cell (entry.Field d o ∷ es) k
first_cell start d o es begins k low high = (0, d, o, refl, (omega (arith, low, begins), omega (arith, high, begins)))

cell_of : (start : ℕ) (es : List Entry) → InRow start es → (k : ℕ) → start ≤ k → k < start + cells_of es → Cell es k
cell_of start [] row k low high = absurd (omega (arith, low, high))
cell_of start (entry.Method f ∷ es) row k low high = further (entry.Method f) es k (cell_of start es row k low high)
cell_of start (entry.Field d o ∷ es) row k low high = elim (below_or_not k (start + width d.shape)) [
  | inl l ↦ first_cell start d o es row.0 k low l
  | inr r ↦ further (entry.Field d o) es k (cell_of (start + width d.shape) es row.1 k r (omega (arith, high)))
]

row_fills : (es : List Entry) → InRow 0 es → Fill es
row_fills es row = record {
  inside = λ i d offset is. let b = bounded 0 es row i d offset is in let high : offset + width d.shape ≤ 0 + cells_of es = b.1 in omega (arith, high);
  apart = λ i j d e first second lt is at. separate 0 es row i j d e first second lt is at;
  filled = λ k lt. cell_of 0 es row k (omega arith) (let l : k < cells_of es = lt in omega (arith, l));
}

pub fields_fill : (cx : Context) (functions : ℕ) (c : ClassDecl) → Fill (class_of cx functions c).members
fields_fill cx functions c = row_fills (class_of cx functions c).members (members_in_row cx 0 functions c.members)
