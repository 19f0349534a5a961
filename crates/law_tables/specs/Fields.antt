-- The cells of the fields of a class.
use Rattle.std.specs.Prelude.{◌≡◌, ℕ, ◌+◌, ◌<◌, ◌≤◌, List, [], ◌∷◌, Some, slice_get}
use Rattle.cc_scopes.specs.declared.tables.Member.{Member}
use Rattle.cc_scopes.specs.declared.tables.Member.TheVariants as member
use Rattle.cc_scopes.specs.declared.types.Declared.{Declared}
use Rattle.cc_tables.specs.Tables.{width}

-- the i-th member is a field that is declared so, behind so many cells
abbrev pub IsField : List Member → (i : ℕ) → Declared → (offset : ℕ) → Type 0
IsField members i d offset = slice_get members i ≡ Some (member.Field d offset)

-- the cells of all fields together
abbrev pub cells_of : List Member → ℕ
cells_of [] = 0
cells_of (member.Field d offset ∷ more) = width d.shape + cells_of more
cells_of (member.Method f ∷ more) = cells_of more

-- the k-th cell is one of the field's
abbrev pub HasCell : Declared → (offset : ℕ) → (k : ℕ) → Type 0
HasCell d offset k = (offset ≤ k) × (k < offset + width d.shape)

-- Each field lies within the cells of all, no two fields share a cell, and each cell is one of a field's.
pub record Fill (members : List Member) : Type 0 where
  pub inside : (i : ℕ) (d : Declared) (offset : ℕ) → IsField members i d offset → offset + width d.shape ≤ cells_of members
  pub apart : (i j : ℕ) (d e : Declared) (first second : ℕ) → i < j → IsField members i d first → IsField members j e second
      → first + width d.shape ≤ second
  pub filled : (k : ℕ) → k < cells_of members → (i : ℕ) × (d : Declared) × (offset : ℕ) × IsField members i d offset × HasCell d offset k
