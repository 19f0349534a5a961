-- The first number that something holds of.
use Rattle.std.specs.Prelude.{ℕ, ◌<◌, min, Option, Some, None}

-- it holds of no number, or it holds of this one first
abbrev pub IsFirst : (ℕ → Type 0) → Option ℕ → Type 0
IsFirst P None = (b : ℕ) → ¬ P b
IsFirst P (Some at) = P at × ((b : ℕ) → b < at → ¬ P b)

abbrev pub earlier : Option ℕ → Option ℕ → Option ℕ
earlier None b = b
earlier (Some a) None = Some a
earlier (Some a) (Some b) = Some (min a b)
