-- Stacks as lists with the last item first.
use Rattle.std.specs.Prelude.{ℕ, List, reverse, take}

-- the topmost items, so many, the last one last
abbrev pub topmost : {A : Type 0} → ℕ → List A → List A
topmost n xs = reverse (take n xs)
