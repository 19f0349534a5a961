-- What a shelf holds, where it tells. This project's own.
use Rattle.std.specs.Prelude.{◌≡◌, ◌≢◌, ℕ, List, Option, None, Some, IfSome, IsSomeAnd}

-- the bytes under each name, where there are any
abbrev pub Files : Type 0
Files = List ℕ → Option (List ℕ)

-- it is told what is held, and under this name it is these bytes
abbrev pub Holds : Option Files → List ℕ → List ℕ → Type 0
Holds held name bytes = IsSomeAnd held (λ files. files name ≡ Some bytes)

-- if it is told what is held, it is these bytes under this name
abbrev pub HoldsIfTold : Option Files → List ℕ → List ℕ → Type 0
HoldsIfTold held name bytes = IfSome held (λ files. files name ≡ Some bytes)

-- it is told what is held, and there is nothing under this name
abbrev pub Lacks : Option Files → List ℕ → Type 0
Lacks held name = IsSomeAnd held (λ files. files name ≡ None)

-- as before but for one name: told as before, and the same under each other name
abbrev pub SameButFor : Option Files → Option Files → List ℕ → Type 0
SameButFor None None name = Unit {0}
SameButFor None (Some after) name = ⊥
SameButFor (Some before) None name = ⊥
SameButFor (Some before) (Some after) name = (other : List ℕ) → other ≢ name → after other ≡ before other
