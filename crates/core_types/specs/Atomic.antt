-- Threads inside atomic functions.
use Rattle.std.specs.Prelude.{◌≡◌, ◌⊎◌, ℕ, true, List, [], ◌∷◌}
use Rattle.cc_core.specs.Names.{Value}
use Rattle.cc_core.specs.Core.{Program}
use Rattle.core_types.specs.Typing.{is_atomic}

-- the functions that a thread is inside, each with its object, the innermost first
abbrev pub Entered : Type 0
Entered = List (ℕ × Value)

-- one of the functions is atomic
abbrev pub IsInAtomic : Program → Entered → Type 0
IsInAtomic p [] = ⊥
IsInAtomic p (g ∷ gs) = (is_atomic p g.0 ≡ true) ⊎ IsInAtomic p gs
