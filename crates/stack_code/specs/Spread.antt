-- How depths are spread from the entries of the functions on.
use Rattle.std.specs.Prelude.{◌≡◌, ◌⊎◌, ℕ, suc, ◌+◌, ◌*◌, ◌<◌, List, [], ◌∷◌, ◌++◌, if◌then◌else◌, Option, Some, None, length, get_or, slice_get, slice_set}
use Rattle.cc_code.specs.Code.{Instr, Placed, Code, entry}
use Rattle.cc_code.specs.Depth.{less, raised, deeper}
use Rattle.cc_code.specs.declared.depth.Depth.{Depth}
use Rattle.cc_code.specs.declared.depth.Depth.TheVariants.{Exactly, Several}
use Rattle.cc_code.specs.Valid.{Way, ways, taken, given, goes_on, same_function, Leads, Reached}
use Rattle.stack_code.specs.declared.depths.Depths.{Depths}

-- the depth that is known of each place, and the places that have not yet handed on theirs
pub record Spread : Type 0 where
  pub known : List (Option Depth)
  pub pending : List ℕ

abbrev pub spread_of : Depths → Spread
spread_of d = record { known = d.known.items; pending = d.pending.items }

abbrev pub known_at : Spread → ℕ → Option Depth
known_at s b = get_or s.known b None

abbrev pub raised_to : Spread → ℕ → Option Depth → Spread
raised_to s to None = s
raised_to s to (Some d) = record { known = slice_set s.known to (Some d); pending = s.pending ++ to ∷ [] }

-- a place is reached with a depth
abbrev pub arrived : Spread → ℕ → Depth → Spread
arrived s to d = raised_to s to (raised (known_at s to) d)

-- each way that stays in the function of place b
abbrev pub gone : Code → ℕ → Spread → List Way → Spread
gone code b s [] = s
gone code b s (way ∷ more) = gone code b (if same_function code b way.0 then arrived s way.0 way.1 else s) more

-- the way to the next place, where the instruction goes on
abbrev pub next_way : ℕ → Instr → (rest : Depth) → List Way
next_way b i rest = if goes_on i then (suc b, deeper rest (given i)) ∷ [] else []

abbrev pub gone_with : Code → ℕ → Spread → Instr → Option Depth → Spread
gone_with code b s i None = s
gone_with code b s i (Some rest) = gone code b s (ways b i rest)

-- place b hands on its depth
abbrev pub handed_on : Code → ℕ → Spread → Option Placed → Option Depth → Spread
handed_on code b s None d = s
handed_on code b s (Some i) None = s
handed_on code b s (Some i) (Some d) = gone_with code b s i.instr (less (taken code.shapes i.instr) d)

abbrev pub handed : Code → ℕ → Spread → Spread
handed code b s = handed_on code b s (slice_get code.places b) (known_at s b)

-- a place of which this is known needs not be told that it is reached with a depth
abbrev pub Covers : Option Depth → Depth → Type 0
Covers None e = ⊥
Covers (Some Several) e = Unit {0}
Covers (Some (Exactly a)) e = Exactly a ≡ e

-- a place waits to hand on its depth
abbrev pub Waits : List ℕ → ℕ → Type 0
Waits [] b = ⊥
Waits (p ∷ ps) b = (p ≡ b) ⊎ Waits ps b

-- each place whose depth is known waits, or has handed it on; so many functions have begun
pub record IsSpread (code : Code) (s : Spread) (functions : ℕ) : Type 0 where
  pub size : length s.known ≡ length code.places
  pub inside : (b : ℕ) → Waits s.pending b → b < length code.places
  pub sound : (b : ℕ) (d : Depth) → known_at s b ≡ Some d → Reached code b d
  pub handed : (b : ℕ) (d : Depth) → known_at s b ≡ Some d → Waits s.pending b ⊎ ((c : ℕ) (e : Depth) → Leads code b d c e → Covers (known_at s c) e)
  pub begun : (f : ℕ) → f < functions → entry code f < length code.places → Covers (known_at s (entry code f)) (Exactly 0)

-- work that is left

abbrev pub room : Option Depth → ℕ
room None = 2
room (Some (Exactly a)) = 1
room (Some Several) = 0

abbrev pub slack : List (Option Depth) → ℕ
slack [] = 0
slack (k ∷ ks) = room k + slack ks

abbrev pub work : Spread → ℕ
work s = 2 * slack s.known + length s.pending
